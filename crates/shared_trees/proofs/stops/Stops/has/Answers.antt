use Rattle.std.proofs.Common.{◌∙◌, subst}
use Rattle.std.specs.Ordering.{nat_cmp}
use Rattle.std.specs.List.Sorted.{IsBinarySearchResult}
use Rattle.tree_laws.proofs.Stopping.{search_has}
use Rattle.shared_trees.proofs.stops.Stops.has.Goals as goal

pub returns : goal.returns
returns c =
    c.is_ok.ensures.value
    ∙ search_has c.args.self.now.addresses.items c.args.address c.binary_search.result c.args.self.now.order
    (subst (λ xs. IsBinarySearchResult (λ y. nat_cmp y c.args.address) xs c.binary_search.result) c.deref.ensures.value c.binary_search.ensures.position)
