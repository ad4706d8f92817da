use Rattle.std.proofs.Common.{subst}
use Rattle.std.proofs.lemmas.List.Sorted.{IsNonDecreasingBy-from_sort}
use Rattle.std.specs.List.Sorted.{IsPermutation}
use Rattle.tree_laws.proofs.Stopping.{same_in_order}
use Rattle.shared_trees.proofs.stops.Stops.new.Goals as goal

pub invariant_of-result : goal.invariant_of-result
invariant_of-result c = record {
  same = same_in_order c.args.met.now c.sort_unstable.new.self.items
      (subst (λ xs. IsPermutation xs c.sort_unstable.new.self.items) c.in_ok-addresses.ensures c.sort_unstable.ensures.permutation);
  order = IsNonDecreasingBy-from_sort (λ address. address) c.sort_unstable.new.self.items c.sort_unstable.ensures.sorted;
}
