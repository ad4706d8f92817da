use Rattle.std.proofs.Common.{map}
use Rattle.tree_change.specs.Gathered.{located_item}
use Rattle.tree_change.proofs.Merges.{merged_roots}
use Rattle.tree_change.proofs.merge.merge_roots.Goals as goal

pub returns : goal.returns
returns c =
    merged_roots c.new-roots.result.items c.args.old.now c.keep_roots.new.into.items c.add_roots.new.into.items c.sort_roots.new.roots.items
    c.in_ok-keys.keys
    (map located_item c.args.gone.now) (map located_item c.args.came.now)
    c.new-roots.ensures.items c.in_ok-keys.ensures c.in_ok-keep_roots.ensures c.in_ok-add_roots.ensures c.sort_roots.ensures
