use Rattle.std.proofs.Common.{map}
use Rattle.tree_change.specs.Gathered.{located_item}
use Rattle.tree_change.proofs.Merges.{merged_chunks, ok_then}
use Rattle.tree_change.proofs.merge.merge_chunks.Goals as goal

pub returns : goal.returns
returns c =
    ok_then _ _ c.map_of.result
    (λ some fit. merged_chunks c.new-chunks.result.items c.args.old.now c.chunks.result.now c.keep_chunks.new.into.items
    c.add_chunks.new.into.items
    c.sort_chunks.new.chunks.items c.deref.result.now some c.in_ok-starts.starts (map located_item c.args.gone.now) (map located_item c.args.came.now)
    c.new-chunks.ensures.items c.chunks.ensures c.in_ok-starts.ensures c.in_ok-keep_chunks.ensures c.in_ok-add_chunks.ensures
    c.sort_chunks.ensures c.deref.ensures.value fit)
    c.map_of.ensures
