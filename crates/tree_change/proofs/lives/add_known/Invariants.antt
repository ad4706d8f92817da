use Rattle.std.proofs.Common.{◌≡◌, ◌+◌, ◌≤◌, ◌++◌, take}
use Rattle.live_index.specs.Table.{pairs_of}
use Rattle.tree_change.specs.Walks.{pairs_at}
use Rattle.tree_change.proofs.lives.add_known.Given as goal

-- the pairs of the blocks so far are added, at one look for each
abbrev pub invariant-loop-block : goal.invariant-loop-block
invariant-loop-block g l = record {
  puts : l.into.items ≡ l.initial.into.items ++ pairs_at (pairs_of l.table) (take l.block-index l.blocks);
  looks : l.steps ≤ l.initial.steps + l.block-index;
}
