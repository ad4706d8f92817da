use Rattle.std.proofs.Common.{◌≡◌, ◌+◌, ◌≤◌, take}
use Rattle.live_index.specs.Table.{pairs_of}
use Rattle.live_maker.specs.Tables.{with_pairs}
use Rattle.live_maker.proofs.tables.put_pairs.Given as goal

-- the pairs so far are put, each by one look
abbrev pub invariant-loop-live : goal.invariant-loop-live
invariant-loop-live g l = record {
  pairs : pairs_of l.table ≡ with_pairs (pairs_of l.initial.table) (take l.live-index l.lives);
  looks : l.steps ≤ l.initial.steps + l.live-index;
}
