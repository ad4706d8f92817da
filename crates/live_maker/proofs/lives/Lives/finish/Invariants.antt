use Rattle.std.proofs.Common.{◌≡◌, ◌+◌, ◌≤◌, List, ◌++◌, length, reverse}
use Rattle.live_index.specs.Table.{pairs_of}
use Rattle.live_index.specs.declared.live.Live.{Live}
use Rattle.tree_laws.specs.LivePairs.{table_of}
use Rattle.live_maker.specs.Opened.{finished}
use Rattle.live_maker.proofs.Behind.{Alike}
use Rattle.live_maker.proofs.lives.Lives.finish.Given as goal

-- the pairs behind those that are left are closed and put, each by one look
abbrev pub invariant-loop-pair : goal.invariant-loop-pair
invariant-loop-pair g l =
    (rest : List Live) × (l.initial.self.pairs.items ≡ l.self.pairs.items ++ rest) × (pairs_of l.table ≡ table_of (finished rest))
    × Alike (reverse l.behind.items) rest × (l.steps ≤ l.initial.steps + length rest)

abbrev pub decreases-loop-pair : goal.decreases-loop-pair
decreases-loop-pair g l = length l.self.pairs.items
