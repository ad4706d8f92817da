use Rattle.std.proofs.Common.{◌≡◌, map, drop}
use Rattle.std.specs.List.{fold}
use Rattle.plain_check.specs.Kept.{kept_seen}
use Rattle.plain_check.proofs.kept.KeptRecords.give.Given as goal

-- what is left of the records makes what all of them make
abbrev pub invariant-loop-one : goal.invariant-loop-one
invariant-loop-one g l =
    fold g.T.Taker.with (g.T.Taker.held l.into) (map kept_seen (drop l.one-index l.one-items))
    ≡ fold g.T.Taker.with (g.T.Taker.held l.fn.into) (map kept_seen l.one-items)
