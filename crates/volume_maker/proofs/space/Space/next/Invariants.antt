use Rattle.std.proofs.Common.{take}
use Rattle.std.specs.List.{AllPass}
use Rattle.volume_maker.proofs.space.Space.next.Given as goal

-- the blocks so far are in use
abbrev pub invariant-loop-number : goal.invariant-loop-number
invariant-loop-number l = AllPass (λ busy. busy) (take l.number l.busy-items)
