use Rattle.std.specs.List.{All}
use Rattle.volume_maker.specs.Remade.{IsFree}
use Rattle.volume_maker.proofs.space.Space.next_of.Given as goal

abbrev pub invariant-loop-number : goal.invariant-loop-number
invariant-loop-number l = All (IsFree l.busy-items) l.numbers.items
