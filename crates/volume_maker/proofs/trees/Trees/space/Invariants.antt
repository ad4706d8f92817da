use Rattle.std.proofs.Common.{take}
use Rattle.std.specs.List.{All}
use Rattle.volume_maker.specs.Remade.{IsBusy}
use Rattle.volume_maker.proofs.trees.Trees.space.Given as goal

-- the blocks so far are in use
abbrev pub invariant-loop-block : goal.invariant-loop-block
invariant-loop-block l = All (λ b. IsBusy l.space b.number) (take l.block-index l.block-items)
