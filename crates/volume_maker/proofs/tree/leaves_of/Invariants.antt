use Rattle.std.proofs.Common.{◌-◌, length, map}
use Rattle.std.specs.Option.{option_copied}
use Rattle.volume_maker.specs.Remade.{IsRemade, old_blocks}
use Rattle.volume_maker.proofs.tree.leaves_of.Given as goal

abbrev pub invariant-loop-from : goal.invariant-loop-from
invariant-loop-from l =
    IsRemade l.generation (old_blocks (option_copied l.old)) l.fn.space (map (λ b. b.at) l.leaves.items) l.space

abbrev pub decreases-loop-from : goal.decreases-loop-from
decreases-loop-from l = length l.items - l.from
