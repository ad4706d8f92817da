use Rattle.volume_maker.specs.Live.{all_blocks}
use Rattle.volume_maker.specs.Remade.{IsRemade}
use Rattle.volume_maker.proofs.trees.Trees.make_subvolumes.Given as goal

abbrev pub invariant-loop-subvolume : goal.invariant-loop-subvolume
invariant-loop-subvolume l = IsRemade l.generation (all_blocks l.fn.self) l.fn.space (all_blocks l.self) l.space
