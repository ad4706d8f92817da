use Rattle.std.proofs.Common.{◌≡◌}
use Rattle.image_maker.specs.Maker.{nodesize_of}
use Rattle.volume_maker.proofs.block.new_leaf.Given as goal

abbrev pub invariant-loop-item : goal.invariant-loop-item
invariant-loop-item l = nodesize_of l.leaf ≡ 16384
