use Rattle.std.proofs.Common.{◌≡◌, ◌++◌, take}
use Rattle.std.specs.List.{flat_map}
use Rattle.volume_maker.specs.Live.{blocks_of}
use Rattle.volume_maker.proofs.trees.Trees.kept_blocks.Given as goal

abbrev pub invariant-loop-tree : goal.invariant-loop-tree
invariant-loop-tree l = l.blocks.items ≡ l.initial.blocks.items ++ flat_map blocks_of (take l.tree-index l.tree-items)
