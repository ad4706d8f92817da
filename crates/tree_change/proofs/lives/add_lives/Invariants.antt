use Rattle.std.proofs.Common.{◌≡◌, ◌++◌, take}
use Rattle.tree_change.specs.Leaves.{last_in, lives_by}
use Rattle.tree_change.proofs.lives.add_lives.Given as goal

-- the pairs of the blocks so far are added
abbrev pub invariant-loop-block : goal.invariant-loop-block
invariant-loop-block l = l.into.items ≡ l.initial.into.items ++ lives_by (last_in l.lasts) (take l.block-index l.blocks)
