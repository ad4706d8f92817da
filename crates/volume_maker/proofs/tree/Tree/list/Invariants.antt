use Rattle.std.proofs.Common.{◌≡◌, ◌++◌, map, take}
use Rattle.volume_maker.proofs.tree.Tree.list.Given as goal

abbrev pub invariant-loop-leaf : goal.invariant-loop-leaf
invariant-loop-leaf l = l.into.items ≡ l.fn.into.items ++ map (λ b. b.at) (take l.leaf-index l.leaf-items)
