use Rattle.std.proofs.Common.{◌≡◌, ℕ, take}
use Rattle.tree_change.specs.AllTrees.{root_named}
use Rattle.tree_change.specs.Roots.{named_in}
use Rattle.tree_change.proofs.roots.ids_of.Given as goal

-- those so far are named
abbrev pub invariant-loop-root : goal.invariant-loop-root
invariant-loop-root l = (id : ℕ) → named_in l.ids id ≡ root_named (take l.root-index l.roots) id
