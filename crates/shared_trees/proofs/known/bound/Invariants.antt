use Rattle.std.proofs.Common.{◌≡◌, drop}
use Rattle.tree_laws.specs.Keeping.{bound_of}
use Rattle.shared_trees.proofs.known.bound.Given as goal

-- the children that are left decide
abbrev pub invariant-loop-start : goal.invariant-loop-start
invariant-loop-start l = bound_of (drop l.start-index l.starts) l.last ≡ bound_of l.starts l.last
