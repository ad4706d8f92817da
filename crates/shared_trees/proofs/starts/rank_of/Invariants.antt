use Rattle.std.proofs.Common.{◌≡◌, ◌+◌, drop}
use Rattle.tree_laws.specs.Listing.{rank_of}
use Rattle.shared_trees.proofs.starts.rank_of.Given as goal

-- all that were looked at come before it
abbrev pub invariant-loop-i : goal.invariant-loop-i
invariant-loop-i l = rank_of l.start l.starts ≡ l.i + rank_of l.start (drop l.i l.starts)
