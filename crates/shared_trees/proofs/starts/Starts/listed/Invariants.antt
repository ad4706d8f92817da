use Rattle.std.proofs.Common.{◌+◌, ◌*◌, ◌≤◌, take}
use Rattle.live_index.specs.Table.{pairs_of}
use Rattle.touched_blocks.specs.Marks.{marked_in}
use Rattle.tree_laws.specs.Listed.{AreListedBy}
use Rattle.shared_trees.specs.Under.{under_of}
use Rattle.shared_trees.proofs.starts.Starts.listed.Given as goal

-- the children of the marks so far are listed
abbrev pub invariant-loop-place : goal.invariant-loop-place
invariant-loop-place g l = record {
  listed : AreListedBy (pairs_of l.table) (marked_in (take l.place-index l.place-items)) (under_of l.starts);
  looks : l.steps ≤ l.initial.steps + 3 * l.place-index;
}
