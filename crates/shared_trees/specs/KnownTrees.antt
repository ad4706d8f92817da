-- Which blocks are kept by what is known of a tree as it was.
use Rattle.std.specs.Prelude.{ℕ, Bool, Some}
use Rattle.std.specs.Borrow.{GName}
use Rattle.live_index.specs.Pairs.{Pairs}
use Rattle.live_index.specs.Table.{pairs_of}
use Rattle.touched_blocks.specs.Marks.{marked_by}
use Rattle.touched_blocks.specs.Moves.{move_passes}
use Rattle.node_reader.specs.declared.expect.Expect.{Expect}
use Rattle.shared_trees.specs.declared.known.KnownTree.{KnownTree}
use Rattle.tree_laws.specs.Ending.{Held, Lasts}
use Rattle.tree_laws.specs.Keeping.{anew_of, kept_of}
use Rattle.tree_laws.specs.Known.{blocks_met, last_of}
use Rattle.tree_laws.specs.Meeting.{Met}
use Rattle.tree_laws.specs.Skips.{Anew, Kept}
use Rattle.shared_trees.specs.Under.{under_of}
use Rattle.tree_laws.specs.Visits.{is_found}

-- the blocks that are kept: those that the table knows as they are expected, that have no mark and that stand where they stood
abbrev pub kept_by : {L : Type 0} → KnownTree L → Kept
kept_by known = kept_of (pairs_of known.table.now) (marked_by known.marks.now) (move_passes known.moves.now) (under_of known.starts.now)

-- the pairs by which they are kept
abbrev pub pairs_by : {L : Type 0} → KnownTree L → Pairs
pairs_by known = pairs_of known.table.now

-- the blocks that are walked below them: the children that are listed
abbrev pub listed_by : {L : Type 0} → KnownTree L → Anew
listed_by known = anew_of (under_of known.starts.now)

-- the kept blocks that were met
abbrev pub met_by : {L : Type 0} → KnownTree L → Met
met_by known = Some (blocks_met known.met.items)

-- the greatest keys that are known
abbrev pub lasts_by : {L : Type 0} → KnownTree L → Lasts
lasts_by known = last_of (pairs_of known.table.now) (under_of known.starts.now)

-- the blocks that the walk is done with
abbrev pub ended_by : {L : Type 0} → KnownTree L → Held
ended_by known = Some known.ended.items

-- the looks that were counted
abbrev pub looks_by : {L : Type 0} → KnownTree L → ℕ
looks_by known = known.steps.now

-- the pair of a block is at hand where it is the one that the table gave last
abbrev pub ready_by : {L : Type 0} → KnownTree L → Expect → Bool
ready_by known = is_found known.found

-- which loan the counter is
abbrev pub loan_by : {L : Type 0} → KnownTree L → GName
loan_by known = known.steps.ghost_name
