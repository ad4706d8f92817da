-- Which blocks the walk of a tree as it was keeps: those at its stops.
use Rattle.std.specs.Borrow.{GName}
use Rattle.std.specs.Prelude.{ℕ, Bool, true, None}
use Rattle.live_index.specs.Pairs.{Pairs}
use Rattle.live_index.specs.Table.{pairs_of}
use Rattle.node_reader.specs.declared.expect.Expect.{Expect}
use Rattle.shared_trees.specs.declared.old.OldTree.{OldTree}
use Rattle.shared_trees.specs.declared.stops.Stops.{Stops}
use Rattle.tree_laws.specs.Ending.{Held, Lasts}
use Rattle.tree_laws.specs.Keeping.{anew_of}
use Rattle.tree_laws.specs.Meeting.{Met}
use Rattle.tree_laws.specs.Skips.{Anew, Kept}
use Rattle.tree_laws.specs.Stopping.{has_address, kept_among}
use Rattle.shared_trees.specs.Under.{under_of}

-- whether a stop has an address
abbrev pub is_stopped : Stops → ℕ → Bool
is_stopped stops = has_address stops.addresses.items

-- the blocks that are kept: those at stops, where the table knows them as they are expected
abbrev pub kept_by_stops : {L : Type 0} → OldTree L → Kept
kept_by_stops old = kept_among (pairs_of old.table.now) (is_stopped old.stops.now) (under_of old.starts.now)

-- the pairs by which they are kept
abbrev pub pairs_by_stops : {L : Type 0} → OldTree L → Pairs
pairs_by_stops old = pairs_of old.table.now

-- the blocks that are walked below them: the children that are listed
abbrev pub listed_by_stops : {L : Type 0} → OldTree L → Anew
listed_by_stops old = anew_of (under_of old.starts.now)

-- the blocks that the walk meets are not held
abbrev pub none_met : {L : Type 0} → OldTree L → Met
none_met old = None

-- no greatest keys are told, and the blocks that the walk is done with are not held
abbrev pub none_last : {L : Type 0} → OldTree L → Lasts
none_last old e = None

abbrev pub none_ended : {L : Type 0} → OldTree L → Held
none_ended old = None

-- the looks that were counted
abbrev pub looks_by_stops : {L : Type 0} → OldTree L → ℕ
looks_by_stops old = old.steps.now

-- to meet a block and to tell its greatest key takes no look
abbrev pub always_ready : {L : Type 0} → OldTree L → Expect → Bool
always_ready old e = true

-- which loan the counter is
abbrev pub loan_by_stops : {L : Type 0} → OldTree L → GName
loan_by_stops old = old.steps.ghost_name
