-- The law of the kept blocks that a walk meets.
use Rattle.std.specs.Prelude.{◌≡◌}
use Rattle.std.specs.Result.{IsOk}
use Rattle.super_reader.specs.declared.Super.{Super}
use Rattle.node_reader.specs.Stored.{Stored}
use Rattle.node_reader.specs.declared.expect.Expect.{Expect}
use Rattle.tree_laws.specs.Meeting.{met_of}
use Rattle.tree_laws.specs.Stops.{stops_of}
use Rattle.tree_laws.specs.Skips.{Anew, Kept, nothing, skip_of}
use Rattle.tree_laws.specs.SkipLaw.{IsSound}

-- where blocks are kept soundly and the walk that keeps them has no finding, the kept blocks that it meets are the stops
abbrev pub MeetingLaw : Type 0
MeetingLaw = (kept : Kept) (anew : Anew) (sup : Super) (stored : Stored) (e : Expect)
    → IsSound e.tree kept nothing anew sup stored → IsOk (skip_of kept nothing anew sup stored e)
    → met_of kept anew sup stored e ≡ stops_of kept anew sup stored e
