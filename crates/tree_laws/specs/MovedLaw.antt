-- The law of the kept blocks that a walk meets: they show all kept blocks whose node above or greatest key is another than it was.
use Rattle.std.specs.Prelude.{ℕ, ◌≡◌, ◌==◌, ◌&&◌, not, is_some, Bool, false, List, map, Option, Some, None}
use Rattle.std.specs.List.{filter}
use Rattle.std.specs.Result.{IsOk}
use Rattle.verdict.specs.OnDisk.{key_same}
use Rattle.super_reader.specs.declared.Super.{Super}
use Rattle.live_index.specs.Pairs.{Pairs}
use Rattle.live_index.specs.declared.live.Live.{Live}
use Rattle.node_reader.specs.Stored.{Stored}
use Rattle.node_reader.specs.declared.expect.Expect.{Expect}
use Rattle.records.specs.Walk.{walk_of}
use Rattle.records.specs.WalkLaw.{visited}
use Rattle.tree_laws.specs.Keeping.{AreListed, AreMarked, AreUntouched, Marks, Stands, Under, anew_of, kept_of, live_at}
use Rattle.tree_laws.specs.Skips.{Kept}
use Rattle.tree_laws.specs.Stops.{stops_of}

-- whether the node above a pair or its greatest key is another than an entry has, where there is one
abbrev pub is_other_than : Option Live → Live → Bool
is_other_than None live = false
is_other_than (Some one) live = not (one.parent == live.parent && key_same one.last live.last)

-- the live pairs of these blocks whose node above or greatest key is another than a table has
abbrev pub shifted_by : Pairs → Super → Stored → List Expect → List Live
shifted_by pairs sup stored blocks = filter (λ live. is_other_than (pairs live.tree live.address) live) (map (live_at sup stored) blocks)

-- of the blocks that a walk comes to those that are kept
abbrev pub kept_in : Kept → Super → Stored → Expect → List Expect
kept_in kept sup stored e = filter (λ v. is_some (kept v)) (visited sup stored e)

-- Where blocks are kept by what is known of a tree as it was, and the tree's walk as it is now has no finding, the kept blocks that
-- the walk meets give all live pairs of kept blocks whose node above or greatest key is another than it was, in the same order.
abbrev pub MovedLaw : Type 0
MovedLaw = (pairs : Pairs) (marked moving : Marks) (touched moved : ℕ → Bool) (under : Under) (sup : Super) (old new : Stored) (root now : Expect)
    → Stands pairs sup old root → AreMarked marked touched sup old root → AreMarked moving moved sup old root → AreListed under moving sup old root
    → AreUntouched touched moved old new → now.tree ≡ root.tree → IsOk (walk_of sup new now)
    → shifted_by pairs sup new (kept_in (kept_of pairs marked moved under) sup new now)
    ≡ shifted_by pairs sup new (stops_of (kept_of pairs marked moved under) (anew_of under) sup new now)
