-- The law of the greatest keys that a walk which keeps blocks tells.
use Rattle.std.specs.Prelude.{ℕ, zero, suc, ◌≡◌, ◌-◌, Bool, List, [], ◌∷◌, ◌++◌, map, Option, Some, None}
use Rattle.std.specs.List.{flat_map}
use Rattle.std.specs.Result.{IsOk}
use Rattle.verdict.specs.declared.key.Key.{Key}
use Rattle.super_reader.specs.declared.Super.{Super}
use Rattle.live_index.specs.Pairs.{Pairs}
use Rattle.node_reader.specs.Stored.{Stored, block_in}
use Rattle.node_reader.specs.declared.expect.Expect.{Expect}
use Rattle.records.specs.Walk.{walk_of}
use Rattle.records.specs.WalkLaw.{children_in}
use Rattle.tree_laws.specs.declared.told.Ended.{Ended}
use Rattle.tree_laws.specs.Ending.{Ends, ends_of}
use Rattle.tree_laws.specs.Keeping.{AreListed, AreMarked, AreUntouched, Marks, Stands, Under, anew_of, kept_of, last_in}
use Rattle.tree_laws.specs.Known.{last_of}
use Rattle.tree_laws.specs.Skips.{Anew, Kept}

-- the children of a block that is not kept, or those that are walked below a kept one
abbrev pub next_or : List Expect → List Expect → Option Key → List Expect
next_or anew children None = children
next_or anew children (Some last) = anew

-- a block behind those that the walk which keeps blocks comes to below it
abbrev pub walked_and : Kept → Anew → (List Expect → List Expect) → Super → Stored → Expect → List Expect
walked_and kept anew below sup stored e =
    below (next_or (anew e) (children_in (e.level - 1) e (block_in stored sup.fsid e)) (kept e)) ++ (e ∷ [])

-- the same of the blocks on the level below this one
unfoldable pub walked_below : Kept → Anew → ℕ → Super → Stored → List Expect → List Expect
walked_below kept anew zero sup stored next = []
walked_below kept anew (suc level) sup stored next = flat_map (walked_and kept anew (walked_below kept anew level sup stored) sup stored) next

-- the blocks that the walk comes to, each behind all below it
abbrev pub walked_of : Kept → Anew → Super → Stored → Expect → List Expect
walked_of kept anew sup stored e = walked_and kept anew (walked_below kept anew e.level sup stored) sup stored e

-- a block with the greatest key in it or below it
abbrev pub ended_at : Super → Stored → Expect → Ended
ended_at sup stored v = record { expect = v; last = last_in (walk_of sup stored v) }

-- blocks with their greatest keys
abbrev pub all_ended : Super → Stored → List Expect → Key → Ends
all_ended sup stored blocks last = record { blocks = map (ended_at sup stored) blocks; last = last }

-- Where blocks are kept by what is known of a tree as it was, and the tree's walk as it is now has no finding, the walk that keeps
-- blocks tells of each block that it comes to the greatest key that stands in it or below it now.
abbrev pub EndsLaw : Type 0
EndsLaw = (pairs : Pairs) (marked moving : Marks) (touched moved : ℕ → Bool) (under : Under) (sup : Super) (old new : Stored) (root now : Expect)
    → Stands pairs sup old root → AreMarked marked touched sup old root → AreMarked moving moved sup old root → AreListed under moving sup old root
    → AreUntouched touched moved old new → now.tree ≡ root.tree → IsOk (walk_of sup new now)
    → ends_of (kept_of pairs marked moved under) (anew_of under) (last_of pairs under) sup new now
    ≡ all_ended sup new (walked_of (kept_of pairs marked moved under) (anew_of under) sup new now) (last_in (walk_of sup new now))
