-- The law of the greatest key of a kept block as it is now.
use Rattle.std.specs.Prelude.{ℕ, ◌≡◌, ◌-◌, Bool, List, [], ◌∷◌, Some}
use Rattle.std.specs.Result.{IsOk}
use Rattle.verdict.specs.declared.key.Key.{Key}
use Rattle.super_reader.specs.declared.Super.{Super}
use Rattle.live_index.specs.Pairs.{Pairs}
use Rattle.live_index.specs.declared.live.Live.{Live}
use Rattle.node_reader.specs.Stored.{Stored}
use Rattle.node_reader.specs.declared.expect.Expect.{Expect}
use Rattle.records.specs.Walk.{walk_of}
use Rattle.tree_laws.specs.declared.told.Start.{Start}
use Rattle.tree_laws.specs.Keeping.{AreListed, AreMarked, AreUntouched, Marks, Stands, Under, bound_at, kept_of, last_in, start_of}

-- the greatest key of a block, of which this was the greatest: that of its last child as it is now, where that child is walked, and
-- else what it was
abbrev pub last_anew : Super → Stored → ℕ → Expect → List Start → Key → Key
last_anew sup stored level e [] last = last
last_anew sup stored level e (start ∷ starts) last =
    bound_at start.next (last_in (walk_of sup stored (start_of level e start))) (last_anew sup stored level e starts last)

-- Where blocks are kept by what is known of a tree as it was, and the walk from a kept block on as it is now has no finding, its
-- greatest key is that of its last child as it is now, where that child is listed, and else the one that the table has.
abbrev pub LastLaw : Type 0
LastLaw = (pairs : Pairs) (marked moving : Marks) (touched moved : ℕ → Bool) (under : Under) (sup : Super) (old new : Stored) (root now : Expect)
    (last : Key) (was : Live)
    → Stands pairs sup old root → AreMarked marked touched sup old root → AreMarked moving moved sup old root → AreListed under moving sup old root
    → AreUntouched touched moved old new → now.tree ≡ root.tree → IsOk (walk_of sup new now)
    → kept_of pairs marked moved under now ≡ Some last → pairs now.tree now.address ≡ Some was
    → last_in (walk_of sup new now) ≡ last_anew sup new (now.level - 1) now (under now.tree now.address) was.last
