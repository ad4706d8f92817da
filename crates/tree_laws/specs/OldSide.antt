-- The walk of a tree as it was, which stops at the blocks that the walk of the tree as it is keeps: it comes to the blocks that are not shared.
use Rattle.std.specs.Prelude.{ℕ, ◌≡◌, ◌==◌, Bool, true, false, is_some, List, Some, None, Ok, if◌then◌else◌}
use Rattle.std.specs.List.{AllByRecursion}
use Rattle.verdict.specs.Rules.{no_key}
use Rattle.super_reader.specs.declared.Super.{Super}
use Rattle.live_index.specs.Pairs.{Pairs}
use Rattle.live_index.specs.declared.live.Live.{Live}
use Rattle.node_reader.specs.Stored.{Stored}
use Rattle.node_reader.specs.declared.expect.Expect.{Expect}
use Rattle.records.specs.Walk.{each, walk_of}
use Rattle.records.specs.WalkLaw.{visited}
use Rattle.tree_laws.specs.Keeping.{AreListed, AreMarked, AreUntouched, Comes, Marks, OneOf, Stands, Under, anew_of, kept_of, last_if_same, live_at}
use Rattle.tree_laws.specs.LivePairs.{Walked}
use Rattle.tree_laws.specs.Shared.{are_alike, is_shared_by}
use Rattle.tree_laws.specs.Skips.{Kept, nothing, skip_of, unkept}
use Rattle.tree_laws.specs.Stops.{is_stop, stops_of}
use Rattle.tree_laws.specs.TableLaw.{AreApart, Tree}

-- the blocks that the walk of the tree as it was keeps: those at the address of a stop, as a table knows them
unfoldable pub kept_at : Pairs → List Expect → Under → Kept
kept_at pairs stops under e =
    if is_stop stops e.address then last_if_same e (under e.tree e.address) (pairs e.tree e.address) else None

-- the blocks whose pairs pass a test, as kept ones
abbrev pub kept_where : (Live → Bool) → Super → Stored → Kept
kept_where test sup stored e = if test (live_at sup stored e) then Some no_key else None

-- Whether a test tells which pairs of a tree are shared: each block that the new walk comes to is kept just where it is shared, alike
-- pairs are shared alike, and a shared pair is alike to one that the new walk comes to.
pub record TellsShared (shared : Live → Bool) (kept : Kept) (sup : Super) (new : Stored) (root : Expect) : Type 0 where
  pub kept_is : Comes (λ v. is_some (kept v) ≡ shared (live_at sup new v)) sup new root
  pub alike : (a b : Live) → are_alike a b ≡ true → shared a ≡ shared b
  pub both : (live : Live) → live.tree ≡ root.tree → shared live ≡ true
      → OneOf (λ v. are_alike live (live_at sup new v) ≡ true) (visited sup new root)

-- the root of a tree: it has no low key and no high key
abbrev pub IsRoot : Expect → Type 0
IsRoot e = (e.low ≡ None) × (e.high ≡ None)

-- Where a table stands for a tree as it was, just those of its blocks are marked which are touched or above a touched one, just those
-- children are listed which moved or are above a moved block, and the walk of the tree as it is has no finding: the walk of the tree as
-- it was, which keeps the blocks at the stops of that walk and goes on to what is listed below them, gives the own records of just the
-- blocks that are not shared, each once.
abbrev pub OldSideLaw : Type 0
OldSideLaw = (pairs : Pairs) (marked moving : Marks) (touched moved : ℕ → Bool) (under : Under) (shared : Live → Bool)
    (sup : Super) (old new : Stored) (before root : Expect)
    → IsRoot before → root.tree ≡ before.tree
    → Stands pairs sup old before → AreMarked marked touched sup old before
    → AreMarked moving moved sup old before → AreListed under moving sup old before
    → AreUntouched touched moved old new → TellsShared shared (kept_of pairs marked moved under) sup new root
    → skip_of (kept_at pairs (stops_of (kept_of pairs marked moved under) (anew_of under) sup new root) under) nothing (anew_of under)
    sup old before
    ≡ unkept (kept_where shared sup old) nothing sup old before

-- Of trees of different ids whose walks have no finding: where the new image has the records of these walks, and in one tree just those
-- blocks are kept of which the pairs are shared by the two images, that tells which pairs of it are shared.
abbrev pub TellsLaw : Type 0
TellsLaw = (stays touched : ℕ → Bool) (old new : Walked) (kept : Kept) (sup : Super) (trees : List Tree)
    → AreApart trees → each (λ tree. walk_of sup tree.0 tree.1) trees ≡ Ok new.seen
    → AllByRecursion (λ tree. Comes (λ v. is_some (kept v) ≡ is_shared_by stays touched old new (live_at sup tree.0 v)) sup tree.0 tree.1
    → TellsShared (is_shared_by stays touched old new) kept sup tree.0 tree.1) trees

-- where the new image has the records of trees of different ids, no pair of another tree is shared
abbrev pub GoneLaw : Type 0
GoneLaw = (stays touched : ℕ → Bool) (old new : Walked) (sup : Super) (trees : List Tree) (live : Live)
    → AreApart trees → each (λ tree. walk_of sup tree.0 tree.1) trees ≡ Ok new.seen
    → AllByRecursion (λ tree. (tree.1.tree == live.tree) ≡ false) trees → is_shared_by stays touched old new live ≡ false
