-- Which blocks of a tree that changed are kept, by what is known of the tree as it was: a table of its live pairs, marks of those that
-- writes touch, and the children that moved. The laws are of one tree, from its root on.
use Rattle.std.specs.Prelude.{ℕ, zero, suc, ◌≡◌, ◌-◌, ◌==◌, ◌&&◌, ◌||◌, ◌⊎◌, not, Bool, true, false, List, [], ◌∷◌, Option, Some, None, IfSome, Result, Ok, Err, if◌then◌else◌}
use Rattle.std.specs.List.{AllByRecursion, list_any}
use Rattle.std.specs.Result.{IsOk}
use Rattle.verdict.specs.OnDisk.{key_below, key_same}
use Rattle.verdict.specs.Rules.{no_key}
use Rattle.verdict.specs.declared.key.Key.{Key}
use Rattle.super_reader.specs.declared.Super.{Super}
use Rattle.live_index.specs.Pairs.{Pairs}
use Rattle.live_index.specs.declared.live.Live.{Live}
use Rattle.node_reader.specs.Layout.{first_key_of, owner_of, pointers_of}
use Rattle.node_reader.specs.Stored.{CopyFault, Stored}
use Rattle.node_reader.specs.declared.expect.Expect.{Expect}
use Rattle.node_reader.specs.declared.expect.Pointer.{Pointer}
use Rattle.records.specs.Walk.{Records, child_of, high_of, walk_of}
use Rattle.records.specs.WalkLaw.{visited}
use Rattle.tree_laws.specs.LivePairs.{first_or_greatest, last_key}
use Rattle.tree_laws.specs.declared.told.Start.{Start}
use Rattle.tree_laws.specs.Skips.{Anew, Kept, nothing}
use Rattle.tree_laws.specs.SkipLaw.{IsSound}

-- the children of the block of a tree at an address that are walked, in the order of their keys
abbrev pub Under : Type 0
Under = ℕ → ℕ → List Start

-- blocks that are marked, by their tree and their address
abbrev pub Marks : Type 0
Marks = ℕ → ℕ → Bool

-- the key of the next pointer, or behind the last the node's own high key
abbrev pub or_high : Option Key → Option Key → Option Key
or_high None high = high
or_high (Some key) high = Some key

-- what is expected on a level of these children, below a node of which this was expected
abbrev pub start_of : ℕ → Expect → Start → Expect
start_of level e start = child_of level e start.pointer (or_high start.next e.high)

abbrev pub starts_of : ℕ → Expect → List Start → List Expect
starts_of level e [] = []
starts_of level e (start ∷ starts) = start_of level e start ∷ starts_of level e starts

-- what is expected of the children that are walked below a kept block
abbrev pub anew_of : Under → Anew
anew_of under e = starts_of (e.level - 1) e (under e.tree e.address)

-- a key, where no other pointer follows
abbrev pub bound_at : Option Key → Key → Key → Key
bound_at None key others = key
bound_at (Some next) key others = others

-- the greatest key that is sure to stand in a block or below it, of which this was the greatest: its last pointer's own key, where that
-- child is walked, and else what it was
abbrev pub bound_of : List Start → Key → Key
bound_of [] last = last
bound_of (start ∷ starts) last = bound_at start.next start.pointer.key (bound_of starts last)

-- whether the first key of a block is the one that is expected. A root expects none, and has no high key. An empty leaf, whose first key
-- is above its greatest one, is a root alone.
abbrev pub is_first : Live → Option Key → Option Key → Bool
is_first live None None = true
is_first live None (Some high) = false
is_first live (Some low) high = key_same live.first low && not (key_below live.last live.first)

-- whether the block that is expected is the one that is known
abbrev pub is_same : Expect → Live → Bool
is_same e live = (e.level == live.level && e.generation == live.generation) && is_first live e.low e.high

abbrev pub last_if_same : Expect → List Start → Option Live → Option Key
last_if_same e starts None = None
last_if_same e starts (Some live) = if is_same e live then Some (bound_of starts live.last) else None

-- A block is kept where a table knows it as it is expected, and it is not marked and did not move. What is given is the greatest key
-- that is sure to stand in it or below it.
unfoldable pub kept_of : Pairs → Marks → (ℕ → Bool) → Under → Kept
kept_of pairs marked moved under e =
    if marked e.tree e.address || moved e.address then None else last_if_same e (under e.tree e.address) (pairs e.tree e.address)

-- the first key of a block that is stored, or the greatest key where it has none; and the owner that it names
abbrev pub first_in : Result (List ℕ) CopyFault → Key
first_in (Err fault) = no_key
first_in (Ok bytes) = first_or_greatest (first_key_of bytes)

abbrev pub owner_in : Result (List ℕ) CopyFault → ℕ
owner_in (Err fault) = 0
owner_in (Ok bytes) = owner_of bytes

-- the greatest key of the items of a walk, (0, 0, 0) where there is none
abbrev pub last_in : Records → Key
last_in (Err finding) = no_key
last_in (Ok records) = last_key records

-- the live pair of a block that a walk comes to
abbrev pub live_at : Super → Stored → Expect → Live
live_at sup stored v = record {
  tree = v.tree;
  address = v.address;
  level = v.level;
  generation = v.generation;
  first = first_in (stored v.address);
  last = last_in (walk_of sup stored v);
  parent = v.parent;
  owner = owner_in (stored v.address);
}

-- a walk has no finding, and this holds of each block that it comes to
pub record Comes (P : Expect → Type 0) (sup : Super) (stored : Stored) (e : Expect) : Type 0 where
  pub fine : IsOk (walk_of sup stored e)
  pub each : AllByRecursion P (visited sup stored e)

-- this holds of one of several blocks
abbrev pub OneOf : (Expect → Type 0) → List Expect → Type 0
OneOf P [] = ⊥
OneOf P (e ∷ es) = P e ⊎ OneOf P es

-- whether a walk comes to an address that passes a test
abbrev pub comes_to : (ℕ → Bool) → Super → Stored → Expect → Bool
comes_to test sup stored e = list_any (λ w. test w.address) (visited sup stored e)

-- a block of this tree and address is known so
pub record IsKnown (sup : Super) (stored : Stored) (tree address : ℕ) (live : Live) (v : Expect) : Type 0 where
  pub tree_is : v.tree ≡ tree
  pub address_is : v.address ≡ address
  pub live_is : live ≡ live_at sup stored v

-- a walk has no finding, and a table has the live pair of each block that it comes to, and nothing else of its tree
pub record Stands (pairs : Pairs) (sup : Super) (stored : Stored) (root : Expect) : Type 0 where
  pub each : Comes (λ v. pairs v.tree v.address ≡ Some (live_at sup stored v)) sup stored root
  pub only : (address : ℕ) → IfSome (pairs root.tree address) (λ live. OneOf (IsKnown sup stored root.tree address live) (visited sup stored root))

-- of the blocks that a walk comes to just those are marked of which, or of a block below which, the address passes a test
abbrev pub AreMarked : Marks → (ℕ → Bool) → Super → Stored → Expect → Type 0
AreMarked marked test sup stored root = Comes (λ v. marked v.tree v.address ≡ comes_to test sup stored v) sup stored root

-- those children whose address passes a test, each with the key of the next pointer
abbrev pub starts_in : (ℕ → Bool) → List Pointer → List Start
starts_in test [] = []
starts_in test (pointer ∷ pointers) =
    if test pointer.address then record { pointer = pointer; next = high_of pointers None } ∷ starts_in test pointers else starts_in test pointers

-- the same, of what is stored on a level
abbrev pub starts_at : ℕ → (ℕ → Bool) → Result (List ℕ) CopyFault → List Start
starts_at level test (Err fault) = []
starts_at zero test (Ok bytes) = []
starts_at (suc level) test (Ok bytes) = starts_in test (pointers_of bytes)

-- of each block that a walk comes to the marked children are listed
abbrev pub AreListed : Under → Marks → Super → Stored → Expect → Type 0
AreListed under moving sup stored root = Comes (λ v. under v.tree v.address ≡ starts_at v.level (moving v.tree) (stored v.address)) sup stored root

-- where no write touches a block and it did not move, the same is stored at its address
abbrev pub AreUntouched : (ℕ → Bool) → (ℕ → Bool) → Stored → Stored → Type 0
AreUntouched touched moved old new = (address : ℕ) → touched address ≡ false → moved address ≡ false → new address ≡ old address

-- Where a table stands for a tree as it was, just those of its blocks are marked which are touched or above a touched one, and just those
-- children are listed which moved or are above a moved block, blocks are kept soundly, whatever tree is stored now.
abbrev pub KeepingLaw : Type 0
KeepingLaw = (pairs : Pairs) (marked moving : Marks) (touched moved : ℕ → Bool) (under : Under) (sup : Super) (old new : Stored) (root : Expect)
    → Stands pairs sup old root → AreMarked marked touched sup old root → AreMarked moving moved sup old root → AreListed under moving sup old root
    → AreUntouched touched moved old new → IsSound root.tree (kept_of pairs marked moved under) nothing (anew_of under) sup new
