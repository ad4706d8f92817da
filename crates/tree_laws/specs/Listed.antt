-- The children that are walked below kept blocks, by a table of live pairs and by marks on those that moved and on all above.
use Rattle.std.specs.Prelude.{ℕ, ◌≡◌, ◌&&◌, ◌||◌, ◌==◌, nat_lt, Bool, true, List, [], ◌∷◌, Option, Some, None, if◌then◌else◌}
use Rattle.std.specs.List.{AllByRecursion, list_any}
use Rattle.verdict.specs.OnDisk.{key_below, key_same}
use Rattle.verdict.specs.declared.key.Key.{Key}
use Rattle.live_index.specs.Pairs.{IsNextFirst, Pairs}
use Rattle.live_index.specs.declared.live.Live.{Live}
use Rattle.touched_blocks.specs.Marking.{parent_of}
use Rattle.tree_laws.specs.declared.told.Start.{Start}
use Rattle.super_reader.specs.declared.Super.{Super}
use Rattle.node_reader.specs.Stored.{Stored}
use Rattle.node_reader.specs.declared.expect.Expect.{Expect}
use Rattle.tree_laws.specs.Keeping.{AreListed, Marks, Stands, Under}

-- a key that is not above another
abbrev pub up_to : Key → Option Key → Option Key
up_to last None = None
up_to last (Some key) = if key_below last key then None else Some key

-- A marked child of the block of a tree at an address, as a table has it: its pointer has its first key, its address and its
-- generation, and the next pointer's key is the next first key of its level, where that is not above the block's greatest key.
pub record IsChild (pairs : Pairs) (marked : Marks) (tree address : ℕ) (start : Start) : Type 0 where
  pub live : Live
  pub up : Live
  pub next : Option Key
  pub mark : marked tree start.pointer.address ≡ true
  pub known : pairs tree start.pointer.address ≡ Some live
  pub above : parent_of pairs tree live ≡ Some up
  pub parent : live.parent ≡ address
  pub key : start.pointer.key ≡ live.first
  pub generation : start.pointer.generation ≡ live.generation
  pub least : IsNextFirst pairs tree live.level live.first next
  pub next_is : start.next ≡ up_to up.last next

-- whether a child is that at an address
abbrev pub is_at : ℕ → Start → Bool
is_at address start = start.pointer.address == address

-- children come one before the other by their keys, and where these are the same by their addresses
abbrev pub is_before : Start → Start → Bool
is_before a b =
    key_below a.pointer.key b.pointer.key
    || (key_same a.pointer.key b.pointer.key && nat_lt a.pointer.address b.pointer.address)

abbrev pub Ascend : List Start → Type 0
Ascend [] = Unit {0}
Ascend (start ∷ starts) = AllByRecursion (λ other. is_before start other ≡ true) starts × Ascend starts

-- of the block of a tree at an address just the marked children stand in a list, in the order of their keys
pub record AreChildren (pairs : Pairs) (marked : Marks) (tree address : ℕ) (starts : List Start) : Type 0 where
  pub each : AllByRecursion (IsChild pairs marked tree address) starts
  pub all : (child : ℕ) (live up : Live) → marked tree child ≡ true → pairs tree child ≡ Some live
      → parent_of pairs tree live ≡ Some up → live.parent ≡ address → list_any (is_at child) starts ≡ true
  pub order : Ascend starts

-- the same, of each block
abbrev pub AreListedBy : Pairs → Marks → Under → Type 0
AreListedBy pairs marked under = (tree address : ℕ) → AreChildren pairs marked tree address (under tree address)

-- Where a table stands for a tree, and of each block just the marked children that the table has are listed, these are the marked
-- children of the blocks that the walk comes to, each with the key of the next pointer.
abbrev pub ListingLaw : Type 0
ListingLaw = (pairs : Pairs) (marked : Marks) (under : Under) (sup : Super) (stored : Stored) (root : Expect)
    → Stands pairs sup stored root → AreListedBy pairs marked under → AreListed under marked sup stored root
