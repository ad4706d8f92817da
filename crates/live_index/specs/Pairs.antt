-- Live pairs: what is kept of tree blocks, each under the tree that visits it and its logical address.
use Rattle.std.specs.Prelude.{◌≡◌, ℕ, ◌<◌, ◌^◌, Bool, true, false, ◌&&◌, ◌||◌, ◌==◌, nat_lt, Option, Some, None, is_some, if◌then◌else◌}
use Rattle.verdict.specs.OnDisk.{key_below, key_same}
use Rattle.verdict.specs.declared.key.Key.{Key}
use Rattle.live_index.specs.declared.live.Live.{Live}

-- a table of live pairs: what stands under a tree and an address
abbrev pub Pairs : Type 0
Pairs = ℕ → ℕ → Option Live

-- the table with no pair
abbrev pub no_pairs : Pairs
no_pairs tree address = None

-- the table with a pair, in the place of the one with its tree and address
abbrev pub with_pair : Pairs → Live → Pairs
with_pair pairs live tree address = if live.tree == tree && live.address == address then Some live else pairs tree address

-- the table without the pair of a tree at an address
abbrev pub without_pair : Pairs → ℕ → ℕ → Pairs
without_pair pairs t a tree address = if t == tree && a == address then None else pairs tree address

-- a pair stands in the table, under its own tree and address
abbrev pub Stands : Pairs → Live → Type 0
Stands pairs live = pairs live.tree live.address ≡ Some live

-- the ids of trees and the addresses of pairs have 64 bits
abbrev pub AreNarrow : Pairs → Type 0
AreNarrow pairs = (tree address : ℕ) → is_some (pairs tree address) ≡ true → (tree < 2 ^ 64) × (address < 2 ^ 64)

-- whether one address and tree come before others: by the address, and at one address by the tree
abbrev pub comes_before : ℕ → ℕ → ℕ → ℕ → Bool
comes_before address tree address' tree' = nat_lt address address' || (address == address' && nat_lt tree tree')

-- the least pair from an address and a tree on, or none where there is none
abbrev pub IsLeastFrom : Pairs → ℕ → ℕ → Option Live → Type 0
IsLeastFrom pairs address tree None = (a t : ℕ) → comes_before a t address tree ≡ false → pairs t a ≡ None
IsLeastFrom pairs address tree (Some live) =
    Stands pairs live
    × (comes_before live.address live.tree address tree ≡ false)
    × ((a t : ℕ) → comes_before a t address tree ≡ false → comes_before a t live.address live.tree ≡ true → pairs t a ≡ None)

-- whether an address is above another, where another is given
abbrev pub is_above : Option ℕ → ℕ → Bool
is_above None address = true
is_above (Some after) address = nat_lt after address

-- the pair of a tree with the least address, or the least above one that is given, or none where there is none
abbrev pub IsNextOf : Pairs → ℕ → Option ℕ → Option Live → Type 0
IsNextOf pairs tree after None = (a : ℕ) → is_above after a ≡ true → pairs tree a ≡ None
IsNextOf pairs tree after (Some live) =
    Stands pairs live
    × (live.tree ≡ tree)
    × (is_above after live.address ≡ true)
    × ((a : ℕ) → is_above after a ≡ true → a < live.address → pairs tree a ≡ None)

-- whether there is a pair, and it has this level and this first key
abbrev pub has_first : ℕ → Key → Option Live → Bool
has_first level key None = false
has_first level key (Some live) = live.level == level && key_same live.first key

-- the least first key above a key of the pairs of a tree and a level, or none where there is none
abbrev pub IsNextFirst : Pairs → ℕ → ℕ → Key → Option Key → Type 0
IsNextFirst pairs tree level key None =
    (a : ℕ) (k : Key) → key_below key k ≡ true → has_first level k (pairs tree a) ≡ false
IsNextFirst pairs tree level key (Some next) =
    (key_below key next ≡ true)
    × ((a : ℕ) × (has_first level next (pairs tree a) ≡ true))
    × ((a : ℕ) (k : Key) → key_below key k ≡ true → key_below k next ≡ true → has_first level k (pairs tree a) ≡ false)
