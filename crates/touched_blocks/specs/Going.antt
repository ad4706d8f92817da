-- How far the pairs of a table are gone through. It serves to state what private functions keep.
use Rattle.std.specs.Prelude.{ℕ, ◌≡◌, ◌+◌, ◌≤◌, ◌<◌, ◌^◌, ◌⊎◌, Bool, true, false, ◌&&◌, nat_lt, List, length, Option, Some, None, is_some, if◌then◌else◌}
use Rattle.std.specs.List.{AllByRecursion, IsDistinct}
use Rattle.live_index.specs.declared.live.Live.{Live}
use Rattle.live_index.specs.Pairs.{Pairs, Stands, comes_before}
use Rattle.touched_blocks.specs.declared.marks.Marks.{Marks}
use Rattle.touched_blocks.specs.declared.marks.PairPlace.{PairPlace}
use Rattle.touched_blocks.specs.Marks.{Marked, count_of, is_pair, marked_by}

-- A cursor is the address and the tree that come next, or none where nothing comes. Whether it has passed a pair.
abbrev pub is_passed : Option (ℕ × ℕ) → Marked
is_passed None t a = true
is_passed (Some next) t a = comes_before a t next.0 next.1

-- the first pair of a table that a cursor has not passed, or none where there is none
abbrev pub IsFirst : Pairs → Option (ℕ × ℕ) → Option Live → Type 0
IsFirst pairs cursor None = (a t : ℕ) → is_passed cursor t a ≡ false → pairs t a ≡ None
IsFirst pairs cursor (Some live) =
    Stands pairs live
    × (is_passed cursor live.tree live.address ≡ false)
    × ((a t : ℕ) → is_passed cursor t a ≡ false → comes_before a t live.address live.tree ≡ true → pairs t a ≡ None)

-- the address and the tree behind those of a pair
abbrev pub IsBehind : Live → ℕ → ℕ → Type 0
IsBehind live address tree =
    ((live.tree ≡ 18446744073709551615) × (address ≡ live.address + 1) × (tree ≡ 0)) ⊎ ((address ≡ live.address) × (tree ≡ live.tree + 1))

-- the same, where there may be one
abbrev pub IsNext : Live → Option (ℕ × ℕ) → Type 0
IsNext live None = (live.tree ≡ 18446744073709551615) × (live.address ≡ 18446744073709551615)
IsNext live (Some next) = IsBehind live next.0 next.1

-- a cursor, moved on to an address where it has not come so far
abbrev pub reached : Option (ℕ × ℕ) → ℕ → Option (ℕ × ℕ)
reached None from = None
reached (Some next) from = if nat_lt next.0 from then Some (from, 0) else Some next

-- a pair, where its address passes a test
abbrev pub met : (ℕ → Bool) → Live → Marked
met test live t a = is_pair live.tree live.address t a && test a

-- of the pairs from an address on that a cursor has passed, those that pass a test are marked
abbrev pub AreGone : Pairs → (ℕ → Bool) → ℕ → Option (ℕ × ℕ) → Marked → Type 0
AreGone pairs test from cursor marked =
    (t a : ℕ) → t < 2 ^ 64 → a < 2 ^ 64 → from ≤ a → is_passed cursor t a ≡ true → test a ≡ true → is_some (pairs t a) ≡ true → marked t a ≡ true

-- the pairs of a table at these addresses pass a test
abbrev pub AllPass : Pairs → (ℕ → Bool) → (ℕ → Bool) → Type 0
AllPass pairs within test = (t a : ℕ) → within a ≡ true → is_some (pairs t a) ≡ true → test a ≡ true

-- whether two places are one
abbrev pub same_pair : PairPlace → PairPlace → Bool
same_pair p q = is_pair p.tree p.address q.tree q.address

-- so many different pairs are marked that a cursor has passed
pub record AreFound (marked : Marked) (cursor : Option (ℕ × ℕ)) (count : ℕ) : Type 0 where
  pub places : List PairPlace
  pub many : length places ≡ count
  pub apart : IsDistinct same_pair places
  pub all : AllByRecursion (λ place. (marked place.tree place.address ≡ true) × (is_passed cursor place.tree place.address ≡ true)) places

-- The looks rose from one number to another by no more than the marks, the pairs that a cursor passed and that are marked, and some more.
abbrev pub AreLooks : ℕ → ℕ → Marks → Marks → Option (ℕ × ℕ) → Option (ℕ × ℕ) → ℕ → Type 0
AreLooks before now old new from to more =
    (n : ℕ) → AreFound (marked_by old) from n
    → (m : ℕ) × AreFound (marked_by new) to m × (now + n + count_of old ≤ before + m + count_of new + more)
