-- Which bytes pending writes have, and the ranges in which they have them.
use Rattle.std.proofs.Common.{◌≡◌, ℕ, zero, suc, ◌+◌, ◌<◌, ◌≤◌, Bool, true, false, ◌||◌, List, [], ◌∷◌, length, map, ◌⊎◌, inl, inr, sym, ◌∙◌, refl, ap, subst, arith}
use Rattle.std.specs.Prelude.{◌↔◌, IsTrue, IsSome, is_some}
use Rattle.std.specs.Cmp.{both_ways}
use Rattle.std.specs.List.{list_any}
use Rattle.std.specs.Ordering.{nat_cmp}
use Rattle.std.specs.FinMap.{FinMap, get, get-empty}
use Rattle.std.proofs.lemmas.Bool.{cases_lt}
use Rattle.std.proofs.lemmas.Bool.Decides.{nat_tests}
use Rattle.verdict.proofs.Truth.{or_cases, or_left, or_right}
use Rattle.live_index.specs.Pairs.{Pairs}
use Rattle.write_cache.specs.Cache.{with_bytes}
use Rattle.write_cache.specs.Pieces.{Piece, map_of}
use Rattle.write_cache.proofs.CacheLaws.{get-with_bytes_in, get-with_bytes_out}
use Rattle.touched_blocks.specs.Looks.{spot_of}
use Rattle.touched_blocks.specs.Marking.{AreMarkedFrom}
use Rattle.touched_blocks.specs.Marks.{Marked, no_mark}
use Rattle.touched_blocks.specs.Spots.{has_offset}
use Rattle.touched_blocks.specs.Touched.{Written, any_written, written_in}

-- an offset of a range that is written, and a range with such an offset
pub written_one : (written : Written) (at n : ℕ) → any_written written at n ≡ true → (o : ℕ) × (at ≤ o) × (o < at + n) × (written o ≡ true)
unfolding any_written
written_one written at zero h = cc
written_one written at (suc n) h = by (written_one written (suc at) n) (or_cases (written at) _ h)
  where
    by : (any_written written (suc at) n ≡ true → (o : ℕ) × (suc at ≤ o) × (o < suc at + n) × (written o ≡ true))
        → (written at ≡ true) ⊎ (any_written written (suc at) n ≡ true) → (o : ℕ) × (at ≤ o) × (o < at + suc n) × (written o ≡ true)
    by rest (inl here) = (at, omega arith, omega arith, here)
    by rest (inr later) = let found = rest later in (found.0, omega (arith, found.1), omega (arith, found.2), found.3)

pub one_written : (written : Written) (at n o : ℕ) → at ≤ o → o < at + n → written o ≡ true → any_written written at n ≡ true
unfolding any_written
one_written written at zero o low high h = absurd (omega arith)
one_written written at (suc n) o low high h = by (one_written written (suc at) n o) (cases_lt at o)
  where
    by : (suc at ≤ o → o < suc at + n → written o ≡ true → any_written written (suc at) n ≡ true) → (at < o) ⊎ (o ≤ at)
        → (written at || any_written written (suc at) n) ≡ true
    by rest (inl later) = or_right (written at) _ (rest (omega arith) (omega arith) h)
    by rest (inr here) = let same : o ≡ at = omega arith in or_left (written at) _ (subst (λ x. written x ≡ true) same h)

-- whether a byte of a range waits is whether the range is written
pub touch_law : (waits : Bool) (pending : FinMap nat_cmp ℕ) (at n : ℕ)
    → (IsTrue waits ↔ ((o : ℕ) × (at ≤ o) × (o < at + n) × IsSome (get pending o))) → waits ≡ any_written (written_in pending) at n
touch_law waits pending at n both =
    both_ways waits (any_written (written_in pending) at n)
    (λ h. let found = both.0 h in one_written (written_in pending) at n found.0 found.1 found.2 found.3)
    (λ h. both.1 (written_one (written_in pending) at n h))

-- ---- the ranges of the parts

has_low : (o : ℕ) (p : Piece) → has_offset o (spot_of p) ≡ true → p.at ≤ o
has_low o p h = grind (arith, nat_tests)

has_high : (o : ℕ) (p : Piece) → has_offset o (spot_of p) ≡ true → o < p.at + length p.bytes
has_high o p h = grind (arith, nat_tests)

some_out : (o : ℕ) (p : Piece) → has_offset o (spot_of p) ≡ false → (p.at ≤ o) × (o < p.at + length p.bytes) → ⊥
some_out o p h inside =
    let low : p.at ≤ o = inside.0 in
    let high : o < p.at + length p.bytes = inside.1 in
    grind (arith, nat_tests)

-- the map of parts has a byte at just the offsets that one of them has
pub map_has : (pieces : List Piece) (o : ℕ) → is_some (get (map_of pieces) o) ≡ list_any (has_offset o) (map spot_of pieces)
unfolding map_of
map_has [] o = ap is_some (get-empty nat_cmp o)
map_has (p ∷ pieces) o = by (map_has pieces o) (has_offset o (spot_of p)) refl
  where
    by : (is_some (get (map_of pieces) o) ≡ list_any (has_offset o) (map spot_of pieces)) → (b : Bool) → has_offset o (spot_of p) ≡ b
        → is_some (get (with_bytes (map_of pieces) p.at p.bytes) o) ≡ (b || list_any (has_offset o) (map spot_of pieces))
    by rest true h = ap is_some (get-with_bytes_in (map_of pieces) p.at p.bytes o (has_low o p h) (has_high o p h))
    by rest false h = ap is_some (get-with_bytes_out (map_of pieces) p.at p.bytes o (some_out o p h)) ∙ rest

-- where there was no mark, none was
pub from_none : (pairs : Pairs) (must may old new : Marked) → ((t a : ℕ) → old t a ≡ false) → AreMarkedFrom pairs must may old new → AreMarkedFrom pairs must may no_mark new
from_none pairs must may old new none marked = record {
  kept = λ t a h. absurd (false_true h);
  closed = λ _. marked.closed (λ t a live up is here above. absurd (no_old t a is));
  found = marked.found;
  only = λ t a h. elim (marked.only t a h) [ inl had ↦ absurd (no_old t a had) | inr from ↦ inr from ];
}
  where
    false_true : false ≡ true → ⊥
    false_true h = cc

    no_old : (t a : ℕ) → old t a ≡ true → ⊥
    no_old t a h = false_true (sym (none t a) ∙ h)
