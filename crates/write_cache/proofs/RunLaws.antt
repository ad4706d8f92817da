-- The runs of an ordered map, by the offset where each begins, and the map that they make.
use Rattle.std.proofs.Common.{subst, ◌≡◌, ℕ, ◌+◌, ◌-◌, ◌<◌, ◌≤◌, ◌≢◌, ◌⊎◌, inl, inr, Bool, true, false, cond, not, ◌&&◌, List, [], ◌∷◌, ◌++◌, length, take, drop, get_or, min, refl, sym, ap, ◌∙◌, arith}
use lib.Dec.{leb, ltb}
use denote.Ref.{Bor}
use Rattle.std.specs.Prelude.{Option, Some, None, IsSome, option_copied}
use Rattle.std.specs.Option.{unwrap_or}
use Rattle.std.specs.Ordering.{nat_cmp, is_gt, is_lt}
use Rattle.std.specs.List.{filter}
use Rattle.std.specs.Map.{lookup}
use Rattle.std.specs.Cmp.{unsigned_tied}
use Rattle.std.specs.FinMap.{FinMap, empty, get, get-empty}
use Rattle.std.specs.BTreeMap.{BTreeMap, is_at}
use Rattle.std.specs.BTreeMap.Range.{IsRangeOf, entries_between}
use Rattle.std.specs.declared.ops.Bound.TheVariants.{Included, Unbounded}
use Rattle.std.proofs.lemmas.Bool.{cases_lt}
use Rattle.std.proofs.lemmas.Bool.Decides.{nat_tests}
use Rattle.std.proofs.lemmas.Map.Keys.{le_from_not_gt, ge_from_not_lt}
use Rattle.verdict.specs.Image.{range}
use Rattle.write_cache.specs.Cache.{with_bytes, overlaid}
use Rattle.write_cache.specs.Pieces.{AreDisjoint, map_of}
use Rattle.write_cache.specs.Runs.{pieces_of, EndBy, AreKept, run_at, NoneFrom, IsLast, NoneBehind, IsFirst}
use Rattle.write_cache.proofs.CacheLaws.{eqb-same, eqb-other, same_bytes, get-with_bytes_in, get-with_bytes_behind, get-with_bytes_out, length-range, get-range, length-overlaid, get-overlaid, overlaid-with_bytes, overlaid-misses, overlaid-empty}

pub same_or_not : (a b : ℕ) → (a ≡ b) ⊎ (a ≢ b)
same_or_not a b =
    elim (cases_lt a b) [
      | inl h ↦ inr (omega arith)
      | inr h ↦ elim (cases_lt b a) [ inl g ↦ inr (omega arith) | inr g ↦ inl (omega arith) ]
    ]

pub leb-is : (a b : ℕ) → leb a b ≡ true → a ≤ b
leb-is a b h = grind (arith, nat_tests)

pub leb-so : (a b : ℕ) → a ≤ b → leb a b ≡ true
leb-so a b h = grind (arith, nat_tests)

pub ltb-is : (a b : ℕ) → ltb a b ≡ true → a < b
ltb-is a b h = grind (arith, nat_tests)

pub ltb-so : (a b : ℕ) → a < b → ltb a b ≡ true
ltb-so a b h = grind (arith, nat_tests)

upto : (k to : ℕ) → k ≤ to → is_gt (nat_cmp k to) ≡ false
upto k to h = grind (arith, nat_tests)

past : (a b : ℕ) → is_lt (nat_cmp a b) ≡ true → a < b
past a b h = grind (arith, nat_tests)

-- the first run, and the others
pub run_at_head : (run : ℕ × List ℕ) (runs : List (ℕ × List ℕ)) → run_at (run ∷ runs) run.0 ≡ Some run.1
unfolding run_at
run_at_head run runs = ap (λ b. cond b (Some run.1) (lookup (is_at (nat_cmp run.0)) runs)) (unsigned_tied run.0 run.0 ∙ eqb-same run.0)

pub run_at_tail : (run : ℕ × List ℕ) (runs : List (ℕ × List ℕ)) (k : ℕ) → k ≢ run.0 → run_at (run ∷ runs) k ≡ run_at runs k
unfolding run_at
run_at_tail run runs k h = ap (λ b. cond b (Some run.1) (lookup (is_at (nat_cmp k)) runs)) (unsigned_tied k run.0 ∙ eqb-other k run.0 h)

pub run_at_none : (k : ℕ) (runs : List (ℕ × List ℕ)) → runs ≡ [] → run_at runs k ≡ None
unfolding run_at
run_at_none k runs e = ap (λ rs. run_at rs k) e

-- which run an offset finds
pub run_at_cases : (run : ℕ × List ℕ) (runs : List (ℕ × List ℕ)) (k : ℕ) (bs : List ℕ) → run_at (run ∷ runs) k ≡ Some bs → ((k ≡ run.0) × (bs ≡ run.1)) ⊎ ((k ≢ run.0) × (run_at runs k ≡ Some bs))
run_at_cases run runs k bs h =
    elim (same_or_not k run.0) [
      | inl same ↦ let here : run_at (run ∷ runs) k ≡ Some run.1 = subst (λ x. run_at (run ∷ runs) x ≡ Some run.1) (sym same) (run_at_head run runs) in
          inl (same, cc)
      | inr other ↦ inr (other, sym (run_at_tail run runs k other) ∙ h)
    ]

-- what the ordered map finds at an offset
pub run_at_found : (runs : List (ℕ × List ℕ)) (k : ℕ) (v : List ℕ) → lookup (is_at (nat_cmp k)) runs ≡ Some v → run_at runs k ≡ Some v
unfolding run_at
run_at_found runs k v h = h

pub run_at_absent : (runs : List (ℕ × List ℕ)) (k : ℕ) → lookup (is_at (nat_cmp k)) runs ≡ None → run_at runs k ≡ None
unfolding run_at
run_at_absent runs k h = h

-- each run begins where the list may, and has a byte
pub disjoint_low : (runs : List (ℕ × List ℕ)) (from : ℕ) (k : ℕ) (bs : List ℕ) → AreDisjoint from (pieces_of runs) → run_at runs k ≡ Some bs → (from ≤ k) × (0 < length bs)
disjoint_low [] from k bs disjoint h = let none : run_at [] k ≡ None = run_at_none k [] refl in cc
disjoint_low (run ∷ runs) from k bs disjoint h =
    elim (run_at_cases run runs k bs h) [
      | inl s ↦ (subst (λ x. from ≤ x) (sym s.0) disjoint.0, subst (λ x. 0 < length x) (sym s.1) disjoint.1)
      | inr s ↦ let low : (run.0 + length run.1 ≤ k) × (0 < length bs) = disjoint_low runs (run.0 + length run.1) k bs disjoint.2 s.1 in
          let first : from ≤ run.0 = disjoint.0 in
          (omega arith, low.1)
    ]

-- a run ends where a later one begins or before it
pub disjoint_pair : (runs : List (ℕ × List ℕ)) (from : ℕ) → AreDisjoint from (pieces_of runs) → (k l : ℕ) (bs cs : List ℕ) → run_at runs k ≡ Some bs → run_at runs l ≡ Some cs → k < l → k + length bs ≤ l
disjoint_pair [] from disjoint k l bs cs h g kl = let none : run_at [] k ≡ None = run_at_none k [] refl in cc
disjoint_pair (run ∷ runs) from disjoint k l bs cs h g kl =
    elim (run_at_cases run runs l cs g) [
      | inl t ↦ elim (run_at_cases run runs k bs h) [
        | inl s ↦ absurd (let a : k ≡ run.0 = s.0 in let b : l ≡ run.0 = t.0 in omega arith)
        | inr s ↦ absurd (let low : (run.0 + length run.1 ≤ k) × (0 < length bs) = disjoint_low runs (run.0 + length run.1) k bs disjoint.2 s.1 in let b : l ≡ run.0 = t.0 in omega arith)
      ]
      | inr t ↦ elim (run_at_cases run runs k bs h) [
        | inl s ↦ let low : (run.0 + length run.1 ≤ l) × (0 < length cs) = disjoint_low runs (run.0 + length run.1) l cs disjoint.2 t.1 in
            let same : length bs ≡ length run.1 = ap length s.1 in
            let here : k ≡ run.0 = s.0 in
            omega arith
        | inr s ↦ disjoint_pair runs (run.0 + length run.1) disjoint.2 k l bs cs s.1 t.1 kl
      ]
    ]

pub ends : (runs : List (ℕ × List ℕ)) (end : ℕ) (k : ℕ) (bs : List ℕ) → EndBy end (pieces_of runs) → run_at runs k ≡ Some bs → k + length bs ≤ end
ends [] end k bs all h = let none : run_at [] k ≡ None = run_at_none k [] refl in cc
ends (run ∷ runs) end k bs all h =
    elim (run_at_cases run runs k bs h) [
      | inl s ↦ subst (λ x. x + length bs ≤ end) (sym s.0) (subst (λ x. run.0 + length x ≤ end) (sym s.1) all.0)
      | inr s ↦ ends runs end k bs all.1 s.1
    ]

-- the run that the ordered map finds ends at an offset of 64 bits
pub end_fits : (runs : List (ℕ × List ℕ)) (k : ℕ) (o : Option (Bor (List ℕ))) (found : Bor (List ℕ)) → AreKept runs → option_copied o ≡ lookup (is_at (nat_cmp k)) runs → o ≡ Some found → k + length found.now < 18446744073709551616
end_fits runs k o found kept is there =
    let here : run_at runs k ≡ Some found.now = run_at_found runs k found.now (sym is ∙ ap option_copied there) in
    let e : k + length found.now ≤ 18446744073709551615 = ends runs 18446744073709551615 k found.now kept.1 here in
    omega arith

-- the byte that the map has where a run is
pub get_in : (runs : List (ℕ × List ℕ)) (from : ℕ) → AreDisjoint from (pieces_of runs) → (k : ℕ) (bs : List ℕ) (q : ℕ) → run_at runs k ≡ Some bs → k ≤ q → q < k + length bs → get (map_of (pieces_of runs)) q ≡ Some (get_or bs (q - k) 0)
unfolding map_of
get_in [] from disjoint k bs q h low high = let none : run_at [] k ≡ None = run_at_none k [] refl in cc
get_in (run ∷ runs) from disjoint k bs q h low high =
    elim (run_at_cases run runs k bs h) [
      | inl s ↦ let same : length bs ≡ length run.1 = ap length s.1 in
          let here : k ≡ run.0 = s.0 in
          get-with_bytes_in (map_of (pieces_of runs)) run.0 run.1 q (omega arith) (omega arith)
          ∙ ap (λ x. Some (get_or run.1 (q - x) 0)) (sym s.0)
          ∙ ap (λ x. Some (get_or x (q - k) 0)) (sym s.1)
      | inr s ↦ let least : (run.0 + length run.1 ≤ k) × (0 < length bs) = disjoint_low runs (run.0 + length run.1) k bs disjoint.2 s.1 in
          get-with_bytes_behind (map_of (pieces_of runs)) run.0 run.1 q (omega arith)
          ∙ get_in runs (run.0 + length run.1) disjoint.2 k bs q s.1 low high
    ]

-- no runs make the empty map
pub no_runs : (runs : List (ℕ × List ℕ)) → runs ≡ [] → map_of (pieces_of runs) ≡ empty
unfolding map_of
no_runs runs e = ap (λ rs. map_of (pieces_of rs)) e

-- a run that an offset lies in
pub record Within (runs : List (ℕ × List ℕ)) (q : ℕ) : Type 0 where
  pub at : ℕ
  pub bytes : List ℕ
  pub here : run_at runs at ≡ Some bytes
  pub low : at ≤ q
  pub high : q < at + length bytes

-- an offset lies in a run, or the map has no byte there
pub within : (runs : List (ℕ × List ℕ)) (from : ℕ) → AreDisjoint from (pieces_of runs) → (q : ℕ) → Within runs q ⊎ (get (map_of (pieces_of runs)) q ≡ None)
unfolding map_of
within [] from disjoint q = inr (get-empty nat_cmp q)
within (run ∷ runs) from disjoint q =
    elim (cases_lt q run.0) [
      | inl before ↦ elim (within runs (run.0 + length run.1) disjoint.2 q) [
        | inl w ↦ absurd (let least : (run.0 + length run.1 ≤ w.at) × (0 < length w.bytes) = disjoint_low runs (run.0 + length run.1) w.at w.bytes disjoint.2 w.here in let l : w.at ≤ q = w.low in omega arith)
        | inr none ↦ inr (get-with_bytes_out (map_of (pieces_of runs)) run.0 run.1 q (λ p. let l : run.0 ≤ q = p.0 in omega arith) ∙ none)
      ]
      | inr from_ ↦ elim (cases_lt q (run.0 + length run.1)) [
        | inl to ↦ inl (record { at = run.0; bytes = run.1; here = run_at_head run runs; low = from_; high = to })
        | inr behind ↦ elim (within runs (run.0 + length run.1) disjoint.2 q) [
          | inl w ↦ let least : (run.0 + length run.1 ≤ w.at) × (0 < length w.bytes) = disjoint_low runs (run.0 + length run.1) w.at w.bytes disjoint.2 w.here in
              let some : 0 < length run.1 = disjoint.1 in
              let other : w.at ≢ run.0 = omega arith in
              inl (record { at = w.at; bytes = w.bytes; here = run_at_tail run runs w.at other ∙ w.here; low = w.low; high = w.high })
          | inr none ↦ inr (get-with_bytes_behind (map_of (pieces_of runs)) run.0 run.1 q behind ∙ none)
        ]
      ]
    ]

pub get_within : (runs : List (ℕ × List ℕ)) (from : ℕ) → AreDisjoint from (pieces_of runs) → (q : ℕ) (w : Within runs q) → get (map_of (pieces_of runs)) q ≡ Some (get_or w.bytes (q - w.at) 0)
get_within runs from disjoint q w = get_in runs from disjoint w.at w.bytes q w.here w.low w.high

-- a byte of the map lies in a run
pub byte_within : (runs : List (ℕ × List ℕ)) (from : ℕ) → AreDisjoint from (pieces_of runs) → (q : ℕ) → IsSome (get (map_of (pieces_of runs)) q) → Within runs q
byte_within runs from disjoint q some =
    elim (within runs from disjoint q) [ inl w ↦ w | inr none ↦ let not_some : false ≡ true = subst IsSome none some in cc ]

-- the search of the ordered map
none_above : (m : BTreeMap ℕ (List ℕ)) (e : ℕ × List ℕ) (k : ℕ) (o : Option (List ℕ)) → lookup (is_at (nat_cmp k)) m.entries ≡ o → e.0 < k → (IsSome (lookup (is_at (nat_cmp k)) m.entries) → is_lt (nat_cmp e.0 k) ≡ false) → run_at m.entries k ≡ None
none_above m e k None is low least = run_at_absent m.entries k is
none_above m e k (Some v) is low least =
    let up : k ≤ e.0 = ge_from_not_lt e.0 k (least (rw is refl)) in
    absurd (omega arith)

pub last_found : (m : BTreeMap ℕ (List ℕ)) (to : ℕ) (r : List (ℕ × List ℕ)) → IsRangeOf nat_cmp Unbounded (Included to) m r → (e : ℕ × List ℕ) (t : List (ℕ × List ℕ)) → r ≡ t ++ e ∷ [] → IsLast m.entries to e.0 e.1
last_found m to r range e t is =
    let inside = range.3 e t is in
    record {
      low = le_from_not_gt e.0 to inside.0.1;
      here = run_at_found m.entries e.0 e.1 inside.1;
      last = λ k low high. none_above m e k _ refl low (λ some. range.4 e t is k (tt, upto k to high) some);
    }

pub none_found : (m : BTreeMap ℕ (List ℕ)) (to : ℕ) (r : List (ℕ × List ℕ)) → IsRangeOf nat_cmp Unbounded (Included to) m r → r ≡ [] → NoneFrom m.entries to
none_found m to r range is k high = run_at_absent m.entries k (range.5 is k (tt, upto k to high))

-- the first run of a range that has no end
not_under : (m : BTreeMap ℕ (List ℕ)) (e : ℕ × List ℕ) (k : ℕ) (o : Option (List ℕ)) → lookup (is_at (nat_cmp k)) m.entries ≡ o → k < e.0 → (IsSome (lookup (is_at (nat_cmp k)) m.entries) → is_gt (nat_cmp e.0 k) ≡ false) → run_at m.entries k ≡ None
not_under m e k None is low least = run_at_absent m.entries k is
not_under m e k (Some v) is low least =
    let up : e.0 ≤ k = le_from_not_gt e.0 k (least (rw is refl)) in
    absurd (omega arith)

pub first_found : (m : BTreeMap ℕ (List ℕ)) (from : ℕ) (r : List (ℕ × List ℕ)) → IsRangeOf nat_cmp (Included from) Unbounded m r → (e : ℕ × List ℕ) (t : List (ℕ × List ℕ)) → r ≡ e ∷ t → IsFirst m.entries from e.0
first_found m from r range e t is =
    let whole : IsRangeOf nat_cmp (Included from) Unbounded m (e ∷ t) = subst (IsRangeOf nat_cmp (Included from) Unbounded m) is range in
    record {
      bytes = e.1;
      low = le_from_not_gt from e.0 whole.1.0.0;
      here = run_at_found m.entries e.0 e.1 whole.1.1;
      first = λ k low high. not_under m e k _ refl high (λ some. whole.2 k (upto from k low, tt) some);
    }

pub none_from : (m : BTreeMap ℕ (List ℕ)) (from : ℕ) (r : List (ℕ × List ℕ)) → IsRangeOf nat_cmp (Included from) Unbounded m r → r ≡ [] → NoneBehind m.entries from
none_from m from r range is k low = run_at_absent m.entries k (range.5 is k (upto from k low, tt))

pub last_fits : (runs : List (ℕ × List ℕ)) (to at : ℕ) (bytes : List ℕ) → AreKept runs → IsLast runs to at bytes → at + length bytes < 18446744073709551616
last_fits runs to at bytes kept last = let e : at + length bytes ≤ 18446744073709551615 = ends runs 18446744073709551615 at bytes kept.1 last.here in omega arith

-- a range whose last offset is found by the search meets a run exactly where that run ends behind its start
pub touches_here : (runs : List (ℕ × List ℕ)) (to begin at len : ℕ) (bytes : List ℕ) → AreKept runs → IsLast runs to begin bytes → to < at + len → at < begin + length bytes → 0 < len → (i : ℕ) × (at ≤ i) × (i < at + len) × IsSome (get (map_of (pieces_of runs)) i)
touches_here runs to begin at len bytes kept last reach behind some =
    let low : begin ≤ to = last.low in
    let size : (0 ≤ begin) × (0 < length bytes) = disjoint_low runs 0 begin bytes kept.0 last.here in
    elim (cases_lt begin at) [
      | inl before ↦ (at, omega arith, omega arith, rw (get_in runs 0 kept.0 begin bytes at last.here (omega arith) behind) refl)
      | inr from ↦ (begin, from, omega arith, rw (get_in runs 0 kept.0 begin bytes begin last.here (omega arith) (omega arith)) refl)
    ]

pub touches_only : (runs : List (ℕ × List ℕ)) (to begin at len i : ℕ) (bytes : List ℕ) → AreKept runs → IsLast runs to begin bytes → to ≡ min (at + (len - 1)) 18446744073709551615 → at ≤ i → i < at + len → IsSome (get (map_of (pieces_of runs)) i) → at < begin + length bytes
touches_only runs to begin at len i bytes kept last reach low high some =
    let w : Within runs i = byte_within runs 0 kept.0 i some in
    let w_low : w.at ≤ i = w.low in
    let w_high : i < w.at + length w.bytes = w.high in
    let w_ends : w.at + length w.bytes ≤ 18446744073709551615 = ends runs _ w.at w.bytes kept.1 w.here in
    let w_to : w.at ≤ to = omega arith in
    elim (cases_lt begin w.at) [
      | inl behind ↦ let none : run_at runs w.at ≡ None = last.last w.at behind w_to in let here : run_at runs w.at ≡ Some w.bytes = w.here in cc
      | inr until ↦ elim (cases_lt w.at begin) [
        | inl before ↦ let before_it : w.at + length w.bytes ≤ begin = disjoint_pair runs 0 kept.0 w.at begin w.bytes bytes w.here last.here before in omega arith
        | inr from ↦ let same : w.at ≡ begin = omega arith in
            let here : run_at runs begin ≡ Some w.bytes = subst (λ k. run_at runs k ≡ Some w.bytes) same w.here in
            let found : run_at runs begin ≡ Some bytes = last.here in
            let bytes_same : w.bytes ≡ bytes = cc in
            let size : length w.bytes ≡ length bytes = ap length bytes_same in
            omega arith
      ]
    ]

pub touches_none : (runs : List (ℕ × List ℕ)) (to at len i : ℕ) → AreKept runs → NoneFrom runs to → to ≡ min (at + (len - 1)) 18446744073709551615 → at ≤ i → i < at + len → IsSome (get (map_of (pieces_of runs)) i) → ⊥
touches_none runs to at len i kept nothing reach low high some =
    let w : Within runs i = byte_within runs 0 kept.0 i some in
    let w_low : w.at ≤ i = w.low in
    let w_high : i < w.at + length w.bytes = w.high in
    let w_ends : w.at + length w.bytes ≤ 18446744073709551615 = ends runs _ w.at w.bytes kept.1 w.here in
    let none : run_at runs w.at ≡ None = nothing w.at (omega arith) in
    let here : run_at runs w.at ≡ Some w.bytes = w.here in
    cc

-- an offset behind the end of the last run that begins there or before it is in no run
pub not_held : (runs : List (ℕ × List ℕ)) (begin at : ℕ) (bytes : List ℕ) → AreKept runs → IsLast runs at begin bytes → begin + length bytes ≤ at → IsSome (get (map_of (pieces_of runs)) at) → ⊥
not_held runs begin at bytes kept last behind some =
    let w : Within runs at = byte_within runs 0 kept.0 at some in
    let w_low : w.at ≤ at = w.low in
    let w_high : at < w.at + length w.bytes = w.high in
    let here : run_at runs w.at ≡ Some w.bytes = w.here in
    elim (cases_lt begin w.at) [
      | inl after ↦ let none : run_at runs w.at ≡ None = last.last w.at after w_low in cc
      | inr until ↦ elim (cases_lt w.at begin) [
        | inl before ↦ let before_it : w.at + length w.bytes ≤ begin = disjoint_pair runs 0 kept.0 w.at begin w.bytes bytes w.here last.here before in omega arith
        | inr from ↦ let same : w.at ≡ begin = omega arith in
            let there : run_at runs begin ≡ Some w.bytes = subst (λ k. run_at runs k ≡ Some w.bytes) same w.here in
            let found : run_at runs begin ≡ Some bytes = last.here in
            let bytes_same : w.bytes ≡ bytes = cc in
            let size : length w.bytes ≡ length bytes = ap length bytes_same in
            omega arith
      ]
    ]

pub none_held : (runs : List (ℕ × List ℕ)) (at : ℕ) → AreKept runs → NoneFrom runs at → IsSome (get (map_of (pieces_of runs)) at) → ⊥
none_held runs at kept nothing some =
    let w : Within runs at = byte_within runs 0 kept.0 at some in
    let none : run_at runs w.at ≡ None = nothing w.at w.low in
    let here : run_at runs w.at ≡ Some w.bytes = w.here in
    cc

-- each offset from one on and before another has a byte
abbrev pub AreHeld : FinMap nat_cmp ℕ → ℕ → ℕ → Type 0
AreHeld m from to = (i : ℕ) → from ≤ i → i < to → IsSome (get m i)

-- the range that is held reaches to the end of the last run that begins at its end or before it
pub held_on : (runs : List (ℕ × List ℕ)) (begin at from to : ℕ) (bytes : List ℕ) → AreKept runs → IsLast runs from begin bytes → to ≤ begin + length bytes → AreHeld (map_of (pieces_of runs)) at from → AreHeld (map_of (pieces_of runs)) at to
held_on runs begin at from to bytes kept last reach held i low high =
    let first : begin ≤ from = last.low in
    elim (cases_lt i from) [
      | inl before ↦ held i low before
      | inr behind ↦ rw (get_in runs 0 kept.0 begin bytes i last.here (omega arith) (omega arith)) refl
    ]

-- bytes of the last run that begins at an offset or before it, from that offset on, are what the map has there
pub lent_bytes : (runs : List (ℕ × List ℕ)) (m : FinMap nat_cmp ℕ) (at begin from n : ℕ) (bytes behind lent under : List ℕ) → AreKept runs → map_of (pieces_of runs) ≡ m → IsLast runs at begin bytes → behind ≡ drop from bytes → lent ≡ take n behind → length lent ≡ n → from ≡ at - begin → length under ≡ n → overlaid m at under ≡ lent
lent_bytes runs m at begin from n bytes behind lent under kept is last back front has place size =
    let first : begin ≤ at = last.low in
    let part : lent ≡ range from n bytes = front ∙ ap (take n) back in
    let reach : length lent ≡ min n (length bytes - from) = ap length part ∙ length-range from n bytes in
    same_bytes _ _ (length-overlaid m at under ∙ size ∙ sym has) (λ i h.
    let j : i < length under = omega (arith, length-overlaid m at under) in
    let k : i < n = omega arith in
    get-overlaid m at under i j
    ∙ ap (λ o. unwrap_or o (get_or under i 0)) (ap (λ x. get x (at + i)) (sym is) ∙ get_in runs 0 kept.0 begin bytes (at + i) last.here (omega arith) (omega arith))
    ∙ ap (λ p. get_or bytes p 0) (omega arith)
    ∙ sym (ap (λ bs. get_or bs i 0) part ∙ get-range from n bytes i k))

-- to lay the last of some runs over a buffer, and then the others, is to lay all of them over
pub over_last : (runs : List (ℕ × List ℕ)) (run : ℕ × List ℕ) (at : ℕ) (xs : List ℕ) → overlaid (map_of (pieces_of (runs ++ run ∷ []))) at xs ≡ overlaid (map_of (pieces_of runs)) at (overlaid (with_bytes empty run.0 run.1) at xs)
unfolding map_of
over_last [] run at xs = sym (overlaid-empty at (overlaid (with_bytes empty run.0 run.1) at xs))
over_last (first ∷ runs) run at xs =
    overlaid-with_bytes (map_of (pieces_of (runs ++ run ∷ []))) first.0 first.1 at xs
    ∙ ap (overlaid (with_bytes empty first.0 first.1) at) (over_last runs run at xs)
    ∙ sym (overlaid-with_bytes (map_of (pieces_of runs)) first.0 first.1 at (overlaid (with_bytes empty run.0 run.1) at xs))

pub over_none : (runs : List (ℕ × List ℕ)) (at : ℕ) (xs : List ℕ) → runs ≡ [] → overlaid (map_of (pieces_of runs)) at xs ≡ xs
unfolding map_of
over_none runs at xs e = ap (λ rs. overlaid (map_of (pieces_of rs)) at xs) e ∙ overlaid-empty at xs

-- runs that end before a buffer change nothing in it
pub over_behind : (runs : List (ℕ × List ℕ)) (at : ℕ) (xs : List ℕ) → EndBy at (pieces_of runs) → overlaid (map_of (pieces_of runs)) at xs ≡ xs
unfolding map_of
over_behind [] at xs h = overlaid-empty at xs
over_behind (run ∷ runs) at xs h = overlaid-misses (map_of (pieces_of runs)) run.0 run.1 at xs (inl h.0) ∙ over_behind runs at xs h.1

-- the runs that begin at an offset or before it, where the buffer ends no further behind it
pub over_until : (runs : List (ℕ × List ℕ)) (at to : ℕ) (xs : List ℕ) → EndBy 18446744073709551615 (pieces_of runs) → to ≡ min (at + (length xs - 1)) 18446744073709551615 → overlaid (map_of (pieces_of (entries_between nat_cmp Unbounded (Included to) runs))) at xs ≡ overlaid (map_of (pieces_of runs)) at xs
unfolding map_of
over_until [] at to xs all reach = refl
over_until (run ∷ runs) at to xs all reach =
    elim (is_lt (nat_cmp to run.0)) as (λ b. is_lt (nat_cmp to run.0) ≡ b → overlaid (map_of (pieces_of (cond (true && not b) (run ∷ entries_between nat_cmp Unbounded (Included to) runs) (entries_between nat_cmp Unbounded (Included to) runs)))) at xs ≡ overlaid (with_bytes (map_of (pieces_of runs)) run.0 run.1) at xs) [
      | true ↦ λ e. over_until runs at to xs all.1 reach
          ∙ sym (overlaid-misses (map_of (pieces_of runs)) run.0 run.1 at xs
          (inr (inl (let low : to < run.0 = past to run.0 e in let end : run.0 + length run.1 ≤ 18446744073709551615 = all.0 in omega arith))))
      | false ↦ λ e. overlaid-with_bytes (map_of (pieces_of (entries_between nat_cmp Unbounded (Included to) runs))) run.0 run.1 at xs
          ∙ ap (overlaid (with_bytes empty run.0 run.1) at) (over_until runs at to xs all.1 reach)
          ∙ sym (overlaid-with_bytes (map_of (pieces_of runs)) run.0 run.1 at xs)
    ] refl

-- a list of runs that begins earlier, one without its last run, and one without some of its runs
disjoint_from : (runs : List (ℕ × List ℕ)) (from to : ℕ) → from ≤ to → AreDisjoint to (pieces_of runs) → AreDisjoint from (pieces_of runs)
disjoint_from [] from to h disjoint = tt
disjoint_from (run ∷ runs) from to h disjoint = let low : to ≤ run.0 = disjoint.0 in (omega arith, disjoint.1, disjoint.2)

disjoint_front : (runs : List (ℕ × List ℕ)) (from : ℕ) (run : ℕ × List ℕ) → AreDisjoint from (pieces_of (runs ++ run ∷ [])) → AreDisjoint from (pieces_of runs)
disjoint_front [] from run disjoint = tt
disjoint_front (first ∷ runs) from run disjoint = (disjoint.0, disjoint.1, disjoint_front runs _ run disjoint.2)

end_front : (runs : List (ℕ × List ℕ)) (end : ℕ) (run : ℕ × List ℕ) → EndBy end (pieces_of (runs ++ run ∷ [])) → EndBy end (pieces_of runs)
end_front [] end run all = tt
end_front (first ∷ runs) end run all = (all.0, end_front runs end run all.1)

end_last : (runs : List (ℕ × List ℕ)) (end : ℕ) (run : ℕ × List ℕ) → EndBy end (pieces_of (runs ++ run ∷ [])) → run.0 + length run.1 ≤ end
end_last [] end run all = all.0
end_last (first ∷ runs) end run all = end_last runs end run all.1

pub kept_front : (runs : List (ℕ × List ℕ)) (run : ℕ × List ℕ) → AreKept (runs ++ run ∷ []) → AreKept runs
kept_front runs run kept = (disjoint_front runs 0 run kept.0, end_front runs _ run kept.1)

pub kept_last : (runs : List (ℕ × List ℕ)) (run : ℕ × List ℕ) → AreKept (runs ++ run ∷ []) → run.0 + length run.1 ≤ 18446744073709551615
kept_last runs run kept = end_last runs _ run kept.1

front_low : (runs : List (ℕ × List ℕ)) (from : ℕ) (run : ℕ × List ℕ) → AreDisjoint from (pieces_of (runs ++ run ∷ [])) → from ≤ run.0
front_low [] from run disjoint = disjoint.0
front_low (first ∷ runs) from run disjoint =
    let behind : first.0 + length first.1 ≤ run.0 = front_low runs (first.0 + length first.1) run disjoint.2 in
    let low : from ≤ first.0 = disjoint.0 in
    omega arith

front_ends : (runs : List (ℕ × List ℕ)) (from at : ℕ) (run : ℕ × List ℕ) → AreDisjoint from (pieces_of (runs ++ run ∷ [])) → run.0 ≤ at → EndBy at (pieces_of runs)
front_ends [] from at run disjoint h = tt
front_ends (first ∷ runs) from at run disjoint h =
    let behind : first.0 + length first.1 ≤ run.0 = front_low runs (first.0 + length first.1) run disjoint.2 in
    (omega arith, front_ends runs (first.0 + length first.1) at run disjoint.2 h)

disjoint_filter : (runs : List (ℕ × List ℕ)) (from : ℕ) (p : ℕ × List ℕ → Bool) → AreDisjoint from (pieces_of runs) → AreDisjoint from (pieces_of (filter p runs))
disjoint_filter [] from p disjoint = tt
disjoint_filter (run ∷ runs) from p disjoint =
    let others : AreDisjoint (run.0 + length run.1) (pieces_of (filter p runs)) = disjoint_filter runs (run.0 + length run.1) p disjoint.2 in
    let low : from ≤ run.0 = disjoint.0 in
    elim (p run) as (λ b. AreDisjoint from (pieces_of (cond b (run ∷ filter p runs) (filter p runs)))) [
      | true ↦ (disjoint.0, disjoint.1, others)
      | false ↦ disjoint_from (filter p runs) from (run.0 + length run.1) (omega arith) others
    ]

end_filter : (runs : List (ℕ × List ℕ)) (end : ℕ) (p : ℕ × List ℕ → Bool) → EndBy end (pieces_of runs) → EndBy end (pieces_of (filter p runs))
end_filter [] end p all = tt
end_filter (run ∷ runs) end p all =
    elim (p run) as (λ b. EndBy end (pieces_of (cond b (run ∷ filter p runs) (filter p runs)))) [
      | true ↦ (all.0, end_filter runs end p all.1)
      | false ↦ end_filter runs end p all.1
    ]

-- before the loop over the runs that may meet a buffer, at each step of it, and where it may stop
pub over_start : (runs left : List (ℕ × List ℕ)) (m : FinMap nat_cmp ℕ) (at to : ℕ) (xs : List ℕ) → AreKept runs → map_of (pieces_of runs) ≡ m → left ≡ entries_between nat_cmp Unbounded (Included to) runs → to ≡ min (at + (length xs - 1)) 18446744073709551615 → AreKept left × (overlaid (map_of (pieces_of left)) at xs ≡ overlaid m at xs)
over_start runs left m at to xs kept is lefts reach = (
  rw lefts (disjoint_filter runs 0 _ kept.0, end_filter runs _ _ kept.1),
  ap (λ rs. overlaid (map_of (pieces_of rs)) at xs) lefts ∙ over_until runs at to xs kept.1 reach ∙ ap (λ k. overlaid k at xs) is,
)

pub over_step : (runs left : List (ℕ × List ℕ)) (run : ℕ × List ℕ) (m : FinMap nat_cmp ℕ) (at : ℕ) (xs ys zs bs : List ℕ) → left ≡ runs ++ run ∷ [] → bs ≡ run.1 → zs ≡ overlaid (with_bytes empty run.0 bs) at ys → AreKept left × (overlaid (map_of (pieces_of left)) at ys ≡ overlaid m at xs) → AreKept runs × (overlaid (map_of (pieces_of runs)) at zs ≡ overlaid m at xs)
over_step runs left run m at xs ys zs bs is same laid so =
    let kept : AreKept (runs ++ run ∷ []) = subst AreKept is so.0 in (
      kept_front runs run kept,
      ap (overlaid (map_of (pieces_of runs)) at) (laid ∙ ap (λ b. overlaid (with_bytes empty run.0 b) at ys) same)
          ∙ sym (over_last runs run at ys) ∙ ap (λ rs. overlaid (map_of (pieces_of rs)) at ys) (sym is) ∙ so.1,
    )

pub over_stop : (runs left : List (ℕ × List ℕ)) (run : ℕ × List ℕ) (m : FinMap nat_cmp ℕ) (at : ℕ) (xs ys zs bs : List ℕ) → left ≡ runs ++ run ∷ [] → bs ≡ run.1 → zs ≡ overlaid (with_bytes empty run.0 bs) at ys → AreKept left × (overlaid (map_of (pieces_of left)) at ys ≡ overlaid m at xs) → run.0 + length bs ≤ at → zs ≡ overlaid m at xs
over_stop runs left run m at xs ys zs bs is same laid so behind =
    let kept : AreKept (runs ++ run ∷ []) = subst AreKept is so.0 in
    let before : EndBy at (pieces_of runs) = front_ends runs 0 at run kept.0 (omega arith) in
    let next : AreKept runs × (overlaid (map_of (pieces_of runs)) at zs ≡ overlaid m at xs) = over_step runs left run m at xs ys zs bs is same laid so in
    sym (over_behind runs at zs before) ∙ next.1

pub over_end : (left : List (ℕ × List ℕ)) (m : FinMap nat_cmp ℕ) (at : ℕ) (xs ys : List ℕ) → left ≡ [] → AreKept left × (overlaid (map_of (pieces_of left)) at ys ≡ overlaid m at xs) → ys ≡ overlaid m at xs
over_end left m at xs ys is so = sym (over_none left at ys is) ∙ so.1
