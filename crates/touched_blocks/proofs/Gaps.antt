-- Ranges of addresses at which only blocks stand that move: one new chunk, one old chunk after the other.
use Rattle.std.proofs.Common.{◌≡◌, ℕ, zero, suc, ◌+◌, ◌-◌, ◌<◌, ◌≤◌, ◌^◌, ◌==◌, Bool, true, false, not, ◌&&◌, ◌||◌, nat_le, nat_lt, cond, List, [], ◌∷◌, ◌++◌, length, take, get_or, ◌⊎◌, inl, inr, sym, ◌∙◌, refl, ap, subst, arith, eq-eqb, length-append}
use Rattle.std.specs.Prelude.{Option, Some, None, Result, Ok, Err, OnOk}
use Rattle.std.specs.List.{Contains, count_by, list_any, sum_by}
use Rattle.std.specs.List.Sorted.{IsNonDecreasingBy, IsPermutation}
use Rattle.std.proofs.lemmas.Bool.{cases_lt, eqb-true}
use Rattle.std.proofs.lemmas.Bool.Decides.{nat_tests}
use Rattle.std.proofs.lemmas.List.{take_all}
use Rattle.std.proofs.lemmas.List.Folds.{list_any-append, list_any_more}
use Rattle.std.proofs.lemmas.List.Sorted.{list_any-IsPermutation, sum_by-IsPermutation}
use Rattle.std.proofs.lemmas.List.Sums.{sum_by_more}
use Rattle.verdict.proofs.Truth.{false_if as is_no, never as yes_no, not_of_false, and_left, and_right, and_true, or_cases, or_left, or_right, decided}
use Rattle.verdict.specs.Chunks.{holds_range, home, place, place_in, place_of_copies}
use Rattle.verdict.specs.declared.place.Chunk.{Chunk}
use Rattle.verdict.specs.declared.place.Place.{Place}
use Rattle.verdict.specs.declared.place.Place.TheVariants.{Nowhere, One, Two}
use Rattle.touched_blocks.specs.declared.moved.Move.{Move}
use Rattle.touched_blocks.specs.declared.range.Range.{Range}
use Rattle.touched_blocks.specs.Adding.{AreAdded}
use Rattle.touched_blocks.specs.Leaving.{HasRoom, IsMoving, IsPassed, both_hold, is_past, leaves, leaves_one, lie_alike, meet_by, ranges_left, same_offset, same_seconds}
use Rattle.touched_blocks.specs.Looks.{has_place}
use Rattle.touched_blocks.specs.Moves.{is_kept_chunk, move_passes}
use Rattle.touched_blocks.specs.Spots.{LiesIn, has_address, is_in}
use Rattle.touched_blocks.specs.Touched.{same_place}
use Rattle.touched_blocks.proofs.Adding.{adds_more, adds_sorted, adds_start, homed, one_of}
use Rattle.touched_blocks.proofs.Moving.{found_holds, holds_byte, holds_low, not_not, one_any, one_byte}

nothing : false ≡ true → ⊥
nothing h = cc

-- ---- one new chunk

-- a list gets the range from one address on in front of those of another, or stays as it was where there is none
abbrev pub GetsGap : ℕ → Range → List Range → List Range → Type 0
GetsGap at both old new =
    ((at < both.from) × (new ≡ old ++ record { from = at; last = both.from - 1 } ∷ [])) ⊎ ((both.from ≤ at) × (new ≡ old))

in_front : (at : ℕ) (both : Range) (a : ℕ) → a < both.from → at ≤ a → (old new : List Range)
    → GetsGap at both old new → is_in new a ≡ true
in_front at both a below above old new (inr (none, is)) = absurd (omega arith)
in_front at both a below above old new (inl (some, is)) =
    subst (λ l. is_in l a ≡ true) (sym is) (list_any-append (has_address a) old _ ∙ or_right (is_in old a) _ (or_left _ _ here))
  where
    here : (nat_le at a && nat_le a (both.from - 1)) ≡ true
    here = grind (arith, nat_tests)

only_front : (at : ℕ) (both : Range) (a : ℕ) (old new : List Range)
    → GetsGap at both old new
    → is_in new a ≡ true → (is_in old a ≡ true) ⊎ ((at ≤ a) × (a < both.from))
only_front at both a old new (inr (none, is)) h = inl (subst (λ l. is_in l a ≡ true) is h)
only_front at both a old new (inl (some, is)) h =
    elim (or_cases (is_in old a) _ (sym (list_any-append (has_address a) old _) ∙ subst (λ l. is_in l a ≡ true) is h)) [
      | inl had ↦ inl had
      | inr here ↦ inr (by (elim (or_cases (nat_le at a && nat_le a (both.from - 1)) _ here) [ inl is_here ↦ is_here | inr elsewhere ↦ absurd (nothing elsewhere) ]))
    ]
  where
    by : (nat_le at a && nat_le a (both.from - 1)) ≡ true → (at ≤ a) × (a < both.from)
    by here = (low, high)
      where
        low : at ≤ a
        low = grind (arith, nat_tests)

        high : a < both.from
        high = grind (arith, nat_tests)

pub gap_passed : (nodesize : ℕ) (chunk other : Chunk) (at : ℕ) (both : Range) (next : Option ℕ) (old new : List Range)
    → ((a : ℕ) → a < 2 ^ 64 → both_hold nodesize chunk a other ≡ true → LiesIn (Some both) a)
    → ((a : ℕ) → has_address a both ≡ true → both_hold nodesize chunk a other ≡ true)
    → ((a : ℕ) → chunk.start ≤ a → a < both.from → a < other.start)
    → both.from + nodesize ≤ chunk.start + chunk.length → both.from ≤ 2 ^ 64 → meet_by nodesize chunk other ≡ true
    → ((a : ℕ) → a < 2 ^ 64 → is_past next a ≡ (nat_lt a at || nat_le a both.last)) → ((a : ℕ) → a < at → is_past next a ≡ true)
    → GetsGap at both old new
    → IsPassed nodesize chunk other (Some at) next old new
gap_passed nodesize chunk other at both next old new all only low room small meets value on is = record {
  kept = λ a h. keeps a h is;
  found = λ a fits h. elim (cases_lt a at) [
    | inl before ↦ inl (lt_true a at before)
    | inr behind ↦ inr (elim (cases_lt a both.from) [
      | inl front ↦ inl (in_front at both a front behind old new is)
      | inr in_both ↦ inr (only a (lies a in_both (last_of a behind (sym (value a fits) ∙ h))))
    ])
  ];
  only = λ a h. elim (only_front at both a old new is h) [
    | inl had ↦ inl had
    | inr here ↦ inr (lt_false a at here.0, (omega (arith, here.1), omega (arith, here.1)), λ begun. low a begun here.1)
  ];
  past = λ a fits h. value a fits ∙ or_right (nat_lt a at) _ (and_right (nat_le both.from a) _ (all a fits h));
  on = λ a h. on a (lt_of a at h);
  few =
      let one : cond {A = ℕ} (meet_by nodesize chunk other) 1 0 ≡ 1 = ap (λ b. cond {A = ℕ} b 1 0) meets in
      let long : length new ≤ length old + 1 = longer is in
      omega arith;
}
  where
    lt_true : (a n : ℕ) → a < n → nat_lt a n ≡ true
    lt_true a n h = grind (arith, nat_tests)

    lt_false : (a n : ℕ) → n ≤ a → nat_lt a n ≡ false
    lt_false a n h = grind (arith, nat_tests)

    lt_of : (a n : ℕ) → nat_lt a n ≡ true → a < n
    lt_of a n h = grind (arith, nat_tests)

    last_of : (a : ℕ) → at ≤ a → (nat_lt a at || nat_le a both.last) ≡ true → a ≤ both.last
    last_of a behind h = grind (arith, nat_tests)

    lies : (a : ℕ) → both.from ≤ a → a ≤ both.last → has_address a both ≡ true
    lies a from last = grind (arith, nat_tests)

    keeps : (a : ℕ) → is_in old a ≡ true
        → GetsGap at both old new → is_in new a ≡ true
    keeps a h (inl (some, is)) = subst (λ l. is_in l a ≡ true) (sym is) (list_any-append (has_address a) old _ ∙ or_left _ _ h)
    keeps a h (inr (none, is)) = subst (λ l. is_in l a ≡ true) (sym is) h

    longer : GetsGap at both old new → length new ≤ length old + 1
    longer (inl (some, is)) = omega (arith, ap length is, length-append old (record { from = at; last = both.from - 1 } ∷ []))
    longer (inr (none, is)) = omega (arith, ap length is)

-- ---- one old chunk

-- a chunk holds the block at an address, which no other holds at the same place
abbrev pub IsLeft : ℕ → Chunk → List Chunk → ℕ → Type 0
IsLeft nodesize chunk others a = (holds_range chunk a nodesize ≡ true) × (list_any (both_hold nodesize chunk a) others ≡ false)

-- what is so behind the first of the other chunks
pub record AreLeft (nodesize : ℕ) (chunk : Chunk) (others : List Chunk) (i : ℕ) (cursor : Option ℕ) (old new : List Range) : Type 0 where
  pub kept : (a : ℕ) → is_in old a ≡ true → is_in new a ≡ true
  pub found : (a : ℕ) → a < 2 ^ 64 → holds_range chunk a nodesize ≡ true → is_past cursor a ≡ true
      → (is_in new a ≡ true) ⊎ (list_any (both_hold nodesize chunk a) (take i others) ≡ true)
  pub only : (a : ℕ) → is_in new a ≡ true → (is_in old a ≡ true) ⊎ IsLeft nodesize chunk others a
  pub past : (a : ℕ) → a < 2 ^ 64 → list_any (both_hold nodesize chunk a) (take i others) ≡ true → is_past cursor a ≡ true
  pub above : (a : ℕ) → is_past cursor a ≡ false → chunk.start ≤ a
  pub few : length new ≤ length old + count_by (meet_by nodesize chunk) (take i others)

-- one of a list passes a test among the first of them, or is a later one
any_split : (p : Chunk → Bool) (xs : List Chunk) (i : ℕ) (d : Chunk) → list_any p xs ≡ true
    → (list_any p (take i xs) ≡ true) ⊎ ((k : ℕ) × (i ≤ k) × (k < length xs) × (p (get_or xs k d) ≡ true))
any_split p [] i d h = cc
any_split p (x ∷ xs) zero d h = elim (or_cases (p x) _ h) [
  | inl here ↦ inr (0, omega arith, omega arith, here)
  | inr later ↦ elim (any_split p xs zero d later) [
    | inl none ↦ absurd (nothing none)
    | inr is ↦ inr (suc is.0, omega arith, omega (arith, is.2), is.3)
  ]
]
any_split p (x ∷ xs) (suc i) d h = elim (or_cases (p x) _ h) [
  | inl here ↦ inl (or_left _ _ here)
  | inr later ↦ elim (any_split p xs i d later) [
    | inl before ↦ inl (or_right (p x) _ before)
    | inr is ↦ inr (suc is.0, omega (arith, is.1), omega (arith, is.2), is.3)
  ]
]

-- what both hold begins behind the start of the other
other_low : (nodesize : ℕ) (chunk other : Chunk) (a : ℕ) → both_hold nodesize chunk a other ≡ true → other.start ≤ a
other_low nodesize chunk other a h = low (and_right (holds_range chunk a nodesize) _ (and_right (lie_alike chunk other) _ h))
  where
    low : holds_range other a nodesize ≡ true → other.start ≤ a
    low holds = grind (arith, nat_tests)

-- a chunk has room for a block
pub holds_room : (nodesize : ℕ) (chunk : Chunk) (a : ℕ) → chunk.start ≤ a → a + nodesize ≤ chunk.start + chunk.length → holds_range chunk a nodesize ≡ true
holds_room nodesize chunk a low high = grind (arith, nat_tests)

pub left_more : (nodesize : ℕ) (chunk : Chunk) (others : List Chunk) (i : ℕ) (d : Chunk) (cursor next : Option ℕ) (old mid new : List Range)
    → IsNonDecreasingBy (λ (chunk : Chunk). chunk.start) others → AreLeft nodesize chunk others i cursor old mid → i < length others
    → IsPassed nodesize chunk (get_or others i d) cursor next mid new → AreLeft nodesize chunk others (i + 1) next old new
left_more nodesize chunk others i d cursor next old mid new rise so_far inside passed = record {
  kept = λ a h. passed.kept a (so_far.kept a h);
  found = λ a small holds h. elim (passed.found a small h) [
    | inl before ↦ elim (so_far.found a small holds before) [
      | inl had ↦ inl (passed.kept a had)
      | inr any ↦ inr (more a ∙ or_left _ _ any)
    ]
    | inr rest ↦ elim rest [
      | inl is ↦ inl is
      | inr both ↦ inr (more a ∙ or_right (list_any (both_hold nodesize chunk a) (take i others)) _ both)
    ]
  ];
  only = λ a h. elim (passed.only a h) [
    | inl had ↦ so_far.only a had
    | inr is ↦ inr (
      holds_room nodesize chunk a (so_far.above a is.0) is.1.0,
      is_no _ (λ any. none a is.0 is.1.1 (is.2 (so_far.above a is.0)) (any_split (both_hold nodesize chunk a) others i d any)),
    )
  ];
  past = λ a small h. elim (or_cases _ _ (sym (more a) ∙ h)) [
    | inl before ↦ passed.on a (so_far.past a small before)
    | inr here ↦ passed.past a small here
  ];
  above = λ a h. so_far.above a (is_no _ (λ before. yes_no _ (passed.on a before) h));
  few =
      let one : length mid ≤ length old + count_by (meet_by nodesize chunk) (take i others) = so_far.few in
      let two : length new ≤ length mid + cond (meet_by nodesize chunk (get_or others i d)) 1 0 = passed.few in
      omega (arith, sum_by_more (λ (c : Chunk). cond {A = ℕ} (meet_by nodesize chunk c) 1 0) others i d inside);
}
  where
    more : (a : ℕ) → list_any (both_hold nodesize chunk a) (take (i + 1) others)
        ≡ (list_any (both_hold nodesize chunk a) (take i others) || both_hold nodesize chunk a (get_or others i d))
    more a = list_any_more (both_hold nodesize chunk a) others i d inside

    none : (a : ℕ) → is_past cursor a ≡ false → a < 2 ^ 64 → a < (get_or others i d).start
        → (list_any (both_hold nodesize chunk a) (take i others) ≡ true)
        ⊎ ((k : ℕ) × (i ≤ k) × (k < length others) × (both_hold nodesize chunk a (get_or others k d) ≡ true)) → ⊥
    none a ahead small front (inl before) = yes_no _ (so_far.past a small before) ahead
    none a ahead small front (inr (k, from, within, both)) =
        let low : (get_or others k d).start ≤ a = other_low nodesize chunk (get_or others k d) a both in
        let order : (get_or others i d).start ≤ (get_or others k d).start = rise i k d from within in
        omega arith

-- ---- a block that no new chunk holds at the same place moves

offset_back : (start at other to a : ℕ) → (at + (a - start) == to + (a - other)) ≡ true → start ≤ a → other ≤ a → same_offset start at other to ≡ true
offset_back start at other to a h low other_low =
    let same : at + (a - start) ≡ to + (a - other) = eqb-true _ _ h in
    eq-eqb (at + other) (to + start) (omega arith)

one_one : (b e : Bool) (x y : ℕ) → has_place (cond b (One x) Nowhere) ≡ true → same_place (cond b (One x) Nowhere) (cond e (One y) Nowhere) ≡ true → (x == y) ≡ true
one_one true true x y placed same = same
one_one true false x y placed same = absurd (nothing same)
one_one false e x y placed same = absurd (nothing placed)

one_two : (b e : Bool) (x y z : ℕ) → has_place (cond b (One x) Nowhere) ≡ true → same_place (cond b (One x) Nowhere) (cond e (Two y z) Nowhere) ≡ true → ⊥
one_two true true x y z placed same = nothing same
one_two true false x y z placed same = nothing same
one_two false e x y z placed same = nothing placed

two_one : (b e : Bool) (x w y : ℕ) → has_place (cond b (Two x w) Nowhere) ≡ true → same_place (cond b (Two x w) Nowhere) (cond e (One y) Nowhere) ≡ true → ⊥
two_one true true x w y placed same = nothing same
two_one true false x w y placed same = nothing same
two_one false e x w y placed same = nothing placed

two_two : (b e : Bool) (x w y z : ℕ) → has_place (cond b (Two x w) Nowhere) ≡ true → same_place (cond b (Two x w) Nowhere) (cond e (Two y z) Nowhere) ≡ true
    → (x == y && w == z) ≡ true
two_two true true x w y z placed same = same
two_two true false x w y z placed same = absurd (nothing same)
two_two false e x w y z placed same = absurd (nothing placed)

-- two chunks that give a block the same place lie alike
place_alike : (c d : Chunk) (a n end : ℕ) → c.start ≤ a → d.start ≤ a → has_place (place_in (Some c) a n end) ≡ true
    → same_place (place_in (Some c) a n end) (place_in (Some d) a n end) ≡ true → lie_alike c d ≡ true
place_alike c d a n end low other = by c.second d.second
  where
    by : (s t : Option ℕ) → has_place (place_of_copies c.first s (a - c.start) n end) ≡ true
        → same_place (place_of_copies c.first s (a - c.start) n end) (place_of_copies d.first t (a - d.start) n end) ≡ true
        → (same_offset c.start c.first d.start d.first && same_seconds c.start s d.start t) ≡ true
    by None None placed same =
        and_true _ _ (offset_back c.start c.first d.start d.first a
        (one_one (nat_le (c.first + (a - c.start) + n) end) (nat_le (d.first + (a - d.start) + n) end) (c.first + (a - c.start)) (d.first + (a - d.start)) placed same) low other) refl
    by None (Some t) placed same =
        absurd (one_two (nat_le (c.first + (a - c.start) + n) end) (nat_le (d.first + (a - d.start) + n) end && nat_le (t + (a - d.start) + n) end)
        (c.first + (a - c.start)) (d.first + (a - d.start)) (t + (a - d.start)) placed same)
    by (Some s) None placed same =
        absurd (two_one (nat_le (c.first + (a - c.start) + n) end && nat_le (s + (a - c.start) + n) end) (nat_le (d.first + (a - d.start) + n) end)
        (c.first + (a - c.start)) (s + (a - c.start)) (d.first + (a - d.start)) placed same)
    by (Some s) (Some t) placed same =
        let both = two_two (nat_le (c.first + (a - c.start) + n) end && nat_le (s + (a - c.start) + n) end)
        (nat_le (d.first + (a - d.start) + n) end && nat_le (t + (a - d.start) + n) end)
        (c.first + (a - c.start)) (s + (a - c.start)) (d.first + (a - d.start)) (t + (a - d.start)) placed same in
        and_true _ _ (offset_back c.start c.first d.start d.first a (and_left _ _ both) low other)
        (offset_back c.start s d.start t a (and_right (c.first + (a - c.start) == d.first + (a - d.start)) _ both) low other)

left_moves : (move : Move) (c : Chunk) (a : ℕ) → Contains move.old.now c → IsLeft move.nodesize c move.new.now a → IsMoving move a
unfolding move_passes
left_moves move c a of left placed apart some =
    let found = homed (home move.old.now a move.nodesize) a move.nodesize move.end placed in
    let held = found_holds move.old.now a move.nodesize found.0 found.1 in
    let same : found.0 ≡ c =
    one_byte move.old.now found.0 c a apart held.1 (one_of move.old.now of.0 c c of.1 of.2) (holds_byte found.0 a move.nodesize some held.0) (holds_byte c a move.nodesize some left.0) in
    let is : home move.old.now a move.nodesize ≡ Some c = found.1 ∙ ap Some same in
    subst (λ o. not (same_place (place_in o a move.nodesize move.end) (place move.new.now a move.nodesize move.end)) ≡ true) (sym is)
    (not_of_false _ (is_no _ (elsewhere (subst (λ o. has_place (place_in o a move.nodesize move.end) ≡ true) is placed) (home move.new.now a move.nodesize) refl)))
  where
    no_place : (p : Place) → same_place p Nowhere ≡ true → has_place p ≡ true → ⊥
    no_place Nowhere same placed = nothing placed
    no_place (One x) same placed = nothing same
    no_place (Two x y) same placed = nothing same

    elsewhere : has_place (place_in (Some c) a move.nodesize move.end) ≡ true → (o : Option Chunk) → home move.new.now a move.nodesize ≡ o
        → same_place (place_in (Some c) a move.nodesize move.end) (place_in o a move.nodesize move.end) ≡ true → ⊥
    elsewhere there None is same = no_place (place_in (Some c) a move.nodesize move.end) same there
    elsewhere there (Some d) is same =
        let found = found_holds move.new.now a move.nodesize d is in
        let alike = place_alike c d a move.nodesize move.end (holds_low c a move.nodesize left.0) (holds_low d a move.nodesize found.0) there same in
        yes_no _ (one_any (both_hold move.nodesize c a) move.new.now d found.1 (and_true _ _ alike (and_true _ _ left.0 found.0))) left.1

-- ---- behind the last new chunk

leaves_found : (move : Move) (chunk : Chunk) (others : List Chunk) (cursor : Option ℕ) (old new : List Range) (rest : Option Range)
    → IsPermutation move.new.now others → AreLeft move.nodesize chunk others (length others) cursor old new
    → ((a : ℕ) → a < 2 ^ 64 → is_past cursor a ≡ false → holds_range chunk a move.nodesize ≡ true → LiesIn rest a)
    → (a : ℕ) → a < 2 ^ 64 → leaves move a chunk ≡ true → (is_in new a ≡ true) ⊎ LiesIn rest a
leaves_found move chunk others cursor old new rest order all lies a small h =
    elim (decided (is_past cursor a)) [
      | inl before ↦ elim (all.found a small holds before) [
        | inl is ↦ inl is
        | inr any ↦ absurd (not_not (list_any (both_hold move.nodesize chunk a) move.new.now)
            (list_any-IsPermutation (both_hold move.nodesize chunk a) move.new.now others order
            ∙ subst (λ l. list_any (both_hold move.nodesize chunk a) l ≡ true) (take_all (length others) others (omega arith)) any)
            (and_right (holds_range chunk a move.nodesize) _ left))
      ]
      | inr ahead ↦ inr (lies a small ahead holds)
    ]
  where
    left : (holds_range chunk a move.nodesize && not (list_any (both_hold move.nodesize chunk a) move.new.now)) ≡ true
    left = and_right (not (is_kept_chunk move.new.now chunk)) _ h

    holds : holds_range chunk a move.nodesize ≡ true
    holds = and_left _ _ left

few_meet : (move : Move) (chunk : Chunk) (others : List Chunk) → IsPermutation move.new.now others
    → count_by (meet_by move.nodesize chunk) (take (length others) others) ≡ count_by (meet_by move.nodesize chunk) move.new.now
few_meet move chunk others order =
    ap (count_by (meet_by move.nodesize chunk)) (take_all (length others) others (omega arith))
    ∙ sum_by-IsPermutation (λ (c : Chunk). cond {A = ℕ} (meet_by move.nodesize chunk c) 1 0) move.new.now others order

none_left : (move : Move) (chunk : Chunk) (others : List Chunk) → IsPermutation move.new.now others → (a : ℕ)
    → IsLeft move.nodesize chunk others a → IsLeft move.nodesize chunk move.new.now a
none_left move chunk others order a left = (left.0, list_any-IsPermutation (both_hold move.nodesize chunk a) move.new.now others order ∙ left.1)

pub left_none : (move : Move) (chunk : Chunk) (others : List Chunk) (cursor : Option ℕ) (old new : List Range) (rest : Option Range)
    → IsPermutation move.new.now others → Contains move.old.now chunk → AreLeft move.nodesize chunk others (length others) cursor old new
    → ((a : ℕ) → a < 2 ^ 64 → is_past cursor a ≡ false → holds_range chunk a move.nodesize ≡ true → LiesIn rest a) → rest ≡ None
    → AreAdded (IsMoving move) (λ a. leaves move a chunk) (ranges_left move.nodesize move.new.now chunk) old new
left_none move chunk others cursor old new rest order of all lies none = record {
  kept = all.kept;
  found = λ a small h. elim (leaves_found move chunk others cursor old new rest order all lies a small h) [
    | inl is ↦ is
    | inr here ↦ absurd (subst (λ o. LiesIn o a) none here)
  ];
  only = λ a h. elim (all.only a h) [
    | inl had ↦ inl had
    | inr left ↦ inr (left_moves move chunk a of (none_left move chunk others order a left))
  ];
  few = omega (arith, all.few, few_meet move chunk others order);
}

left_one : (move : Move) (chunk : Chunk) (others : List Chunk) (cursor : Option ℕ) (old new last : List Range) (range : Range)
    → IsPermutation move.new.now others → Contains move.old.now chunk → AreLeft move.nodesize chunk others (length others) cursor old new
    → ((a : ℕ) → a < 2 ^ 64 → is_past cursor a ≡ false → holds_range chunk a move.nodesize ≡ true → LiesIn (Some range) a)
    → ((a : ℕ) → has_address a range ≡ true → is_past cursor a ≡ false) → ((a : ℕ) → has_address a range ≡ true → HasRoom move.nodesize chunk a)
    → last ≡ new ++ range ∷ []
    → AreAdded (IsMoving move) (λ a. leaves move a chunk) (ranges_left move.nodesize move.new.now chunk) old last
left_one move chunk others cursor old new last range order of all lies past room is =
    subst (AreAdded (IsMoving move) (λ a. leaves move a chunk) (ranges_left move.nodesize move.new.now chunk) old) (sym is) (record {
      kept = λ a h. list_any-append (has_address a) new (range ∷ []) ∙ or_left _ _ (all.kept a h);
      found = λ a small h. list_any-append (has_address a) new (range ∷ [])
          ∙ elim (leaves_found move chunk others cursor old new (Some range) order all lies a small h) as (λ _. (is_in new a || is_in (range ∷ []) a) ≡ true) [
            | inl had ↦ or_left _ _ had
            | inr here ↦ or_right (is_in new a) _ (or_left _ _ here)
          ];
      only = λ a h. elim (or_cases (is_in new a) _ (sym (list_any-append (has_address a) new (range ∷ [])) ∙ h)) [
        | inl had ↦ elim (all.only a had) [
          | inl before ↦ inl before
          | inr left ↦ inr (left_moves move chunk a of (none_left move chunk others order a left))
        ]
        | inr here ↦ inr (left_moves move chunk a of (none_left move chunk others order a
            (in_rest a (elim (or_cases (has_address a range) _ here) [ inl is_here ↦ is_here | inr elsewhere ↦ absurd (nothing elsewhere) ]))))
      ];
      few =
          let long : length (new ++ range ∷ []) ≡ length new + length (range ∷ []) = length-append new (range ∷ []) in
          omega (arith, all.few, few_meet move chunk others order);
    })
  where
    in_rest : (a : ℕ) → has_address a range ≡ true → IsLeft move.nodesize chunk others a
    in_rest a here = (
      holds_room move.nodesize chunk a (all.above a (past a here)) (room a here).0,
      is_no _ (λ any. yes_no _
          (all.past a (room a here).1 (subst (λ l. list_any (both_hold move.nodesize chunk a) l ≡ true) (sym (take_all (length others) others (omega arith))) any)) (past a here)),
    )

pub left_rest : {T E : Type 0} (r : Result T E) (move : Move) (chunk : Chunk) (others : List Chunk) (cursor : Option ℕ) (old new last : List Range) (range : Range)
    → IsPermutation move.new.now others → Contains move.old.now chunk → AreLeft move.nodesize chunk others (length others) cursor old new
    → ((a : ℕ) → a < 2 ^ 64 → is_past cursor a ≡ false → holds_range chunk a move.nodesize ≡ true → LiesIn (Some range) a)
    → ((a : ℕ) → has_address a range ≡ true → is_past cursor a ≡ false) → ((a : ℕ) → has_address a range ≡ true → HasRoom move.nodesize chunk a)
    → OnOk r (last ≡ new ++ range ∷ [])
    → OnOk r (AreAdded (IsMoving move) (λ a. leaves move a chunk) (ranges_left move.nodesize move.new.now chunk) old last)
left_rest (Ok x) move chunk others cursor old new last range order of all lies past room is =
    left_one move chunk others cursor old new last range order of all lies past room is
left_rest (Err e) move chunk others cursor old new last range order of all lies past room is = tt

-- ---- all old chunks

abbrev pub AddedLeft : Move → List Chunk → List Range → List Range → Type 0
AddedLeft move chunks =
    AreAdded (IsMoving move) (λ a. list_any (leaves move a) chunks) (sum_by (ranges_left move.nodesize move.new.now) chunks)

pub all_start : (move : Move) (chunks : List Chunk) (old : List Range) → AddedLeft move (take 0 chunks) old old
all_start move chunks old = adds_start (IsMoving move) (leaves move) (ranges_left move.nodesize move.new.now) chunks old

pub all_more : (move : Move) (chunks : List Chunk) (i : ℕ) (d : Chunk) (old mid new : List Range) → AddedLeft move (take i chunks) old mid → i < length chunks
    → AreAdded (IsMoving move) (λ a. leaves move a (get_or chunks i d)) (ranges_left move.nodesize move.new.now (get_or chunks i d)) mid new
    → AddedLeft move (take (i + 1) chunks) old new
all_more move chunks i d old mid new begun inside more =
    adds_more (IsMoving move) (leaves move) (ranges_left move.nodesize move.new.now) chunks i d old mid new begun inside more

pub all_left : (move : Move) (chunks : List Chunk) (i : ℕ) (old new sorted : List Range) → chunks ≡ move.old.now → take i chunks ≡ chunks
    → AddedLeft move (take i chunks) old new → old ≡ [] → IsPermutation new sorted
    → AreAdded (IsMoving move) (leaves_one move) (sum_by (ranges_left move.nodesize move.new.now) move.old.now) [] sorted
all_left move chunks i old new sorted is whole added none order =
    adds_sorted (IsMoving move) (leaves_one move) (sum_by (ranges_left move.nodesize move.new.now) move.old.now) [] new sorted order
    (subst (λ l. AddedLeft move move.old.now l new) none (subst (λ l. AddedLeft move l old new) (whole ∙ is) added))
