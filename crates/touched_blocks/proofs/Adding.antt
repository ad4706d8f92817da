-- Ranges of addresses at which pending writes touch a block: one part of the writes, one copy, one chunk after the other.
use Rattle.std.proofs.Common.{◌≡◌, ℕ, zero, suc, ◌+◌, ◌-◌, ◌<◌, ◌≤◌, ◌^◌, Bool, true, false, ◌&&◌, ◌||◌, nat_le, cond, List, [], ◌∷◌, ◌++◌, length, take, get_or, ◌⊎◌, inl, inr, sym, ◌∙◌, refl, ap, subst, arith, length-append}
use Rattle.std.specs.Prelude.{Option, Some, None, Result, Ok, Err, OnOk}
use Rattle.std.specs.List.{count_by, list_any, sum_by}
use Rattle.std.specs.List.Sorted.{IsPermutation}
use Rattle.std.proofs.lemmas.Bool.{cases_lt}
use Rattle.std.proofs.lemmas.Bool.Decides.{nat_tests}
use Rattle.std.proofs.lemmas.List.Folds.{list_any-append, list_any_at, list_any_more}
use Rattle.std.proofs.lemmas.List.Sorted.{length_permutation, list_any-IsPermutation}
use Rattle.std.proofs.lemmas.List.Sums.{sum_by_more}
use Rattle.touched_blocks.proofs.Joining.{has_in}
use Rattle.verdict.proofs.Truth.{and_left, and_right, and_true, or_cases, or_left, or_right}
use Rattle.verdict.specs.Chunks.{home, holds_range, place_in, place_of_copies}
use Rattle.verdict.specs.declared.place.Chunk.{Chunk}
use Rattle.verdict.specs.declared.place.Place.TheVariants.{Nowhere, One, Two}
use Rattle.touched_blocks.specs.declared.pending.Pending.{Pending}
use Rattle.touched_blocks.specs.declared.range.Range.{Range}
use Rattle.touched_blocks.specs.declared.spot.Spot.{Spot}
use Rattle.touched_blocks.specs.Adding.{AreAdded, IsCopyOf, IsTouched, IsWrittenIn}
use Rattle.touched_blocks.specs.Looks.{has_place, in_copies, in_one_copy, in_second_copy, range_count}
use Rattle.touched_blocks.specs.Pending.{touches, touches_in_chunk, touches_in_copy, touches_in_second}
use Rattle.touched_blocks.specs.Spots.{LiesIn, has_address, has_offset, is_in, meets_in_copy, ranges_meet}
use Rattle.touched_blocks.specs.Touched.{Written, any_written, copy_written, written_in}
use Rattle.touched_blocks.proofs.Moving.{IsOneOf, found_holds, has_byte, holds_byte, one_byte}
use Rattle.touched_blocks.proofs.Writing.{one_written, written_one}

-- ---- lists of ranges

nothing : false ≡ true → ⊥
nothing h = cc

-- some, and then others
adds_then : (Is : ℕ → Type 0) (first later must : ℕ → Bool) (m n : ℕ) (old mid new : List Range) → AreAdded Is first m old mid → AreAdded Is later n mid new
    → ((a : ℕ) → must a ≡ true → (first a ≡ true) ⊎ (later a ≡ true)) → AreAdded Is must (m + n) old new
adds_then Is first later must m n old mid new begun more covers = record {
  kept = λ a h. more.kept a (begun.kept a h);
  found = λ a small h. elim (covers a h) [ inl one ↦ more.kept a (begun.found a small one) | inr two ↦ more.found a small two ];
  only = λ a h. elim (more.only a h) [
    | inl had ↦ elim (begun.only a had) [ inl before ↦ inl before | inr is ↦ inr is ]
    | inr is ↦ inr is
  ];
  few =
      let one : length mid ≤ length old + m = begun.few in
      let two : length new ≤ length mid + n = more.few in
      omega arith;
}

-- the same by another test and another number
adds_as : (Is : ℕ → Type 0) (first must : ℕ → Bool) (m n : ℕ) (old new : List Range) → AreAdded Is first m old new
    → ((a : ℕ) → a < 2 ^ 64 → must a ≡ true → first a ≡ true) → m ≤ n → AreAdded Is must n old new
adds_as Is first must m n old new added covers fewer = record {
  kept = added.kept;
  found = λ a small h. added.found a small (covers a small h);
  only = added.only;
  few = let one : length new ≤ length old + m = added.few in omega arith;
}

adds_none : (Is : ℕ → Type 0) (must : ℕ → Bool) (n : ℕ) (old : List Range) → ((a : ℕ) → a < 2 ^ 64 → must a ≡ true → ⊥) → AreAdded Is must n old old
adds_none Is must n old none = record {
  kept = λ a h. h;
  found = λ a small h. absurd (none a small h);
  only = λ a h. inl h;
  few = omega arith;
}

-- what is added for the first of some things
pub adds_start : {X : Type 0} (Is : ℕ → Type 0) (must : ℕ → X → Bool) (count : X → ℕ) (xs : List X) (old : List Range)
    → AreAdded Is (λ a. list_any (must a) (take 0 xs)) (sum_by count (take 0 xs)) old old
adds_start Is must count xs old = adds_none Is (λ a. false) 0 old (λ a small h. nothing h)

pub adds_more : {X : Type 0} (Is : ℕ → Type 0) (must : ℕ → X → Bool) (count : X → ℕ) (xs : List X) (i : ℕ) (d : X) (old mid new : List Range)
    → AreAdded Is (λ a. list_any (must a) (take i xs)) (sum_by count (take i xs)) old mid → i < length xs
    → AreAdded Is (λ a. must a (get_or xs i d)) (count (get_or xs i d)) mid new
    → AreAdded Is (λ a. list_any (must a) (take (i + 1) xs)) (sum_by count (take (i + 1) xs)) old new
adds_more Is must count xs i d old mid new begun inside more =
    subst (λ n. AreAdded Is (λ a. list_any (must a) (take (i + 1) xs)) n old new) (sym (sum_by_more count xs i d inside))
    (adds_then Is (λ a. list_any (must a) (take i xs)) (λ a. must a (get_or xs i d)) (λ a. list_any (must a) (take (i + 1) xs)) (sum_by count (take i xs))
    (count (get_or xs i d)) old mid new begun more
    (λ a h. or_cases _ _ (sym (list_any_more (must a) xs i d inside) ∙ h)))

-- in whichever order
pub adds_sorted : (Is : ℕ → Type 0) (must : ℕ → Bool) (n : ℕ) (old new sorted : List Range) → IsPermutation new sorted → AreAdded Is must n old new → AreAdded Is must n old sorted
adds_sorted Is must n old new sorted order added = record {
  kept = λ a h. sym (same a) ∙ added.kept a h;
  found = λ a small h. sym (same a) ∙ added.found a small h;
  only = λ a h. added.only a (same a ∙ h);
  few =
      let long : length sorted ≡ length new = length_permutation new sorted order in
      let fewer : length new ≤ length old + n = added.few in
      omega arith;
}
  where
    same : (a : ℕ) → is_in new a ≡ is_in sorted a
    same a = list_any-IsPermutation (has_address a) new sorted order

-- ---- one part of the writes

-- an offset that two ranges have in common
common : (at m from n : ℕ) → ranges_meet at m from n ≡ true → (o : ℕ) × (at ≤ o) × (o < at + m) × (from ≤ o) × (o < from + n)
common at m from n h = elim (cases_lt at from) [
  | inl before ↦ (from, omega arith, one, omega arith, omega (arith, some))
  | inr behind ↦ (at, omega arith, omega (arith, bytes), omega arith, two)
]
  where
    some : 0 < n
    some = grind (arith, nat_tests)

    bytes : 0 < m
    bytes = grind (arith, nat_tests)

    one : from < at + m
    one = grind (arith, nat_tests)

    two : at < from + n
    two = grind (arith, nat_tests)

in_chunks_copy : (chunk : Chunk) (copy a n o : ℕ) → holds_range chunk a n ≡ true → o < copy + (a - chunk.start) + n → o < copy + chunk.length
in_chunks_copy chunk copy a n o holds high = grind (arith, nat_tests)

-- a copy is written where a block has a place in its chunk
copy_touched : (written : Written) (first : ℕ) (second : Option ℕ) (offset n end copy : ℕ) → (copy ≡ first) ⊎ (second ≡ Some copy)
    → has_place (place_of_copies first second offset n end) ≡ true → any_written written (copy + offset) n ≡ true
    → copy_written written n (place_of_copies first second offset n end) ≡ true
copy_touched written first None offset n end copy (inl is) placed h = by (nat_le (first + offset + n) end) placed
  where
    by : (b : Bool) → has_place (cond b (One (first + offset)) Nowhere) ≡ true → copy_written written n (cond b (One (first + offset)) Nowhere) ≡ true
    by true placed = subst (λ x. any_written written (x + offset) n ≡ true) is h
    by false placed = absurd (nothing placed)
copy_touched written first None offset n end copy (inr is) placed h = absurd (none is)
  where
    none : None ≡ Some copy → ⊥
    none e = cc
copy_touched written first (Some second) offset n end copy which placed h = by (nat_le (first + offset + n) end && nat_le (second + offset + n) end) placed
  where
    same : Some second ≡ Some copy → second ≡ copy
    same e = ap (λ o. elim o as (λ _. ℕ) [ None ↦ 0 | Some x ↦ x ]) e

    by : (b : Bool) → has_place (cond b (Two (first + offset) (second + offset)) Nowhere) ≡ true
        → copy_written written n (cond b (Two (first + offset) (second + offset)) Nowhere) ≡ true
    by true placed = elim which [
      | inl is ↦ or_left _ _ (subst (λ x. any_written written (x + offset) n ≡ true) is h)
      | inr is ↦ or_right (any_written written (first + offset) n) _ (subst (λ x. any_written written (x + offset) n ≡ true) (sym (same is)) h)
    ]
    by false placed = absurd (nothing placed)

pub homed : (o : Option Chunk) (a n end : ℕ) → has_place (place_in o a n end) ≡ true → (c : Chunk) × (o ≡ Some c)
homed None a n end h = absurd (nothing h)
homed (Some c) a n end h = (c, refl)

pub one_of : (chunks : List Chunk) (k : ℕ) (d c : Chunk) → k < length chunks → get_or chunks k d ≡ c → IsOneOf c chunks
one_of [] k d c inside is = absurd (omega arith)
one_of (chunk ∷ chunks) zero d c inside is = inl (sym is)
one_of (chunk ∷ chunks) (suc k) d c inside is = inr (one_of chunks k d c (omega arith) is)

-- where a part that is written meets a copy, each block is touched that has a place there
spot_touches : (pending : Pending) (spot : Spot) (chunk : Chunk) (copy : ℕ) (range : Range) → IsCopyOf pending.map.now chunk copy → IsWrittenIn pending spot copy chunk.length
    → chunk.start ≤ range.from → range.last < chunk.start + chunk.length
    → ((a : ℕ) → 0 < pending.nodesize → has_address a range ≡ true → holds_range chunk a pending.nodesize ≡ true → meets_in_copy spot pending.nodesize chunk copy a ≡ true)
    → (a : ℕ) → has_address a range ≡ true → IsTouched pending a
unfolding touches
spot_touches pending spot chunk copy range of written low high meets a within placed apart some =
    let found = homed (home pending.map.now a pending.nodesize) a pending.nodesize pending.end placed in
    let held = found_holds pending.map.now a pending.nodesize found.0 found.1 in
    let same : found.0 ≡ chunk =
    one_byte pending.map.now found.0 chunk a apart held.1 (one_of pending.map.now of.0.0 chunk chunk of.0.1 of.0.2) (holds_byte found.0 a pending.nodesize some held.0) in_range in
    let is : home pending.map.now a pending.nodesize ≡ Some chunk = found.1 ∙ ap Some same in
    let holds : holds_range chunk a pending.nodesize ≡ true = subst (λ c. holds_range c a pending.nodesize ≡ true) same held.0 in
    let at = common spot.at spot.len (copy + (a - chunk.start)) pending.nodesize (and_right (holds_range chunk a pending.nodesize) _ (meets a some within holds)) in
    subst (λ o. copy_written (written_in pending.cache.now) pending.nodesize (place_in o a pending.nodesize pending.end) ≡ true) (sym is)
    (copy_touched (written_in pending.cache.now) chunk.first chunk.second (a - chunk.start) pending.nodesize pending.end copy of.1
    (subst (λ o. has_place (place_in o a pending.nodesize pending.end) ≡ true) is placed)
    (one_written (written_in pending.cache.now) (copy + (a - chunk.start)) pending.nodesize at.0 at.3 at.4
    (written at.0 (omega (arith, at.3)) (in_chunks_copy chunk copy a pending.nodesize at.0 holds at.4) (has_in at.0 spot at.1 at.2))))
  where
    above : range.from ≤ a
    above = grind (arith, nat_tests)

    below : a ≤ range.last
    below = grind (arith, nat_tests)

    in_range : has_byte chunk a
    in_range = (omega (arith, above), omega (arith, below))

-- a copy that a part does not meet
pub none_added : (pending : Pending) (spot : Spot) (chunk : Chunk) (copy : ℕ) (old : List Range) (found : Option Range)
    → ((a : ℕ) → a < 2 ^ 64 → meets_in_copy spot pending.nodesize chunk copy a ≡ true → LiesIn found a) → found ≡ None
    → AreAdded (IsTouched pending) (meets_in_copy spot pending.nodesize chunk copy) (cond (ranges_meet spot.at spot.len copy chunk.length) 1 0) old old
none_added pending spot chunk copy old found lies none =
    adds_none (IsTouched pending) (meets_in_copy spot pending.nodesize chunk copy) (cond (ranges_meet spot.at spot.len copy chunk.length) 1 0) old
    (λ a small h. subst (λ o. LiesIn o a) none (lies a small h))

-- and one that it meets at the addresses of a range
one_range : (pending : Pending) (spot : Spot) (chunk : Chunk) (copy : ℕ) (old new : List Range) (range : Range) → IsCopyOf pending.map.now chunk copy
    → IsWrittenIn pending spot copy chunk.length
    → ((a : ℕ) → a < 2 ^ 64 → meets_in_copy spot pending.nodesize chunk copy a ≡ true → LiesIn (Some range) a)
    → chunk.start ≤ range.from → range.last < chunk.start + chunk.length
    → ((a : ℕ) → 0 < pending.nodesize → has_address a range ≡ true → holds_range chunk a pending.nodesize ≡ true → meets_in_copy spot pending.nodesize chunk copy a ≡ true)
    → ranges_meet spot.at spot.len copy chunk.length ≡ true → new ≡ old ++ range ∷ []
    → AreAdded (IsTouched pending) (meets_in_copy spot pending.nodesize chunk copy) (cond (ranges_meet spot.at spot.len copy chunk.length) 1 0) old new
one_range pending spot chunk copy old new range of written lies low high only meets is =
    subst (AreAdded (IsTouched pending) (meets_in_copy spot pending.nodesize chunk copy) (cond (ranges_meet spot.at spot.len copy chunk.length) 1 0) old) (sym is) (record {
      kept = λ a h. list_any-append (has_address a) old (range ∷ []) ∙ or_left _ _ h;
      found = λ a small h. list_any-append (has_address a) old (range ∷ []) ∙ or_right (is_in old a) _ (or_left _ _ (lies a small h));
      only = λ a h. elim (or_cases (is_in old a) _ (sym (list_any-append (has_address a) old (range ∷ [])) ∙ h)) [
        | inl had ↦ inl had
        | inr here ↦ inr (spot_touches pending spot chunk copy range of written low high only a
            (elim (or_cases (has_address a range) _ here) [ inl is_here ↦ is_here | inr elsewhere ↦ absurd (nothing elsewhere) ]))
      ];
      few =
          let long : length (old ++ range ∷ []) ≡ length old + length (range ∷ []) = length-append old (range ∷ []) in
          let one : cond {A = ℕ} (ranges_meet spot.at spot.len copy chunk.length) 1 0 ≡ 1 = ap (λ b. cond b 1 0) meets in
          omega arith;
    })

pub one_added : {T E : Type 0} (r : Result T E) (pending : Pending) (spot : Spot) (chunk : Chunk) (copy : ℕ) (old new : List Range) (range : Range)
    → IsCopyOf pending.map.now chunk copy → IsWrittenIn pending spot copy chunk.length
    → ((a : ℕ) → a < 2 ^ 64 → meets_in_copy spot pending.nodesize chunk copy a ≡ true → LiesIn (Some range) a)
    → chunk.start ≤ range.from → range.last < chunk.start + chunk.length
    → ((a : ℕ) → 0 < pending.nodesize → has_address a range ≡ true → holds_range chunk a pending.nodesize ≡ true → meets_in_copy spot pending.nodesize chunk copy a ≡ true)
    → ranges_meet spot.at spot.len copy chunk.length ≡ true → OnOk r (new ≡ old ++ range ∷ [])
    → OnOk r (AreAdded (IsTouched pending) (meets_in_copy spot pending.nodesize chunk copy) (cond (ranges_meet spot.at spot.len copy chunk.length) 1 0) old new)
one_added (Ok x) pending spot chunk copy old new range of written lies low high only meets is =
    one_range pending spot chunk copy old new range of written lies low high only meets is
one_added (Err e) pending spot chunk copy old new range of written lies low high only meets is = tt

-- ---- one copy

-- what a part has of the copy is written
pub item_written : (pending : Pending) (items : List Spot) (i : ℕ) (d : Spot) (copy n : ℕ)
    → ((o : ℕ) → copy ≤ o → o < copy + n → list_any (has_offset o) items ≡ list_any (has_offset o) pending.spots.items) → i < length items
    → IsWrittenIn pending (get_or items i d) copy n
item_written pending items i d copy n same inside o low high has =
    pending.listed.whole o ∙ sym (same o low high) ∙ list_any_at (has_offset o) items i d inside has

-- what is added for the first of some parts
abbrev pub AddedSpots : Pending → Chunk → ℕ → List Spot → List Range → List Range → Type 0
AddedSpots pending chunk copy spots =
    AreAdded (IsTouched pending) (λ a. list_any (λ spot. meets_in_copy spot pending.nodesize chunk copy a) spots) (in_one_copy spots chunk.length copy)

pub spots_start : (pending : Pending) (chunk : Chunk) (copy : ℕ) (spots : List Spot) (old : List Range) → AddedSpots pending chunk copy (take 0 spots) old old
spots_start pending chunk copy spots old =
    adds_start (IsTouched pending) (λ a spot. meets_in_copy spot pending.nodesize chunk copy a) (λ (spot : Spot). cond (ranges_meet spot.at spot.len copy chunk.length) 1 0) spots old

pub spots_more : (pending : Pending) (chunk : Chunk) (copy : ℕ) (spots : List Spot) (i : ℕ) (d : Spot) (old mid new : List Range)
    → AddedSpots pending chunk copy (take i spots) old mid → i < length spots
    → AreAdded (IsTouched pending) (meets_in_copy (get_or spots i d) pending.nodesize chunk copy)
    (cond (ranges_meet (get_or spots i d).at (get_or spots i d).len copy chunk.length) 1 0) mid new
    → AddedSpots pending chunk copy (take (i + 1) spots) old new
spots_more pending chunk copy spots i d old mid new begun inside more =
    adds_more (IsTouched pending) (λ a spot. meets_in_copy spot pending.nodesize chunk copy a) (λ (spot : Spot). cond (ranges_meet spot.at spot.len copy chunk.length) 1 0)
    spots i d old mid new begun inside more

-- a block of a chunk that one of the writes touches in a copy meets a range that has a byte of that copy
any_meets : (nodesize : ℕ) (chunk : Chunk) (copy a o : ℕ) (spots : List Spot) → holds_range chunk a nodesize ≡ true
    → copy + (a - chunk.start) ≤ o → o < copy + (a - chunk.start) + nodesize
    → list_any (has_offset o) spots ≡ true → list_any (λ spot. meets_in_copy spot nodesize chunk copy a) spots ≡ true
any_meets nodesize chunk copy a o [] holds low high h = cc
any_meets nodesize chunk copy a o (spot ∷ spots) holds low high h =
    elim (or_cases (has_offset o spot) _ h) [
      | inl here ↦ or_left _ _ (and_true _ _ holds (meets (copy + (a - chunk.start)) low high here))
      | inr later ↦ or_right (meets_in_copy spot nodesize chunk copy a) _ (any_meets nodesize chunk copy a o spots holds low high later)
    ]
  where
    meets : (from : ℕ) → from ≤ o → o < from + nodesize → has_offset o spot ≡ true → ranges_meet spot.at spot.len from nodesize ≡ true
    meets from begins ends here = grind (arith, nat_tests)

pub spots_all : (pending : Pending) (chunk : Chunk) (copy : ℕ) (spots : List Spot) (i : ℕ) (old new : List Range) → take i spots ≡ spots
    → ((o : ℕ) → copy ≤ o → o < copy + chunk.length → list_any (has_offset o) spots ≡ list_any (has_offset o) pending.spots.items)
    → ((test : Spot → Bool) → count_by test spots ≤ count_by test pending.spots.items)
    → AddedSpots pending chunk copy (take i spots) old new
    → AreAdded (IsTouched pending) (touches_in_copy pending chunk copy) (in_one_copy pending.spots.items chunk.length copy) old new
spots_all pending chunk copy spots i old new whole same fewer added =
    adds_as (IsTouched pending) (λ a. list_any (λ spot. meets_in_copy spot pending.nodesize chunk copy a) spots) (touches_in_copy pending chunk copy)
    (in_one_copy spots chunk.length copy) (in_one_copy pending.spots.items chunk.length copy) old new
    (subst (λ l. AddedSpots pending chunk copy l old new) whole added)
    (λ a small h. met a h)
    (fewer (λ (spot : Spot). ranges_meet spot.at spot.len copy chunk.length))
  where
    met : (a : ℕ) → touches_in_copy pending chunk copy a ≡ true → list_any (λ spot. meets_in_copy spot pending.nodesize chunk copy a) spots ≡ true
    met a h =
        let holds = and_left (holds_range chunk a pending.nodesize) _ h in
        let found = written_one (written_in pending.cache.now) (copy + (a - chunk.start)) pending.nodesize (and_right (holds_range chunk a pending.nodesize) _ h) in
        any_meets pending.nodesize chunk copy a found.0 spots holds found.1 found.2
        (same found.0 (omega (arith, found.1)) (in_chunks_copy chunk copy a pending.nodesize found.0 holds found.2) ∙ sym (pending.listed.whole found.0) ∙ found.3)

-- ---- one chunk

-- a chunk with one copy, and one with two
pub one_copy : (pending : Pending) (chunk : Chunk) (old new : List Range) → chunk.second ≡ None
    → AreAdded (IsTouched pending) (touches_in_copy pending chunk chunk.first) (in_one_copy pending.spots.items chunk.length chunk.first) old new
    → AreAdded (IsTouched pending) (touches_in_chunk pending chunk) (in_copies pending.spots.items chunk) old new
one_copy pending chunk old new alone added =
    adds_as (IsTouched pending) (touches_in_copy pending chunk chunk.first) (touches_in_chunk pending chunk)
    (in_one_copy pending.spots.items chunk.length chunk.first) (in_copies pending.spots.items chunk) old new added
    (λ a small h.
    elim (or_cases (touches_in_copy pending chunk chunk.first a) _ h) [
      | inl first ↦ first
      | inr second ↦ absurd (nothing (subst (λ o. touches_in_second pending chunk o a ≡ true) alone second))
    ])
    (omega arith)

pub two_copies : (pending : Pending) (chunk : Chunk) (second : ℕ) (old mid new : List Range) → chunk.second ≡ Some second
    → AreAdded (IsTouched pending) (touches_in_copy pending chunk chunk.first) (in_one_copy pending.spots.items chunk.length chunk.first) old mid
    → AreAdded (IsTouched pending) (touches_in_copy pending chunk second) (in_one_copy pending.spots.items chunk.length second) mid new
    → AreAdded (IsTouched pending) (touches_in_chunk pending chunk) (in_copies pending.spots.items chunk) old new
two_copies pending chunk second old mid new both begun more =
    subst (λ o. AreAdded (IsTouched pending) (touches_in_chunk pending chunk) (in_one_copy pending.spots.items chunk.length chunk.first + in_second_copy pending.spots.items chunk.length o) old new) (sym both)
    (adds_then (IsTouched pending) (touches_in_copy pending chunk chunk.first) (touches_in_copy pending chunk second) (touches_in_chunk pending chunk)
    (in_one_copy pending.spots.items chunk.length chunk.first) (in_one_copy pending.spots.items chunk.length second) old mid new begun more
    (λ a h.
    elim (or_cases (touches_in_copy pending chunk chunk.first a) _ h) [
      | inl here ↦ inl here
      | inr there ↦ inr (subst (λ o. touches_in_second pending chunk o a ≡ true) both there)
    ]))

-- ---- all chunks

abbrev pub AddedChunks : Pending → List Chunk → List Range → List Range → Type 0
AddedChunks pending chunks = AreAdded (IsTouched pending) (λ a. list_any (λ chunk. touches_in_chunk pending chunk a) chunks) (sum_by (in_copies pending.spots.items) chunks)

pub chunks_start : (pending : Pending) (chunks : List Chunk) (old : List Range) → AddedChunks pending (take 0 chunks) old old
chunks_start pending chunks old = adds_start (IsTouched pending) (λ a chunk. touches_in_chunk pending chunk a) (in_copies pending.spots.items) chunks old

pub chunks_more : (pending : Pending) (chunks : List Chunk) (i : ℕ) (d : Chunk) (old mid new : List Range)
    → AddedChunks pending (take i chunks) old mid → i < length chunks
    → AreAdded (IsTouched pending) (touches_in_chunk pending (get_or chunks i d)) (in_copies pending.spots.items (get_or chunks i d)) mid new
    → AddedChunks pending (take (i + 1) chunks) old new
chunks_more pending chunks i d old mid new begun inside more =
    adds_more (IsTouched pending) (λ a chunk. touches_in_chunk pending chunk a) (in_copies pending.spots.items) chunks i d old mid new begun inside more

-- a block that is touched is touched in a chunk of the list
place_touched : (pending : Pending) (chunk : Chunk) (a : ℕ) → holds_range chunk a pending.nodesize ≡ true
    → copy_written (written_in pending.cache.now) pending.nodesize (place_of_copies chunk.first chunk.second (a - chunk.start) pending.nodesize pending.end) ≡ true
    → touches_in_chunk pending chunk a ≡ true
place_touched pending chunk a holds = by chunk.second refl
  where
    written : ℕ → Bool
    written n = any_written (written_in pending.cache.now) (n + (a - chunk.start)) pending.nodesize

    placed_one : (b : Bool) → copy_written (written_in pending.cache.now) pending.nodesize (cond b (One (chunk.first + (a - chunk.start))) Nowhere) ≡ true → written chunk.first ≡ true
    placed_one true h = h
    placed_one false h = cc

    placed_two : (b : Bool) (second : ℕ)
        → copy_written (written_in pending.cache.now) pending.nodesize (cond b (Two (chunk.first + (a - chunk.start)) (second + (a - chunk.start))) Nowhere) ≡ true
        → (written chunk.first || written second) ≡ true
    placed_two true second h = h
    placed_two false second h = cc

    by : (o : Option ℕ) → chunk.second ≡ o
        → copy_written (written_in pending.cache.now) pending.nodesize (place_of_copies chunk.first o (a - chunk.start) pending.nodesize pending.end) ≡ true
        → touches_in_chunk pending chunk a ≡ true
    by None is h = or_left _ _ (and_true _ _ holds (placed_one (nat_le (chunk.first + (a - chunk.start) + pending.nodesize) pending.end) h))
    by (Some second) is h =
        elim (or_cases _ _
        (placed_two (nat_le (chunk.first + (a - chunk.start) + pending.nodesize) pending.end && nat_le (second + (a - chunk.start) + pending.nodesize) pending.end) second h)) [
          | inl first ↦ or_left _ _ (and_true _ _ holds first)
          | inr other ↦ or_right (touches_in_copy pending chunk chunk.first a) _
              (subst (λ o. touches_in_second pending chunk o a ≡ true) (sym is) (and_true _ _ holds other))
        ]

home_any : (pending : Pending) (chunks : List Chunk) (a : ℕ)
    → copy_written (written_in pending.cache.now) pending.nodesize (place_in (home chunks a pending.nodesize) a pending.nodesize pending.end) ≡ true
    → list_any (λ chunk. touches_in_chunk pending chunk a) chunks ≡ true
home_any pending [] a h = cc
home_any pending (chunk ∷ chunks) a h = by (home_any pending chunks a) (holds_range chunk a pending.nodesize) refl h
  where
    by : (copy_written (written_in pending.cache.now) pending.nodesize (place_in (home chunks a pending.nodesize) a pending.nodesize pending.end) ≡ true
        → list_any (λ chunk. touches_in_chunk pending chunk a) chunks ≡ true)
        → (b : Bool) → holds_range chunk a pending.nodesize ≡ b
        → copy_written (written_in pending.cache.now) pending.nodesize (place_in (cond b (Some chunk) (home chunks a pending.nodesize)) a pending.nodesize pending.end) ≡ true
        → (touches_in_chunk pending chunk a || list_any (λ chunk. touches_in_chunk pending chunk a) chunks) ≡ true
    by rest true holds written = or_left _ _ (place_touched pending chunk a holds written)
    by rest false other written = or_right (touches_in_chunk pending chunk a) _ (rest written)

-- in whichever order
pub chunks_all : (pending : Pending) (chunks : List Chunk) (i : ℕ) (old new sorted : List Range) → chunks ≡ pending.map.now → take i chunks ≡ chunks
    → AddedChunks pending (take i chunks) old new → old ≡ [] → IsPermutation new sorted
    → AreAdded (IsTouched pending) (touches pending) (range_count pending.spots.items pending.map.now) [] sorted
unfolding touches
chunks_all pending chunks i old new sorted is whole added none order =
    adds_sorted (IsTouched pending) (touches pending) (range_count pending.spots.items pending.map.now) [] new sorted order
    (adds_as (IsTouched pending) (λ a. list_any (λ chunk. touches_in_chunk pending chunk a) pending.map.now) (touches pending)
    (range_count pending.spots.items pending.map.now) (range_count pending.spots.items pending.map.now) [] new
    (subst (λ l. AddedChunks pending pending.map.now l new) none
    (subst (λ l. AddedChunks pending l old new) (whole ∙ is) added))
    (λ a small h. home_any pending pending.map.now a h) (omega arith))

pub ruleset copies = (one_copy, two_copies)

pub ruleset chunks = (chunks_start, chunks_more)
