-- How many parts of the writes meet the copies of chunks, and how many chunks meet new ones, where no two of a list meet.
use Rattle.std.proofs.Common.{◌≡◌, ℕ, suc, ◌+◌, ◌*◌, ◌<◌, ◌≤◌, Bool, true, false, ◌&&◌, nat_le, nat_lt, cond, List, [], ◌∷◌, length, map, get_or, inl, inr, refl, ap, arith}
use Rattle.std.specs.Prelude.{Option, Some, None}
use Rattle.std.specs.List.{AllByRecursion, count_by, sum_by}
use Rattle.std.specs.Ordering.{nat_cmp}
use Rattle.std.specs.FinMap.{FinMap}
use Rattle.std.proofs.lemmas.Bool.Decides.{nat_tests}
use Rattle.std.proofs.lemmas.List.{length-map}
use Rattle.std.proofs.lemmas.List.Sums.{sum_by-cons, sum_by-le}
use Rattle.verdict.specs.declared.place.Chunk.{Chunk}
use Rattle.write_cache.specs.Pieces.{ArePiecesOf, Piece}
use Rattle.touched_blocks.specs.declared.spot.Spot.{Spot}
use Rattle.touched_blocks.specs.Leaving.{meet_by, ranges_left}
use Rattle.touched_blocks.specs.Looks.{EndsBefore, NoneMeet, copies_of, copy_at, in_copies, in_second_copy, meet_count, range_count, spot_of, with_second}
use Rattle.touched_blocks.specs.Moves.{AreApart, LieApart}
use Rattle.touched_blocks.specs.Spots.{StandApart, ranges_meet}
use Rattle.touched_blocks.proofs.Joining.{runs_apart, runs_of_pieces}

nothing : false ≡ true → ⊥
nothing h = cc

count_cons : {X : Type 0} (p : X → Bool) (x : X) (xs : List X) → count_by p (x ∷ xs) ≡ cond {A = ℕ} (p x) 1 0 + count_by p xs
count_cons p x xs = sum_by-cons (λ x. cond (p x) 1 0) x xs

-- one more on either side
step_le : (b c : Bool) (m n : ℕ) → (b ≡ true → c ≡ true) → m ≤ n → cond {A = ℕ} b 1 0 + m ≤ cond {A = ℕ} c 1 0 + n
step_le true true m n h le = omega arith
step_le true false m n h le = absurd (nothing (h refl))
step_le false true m n h le = omega arith
step_le false false m n h le = omega arith

-- whether a range meets a copy, and whether it begins in it
meets : Spot → Spot → Bool
meets copy spot = ranges_meet spot.at spot.len copy.at copy.len

begins : Spot → Spot → Bool
begins copy spot = nat_le copy.at spot.at && nat_lt spot.at (copy.at + copy.len)

-- what meets a copy and does not begin before it begins in it
meets_begins : (copy spot : Spot) → copy.at ≤ spot.at → meets copy spot ≡ true → begins copy spot ≡ true
unfolding meets begins
meets_begins copy spot low h = grind (arith, nat_tests)

-- what meets a copy and does not begin in it begins before it, and ends in it or behind it
meets_into : (copy spot : Spot) → meets copy spot ≡ true → begins copy spot ≡ false → copy.at ≤ spot.at + spot.len
unfolding meets begins
meets_into copy spot h none = grind (arith, nat_tests)

all_begin : (copy : Spot) (spots : List Spot) → ((j : ℕ) (d : Spot) → j < length spots → copy.at ≤ (get_or spots j d).at)
    → count_by (meets copy) spots ≤ count_by (begins copy) spots
all_begin copy [] behind = omega arith
all_begin copy (spot ∷ spots) behind =
    let rest : count_by (meets copy) spots ≤ count_by (begins copy) spots = all_begin copy spots (λ j d inside. behind (suc j) d (omega arith)) in
    let step = step_le (meets copy spot) (begins copy spot) (count_by (meets copy) spots) (count_by (begins copy) spots) (meets_begins copy spot (behind 0 spot (omega arith))) rest in
    omega (arith, step, count_cons (meets copy) spot spots, count_cons (begins copy) spot spots)

-- of the ranges that meet a copy all but one begin in it
but_one : (copy : Spot) (spots : List Spot) → StandApart spots → count_by (meets copy) spots ≤ 1 + count_by (begins copy) spots
but_one copy [] apart = omega arith
but_one copy (spot ∷ spots) apart = by (meets copy spot) refl (begins copy spot) refl (but_one copy spots (λ i j d before inside. apart (suc i) (suc j) d (omega arith) (omega arith)))
  where
    step : (cond {A = ℕ} (meets copy spot) 1 0 + count_by (meets copy) spots ≤ 1 + (cond {A = ℕ} (begins copy spot) 1 0 + count_by (begins copy) spots))
        → count_by (meets copy) (spot ∷ spots) ≤ 1 + count_by (begins copy) (spot ∷ spots)
    step h = omega (arith, count_cons (meets copy) spot spots, count_cons (begins copy) spot spots)

    by : (b : Bool) → meets copy spot ≡ b → (c : Bool) → begins copy spot ≡ c → count_by (meets copy) spots ≤ 1 + count_by (begins copy) spots
        → count_by (meets copy) (spot ∷ spots) ≤ 1 + count_by (begins copy) (spot ∷ spots)
    by true here false before rest =
        let later : count_by (meets copy) spots ≤ count_by (begins copy) spots =
        all_begin copy spots (λ j d inside.
        let ends : spot.at + spot.len ≤ (get_or spots j d).at = apart 0 (suc j) d (omega arith) (omega arith) in
        let into : copy.at ≤ spot.at + spot.len = meets_into copy spot here before in
        omega arith) in
        let one : cond {A = ℕ} (meets copy spot) 1 0 ≡ 1 = ap (λ x. cond {A = ℕ} x 1 0) here in
        step (omega arith)
    by true here true begin rest =
        let one : cond {A = ℕ} (meets copy spot) 1 0 ≡ 1 = ap (λ x. cond {A = ℕ} x 1 0) here in
        let two : cond {A = ℕ} (begins copy spot) 1 0 ≡ 1 = ap (λ x. cond {A = ℕ} x 1 0) begin in
        step (omega arith)
    by false other c _ rest =
        let one : cond {A = ℕ} (meets copy spot) 1 0 ≡ 0 = ap (λ x. cond {A = ℕ} x 1 0) other in
        step (omega arith)

-- a range begins in at most one of some copies of which no two meet
not_both : (one other spot : Spot) → EndsBefore one other → begins one spot ≡ true → begins other spot ≡ true → ⊥
unfolding begins
not_both one other spot (inl before) here there = grind (arith, nat_tests)
not_both one other spot (inr behind) here there = grind (arith, nat_tests)

none_begins : (copy spot : Spot) (copies : List Spot) → AllByRecursion (EndsBefore copy) copies → begins copy spot ≡ true → count_by (λ c. begins c spot) copies ≤ 0
none_begins copy spot [] apart here = omega arith
none_begins copy spot (other ∷ copies) apart here =
    let rest : count_by (λ c. begins c spot) copies ≤ 0 = none_begins copy spot copies apart.1 here in
    let none : cond {A = ℕ} (begins other spot) 1 0 ≡ 0 = by (begins other spot) refl in
    omega (arith, count_cons (λ c. begins c spot) other copies)
  where
    by : (b : Bool) → begins other spot ≡ b → cond {A = ℕ} (begins other spot) 1 0 ≡ 0
    by true there = absurd (not_both copy other spot apart.0 here there)
    by false no_begin = ap (λ x. cond {A = ℕ} x 1 0) no_begin

one_begins : (spot : Spot) (copies : List Spot) → NoneMeet copies → count_by (λ c. begins c spot) copies ≤ 1
one_begins spot [] apart = omega arith
one_begins spot (copy ∷ copies) apart = by (begins copy spot) refl (one_begins spot copies apart.1)
  where
    by : (b : Bool) → begins copy spot ≡ b → count_by (λ c. begins c spot) copies ≤ 1 → count_by (λ c. begins c spot) (copy ∷ copies) ≤ 1
    by true here rest =
        let none : count_by (λ c. begins c spot) copies ≤ 0 = none_begins copy spot copies apart.0 here in
        let one : cond {A = ℕ} (begins copy spot) 1 0 ≡ 1 = ap (λ x. cond {A = ℕ} x 1 0) here in
        omega (arith, count_cons (λ c. begins c spot) copy copies)
    by false other rest =
        let none : cond {A = ℕ} (begins copy spot) 1 0 ≡ 0 = ap (λ x. cond {A = ℕ} x 1 0) other in
        omega (arith, count_cons (λ c. begins c spot) copy copies)

-- so there are no more begins in all copies than ranges
sum_split : (spot : Spot) (spots copies : List Spot)
    → sum_by (λ c. count_by (begins c) (spot ∷ spots)) copies ≡ count_by (λ c. begins c spot) copies + sum_by (λ c. count_by (begins c) spots) copies
sum_split spot spots [] = refl
sum_split spot spots (copy ∷ copies) =
    let rest : sum_by (λ c. count_by (begins c) (spot ∷ spots)) copies ≡ count_by (λ c. begins c spot) copies + sum_by (λ c. count_by (begins c) spots) copies = sum_split spot spots copies in
    omega (
      arith,
      sum_by-cons (λ c. count_by (begins c) (spot ∷ spots)) copy copies,
      count_cons (begins copy) spot spots,
      count_cons (λ c. begins c spot) copy copies,
      sum_by-cons (λ c. count_by (begins c) spots) copy copies,
    )

begins_few : (spots copies : List Spot) → NoneMeet copies → sum_by (λ c. count_by (begins c) spots) copies ≤ length spots
begins_few [] copies apart =
    let none : sum_by (λ (c : Spot). 0) copies ≤ length copies * 0 = sum_by-le (λ c. 0) 0 copies (λ k d inside. omega arith) in
    omega arith
begins_few (spot ∷ spots) copies apart =
    let rest : sum_by (λ c. count_by (begins c) spots) copies ≤ length spots = begins_few spots copies apart in
    omega (arith, sum_split spot spots copies, one_begins spot copies apart)

meets_few : (spots copies : List Spot) → StandApart spots
    → sum_by (λ c. count_by (meets c) spots) copies ≤ length copies + sum_by (λ c. count_by (begins c) spots) copies
meets_few spots [] apart = omega arith
meets_few spots (copy ∷ copies) apart =
    let rest : sum_by (λ c. count_by (meets c) spots) copies ≤ length copies + sum_by (λ c. count_by (begins c) spots) copies = meets_few spots copies apart in
    omega (arith, but_one copy spots apart, sum_by-cons (λ c. count_by (meets c) spots) copy copies, sum_by-cons (λ c. count_by (begins c) spots) copy copies)

-- the count goes copy by copy
by_copies : (spots : List Spot) (chunks : List Chunk) → range_count spots chunks ≡ sum_by (λ c. count_by (meets c) spots) (copies_of chunks)
unfolding meets
by_copies spots [] = refl
by_copies spots (chunk ∷ chunks) =
    let rest : range_count spots chunks ≡ sum_by (λ c. count_by (meets c) spots) (copies_of chunks) = by_copies spots chunks in
    let second : sum_by (λ c. count_by (meets c) spots) (with_second chunk.length chunk.second (copies_of chunks))
    ≡ in_second_copy spots chunk.length chunk.second + sum_by (λ c. count_by (meets c) spots) (copies_of chunks) = seconds chunk.second (copies_of chunks) in
    omega (
      arith,
      sum_by-cons (in_copies spots) chunk chunks,
      sum_by-cons (λ c. count_by (meets c) spots) (copy_at chunk.length chunk.first) (with_second chunk.length chunk.second (copies_of chunks)),
    )
  where
    seconds : (o : Option ℕ) (copies : List Spot) → sum_by (λ c. count_by (meets c) spots) (with_second chunk.length o copies)
        ≡ in_second_copy spots chunk.length o + sum_by (λ c. count_by (meets c) spots) copies
    seconds None copies = omega arith
    seconds (Some copy) copies = sum_by-cons (λ c. count_by (meets c) spots) (copy_at chunk.length copy) copies

two_each : (chunks : List Chunk) → length (copies_of chunks) ≤ 2 * length chunks
two_each [] = omega arith
two_each (chunk ∷ chunks) =
    let rest : length (copies_of chunks) ≤ 2 * length chunks = two_each chunks in
    let more : length (with_second chunk.length chunk.second (copies_of chunks)) ≤ length (copies_of chunks) + 1 = seconds chunk.second (copies_of chunks) in
    omega arith
  where
    seconds : (o : Option ℕ) (copies : List Spot) → length (with_second chunk.length o copies) ≤ length copies + 1
    seconds None copies = omega arith
    seconds (Some copy) copies = omega arith

-- ---- chunks of two lists that meet

-- the addresses that a chunk holds, as a range
span : Chunk → Spot
span chunk = copy_at chunk.length chunk.start

spans_apart : (chunks : List Chunk) → AreApart chunks → NoneMeet (map span chunks)
unfolding span
spans_apart [] apart = tt
spans_apart (chunk ∷ chunks) apart = (each chunks apart.0, spans_apart chunks apart.1)
  where
    each : (others : List Chunk) → AllByRecursion (LieApart chunk) others → AllByRecursion (EndsBefore (span chunk)) (map span others)
    each [] all = tt
    each (other ∷ others) all = (all.0, each others all.1)

-- of two chunks that meet one begins in the other
meet_begins : (n : ℕ) (c d : Chunk) → 0 < n → meet_by n c d ≡ true → begins (span d) (span c) ≡ false → begins (span c) (span d) ≡ true
unfolding span begins
meet_begins n c d some h other = grind (arith, nat_tests)

one_or_other : (b c d : Bool) (m k l : ℕ) → (b ≡ true → d ≡ false → c ≡ true) → m ≤ k + l
    → cond {A = ℕ} b 1 0 + m ≤ (cond {A = ℕ} c 1 0 + k) + (cond {A = ℕ} d 1 0 + l)
one_or_other false c d m k l h le = omega arith
one_or_other true c true m k l h le = omega arith
one_or_other true true false m k l h le = omega arith
one_or_other true false false m k l h le = absurd (nothing (h refl refl))

meet_few : (n : ℕ) (c : Chunk) (new : List Chunk) → 0 < n
    → count_by (meet_by n c) new ≤ count_by (begins (span c)) (map span new) + count_by (λ s. begins s (span c)) (map span new)
meet_few n c [] some = omega arith
meet_few n c (d ∷ new) some =
    omega (
      arith,
      one_or_other (meet_by n c d) (begins (span c) (span d)) (begins (span d) (span c)) (count_by (meet_by n c) new) (count_by (begins (span c)) (map span new))
          (count_by (λ s. begins s (span c)) (map span new)) (meet_begins n c d some) (meet_few n c new some),
      count_cons (meet_by n c) d new,
      count_cons (begins (span c)) (span d) (map span new),
      count_cons (λ s. begins s (span c)) (span d) (map span new),
    )

left_sum : (n : ℕ) (old new : List Chunk) → AreApart new → 0 < n
    → sum_by (ranges_left n new) old ≤ 2 * length old + sum_by (λ s. count_by (begins s) (map span new)) (map span old)
left_sum n [] new apart some = omega arith
left_sum n (c ∷ old) new apart some =
    let rest : sum_by (ranges_left n new) old ≤ 2 * length old + sum_by (λ s. count_by (begins s) (map span new)) (map span old) = left_sum n old new apart some in
    omega (
      arith,
      meet_few n c new some,
      one_begins (span c) (map span new) (spans_apart new apart),
      sum_by-cons (ranges_left n new) c old,
      sum_by-cons (λ s. count_by (begins s) (map span new)) (span c) (map span old),
    )

-- Where no two chunks of a list overlap, the old chunks have at most two ranges each, and one more for each new chunk: of two chunks that
-- meet one begins in the other, an old one begins in one new one at most, and a new one in one old one.
pub few_left : (n : ℕ) (old new : List Chunk) → AreApart old → AreApart new → 0 < n → sum_by (ranges_left n new) old ≤ 2 * length old + length new
few_left n old new apart new_apart some =
    omega (arith, left_sum n old new new_apart some, begins_few (map span new) (map span old) (spans_apart old apart), length-map new span)

-- Where no two copies meet on the device, the pieces that meet copies are at most as many as all pieces and two for each chunk: of those that
-- meet a copy all but one begin in it, and a piece begins in one copy at most.
pub few_ranges : (pending : FinMap nat_cmp ℕ) (pieces : List Piece) (chunks : List Chunk) → ArePiecesOf pending pieces → NoneMeet (copies_of chunks)
    → meet_count pieces chunks ≤ length pieces + 2 * length chunks
few_ranges pending pieces chunks are apart =
    omega (
      arith,
      by_copies (map spot_of pieces) chunks,
      meets_few (map spot_of pieces) (copies_of chunks) (runs_apart 0 (map spot_of pieces) (runs_of_pieces 0 pieces are.apart)),
      begins_few (map spot_of pieces) (copies_of chunks) apart,
      two_each chunks,
      length-map pieces spot_of,
    )
