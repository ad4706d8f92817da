-- What is known of all marks on the pairs that pending writes touch.
use Rattle.std.proofs.Common.{◌≡◌, ℕ, ◌+◌, ◌*◌, ◌<◌, ◌≤◌, true, false, ◌&&◌, List, [], length, map, inl, inr, sym, ap, subst, arith}
use Rattle.std.specs.Prelude.{is_some}
use Rattle.verdict.proofs.Truth.{and_true}
use Rattle.live_index.specs.Pairs.{Pairs}
use Rattle.write_cache.specs.Pieces.{ArePiecesOf, Piece}
use Rattle.touched_blocks.specs.declared.marks.Marks.{Marks}
use Rattle.touched_blocks.specs.declared.pending.Pending.{Pending}
use Rattle.touched_blocks.specs.declared.range.Range.{Range}
use Rattle.touched_blocks.specs.Adding.{AreAdded, IsTouched}
use Rattle.touched_blocks.specs.Going.{AllPass}
use Rattle.touched_blocks.specs.Looks.{ArePlaced, NoneMeet, copies_of, meet_count, range_count, spot_of}
use Rattle.touched_blocks.specs.Marking.{AreMarked, AreMarkedFrom}
use Rattle.touched_blocks.specs.Marks.{Marked, count_of, no_mark}
use Rattle.touched_blocks.specs.Moves.{AreApart}
use Rattle.touched_blocks.specs.Pending.{touches}
use Rattle.touched_blocks.specs.Spots.{at_address, is_in}
use Rattle.touched_blocks.specs.Touched.{touches_block, written_in}
use Rattle.touched_blocks.proofs.Counting.{few_ranges}
use Rattle.touched_blocks.proofs.Marking.{marked_as}
use Rattle.touched_blocks.proofs.Writing.{from_none}

-- the ranges have each address at which a block is touched
pub marked_told : (pairs : Pairs) (pending : Pending) (ranges slice : List Range) (count : ℕ) (none marked : Marked) → ((t a : ℕ) → none t a ≡ false)
    → AreAdded (IsTouched pending) (touches pending) count [] ranges → slice ≡ ranges
    → AreMarkedFrom pairs (at_address (λ a. is_in slice a && touches pending a)) (at_address (touches pending)) none marked
    → AreMarked pairs (at_address (touches_block (written_in pending.cache.now) pending.map.now pending.nodesize pending.end)) no_mark marked
unfolding touches
marked_told pairs pending ranges slice count none marked unmarked all is more =
    from_none pairs (at_address (touches pending)) (at_address (touches pending)) none marked unmarked
    (marked_as pairs (at_address (λ a. is_in slice a && touches pending a)) (at_address (touches pending)) (at_address (touches pending)) (at_address (touches pending)) none marked more
    (λ t a tight small s some. and_true _ _ (subst (λ l. is_in l a ≡ true) (sym is) (all.found a small s)) s)
    (λ t a s. s))

-- and where each pair has a place, no others
pub looks_told : (pairs : Pairs) (pending : Pending) (ranges slice : List Range) (old new : Marks) (before now : ℕ)
    → ((pieces : List Piece) → ArePiecesOf pending.cache.now pieces → pending.spots.items ≡ map spot_of pieces)
    → AreAdded (IsTouched pending) (touches pending) (range_count pending.spots.items pending.map.now) [] ranges → slice ≡ ranges
    → (AllPass pairs (is_in slice) (touches pending) → now + count_of old ≤ before + 2 * count_of new + length slice)
    → (pieces : List Piece) → ArePiecesOf pending.cache.now pieces
    → ArePlaced pairs pending.map.now pending.nodesize pending.end → AreApart pending.map.now → 0 < pending.nodesize
    → now ≤ before + 2 * count_of new + meet_count pieces pending.map.now
looks_told pairs pending ranges slice old new before now listed all is looks pieces are placed apart some =
    let most : now + count_of old ≤ before + 2 * count_of new + length slice = looks (λ t a within there. passes t a (subst (λ l. is_in l a ≡ true) is within) there) in
    let fewer : length ranges ≤ 0 + range_count pending.spots.items pending.map.now = all.few in
    let same : range_count pending.spots.items pending.map.now ≡ range_count (map spot_of pieces) pending.map.now = ap (λ l. range_count l pending.map.now) (listed pieces are) in
    let long : length slice ≡ length ranges = ap length is in
    omega arith
  where
    passes : (t a : ℕ) → is_in ranges a ≡ true → is_some (pairs t a) ≡ true → touches pending a ≡ true
    passes t a within there = elim (all.only a within) [
      | inl had ↦ absurd (nothing had)
      | inr touched ↦ touched (placed t a there) apart some
    ]
      where
        nothing : false ≡ true → ⊥
        nothing h = cc

-- which are few where no two copies meet
pub few_told : (pairs : Pairs) (pending : Pending) (ranges slice : List Range) (old new : Marks) (before now : ℕ)
    → ((pieces : List Piece) → ArePiecesOf pending.cache.now pieces → pending.spots.items ≡ map spot_of pieces)
    → AreAdded (IsTouched pending) (touches pending) (range_count pending.spots.items pending.map.now) [] ranges → slice ≡ ranges
    → (AllPass pairs (is_in slice) (touches pending) → now + count_of old ≤ before + 2 * count_of new + length slice)
    → (pieces : List Piece) → ArePiecesOf pending.cache.now pieces
    → ArePlaced pairs pending.map.now pending.nodesize pending.end → AreApart pending.map.now → 0 < pending.nodesize → NoneMeet (copies_of pending.map.now)
    → now ≤ before + 2 * count_of new + length pieces + 2 * length pending.map.now
few_told pairs pending ranges slice old new before now listed all is looks pieces are placed apart some none =
    let most : now ≤ before + 2 * count_of new + meet_count pieces pending.map.now =
    looks_told pairs pending ranges slice old new before now listed all is looks pieces are placed apart some in
    let few : meet_count pieces pending.map.now ≤ length pieces + 2 * length pending.map.now = few_ranges pending.cache.now pieces pending.map.now are none in
    omega (arith, most, few)
