-- Which blocks moved, chunk by chunk.
use Rattle.std.proofs.Common.{◌≡◌, ℕ, ◌+◌, ◌-◌, ◌*◌, ◌<◌, ◌≤◌, ◌==◌, Bool, true, false, ◌&&◌, ◌||◌, nat_eq, nat_le, cond, List, [], ◌∷◌, length, ◌⊎◌, inl, inr, sym, ◌∙◌, refl, ap, subst, arith}
use Rattle.std.specs.Prelude.{Option, Some, None, is_some, not}
use Rattle.std.specs.Bool.{Decides}
use Rattle.std.specs.List.{AllByRecursion, list_any, sum_by}
use Rattle.std.specs.Option.{option_eq}
use Rattle.std.proofs.lemmas.Bool.{eqb-true}
use Rattle.std.proofs.lemmas.Bool.Decides.{Decides-and, Decides-eqb, Decides-like, nat_tests}
use Rattle.verdict.proofs.Numbers.{itself}
use Rattle.verdict.proofs.Truth.{never, not_of_false, and_left, and_right, and_true, or_left, or_right, decided}
use Rattle.verdict.specs.Chunks.{holds_range, home, place, place_in, place_of_copies}
use Rattle.verdict.specs.declared.place.Chunk.{Chunk}
use Rattle.verdict.specs.declared.place.Place.{Place}
use Rattle.verdict.specs.declared.place.Place.TheVariants.{Nowhere, One, Two}
use Rattle.live_index.specs.declared.live.Live.{Live}
use Rattle.live_index.specs.Pairs.{Pairs}
use Rattle.touched_blocks.specs.declared.moved.Move.{Move}
use Rattle.touched_blocks.specs.declared.marks.Marks.{Marks}
use Rattle.touched_blocks.specs.declared.range.Range.{Range}
use Rattle.touched_blocks.specs.Adding.{AreAdded}
use Rattle.touched_blocks.specs.Going.{AllPass}
use Rattle.touched_blocks.specs.Leaving.{IsMoving, both_hold, leaves, leaves_one, lie_alike, ranges_left, same_offset, same_seconds}
use Rattle.touched_blocks.specs.Looks.{ArePlaced}
use Rattle.touched_blocks.specs.Marking.{AreLow, AreMarkedFrom, HaveEach, marks_for}
use Rattle.touched_blocks.specs.Marks.{AreAmong, Marked, count_of, no_mark}
use Rattle.touched_blocks.specs.Moves.{AreApart, LieApart, held_and_moved, is_kept_chunk, is_moved, is_same_in, move_passes, same_chunk, same_second}
use Rattle.touched_blocks.specs.OneTree.{chosen, in_chosen, is_chosen}
use Rattle.touched_blocks.specs.Spots.{is_in}
use Rattle.touched_blocks.specs.Touched.{same_place, stays_in_place}
use Rattle.touched_blocks.proofs.Among.{few_marked}
use Rattle.touched_blocks.proofs.Counting.{few_left}
use Rattle.touched_blocks.proofs.Marking.{marked_as}
use Rattle.touched_blocks.proofs.Writing.{from_none}

-- ---- a block that a chunk holds which is the same in the new list stays where it stands

none_some : (o : Option Chunk) (c : Chunk) → o ≡ None → o ≡ Some c → ⊥
none_some o c n s = cc

-- a chunk that is found holds what was asked for, and is one of the list
abbrev pub IsOneOf : Chunk → List Chunk → Type 0
IsOneOf c [] = ⊥
IsOneOf c (chunk ∷ chunks) = (c ≡ chunk) ⊎ IsOneOf c chunks

some_is : (c d : Chunk) → Some c ≡ Some d → d ≡ c
some_is c d e = ap (λ o. elim o as (λ _. Chunk) [ None ↦ d | Some x ↦ x ]) (sym e)

pub found_holds : (chunks : List Chunk) (a n : ℕ) (c : Chunk) → home chunks a n ≡ Some c → (holds_range c a n ≡ true) × IsOneOf c chunks
found_holds [] a n c h = absurd (none_some None c refl h)
found_holds (chunk ∷ chunks) a n c h = by (found_holds chunks a n c) (holds_range chunk a n) refl h
  where
    by : (home chunks a n ≡ Some c → (holds_range c a n ≡ true) × IsOneOf c chunks) → (b : Bool) → holds_range chunk a n ≡ b
        → cond b (Some chunk) (home chunks a n) ≡ Some c → (holds_range c a n ≡ true) × ((c ≡ chunk) ⊎ IsOneOf c chunks)
    by rest true holds is = let same = some_is chunk c is in (subst (λ x. holds_range x a n ≡ true) (sym same) holds, inl same)
    by rest false holds is = let found = rest is in (found.0, inr found.1)

-- where a chunk of a list holds a range, one is found
holds_found : (chunks : List Chunk) (a n : ℕ) (c : Chunk) → IsOneOf c chunks → holds_range c a n ≡ true → (d : Chunk) × (home chunks a n ≡ Some d)
holds_found [] a n c is holds = absurd is
holds_found (chunk ∷ chunks) a n c is holds = by (holds_found chunks a n c) (holds_range chunk a n) refl is
  where
    by : (IsOneOf c chunks → holds_range c a n ≡ true → (d : Chunk) × (home chunks a n ≡ Some d)) → (b : Bool) → holds_range chunk a n ≡ b → (c ≡ chunk) ⊎ IsOneOf c chunks
        → (d : Chunk) × (cond b (Some chunk) (home chunks a n) ≡ Some d)
    by rest true here is = (chunk, refl)
    by rest false here (inl same) = absurd (never (holds_range chunk a n) (subst (λ x. holds_range x a n ≡ true) same holds) here)
    by rest false here (inr later) = rest later holds

-- whether an address is one of a chunk
abbrev pub has_byte : Chunk → ℕ → Type 0
has_byte c a = (c.start ≤ a) × (a < c.start + c.length)

pub holds_byte : (c : Chunk) (a n : ℕ) → 0 < n → holds_range c a n ≡ true → has_byte c a
holds_byte c a n some h = (low, high)
  where
    low : c.start ≤ a
    low = grind (arith, nat_tests)

    high : a < c.start + c.length
    high = grind (arith, nat_tests)

-- two chunks that lie apart have no address in common
apart_bytes : (c d : Chunk) (a : ℕ) → LieApart c d → has_byte c a → has_byte d a → ⊥
apart_bytes c d a (inl before) hc hd = let one : a < c.start + c.length = hc.1 in let two : d.start ≤ a = hd.0 in omega arith
apart_bytes c d a (inr behind) hc hd = let one : a < d.start + d.length = hd.1 in let two : c.start ≤ a = hc.0 in omega arith

all_one : (P : Chunk → Type 0) (chunks : List Chunk) (c : Chunk) → AllByRecursion P chunks → IsOneOf c chunks → P c
all_one P [] c all is = absurd is
all_one P (chunk ∷ chunks) c all (inl same) = subst P (sym same) all.0
all_one P (chunk ∷ chunks) c all (inr later) = all_one P chunks c all.1 later

-- so of a list that lies apart two that have one are one
pub one_byte : (chunks : List Chunk) (c d : Chunk) (a : ℕ) → AreApart chunks → IsOneOf c chunks → IsOneOf d chunks → has_byte c a → has_byte d a → c ≡ d
one_byte [] c d a apart ic id hc hd = absurd ic
one_byte (chunk ∷ chunks) c d a apart (inl c_is) (inl d_is) hc hd = c_is ∙ sym d_is
one_byte (chunk ∷ chunks) c d a apart (inl c_is) (inr d_in) hc hd =
    absurd (apart_bytes chunk d a (all_one (LieApart chunk) chunks d apart.0 d_in) (subst (λ x. has_byte x a) c_is hc) hd)
one_byte (chunk ∷ chunks) c d a apart (inr c_in) (inl d_is) hc hd =
    absurd (apart_bytes chunk c a (all_one (LieApart chunk) chunks c apart.0 c_in) (subst (λ x. has_byte x a) d_is hd) hc)
one_byte (chunk ∷ chunks) c d a apart (inr c_in) (inr d_in) hc hd = one_byte chunks c d a apart.1 c_in d_in hc hd

-- the same chunk gives the same place
second_is : (a b : Option ℕ) → same_second a b ≡ true → a ≡ b
second_is None None h = refl
second_is (Some a) (Some b) h = ap Some (eqb-true a b h)
second_is None (Some b) h = cc
second_is (Some a) None h = cc

start_is : (c d : Chunk) → same_chunk c d ≡ true → c.start ≡ d.start
start_is c d h = eqb-true _ _ (and_left _ _ (and_left (c.start == d.start && c.length == d.length) _ h))

length_is : (c d : Chunk) → same_chunk c d ≡ true → c.length ≡ d.length
length_is c d h = eqb-true _ _ (and_right (c.start == d.start) _ (and_left (c.start == d.start && c.length == d.length) _ h))

first_is : (c d : Chunk) → same_chunk c d ≡ true → c.first ≡ d.first
first_is c d h = eqb-true _ _ (and_left _ _ (and_right (c.start == d.start && c.length == d.length) _ h))

seconds_are : (c d : Chunk) → same_chunk c d ≡ true → c.second ≡ d.second
seconds_are c d h = second_is _ _ (and_right (c.first == d.first) _ (and_right (c.start == d.start && c.length == d.length) _ h))

same_as_itself : (p : Place) → same_place p p ≡ true
same_as_itself Nowhere = refl
same_as_itself (One a) = itself a
same_as_itself (Two a b) = and_true _ _ (itself a) (itself b)

placed_alike : (c d : Chunk) (a n end : ℕ) → same_chunk c d ≡ true → place_in (Some c) a n end ≡ place_in (Some d) a n end
placed_alike c d a n end h =
    ap (λ x. place_of_copies x c.second (a - c.start) n end) (first_is c d h)
    ∙ ap (λ x. place_of_copies d.first x (a - c.start) n end) (seconds_are c d h)
    ∙ ap (λ x. place_of_copies d.first d.second (a - x) n end) (start_is c d h)

holds_alike : (c d : Chunk) (a n : ℕ) → same_chunk c d ≡ true → holds_range c a n ≡ true → holds_range d a n ≡ true
holds_alike c d a n h holds =
    subst (λ x. nat_le d.start a && nat_le (a + n) (d.start + x) ≡ true) (length_is c d h)
    (subst (λ x. nat_le x a && nat_le (a + n) (x + c.length) ≡ true) (start_is c d h) holds)

-- where a chunk that holds a block is the same in the new list, the block stays in place
kept_stays : (old new : List Chunk) (n end a : ℕ) (c : Chunk) → AreApart new → 0 < n → home old a n ≡ Some c → is_kept_chunk new c ≡ true → stays_in_place old new n end a ≡ true
kept_stays old new n end a c apart some is kept = by (home new c.start c.length) refl kept
  where
    by : (o : Option Chunk) → home new c.start c.length ≡ o → is_same_in c o ≡ true → stays_in_place old new n end a ≡ true
    by None found same = cc
    by (Some d) found same =
        let in_new = (found_holds new c.start c.length d found).1 in
        let holds = holds_alike c d a n same (found_holds old a n c is).0 in
        let other = holds_found new a n d in_new holds in
        let at = found_holds new a n other.0 other.1 in
        let one : other.0 ≡ d = one_byte new other.0 d a apart at.1 in_new (holds_byte other.0 a n some at.0) (holds_byte d a n some holds) in
        let places : place new a n end ≡ place old a n end =
        ap (λ o. place_in o a n end) (other.1 ∙ ap Some one) ∙ sym (placed_alike c d a n end same) ∙ ap (λ o. place_in o a n end) (sym is) in
        subst (λ p. same_place (place old a n end) p ≡ true) (sym places) (same_as_itself (place old a n end))

pub not_not : (b : Bool) → b ≡ true → not b ≡ true → ⊥
not_not = elim [ true ↦ λ e f. cc | false ↦ λ e f. cc ]

pub one_any : (f : Chunk → Bool) (chunks : List Chunk) (c : Chunk) → IsOneOf c chunks → f c ≡ true → list_any f chunks ≡ true
one_any f [] c is h = absurd is
one_any f (chunk ∷ chunks) c (inl same) h = or_left (f chunk) _ (subst (λ x. f x ≡ true) same h)
one_any f (chunk ∷ chunks) c (inr later) h = or_right (f chunk) _ (one_any f chunks c later h)

some_home : (o : Option Chunk) → is_some o ≡ true → (c : Chunk) × (o ≡ Some c)
some_home None h = cc
some_home (Some c) h = (c, refl)

-- two chunks that lie alike give an address the same place
offset_same : (start at other to a : ℕ) → same_offset start at other to ≡ true → start ≤ a → other ≤ a → at + (a - start) ≡ to + (a - other)
offset_same start at other to a h low other_low = let same : at + other ≡ to + start = eqb-true _ _ h in omega arith

alike_placed : (c d : Chunk) (a n end : ℕ) → lie_alike c d ≡ true → c.start ≤ a → d.start ≤ a → place_in (Some c) a n end ≡ place_in (Some d) a n end
alike_placed c d a n end h low other = by c.second d.second (and_right (same_offset c.start c.first d.start d.first) _ h)
  where
    firsts : c.first + (a - c.start) ≡ d.first + (a - d.start)
    firsts = offset_same c.start c.first d.start d.first a (and_left _ _ h) low other

    by : (s t : Option ℕ) → same_seconds c.start s d.start t ≡ true → place_of_copies c.first s (a - c.start) n end ≡ place_of_copies d.first t (a - d.start) n end
    by None None e = ap (λ x. cond (nat_le (x + n) end) (One x) Nowhere) firsts
    by (Some s) (Some t) e =
        ap (λ x. cond (nat_le (x + n) end && nat_le (s + (a - c.start) + n) end) (Two x (s + (a - c.start))) Nowhere) firsts
        ∙ ap (λ x. cond (nat_le (d.first + (a - d.start) + n) end && nat_le (x + n) end) (Two (d.first + (a - d.start)) x) Nowhere) (offset_same c.start s d.start t a e low other)
    by None (Some t) e = cc
    by (Some s) None e = cc

pub holds_low : (c : Chunk) (a n : ℕ) → holds_range c a n ≡ true → c.start ≤ a
holds_low c a n h = grind (arith, nat_tests)

one_of_any : (f : Chunk → Bool) (chunks : List Chunk) → list_any f chunks ≡ true → (c : Chunk) × IsOneOf c chunks × (f c ≡ true)
one_of_any f [] h = cc
one_of_any f (chunk ∷ chunks) h = by (one_of_any f chunks) (f chunk) refl h
  where
    by : (list_any f chunks ≡ true → (c : Chunk) × IsOneOf c chunks × (f c ≡ true)) → (b : Bool) → f chunk ≡ b → (b || list_any f chunks) ≡ true
        → (c : Chunk) × ((c ≡ chunk) ⊎ IsOneOf c chunks) × (f c ≡ true)
    by rest true here e = (chunk, inl refl, here)
    by rest false here e = let found = rest e in (found.0, inr found.1, found.2)

-- where a new chunk holds a block at the same place, the block stays in place
alike_stays : (old new : List Chunk) (n end a : ℕ) (c : Chunk) → AreApart new → 0 < n → home old a n ≡ Some c → list_any (both_hold n c a) new ≡ true
    → stays_in_place old new n end a ≡ true
alike_stays old new n end a c apart some is any =
    let which = one_of_any (both_hold n c a) new any in
    let both = and_right (lie_alike c which.0) _ which.2 in
    let holds = and_right (holds_range c a n) _ both in
    let other = holds_found new a n which.0 which.1 holds in
    let at = found_holds new a n other.0 other.1 in
    let one : other.0 ≡ which.0 = one_byte new other.0 which.0 a apart at.1 which.1 (holds_byte other.0 a n some at.0) (holds_byte which.0 a n some holds) in
    let places : place new a n end ≡ place old a n end =
    ap (λ o. place_in o a n end) (other.1 ∙ ap Some one)
    ∙ sym (alike_placed c which.0 a n end (and_left _ _ which.2) (holds_low c a n (and_left _ _ both)) (holds_low which.0 a n holds)) ∙ ap (λ o. place_in o a n end) (sym is) in
    subst (λ p. same_place (place old a n end) p ≡ true) (sym places) (same_as_itself (place old a n end))

-- a block that moved leaves a chunk
moved_leaves : (move : Move) (a : ℕ) → AreApart move.new.now → 0 < move.nodesize → held_and_moved move.old.now move.new.now move.nodesize move.end a ≡ true
    → leaves_one move a ≡ true
moved_leaves move a apart some h =
    let found = some_home (home move.old.now a move.nodesize) (and_left _ _ h) in
    let held = found_holds move.old.now a move.nodesize found.0 found.1 in
    one_any (leaves move a) move.old.now found.0 held.1
    (and_true _ _
    (elim (decided (is_kept_chunk move.new.now found.0)) [
      | inl kept ↦ absurd (moved (kept_stays move.old.now move.new.now move.nodesize move.end a found.0 apart some found.1 kept))
      | inr other ↦ not_of_false _ other
    ])
    (and_true _ _ held.0
    (elim (decided (list_any (both_hold move.nodesize found.0 a) move.new.now)) [
      | inl any ↦ absurd (moved (alike_stays move.old.now move.new.now move.nodesize move.end a found.0 apart some found.1 any))
      | inr none ↦ not_of_false _ none
    ])))
  where
    moved : stays_in_place move.old.now move.new.now move.nodesize move.end a ≡ true → ⊥
    moved stays =
        not_not (stays_in_place move.old.now move.new.now move.nodesize move.end a) stays (and_right (is_some (home move.old.now a move.nodesize)) _ h)

-- ---- lists that are the same

option_decides : (x y : Option ℕ) → Decides (option_eq nat_eq x y) (x ≡ y)
option_decides None None = ((λ _. refl), (λ _. refl))
option_decides None (Some y) = ((λ is. cc), (λ is. cc))
option_decides (Some x) None = ((λ is. cc), (λ is. cc))
option_decides (Some x) (Some y) = Decides-like (x == y) (ap Some) (λ is. cc) (Decides-eqb x y)

-- what `==` of two chunks compares decides whether they are the same
pub chunk_decides : (c d : Chunk)
    → Decides (c.start == d.start && (c.length == d.length && (c.class == d.class && (c.first == d.first && option_eq nat_eq c.second d.second)))) (c ≡ d)
chunk_decides c d =
    Decides-like _ alike
    (λ is. (ap (λ x. x.start) is, (ap (λ x. x.length) is, (ap (λ x. x.class) is, (ap (λ x. x.first) is, ap (λ x. x.second) is)))))
    (Decides-and _ _ (Decides-eqb c.start d.start)
    (Decides-and _ _ (Decides-eqb c.length d.length)
    (Decides-and _ _ (Decides-eqb c.class d.class) (Decides-and _ _ (Decides-eqb c.first d.first) (option_decides c.second d.second)))))
  where
    made : ℕ → ℕ → ℕ → ℕ → Option ℕ → Chunk
    made s l k f o = record { start = s; length = l; class = k; first = f; second = o }

    alike : (c.start ≡ d.start) × ((c.length ≡ d.length) × ((c.class ≡ d.class) × ((c.first ≡ d.first) × (c.second ≡ d.second)))) → c ≡ d
    alike (start, (length_, (class_, (first, second)))) =
        let same : made c.start c.length c.class c.first c.second ≡ made d.start d.length d.class d.first d.second = cc in same

-- the marks on what moved
abbrev pub AreMoveMarks : Pairs → Option ℕ → Marked → List Chunk → List Chunk → ℕ → ℕ → Type 0
AreMoveMarks pairs only marked old new n end =
    AreApart new → 0 < n → AreMarkedFrom pairs (in_chosen only (held_and_moved old new n end)) (in_chosen only (is_moved old new n end)) no_mark marked

moved_marked : (pairs : Pairs) (only : Option ℕ) (move : Move) (ranges slice : List Range) (count : ℕ) (none marked : Marked) → ((t a : ℕ) → none t a ≡ false)
    → AreAdded (IsMoving move) (leaves_one move) count [] ranges → slice ≡ ranges
    → AreMarkedFrom pairs (in_chosen only (λ a. is_in slice a && move_passes move a)) (in_chosen only (move_passes move)) none marked
    → AreMoveMarks pairs only marked move.old.now move.new.now move.nodesize move.end
unfolding move_passes
moved_marked pairs only move ranges slice count none marked unmarked all is more apart some =
    from_none pairs (in_chosen only (held_and_moved move.old.now move.new.now move.nodesize move.end)) (in_chosen only (is_moved move.old.now move.new.now move.nodesize move.end)) none marked unmarked
    (marked_as pairs (in_chosen only (λ a. is_in slice a && move_passes move a)) (in_chosen only (move_passes move)) (in_chosen only (held_and_moved move.old.now move.new.now move.nodesize move.end))
    (in_chosen only (is_moved move.old.now move.new.now move.nodesize move.end)) none marked more
    (λ t a tight small s there.
    let moves : held_and_moved move.old.now move.new.now move.nodesize move.end a ≡ true = and_right (is_chosen only t) _ s in
    and_true _ _ (and_left _ (held_and_moved move.old.now move.new.now move.nodesize move.end a) s)
    (and_true _ _ (subst (λ l. is_in l a ≡ true) (sym is) (all.found a small (moved_leaves move a apart some moves)))
    (and_right (is_some (home move.old.now a move.nodesize)) _ moves)))
    (λ t a s. s))

-- the same by the lists, the size and the end that a move is made of
by_lists : (P : List Chunk → List Chunk → ℕ → ℕ → Type 0) (move : Move) (old new : List Chunk) (n end : ℕ)
    → move.old.now ≡ old → move.new.now ≡ new → move.nodesize ≡ n → move.end ≡ end → P move.old.now move.new.now move.nodesize move.end → P old new n end
by_lists P move old new n end is_old is_new is_size is_end so =
    subst (P old new n) is_end
    (subst (λ x. P old new x move.end) is_size
    (subst (λ x. P old x move.nodesize move.end) is_new
    (subst (λ x. P x move.new.now move.nodesize move.end) is_old so)))

pub moved_told : (pairs : Pairs) (only : Option ℕ) (move : Move) (old new : List Chunk) (n end : ℕ) (ranges slice : List Range) (count : ℕ) (none marked : Marked)
    → move.old.now ≡ old → move.new.now ≡ new → move.nodesize ≡ n → move.end ≡ end → ((t a : ℕ) → none t a ≡ false)
    → AreAdded (IsMoving move) (leaves_one move) count [] ranges → slice ≡ ranges
    → AreMarkedFrom pairs (in_chosen only (λ a. is_in slice a && move_passes move a)) (in_chosen only (move_passes move)) none marked → AreMoveMarks pairs only marked old new n end
moved_told pairs only move old new n end ranges slice count none marked is_old is_new is_size is_end unmarked all is more =
    by_lists (AreMoveMarks pairs only marked) move old new n end is_old is_new is_size is_end (moved_marked pairs only move ranges slice count none marked unmarked all is more)

-- and how many looks it took to find them
abbrev pub AreMoveLooks : Pairs → ℕ → ℕ → ℕ → List Chunk → List Chunk → ℕ → ℕ → Type 0
AreMoveLooks pairs marks before now old new n end =
    ArePlaced pairs old n end → AreApart old → AreApart new → 0 < n → now ≤ before + 2 * marks + 2 * length old + length new

moved_looks : (pairs : Pairs) (move : Move) (ranges slice : List Range) (none marks : Marks) (before now : ℕ)
    → AreAdded (IsMoving move) (leaves_one move) (sum_by (ranges_left move.nodesize move.new.now) move.old.now) [] ranges → slice ≡ ranges
    → (AllPass pairs (is_in slice) (move_passes move) → now + count_of none ≤ before + 2 * count_of marks + length slice)
    → AreMoveLooks pairs (count_of marks) before now move.old.now move.new.now move.nodesize move.end
moved_looks pairs move ranges slice none marks before now all is looks placed apart new_apart some =
    let most : now + count_of none ≤ before + 2 * count_of marks + length slice = looks (λ t a within there. passes t a (subst (λ l. is_in l a ≡ true) is within) there) in
    let fewer : length ranges ≤ 0 + sum_by (ranges_left move.nodesize move.new.now) move.old.now = all.few in
    let few : sum_by (ranges_left move.nodesize move.new.now) move.old.now ≤ 2 * length move.old.now + length move.new.now =
    few_left move.nodesize move.old.now move.new.now apart new_apart some in
    let long : length slice ≡ length ranges = ap length is in
    omega arith
  where
    passes : (t a : ℕ) → is_in ranges a ≡ true → is_some (pairs t a) ≡ true → move_passes move a ≡ true
    passes t a within there = elim (all.only a within) [
      | inl had ↦ absurd (nothing had)
      | inr moves ↦ moves (placed t a there) apart some
    ]
      where
        nothing : false ≡ true → ⊥
        nothing h = cc

pub looks_of_move : (pairs : Pairs) (move : Move) (old new : List Chunk) (n end : ℕ) (ranges slice : List Range) (none marks : Marks) (before now : ℕ)
    → move.old.now ≡ old → move.new.now ≡ new → move.nodesize ≡ n → move.end ≡ end
    → AreAdded (IsMoving move) (leaves_one move) (sum_by (ranges_left move.nodesize move.new.now) move.old.now) [] ranges → slice ≡ ranges
    → (AllPass pairs (is_in slice) (move_passes move) → now + count_of none ≤ before + 2 * count_of marks + length slice)
    → AreMoveLooks pairs (count_of marks) before now old new n end
looks_of_move pairs move old new n end ranges slice none marks before now is_old is_new is_size is_end all is looks =
    by_lists (AreMoveLooks pairs (count_of marks) before now) move old new n end is_old is_new is_size is_end (moved_looks pairs move ranges slice none marks before now all is looks)

-- and how many marks there are at most
abbrev pub HaveFewMarks : Pairs → Option ℕ → ℕ → List Chunk → List Chunk → ℕ → ℕ → Type 0
HaveFewMarks pairs only marks old new n end =
    AreLow pairs → (lives : List Live) → HaveEach (chosen only pairs) (is_moved old new n end) lives → marks ≤ marks_for pairs lives

few_by_move : (pairs : Pairs) (only : Option ℕ) (move : Move) (must none marked : Marked) (count : ℕ) → ((t a : ℕ) → none t a ≡ false)
    → AreMarkedFrom pairs must (in_chosen only (move_passes move)) none marked → ((lives : List Live) → AreAmong marked lives → count ≤ length lives)
    → HaveFewMarks pairs only count move.old.now move.new.now move.nodesize move.end
unfolding move_passes
few_by_move pairs only move must none marked count unmarked more counted =
    few_marked pairs only (is_moved move.old.now move.new.now move.nodesize move.end) must none marked count unmarked more counted

pub few_of_move : (pairs : Pairs) (only : Option ℕ) (move : Move) (old new : List Chunk) (n end : ℕ) (must none marked : Marked) (count : ℕ)
    → move.old.now ≡ old → move.new.now ≡ new → move.nodesize ≡ n → move.end ≡ end → ((t a : ℕ) → none t a ≡ false)
    → AreMarkedFrom pairs must (in_chosen only (move_passes move)) none marked → ((lives : List Live) → AreAmong marked lives → count ≤ length lives)
    → HaveFewMarks pairs only count old new n end
few_of_move pairs only move old new n end must none marked count is_old is_new is_size is_end unmarked more counted =
    by_lists (HaveFewMarks pairs only count) move old new n end is_old is_new is_size is_end (few_by_move pairs only move must none marked count unmarked more counted)

-- where no pair is marked there is no mark
pub few_unmarked : (pairs : Pairs) (only : Option ℕ) (old new : List Chunk) (n end : ℕ) (none : Marked) (count : ℕ) → ((t a : ℕ) → none t a ≡ false)
    → ((lives : List Live) → AreAmong none lives → count ≤ length lives) → HaveFewMarks pairs only count old new n end
few_unmarked pairs only old new n end none count unmarked counted lows lives each =
    let least : count ≤ 0 = counted [] (λ t a is. absurd (never (none t a) is (unmarked t a))) in
    omega (arith, least)
