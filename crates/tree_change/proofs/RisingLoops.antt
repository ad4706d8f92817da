-- Loops over places and over pairs of which some are marked.
use Rattle.std.proofs.Common.{◌≡◌, ℕ, ◌+◌, ◌≤◌, ◌<◌, Bool, true, false, not, ◌||◌, List, [], ◌∷◌, ◌++◌, length, take, get_or, refl, sym, ap, subst, ◌∙◌, arith, if◌then◌else◌}
use Rattle.std.specs.Prelude.{Option, Some, None}
use Rattle.std.specs.List.{cons_option, filter, filter_map}
use Rattle.std.proofs.lemmas.List.{append-nil, length-append, take_more}
use Rattle.std.proofs.lemmas.List.Elements.{filter-append}
use Rattle.std.proofs.lemmas.List.Folds.{list_any-append}
use Rattle.live_index.specs.Pairs.{Pairs}
use Rattle.live_index.specs.declared.live.Live.{Live}
use Rattle.touched_blocks.specs.Marks.{Marked, in_lives, is_pair, marked_in, with_mark}
use Rattle.touched_blocks.specs.declared.marks.PairPlace.{PairPlace}
use Rattle.tree_change.specs.Rising.{is_free, is_left, is_marked, risen_at, risen_by, unmoved_at, unmoved_by, with_risen}
use Rattle.tree_change.specs.Walks.{Parts}

-- what passes a test, as pairs that are there or not
pub filtered : {X : Type 0} (p : X → Bool) (xs : List X) → filter_map (λ x. if p x then Some x else None) xs ≡ filter p xs
filtered p [] = refl
filtered p (x ∷ xs) = by (p x) (filtered p xs)
  where
    by : (b : Bool) → filter_map (λ y. if p y then Some y else None) xs ≡ filter p xs
        → cons_option (if b then Some x else None) (filter_map (λ y. if p y then Some y else None) xs) ≡ (if b then x ∷ filter p xs else filter p xs)
    by true same = ap (λ ys. x ∷ ys) same
    by false same = same

-- one pair more is marked
pub lives_more : (before after : Marked) (lives : List Live) (i : ℕ) (d : Live) → i < length lives
    → ((tree address : ℕ) → before tree address ≡ in_lives (take i lives) tree address)
    → ((tree address : ℕ) → after tree address ≡ with_mark before (get_or lives i d).tree (get_or lives i d).address tree address)
    → (tree address : ℕ) → after tree address ≡ in_lives (take (i + 1) lives) tree address
lives_more before after lives i d inside so more tree address =
    let one = get_or lives i d in
    let here = λ (live : Live). is_pair live.tree live.address tree address in
    more tree address
    ∙ (ap (λ m. if is_pair one.tree one.address tree address then true else m) (so tree address)
    ∙ (turn (is_pair one.tree one.address tree address) (in_lives (take i lives) tree address)
    ∙ sym (ap (λ l. in_lives l tree address) (take_more lives i d inside) ∙ list_any-append here (take i lives) (one ∷ []))))
  where
    turn : (b m : Bool) → (if b then true else m) ≡ (m || (b || false))
    turn true true = refl
    turn true false = refl
    turn false true = refl
    turn false false = refl

-- one place more costs a look, where it is free
pub looks_more : (marked : Marked) (places : List PairPlace) (i : ℕ) (d : PairPlace) (first at next : ℕ) → i < length places
    → at ≤ first + length (filter (is_free marked) (take i places))
    → next ≤ at + (if is_free marked (get_or places i d) then 1 else 0)
    → next ≤ first + length (filter (is_free marked) (take (i + 1) places))
looks_more marked places i d first at next inside so one =
    sums first at next (length (filter (is_free marked) (take i places))) (if is_free marked (get_or places i d) then 1 else 0)
    (length (filter (is_free marked) (take (i + 1) places))) so one
    (ap length (ap (filter (is_free marked)) (take_more places i d inside) ∙ filter-append (is_free marked) (take i places) (get_or places i d ∷ []))
    ∙ (length-append (filter (is_free marked) (take i places)) (filter (is_free marked) (get_or places i d ∷ []))
    ∙ ap (λ n. length (filter (is_free marked) (take i places)) + n) (single (is_free marked (get_or places i d)))))
  where
    single : (b : Bool) → length (if b then get_or places i d ∷ [] else []) ≡ (if b then 1 else 0)
    single true = refl
    single false = refl

    sums : (first at next n one all : ℕ) → at ≤ first + n → next ≤ at + one → all ≡ n + one → next ≤ first + all
    sums first at next n one all a b c = omega (arith, a, b, c)

-- what is there by a test is there by the same test
pub by_test : {X : Type 0} (b t : Bool) (x : X) (some : Option X) → some ≡ (if b then Some x else None) → b ≡ t
    → some ≡ (if t then Some x else None)
by_test b t x some is same = is ∙ ap (λ c. if c then Some x else None) same

pub by_other : {X : Type 0} (b t : Bool) (x : X) (some : Option X) → some ≡ (if not b then Some x else None) → b ≡ t
    → some ≡ (if not t then Some x else None)
by_other b t x some is same = is ∙ ap (λ c. if not c then Some x else None) same

-- and so is what may be there itself
pub where_same : {X : Type 0} (b : Bool) (p q some : Option X) → some ≡ (if b then p else None) → p ≡ q → some ≡ (if b then q else None)
where_same b p q some is same = is ∙ ap (λ o. if b then o else None) same

-- ---- what is made of parts

-- by marks that tell the same, the same is free and the same rises
free_as : (marked other : Marked) → ((tree address : ℕ) → marked tree address ≡ other tree address) → marked ≡ other
free_as marked other same = λ i tree address. same tree address i

-- parts with the pairs that rise, as the loops put them
pub risen_parts : (pairs : Pairs) (marked changed shifted : Marked) (places : List PairPlace) (parts : Parts) (old middle new moved none : List Live)
    → ((tree address : ℕ) → changed tree address ≡ in_lives parts.old_blocks tree address)
    → ((tree address : ℕ) → shifted tree address ≡ in_lives parts.shifted tree address)
    → middle ≡ parts.new_blocks ++ filter (is_marked marked) parts.shifted
    → moved ≡ none ++ filter (λ live. not (is_marked marked live)) parts.shifted → none ≡ []
    → old ≡ parts.old_blocks ++ filter_map (risen_by pairs changed) places
    → new ≡ middle ++ filter_map (unmoved_by pairs changed shifted) places
    → record parts { old_blocks = old; new_blocks = new; shifted = moved } ≡ with_risen pairs marked places parts
risen_parts pairs marked changed shifted places parts old middle new moved none same_changed same_shifted middle_is moved_is none_is old_is new_is =
    λ i. record parts { old_blocks = olds i; new_blocks = news i; shifted = moves i }
  where
    c : changed ≡ in_lives parts.old_blocks
    c = free_as changed (in_lives parts.old_blocks) same_changed

    s : shifted ≡ in_lives parts.shifted
    s = free_as shifted (in_lives parts.shifted) same_shifted

    olds : old ≡ parts.old_blocks ++ filter_map (risen_at pairs parts.old_blocks) places
    olds = old_is ∙ ap (λ m. parts.old_blocks ++ filter_map (risen_by pairs m) places) c

    news : new ≡ (parts.new_blocks ++ filter (is_marked marked) parts.shifted) ++ filter_map (unmoved_at pairs parts.old_blocks parts.shifted) places
    news =
        new_is
        ∙ (ap (λ m. m ++ filter_map (unmoved_by pairs changed shifted) places) middle_is
        ∙ (ap (λ m. (parts.new_blocks ++ filter (is_marked marked) parts.shifted) ++ filter_map (unmoved_by pairs m shifted) places) c
        ∙ ap (λ m. (parts.new_blocks ++ filter (is_marked marked) parts.shifted) ++ filter_map (unmoved_by pairs (in_lives parts.old_blocks) m) places) s))

    moves : moved ≡ filter (λ live. not (is_marked marked live)) parts.shifted
    moves = moved_is ∙ ap (λ m. m ++ filter (λ live. not (is_marked marked live)) parts.shifted) none_is

-- the looks are as many as places are left
pub left_looks : (changed : Marked) (lives : List Live) (places : List PairPlace) (before after : ℕ)
    → ((tree address : ℕ) → changed tree address ≡ in_lives lives tree address) → after ≤ before + length (filter (is_free changed) places)
    → after ≤ before + length (filter (is_left lives) places)
left_looks changed lives places before after same few =
    subst (λ m. after ≤ before + length (filter (is_free m) places)) (free_as changed (in_lives lives) same) few

-- where nothing is marked, nothing rises
pub none_risen : (pairs : Pairs) (marked : Marked) (places : List PairPlace) (parts : Parts)
    → ((tree address : ℕ) → marked tree address ≡ marked_in places tree address) → length places ≡ 0 → parts ≡ with_risen pairs marked places parts
none_risen pairs marked places parts each zero =
    subst (λ ps. parts ≡ with_risen pairs marked ps parts) (sym none)
    (λ i. record parts {
      old_blocks = sym (append-nil parts.old_blocks) i;
      new_blocks = news i;
      shifted = sym (all parts.shifted) i;
    })
  where
    empty : (ps : List PairPlace) → length ps ≡ 0 → ps ≡ []
    empty [] is = refl
    empty (p ∷ ps) is = absurd (omega (arith, is))

    none : places ≡ []
    none = empty places zero

    free : (live : Live) → is_marked marked live ≡ false
    free live = each live.tree live.address ∙ ap (λ ps. marked_in ps live.tree live.address) none

    nothing : (lives : List Live) → filter (is_marked marked) lives ≡ []
    nothing [] = refl
    nothing (live ∷ lives) = rw (free live) (nothing lives)

    all : (lives : List Live) → filter (λ live. not (is_marked marked live)) lives ≡ lives
    all [] = refl
    all (live ∷ lives) = rw (free live) (ap (λ ls. live ∷ ls) (all lives))

    news : parts.new_blocks ≡ (parts.new_blocks ++ filter (is_marked marked) parts.shifted) ++ []
    news =
        sym (append-nil (parts.new_blocks ++ filter (is_marked marked) parts.shifted)
        ∙ (ap (λ m. parts.new_blocks ++ m) (nothing parts.shifted) ∙ append-nil parts.new_blocks))

pub same_looks : (n m : ℕ) → n ≤ n + m
same_looks n m = omega arith
