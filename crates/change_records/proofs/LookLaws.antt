-- How often a search of spans looks, pass by pass.
use Rattle.std.proofs.Common.{◌≡◌, ℕ, ◌+◌, ◌<◌, ◌≤◌, Bool, true, false, cond, not, ◌&&◌, ◌||◌, List, [], ◌∷◌, get_or, length, take, max, refl, ap, subst, arith, inl, inr}
use Rattle.std.specs.Prelude.{◌==◌, Option, Some, None, nat_lt}
use Rattle.std.specs.List.{count_by, list_any, sum_by}
use Rattle.std.specs.Ordering.{is_lt}
use Rattle.std.specs.Cmp.{tied_itself}
use Rattle.std.proofs.lemmas.Bool.{and_from, and_parts, both_ways, eqb-true, lt-ltb, ltb-true, or_cases}
use Rattle.std.proofs.lemmas.Bool.Decides.{nat_tests}
use Rattle.std.proofs.lemmas.List.Sums.{sum_by-cons, sum_by-le-sum_by, sum_by-take-le, sum_by_more, sum_by_more_le}
use Rattle.verdict.proofs.Truth.{is_equal, is_less, false_of_not}
use Rattle.verdict.specs.declared.place.Chunk.{Chunk}
use Rattle.span_index.specs.Order.{is_below, is_same, span_cmp}
use Rattle.span_index.specs.OrderLaws.{span_exact, span_total}
use Rattle.span_index.specs.Spans.{IsMeeting, IsNextShown, Table, end_of, is_above, is_behind, is_met, is_sort, offset_of}
use Rattle.span_index.specs.declared.span.Span.{Span}
use Rattle.span_index.specs.declared.span.SortName.{SortName}
use Rattle.span_index.specs.declared.span.SortName.TheVariants.{Owned as OwnedName, Summed as SummedName, Shown as ShownName}
use Rattle.span_index.specs.declared.span.SpanSort.{SpanSort}
use Rattle.span_index.specs.declared.span.SpanSort.TheVariants.{Owned, Summed, Shown}
use Rattle.change_records.specs.declared.kept.Inode.{Inode}
use Rattle.change_records.specs.Looks.{is_empty_shown, is_of_extent, stands_for}
use Rattle.change_records.specs.Passes.{AreSpansOf, AreStopsOf, chunk_looks, chunks_looks, inode_looks, inodes_looks, is_other, is_shown, meets, overlaps}
use Rattle.change_records.proofs.SearchLaws.{BeginsBy, below_first, is_ahead, shown_too}

-- ---- sums

pub sum_both : {X : Type 0} (f g : X → ℕ) (xs : List X) → sum_by (λ x. f x + g x) xs ≡ sum_by f xs + sum_by g xs
sum_both f g [] = refl
sum_both f g (y ∷ ys) =
    let a : sum_by f (y ∷ ys) ≡ f y + sum_by f ys = sum_by-cons f y ys in
    let b : sum_by g (y ∷ ys) ≡ g y + sum_by g ys = sum_by-cons g y ys in
    let c : sum_by (λ x. f x + g x) (y ∷ ys) ≡ (f y + g y) + sum_by (λ x. f x + g x) ys = sum_by-cons (λ x. f x + g x) y ys in
    let d : sum_by (λ x. f x + g x) ys ≡ sum_by f ys + sum_by g ys = sum_both f g ys in
    omega arith

-- what passes one of two tests at most, and the third then, is counted by the third
pub count_two : {X : Type 0} (p q r : X → Bool) (xs : List X) → ((x : X) → cond {A = ℕ} (p x) 1 0 + cond (q x) 1 0 ≤ cond (r x) 1 0)
    → count_by p xs + count_by q xs ≤ count_by r xs
count_two p q r xs each =
    let a = sum_by-le-sum_by (λ x. cond {A = ℕ} (p x) 1 0 + cond (q x) 1 0) (λ x. cond (r x) 1 0) xs each in
    let b = sum_both (λ x. cond {A = ℕ} (p x) 1 0) (λ x. cond (q x) 1 0) xs in
    omega (arith, a, b)

pub count_le : {X : Type 0} (p q : X → Bool) (xs : List X) → ((x : X) → p x ≡ true → q x ≡ true) → count_by p xs ≤ count_by q xs
count_le p q xs each = sum_by-le-sum_by (λ x. cond (p x) 1 0) (λ x. cond (q x) 1 0) xs (λ x. by (p x) (q x) (each x))
  where
    by : (a b : Bool) → (a ≡ true → b ≡ true) → cond {A = ℕ} a 1 0 ≤ cond b 1 0
    by false b f = omega arith
    by true b f = let one : cond {A = ℕ} b 1 0 ≡ 1 = ap (λ z. cond z 1 0) (f refl) in omega arith

pub count_none : {X : Type 0} (p : X → Bool) (xs : List X) → ((x : X) → p x ≡ false) → count_by p xs ≡ 0
count_none p [] none = refl
count_none p (y ∷ ys) none =
    let a : count_by p (y ∷ ys) ≡ cond (p y) 1 0 + count_by p ys = sum_by-cons (λ x. cond (p x) 1 0) y ys in
    let b : cond {A = ℕ} (p y) 1 0 ≡ 0 = ap (λ z. cond z 1 0) (none y) in
    let d : count_by p ys ≡ 0 = count_none p ys none in
    omega arith

-- ---- the order of spans

pub same_is : (x y : Span) → is_same x y ≡ true → x ≡ y
unfolding is_same
same_is x y e = span_exact x y (is_equal (span_cmp x y) e)

below_itself : (x : Span) → is_below x x ≡ false
unfolding is_below
below_itself x = ap is_lt (tied_itself span_total x)

below_trans : (x y z : Span) → is_below x y ≡ true → is_below y z ≡ true → is_below x z ≡ true
unfolding is_below
below_trans x y z a b = ap is_lt (span_total.trans x y z (is_less (span_cmp x y) a) (is_less (span_cmp y z) b))

-- ---- a pass over the spans that a range meets

-- whether a pass has come by a span
unfoldable pub is_passed : SortName → ℕ → ℕ → ℕ → Option Span → Span → Bool
is_passed sort from until now after span = overlaps sort from until span && not (is_ahead now after span)

-- one that comes after a passed one is passed too
two_tests : (p s q : Bool) → (p ≡ true → s ≡ true → ⊥) → (p ≡ true → q ≡ true) → (s ≡ true → q ≡ true) → cond {A = ℕ} p 1 0 + cond s 1 0 ≤ cond q 1 0
two_tests true true q never f g = absurd (never refl refl)
two_tests true false q never f g = let one : cond {A = ℕ} q 1 0 ≡ 1 = ap (λ z. cond z 1 0) (f refl) in omega arith
two_tests false true q never f g = let one : cond {A = ℕ} q 1 0 ≡ 1 = ap (λ z. cond z 1 0) (g refl) in omega arith
two_tests false false q never f g = omega arith

some_here : {X : Type 0} (f : X → Bool) (x : X) (xs : List X) (b : Bool) → f x ≡ b → (b || list_any f xs) ≡ true
    → (list_any f xs ≡ true → 0 < count_by f xs) → 0 < count_by f (x ∷ xs)
some_here f x xs true here any more =
    let whole : count_by f (x ∷ xs) ≡ cond (f x) 1 0 + count_by f xs = sum_by-cons (λ y. cond (f y) 1 0) x xs in
    let one : cond {A = ℕ} (f x) 1 0 ≡ 1 = ap (λ z. cond z 1 0) here in
    omega (arith, whole, one)
some_here f x xs false here any more =
    let whole : count_by f (x ∷ xs) ≡ cond (f x) 1 0 + count_by f xs = sum_by-cons (λ y. cond (f y) 1 0) x xs in
    let rest = more any in
    omega (arith, whole, rest)

some_counted : {X : Type 0} (f : X → Bool) (xs : List X) → list_any f xs ≡ true → 0 < count_by f xs
some_counted f [] is = absurd (cc)
some_counted f (x ∷ xs) is = some_here f x xs (f x) refl is (some_counted f xs)

-- a span of no sector that is shown is of the sort of another
shown_sort : (sort : SortName) (x y : SpanSort) → is_sort sort x ≡ true → is_sort ShownName x ≡ true → is_sort ShownName y ≡ true → is_sort sort y ≡ true
shown_sort sort (Owned d) y is shown other = absurd (cc)
shown_sort sort Summed y is shown other = absurd (cc)
shown_sort sort (Shown t i o e l) (Owned d) is shown other = absurd (cc)
shown_sort sort (Shown t i o e l) Summed is shown other = absurd (cc)
shown_sort OwnedName (Shown t i o e l) (Shown t' i' o' e' l') is shown other = absurd (cc)
shown_sort SummedName (Shown t i o e l) (Shown t' i' o' e' l') is shown other = absurd (cc)
shown_sort ShownName (Shown t i o e l) (Shown t' i' o' e' l') is shown other = refl

-- what is behind the next one is behind the last one too
onward : (now : ℕ) (after : Option Span) (next x : Span) → is_above after next ≡ true → is_ahead (max now next.first) (Some next) x ≡ true
    → is_ahead now after x ≡ true
onward now after next x above ahead =
    let both = and_parts (nat_lt (max now next.first) (end_of x)) (is_below next x) ahead in
    let ends : max now next.first < end_of x = ltb-true _ _ both.0 in
    and_from _ _ (lt-ltb now (end_of x) (omega (arith, ends))) (by after above both.1)
  where
    by : (after : Option Span) → is_above after next ≡ true → is_below next x ≡ true → is_above after x ≡ true
    by None first second = refl
    by (Some a) first second = below_trans a next x first second

module _ (table : Table) (stops : List Span) (are : AreStopsOf table stops) (sort : SortName) (from until : ℕ) where
  pub passed_none : count_by (is_passed sort from until from None) stops ≡ 0
  unfolding is_passed overlaps
  passed_none =
      count_none (is_passed sort from until from None) stops (λ x. by (is_sort sort x.sort) (nat_lt from (end_of x)) (nat_lt x.first until))
    where
      by : (s b c : Bool) → ((s && (b && c)) && not (b && true)) ≡ false
      by true true true = refl
      by true true false = refl
      by true false c = refl
      by false b c = refl

  module _ (now : ℕ) (after : Option Span) (next : Span) (least : IsMeeting table sort now after (Some next)) (begins : next.first < until)
      (low : from ≤ now) (behind : BeginsBy now after) where
    -- what stands for the next one lies before the pass, and then behind it
    record Comes (x : Span) : Type 0 where
      reach : overlaps sort from until x ≡ true
      before : is_ahead now after x ≡ true
      then : is_ahead (max now next.first) (Some next) x ≡ false

    its : (is_sort sort next.sort ≡ true) × (now < end_of next) × (is_above after next ≡ true)
    unfolding is_met
    its =
        let met = and_parts (is_sort sort next.sort) (nat_lt now (end_of next) && is_above after next) least.1 in
        let ends = and_parts (nat_lt now (end_of next)) (is_above after next) met.1 in
        (met.0, ltb-true now (end_of next) ends.0, ends.1)

    itself : Comes next
    unfolding overlaps
    itself = record {
      reach = and_from _ _ its.0 (and_from _ _ (lt-ltb from (end_of next) (omega (arith, low, its.1))) (lt-ltb next.first until begins));
      before = and_from _ _ (lt-ltb now (end_of next) its.1) its.2;
      then = none (nat_lt (max now next.first) (end_of next));
    }
      where
        none : (b : Bool) → (b && is_below next next) ≡ false
        none true = below_itself next
        none false = refl

    other : (x : Span) → is_empty_shown next ≡ true → is_empty_shown x ≡ true → (next.first == x.first) ≡ true → Comes x
    unfolding overlaps
    other x empty its_empty here =
        let one = and_parts (is_sort ShownName next.sort) (next.sectors == 0) empty in
        let two = and_parts (is_sort ShownName x.sort) (x.sectors == 0) its_empty in
        let none : next.sectors ≡ 0 = eqb-true _ _ one.1 in
        let its_none : x.sectors ≡ 0 = eqb-true _ _ two.1 in
        let at : next.first ≡ x.first = eqb-true _ _ here in
        let ends : now < end_of x = omega (arith, its.1, none, its_none, at) in
        record {
          reach = and_from _ _ (shown_sort sort next.sort x.sort its.0 one.0 two.0)
              (and_from _ _ (lt-ltb from (end_of x) (omega (arith, low, ends))) (lt-ltb x.first until (omega (arith, begins, at))));
          before = and_from _ _ (lt-ltb now (end_of x) ends) (by after behind x (omega (arith, ends, its_none)));
          then = left (nat_lt (max now next.first) (end_of x)) (not_less (max now next.first) (end_of x) (omega (arith, at, its_none)));
        }
      where
        by : (after : Option Span) → BeginsBy now after → (x : Span) → now < x.first → is_above after x ≡ true
        by None behind x less = refl
        by (Some a) behind x less = below_first a x (omega (arith, behind, less))

        not_less : (a b : ℕ) → b ≤ a → nat_lt a b ≡ false
        not_less a b is = grind (arith, nat_tests)

        left : (b : Bool) → b ≡ false → (b && is_below next x) ≡ false
        left true is = absurd (cc)
        left false is = refl

    comes : (x : Span) → stands_for next x ≡ true → Comes x
    unfolding stands_for
    comes x is = elim (or_cases (is_same next x) (is_empty_shown next && (is_empty_shown x && next.first == x.first)) is) [
      | inl same ↦ subst Comes (same_is next x same) itself
      | inr place ↦
          let one = and_parts (is_empty_shown next) (is_empty_shown x && next.first == x.first) place in
          let two = and_parts (is_empty_shown x) (next.first == x.first) one.1 in
          other x one.0 two.0 two.1
    ]

    -- the pass comes by one more
    pub passed_more : count_by (is_passed sort from until now after) stops + 1 ≤ count_by (is_passed sort from until (max now next.first) (Some next)) stops
    unfolding is_passed
    passed_more =
        let some = some_counted (stands_for next) stops (are next least.0) in
        let two = count_two (is_passed sort from until now after) (stands_for next) (is_passed sort from until (max now next.first) (Some next)) stops
        (λ x. two_tests (is_passed sort from until now after x) (stands_for next x) (is_passed sort from until (max now next.first) (Some next) x)
        (λ p s. (let past = and_parts (overlaps sort from until x) (not (is_ahead now after x)) p in
        both_ways (is_ahead now after x) (false_of_not _ past.1) (comes x s).before))
        (λ p. (let past = and_parts (overlaps sort from until x) (not (is_ahead now after x)) p in
        and_from _ _ past.0 (ap not (still x (false_of_not _ past.1) (is_ahead (max now next.first) (Some next) x) refl))))
        (λ s. and_from _ _ (comes x s).reach (ap not (comes x s).then))) in
        omega (arith, two, some)
      where
        still : (x : Span) → is_ahead now after x ≡ false → (b : Bool) → is_ahead (max now next.first) (Some next) x ≡ b
            → is_ahead (max now next.first) (Some next) x ≡ false
        still x past true ahead = absurd (both_ways _ past (onward now after next x its.2 ahead))
        still x past false ahead = ahead

  pub passed_most : (now : ℕ) (after : Option Span) → count_by (is_passed sort from until now after) stops ≤ count_by (overlaps sort from until) stops
  unfolding is_passed
  passed_most now after = count_le (is_passed sort from until now after) (overlaps sort from until) stops
      (λ x p. (and_parts (overlaps sort from until x) (not (is_ahead now after x)) p).0)

-- ---- a pass over what an inode shows

unfoldable pub is_read : Inode → Option ℕ → Span → Bool
is_read inode after span = is_shown inode span && not (is_behind after (offset_of span.sort))

still_read : (after : Option ℕ) (next x : ℕ) → is_behind after next ≡ true → is_behind after x ≡ false → nat_lt next x ≡ false
still_read None next x behind past = absurd (cc)
still_read (Some a) next x behind past = grind (arith, nat_tests)

module _ (table : Table) (all : List Span) (are : AreSpansOf table all) (inode : Inode) where
  pub read_none : count_by (is_read inode None) all ≡ 0
  unfolding is_read
  read_none = count_none (is_read inode None) all (λ x. by (is_shown inode x))
    where
      by : (b : Bool) → (b && false) ≡ false
      by true = refl
      by false = refl

  pub read_more : (after : Option ℕ) (next : Span) → IsNextShown table inode.tree inode.ino after (Some next)
      → count_by (is_read inode after) all + 1 ≤ count_by (is_read inode (Some (offset_of next.sort))) all
  unfolding is_read is_shown
  read_more after next least =
      let shown = shown_too inode.tree inode.ino after next.sort least.1 in
      let itself : nat_lt (offset_of next.sort) (offset_of next.sort) ≡ false = grind (arith, nat_tests) in
      let here : is_read inode (Some (offset_of next.sort)) next ≡ true = and_from _ _ shown.0 (ap not itself) in
      let stands : 0 < table next = least.0 in
      let times : table next ≡ count_by (is_same next) all = are next in
      let two = count_two (is_read inode after) (is_same next) (is_read inode (Some (offset_of next.sort))) all
      (λ x. two_tests (is_read inode after x) (is_same next x) (is_read inode (Some (offset_of next.sort)) x)
      (λ p s. (let past = and_parts (is_shown inode x) (not (is_behind after (offset_of x.sort))) p in
      both_ways (is_behind after (offset_of x.sort)) (false_of_not _ past.1) (subst (λ y. is_behind after (offset_of y.sort) ≡ true) (same_is next x s) shown.1)))
      (λ p. (let past = and_parts (is_shown inode x) (not (is_behind after (offset_of x.sort))) p in
      and_from _ _ past.0 (ap not (still_read after (offset_of next.sort) (offset_of x.sort) shown.1 (false_of_not _ past.1)))))
      (λ s. subst (λ y. is_read inode (Some (offset_of next.sort)) y ≡ true) (same_is next x s) here)) in
      omega (arith, two, times, stands)

  pub read_most : (after : Option ℕ) → count_by (is_read inode after) all ≤ count_by (is_shown inode) all
  unfolding is_read
  read_most after = count_le (is_read inode after) (is_shown inode) all
      (λ x p. (and_parts (is_shown inode x) (not (is_behind after (offset_of x.sort))) p).0)

-- ---- both sorts of spans that meet a chunk

sort_tests : (sort : SpanSort) (a b c : Bool) → (a ≡ true → c ≡ true) → (b ≡ true → c ≡ true)
    → cond {A = ℕ} (is_sort OwnedName sort && a) 1 0 + cond (is_sort ShownName sort && b) 1 0 ≤ cond (is_of_extent sort && c) 1 0
sort_tests (Owned d) true b c f g = let one : cond {A = ℕ} c 1 0 ≡ 1 = ap (λ z. cond z 1 0) (f refl) in omega arith
sort_tests (Owned d) false b c f g = omega arith
sort_tests Summed a b c f g = omega arith
sort_tests (Shown t i o x l) a true c f g = let one : cond {A = ℕ} c 1 0 ≡ 1 = ap (λ z. cond z 1 0) (g refl) in omega arith
sort_tests (Shown t i o x l) a false c f g = omega arith

within : (chunk : Chunk) (until : ℕ) (span : Span) → until ≤ chunk.start + chunk.length → (nat_lt chunk.start (end_of span) && nat_lt span.first until) ≡ true
    → (nat_lt chunk.start (end_of span) && nat_lt span.first (chunk.start + chunk.length)) ≡ true
within chunk until span small both =
    let parts = and_parts (nat_lt chunk.start (end_of span)) (nat_lt span.first until) both in
    let first : nat_lt span.first until ≡ true = parts.1 in
    let later : nat_lt span.first (chunk.start + chunk.length) ≡ true = grind (arith, nat_tests) in
    and_from _ _ parts.0 later

pub both_sorts : (stops : List Span) (chunk : Chunk) (until : ℕ) → until ≤ chunk.start + chunk.length
    → count_by (overlaps OwnedName chunk.start until) stops + count_by (overlaps ShownName chunk.start until) stops ≤ count_by (meets chunk) stops
unfolding overlaps meets
both_sorts stops chunk until small =
    count_two (overlaps OwnedName chunk.start until) (overlaps ShownName chunk.start until) (meets chunk) stops
    (λ x. sort_tests x.sort _ _ _ (within chunk until x small) (within chunk until x small))

-- ---- the chunks and the inodes of a list, one after the other

module _ {X : Type 0} (f : X → ℕ) (xs : List X) (i : ℕ) (before now : ℕ) (had : now ≤ before + sum_by f (take i xs)) where
  all_looks : now ≤ before + sum_by f xs
  all_looks = let part = sum_by-take-le f xs i in omega (arith, had, part)

  module _ (d : X) (small : i < length xs) where
    none_more : f (get_or xs i d) ≡ 0 → now ≤ before + sum_by f (take (i + 1) xs)
    none_more none = let more = sum_by_more f xs i d small in omega (arith, had, more, none)

    some_more : (next : ℕ) → next ≤ now + f (get_or xs i d) → next ≤ before + sum_by f (take (i + 1) xs)
    some_more next looked = let more = sum_by_more f xs i d small in omega (arith, had, more, looked)

    some_all : (next : ℕ) → next ≤ now + f (get_or xs i d) → next ≤ before + sum_by f xs
    some_all next looked = let more = sum_by_more_le f xs i d small in omega (arith, had, more, looked)

where_true : (b : Bool) (n m looked : ℕ) → b ≡ true → looked ≤ m + n → looked ≤ m + cond b n 0
where_true b n m looked is le = let same : cond b n 0 ≡ n = ap (λ z. cond z n 0) is in omega (arith, le, same)

module _ (searched : Chunk → Bool) (stops : List Span) (chunks : List Chunk) (i : ℕ) (before now : ℕ) (had : now ≤ before + chunks_looks searched stops (take i chunks)) where
  pub chunks_all : now ≤ before + chunks_looks searched stops chunks
  unfolding chunks_looks
  chunks_all = all_looks (λ c. cond (searched c) (chunk_looks stops c) 0) chunks i before now had

  module _ (d : Chunk) (small : i < length chunks) where
    pub chunks_skip : searched (get_or chunks i d) ≡ false → now ≤ before + chunks_looks searched stops (take (i + 1) chunks)
    unfolding chunks_looks
    chunks_skip is =
        none_more (λ c. cond (searched c) (chunk_looks stops c) 0) chunks i before now had d small (ap (λ b. cond b (chunk_looks stops (get_or chunks i d)) 0) is)

    module _ (is : searched (get_or chunks i d) ≡ true) (next : ℕ) (looked : next ≤ now + chunk_looks stops (get_or chunks i d)) where
      pub chunks_more : next ≤ before + chunks_looks searched stops (take (i + 1) chunks)
      unfolding chunks_looks
      chunks_more =
          some_more (λ c. cond (searched c) (chunk_looks stops c) 0) chunks i before now had d small next
          (where_true (searched (get_or chunks i d)) (chunk_looks stops (get_or chunks i d)) now next is looked)

      pub chunks_end : next ≤ before + chunks_looks searched stops chunks
      unfolding chunks_looks
      chunks_end =
          some_all (λ c. cond (searched c) (chunk_looks stops c) 0) chunks i before now had d small next
          (where_true (searched (get_or chunks i d)) (chunk_looks stops (get_or chunks i d)) now next is looked)

module _ (old_flags new_flags : ℕ → ℕ → Bool) (all : List Span) (inodes : List Inode) (i : ℕ) (before now : ℕ)
    (had : now ≤ before + inodes_looks old_flags new_flags all (take i inodes)) where
  pub inodes_all : now ≤ before + inodes_looks old_flags new_flags all inodes
  unfolding inodes_looks
  inodes_all = all_looks (λ n. cond (is_other old_flags new_flags n) (inode_looks all n) 0) inodes i before now had

  module _ (d : Inode) (small : i < length inodes) where
    pub inodes_skip : is_other old_flags new_flags (get_or inodes i d) ≡ false → now ≤ before + inodes_looks old_flags new_flags all (take (i + 1) inodes)
    unfolding inodes_looks
    inodes_skip is =
        none_more (λ n. cond (is_other old_flags new_flags n) (inode_looks all n) 0) inodes i before now had d small
        (ap (λ b. cond b (inode_looks all (get_or inodes i d)) 0) is)

    module _ (is : is_other old_flags new_flags (get_or inodes i d) ≡ true) (next : ℕ) (looked : next ≤ now + inode_looks all (get_or inodes i d)) where
      pub inodes_more : next ≤ before + inodes_looks old_flags new_flags all (take (i + 1) inodes)
      unfolding inodes_looks
      inodes_more =
          some_more (λ n. cond (is_other old_flags new_flags n) (inode_looks all n) 0) inodes i before now had d small next
          (where_true (is_other old_flags new_flags (get_or inodes i d)) (inode_looks all (get_or inodes i d)) now next is looked)

      pub inodes_end : next ≤ before + inodes_looks old_flags new_flags all inodes
      unfolding inodes_looks
      inodes_end =
          some_all (λ n. cond (is_other old_flags new_flags n) (inode_looks all n) 0) inodes i before now had d small next
          (where_true (is_other old_flags new_flags (get_or inodes i d)) (inode_looks all (get_or inodes i d)) now next is looked)
