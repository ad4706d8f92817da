-- The next span that ends after an address: in a class, and in all.
use Rattle.std.proofs.Common.{◌≡◌, ℕ, ◌+◌, ◌-◌, ◌*◌, ◌<◌, ◌≤◌, ◌%◌, ◌^◌, Bool, true, false, cond, not, ◌&&◌, ◌||◌, List, [], ◌∷◌, refl, sym, ap, ◌∙◌, subst, arith}
use Rattle.std.specs.Prelude.{◌==◌, Option, Some, None, IsSome, IfSome, nat_le, nat_lt, option_map}
use Rattle.std.specs.List.{find}
use Rattle.std.specs.Ordering.{is_gt, is_lt, is_le, nat_cmp, ordering_then}
use Rattle.std.specs.declared.cmp.Ordering.{Ordering}
use Rattle.std.specs.declared.cmp.Ordering.TheVariants.{Less, Equal, Greater}
use Rattle.std.specs.declared.ops.Bound.{Bound}
use Rattle.std.specs.declared.ops.Bound.TheVariants.{Included, Excluded, Unbounded}
use Rattle.std.specs.BTreeMap as map
use Rattle.std.specs.BTreeMap.Range.{IsRangeOf, entries_between, is_from_start, range_contains}
use Rattle.std.specs.Cmp.{tied_itself}
use Rattle.std.specs.Cmp as order
use Rattle.std.proofs.Math.Nat.{pow-le-pow_right}
use Rattle.std.proofs.lemmas.Bool.{eqb-true, eq-eqb}
use Rattle.std.proofs.lemmas.Bool.Decides.{nat_tests}
use Rattle.span_index.specs.declared.span.Span.{Span}
use Rattle.span_index.specs.declared.span.SpanSort.{SpanSort}
use Rattle.span_index.specs.declared.span.SpanSort.TheVariants.{Owned, Summed, Shown}
use Rattle.span_index.specs.declared.span.SortName.{SortName}
use Rattle.span_index.specs.declared.span.SortName.TheVariants.{Owned as OwnedName, Summed as SummedName, Shown as ShownName}
use Rattle.span_index.specs.declared.places.Place.{Place}
use Rattle.span_index.specs.Order.{is_below, name_of, rank, sort_cmp, span_cmp}
use Rattle.span_index.specs.OrderLaws.{span_total}
use Rattle.span_index.specs.Places.{AreOwn, BeginsIn, IsClassFrom, IsMetWhere, StartsClass, class_of, is_of, is_stop, lesser, place_cmp, place_of, times_in}
use Rattle.span_index.specs.Spans.{Table, end_of, is_above, is_met, is_sort}
use Rattle.span_index.proofs.OrderLaws.{place_exact, place_total}
use Rattle.span_index.proofs.FindLaws.{find_filter, found_least, found_passes, found_stands, none_passes}
use Rattle.span_index.proofs.ClassLaws.{class_below, class_reach}
use Rattle.span_index.proofs.TableLaws.{some_there, times_are}
use Rattle.verdict.proofs.Truth.{and_left, and_right, and_true, is_less, or_right}
use Rattle.verdict.proofs.Numbers.{less_first, none_above, not_above as low_first}

-- ---- tests

pub opposed : {P : Type 0} (b : Bool) → b ≡ true → b ≡ false → P
opposed b e f = absurd (let no : true ≡ false = sym e ∙ f in cc)

pub le_not_gt : (r : Ordering) → is_le r ≡ true → is_gt r ≡ false
le_not_gt Less e = refl
le_not_gt Equal e = refl
le_not_gt Greater e = absurd (cc)

lt_not_gt : (r : Ordering) → is_lt r ≡ true → is_gt r ≡ false
lt_not_gt Less e = refl
lt_not_gt Equal e = absurd (cc)
lt_not_gt Greater e = absurd (cc)

-- an answer and the one the other way round
pub turned : (r t : Ordering) → t ≡ elim r [ Less ↦ Greater | Equal ↦ Equal | Greater ↦ Less ] → is_lt r ≡ true → is_gt t ≡ true
turned Less t e h = ap is_gt e
turned Equal t e h = absurd (cc)
turned Greater t e h = absurd (cc)

-- ---- sorts and their names

pub named : (n : SortName) (sort : SpanSort) → is_sort n sort ≡ true → name_of sort ≡ n
named OwnedName (Owned d) e = refl
named OwnedName Summed e = absurd (cc)
named OwnedName (Shown t i o x l) e = absurd (cc)
named SummedName (Owned d) e = absurd (cc)
named SummedName Summed e = refl
named SummedName (Shown t i o x l) e = absurd (cc)
named ShownName (Owned d) e = absurd (cc)
named ShownName Summed e = absurd (cc)
named ShownName (Shown t i o x l) e = refl

own_name : (sort : SpanSort) → is_sort (name_of sort) sort ≡ true
own_name (Owned d) = refl
own_name Summed = refl
own_name (Shown t i o x l) = refl

rank_is : (m n : SortName) → (rank m == rank n) ≡ true → m ≡ n
rank_is OwnedName OwnedName e = refl
rank_is OwnedName SummedName e = absurd (cc)
rank_is OwnedName ShownName e = absurd (cc)
rank_is SummedName OwnedName e = absurd (cc)
rank_is SummedName SummedName e = refl
rank_is SummedName ShownName e = absurd (cc)
rank_is ShownName OwnedName e = absurd (cc)
rank_is ShownName SummedName e = absurd (cc)
rank_is ShownName ShownName e = refl

-- ---- places in one class

pub level : (x : ℕ) → nat_cmp x x ≡ Equal
level x = tied_itself order.nat_cmp_total x

pub same_class : (p q : Place) → p.sort ≡ q.sort → p.class ≡ q.class → place_cmp p q ≡ span_cmp p.span q.span
same_class p q s c =
    ap (λ x. ordering_then (nat_cmp (rank x) (rank q.sort)) (ordering_then (nat_cmp p.class q.class) (span_cmp p.span q.span))) s
    ∙ ap (λ r. ordering_then r (ordering_then (nat_cmp p.class q.class) (span_cmp p.span q.span))) (level (rank q.sort))
    ∙ ap (λ x. ordering_then (nat_cmp x q.class) (span_cmp p.span q.span)) c
    ∙ ap (λ r. ordering_then r (span_cmp p.span q.span)) (level q.class)

pub not_above : (a b : ℕ) (r : Ordering) → is_gt (ordering_then (nat_cmp a b) r) ≡ false → a ≤ b
not_above a b r h = grind (arith, nat_tests)

pub then_rest : (a b : ℕ) (r : Ordering) → is_gt (ordering_then (nat_cmp a b) r) ≡ false → a ≡ b → is_gt r ≡ false
then_rest a b r h is = ap (λ x. is_gt (ordering_then x r)) (sym (ap (λ x. nat_cmp x b) is ∙ level b)) ∙ h

-- a place between two of a sort and a class is of these
pub between : (sort : SortName) (class : ℕ) (b e x : Place) → b.sort ≡ sort → b.class ≡ class → x.sort ≡ sort → x.class ≡ class
    → is_gt (place_cmp b e) ≡ false → is_gt (place_cmp e x) ≡ false → is_of sort class e ≡ true
between sort class b e x bs bc xs xc low high =
    let r1 : rank b.sort ≤ rank e.sort = not_above _ _ _ low in
    let r2 : rank e.sort ≤ rank x.sort = not_above _ _ _ high in
    let r3 : rank b.sort ≡ rank sort = ap rank bs in
    let r4 : rank x.sort ≡ rank sort = ap rank xs in
    let s1 : rank b.sort ≡ rank e.sort = omega arith in
    let s2 : rank e.sort ≡ rank x.sort = omega arith in
    let c1 : b.class ≤ e.class = not_above _ _ _ (then_rest _ _ _ low s1) in
    let c2 : e.class ≤ x.class = not_above _ _ _ (then_rest _ _ _ high s2) in
    and_true _ _ (eq-eqb (rank e.sort) (rank sort) (omega arith)) (eq-eqb e.class class (omega arith))

from_not_gt : (start : Bound Place) (sort : SortName) (class : ℕ) (e x : Place) → BeginsIn sort class start → is_from_start place_cmp start e ≡ true → x.sort ≡ sort → x.class ≡ class
    → is_gt (place_cmp e x) ≡ false → is_of sort class e ≡ true
from_not_gt (Included b) sort class e x begins from xs xc high = between sort class b e x begins.0 begins.1 xs xc (le_not_gt (place_cmp b e) from) high
from_not_gt (Excluded b) sort class e x begins from xs xc high = between sort class b e x begins.0 begins.1 xs xc (lt_not_gt (place_cmp b e) from) high
from_not_gt Unbounded sort class e x begins from xs xc high = absurd begins

-- ---- what the search finds

-- whether a place is from a bound on and stops the search
abbrev found_by : Bound Place → SortName → ℕ → ℕ → Place → Bool
found_by start sort class address place = range_contains place_cmp start Unbounded place && is_stop sort class address place

absent_at : (m : map.BTreeMap Place ℕ) (s : Span) (o : Option ℕ) → map.get place_cmp m (place_of s) ≡ o → ((v : ℕ) → map.get place_cmp m (place_of s) ≡ Some v → ⊥) → times_in m s ≡ 0
absent_at m s None is h = times_are m (place_of s) s None refl is
absent_at m s (Some v) is h = absurd (h v is)

absent : (m : map.BTreeMap Place ℕ) (s : Span) → ((v : ℕ) → map.get place_cmp m (place_of s) ≡ Some v → ⊥) → times_in m s ≡ 0
absent m s h = absent_at m s (map.get place_cmp m (place_of s)) refl h

pub there_own : (m : map.BTreeMap Place ℕ) (p : Place) (v : ℕ) → AreOwn m → map.get place_cmp m p ≡ Some v → p ≡ place_of p.span
there_own m p v own there =
    let had : IsSome (map.get place_cmp m p) = subst IsSome (sym there) refl in
    let s : p.sort ≡ name_of p.span.sort = own.sort p had in
    let c : p.class ≡ class_of p.span.sectors = own.class p had in
    λ i. record { sort = s i; class = c i; span = p.span }

-- a span that is asked for is found by the search
wanted : (sort : SortName) (class address : ℕ) (after : Option Span) (start : Bound Place) (s : Span) → StartsClass sort class address after start
    → class_of s.sectors ≡ class → is_met sort address after s ≡ true → found_by start sort class address (place_of s) ≡ true
unfolding is_met
wanted sort class address after start s starts in_class met =
    let ends : nat_lt address (end_of s) ≡ true = and_left _ _ (and_right (is_sort sort s.sort) _ met) in
    and_true _ _ (and_true _ _ (starts.all s in_class met) refl) (or_right (not (is_of sort class (place_of s))) (nat_lt address (end_of s)) ends)

found_is : (m : map.BTreeMap Place ℕ) (start : Bound Place) (sort : SortName) (class address : ℕ) (r : Option (Place × ℕ))
    → r ≡ find (λ e. is_stop sort class address e.0) (entries_between place_cmp start Unbounded m.entries) → find (λ e. found_by start sort class address e.0) m.entries ≡ r
found_is m start sort class address r is = sym (is ∙ find_filter (λ e. range_contains place_cmp start Unbounded e.0) (λ e. is_stop sort class address e.0) m.entries)

module _ (m : map.BTreeMap Place ℕ) (start : Bound Place) (sort : SortName) (class address : ℕ) (after : Option Span) (own : AreOwn m) (starts : StartsClass sort class address after start) (ordered : map.IsOrdered place_cmp m) where
  pub none_met : None ≡ find (λ e. is_stop sort class address e.0) (entries_between place_cmp start Unbounded m.entries)
      → IsMetWhere (λ c. c == class) (times_in m) sort address after None
  none_met is = λ s in_class met. absent m s (λ v there.
      opposed (found_by start sort class address (place_of s)) (wanted sort class address after start s starts (eqb-true _ _ in_class) met)
      (none_passes place_cmp place_total place_exact (found_by start sort class address) m.entries (place_of s) v (found_is m start sort class address None is) there))

  module _ (e : Place × ℕ) (is : Some e ≡ find (λ d. is_stop sort class address d.0) (entries_between place_cmp start Unbounded m.entries)) where
    found : find (λ d. found_by start sort class address d.0) m.entries ≡ Some e
    found = found_is m start sort class address (Some e) is

    stands : map.get place_cmp m e.0 ≡ Some e.1
    stands = found_stands place_cmp place_total place_exact (λ d. found_by start sort class address d.0) m.entries e ordered found

    from : is_from_start place_cmp start e.0 ≡ true
    from = and_left _ _ (and_left _ _ (found_passes (λ d. found_by start sort class address d.0) m.entries e found))

    stops : is_stop sort class address e.0 ≡ true
    stops = and_right (range_contains place_cmp start Unbounded e.0) _ (found_passes (λ d. found_by start sort class address d.0) m.entries e found)

    not_gt : (s : Span) (v : ℕ) → class_of s.sectors ≡ class → is_met sort address after s ≡ true → map.get place_cmp m (place_of s) ≡ Some v → is_gt (place_cmp e.0 (place_of s)) ≡ false
    not_gt s v in_class met there = found_least place_cmp place_total place_exact (found_by start sort class address) m.entries e (place_of s) v ordered found there (wanted sort class address after start s starts in_class met)

    sort_of : (s : Span) → is_met sort address after s ≡ true → name_of s.sort ≡ sort
    unfolding is_met
    sort_of s met = named sort s.sort (and_left _ _ met)

    pub other_met : is_of sort class e.0 ≡ false → IsMetWhere (λ c. c == class) (times_in m) sort address after None
    other_met apart = λ s in_class met. absent m s (λ v there.
        let cl : class_of s.sectors ≡ class = eqb-true _ _ in_class in
        opposed (is_of sort class e.0) (from_not_gt start sort class e.0 (place_of s) starts.begins from (sort_of s met) cl (not_gt s v cl met there)) apart)

    pub times_met : times_in m e.0.span ≡ e.1
    times_met = times_are m e.0 e.0.span (Some e.1) (there_own m e.0 e.1 own stands) stands

    pub met : is_of sort class e.0 ≡ true → IsMetWhere (λ c. c == class) (times_in m) sort address after (Some e.0.span)
    unfolding is_met is_below
    met here =
        let at_sort : e.0.sort ≡ sort = rank_is _ _ (and_left _ _ here) in
        let at_class : e.0.class ≡ class = eqb-true _ _ (and_right (rank e.0.sort == rank sort) _ here) in
        let own_sort : e.0.sort ≡ name_of e.0.span.sort = ap (λ p. p.sort) (there_own m e.0 e.1 own stands) in
        let ends : nat_lt address (end_of e.0.span) ≡ true = ap (λ b. not b || nat_lt address (end_of e.0.span)) (sym here) ∙ stops in (
          subst (λ x. 0 < x) (sym times_met) (some_there m e.0 e.1 own stands),
          and_true _ _ (ap (λ n. is_sort n e.0.span.sort) (sym at_sort ∙ own_sort) ∙ own_name e.0.span.sort) (and_true _ _ ends (starts.above e.0 at_sort at_class from)),
          λ s in_class asked below. absent m s (λ v there.
              let cl : class_of s.sectors ≡ class = eqb-true _ _ in_class in
              let high : is_gt (span_cmp e.0.span s) ≡ false =
              ap is_gt (sym (same_class e.0 (place_of s) (at_sort ∙ sym (sort_of s asked)) (at_class ∙ sym cl))) ∙ not_gt s v cl asked there in
              opposed _ (turned (span_cmp s e.0.span) (span_cmp e.0.span s) (span_total.antisymm e.0.span s) below) high),
          eq-eqb (class_of e.0.span.sectors) class (sym (ap (λ p. p.class) (there_own m e.0 e.1 own stands)) ∙ at_class),
        )

-- ---- the least of all classes

pub below_trans : (x y z : Span) → is_below x y ≡ true → is_below y z ≡ true → is_below x z ≡ true
unfolding is_below
below_trans x y z e f = ap is_lt (span_total.trans x y z (is_less _ e) (is_less _ f))

upto_by : (x y z : Span) (r : Ordering) → span_cmp z y ≡ r → is_lt r ≡ false → span_cmp x y ≡ Less → span_cmp x z ≡ Less
upto_by x y z Less is apart h = absurd (cc)
upto_by x y z Equal is apart h = order.alike_right span_total z y x is ∙ h
upto_by x y z Greater is apart h = span_total.trans x y z h (span_total.antisymm y z ∙ ap (λ r. elim r [ Less ↦ Greater | Equal ↦ Equal | Greater ↦ Less ]) is)

-- what is below a span is below one that is not below it
below_upto : (x y z : Span) → is_below x y ≡ true → is_below z y ≡ false → is_below x z ≡ true
unfolding is_below
below_upto x y z e f = ap is_lt (upto_by x y z (span_cmp z y) refl f (is_less _ e))

-- the classes from one on below another
abbrev pub in_classes : ℕ → ℕ → ℕ → Bool
in_classes f k c = nat_le f c && nat_lt c k

lower_or : (f c k : ℕ) {P : Type 0} → nat_le f c ≡ true → (in_classes f k c ≡ true → P) → (k ≤ c → P) → P
lower_or f c k {P} from low high =
    elim (nat_lt c k) as (λ b. nat_lt c k ≡ b → P) [
      | true ↦ λ e. low (and_true _ _ from e)
      | false ↦ λ e. high (grind (arith, nat_tests))
    ] refl

one_class : (f c k : ℕ) {P : Type 0} → in_classes f (k + 1) c ≡ true → (in_classes f k c ≡ true → P) → ((c == k) ≡ true → P) → P
one_class f c k {P} h low here =
    let upto : nat_lt c (k + 1) ≡ true = and_right (nat_le f c) _ h in
    elim (nat_lt c k) as (λ b. nat_lt c k ≡ b → P) [
      | true ↦ λ e. low (and_true _ _ (and_left _ _ h) e)
      | false ↦ λ e. here (grind (arith, nat_tests))
    ] refl

more_in : (f k n c : ℕ) → k ≤ n → in_classes f k c ≡ true → in_classes f n c ≡ true
more_in f k n c more h =
    let upto : nat_lt c k ≡ true = and_right (nat_le f c) _ h in
    let under : nat_lt c n ≡ true = grind (arith, nat_tests) in
    and_true _ _ (and_left _ _ h) under

at_in : (f k c : ℕ) → f ≤ k → (c == k) ≡ true → in_classes f (k + 1) c ≡ true
at_in f k c low h =
    let is : c ≡ k = eqb-true c k h in
    let over : nat_le f c ≡ true = grind (arith, nat_tests) in
    let under : nat_lt c (k + 1) ≡ true = grind (arith, nat_tests) in
    and_true _ _ over under

high_in : (f n c : ℕ) → in_classes f n c ≡ true → c < n
high_in f n c h = let upto : nat_lt c n ≡ true = and_right (nat_le f c) _ h in grind (arith, nat_tests)

module _ (f : ℕ) (t : Table) (sort : SortName) (address : ℕ) (after : Option Span) where
  abbrev Below : ℕ → Option (Span × ℕ) → Type 0
  Below k a = IsMetWhere (in_classes f k) t sort address after (option_map (λ p. p.0) a)

  abbrev At : ℕ → Option (Span × ℕ) → Type 0
  At k a = IsMetWhere (λ c. c == k) t sort address after (option_map (λ p. p.0) a)

  pub none_below : Below f None
  none_below = λ s in_class met. absurd (
      let low : nat_le f (class_of s.sectors) ≡ true = and_left _ _ in_class in
      let high : nat_lt (class_of s.sectors) f ≡ true = and_right (nat_le f (class_of s.sectors)) _ in_class in
      let up : f ≤ class_of s.sectors = grind (arith, nat_tests) in
      let down : class_of s.sectors < f = grind (arith, nat_tests) in
      omega arith)

  -- where no span stands of the classes between
  pub skipped : (k n : ℕ) → k ≤ n → (a : Option (Span × ℕ)) → Below k a → ((s : Span) → is_sort sort s.sort ≡ true → k ≤ class_of s.sectors → class_of s.sectors < n → t s ≡ 0) → Below n a
  unfolding is_met
  skipped k n up None below none = λ s in_class met. lower_or f (class_of s.sectors) k (and_left _ _ in_class) (λ e. below s e met) (λ e. none s (and_left _ _ met) e (high_in f n (class_of s.sectors) in_class))
  skipped k n up (Some a) below none = (
    below.0,
    below.1,
    λ s in_class met lower.
        lower_or f (class_of s.sectors) k (and_left _ _ in_class) (λ e. below.2 s e met lower) (λ e. none s (and_left _ _ met) e (high_in f n (class_of s.sectors) in_class)),
    more_in f k n (class_of a.0.sectors) up below.3,
  )

  pub all_skipped : (k : ℕ) (a : Option (Span × ℕ)) → Below k a → ((s : Span) → is_sort sort s.sort ≡ true → k ≤ class_of s.sectors → t s ≡ 0) → IsMetWhere (nat_le f) t sort address after (option_map (λ p. p.0) a)
  unfolding is_met
  all_skipped k None below none = λ s in_class met. lower_or f (class_of s.sectors) k in_class (λ e. below s e met) (λ e. none s (and_left _ _ met) e)
  all_skipped k (Some a) below none = (below.0, below.1, λ s in_class met lower. lower_or f (class_of s.sectors) k in_class (λ e. below.2 s e met lower) (λ e. none s (and_left _ _ met) e), and_left _ _ below.3)

  pub one_more : (k : ℕ) → f ≤ k → (a b : Option (Span × ℕ)) → Below k a → At k b → Below (k + 1) (lesser a b)
  one_more k up None None below here = λ s in_class met. one_class f (class_of s.sectors) k in_class (λ e. below s e met) (λ e. here s e met)
  one_more k up (Some a) None below here = (below.0, below.1, λ s in_class met lower. one_class f (class_of s.sectors) k in_class (λ e. below.2 s e met lower) (λ e. here s e met), more_in f k (k + 1) (class_of a.0.sectors) (omega arith) below.3)
  one_more k up None (Some b) below here = (here.0, here.1, λ s in_class met lower. one_class f (class_of s.sectors) k in_class (λ e. below s e met) (λ e. here.2 s e met lower), at_in f k (class_of b.0.sectors) up here.3)
  one_more k up (Some a) (Some b) below here =
      elim (is_below b.0 a.0) as (λ c. is_below b.0 a.0 ≡ c → Below (k + 1) (cond c (Some b) (Some a))) [
        | true ↦ λ less. (here.0, here.1, λ s in_class met lower. one_class f (class_of s.sectors) k in_class (λ e. below.2 s e met (below_trans s b.0 a.0 lower less)) (λ e. here.2 s e met lower), at_in f k (class_of b.0.sectors) up here.3)
        | false ↦ λ less. (below.0, below.1, λ s in_class met lower. one_class f (class_of s.sectors) k in_class (λ e. below.2 s e met lower) (λ e. here.2 s e met (below_upto s a.0 b.0 lower less)), more_in f k (k + 1) (class_of a.0.sectors) (omega arith) below.3)
      ] refl

  pub lesser_times : (a b : Option (Span × ℕ)) → IfSome a (λ p. p.1 ≡ t p.0) → IfSome b (λ p. p.1 ≡ t p.0) → IfSome (lesser a b) (λ p. p.1 ≡ t p.0)
  lesser_times None b x y = y
  lesser_times (Some a) None x y = x
  lesser_times (Some a) (Some b) x y = elim (is_below b.0 a.0) as (λ c. IfSome (cond c (Some b) (Some a)) (λ p. p.1 ≡ t p.0)) [ true ↦ y | false ↦ x ]

-- ---- where the search begins

never_below : (x : ℕ) → is_gt (nat_cmp 0 x) ≡ false
never_below x = grind (arith, nat_tests)

then_never : (r t : Ordering) → is_gt r ≡ false → is_gt t ≡ false → is_gt (ordering_then r t) ≡ false
then_never Less t e f = refl
then_never Equal t e f = f
then_never Greater t e f = e

least_sort : (sort : SpanSort) → is_gt (sort_cmp (Owned false) sort) ≡ false
least_sort (Owned true) = refl
least_sort (Owned false) = refl
least_sort Summed = refl
least_sort (Shown t i o x l) = refl

abbrev pub least_at : ℕ → Span
least_at low = record { first = low; sectors = 0; sort = Owned false }

pub least_not_above : (low : ℕ) (s : Span) → low ≤ s.first → is_gt (span_cmp (least_at low) s) ≡ false
least_not_above low s h = then_never (nat_cmp low s.first) _ (low_first low s.first h) (then_never (nat_cmp 0 s.sectors) _ (never_below s.sectors) (least_sort s.sort))

pub le_from : (r : Ordering) → is_gt r ≡ false → is_le r ≡ true
le_from Less e = refl
le_from Equal e = refl
le_from Greater e = absurd (cc)

-- a span of a class that ends after an address does not begin too far before it
reach : (address class low : ℕ) (s : Span) → address < 2 ^ 64 → low ≡ address - 2 ^ class * 4096 → class_of s.sectors ≡ class → nat_lt address (end_of s) ≡ true → low ≤ s.first
reach address class low s small is cl ends =
    let after : address < s.first + s.sectors * 4096 = grind (arith, nat_tests) in
    elim (class == 64) as (λ b. (class == 64) ≡ b → low ≤ s.first) [
      | true ↦ λ e. let none : low ≡ address - 2 ^ 64 * 4096 = is ∙ ap (λ x. address - 2 ^ x * 4096) (eqb-true class 64 e) in omega arith
      | false ↦ λ e.
          let under : class_of s.sectors < 64 = let all : class_of s.sectors < 65 = class_below s.sectors in grind (arith, nat_tests) in
          let few : s.sectors < 2 ^ class = subst (λ x. s.sectors < 2 ^ x) cl (class_reach s.sectors under) in
          omega arith
    ] refl

pub starts_low : (sort : SortName) (class address low : ℕ) (after : Option Span) → address < 2 ^ 64 → low ≡ address - 2 ^ class * 4096
    → ((s : Span) → low ≤ s.first → is_above after s ≡ true)
    → StartsClass sort class address after (Included (record { sort = sort; class = class; span = least_at low }))
unfolding is_met
starts_low sort class address low after small is above = record {
  begins = (refl, refl);
  all = λ s cl met.
      let first : low ≤ s.first = reach address class low s small is cl (and_left _ _ (and_right (is_sort sort s.sort) _ met)) in
      le_from _ (ap is_gt (same_class (record { sort = sort; class = class; span = least_at low }) (place_of s) (sym (named sort s.sort (and_left _ _ met))) (sym cl)) ∙ least_not_above low s first);
  above = λ place at_sort at_class from. above place.span (not_above low place.span.first _
      (ap is_gt (sym (same_class (record { sort = sort; class = class; span = least_at low }) place (sym at_sort) (sym at_class))) ∙ le_not_gt _ from));
}

pub above_low : (low : ℕ) (after s : Span) → after.first < low → low ≤ s.first → is_below after s ≡ true
unfolding is_below
above_low low after s before first = less_first after.first s.first _ (omega arith)

pub starts_after : (sort : SortName) (class address : ℕ) (after : Span) → StartsClass sort class address (Some after) (Excluded (record { sort = sort; class = class; span = after }))
unfolding is_met is_below
starts_after sort class address after = record {
  begins = (refl, refl);
  all = λ s cl met.
      ap is_lt (same_class (record { sort = sort; class = class; span = after }) (place_of s) (sym (named sort s.sort (and_left _ _ met))) (sym cl))
      ∙ and_right (nat_lt address (end_of s)) _ (and_right (is_sort sort s.sort) _ met);
  above = λ place at_sort at_class from. ap is_lt (sym (same_class (record { sort = sort; class = class; span = after }) place (sym at_sort) (sym at_class))) ∙ from;
}

pub shift_is : (class : ℕ) → class < 65 → 1 * 2 ^ class % 340282366920938463463374607431768211456 ≡ 2 ^ class
shift_is class h =
    let most : 2 ^ class ≤ 2 ^ 64 = pow-le-pow_right {n = 2} (omega arith) {i = class} {j = 64} (omega arith) in
    let small : 2 ^ class < 340282366920938463463374607431768211456 = omega arith in
    omega arith

-- ---- the first class that has spans

level_then : (x y : ℕ) (r : Ordering) → x ≡ y → ordering_then (nat_cmp x y) r ≡ r
level_then x y r is = ap (λ z. ordering_then (nat_cmp z y) r) is ∙ ap (λ z. ordering_then z r) (level y)

module _ (m : map.BTreeMap Place ℕ) (own : AreOwn m) (sort : SortName) (class : ℕ) where
  abbrev start : Place
  start = record { sort = sort; class = class; span = least_at 0 }

  in_range : (s : Span) → is_sort sort s.sort ≡ true → class ≤ class_of s.sectors → is_gt (place_cmp start (place_of s)) ≡ false
  in_range s own_sort low =
      ap is_gt (level_then (rank sort) (rank (name_of s.sort)) (ordering_then (nat_cmp class (class_of s.sectors)) (span_cmp (least_at 0) s)) (ap rank (sym (named sort s.sort own_sort))))
      ∙ none_above class (class_of s.sectors) _ low (least_not_above 0 s (omega arith))

  pub no_class : (r : List (Place × ℕ)) → IsRangeOf place_cmp (Included start) Unbounded m r → r ≡ [] → IsClassFrom (times_in m) sort class None
  no_class r range is = λ s own_sort low. times_are m (place_of s) s None refl (range.5 is (place_of s) (in_range s own_sort low, tt))

  module _ (r : List (Place × ℕ)) (range : IsRangeOf place_cmp (Included start) Unbounded m r) (e : Place × ℕ) (rest : List (Place × ℕ)) (is : r ≡ e ∷ rest) where
    here : IsRangeOf place_cmp (Included start) Unbounded m (e ∷ rest)
    here = subst (IsRangeOf place_cmp (Included start) Unbounded m) is range

    stands_class : (s : Span) (v : ℕ) → is_sort sort s.sort ≡ true → class ≤ class_of s.sectors → map.get place_cmp m (place_of s) ≡ Some v → is_gt (place_cmp e.0 (place_of s)) ≡ false
    stands_class s v own_sort low there = here.2 (place_of s) (in_range s own_sort low, tt) (subst IsSome (sym there) refl)

    pub other_sort : (rank e.0.sort == rank sort) ≡ false → IsClassFrom (times_in m) sort class None
    other_sort apart = λ s own_sort low. absent m s (λ v there.
        let same : name_of s.sort ≡ sort = named sort s.sort own_sort in
        let r1 : rank sort ≤ rank e.0.sort = not_above _ _ _ here.1.0.0 in
        let r2 : rank e.0.sort ≤ rank (name_of s.sort) = not_above _ _ _ (stands_class s v own_sort low there) in
        let r3 : rank (name_of s.sort) ≡ rank sort = ap rank same in
        opposed _ (eq-eqb (rank e.0.sort) (rank sort) (omega arith)) apart)

    pub that_class : (rank e.0.sort == rank sort) ≡ true → IsClassFrom (times_in m) sort class (Some e.0.class)
    that_class same_rank =
        let at_sort : e.0.sort ≡ sort = rank_is _ _ same_rank in
        let r1 : rank sort ≡ rank e.0.sort = sym (ap rank at_sort) in
        let owned : e.0 ≡ place_of e.0.span = there_own m e.0 e.1 own here.1.1 in
        let class_is : e.0.class ≡ class_of e.0.span.sectors = ap (λ p. p.class) owned in
        let most : class_of e.0.span.sectors < 65 = class_below e.0.span.sectors in (
          not_above _ _ _ (then_rest _ _ _ here.1.0.0 r1),
          omega arith,
          λ s own_sort low high. absent m s (λ v there.
              let r2 : rank e.0.sort ≡ rank (name_of s.sort) = sym r1 ∙ sym (ap rank (named sort s.sort own_sort)) in
              let up : e.0.class ≤ class_of s.sectors = not_above _ _ _ (then_rest _ _ _ (stands_class s v own_sort low there) r2) in
              omega arith),
        )
