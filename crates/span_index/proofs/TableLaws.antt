-- How often the map has each span after a change.
use Rattle.std.proofs.Common.{◌≡◌, ℕ, zero, suc, ◌+◌, ◌-◌, ◌<◌, Bool, true, false, cond, ◌&&◌, [], refl, sym, ap, ◌∙◌, subst, arith}
use Rattle.std.specs.Prelude.{Option, Some, None, IsSome, nat_lt, Result, Ok, Err, OnOk, OnErr}
use Rattle.std.specs.Option.{unwrap_or}
use Rattle.std.specs.Ordering.{is_eq, ordering_then}
use Rattle.std.specs.declared.cmp.Ordering.{Ordering}
use Rattle.std.specs.declared.cmp.Ordering.TheVariants.{Less, Equal, Greater}
use Rattle.std.specs.BTreeMap as map
use Rattle.std.specs.BTreeMap.{is_at}
use Rattle.std.specs.Map.{lookup}
use Rattle.std.specs.Cmp.{Equal-is, tied_itself}
use Rattle.std.proofs.Math.Path.{fun_ext}
use Rattle.std.proofs.lemmas.Bool.Decides.{nat_tests}
use Rattle.span_index.specs.declared.span.Span.{Span}
use Rattle.span_index.specs.declared.places.Place.{Place}
use Rattle.span_index.specs.declared.files.Files.{Files}
use Rattle.span_index.specs.declared.places.ByFile.{ByFile}
use Rattle.span_index.specs.Order.{is_same, name_of, span_cmp}
use Rattle.span_index.specs.OrderLaws.{span_exact, span_total}
use Rattle.span_index.specs.Places.{AreAlike, AreOwn, class_of, has_file, is_file_of, is_shown_at, place_cmp, place_of, times_in}
use Rattle.span_index.specs.Spans.{Table, no_spans, with_span, without_span}
use Rattle.span_index.proofs.OrderLaws.{place_exact, place_total}
use Rattle.verdict.proofs.Truth.{cond_within}

-- ---- spans and places that are one

pub same_is : (x y : Span) → is_same x y ≡ true → x ≡ y
unfolding is_same
same_is x y e = span_exact x y ((Equal-is (span_cmp x y)).0 e)

pub same_itself : (x : Span) → is_same x x ≡ true
unfolding is_same
same_itself x = ap is_eq (tied_itself span_total x)

never : (a b r : Ordering) → is_eq r ≡ false → is_eq (ordering_then a (ordering_then b r)) ≡ false
never Less b r e = refl
never Equal Less r e = refl
never Equal Equal r e = e
never Equal Greater r e = refl
never Greater b r e = refl

pub tied_place : (x y : Span) → is_at (place_cmp (place_of x)) (place_of y) ≡ is_same x y
unfolding is_same
tied_place x y =
    elim (is_eq (span_cmp x y)) as (λ b. is_eq (span_cmp x y) ≡ b → is_at (place_cmp (place_of x)) (place_of y) ≡ b) [
      | true ↦ λ e. subst (λ z. is_at (place_cmp (place_of x)) (place_of z) ≡ true) (span_exact x y ((Equal-is (span_cmp x y)).0 e)) (ap is_eq (tied_itself place_total (place_of x)))
      | false ↦ λ e. never _ _ (span_cmp x y) e
    ] refl

-- ---- choices

unwrapped : (b : Bool) (w o : Option ℕ) → unwrap_or (cond b w o) 0 ≡ cond b (unwrap_or w 0) (unwrap_or o 0)
unwrapped true w o = refl
unwrapped false w o = refl

at_same : (b : Bool) (x y z : ℕ) → (b ≡ true → x ≡ z) → cond b x y ≡ cond b z y
at_same true x y z h = h refl
at_same false x y z h = refl

both_are : (b : Bool) (x : ℕ) → cond b x x ≡ x
both_are true x = refl
both_are false x = refl

and_false : (b : Bool) → false ≡ (b && false)
and_false true = refl
and_false false = refl

pub above : (n : ℕ) → 0 < n → nat_lt 0 n ≡ true
above n h = grind (arith, nat_tests)

still : (b : Bool) (x y : ℕ) → (b ≡ true → 0 < x) → (b ≡ true → 0 < y) → nat_lt 0 x ≡ nat_lt 0 (cond b y x)
still true x y h k = above x (h refl) ∙ sym (above y (k refl))
still false x y h k = refl

file_more : (a b : Bool) (x : ℕ) → cond (a && b) true (a && nat_lt 0 x) ≡ (a && nat_lt 0 (cond b (x + 1) x))
file_more true true x = sym (above (x + 1) (omega arith))
file_more true false x = refl
file_more false b x = refl

file_less : (a b : Bool) (x : ℕ) → (b ≡ true → x ≡ 1) → cond (a && b) false (a && nat_lt 0 x) ≡ (a && nat_lt 0 (cond b (x - 1) x))
file_less true true x h = sym (ap (λ y. nat_lt 0 (y - 1)) (h refl))
file_less true false x h = refl
file_less false b x h = refl

-- ---- what the map has

pub times_here : (m : map.BTreeMap Place ℕ) (k : Place) (s : Span) → k ≡ place_of s → unwrap_or (map.get place_cmp m k) 0 ≡ times_in m s
unfolding times_in
times_here m k s is = ap (λ x. unwrap_or (map.get place_cmp m x) 0) is

pub times_same : (m n : map.BTreeMap Place ℕ) → n.entries ≡ m.entries → times_in n ≡ times_in m
unfolding times_in
times_same m n is = ap (λ es s. unwrap_or (lookup (is_at (place_cmp (place_of s))) es) 0) is

pub times_none : (m : map.BTreeMap Place ℕ) → m.entries ≡ [] → times_in m ≡ no_spans
unfolding times_in
times_none m is = ap (λ es s. unwrap_or (lookup (is_at (place_cmp (place_of s))) es) 0) is

-- n has w at a place, and at each other what m has
abbrev pub Changes : map.BTreeMap Place ℕ → map.BTreeMap Place ℕ → Place → Option ℕ → Type 0
Changes m n k w = (q : Place) → map.get place_cmp n q ≡ cond (is_at (place_cmp k) q) w (map.get place_cmp m q)

changed : (m n : map.BTreeMap Place ℕ) (k : Place) (w : Option ℕ) (s : Span) → k ≡ place_of s → Changes m n k w
    → (q : Span) → times_in n q ≡ cond (is_same s q) (unwrap_or w 0) (times_in m q)
unfolding times_in
changed m n k w s is change q =
    ap (λ x. unwrap_or x 0) (change (place_of q) ∙ ap (λ x. cond (is_at (place_cmp x) (place_of q)) w (map.get place_cmp m (place_of q))) is ∙ ap (λ b. cond b w (map.get place_cmp m (place_of q))) (tied_place s q))
    ∙ unwrapped (is_same s q) w (map.get place_cmp m (place_of q))

pub more : (m n : map.BTreeMap Place ℕ) (k : Place) (w : Option ℕ) (s : Span) → k ≡ place_of s → Changes m n k w → unwrap_or w 0 ≡ times_in m s + 1
    → times_in n ≡ with_span (times_in m) s
more m n k w s is change one = fun_ext (λ q. changed m n k w s is change q
    ∙ at_same (is_same s q) (unwrap_or w 0) (times_in m q) (times_in m q + 1) (λ e. one ∙ ap (λ x. times_in m x + 1) (same_is s q e)))

pub less : (m n : map.BTreeMap Place ℕ) (k : Place) (w : Option ℕ) (s : Span) → k ≡ place_of s → Changes m n k w → unwrap_or w 0 ≡ times_in m s - 1
    → times_in n ≡ without_span (times_in m) s
less m n k w s is change one = fun_ext (λ q. changed m n k w s is change q
    ∙ at_same (is_same s q) (unwrap_or w 0) (times_in m q) (times_in m q - 1) (λ e. one ∙ ap (λ x. times_in m x - 1) (same_is s q e)))

-- a place that is changed back has what it had
pub kept : (m n : map.BTreeMap Place ℕ) (k : Place) (w : Option ℕ) (s : Span) → k ≡ place_of s → Changes m n k w → unwrap_or w 0 ≡ times_in m s
    → times_in n ≡ times_in m
kept m n k w s is change one = fun_ext (λ q. changed m n k w s is change q
    ∙ at_same (is_same s q) (unwrap_or w 0) (times_in m q) (times_in m q) (λ e. one ∙ ap (times_in m) (same_is s q e)) ∙ both_are (is_same s q) (times_in m q))

pub changes_twice : (m n l : map.BTreeMap Place ℕ) (k : Place) (w v : Option ℕ) → Changes m n k w → Changes n l k v → Changes m l k v
changes_twice m n l k w v first second q = second q ∙ ap (cond (is_at (place_cmp k) q) v) (first q) ∙ cond_within (is_at (place_cmp k) q) v w (map.get place_cmp m q)

-- a value is put where one stands, which takes no memory
pub again : {E : Type 0} (m n : map.BTreeMap Place ℕ) (k : Place) (v w : ℕ) (r : Result (Option ℕ) E) → map.get place_cmp m k ≡ Some v
    → OnOk r (map.Updates place_cmp m n k (Some w)) → OnErr r (map.get place_cmp m k ≡ None) → Changes m n k (Some w)
again m n k v w (Ok old) there put absent = put.0
again m n k v w (Err e) there put absent = absurd (let no : Some v ≡ None = sym there ∙ absent in cc)

pub times_are : (m : map.BTreeMap Place ℕ) (k : Place) (s : Span) (w : Option ℕ) → k ≡ place_of s → map.get place_cmp m k ≡ w → times_in m s ≡ unwrap_or w 0
times_are m k s w is there = sym (times_here m k s is) ∙ ap (λ x. unwrap_or x 0) there

positive : (n : ℕ) → (n ≡ 0 → ⊥) → 0 < n
positive zero h = absurd (h refl)
positive (suc n) h = omega arith

pub two_or_more : (n : ℕ) → 0 < n → (n ≡ 1 → ⊥) → 1 < n
two_or_more zero low h = absurd (omega arith)
two_or_more (suc zero) low h = absurd (h refl)
two_or_more (suc (suc n)) low h = omega arith

pub some_there : (m : map.BTreeMap Place ℕ) (k : Place) (v : ℕ) → AreOwn m → map.get place_cmp m k ≡ Some v → 0 < v
some_there m k v own there = positive v (λ e. own.some k (there ∙ ap Some e))

pub none_less : (t : Table) (s : Span) → t s ≡ 0 → t ≡ without_span t s
none_less t s none = fun_ext (λ q. sym (at_same (is_same s q) (t q - 1) (t q) (t q) (λ e. subst (λ x. t x - 1 ≡ t x) (same_is s q e) (ap (λ x. x - 1) none ∙ sym none)) ∙ both_are (is_same s q) (t q)))

-- ---- each span at its own place

pub own_same : (m n : map.BTreeMap Place ℕ) → n.entries ≡ m.entries → AreOwn m → AreOwn n
own_same m n is own =
    let same : (q : Place) → map.get place_cmp n q ≡ map.get place_cmp m q = λ q. ap (lookup (is_at (place_cmp q))) is in
    record {
      sort = λ q had. own.sort q (subst IsSome (same q) had);
      class = λ q had. own.class q (subst IsSome (same q) had);
      some = λ q none. own.some q (sym (same q) ∙ none);
    }

pub own_none : (m : map.BTreeMap Place ℕ) → m.entries ≡ [] → AreOwn m
own_none m is =
    let none : (q : Place) → map.get place_cmp m q ≡ None = λ q. ap (lookup (is_at (place_cmp q))) is in
    record {
      sort = λ q had. absurd (let no : IsSome {T = ℕ} None = subst IsSome (none q) had in cc);
      class = λ q had. absurd (let no : IsSome {T = ℕ} None = subst IsSome (none q) had in cc);
      some = λ q there. absurd (let no : None ≡ Some 0 = sym (none q) ∙ there in cc);
    }

-- what holds at a changed place and held at the others
at_place : (m n : map.BTreeMap Place ℕ) (k : Place) (w : Option ℕ) (s : Span) (is : k ≡ place_of s) (change : Changes m n k w) (P : Place → Type 0) (q : Place)
    → P (place_of s) → (IsSome (map.get place_cmp m q) → P q) → IsSome (map.get place_cmp n q) → P q
at_place m n k w s is change P q here there had =
    elim (is_at (place_cmp k) q) as (λ b. is_at (place_cmp k) q ≡ b → IsSome (cond b w (map.get place_cmp m q)) → P q) [
      | true ↦ λ e h. subst P (sym is ∙ place_exact k q ((Equal-is (place_cmp k q)).0 e)) here
      | false ↦ λ e h. there h
    ] refl (subst IsSome (change q) had)

pub own_changed : (m n : map.BTreeMap Place ℕ) (k : Place) (w : Option ℕ) (s : Span) → k ≡ place_of s → (w ≡ Some 0 → ⊥) → AreOwn m → Changes m n k w → AreOwn n
own_changed m n k w s is some own change = record {
  sort = λ q had. at_place m n k w s is change (λ p. p.sort ≡ name_of p.span.sort) q refl (λ h. own.sort q h) had;
  class = λ q had. at_place m n k w s is change (λ p. p.class ≡ class_of p.span.sectors) q refl (λ h. own.class q h) had;
  some = λ q none.
      elim (is_at (place_cmp k) q) as (λ b. cond b w (map.get place_cmp m q) ≡ Some 0 → ⊥) [
        | true ↦ λ e. some e
        | false ↦ λ e. own.some q e
      ] (sym (change q) ∙ none);
}

-- ---- the order by file

pub alike_more : (t : Table) (f g : Files) (s : Span) → AreAlike t f → ((place : ByFile) → has_file g place ≡ cond (is_file_of s place) true (has_file f place)) → AreAlike (with_span t s) g
unfolding is_file_of
alike_more t f g s alike added place =
    added place ∙ ap (cond (is_shown_at place.span.sort place && is_same s place.span) true) (alike place)
    ∙ file_more (is_shown_at place.span.sort place) (is_same s place.span) (t place.span)

pub alike_again : (t : Table) (f : Files) (s : Span) → AreAlike t f → 0 < t s → AreAlike (with_span t s) f
alike_again t f s alike had place =
    alike place
    ∙ ap (λ b. is_shown_at place.span.sort place && b) (still (is_same s place.span) (t place.span) (t place.span + 1) (λ e. subst (λ x. 0 < t x) (same_is s place.span e) had) (λ e. omega arith))

pub alike_gone : (t : Table) (f g : Files) (s : Span) → AreAlike t f → t s ≡ 1 → ((place : ByFile) → has_file g place ≡ cond (is_file_of s place) false (has_file f place)) → AreAlike (without_span t s) g
unfolding is_file_of
alike_gone t f g s alike one taken place =
    taken place ∙ ap (cond (is_shown_at place.span.sort place && is_same s place.span) false) (alike place)
    ∙ file_less (is_shown_at place.span.sort place) (is_same s place.span) (t place.span) (λ e. sym (ap t (same_is s place.span e)) ∙ one)

pub alike_left : (t : Table) (f : Files) (s : Span) → AreAlike t f → 1 < t s → AreAlike (without_span t s) f
alike_left t f s alike had place =
    alike place
    ∙ ap (λ b. is_shown_at place.span.sort place && b) (still (is_same s place.span) (t place.span) (t place.span - 1) (λ e. subst (λ x. 0 < t x) (same_is s place.span e) (omega arith)) (λ e. subst (λ x. 0 < t x - 1) (same_is s place.span e) (omega arith)))

pub alike_same : (t u : Table) (f g : Files) → AreAlike t f → u ≡ t → ((place : ByFile) → has_file g place ≡ has_file f place) → AreAlike u g
alike_same t u f g alike is kept place = kept place ∙ alike place ∙ ap (λ x. is_shown_at place.span.sort place && nat_lt 0 (x place.span)) (sym is)

pub alike_none : (t : Table) (f : Files) → t ≡ no_spans → ((place : ByFile) → has_file f place ≡ false) → AreAlike t f
alike_none t f is none place = none place ∙ and_false (is_shown_at place.span.sort place) ∙ sym (ap (λ x. is_shown_at place.span.sort place && nat_lt 0 (x place.span)) is)
