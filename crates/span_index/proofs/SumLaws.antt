-- Sums over the spans that a walk has passed.
use Rattle.std.proofs.Common.{◌≡◌, ℕ, zero, suc, ◌+◌, ◌*◌, ◌<◌, ◌≤◌, Bool, true, false, cond, List, [], ◌∷◌, refl, sym, ap, ◌∙◌, subst, arith}
use Rattle.std.specs.List.{sum_by}
use Rattle.std.specs.Ordering.{is_eq, is_lt}
use Rattle.std.specs.declared.cmp.Ordering.{Ordering}
use Rattle.std.specs.declared.cmp.Ordering.TheVariants.{Less, Equal, Greater}
use Rattle.std.proofs.lemmas.List.Sums.{sum_by-cons}
use Rattle.span_index.specs.declared.cursor.Head.{Head}
use Rattle.span_index.specs.declared.cursor.Head.TheVariants.{Start, At, End}
use Rattle.span_index.specs.declared.span.Span.{Span}
use Rattle.span_index.specs.declared.span.SortName.{SortName}
use Rattle.span_index.specs.Order.{is_below, is_same, span_cmp}
use Rattle.span_index.specs.Sectors.{times_of_span}
use Rattle.span_index.specs.Spans.{Table}
use Rattle.span_index.specs.Sweep.{IsStep, at_sum, is_at, is_passed, is_reaching, passed_sum}
use Rattle.span_index.proofs.TableLaws.{same_is, same_itself}

-- ---- sums over a list of spans

times_cons : (y : Span) (ys : List Span) (x : Span) → times_of_span (y ∷ ys) x ≡ cond (is_same x y) 1 0 + times_of_span ys x
unfolding times_of_span
times_cons y ys x = sum_by-cons (λ z. cond (is_same x z) 1 0) y ys

there_first : (y : Span) (ys : List Span) → 0 < times_of_span (y ∷ ys) y
there_first y ys =
    let is : times_of_span (y ∷ ys) y ≡ 1 + times_of_span ys y = times_cons y ys y ∙ ap (λ b. cond b 1 0 + times_of_span ys y) (same_itself y) in
    omega arith

there_later : (y : Span) (ys : List Span) (x : Span) → 0 < times_of_span ys x → 0 < times_of_span (y ∷ ys) x
there_later y ys x h = let is = times_cons y ys x in omega (arith, is)

pub sum_cong : (f g : Span → ℕ) (xs : List Span) → ((x : Span) → 0 < times_of_span xs x → f x ≡ g x) → sum_by f xs ≡ sum_by g xs
sum_cong f g [] h = refl
sum_cong f g (y ∷ ys) h =
    let a : sum_by f (y ∷ ys) ≡ f y + sum_by f ys = sum_by-cons f y ys in
    let b : sum_by g (y ∷ ys) ≡ g y + sum_by g ys = sum_by-cons g y ys in
    let c : f y ≡ g y = h y (there_first y ys) in
    let d : sum_by f ys ≡ sum_by g ys = sum_cong f g ys (λ x k. h x (there_later y ys x k)) in
    omega arith

pub sum_le : (f g : Span → ℕ) (xs : List Span) → ((x : Span) → f x ≤ g x) → sum_by f xs ≤ sum_by g xs
sum_le f g [] h = omega arith
sum_le f g (y ∷ ys) h =
    let a : sum_by f (y ∷ ys) ≡ f y + sum_by f ys = sum_by-cons f y ys in
    let b : sum_by g (y ∷ ys) ≡ g y + sum_by g ys = sum_by-cons g y ys in
    let c : f y ≤ g y = h y in
    let d : sum_by f ys ≤ sum_by g ys = sum_le f g ys h in
    omega arith

pub sum_both : (f g : Span → ℕ) (xs : List Span) → sum_by (λ x. f x + g x) xs ≡ sum_by f xs + sum_by g xs
sum_both f g [] = refl
sum_both f g (y ∷ ys) =
    let a : sum_by f (y ∷ ys) ≡ f y + sum_by f ys = sum_by-cons f y ys in
    let b : sum_by g (y ∷ ys) ≡ g y + sum_by g ys = sum_by-cons g y ys in
    let c : sum_by (λ x. f x + g x) (y ∷ ys) ≡ (f y + g y) + sum_by (λ x. f x + g x) ys = sum_by-cons (λ x. f x + g x) y ys in
    let d : sum_by (λ x. f x + g x) ys ≡ sum_by f ys + sum_by g ys = sum_both f g ys in
    omega arith

pub sum_none : (xs : List Span) → sum_by (λ x. 0) xs ≡ 0
sum_none [] = refl
sum_none (y ∷ ys) =
    let a : sum_by (λ x. 0) (y ∷ ys) ≡ 0 + sum_by (λ x. 0) ys = sum_by-cons (λ x. 0) y ys in
    let d : sum_by (λ x. 0) ys ≡ 0 = sum_none ys in
    omega arith

more_times : (b : Bool) (v n : ℕ) → cond b v 0 + n * v ≡ (cond b 1 0 + n) * v
more_times true v n = omega arith
more_times false v n = let is : 0 + n ≡ n = omega arith in let so : (0 + n) * v ≡ n * v = ap (λ z. z * v) is in omega arith

-- what one span comes to, as often as it stands
pub sum_same : (s : Span) (v : ℕ) (xs : List Span) → sum_by (λ x. cond (is_same s x) v 0) xs ≡ times_of_span xs s * v
unfolding times_of_span
sum_same s v [] = let none : 0 * v ≡ 0 = omega arith in sym none
sum_same s v (y ∷ ys) =
    sum_by-cons (λ x. cond (is_same s x) v 0) y ys
    ∙ ap (λ n. cond (is_same s y) v 0 + n) (sum_same s v ys)
    ∙ more_times (is_same s y) v (times_of_span ys s)
    ∙ ap (λ n. n * v) (sym (times_cons y ys s))

-- ---- a step

apart_cmp : (r : Ordering) → is_eq r ≡ true → is_lt r ≡ false
apart_cmp Less e = absurd (cc)
apart_cmp Equal e = refl
apart_cmp Greater e = absurd (cc)

below_apart : (x h : Span) → is_same h x ≡ true → is_below x h ≡ false
unfolding is_below is_same
below_apart x h e =
    ap (λ z. is_lt (span_cmp x z)) (same_is h x e) ∙ apart_cmp (span_cmp x x) (same_itself x)

passed_apart : (head : Head) (x : Span) → is_at head x ≡ true → is_passed head x ≡ false
passed_apart Start x e = refl
passed_apart (At here times) x e = below_apart x here e
passed_apart End x e = absurd (cc)

-- what a span comes to, by whether the walk has passed it, stands at it, and has then passed it
by_tests : (a b c : Bool) (v : ℕ) → (a ≡ true → c ≡ true) → (b ≡ true → c ≡ true) → (b ≡ true → a ≡ false) → (c ≡ true → a ≡ false → b ≡ false → v ≡ 0)
    → cond c v 0 ≡ cond a v 0 + cond b v 0
by_tests true true c v over here apart none = absurd (let no : true ≡ false = apart refl in cc)
by_tests true false c v over here apart none = let is : c ≡ true = over refl in let x : cond c v 0 ≡ v = ap (λ z. cond z v 0) is in omega arith
by_tests false true c v over here apart none = let is : cond c v 0 ≡ v = ap (λ z. cond z v 0) (here refl) in omega arith
by_tests false false true v over here apart none = none refl refl refl
by_tests false false false v over here apart none = refl

by_tests_le : (a b c : Bool) (v : ℕ) → (a ≡ true → c ≡ true) → (b ≡ true → c ≡ true) → (b ≡ true → a ≡ false)
    → cond a v 0 + cond b v 0 ≤ cond c v 0
by_tests_le true true c v over here apart = absurd (let no : true ≡ false = apart refl in cc)
by_tests_le true false c v over here apart = let is : cond c v 0 ≡ v = ap (λ z. cond z v 0) (over refl) in omega arith
by_tests_le false true c v over here apart = let is : cond c v 0 ≡ v = ap (λ z. cond z v 0) (here refl) in omega arith
by_tests_le false false c v over here apart = omega arith

same_value : (g : Span → ℕ) (s x : Span) → cond (is_same s x) (g x) 0 ≡ cond (is_same s x) (g s) 0
same_value g s x = elim (is_same s x) as (λ b. is_same s x ≡ b → cond b (g x) 0 ≡ cond b (g s) 0) [ true ↦ λ e. ap g (sym (same_is s x e)) | false ↦ λ e. refl ] refl

at_least : (n v : ℕ) → 0 < n → v ≤ n * v
at_least n v some =
    elim n as (λ k. 0 < k → v ≤ k * v) [
      | zero ↦ λ h. absurd (omega arith)
      | suc k ↦ λ h. let is : suc k * v ≡ v + k * v = omega arith in omega arith
    ] some

module _ (t : Table) (xs : List Span) (all : (span : Span) → times_of_span xs span ≡ t span) (sort : SortName) (address : ℕ) where
  -- what a walk stands at comes to
  at_is : (g : Span → ℕ) (head : Head) → ((h : Span) (n : ℕ) → head ≡ At h n → n ≡ t h) → sum_by (λ x. cond (is_at head x) (g x) 0) xs ≡ at_sum g head
  at_is g Start is = sum_none xs
  at_is g (At here times) is =
      sum_cong (λ x. cond (is_same here x) (g x) 0) (λ x. cond (is_same here x) (g here) 0) xs (λ x k. same_value g here x)
      ∙ sum_same here (g here) xs
      ∙ ap (λ n. n * g here) (all here ∙ sym (is here times refl))
  at_is g End is = sum_none xs

  module _ (old new : Head) (step : IsStep t sort address old new) (is : (h : Span) (n : ℕ) → old ≡ At h n → n ≡ t h) (g : Span → ℕ) where
    pub step_sum : ((x : Span) → is_reaching sort address x ≡ false → g x ≡ 0) → passed_sum g new xs ≡ passed_sum g old xs + at_sum g old
    unfolding passed_sum
    step_sum none =
        sum_cong (λ x. cond (is_passed new x) (g x) 0) (λ x. cond (is_passed old x) (g x) 0 + cond (is_at old x) (g x) 0) xs
        (λ x k. by_tests (is_passed old x) (is_at old x) (is_passed new x) (g x) (step.over x) (step.here x) (passed_apart old x)
        (λ p q r. elim (is_reaching sort address x) as (λ b. is_reaching sort address x ≡ b → g x ≡ 0) [
          | true ↦ λ e. absurd (let out : t x ≡ 0 = step.none x p q r e in let stands : times_of_span xs x ≡ t x = all x in omega (arith, k, out, stands))
          | false ↦ λ e. none x e
        ] refl))
        ∙ sum_both (λ x. cond (is_passed old x) (g x) 0) (λ x. cond (is_at old x) (g x) 0) xs
        ∙ ap (λ n. sum_by (λ x. cond (is_passed old x) (g x) 0) xs + n) (at_is g old is)

-- ---- a step, over any list that has the spans

module _ (t : Table) (each : List Span) (sort : SortName) (address : ℕ) (old new : Head) (step : IsStep t sort address old new) (g : Span → ℕ) where
  step_over : passed_sum g old each + sum_by (λ x. cond (is_at old x) (g x) 0) each ≤ passed_sum g new each
  unfolding passed_sum
  step_over =
      subst (λ n. n ≤ sum_by (λ x. cond (is_passed new x) (g x) 0) each)
      (sum_both (λ x. cond (is_passed old x) (g x) 0) (λ x. cond (is_at old x) (g x) 0) each)
      (sum_le (λ x. cond (is_passed old x) (g x) 0 + cond (is_at old x) (g x) 0) (λ x. cond (is_passed new x) (g x) 0) each
      (λ x. by_tests_le (is_passed old x) (is_at old x) (is_passed new x) (g x) (step.over x) (step.here x) (passed_apart old x)))

  -- what is passed stays so
  pub step_kept : passed_sum g old each ≤ passed_sum g new each
  step_kept = let over = step_over in omega (arith, over)

  -- the span that the walk stood at is passed, as often as it stands in the list
  pub step_worth : (here : Span) (n : ℕ) → old ≡ At here n → 0 < times_of_span each here → passed_sum g old each + g here ≤ passed_sum g new each
  step_worth here n is some =
      let over = step_over in
      let there : sum_by (λ x. cond (is_at old x) (g x) 0) each ≡ times_of_span each here * g here =
      ap (λ h. sum_by (λ x. cond (is_at h x) (g x) 0) each) is
      ∙ sum_cong (λ x. cond (is_same here x) (g x) 0) (λ x. cond (is_same here x) (g here) 0) each (λ x k. same_value g here x)
      ∙ sum_same here (g here) each in
      let least : g here ≤ times_of_span each here * g here = at_least (times_of_span each here) (g here) some in
      omega (arith, over, there, least)
