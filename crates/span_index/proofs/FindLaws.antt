-- The first entry of an ordered list that passes a test of its key.
use Rattle.std.proofs.Common.{◌≡◌, Bool, true, false, cond, ◌&&◌, List, [], ◌∷◌, refl, sym, ap, ◌∙◌, subst}
use Rattle.std.specs.Prelude.{Some, None}
use Rattle.std.specs.List.{AllByRecursion, filter, find}
use Rattle.std.specs.List.Sorted.{IsStrictlySortedBy}
use Rattle.std.specs.Map.{keys_of, lookup}
use Rattle.std.specs.BTreeMap.{is_at}
use Rattle.std.specs.Ordering.{is_eq, is_gt}
use Rattle.std.specs.declared.cmp.Ordering.{Ordering}
use Rattle.std.specs.declared.cmp.Ordering.TheVariants.{Less, Equal, Greater}
use Rattle.std.specs.Cmp.{IsTotalOrder, Equal-is, tied_itself}
use Rattle.std.proofs.lemmas.Map.Lookups.{CmpEqualImpliesEq}
use Rattle.std.proofs.lemmas.Map.Keys.{sorted_head, sorted_tail}
use Rattle.verdict.proofs.Answers.{some_is}

none_some : {A P : Type 0} (x : A) → None ≡ Some x → P
none_some x e = absurd (cc)

some_none : {A P : Type 0} (x : A) → Some x ≡ None → P
some_none x e = absurd (cc)

-- a test after a filter is both tests
pub find_filter : {A : Type 0} (r p : A → Bool) (xs : List A) → find p (filter r xs) ≡ find (λ x. r x && p x) xs
find_filter r p [] = refl
find_filter r p (x ∷ xs) =
    elim (r x) as (λ b. find p (cond b (x ∷ filter r xs) (filter r xs)) ≡ cond (b && p x) (Some x) (find (λ y. r y && p y) xs)) [
      | true ↦ ap (cond (p x) (Some x)) (find_filter r p xs)
      | false ↦ find_filter r p xs
    ]

-- what is found passes, and what holds of all holds of it
pub found_passes : {A : Type 0} (t : A → Bool) (xs : List A) (e : A) → find t xs ≡ Some e → t e ≡ true
found_passes t [] e h = none_some e h
found_passes t (x ∷ xs) e h =
    elim (t x) as (λ b. t x ≡ b → cond b (Some x) (find t xs) ≡ Some e → t e ≡ true) [
      | true ↦ λ q f. subst (λ y. t y ≡ true) (some_is x e f) q
      | false ↦ λ q f. found_passes t xs e f
    ] refl h

pub found_holds : {K X : Type 0} (P : K → Type 0) (t : K × X → Bool) (es : List (K × X)) (e : K × X) → AllByRecursion P (keys_of es) → find t es ≡ Some e → P e.0
found_holds P t [] e all h = none_some e h
found_holds P t (x ∷ xs) e all h =
    elim (t x) as (λ b. cond b (Some x) (find t xs) ≡ Some e → P e.0) [
      | true ↦ λ f. subst (λ y. P y.0) (some_is x e f) all.0
      | false ↦ λ f. found_holds P t xs e all.1 f
    ] h

module _ {K : Type 0} (cmp : K → K → Ordering) (o : IsTotalOrder cmp) (exact : CmpEqualImpliesEq cmp) where
  pub tied : (q k : K) → is_at (cmp q) k ≡ true → q ≡ k
  tied q k e = exact q k ((Equal-is (cmp q k)).0 e)

  itself : (k : K) → is_at (cmp k) k ≡ true
  itself k = ap is_eq (tied_itself o k)

  greater : (k q : K) → cmp k q ≡ Less → is_at (cmp q) k ≡ false
  greater k q h = ap is_eq (o.antisymm q k) ∙ ap (λ r. is_eq (elim r [ Less ↦ Greater | Equal ↦ Equal | Greater ↦ Less ])) h

module _ {K X : Type 0} (cmp : K → K → Ordering) (o : IsTotalOrder cmp) (exact : CmpEqualImpliesEq cmp) where
  -- what holds of all keys holds of one that is looked up
  pub looked_holds : (P : K → Type 0) (es : List (K × X)) (q : K) (v : X) → AllByRecursion P (keys_of es) → lookup (is_at (cmp q)) es ≡ Some v → P q
  looked_holds P [] q v all h = none_some v h
  looked_holds P (x ∷ xs) q v all h =
      elim (is_at (cmp q) x.0) as (λ b. is_at (cmp q) x.0 ≡ b → cond b (Some x.1) (lookup (is_at (cmp q)) xs) ≡ Some v → P q) [
        | true ↦ λ t f. subst P (sym (tied cmp o exact q x.0 t)) all.0
        | false ↦ λ t f. looked_holds P xs q v all.1 f
      ] refl h

  -- what is found stands under its key
  pub found_stands : (t : K × X → Bool) (es : List (K × X)) (e : K × X) → IsStrictlySortedBy cmp (keys_of es) → find t es ≡ Some e → lookup (is_at (cmp e.0)) es ≡ Some e.1
  found_stands t [] e s h = none_some e h
  found_stands t (x ∷ xs) e s h =
      elim (t x) as (λ b. cond b (Some x) (find t xs) ≡ Some e → cond (is_at (cmp e.0) x.0) (Some x.1) (lookup (is_at (cmp e.0)) xs) ≡ Some e.1) [
        | true ↦ λ f.
            let is : x ≡ e = some_is x e f in
            subst (λ y. cond (is_at (cmp y.0) x.0) (Some x.1) (lookup (is_at (cmp y.0)) xs) ≡ Some y.1) is (ap (λ b. cond b (Some x.1) (lookup (is_at (cmp x.0)) xs)) (itself cmp o exact x.0))
        | false ↦ λ f.
            ap (λ b. cond b (Some x.1) (lookup (is_at (cmp e.0)) xs)) (greater cmp o exact x.0 e.0 (found_holds (λ y. cmp x.0 y ≡ Less) t xs e (sorted_head cmp x.0 (keys_of xs) s) f))
            ∙ found_stands t xs e (sorted_tail cmp x.0 (keys_of xs) s) f
      ] h

  -- where nothing is found, no key passes
  pub none_passes : (t : K → Bool) (es : List (K × X)) (q : K) (v : X) → find (λ e. t e.0) es ≡ None → lookup (is_at (cmp q)) es ≡ Some v → t q ≡ false
  none_passes t [] q v h there = none_some v there
  none_passes t (x ∷ xs) q v h there =
      elim (t x.0) as (λ b. t x.0 ≡ b → cond b (Some x) (find (λ e. t e.0) xs) ≡ None → t q ≡ false) [
        | true ↦ λ e f. some_none x f
        | false ↦ λ e f.
            elim (is_at (cmp q) x.0) as (λ b. is_at (cmp q) x.0 ≡ b → cond b (Some x.1) (lookup (is_at (cmp q)) xs) ≡ Some v → t q ≡ false) [
              | true ↦ λ is g. ap t (tied cmp o exact q x.0 is) ∙ e
              | false ↦ λ is g. none_passes t xs q v f g
            ] refl there
      ] refl h

  -- no key that passes is below the one found
  pub found_least : (t : K → Bool) (es : List (K × X)) (e : K × X) (q : K) (v : X) → IsStrictlySortedBy cmp (keys_of es) → find (λ d. t d.0) es ≡ Some e
      → lookup (is_at (cmp q)) es ≡ Some v → t q ≡ true → is_gt (cmp e.0 q) ≡ false
  found_least t [] e q v s h there passes = none_some v there
  found_least t (x ∷ xs) e q v s h there passes =
      elim (t x.0) as (λ b. t x.0 ≡ b → cond b (Some x) (find (λ d. t d.0) xs) ≡ Some e → is_gt (cmp e.0 q) ≡ false) [
        | true ↦ λ is f.
            elim (is_at (cmp q) x.0) as (λ b. is_at (cmp q) x.0 ≡ b → cond b (Some x.1) (lookup (is_at (cmp q)) xs) ≡ Some v → is_gt (cmp e.0 q) ≡ false) [
              | true ↦ λ same g. subst (λ y. is_gt (cmp y.0 q) ≡ false) (some_is x e f) (ap (λ y. is_gt (cmp x.0 y)) (tied cmp o exact q x.0 same) ∙ ap is_gt (tied_itself o x.0))
              | false ↦ λ same g.
                  subst (λ y. is_gt (cmp y.0 q) ≡ false) (some_is x e f)
                  (ap is_gt (looked_holds (λ y. cmp x.0 y ≡ Less) xs q v (sorted_head cmp x.0 (keys_of xs) s) g))
            ] refl there
        | false ↦ λ is f.
            elim (is_at (cmp q) x.0) as (λ b. is_at (cmp q) x.0 ≡ b → cond b (Some x.1) (lookup (is_at (cmp q)) xs) ≡ Some v → is_gt (cmp e.0 q) ≡ false) [
              | true ↦ λ same g. absurd (let no : true ≡ false = sym passes ∙ ap t (tied cmp o exact q x.0 same) ∙ is in cc)
              | false ↦ λ same g. found_least t xs e q v (sorted_tail cmp x.0 (keys_of xs) s) f g passes
            ] refl there
      ] refl h
