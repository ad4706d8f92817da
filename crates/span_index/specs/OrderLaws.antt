-- The orders are total, and only equal values tie.
use Rattle.std.proofs.Common.{◌≡◌, ℕ, true, false, cond, refl, subst}
use Rattle.std.specs.Ordering.{nat_cmp, ordering_then, on, then_cmp, as_partial_cmp, eq_by_cmp}
use Rattle.std.specs.declared.cmp.Ordering.{Ordering}
use Rattle.std.specs.declared.cmp.Ordering.TheVariants.{Less, Equal, Greater}
use Rattle.std.specs.Cmp.{IsTotalOrder, IsEquivalence, IsPartialOrder, IsPartialEquivalence, then_total, on_total, nat_cmp_total, eq_by_cmp_equiv, partial_order_from_total, partial_equiv_from_equiv}
use Rattle.std.proofs.Math.Path.{fun_ext}
use Rattle.std.proofs.lemmas.Map.Lookups.{CmpEqualImpliesEq, exact_unsigned}
use Rattle.span_index.specs.declared.span.SpanSort.{SpanSort}
use Rattle.span_index.specs.declared.span.SpanSort.TheVariants.{Owned, Summed, Shown}
use Rattle.span_index.specs.Order.{name_cmp, rank, sort_cmp, span_cmp}

-- ---- sorts, by numbers

abbrev kind : SpanSort → ℕ
kind (Owned d) = 0
kind Summed = 1
kind (Shown t i o e l) = 2

abbrev part_1 : SpanSort → ℕ
part_1 (Owned d) = cond d 1 0
part_1 Summed = 0
part_1 (Shown t i o e l) = t

abbrev part_2 : SpanSort → ℕ
part_2 (Owned d) = 0
part_2 Summed = 0
part_2 (Shown t i o e l) = i

abbrev part_3 : SpanSort → ℕ
part_3 (Owned d) = 0
part_3 Summed = 0
part_3 (Shown t i o e l) = o

abbrev part_4 : SpanSort → ℕ
part_4 (Owned d) = 0
part_4 Summed = 0
part_4 (Shown t i o e l) = e

abbrev part_5 : SpanSort → ℕ
part_5 (Owned d) = 0
part_5 Summed = 0
part_5 (Shown t i o e l) = l

abbrev by_parts : SpanSort → SpanSort → Ordering
by_parts =
    then_cmp (on kind nat_cmp)
    (then_cmp (on part_1 nat_cmp) (then_cmp (on part_2 nat_cmp) (then_cmp (on part_3 nat_cmp) (then_cmp (on part_4 nat_cmp) (on part_5 nat_cmp)))))

parts_total : IsTotalOrder by_parts
parts_total =
    then_total (on_total kind nat_cmp_total)
    (then_total (on_total part_1 nat_cmp_total)
    (then_total (on_total part_2 nat_cmp_total)
    (then_total (on_total part_3 nat_cmp_total)
    (then_total (on_total part_4 nat_cmp_total) (on_total part_5 nat_cmp_total)))))

by_parts_is : (x y : SpanSort) → by_parts x y ≡ sort_cmp x y
by_parts_is (Owned true) (Owned true) = refl
by_parts_is (Owned true) (Owned false) = refl
by_parts_is (Owned false) (Owned true) = refl
by_parts_is (Owned false) (Owned false) = refl
by_parts_is (Owned d) Summed = refl
by_parts_is (Owned d) (Shown t i o e l) = refl
by_parts_is Summed (Owned d) = refl
by_parts_is Summed Summed = refl
by_parts_is Summed (Shown t i o e l) = refl
by_parts_is (Shown t i o e l) (Owned d) = refl
by_parts_is (Shown t i o e l) Summed = refl
by_parts_is (Shown t i o e l) (Shown t' i' o' e' l') = refl

pub sort_total : IsTotalOrder sort_cmp
sort_total = subst IsTotalOrder (fun_ext (λ x. fun_ext (λ y. by_parts_is x y))) parts_total

pub sort_equiv : IsEquivalence (eq_by_cmp sort_cmp)
sort_equiv = eq_by_cmp_equiv sort_total

pub sort_per : IsPartialEquivalence (eq_by_cmp sort_cmp)
sort_per = partial_equiv_from_equiv sort_equiv

pub sort_po : IsPartialOrder (eq_by_cmp sort_cmp) (as_partial_cmp sort_cmp)
sort_po = partial_order_from_total sort_total

pub name_total : IsTotalOrder name_cmp
name_total = on_total rank nat_cmp_total

pub name_equiv : IsEquivalence (eq_by_cmp name_cmp)
name_equiv = eq_by_cmp_equiv name_total

pub name_per : IsPartialEquivalence (eq_by_cmp name_cmp)
name_per = partial_equiv_from_equiv name_equiv

pub name_po : IsPartialOrder (eq_by_cmp name_cmp) (as_partial_cmp name_cmp)
name_po = partial_order_from_total name_total

pub span_total : IsTotalOrder span_cmp
span_total = then_total (on_total (λ s. s.first) nat_cmp_total) (then_total (on_total (λ s. s.sectors) nat_cmp_total) (on_total (λ s. s.sort) sort_total))

-- ---- what ties is equal

pub both_tie : (r s : Ordering) → ordering_then r s ≡ Equal → (r ≡ Equal) × (s ≡ Equal)
both_tie Less s e = absurd (cc)
both_tie Equal s e = (refl, e)
both_tie Greater s e = absurd (cc)

same_parts : (t i o e l t' i' o' e' l' : ℕ) → t ≡ t' → i ≡ i' → o ≡ o' → e ≡ e' → l ≡ l' → Shown t i o e l ≡ Shown t' i' o' e' l'
same_parts t i o e l t' i' o' e' l' a b c d f = cc

sort_exact : CmpEqualImpliesEq sort_cmp
sort_exact (Owned true) (Owned true) h = refl
sort_exact (Owned true) (Owned false) h = absurd (cc)
sort_exact (Owned false) (Owned true) h = absurd (cc)
sort_exact (Owned false) (Owned false) h = refl
sort_exact (Owned d) Summed h = absurd (cc)
sort_exact (Owned d) (Shown t i o e l) h = absurd (cc)
sort_exact Summed (Owned d) h = absurd (cc)
sort_exact Summed Summed h = refl
sort_exact Summed (Shown t i o e l) h = absurd (cc)
sort_exact (Shown t i o e l) (Owned d) h = absurd (cc)
sort_exact (Shown t i o e l) Summed h = absurd (cc)
sort_exact (Shown t i o e l) (Shown t' i' o' e' l') h =
    let a : (nat_cmp t t' ≡ Equal) × (ordering_then (nat_cmp i i') (ordering_then (nat_cmp o o') (ordering_then (nat_cmp e e') (nat_cmp l l'))) ≡ Equal) = both_tie _ _ h in
    let b : (nat_cmp i i' ≡ Equal) × (ordering_then (nat_cmp o o') (ordering_then (nat_cmp e e') (nat_cmp l l')) ≡ Equal) = both_tie _ _ a.1 in
    let c : (nat_cmp o o' ≡ Equal) × (ordering_then (nat_cmp e e') (nat_cmp l l') ≡ Equal) = both_tie _ _ b.1 in
    let d : (nat_cmp e e' ≡ Equal) × (nat_cmp l l' ≡ Equal) = both_tie _ _ c.1 in
    same_parts t i o e l t' i' o' e' l' (exact_unsigned t t' a.0) (exact_unsigned i i' b.0) (exact_unsigned o o' c.0) (exact_unsigned e e' d.0) (exact_unsigned l l' d.1)

pub span_exact : CmpEqualImpliesEq span_cmp
span_exact x y h =
    let a : (nat_cmp x.first y.first ≡ Equal) × (ordering_then (nat_cmp x.sectors y.sectors) (sort_cmp x.sort y.sort) ≡ Equal) = both_tie _ _ h in
    let b : (nat_cmp x.sectors y.sectors ≡ Equal) × (sort_cmp x.sort y.sort ≡ Equal) = both_tie _ _ a.1 in
    let p : x.first ≡ y.first = exact_unsigned _ _ a.0 in
    let q : x.sectors ≡ y.sectors = exact_unsigned _ _ b.0 in
    let r : x.sort ≡ y.sort = sort_exact _ _ b.1 in
    λ i. record { first = p i; sectors = q i; sort = r i }
