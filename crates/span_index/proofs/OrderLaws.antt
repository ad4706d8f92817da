-- The orders of places are total, and only equal places tie.
use Rattle.std.proofs.Common.{◌≡◌, refl, arith}
use Rattle.std.specs.Ordering.{nat_cmp, ordering_then}
use Rattle.std.specs.declared.cmp.Ordering.TheVariants.{Equal}
use Rattle.std.specs.Cmp.{IsTotalOrder, then_total, on_total, nat_cmp_total}
use Rattle.std.proofs.lemmas.Map.Lookups.{CmpEqualImpliesEq, exact_unsigned}
use Rattle.span_index.specs.declared.span.SortName.{SortName}
use Rattle.span_index.specs.declared.span.SortName.TheVariants.{Owned as OwnedName, Summed as SummedName, Shown as ShownName}
use Rattle.span_index.specs.Order.{rank, span_cmp}
use Rattle.span_index.specs.OrderLaws.{both_tie, span_exact, span_total}
use Rattle.span_index.specs.Places.{place_cmp, file_cmp}

pub place_total : IsTotalOrder place_cmp
place_total = then_total (on_total (λ p. rank p.sort) nat_cmp_total) (then_total (on_total (λ p. p.class) nat_cmp_total) (on_total (λ p. p.span) span_total))

pub file_total : IsTotalOrder file_cmp
file_total =
    then_total (on_total (λ p. p.tree) nat_cmp_total)
    (then_total (on_total (λ p. p.ino) nat_cmp_total)
    (then_total (on_total (λ p. p.file_offset) nat_cmp_total) (on_total (λ p. p.span) span_total)))

rank_exact : (x y : SortName) → rank x ≡ rank y → x ≡ y
rank_exact OwnedName OwnedName h = refl
rank_exact OwnedName SummedName h = absurd (omega arith)
rank_exact OwnedName ShownName h = absurd (omega arith)
rank_exact SummedName OwnedName h = absurd (omega arith)
rank_exact SummedName SummedName h = refl
rank_exact SummedName ShownName h = absurd (omega arith)
rank_exact ShownName OwnedName h = absurd (omega arith)
rank_exact ShownName SummedName h = absurd (omega arith)
rank_exact ShownName ShownName h = refl

pub place_exact : CmpEqualImpliesEq place_cmp
place_exact x y h =
    let a : (nat_cmp (rank x.sort) (rank y.sort) ≡ Equal) × (ordering_then (nat_cmp x.class y.class) (span_cmp x.span y.span) ≡ Equal) = both_tie _ _ h in
    let b : (nat_cmp x.class y.class ≡ Equal) × (span_cmp x.span y.span ≡ Equal) = both_tie _ _ a.1 in
    let p : x.sort ≡ y.sort = rank_exact _ _ (exact_unsigned _ _ a.0) in
    let q : x.class ≡ y.class = exact_unsigned _ _ b.0 in
    let r : x.span ≡ y.span = span_exact _ _ b.1 in
    λ i. record { sort = p i; class = q i; span = r i }

pub file_exact : CmpEqualImpliesEq file_cmp
file_exact x y h =
    let a : (nat_cmp x.tree y.tree ≡ Equal) × (ordering_then (nat_cmp x.ino y.ino) (ordering_then (nat_cmp x.file_offset y.file_offset) (span_cmp x.span y.span)) ≡ Equal) = both_tie _ _ h in
    let b : (nat_cmp x.ino y.ino ≡ Equal) × (ordering_then (nat_cmp x.file_offset y.file_offset) (span_cmp x.span y.span) ≡ Equal) = both_tie _ _ a.1 in
    let c : (nat_cmp x.file_offset y.file_offset ≡ Equal) × (span_cmp x.span y.span ≡ Equal) = both_tie _ _ b.1 in
    let p : x.tree ≡ y.tree = exact_unsigned _ _ a.0 in
    let q : x.ino ≡ y.ino = exact_unsigned _ _ b.0 in
    let r : x.file_offset ≡ y.file_offset = exact_unsigned _ _ c.0 in
    let s : x.span ≡ y.span = span_exact _ _ c.1 in
    λ i. record { tree = p i; ino = q i; file_offset = r i; span = s i }
