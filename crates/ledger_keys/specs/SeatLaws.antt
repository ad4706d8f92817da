-- Whether two pages are one is an equality, and pages that are one are fed alike to a hash.
use Rattle.std.proofs.Common.{◌≡◌, ◌==◌, true, ap, sym, ◌∙◌}
use Rattle.std.proofs.lemmas.Bool.{eqb-true}
use Rattle.std.specs.Cmp.{IsEquivalence, IsPartialEquivalence, partial_equiv_from_equiv}
use Rattle.verdict.proofs.Truth.{both_ways}
use Rattle.ledger_keys.specs.declared.seat.PageKey.{PageKey}
use Rattle.ledger_keys.specs.Seat.{is_same_page, page_fed}
use Rattle.ledger_keys.specs.PlaceLaws.{both, join, own}

pub same_page : (p q : PageKey) → is_same_page p q ≡ true → p ≡ q
unfolding is_same_page
same_page p q is =
    let b1 = both (p.number == q.number) _ is in
    let b2 = both (p.sort == q.sort) _ b1.1 in
    let e1 = eqb-true p.number q.number b1.0 in
    let e2 = eqb-true p.sort q.sort b2.0 in
    let e3 = eqb-true p.tree q.tree b2.1 in
    λ i. record { sort = e2 i; tree = e3 i; number = e1 i }

pub own_page : (p : PageKey) → is_same_page p p ≡ true
unfolding is_same_page
own_page p = join _ _ (own p.number) (join _ _ (own p.sort) (own p.tree))

pub page_equiv : IsEquivalence is_same_page
page_equiv = record {
  refl = own_page;
  symm = λ p q. both_ways (is_same_page p q) (is_same_page q p)
      (λ is. ap (λ r. is_same_page r p) (sym (same_page p q is)) ∙ own_page p) (λ is. ap (λ r. is_same_page r q) (sym (same_page q p is)) ∙ own_page q);
  congr = λ p q r is. ap (λ o. is_same_page o r) (same_page p q is);
}

pub page_per : IsPartialEquivalence is_same_page
page_per = partial_equiv_from_equiv page_equiv

pub page_fed_alike : (p q : PageKey) → is_same_page p q ≡ true → page_fed p ≡ page_fed q
page_fed_alike p q is = ap page_fed (same_page p q is)
