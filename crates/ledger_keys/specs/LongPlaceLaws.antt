-- Whether two long places are one is an equality, and places that are one are fed alike to a hash.
use Rattle.std.proofs.Common.{◌≡◌, ◌==◌, true, ap, sym, ◌∙◌}
use Rattle.std.proofs.lemmas.Bool.{eqb-true}
use Rattle.std.specs.Cmp.{IsEquivalence, IsPartialEquivalence, partial_equiv_from_equiv}
use Rattle.verdict.proofs.Truth.{both_ways}
use Rattle.ledger_keys.specs.declared.long_place.LongPlace.{LongPlace}
use Rattle.ledger_keys.specs.LongPlace.{is_same_long, long_fed}
use Rattle.ledger_keys.specs.PlaceLaws.{both, join, own, own_bytes, same_bytes}

pub same_long : (p q : LongPlace) → is_same_long p q ≡ true → p ≡ q
unfolding is_same_long
same_long p q is =
    let b0 = both (p.length == q.length) _ is in
    let b1 = both (p.kind == q.kind) _ b0.1 in
    let b2 = both (p.sort == q.sort) _ b1.1 in
    let b3 = both (p.tree == q.tree) _ b2.1 in
    let b4 = both (p.objectid == q.objectid) _ b3.1 in
    let b5 = both (p.offset == q.offset) _ b4.1 in
    let b6 = both (p.detail == q.detail) _ b5.1 in
    let e0 = eqb-true p.length q.length b0.0 in
    let e1 = eqb-true p.kind q.kind b1.0 in
    let e2 = eqb-true p.sort q.sort b2.0 in
    let e3 = eqb-true p.tree q.tree b3.0 in
    let e4 = eqb-true p.objectid q.objectid b4.0 in
    let e5 = eqb-true p.offset q.offset b5.0 in
    let e6 = eqb-true p.detail q.detail b6.0 in
    let e7 = same_bytes p.tail q.tail b6.1 in
    λ i. record { length = e0 i; kind = e1 i; sort = e2 i; tree = e3 i; objectid = e4 i; offset = e5 i; detail = e6 i; tail = e7 i }

pub own_long : (p : LongPlace) → is_same_long p p ≡ true
unfolding is_same_long
own_long p =
    join _ _ (own p.length) (join _ _ (own p.kind) (join _ _ (own p.sort) (join _ _ (own p.tree)
    (join _ _ (own p.objectid) (join _ _ (own p.offset) (join _ _ (own p.detail) (own_bytes p.tail)))))))

pub long_equiv : IsEquivalence is_same_long
long_equiv = record {
  refl = own_long;
  symm = λ p q. both_ways (is_same_long p q) (is_same_long q p)
      (λ is. ap (λ r. is_same_long r p) (sym (same_long p q is)) ∙ own_long p) (λ is. ap (λ r. is_same_long r q) (sym (same_long q p is)) ∙ own_long q);
  congr = λ p q r is. ap (λ o. is_same_long o r) (same_long p q is);
}

pub long_per : IsPartialEquivalence is_same_long
long_per = partial_equiv_from_equiv long_equiv

pub long_fed_alike : (p q : LongPlace) → is_same_long p q ≡ true → long_fed p ≡ long_fed q
long_fed_alike p q is = ap long_fed (same_long p q is)
