-- Whether two places are one is an equality, and places that are one are fed alike to a hash.
use Rattle.std.proofs.Common.{◌≡◌, ◌&&◌, ◌==◌, ℕ, Bool, true, false, List, refl, ap, sym, ◌∙◌}
use Rattle.std.specs.Prelude.{nat_eq}
use Rattle.std.proofs.lemmas.Bool.{eq-eqb, eqb-true}
use Rattle.std.proofs.lemmas.Slice.Eq.{slice_eq-Decides}
use Rattle.std.specs.Cmp.{IsEquivalence, IsPartialEquivalence, partial_equiv_from_equiv}
use Rattle.std.specs.Cmp.Lexicographic.{pointwise}
use Rattle.verdict.proofs.Truth.{both_ways}
use Rattle.ledger_keys.specs.declared.place.Place.{Place}
use Rattle.ledger_keys.specs.declared.place.Place.TheVariants.{Plain, Named}
use Rattle.ledger_keys.specs.Place.{is_same_place, place_fed}

pub both : (a b : Bool) → (a && b) ≡ true → (a ≡ true) × (b ≡ true)
both true b is = (refl, is)
both false b is = absurd (cc is)

-- places that are the same are one
pub same_bytes : (xs ys : List ℕ) → pointwise nat_eq xs ys ≡ true → xs ≡ ys
same_bytes xs ys = (slice_eq-Decides {A = ℕ} {E = nat_eq} (λ a b. (eqb-true a b, eq-eqb a b)) xs ys (pointwise nat_eq xs ys) refl).0

pub own_bytes : (xs : List ℕ) → pointwise nat_eq xs xs ≡ true
own_bytes xs = (slice_eq-Decides {A = ℕ} {E = nat_eq} (λ a b. (eqb-true a b, eq-eqb a b)) xs xs (pointwise nat_eq xs xs) refl).1 refl

pub same_place : (p q : Place) → is_same_place p q ≡ true → p ≡ q
unfolding is_same_place
same_place (Plain kind sort tree block objectid offset) (Plain kind' sort' tree' block' objectid' offset') is =
    let b1 = both (kind == kind') _ is in
    let b2 = both (sort == sort') _ b1.1 in
    let b3 = both (tree == tree') _ b2.1 in
    let b4 = both (block == block') _ b3.1 in
    let b5 = both (objectid == objectid') _ b4.1 in
    let e1 = eqb-true kind kind' b1.0 in
    let e2 = eqb-true sort sort' b2.0 in
    let e3 = eqb-true tree tree' b3.0 in
    let e4 = eqb-true block block' b4.0 in
    let e5 = eqb-true objectid objectid' b5.0 in
    let e6 = eqb-true offset offset' b5.1 in
    λ i. Plain (e1 i) (e2 i) (e3 i) (e4 i) (e5 i) (e6 i)
same_place (Plain kind sort tree block objectid offset) (Named length' kind' sort' tree' objectid' offset' detail' tail') is = absurd (cc is)
same_place (Named length kind sort tree objectid offset detail tail) (Plain kind' sort' tree' block' objectid' offset') is = absurd (cc is)
same_place (Named long kind sort tree objectid offset detail tail) (Named long' kind' sort' tree' objectid' offset' detail' tail') is =
    let b0 = both (long == long') _ is in
    let b1 = both (kind == kind') _ b0.1 in
    let b2 = both (sort == sort') _ b1.1 in
    let b3 = both (tree == tree') _ b2.1 in
    let b4 = both (objectid == objectid') _ b3.1 in
    let b5 = both (offset == offset') _ b4.1 in
    let b6 = both (detail == detail') _ b5.1 in
    let e0 = eqb-true long long' b0.0 in
    let e1 = eqb-true kind kind' b1.0 in
    let e2 = eqb-true sort sort' b2.0 in
    let e3 = eqb-true tree tree' b3.0 in
    let e4 = eqb-true objectid objectid' b4.0 in
    let e5 = eqb-true offset offset' b5.0 in
    let e6 = eqb-true detail detail' b6.0 in
    let e7 = same_bytes tail tail' b6.1 in
    λ i. Named (e0 i) (e1 i) (e2 i) (e3 i) (e4 i) (e5 i) (e6 i) (e7 i)

pub join : (a b : Bool) → a ≡ true → b ≡ true → (a && b) ≡ true
join true b is is' = is'
join false b is is' = absurd (cc is)

pub own : (n : ℕ) → (n == n) ≡ true
own n = eq-eqb n n refl

pub own_place : (p : Place) → is_same_place p p ≡ true
unfolding is_same_place
own_place (Plain kind sort tree block objectid offset) =
    join _ _ (own kind) (join _ _ (own sort) (join _ _ (own tree) (join _ _ (own block) (join _ _ (own objectid) (own offset)))))
own_place (Named long kind sort tree objectid offset detail tail) =
    join _ _ (own long) (join _ _ (own kind) (join _ _ (own sort) (join _ _ (own tree) (join _ _ (own objectid) (join _ _ (own offset) (join _ _ (own detail) (own_bytes tail)))))))

pub place_equiv : IsEquivalence is_same_place
place_equiv = record {
  refl = own_place;
  symm = λ p q. both_ways (is_same_place p q) (is_same_place q p)
      (λ is. ap (λ r. is_same_place r p) (sym (same_place p q is)) ∙ own_place p) (λ is. ap (λ r. is_same_place r q) (sym (same_place q p is)) ∙ own_place q);
  congr = λ p q r is. ap (λ o. is_same_place o r) (same_place p q is);
}

pub place_per : IsPartialEquivalence is_same_place
place_per = partial_equiv_from_equiv place_equiv

pub fed_alike : (p q : Place) → is_same_place p q ≡ true → place_fed p ≡ place_fed q
fed_alike p q is = ap place_fed (same_place p q is)
