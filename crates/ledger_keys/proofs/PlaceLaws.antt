-- An account is found by its place: no two accounts have one.
use Rattle.std.proofs.Common.{◌≡◌, ◌^◌, ◌&&◌, ◌==◌, ◌++◌, ℕ, Bool, true, false, cond, List, [], ◌∷◌, length, take, refl, ap, sym, ◌∙◌, subst}
use Rattle.std.specs.Prelude.{Option, Some, None, nat_lt}
use Rattle.std.proofs.lemmas.Bool.{eqb-true}
use Rattle.verdict.proofs.Truth.{both_ways, false_if}
use Rattle.verdict.proofs.Lists.{empty_is}
use Rattle.verdict.proofs.Answers.{some_is}
use Rattle.accounts.proofs.Same.{same_account}
use Rattle.accounts.specs.OrderLaws.{account_equiv}
use Rattle.accounts.specs.Sums.{is_same}
use Rattle.accounts.specs.declared.account.Account.{Account}
use Rattle.ledger_keys.specs.declared.place.Place.{Place}
use Rattle.ledger_keys.specs.declared.place.Place.TheVariants.{Plain, Named}
use Rattle.ledger_keys.specs.declared.long_place.LongPlace.{LongPlace}
use Rattle.ledger_keys.specs.LongPlace as longer
use Rattle.ledger_keys.specs.LongPlaceLaws.{own_long, same_long}
use Rattle.ledger_keys.specs.PlaceLaws.{both, own_place, same_place}
use Rattle.ledger_keys.specs.Place.{account_of, first_or, is_same_place, named_of, padded, place_of, plain_of}

front_of : (xs ys : List ℕ) → take (length xs) (xs ++ ys) ≡ xs
front_of [] ys = refl
front_of (x ∷ xs) ys = ap (λ zs. x ∷ zs) (front_of xs ys)

plain_case : (a : Account) (p : Place) (test : Bool) → (a.detail == 0 && (length a.tail == 0 && nat_lt a.tree (2 ^ 32))) ≡ test
    → cond test (Some (Plain a.kind a.key.kind a.tree a.block a.key.objectid a.key.offset)) None ≡ Some p → account_of p ≡ a
plain_case a p true tested is =
    let parts = both (a.detail == 0) _ tested in
    let tail = (both (length a.tail == 0) _ parts.1).0 in
    let e1 : 0 ≡ a.detail = sym (eqb-true a.detail 0 parts.0) in
    let e2 : [] ≡ a.tail = sym (empty_is a.tail (eqb-true (length a.tail) 0 tail)) in
    subst (λ q. account_of q ≡ a) (some_is _ _ is) (λ i. record { kind = a.kind; tree = a.tree; block = a.block; key = a.key; detail = e1 i; tail = e2 i })
plain_case a p false tested is = absurd (cc is)

named_case : (a : Account) (p : Place) (test rest : Bool) → (a.block == 0 && rest) ≡ test
    → cond test (Some (Named (length a.tail) a.kind a.key.kind a.tree a.key.objectid a.key.offset a.detail (padded a.tail))) None ≡ Some p → account_of p ≡ a
named_case a p true rest tested is =
    let e1 : 0 ≡ a.block = sym (eqb-true a.block 0 (both (a.block == 0) rest tested).0) in
    let e2 : take (length a.tail) (padded a.tail) ≡ a.tail = front_of a.tail _ in
    subst (λ q. account_of q ≡ a) (some_is _ _ is) (λ i. record { kind = a.kind; tree = a.tree; block = e1 i; key = a.key; detail = a.detail; tail = e2 i })
named_case a p false rest tested is = absurd (cc is)

first_case : (a : Account) (p : Place) (first second : Option Place) → (first ≡ Some p → account_of p ≡ a) → (second ≡ Some p → account_of p ≡ a)
    → first_or first second ≡ Some p → account_of p ≡ a
first_case a p None second by_first by_second is = by_second is
first_case a p (Some q) second by_first by_second is = by_first is

-- a place says its account whole
pub of_place : (a : Account) (p : Place) → place_of a ≡ Some p → account_of p ≡ a
unfolding place_of
of_place a p is = first_case a p (plain_of a) (named_of a) (plain_case a p _ refl) (named_case a p _ _ refl) is

-- a long place says its account whole
long_case : (a : Account) (p : LongPlace) (test rest : Bool) → (a.block == 0 && rest) ≡ test
    → cond test (Some (record {
      length = length a.tail;
      kind = a.kind;
      sort = a.key.kind;
      tree = a.tree;
      objectid = a.key.objectid;
      offset = a.key.offset;
      detail = a.detail;
      tail = longer.padded a.tail;
    })) None ≡ Some p → longer.account_of p ≡ a
long_case a p true rest tested is =
    let e1 : 0 ≡ a.block = sym (eqb-true a.block 0 (both (a.block == 0) rest tested).0) in
    let e2 : take (length a.tail) (longer.padded a.tail) ≡ a.tail = front_of a.tail _ in
    subst (λ q. longer.account_of q ≡ a) (some_is _ _ is) (λ i. record { kind = a.kind; tree = a.tree; block = e1 i; key = a.key; detail = a.detail; tail = e2 i })
long_case a p false rest tested is = absurd (cc is)

pub of_long_place : (a : Account) (p : LongPlace) → longer.long_of a ≡ Some p → longer.account_of p ≡ a
unfolding longer.long_of
of_long_place a p is = long_case a p _ _ refl is

module _ {P : Type 0} (of : Account → Option P) where
  -- an account with a place is none without one
  pub apart : (a b : Account) (p : P) → of a ≡ Some p → of b ≡ None → is_same a b ≡ false
  apart a b p at_a at_b = false_if (is_same a b) (λ is. absurd (cc (sym at_a ∙ ap of (same_account a b is) ∙ at_b)))

  pub apart' : (a b : Account) (p : P) → of a ≡ None → of b ≡ Some p → is_same a b ≡ false
  apart' a b p at_a at_b = false_if (is_same a b) (λ is. absurd (cc (sym at_a ∙ ap of (same_account a b is) ∙ at_b)))

  -- two accounts are one exactly where their places are
  pub alike : (back : P → Account) (same : P → P → Bool) → ((a : Account) (p : P) → of a ≡ Some p → back p ≡ a)
      → ((p q : P) → same p q ≡ true → p ≡ q) → ((p : P) → same p p ≡ true)
      → (a b : Account) (p q : P) → of a ≡ Some p → of b ≡ Some q → same p q ≡ is_same a b
  alike back same of_back same_is own a b p q at_a at_b =
      both_ways (same p q) (is_same a b)
      (λ is. subst (λ c. is_same a c ≡ true) (sym (of_back a p at_a) ∙ ap back (same_is p q is) ∙ of_back b q at_b) (account_equiv.refl a))
      (λ is. subst (λ r. same p r ≡ true) (some_is p q (sym at_a ∙ ap of (same_account a b is) ∙ at_b)) (own p))

pub places_alike : (a b : Account) (p q : Place) → place_of a ≡ Some p → place_of b ≡ Some q → is_same_place p q ≡ is_same a b
places_alike = alike place_of account_of is_same_place of_place same_place own_place

pub longs_alike : (a b : Account) (p q : LongPlace) → longer.long_of a ≡ Some p → longer.long_of b ≡ Some q → longer.is_same_long p q ≡ is_same a b
longs_alike = alike longer.long_of longer.account_of longer.is_same_long of_long_place same_long own_long
