-- What totals of postings say: which postings there are, and what they come to at least.
use Rattle.std.proofs.Common.{◌≡◌, ℕ, zero, suc, ◌+◌, ◌<◌, ◌==◌, ◌&&◌, Bool, true, false, List, [], ◌∷◌, ◌++◌, ◌⊎◌, inl, inr, refl, ap, sym, subst, ◌∙◌}
use Rattle.std.proofs.Common.{arith, if◌then◌else◌}
use Rattle.std.proofs.lemmas.Bool.{eq-eqb, eqb-true, lt-ltb}
use Rattle.std.specs.Prelude.{◌≤◌, nat_lt}
use Rattle.std.specs.List.{AllByRecursion, flat_map}
use Rattle.accounts.specs.OrderLaws.{account_equiv}
use Rattle.accounts.specs.Sums.{added, is_same, total_of}
use Rattle.accounts.specs.declared.account.Account.{Account}
use Rattle.accounts.specs.declared.postings.Posting.{Posting}
use Rattle.accounts.proofs.Kept.{total_joined}
use Rattle.accounts.proofs.Same.{same_account}
use Rattle.commit_laws.proofs.Elements.{Among}

module _ {X : Type 0} where
  pub all_among : (P : X → Type 0) (xs : List X) (x : X) → AllByRecursion P xs → Among x xs → P x
  all_among P [] x all has = elim has [ ]
  all_among P (y ∷ xs) x all (inl same) = subst P same all.0
  all_among P (y ∷ xs) x all (inr later) = all_among P xs x all.1 later

  pub among_left : (z : X) (xs ys : List X) → Among z xs → Among z (xs ++ ys)
  among_left z [] ys has = elim has [ ]
  among_left z (x ∷ xs) ys (inl same) = inl same
  among_left z (x ∷ xs) ys (inr later) = inr (among_left z xs ys later)

  pub among_right : (z : X) (xs ys : List X) → Among z ys → Among z (xs ++ ys)
  among_right z [] ys has = has
  among_right z (x ∷ xs) ys has = inr (among_right z xs ys has)

  pub among_either : (z : X) (xs ys : List X) → Among z (xs ++ ys) → Among z xs ⊎ Among z ys
  among_either z [] ys has = inr has
  among_either z (x ∷ xs) ys (inl same) = inl (inl same)
  among_either z (x ∷ xs) ys (inr later) = by (among_either z xs ys later)
    where
      by : Among z xs ⊎ Among z ys → Among z (x ∷ xs) ⊎ Among z ys
      by (inl here) = inl (inr here)
      by (inr there) = inr there

-- one that adds is of the account and the field
pub record Adds (p : Posting) (account : Account) (field : ℕ) : Type 0 where
  pub account_is : p.account ≡ account
  pub field_is : p.field ≡ field
  pub some : 0 < p.amount

adds_of : (p : Posting) (account : Account) (field : ℕ) → 0 < added p account field → Adds p account field
unfolding added
adds_of p account field some = by (is_same p.account account) (p.field == field) (nat_lt field 9) refl refl some
  where
    by : (a b c : Bool) → is_same p.account account ≡ a → (p.field == field) ≡ b → 0 < (if a && (b && c) then p.amount else 0)
        → Adds p account field
    by true true true x y some = record { account_is = same_account p.account account x; field_is = eqb-true p.field field y; some = some }
    by true true false x y some = absurd (omega arith)
    by true false c x y some = absurd (omega arith)
    by false b c x y some = absurd (omega arith)

adds_own : (p : Posting) → p.field < 9 → added p p.account p.field ≡ p.amount
unfolding added
adds_own p small = rw (account_equiv.refl p.account, eq-eqb p.field p.field refl, lt-ltb p.field 9 small) refl

-- some of these postings add where their total is not zero
pub record Posted (ps : List Posting) (account : Account) (field : ℕ) : Type 0 where
  pub p : Posting
  pub among : Among p ps
  pub adds : Adds p account field

pub posted : (ps : List Posting) (account : Account) (field : ℕ) → 0 < total_of ps account field → Posted ps account field
unfolding total_of
posted [] account field some = absurd (omega arith)
posted (p ∷ ps) account field some = by (added p account field) refl some (posted ps account field)
  where
    by : (n : ℕ) → added p account field ≡ n → 0 < added p account field + total_of ps account field
        → (0 < total_of ps account field → Posted ps account field) → Posted (p ∷ ps) account field
    by zero is some rest =
        let r = rest (omega (arith, some, is)) in
        record { p = r.p; among = inr r.among; adds = r.adds }
    by (suc n) is some rest = record { p = p; among = inl refl; adds = adds_of p account field (omega (arith, is)) }

-- a posting is part of the total
pub at_least : (ps : List Posting) (p : Posting) → Among p ps → p.field < 9 → p.amount ≤ total_of ps p.account p.field
unfolding total_of
at_least [] p has small = elim has [ ]
at_least (q ∷ ps) p (inl same) small =
    let first : added q p.account p.field ≡ p.amount = ap (λ r. added r p.account p.field) same ∙ adds_own p small in
    let whole : p.amount ≤ added q p.account p.field + total_of ps p.account p.field = omega (arith, first) in
    whole
at_least (q ∷ ps) p (inr later) small =
    let rest = at_least ps p later small in
    let whole : p.amount ≤ added q p.account p.field + total_of ps p.account p.field = omega (arith, rest) in
    whole

module _ {X : Type 0} (give : X → List Posting) where
  -- what is among the postings of all is among those of one
  pub record Given (xs : List X) (p : Posting) : Type 0 where
    pub one : X
    pub among : Among one xs
    pub has : Among p (give one)

  pub given : (xs : List X) (p : Posting) → Among p (flat_map give xs) → Given xs p
  given [] p has = elim has [ ]
  given (x ∷ xs) p has = by (among_either p (give x) (flat_map give xs) has) (given xs p)
    where
      by : Among p (give x) ⊎ Among p (flat_map give xs) → (Among p (flat_map give xs) → Given xs p) → Given (x ∷ xs) p
      by (inl here) rest = record { one = x; among = inl refl; has = here }
      by (inr there) rest = let g = rest there in record { one = g.one; among = inr g.among; has = g.has }

  module _ (account : Account) (field : ℕ) where
    abbrev own : X → ℕ
    own x = total_of (give x) account field

    -- the total of one is part of that of all, and so are those of two
    pub counted : (xs : List X) (one : X) → Among one xs → own one ≤ total_of (flat_map give xs) account field
    counted [] one has = elim has [ ]
    counted (x ∷ xs) one (inl same) =
        let split = total_joined (give x) (flat_map give xs) account field in
        let is : own x ≡ own one = ap own same in
        omega (arith, split, is)
    counted (x ∷ xs) one (inr later) =
        let split = total_joined (give x) (flat_map give xs) account field in
        let rest = counted xs one later in
        omega (arith, split, rest)

    pub two_counted : (xs : List X) (a b : X) → Among a xs → Among b xs → (a ≡ b → ⊥)
        → own a + own b ≤ total_of (flat_map give xs) account field
    two_counted [] a b one other apart = elim one [ ]
    two_counted (x ∷ xs) a b (inl here) (inl there) apart = elim (apart (sym here ∙ there)) [ ]
    two_counted (x ∷ xs) a b (inl here) (inr there) apart =
        let split = total_joined (give x) (flat_map give xs) account field in
        let is : own x ≡ own a = ap own here in
        let rest = counted xs b there in
        omega (arith, split, is, rest)
    two_counted (x ∷ xs) a b (inr here) (inl there) apart =
        let split = total_joined (give x) (flat_map give xs) account field in
        let is : own x ≡ own b = ap own there in
        let rest = counted xs a here in
        omega (arith, split, is, rest)
    two_counted (x ∷ xs) a b (inr here) (inr there) apart =
        let split = total_joined (give x) (flat_map give xs) account field in
        let rest = two_counted xs a b here there apart in
        omega (arith, split, rest)
