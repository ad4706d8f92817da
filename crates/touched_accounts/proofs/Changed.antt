-- Sums to which postings are added one after the other, or from which they are taken.
use Rattle.std.proofs.Common.{◌≡◌, ℕ, ◌+◌, ◌-◌, ◌<◌, ◌==◌, ◌&&◌, min, Bool, true, false, cond, List, [], ◌∷◌, ◌++◌, length, take, get_or, refl, ap, sym, ◌∙◌, subst, arith}
use Rattle.std.specs.Prelude.{nat_lt}
use Rattle.std.proofs.Math.Path.{fun_ext}
use Rattle.std.proofs.lemmas.Bool.{eqb-true}
use Rattle.std.proofs.lemmas.List.{take_more}
use Rattle.accounts.specs.declared.account.Account.{Account}
use Rattle.accounts.specs.declared.postings.Posting.{Posting}
use Rattle.accounts.specs.Sums.{added, is_same, total_of}
use Rattle.accounts.specs.Tally.{Sums}
use Rattle.accounts.proofs.Kept.{total_joined}
use Rattle.accounts.proofs.Same.{same_account}
use Rattle.verdict.proofs.Truth.{and_parts}
use Rattle.ledger_keys.specs.Sums.{amount_to, changed, greatest, lower, raise}
use Rattle.touched_accounts.specs.AddingLaws.{with_more}
use Rattle.touched_accounts.specs.Sums.{less_all, with_all}

-- ---- one list after another

pub less_none : (sums : Sums) → less_all sums [] ≡ sums
unfolding less_all total_of
less_none sums = fun_ext (λ account. fun_ext (λ n. let same : sums account n - 0 ≡ sums account n = omega arith in same))

less_both : (s x y both : ℕ) → both ≡ x + y → (s - x) - y ≡ s - both
less_both s x y both is = omega arith

less_more : (sums : Sums) (ps qs : List Posting) → less_all (less_all sums ps) qs ≡ less_all sums (ps ++ qs)
unfolding less_all
less_more sums ps qs = fun_ext (λ account. fun_ext (λ n.
    less_both (sums account n) (total_of ps account n) (total_of qs account n) (total_of (ps ++ qs) account n) (total_joined ps qs account n)))

-- ---- one posting

-- where the sum is below the greatest number, nothing was lost
not_lost : (most amount s : ℕ) → s + min amount (most - s) < most → s + min amount (most - s) ≡ s + (amount + 0)
not_lost most amount s room = omega arith

nothing_put : (most s : ℕ) → s + min 0 (most - s) ≡ s + (0 + 0)
nothing_put most s = omega arith

module _ (sums : Sums) (p : Posting) (room : changed raise sums p.account p.field p.amount p.account p.field < greatest) where
  put_at : (other : Account) (n : ℕ) (b : Bool) → (is_same p.account other && (p.field == n && nat_lt n 9)) ≡ b
      → changed raise sums p.account p.field p.amount other n ≡ sums other n + (added p other n + 0)
  unfolding changed added
  put_at other n true is =
      let parts = and_parts (is_same p.account other) (p.field == n && nat_lt n 9) is in
      let at : p.account ≡ other = same_account p.account other parts.0 in
      let named : p.field ≡ n = eqb-true p.field n (and_parts (p.field == n) (nat_lt n 9) parts.1).0 in
      not_lost greatest (amount_to p.account p.field p.amount other n) (sums other n)
      (subst (λ (k : ℕ). changed raise sums p.account p.field p.amount other k < greatest) named
      (subst (λ (a : Account). changed raise sums p.account p.field p.amount a p.field < greatest) at room))
  put_at other n false is =
      ap (λ (b : Bool). sums other n + min (cond b p.amount 0) (greatest - sums other n)) is
      ∙ nothing_put greatest (sums other n)
      ∙ ap (λ (b : Bool). sums other n + (cond b p.amount 0 + 0)) (sym is)

  put_one : changed raise sums p.account p.field p.amount ≡ with_all sums (p ∷ [])
  unfolding with_all total_of
  put_one = fun_ext (λ other. fun_ext (λ n. put_at other n (is_same p.account other && (p.field == n && nat_lt n 9)) refl))

taken_one : (amount s : ℕ) → s - amount ≡ s - (amount + 0)
taken_one amount s = omega arith

take_one : (sums : Sums) (p : Posting) → changed lower sums p.account p.field p.amount ≡ less_all sums (p ∷ [])
unfolding changed less_all total_of added
take_one sums p = fun_ext (λ other. fun_ext (λ n. taken_one (amount_to p.account p.field p.amount other n) (sums other n)))

pub put_last : (old new : Sums) (p : Posting) → new ≡ changed raise old p.account p.field p.amount → new p.account p.field < greatest
    → new ≡ with_all old (p ∷ [])
put_last old new p is room = is ∙ put_one old p (subst (λ (s : Sums). s p.account p.field < greatest) is room)

-- ---- a step of a loop

pub put_next : (old now new : Sums) (ps : List Posting) (i : ℕ) (d p : Posting) → i < length ps → p ≡ get_or ps i d
    → now ≡ with_all old (take i ps) → new ≡ changed raise now p.account p.field p.amount → new p.account p.field < greatest
    → new ≡ with_all old (take (i + 1) ps)
put_next old now new ps i d p inside item so is room =
    put_last now new p is room
    ∙ ap (λ (s : Sums). with_all s (p ∷ [])) so
    ∙ with_more old (take i ps) (p ∷ [])
    ∙ ap (λ (q : Posting). with_all old (take i ps ++ q ∷ [])) item
    ∙ ap (with_all old) (sym (take_more ps i d inside))

pub take_next : (old now new : Sums) (ps : List Posting) (i : ℕ) (d p : Posting) → i < length ps → p ≡ get_or ps i d
    → now ≡ less_all old (take i ps) → new ≡ changed lower now p.account p.field p.amount
    → new ≡ less_all old (take (i + 1) ps)
take_next old now new ps i d p inside item so is =
    is
    ∙ take_one now p
    ∙ ap (λ (s : Sums). less_all s (p ∷ [])) so
    ∙ less_more old (take i ps) (p ∷ [])
    ∙ ap (λ (q : Posting). less_all old (take i ps ++ q ∷ [])) item
    ∙ ap (less_all old) (sym (take_more ps i d inside))
