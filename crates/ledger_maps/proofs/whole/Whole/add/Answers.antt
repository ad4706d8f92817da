use Rattle.std.proofs.Common.{◌≡◌, arith, rules, ap, sym, ◌∙◌}
use Rattle.std.specs.Prelude.{Some}
use Rattle.std.proofs.lemmas.Grind.{common_steps}
use Rattle.accounts.specs.declared.account.Account.{Account}
use Rattle.accounts.proofs.Same.{same_account}
use Rattle.accounts.specs.Sums.{is_same}
use Rattle.ledger_maps.specs.Entries.{by_account}
use Rattle.ledger_keys.specs.Kept.{sums_at}
use Rattle.ledger_keys.specs.Sums.{amount_at, raise}
use Rattle.verdict.proofs.Answers.{ok_follows}
use Rattle.ledger_keys.proofs.SumLaws.{raise_none}
use Rattle.ledger_maps.proofs.EntryLaws.{amount_stands, changed_entry, on_err, raised_absent, stays_entry, tidy_insert, tidy_raise}
use Rattle.ledger_maps.proofs.whole.Whole.add.Goals as goal

-- what stood there was raised
pub invariant_of-self : goal.invariant_of-self
invariant_of-self c = record {
  tidy = tidy_raise is_same same_account c.raise.result (by_account c.args.self.now.entries) (by_account (c.get_mut.follows.lender c.raise.new.self)) c.args.account.now
      c.in-Some.kept.now c.raise.new.self c.args.field c.args.amount
      (λ q. grind (arith, common_steps)) c.raise.ensures.ok c.raise.ensures.err (sym c.in-Some.ensures.value) c.args.self.now.tidy;
}

pub returns-in-Some-clause-ok : goal.returns-in-Some-clause-ok
returns-in-Some-clause-ok c =
    ok_follows c.raise.result (λ more. changed_entry is_same same_account raise raise_none (by_account c.args.self.now.entries)
    (by_account (c.get_mut.follows.lender c.raise.new.self)) c.args.account.now c.args.field c.args.amount (Some c.raise.new.self)
    (λ q. grind (arith, common_steps))
    (λ k. more k ∙ ap (λ o. raise (amount_at c.args.field c.args.amount k) (sums_at o k)) c.in-Some.ensures.value)) c.raise.ensures.ok

pub returns-in-Some-clause-err : goal.returns-in-Some-clause-err
returns-in-Some-clause-err c =
    on_err c.raise.result (λ stay. stays_entry is_same same_account (by_account c.args.self.now.entries)
    (by_account (c.get_mut.follows.lender c.raise.new.self)) c.args.account.now (Some c.raise.new.self)
    (λ q. grind (arith, common_steps)) (λ k. stay k ∙ ap (λ o. sums_at o k) c.in-Some.ensures.value)) c.raise.ensures.err

-- there stood none
pub invariant_of-self-2 : goal.invariant_of-self-2
invariant_of-self-2 c =
    let same : (q : Account) → by_account c.get_mut.follows.lender-at-none q ≡ by_account c.args.self.now.entries q = λ q. ap (λ m. by_account m q) c.get_mut.follows.holds-at-none in
    record {
      tidy = tidy_insert is_same same_account c.insert.result (by_account c.get_mut.follows.lender-at-none) (by_account c.insert.new.self) c.in_ok-account.account c.in_ok-kept.kept
          (search rules) (search rules) (λ q t at. c.args.self.now.tidy q t (sym (same q) ∙ at))
          (amount_stands c.in_ok-kept.kept c.args.field c.args.amount (search rules) c.requires.named c.requires.more);
    }

pub returns-clause-ok : goal.returns-clause-ok
returns-clause-ok c =
    let same : (q : Account) → by_account c.get_mut.follows.lender-at-none q ≡ by_account c.args.self.now.entries q = λ q. ap (λ m. by_account m q) c.get_mut.follows.holds-at-none in
    changed_entry is_same same_account raise raise_none (by_account c.args.self.now.entries) (by_account c.insert.new.self) c.args.account.now c.args.field c.args.amount (Some c.in_ok-kept.kept)
    (λ q. grind (arith, common_steps))
    (raised_absent (by_account c.args.self.now.entries) c.args.account.now c.in_ok-kept.kept c.args.field c.args.amount (search rules) (search rules) (sym c.in_default.ensures.value))
