use Rattle.std.proofs.Common.{arith, refl, ap, sym, ◌∙◌}
use Rattle.std.specs.Prelude.{Some, None}
use Rattle.std.proofs.lemmas.Grind.{common_steps}
use Rattle.accounts.proofs.Same.{same_account}
use Rattle.accounts.specs.Sums.{is_same}
use Rattle.ledger_maps.specs.Entries.{by_account}
use Rattle.ledger_keys.specs.Kept.{sums_at}
use Rattle.ledger_keys.specs.Sums.{amount_at, lower}
use Rattle.ledger_keys.proofs.SumLaws.{lower_none}
use Rattle.ledger_maps.proofs.EntryLaws.{changed_entry, lowered_absent, tidy_entry, tidy_put}
use Rattle.ledger_maps.proofs.whole.Whole.take.Goals as goal

pub returns-in_default : goal.returns-in_default
returns-in_default c =
    lowered_absent is_same same_account (by_account c.args.self.now.entries) (by_account c.get_mut.follows.lender-at-none) c.args.account.now c.args.field c.args.amount
    (λ q. ap (λ m. by_account m q) c.get_mut.follows.holds-at-none) (sym c.in_default.ensures.value)

-- the entry went away
pub invariant_of-self-then-is_zero : goal.invariant_of-self-then-is_zero
invariant_of-self-then-is_zero c = record {
  tidy = tidy_entry is_same same_account (by_account c.args.self.now.entries) (by_account c.remove.new.self) c.args.account.now None
      (λ q. grind (arith, common_steps, c.remove.ensures.updates.0 q)) c.args.self.now.tidy (λ t at. absurd (cc at));
}

pub returns-then-is_zero : goal.returns-then-is_zero
returns-then-is_zero c =
    changed_entry is_same same_account lower lower_none (by_account c.args.self.now.entries) (by_account c.remove.new.self) c.args.account.now c.args.field c.args.amount None
    (λ q. grind (arith, common_steps, c.remove.ensures.updates.0 q))
    (λ k. sym (c.if-is_zero.ensures.0 refl k) ∙ c.lower.ensures k
    ∙ ap (λ o. lower (amount_at c.args.field c.args.amount k) (sums_at o k)) c.in-Some.ensures.value)

-- it has the sums that are left
pub invariant_of-self-else-is_zero : goal.invariant_of-self-else-is_zero
invariant_of-self-else-is_zero c = record {
  tidy = tidy_put is_same same_account (by_account c.args.self.now.entries) (by_account (c.get_mut.follows.lender c.lower.new.self)) c.args.account.now c.lower.new.self
      (λ q. grind (arith, common_steps)) c.args.self.now.tidy (λ zero. absurd (cc (c.if-is_zero.ensures.1 zero)));
}

pub returns-else-is_zero : goal.returns-else-is_zero
returns-else-is_zero c =
    changed_entry is_same same_account lower lower_none (by_account c.args.self.now.entries) (by_account (c.get_mut.follows.lender c.lower.new.self)) c.args.account.now c.args.field c.args.amount
    (Some c.lower.new.self) (λ q. grind (arith, common_steps))
    (λ k. c.lower.ensures k ∙ ap (λ o. lower (amount_at c.args.field c.args.amount k) (sums_at o k)) c.in-Some.ensures.value)
