use Rattle.std.proofs.Common.{arith, refl, sym, ⊎_elim}
use Rattle.accounts.specs.Lent.{account_lent}
use Rattle.ledger_index.specs.Ledger.{entries_of}
use Rattle.ledger_keys.specs.Sums.{raise}
use Rattle.verdict.proofs.Answers.{ok_follows}
use Rattle.ledger_keys.proofs.SumLaws.{raise_none}
use Rattle.ledger_maps.proofs.EntryLaws.{full_as, on_err}
use Rattle.ledger_index.proofs.LedgerLaws.{all_stay, apart_made, at_unpaged, is_tidy, unpaged_changed}
use Rattle.ledger_keys.proofs.LentLaws.{no_seat}
use Rattle.ledger_index.proofs.SinglesLaws.{changed_above, changed_nothing}
use Rattle.ledger_index.proofs.ledger.LedgerIndex.add_name.Goals as goal

pub returns-then-not-names_a_sum-clause-ok : goal.returns-then-not-names_a_sum-clause-ok
returns-then-not-names_a_sum-clause-ok g c =
    ⊎_elim (λ above. changed_above raise raise_none _ _ _ _ _ above c.names_a_sum.ensures) (λ small. changed_nothing raise raise_none _ _ _ _ small.1)
    c.then-not-names_a_sum.either

pub returns-then-not-names_a_sum-clause-entries : goal.returns-then-not-names_a_sum-clause-entries
returns-then-not-names_a_sum-clause-entries g c = is_tidy _

pub returns-in_err-account-clause-entries : goal.returns-in_err-account-clause-entries
returns-in_err-account-clause-entries g c = is_tidy _

pub invariant_of-self : goal.invariant_of-self
invariant_of-self g c = record {
  apart = apart_made raise raise_none (account_lent c.args.name.now) c.args.field c.args.amount c.add_lent.result c.args.self.now.unpaged c.add_lent.new.self
      (no_seat c.args.name.now) c.add_lent.ensures.ok c.add_lent.ensures.err c.args.self.now.apart;
}

pub returns-clause-ok : goal.returns-clause-ok
returns-clause-ok g c =
    ok_follows c.add_lent.result
    (λ is. unpaged_changed raise raise_none (account_lent c.args.name.now) c.args.field c.args.amount c.args.self.now _ (no_seat c.args.name.now) is (λ s. refl))
    c.add_lent.ensures.ok

pub returns-clause-full : goal.returns-clause-full
returns-clause-full g c =
    full_as c.add_lent.result _ _ (sym (at_unpaged _ _ (no_seat c.args.name.now) c.args.field)) c.add_lent.ensures.full

pub returns-clause-err : goal.returns-clause-err
returns-clause-err g c = on_err c.add_lent.result (λ is. all_stay c.args.self.now _ (λ s n. refl) is) c.add_lent.ensures.err

pub returns-clause-entries : goal.returns-clause-entries
returns-clause-entries g c = is_tidy _

pub returns-clause-few : goal.returns-clause-few
unfolding entries_of
returns-clause-few g c = omega (arith, c.add_lent.ensures.few)
