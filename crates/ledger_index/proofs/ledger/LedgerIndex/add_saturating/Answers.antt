use Rattle.std.proofs.Common.{arith, refl, sym, ⊎_elim}
use Rattle.ledger_index.specs.Ledger.{entries_of}
use Rattle.ledger_keys.specs.Sums.{raise}
use Rattle.verdict.proofs.Answers.{ok_follows}
use Rattle.ledger_keys.proofs.SumLaws.{raise_none}
use Rattle.ledger_maps.proofs.EntryLaws.{full_as, on_err}
use Rattle.ledger_index.proofs.LedgerLaws.{all_stay, apart_made, at_seat, at_unpaged, is_tidy, seat_changed, unpaged_changed}
use Rattle.ledger_index.proofs.SinglesLaws.{changed_above, changed_nothing}
use Rattle.ledger_index.proofs.ledger.LedgerIndex.add_saturating.Goals as goal

pub returns-then-not-names_a_sum-clause-ok : goal.returns-then-not-names_a_sum-clause-ok
returns-then-not-names_a_sum-clause-ok g c =
    ⊎_elim (λ above. changed_above raise raise_none _ _ _ _ _ above c.names_a_sum.ensures) (λ small. changed_nothing raise raise_none _ _ _ _ small.1)
    c.then-not-names_a_sum.either

pub returns-then-not-names_a_sum-clause-entries : goal.returns-then-not-names_a_sum-clause-entries
returns-then-not-names_a_sum-clause-entries g c = is_tidy _

-- to one with a seat
pub returns-in-Some-clause-ok : goal.returns-in-Some-clause-ok
returns-in-Some-clause-ok g c =
    ok_follows c.add.result (λ is. seat_changed raise raise_none c.args.account.now c.args.field c.args.amount c.args.self.now _ c.in-Some.seat (sym c.in-Some.ensures.seat) is refl)
    c.add.ensures.ok

pub returns-in-Some-clause-full : goal.returns-in-Some-clause-full
returns-in-Some-clause-full g c = full_as c.add.result _ _ (sym (at_seat _ _ c.in-Some.seat (sym c.in-Some.ensures.seat) c.args.field)) c.add.ensures.full

pub returns-in-Some-clause-err : goal.returns-in-Some-clause-err
returns-in-Some-clause-err g c = on_err c.add.result (λ is. all_stay c.args.self.now _ is refl) c.add.ensures.err

pub returns-in-Some-clause-entries : goal.returns-in-Some-clause-entries
returns-in-Some-clause-entries g c = is_tidy _

pub returns-in-Some-clause-few : goal.returns-in-Some-clause-few
unfolding entries_of
returns-in-Some-clause-few g c = omega (arith, c.add.ensures.few)

-- to one without
pub invariant_of-self-in-None : goal.invariant_of-self-in-None
invariant_of-self-in-None g c = record {
  apart = apart_made raise raise_none c.args.account.now c.args.field c.args.amount c.add_saturating.result c.args.self.now.unpaged c.add_saturating.new.self
      (sym c.in-None.ensures.seat) c.add_saturating.ensures.ok c.add_saturating.ensures.err c.args.self.now.apart;
}

pub returns-in-None-clause-ok : goal.returns-in-None-clause-ok
returns-in-None-clause-ok g c =
    ok_follows c.add_saturating.result
    (λ is. unpaged_changed raise raise_none c.args.account.now c.args.field c.args.amount c.args.self.now _ (sym c.in-None.ensures.seat) is (λ s. refl))
    c.add_saturating.ensures.ok

pub returns-in-None-clause-full : goal.returns-in-None-clause-full
returns-in-None-clause-full g c =
    full_as c.add_saturating.result _ _ (sym (at_unpaged _ _ (sym c.in-None.ensures.seat) c.args.field)) c.add_saturating.ensures.full

pub returns-in-None-clause-err : goal.returns-in-None-clause-err
returns-in-None-clause-err g c = on_err c.add_saturating.result (λ is. all_stay c.args.self.now _ (λ s n. refl) is) c.add_saturating.ensures.err

pub returns-in-None-clause-entries : goal.returns-in-None-clause-entries
returns-in-None-clause-entries g c = is_tidy _

pub returns-in-None-clause-few : goal.returns-in-None-clause-few
unfolding entries_of
returns-in-None-clause-few g c = omega (arith, c.add_saturating.ensures.few)
