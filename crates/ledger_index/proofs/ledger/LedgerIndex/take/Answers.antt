use Rattle.std.proofs.Common.{refl, sym}
use Rattle.ledger_keys.specs.Sums.{lower}
use Rattle.ledger_keys.proofs.SumLaws.{lower_none}
use Rattle.ledger_index.proofs.LedgerLaws.{apart_changed, is_tidy, seat_changed, unpaged_changed}
use Rattle.ledger_index.proofs.SinglesLaws.{changed_above}
use Rattle.ledger_index.proofs.ledger.LedgerIndex.take.Goals as goal

pub returns-then-not-names_a_sum-clause-sums : goal.returns-then-not-names_a_sum-clause-sums
returns-then-not-names_a_sum-clause-sums g c = changed_above lower lower_none _ _ _ _ _ c.if-not-names_a_sum.true c.names_a_sum.ensures

pub returns-then-not-names_a_sum-clause-entries : goal.returns-then-not-names_a_sum-clause-entries
returns-then-not-names_a_sum-clause-entries g c = is_tidy _

pub invariant_of-self-in-None : goal.invariant_of-self-in-None
invariant_of-self-in-None g c = record {
  apart = apart_changed lower lower_none c.args.account.now c.args.field c.args.amount c.args.self.now.unpaged c.take-in-None.new.self
      (sym c.in-None.ensures.seat) c.take-in-None.ensures c.args.self.now.apart;
}

pub returns-in-Some-clause-sums : goal.returns-in-Some-clause-sums
returns-in-Some-clause-sums g c =
    seat_changed lower lower_none c.args.account.now c.args.field c.args.amount c.args.self.now _ c.in-Some.seat (sym c.in-Some.ensures.seat) c.take.ensures refl

pub returns-in-Some-clause-entries : goal.returns-in-Some-clause-entries
returns-in-Some-clause-entries g c = is_tidy _

pub returns-in-None-clause-sums : goal.returns-in-None-clause-sums
returns-in-None-clause-sums g c =
    unpaged_changed lower lower_none c.args.account.now c.args.field c.args.amount c.args.self.now _ (sym c.in-None.ensures.seat) c.take-in-None.ensures (λ s. refl)

pub returns-in-None-clause-entries : goal.returns-in-None-clause-entries
returns-in-None-clause-entries g c = is_tidy _
