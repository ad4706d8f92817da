use Rattle.std.proofs.Common.{refl, sym}
use Rattle.ledger_keys.specs.Sums.{lower}
use Rattle.ledger_keys.proofs.SumLaws.{lower_none}
use Rattle.ledger_index.proofs.SinglesLaws.{long_changed, short_changed, whole_changed}
use Rattle.ledger_index.proofs.singles.Singles.take.Goals as goal

pub returns-in-Some : goal.returns-in-Some
returns-in-Some c = short_changed lower lower_none _ _ _ _ _ _ (sym c.in-Some.ensures) c.take.ensures (λ l. refl) (λ q. refl)

pub returns-in-Some-of : goal.returns-in-Some-of
returns-in-Some-of c =
    long_changed lower lower_none _ _ _ _ _ _ (sym c.in_default.ensures) (sym c.in-Some-of.ensures) c.take-in-Some-of.ensures (λ l. refl) (λ q. refl)

pub returns-in-None : goal.returns-in-None
returns-in-None c =
    whole_changed lower lower_none _ _ _ _ _ (sym c.in_default.ensures) (sym c.in-None.ensures) c.take-in-None.ensures (λ l. refl) (λ q. refl)
