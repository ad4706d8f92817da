use Rattle.std.proofs.Common.{⊎_elim, ◌+◌, ap, ◌∙◌}
use Rattle.ledger_keys.specs.Kept.{kept_sum}
use Rattle.ledger_keys.specs.Sums.{amount_at, lower}
use Rattle.ledger_keys.proofs.SumLaws.{lower_none}
use Rattle.ledger_keys.proofs.SideLaws.{shifts, stands_by}
use Rattle.ledger_keys.proofs.kept.Kept.lower_side.Goals as goal

-- the side has sums, so its number stands
pub returns-clause-less : goal.returns-clause-less
returns-clause-less c =
    shifts lower lower_none (kept_sum c.args.self.now) (kept_sum c.lower.new.self) c.args.field c.args.amount c.requires c.args.side
    (stands_by (kept_sum c.args.self.now) c.args.side (λ z0 z1.
    ⊎_elim (λ b. b.1 (c.sums-first.ensures.second ∙ z1)) (λ some. some (c.sums-first.ensures.first ∙ z0)) c.else-first-eq0.either))
    (λ k. c.lower.ensures k ∙ ap (λ a. lower (amount_at a c.args.amount k) (kept_sum c.args.self.now k)) (ap (λ a. a + c.args.field) c.first.ensures))
