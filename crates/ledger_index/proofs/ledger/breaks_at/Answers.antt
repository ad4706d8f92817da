use Rattle.std.proofs.Common.{ap, sym, ◌∙◌}
use Rattle.ledger_index.specs.Judged.{breaks}
use Rattle.ledger_keys.specs.Kept.{kept_sum, sums_at}
use Rattle.ledger_keys.specs.Seat.{kind_at}
use Rattle.ledger_index.proofs.SeatedLaws.{none_breaks}
use Rattle.ledger_index.proofs.ledger.breaks_at.Goals as goal

pub returns-in-Some : goal.returns-in-Some
returns-in-Some c =
    c.breaks.ensures ∙ ap (λ k. breaks k (kept_sum c.in-Some.kept.now)) c.kind_at.ensures ∙ ap (λ o. breaks (kind_at c.args.slot) (sums_at o)) c.in-Some.ensures

pub returns-in-None : goal.returns-in-None
returns-in-None c = sym (none_breaks c.args.slot) ∙ ap (λ o. breaks (kind_at c.args.slot) (sums_at o)) c.in-None.ensures
