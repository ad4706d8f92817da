use Rattle.std.proofs.Common.{◌∙◌, sym}
use Rattle.ledger_keys.specs.Kept.{kept_sum}
use Rattle.ledger_keys.proofs.SideLaws.{counted, rests}
use Rattle.ledger_keys.proofs.kept.Kept.put_number.Goals as goal

pub returns-clause-rests : goal.returns-clause-rests
returns-clause-rests c =
    rests (kept_sum c.args.self.now) (kept_sum c.put.new.self) c.args.side c.requires.first c.requires.second
    (λ k apart. c.put.ensures.others k (λ e. apart (sym c.mark.ensures ∙ e)))

pub returns-clause-counted : goal.returns-clause-counted
returns-clause-counted c =
    counted (kept_sum c.args.self.now) (kept_sum c.put.new.self) c.args.side c.requires.first c.requires.second
    (λ k apart. c.put.ensures.others k (λ e. apart (sym c.mark.ensures ∙ e)))
