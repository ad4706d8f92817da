use Rattle.verdict.proofs.Answers.{ok_follows as on_ok}
use Rattle.change_records.proofs.MadeLaws.{altered}
use Rattle.change_records.proofs.kept.Made.apply.Goals as goal

pub returns-in_ok-take-in-Altered : goal.returns-in_ok-take-in-Altered
returns-in_ok-take-in-Altered c =
    on_ok c.put-in-Altered.result
    (λ put. altered c.args.old.now c.args.new.now c.args.change.now c.in-Altered.was c.in-Altered.is' _ _ c.args.self.now c.take-in-Altered.new.self c.put-in-Altered.new.self
    c.in-Altered.is c.item_at-in-Altered.ensures c.item_at-in-Altered-2.ensures c.in_ok-take-in-Altered.ensures put)
    c.put-in-Altered.ensures
