use Rattle.std.proofs.Common.{ap, ◌∙◌}
use Rattle.std.proofs.Math.Path.{fun_ext}
use Rattle.accounts.specs.Broken.{is_broken}
use Rattle.ledger_index.specs.Judged.{breaks}
use Rattle.ledger_keys.specs.Kept.{kept_sum}
use Rattle.ledger_index.proofs.judged.breaks.Goals as goal

pub returns-in-None : goal.returns-in-None
unfolding breaks is_broken
returns-in-None c =
    c.broken.ensures ∙ ap (breaks c.stand_in.result.kind) (fun_ext c.totals.ensures) ∙ ap (λ k. breaks k (kept_sum c.args.kept.now)) c.stand_in.ensures
