use Rattle.std.proofs.Common.{refl}
use Rattle.ledger_index.specs.Singles.{entries_of, sums_of}
use Rattle.verdict.proofs.Answers.{each_ok, ok_follows}
use Rattle.ledger_index.proofs.JudgedLaws.{least_of_all, least_of_none}
use Rattle.ledger_index.proofs.LooksLaws.{look_both}
use Rattle.ledger_index.proofs.singles.Singles.least_broken.Goals as goal

pub returns-clause-least : goal.returns-clause-least
returns-clause-least g c =
    let self = c.args.self.now in
    each_ok c.least_whole.result (λ found. least_of_all (sums_of self) found)
    (c.least_whole.ensures.least (c.in_ok-least-2.ensures.least (c.in_ok-least.ensures.least (least_of_none self))))

-- the short places, then the long ones, then those without
pub returns-clause-counts : goal.returns-clause-counts
unfolding entries_of
returns-clause-counts g c =
    ok_follows c.least_whole.result
    (λ rest. look_both _ _ _ c.args.steps.now c.least.new.steps c.least_whole.new.steps refl c.in_ok-least.ensures.counts
    (look_both _ _ _ c.least.new.steps c.least-2.new.steps c.least_whole.new.steps refl c.in_ok-least-2.ensures.counts rest))
    c.least_whole.ensures.counts
