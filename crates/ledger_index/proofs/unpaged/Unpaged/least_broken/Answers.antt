use Rattle.std.proofs.Common.{arith}
use Rattle.ledger_index.specs.Unpaged.{entries_of}
use Rattle.verdict.proofs.Answers.{each_ok, ok_follows}
use Rattle.ledger_index.proofs.LooksLaws.{look_both}
use Rattle.ledger_index.proofs.NamedLaws.{names_end, names_start}
use Rattle.ledger_index.proofs.unpaged.Unpaged.least_broken.Goals as goal

pub returns-clause-least : goal.returns-clause-least
returns-clause-least g c =
    let self = c.args.self.now in
    each_ok c.least.result (names_end self) (c.least.ensures.least (names_start self c.in_ok-least.least c.in_ok-least.ensures.least))

-- those with an entry each, then the names
pub returns-clause-counts : goal.returns-clause-counts
unfolding entries_of
returns-clause-counts g c =
    ok_follows c.least.result
    (λ names. look_both _ _ _ c.args.steps.now c.least_broken.new.steps c.least.new.steps (omega arith) c.in_ok-least.ensures.counts names)
    c.least.ensures.counts
