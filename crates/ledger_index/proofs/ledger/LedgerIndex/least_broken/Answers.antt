use Rattle.std.proofs.Common.{arith}
use Rattle.indexmap.specs.IndexMap.{index_map_len}
use Rattle.ledger_index.specs.Ledger.{entries_of}
use Rattle.ledger_index.proofs.LooksLaws.{counted_few, look_both}
use Rattle.ledger_index.proofs.ledger.LedgerIndex.least_broken.Goals as goal

-- those in no page, then the pages
pub returns-clause-counts : goal.returns-clause-counts
unfolding entries_of
returns-clause-counts g c =
    look_both _ _ _ c.args.steps.now c.least_broken.new.steps c.least_seated.new.steps (omega arith) c.in_ok-least.ensures.counts
    c.least_seated.ensures.counts

pub returns-clause-looks : goal.returns-clause-looks
unfolding entries_of
returns-clause-looks g c =
    let few = counted_few (index_map_len c.args.self.now.pages.map) c.least_broken.new.steps in
    omega (arith, few, c.least_seated.ensures.counts, c.in_ok-least.ensures.looks)
