use Rattle.std.proofs.Common.{◌∙◌, ap}
use Rattle.std.specs.List.{flat_map}
use Rattle.accounts.specs.Tally.{sums_in, with_postings}
use Rattle.name_tally.specs.Names.{slot_postings}
use Rattle.name_tally.proofs.Sums.{settled}
use Rattle.verdict.proofs.Answers.{on_ok}
use Rattle.name_tally.proofs.tally.NameTally.settle.Goals as goal

pub returns : goal.returns
returns c =
    on_ok c.settle_all.result c.settle_all.ensures (λ e. settled c.args.self.now.slots.items c.args.rest.now c.settle_all.new.rest
    (e ∙ ap (λ slots. with_postings (sums_in c.args.rest.now) (flat_map slot_postings slots)) c.deref.ensures.value))
