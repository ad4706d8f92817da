use Rattle.std.proofs.Common.{◌∙◌, ◌++◌, ap}
use Rattle.accounts.specs.Tally.{sums_in, with_postings}
use Rattle.name_tally.specs.Names.{slot_postings}
use Rattle.name_tally.proofs.Sums.{free_slot, posts_nothing}
use Rattle.verdict.proofs.Answers.{on_ok}
use Rattle.name_tally.proofs.tally.settle_slot.Goals as goal

pub returns-then-is_free : goal.returns-then-is_free
returns-then-is_free c =
    posts_nothing c.args.rest.now (slot_postings c.args.slot.now) (free_slot c.args.slot.now (c.is_free.ensures c.if-is_free.true))

pub returns : goal.returns
returns c =
    on_ok c.add_all.result c.add_all.ensures.sums (λ e. e
    ∙ ap (with_postings (sums_in c.args.rest.now)) (c.in_ok-post_slot.ensures
    ∙ ap (λ front. front ++ slot_postings c.args.slot.now) c.new-postings.ensures))
