use Rattle.std.proofs.Common.{◌++◌, ◌∙◌, ap}
use Rattle.accounts.specs.Tally.{sums_in, with_postings}
use Rattle.inode_tally.specs.Held.{gathered_postings}
use Rattle.verdict.proofs.Answers.{on_ok}
use Rattle.inode_tally.proofs.tally.move_to.Goals as goal

pub returns : goal.returns
returns c =
    let list = gathered_postings c.args.tree c.args.ino c.args.more.now in
    on_ok c.add_all.result c.add_all.ensures.sums (λ e.
    e ∙ ap (with_postings (sums_in c.args.rest.now)) (c.in_ok-post.ensures ∙ ap (λ l. l ++ list) c.new-postings.ensures))
