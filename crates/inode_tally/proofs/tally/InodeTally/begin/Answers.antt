use Rattle.std.proofs.Common.{◌+◌, ◌∙◌, ap}
use Rattle.inode_tally.specs.Held.{own_sums}
use Rattle.inode_tally.proofs.Aside.{adds_exchanged}
use Rattle.verdict.proofs.Answers.{on_ok}
use Rattle.inode_tally.proofs.tally.InodeTally.begin.Goals as goal

pub returns : goal.returns
returns c =
    on_ok c.give.result c.give.ensures (λ e.
    adds_exchanged _ _ _ _ _ _ _ _ e (λ a n. c.exchange-last.ensures a n ∙ ap (λ k. k + own_sums c.args.own a n) (c.in_ok-make.ensures a n)))
