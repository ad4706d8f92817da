use Rattle.std.proofs.Common.{◌∙◌, ap, sym}
use Rattle.account_tally.specs.Kept.{free_in}
use Rattle.account_tally.specs.Sums.{or_free}
use Rattle.account_tally.proofs.Inodes.{noted}
use Rattle.account_tally.proofs.shown.SumFree.take.Goals as goal

pub returns : goal.returns
returns c =
    noted c.args.self.now.inodes.keys c.insert.new.self.keys c.in-Some.inode (λ q. c.in_ok-insert.ensures.updates.0 q)
    ∙ ap (or_free (free_in c.args.self.now)) (sym c.in-Some.is ∙ c.sum_free.ensures)
