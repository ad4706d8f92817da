use Rattle.std.proofs.Common.{ap, sym, ◌∙◌}
use Rattle.account_tally.specs.Sums.{or_free}
use Rattle.commit_judge.specs.Flags.{free_in}
use Rattle.commit_judge.proofs.starts.Filling.{inode_put}
use Rattle.commit_judge.proofs.filling.put_inode.Goals as goal

pub returns : goal.returns
returns c =
    inode_put c.args.free.now c.insert.new.self c.in-Some.tree c.in-Some.ino c.in_ok-insert.ensures.updates
    ∙ ap (or_free (free_in c.args.free.now)) (sym c.in-Some.is ∙ c.sum_free.ensures)
