use Rattle.std.proofs.Common.{◌∙◌, ap}
use Rattle.accounts.specs.Sums.{total_of}
use Rattle.inode_tally.specs.declared.class.Gathered.{Gathered}
use Rattle.inode_tally.specs.Held.{gathered_postings}
use Rattle.inode_tally.proofs.Amounts.{none_gathered}
use Rattle.inode_tally.proofs.tally.Own.none.Goals as goal

pub returns-clause-sums : goal.returns-clause-sums
returns-clause-sums c = λ a n.
    ap (λ (s : Gathered). total_of (gathered_postings c.args.tree c.args.ino s) a n) c.none.ensures ∙ none_gathered c.args.tree c.args.ino a n
