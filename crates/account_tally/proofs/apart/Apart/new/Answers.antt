use Rattle.extent_tally.specs.Held.{extents_apart}
use Rattle.name_tally.specs.Names.{names_apart}
use Rattle.inode_tally.specs.Held.{inodes_apart}
use Rattle.account_tally.proofs.Parts.{three_none}
use Rattle.account_tally.proofs.apart.Apart.new.Goals as goal

pub returns-clause-sums : goal.returns-clause-sums
returns-clause-sums c =
    three_none (extents_apart c.new.result) (names_apart c.new-2.result) (inodes_apart c.new-3.result) c.new.ensures c.new-2.ensures c.new-3.ensures
