use Rattle.std.proofs.Common.{rules}
use Rattle.inode_tally.proofs.Aside.{added_at}
use Rattle.inode_tally.proofs.tally.raise_type.Goals as goal

pub returns-clause-raised : goal.returns-clause-raised
returns-clause-raised c = λ yes.
    added_at c.args.owns.now.items c.place-at.result c.index_mut.result.now c.raise_type.new.self _ (search rules) c.index_mut.ensures.value (c.raise_type.ensures.raised yes)
