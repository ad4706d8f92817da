use Rattle.std.proofs.Common.{rules}
use Rattle.inode_tally.proofs.Aside.{exchanged}
use Rattle.inode_tally.proofs.tally.exchange.Goals as goal

pub returns : goal.returns
returns c = exchanged c.args.owns.now.items c.place-at.result c.args.own c.index-last.result.now (search rules) c.index-last.ensures
