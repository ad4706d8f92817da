use Rattle.std.proofs.Common.{refl}
use Rattle.inode_tally.proofs.Amounts.{type_total}
use Rattle.inode_tally.proofs.tally.Own.typed.Goals as goal

pub returns : goal.returns
returns c = type_total c.args.tree c.args.ino c.args.sort _ refl
