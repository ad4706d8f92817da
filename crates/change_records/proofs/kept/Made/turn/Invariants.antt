use Rattle.std.proofs.Common.{drop}
use Rattle.change_records.proofs.TurnLaws.{IsTurning}
use Rattle.change_records.proofs.kept.Made.turn.Given as goal

abbrev pub invariant-loop-inode : goal.invariant-loop-inode
invariant-loop-inode l = IsTurning l.self l.initial.set l.set (drop l.inode-index l.self.inodes.items)
