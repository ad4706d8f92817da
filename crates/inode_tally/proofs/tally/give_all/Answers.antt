use Rattle.std.proofs.Common.{[]}
use Rattle.accounts.proofs.Apart.{adds_nothing, adds_then}
use Rattle.inode_tally.proofs.Aside.{adds_all, adds_exchanged, next_own}
use Rattle.inode_tally.proofs.tally.give_all.Goals as goal

pub loop-own-init : goal.loop-own-init
loop-own-init c = adds_nothing _ _

pub loop-own-preserved : goal.loop-own-preserved
loop-own-preserved c =
    adds_then _ _ _ _ _ _ [] [] c.loop-own.invariant (adds_exchanged _ _ _ _ _ _ _ _ c.in_ok-give.ensures (next_own c.args.owns.now c.loop-own.own-index _ c.loop-own-test.true))

pub returns : goal.returns
returns c = adds_all _ _ c.args.owns.now c.loop-own.own-index _ _ _ c.loop-own.invariant c.loop-own-test.false
