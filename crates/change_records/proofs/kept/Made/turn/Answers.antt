use Rattle.std.proofs.Common.{◌≡◌, ◌+◌, List, [], drop, subst}
use Rattle.std.proofs.Math.ListN.{drop_of_length-le}
use Rattle.change_records.specs.declared.kept.Inode.{Inode}
use Rattle.change_records.proofs.TurnLaws.{IsTurning, turning_all, turning_more, turning_none}
use Rattle.change_records.proofs.kept.Made.turn.Goals as goal

pub loop-inode-init : goal.loop-inode-init
loop-inode-init c = turning_none c.args.self.now c.args.set.now c.args.self.now.listed

pub loop-inode-preserved : goal.loop-inode-preserved
loop-inode-preserved c =
    let made = c.args.self.now in
    let i = c.loop-inode.inode-index in
    subst
    (λ (all : List Inode). IsTurning made c.args.set.now c.loop-inode.set (drop i all) → IsTurning made c.args.set.now c.keep.new.set (drop (i + 1) all))
    c.deref-inode-items.ensures.value
    (turning_more made c.args.set.now c.loop-inode.set c.keep.new.set c.deref-inode-items.result.now i (record { tree = 0; ino = 0 })
    c.contains.result c.flag-free.result c.loop-inode-test.true c.contains.ensures c.flag-free.ensures c.in_ok-keep.ensures)
    c.loop-inode.invariant

pub returns : goal.returns
returns c tree ino =
    let made = c.args.self.now in
    let left : drop c.loop-inode.inode-index made.inodes.items ≡ [] =
    subst (λ (all : List Inode). drop c.loop-inode.inode-index all ≡ []) c.deref-inode-items.ensures.value
    (drop_of_length-le c.deref-inode-items.result.now c.loop-inode-test.false) in
    turning_all made c.args.set.now c.loop-inode.set (subst (λ (l : List Inode). IsTurning made c.args.set.now c.loop-inode.set l) left c.loop-inode.invariant)
    (record { tree = tree; ino = ino })
