use Rattle.std.proofs.Common.{◌+◌, drop, get_or, refl}
use Rattle.accounts.specs.Tally.{sums_in}
use Rattle.name_tally.specs.Names.{slot_postings}
use Rattle.name_tally.proofs.Sums.{none, none_left, posted_all, posted_more, posted_start, slot_left}
use Rattle.name_tally.proofs.tally.settle_all.Goals as goal

pub loop-slot-init : goal.loop-slot-init
loop-slot-init c =
    posted_start slot_postings c.args.rest.now c.args.slots.now c.args.slots.now refl

pub loop-slot-preserved : goal.loop-slot-preserved
loop-slot-preserved c =
    posted_more slot_postings (sums_in c.args.rest.now) (sums_in c.loop-slot.rest) (sums_in c.settle_slot.new.rest)
    (drop c.loop-slot.slot-index c.args.slots.now) (drop (c.loop-slot.slot-index + 1) c.args.slots.now) c.args.slots.now
    (get_or c.args.slots.now c.loop-slot.slot-index none)
    c.loop-slot.invariant (slot_left c.args.slots.now c.loop-slot.slot-index c.loop-slot-test.true) c.in_ok-settle_slot.ensures

pub returns : goal.returns
returns c =
    posted_all slot_postings (sums_in c.args.rest.now) (sums_in c.loop-slot.rest)
    (drop c.loop-slot.slot-index c.args.slots.now) c.args.slots.now
    c.loop-slot.invariant (none_left c.args.slots.now c.loop-slot.slot-index c.loop-slot-test.false)
