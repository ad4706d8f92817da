use Rattle.std.proofs.Common.{[]}
use Rattle.fs_items.specs.Lent.{name_fields}
use Rattle.records.specs.DirPostings.{link_postings}
use Rattle.name_tally.specs.Slots.{led_in, slot_sums}
use Rattle.name_tally.proofs.Sums.{but_nothing, but_then, slots_at}
use Rattle.name_tally.proofs.tally.NameTally.keep_link.Goals as goal

pub returns-then-not-add_link : goal.returns-then-not-add_link
returns-then-not-add_link c =
    let slot = c.in-Some-get_mut.slot.now in
    slots_at c.args.self.now.slots.items c.in-Some.spot.place slot c.add_link.new.self [] []
    c.in-Some-get_mut.ensures.item.3.0 c.in-Some-get_mut.ensures.item.1
    (but_nothing (slot_sums slot) (slot_sums c.add_link.new.self) c.if-not-add_link.ensures)

pub returns : goal.returns
returns c =
    let slot = c.in-Some-get_mut.slot.now in
    let row = link_postings c.args.tree c.args.ino (name_fields c.args.name.now) in
    slots_at c.args.self.now.slots.items c.in-Some.spot.place slot c.take_led-led.new.self (led_in c.take_led-led.result) row
    c.in-Some-get_mut.ensures.item.3.0 c.in-Some-get_mut.ensures.item.1
    (but_then (slot_sums slot) (slot_sums c.add_link.new.self) (slot_sums c.take_led-led.new.self) (led_in c.take_led-led.result) row
    c.if-not-add_link.ensures c.take_led-led.ensures)
