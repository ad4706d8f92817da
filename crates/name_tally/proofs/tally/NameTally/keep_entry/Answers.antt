use Rattle.std.proofs.Common.{[]}
use Rattle.fs_items.specs.Lent.{entry_fields}
use Rattle.name_tally.specs.Slots.{led_in, slot_sums}
use Rattle.name_tally.specs.Names.{entry_row}
use Rattle.name_tally.proofs.Sums.{but_nothing, but_then, slots_at}
use Rattle.name_tally.proofs.tally.NameTally.keep_entry.Goals as goal

pub returns-then-not-add_entry : goal.returns-then-not-add_entry
returns-then-not-add_entry c =
    let slot = c.in-Some-get_mut.slot.now in
    slots_at c.args.self.now.slots.items c.in-Some.spot.place slot c.add_entry.new.self [] []
    c.in-Some-get_mut.ensures.item.3.0 c.in-Some-get_mut.ensures.item.1
    (but_nothing (slot_sums slot) (slot_sums c.add_entry.new.self) c.if-not-add_entry.ensures)

pub returns : goal.returns
returns c =
    let slot = c.in-Some-get_mut.slot.now in
    let row = entry_row c.args.tree c.args.key (entry_fields c.args.entry.now) in
    slots_at c.args.self.now.slots.items c.in-Some.spot.place slot c.take_led-led.new.self (led_in c.take_led-led.result) row
    c.in-Some-get_mut.ensures.item.3.0 c.in-Some-get_mut.ensures.item.1
    (but_then (slot_sums slot) (slot_sums c.add_entry.new.self) (slot_sums c.take_led-led.new.self) (led_in c.take_led-led.result) row
    c.if-not-add_entry.ensures c.take_led-led.ensures)
