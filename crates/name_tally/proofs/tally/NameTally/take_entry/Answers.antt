use Rattle.std.proofs.Common.{[]}
use Rattle.fs_items.specs.Lent.{entry_fields}
use Rattle.inode_tally.specs.Held.{inodes_apart}
use Rattle.name_tally.specs.Names.{names_apart}
use Rattle.name_tally.specs.Slots.{led_in}
use Rattle.name_tally.specs.Names.{entry_row}
use Rattle.name_tally.proofs.Claims.{keeps_nothing}
use Rattle.name_tally.proofs.Sums.{adds_passed, adds_told, but_nothing, but_same}
use Rattle.verdict.proofs.Answers.{on_ok}
use Rattle.name_tally.proofs.tally.NameTally.take_entry.Goals as goal

pub returns-then-entry-ne-INODE_ITEM : goal.returns-then-entry-ne-INODE_ITEM
returns-then-entry-ne-INODE_ITEM c =
    let old = names_apart c.args.self.now in
    on_ok c.pass_entry.result c.pass_entry.ensures
    (adds_passed old old (inodes_apart c.args.inodes.now) (inodes_apart c.pass_entry.new.inodes) c.args.into.now c.pass_entry.new.into
    (entry_row c.args.tree c.args.key (entry_fields c.args.entry.now)) (but_nothing old old (keeps_nothing old)))

pub returns-in-Some : goal.returns-in-Some
returns-in-Some c =
    let old = names_apart c.args.self.now in
    let new = names_apart c.keep_entry.new.self in
    let row = entry_row c.args.tree c.args.key (entry_fields c.args.entry.now) in
    let led = led_in c.in-Some.led in
    on_ok c.tell.result c.tell.ensures
    (adds_told old new (inodes_apart c.args.inodes.now) (inodes_apart c.tell.new.inodes) c.args.into.now c.tell.new.into led row
    (but_same old (names_apart c.spot.new.self) new led row c.in_ok-spot.ensures c.in-Some.ensures))

pub returns-in-None : goal.returns-in-None
returns-in-None c =
    let old = names_apart c.args.self.now in
    let new = names_apart c.keep_entry.new.self in
    let inodes = inodes_apart c.args.inodes.now in
    let row = entry_row c.args.tree c.args.key (entry_fields c.args.entry.now) in
    on_ok c.pass_entry-in-None.result c.pass_entry-in-None.ensures
    (adds_passed old new inodes (inodes_apart c.pass_entry-in-None.new.inodes) c.args.into.now c.pass_entry-in-None.new.into row
    (but_same old (names_apart c.spot.new.self) new [] [] c.in_ok-spot.ensures c.in-None.ensures))
