use Rattle.inode_tally.specs.Held.{inodes_apart}
use Rattle.name_tally.specs.Slots.{led_in}
use Rattle.name_tally.proofs.Sums.{adds_zero, leads_none}
use Rattle.name_tally.proofs.tally.tell.Goals as goal

pub returns-then-led-eq0 : goal.returns-then-led-eq0
returns-then-led-eq0 c =
    let led = c.args.led in
    adds_zero (inodes_apart c.args.inodes.now) c.args.into.now (led_in led) (leads_none led.tree led.ino led.sort led.count c.if-led-eq0.true)
