use Rattle.name_tally.proofs.Sums.{led_taken, none_taken}
use Rattle.name_tally.proofs.slot.NameSlot.take_led.Goals as goal

pub returns-then-agrees : goal.returns-then-agrees
returns-then-agrees c =
    led_taken c.args.self.now

pub returns-else-agrees : goal.returns-else-agrees
returns-else-agrees c =
    none_taken c.args.self.now
