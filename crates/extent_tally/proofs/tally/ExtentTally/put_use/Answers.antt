use Rattle.accounts.specs.Lent.{use_pair}
use Rattle.extent_tally.specs.Held.{extents_apart}
use Rattle.extent_tally.proofs.Lists.{adds_more, adds_posted}
use Rattle.extent_tally.proofs.tally.ExtentTally.put_use.Goals as goal

pub returns-then-show : goal.returns-then-show
returns-then-show c =
    adds_more (extents_apart c.args.self.now) (extents_apart c.show.new.self) c.args.into.now
    (use_pair c.args.address c.args.user.now c.args.kind c.args.form) (c.show.ensures.yes c.if-show.true)

pub returns : goal.returns
returns c =
    adds_posted (extents_apart c.args.self.now) (extents_apart c.show.new.self) c.args.into.now c.put_use.new.self c.put_use.result _
    (c.show.ensures.no c.if-show.false) c.put_use.ensures
