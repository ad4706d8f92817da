use Rattle.std.proofs.Common.{sym}
use Rattle.live_index.proofs.AlikeLaws.{none_least, some_least}
use Rattle.live_index.proofs.kept.LiveIndex.at_or_after.Goals as goal

pub returns-in-Some-clause-value : goal.returns-in-Some-clause-value
returns-in-Some-clause-value g c =
    some_least _ c.args.self.now.orders c.args.address c.args.tree c.in-Some.place c.get.result c.args.self.now.alike c.in-Some.ensures (sym c.get.ensures.value)

pub returns-in-None-clause-value : goal.returns-in-None-clause-value
returns-in-None-clause-value g c = none_least _ c.args.self.now.orders c.args.address c.args.tree c.args.self.now.alike c.in-None.ensures
