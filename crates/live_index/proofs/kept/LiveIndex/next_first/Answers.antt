use Rattle.live_index.proofs.AlikeLaws.{next_found}
use Rattle.live_index.proofs.kept.LiveIndex.next_first.Goals as goal

pub returns-clause-value : goal.returns-clause-value
returns-clause-value g c = next_found _ c.args.self.now.orders c.args.tree c.args.level c.args.first c.next_key.result c.args.self.now.alike c.next_key.ensures
