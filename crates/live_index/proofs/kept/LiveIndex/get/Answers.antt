use Rattle.std.proofs.Common.{◌∙◌}
use Rattle.live_index.proofs.AlikeLaws.{own_found}
use Rattle.live_index.proofs.IndexLaws.{pairs_there}
use Rattle.live_index.proofs.kept.LiveIndex.get.Goals as goal

-- src/index.rt:74:5
pub returns-clause-value : goal.returns-clause-value
returns-clause-value g c = c.copied.ensures ∙ c.get.ensures.value ∙ pairs_there c.args.self.now.pairs c.place_of.result c.args.tree c.args.address c.place_of.ensures

pub returns-clause-own : goal.returns-clause-own
returns-clause-own g c = own_found _ c.args.self.now.orders c.args.tree c.args.address c.copied.result c.args.self.now.alike
    (c.copied.ensures ∙ c.get.ensures.value ∙ pairs_there c.args.self.now.pairs c.place_of.result c.args.tree c.args.address c.place_of.ensures)
