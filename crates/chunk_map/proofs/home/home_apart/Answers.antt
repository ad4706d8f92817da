use Rattle.std.proofs.Common.{arith, sym, ◌∙◌}
use Rattle.chunk_map.proofs.Homes.{home_nowhere, home_not_last, home_last}
use Rattle.chunk_map.proofs.home.home_apart.Goals as goal

pub returns-then-rank-eq0-clause-only : goal.returns-then-rank-eq0-clause-only
returns-then-rank-eq0-clause-only c = home_nowhere c.args.sorted.now c.args.addr c.args.len c.rank_of-rank.result c.requires.order c.requires.apart c.requires.some c.rank_of-rank.ensures.rank c.if-rank-eq0.true

pub returns-then-holds-clause-only : goal.returns-then-holds-clause-only
returns-then-holds-clause-only c = home_last c.args.sorted.now c.args.addr c.args.len c.rank_of-rank.result _ c.requires.order c.requires.apart c.requires.some c.rank_of-rank.ensures.rank (omega arith) (sym c.holds.ensures.held ∙ c.if-holds.true)

pub returns-else-holds-clause-only : goal.returns-else-holds-clause-only
returns-else-holds-clause-only c = home_not_last c.args.sorted.now c.args.addr c.args.len c.rank_of-rank.result _ c.requires.order c.requires.apart c.requires.some c.rank_of-rank.ensures.rank (sym c.holds.ensures.held ∙ c.if-holds.false)
