use Rattle.std.proofs.Common.{◌+◌, ◌<◌, ◌^◌, ◌∙◌, ap, sym, subst}
use Rattle.std.specs.Option.{IfSome}
use Rattle.verdict.specs.Chunks.{home}
use Rattle.chunk_map.proofs.Ordered.{in_order-ascends}
use Rattle.chunk_map.proofs.Homes.{home_by_start, home_fits}
use Rattle.chunk_map.proofs.map.ChunkMap.home.Goals as goal

pub home_apart-requires-clause-order : goal.home_apart-requires-clause-order
home_apart-requires-clause-order c = in_order-ascends c.self.inside.chunks.items c.self.inside.sorted.items c.deref.result.now c.self.inside.copies.entries c.self.inside.apart c.self.inside.clear c.self.inside.front c.self.invariant c.deref.ensures.value

pub returns-then-len-gt0-clause-home : goal.returns-then-len-gt0-clause-home
returns-then-len-gt0-clause-home c =
    home_by_start c.self.inside.chunks.items c.deref.result.now c.args.addr c.args.len c.home_apart.result (c.deref.ensures.value ∙ c.self.invariant.order) c.home_apart.ensures.only
    ∙ ap (λ cs. home cs c.args.addr c.args.len) c.self.view_is

pub returns-then-len-gt0-clause-fits : goal.returns-then-len-gt0-clause-fits
returns-then-len-gt0-clause-fits c =
    subst (λ found. IfSome found (λ _. c.args.addr + c.args.len < 2 ^ 64))
    (sym (home_by_start c.self.inside.chunks.items c.deref.result.now c.args.addr c.args.len c.home_apart.result (c.deref.ensures.value ∙ c.self.invariant.order) c.home_apart.ensures.only))
    (home_fits c.self.inside.chunks.items c.args.addr c.args.len c.self.invariant.fit)
