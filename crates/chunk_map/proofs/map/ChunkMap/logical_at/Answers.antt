use Rattle.std.proofs.Common.{◌∙◌, ap, arith}
use Rattle.std.specs.Prelude.{Some, None}
use Rattle.verdict.specs.Chunks.{logical_of}
use Rattle.chunk_map.proofs.Addresses.{address_found, address_fits}
use Rattle.chunk_map.proofs.map.ChunkMap.logical_at.Goals as goal

pub returns-in_err-copy : goal.returns-in_err-copy
returns-in_err-copy c =
    c.from_residual.ensures ∙ address_found c.self.inside.chunks.items c.self.inside.copies.entries c.args.physical None (c.self.invariant.there c.if-self.true) (c.self.invariant.sources c.if-self.true) c.in_err-copy.ensures.only
    ∙ ap (λ cs. logical_of cs c.args.physical) c.self.view_is

pub overflow_sub-result : goal.overflow_sub-result
overflow_sub-result c = (address_fits c.self.inside.chunks.items c.self.inside.copies.entries c.args.physical c.in_ok-copy.copy c.self.invariant.fit (c.self.invariant.sources c.if-self.true) c.in_ok-copy.ensures.only).0

pub overflow_add-result : goal.overflow_add-result
overflow_add-result c = omega (arith, (address_fits c.self.inside.chunks.items c.self.inside.copies.entries c.args.physical c.in_ok-copy.copy c.self.invariant.fit (c.self.invariant.sources c.if-self.true) c.in_ok-copy.ensures.only).1)

pub returns-in_ok-copy : goal.returns-in_ok-copy
returns-in_ok-copy c =
    address_found c.self.inside.chunks.items c.self.inside.copies.entries c.args.physical (Some c.in_ok-copy.copy) (c.self.invariant.there c.if-self.true) (c.self.invariant.sources c.if-self.true) c.in_ok-copy.ensures.only
    ∙ ap (λ cs. logical_of cs c.args.physical) c.self.view_is
