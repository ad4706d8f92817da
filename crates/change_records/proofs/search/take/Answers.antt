use Rattle.std.proofs.Common.{◌∙◌, ap, sym}
use Rattle.live_index.specs.Table.{pairs_of}
use Rattle.change_records.specs.Search.{known}
use Rattle.change_records.proofs.SearchLaws.{small_span, taken_by, taken_named, taken_none}
use Rattle.change_records.proofs.search.take.Goals as goal

pub returns-clause-takes : goal.returns-clause-takes
returns-clause-takes g c lawful =
    let differs = (c.differs.ensures lawful).0 c.if-not-differs.false in
    let bases = c.args.sides.now.bases.now in
    let k = known (g.B.Bases.chunks bases) (g.B.Bases.superblock bases).nodesize (g.B.Bases.is_sum_free bases) (pairs_of (g.B.Bases.table bases))
    c.args.sides.now.fresh.now c.args.sides.now.made.now in
    taken_by k
    (pairs_of c.live.result.now) c.args.span.now c.in-Some.name c.args.refs.now c.insert.new.self c.in_ok-insert.ensures.updates
    (ap pairs_of c.live.ensures) (c.in-Some.ensures.name (small_span _ c.args.span.now k.before k.after lawful differs)) (sym c.names.ensures ∙ c.if-names.false) differs

pub returns-in_default-clause-takes : goal.returns-in_default-clause-takes
returns-in_default-clause-takes g c lawful =
    let differs = (c.differs.ensures lawful).0 c.if-not-differs.false in
    let bases = c.args.sides.now.bases.now in
    let k = known (g.B.Bases.chunks bases) (g.B.Bases.superblock bases).nodesize (g.B.Bases.is_sum_free bases) (pairs_of (g.B.Bases.table bases))
    c.args.sides.now.fresh.now c.args.sides.now.made.now in
    taken_none k
    (pairs_of c.live.result.now) c.args.span.now c.args.refs.now (ap pairs_of c.live.ensures) (c.in_default.ensures.name (small_span _ c.args.span.now k.before k.after lawful differs))

pub returns-then-names-clause-takes : goal.returns-then-names-clause-takes
returns-then-names-clause-takes g c lawful =
    let differs = (c.differs.ensures lawful).0 c.if-not-differs.false in
    let bases = c.args.sides.now.bases.now in
    let k = known (g.B.Bases.chunks bases) (g.B.Bases.superblock bases).nodesize (g.B.Bases.is_sum_free bases) (pairs_of (g.B.Bases.table bases))
    c.args.sides.now.fresh.now c.args.sides.now.made.now in
    taken_named k
    (pairs_of c.live.result.now) c.args.span.now c.in-Some.name c.args.refs.now (ap pairs_of c.live.ensures)
    (c.in-Some.ensures.name (small_span _ c.args.span.now k.before k.after lawful differs)) (sym c.names.ensures ∙ c.if-names.true)
