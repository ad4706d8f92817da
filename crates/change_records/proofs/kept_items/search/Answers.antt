use Rattle.std.proofs.Common.{◌∙◌, ◌+◌, ◌≤◌, false, true, arith, length, subst, sym}
use Rattle.live_index.specs.Table.{pairs_of}
use Rattle.span_index.specs.Table.{times_of}
use Rattle.change_records.specs.Homes.{StandApart}
use Rattle.change_records.specs.Passes.{chunks_looks, inodes_looks, is_searched}
use Rattle.change_records.specs.Search.{MeetsChanged, Searched, ShowsChanged, known, new_flags}
use Rattle.change_records.proofs.FoundLaws.{found}
use Rattle.change_records.proofs.kept_items.search.Goals as goal

pub returns-clause-found : goal.returns-clause-found
returns-clause-found g c empty lawful alone =
    found (g.B.Bases.chunks c.args.sides.now.bases.now) c.args.sides.now.fresh.now (g.B.Bases.superblock c.args.sides.now.bases.now).nodesize
    (g.B.Bases.is_sum_free c.args.sides.now.bases.now) (pairs_of (g.B.Bases.table c.args.sides.now.bases.now)) c.args.sides.now.made.now (times_of c.args.spans.now)
    c.stand_apart-apart.result c.args.refs.now c.take_chunks.new.refs c.take_chunks-2.new.refs c.take_inodes.new.refs empty lawful
    (λ yes. subst StandApart c.chunks.ensures (c.stand_apart-apart.ensures.0 yes))
    (subst (λ l. Searched (known (g.B.Bases.chunks c.args.sides.now.bases.now) (g.B.Bases.superblock c.args.sides.now.bases.now).nodesize (g.B.Bases.is_sum_free c.args.sides.now.bases.now) (pairs_of (g.B.Bases.table c.args.sides.now.bases.now)) c.args.sides.now.fresh.now c.args.sides.now.made.now)
    (times_of c.args.spans.now) (MeetsChanged l (is_searched c.args.sides.now.fresh.now c.stand_apart-apart.result false) (length l)) c.args.refs.now c.take_chunks.new.refs)
    (c.chunks-2.ensures ∙ c.map.ensures) (c.in_ok-take_chunks.ensures.searched lawful))
    (subst (λ o. Searched (known (g.B.Bases.chunks c.args.sides.now.bases.now) (g.B.Bases.superblock c.args.sides.now.bases.now).nodesize (g.B.Bases.is_sum_free c.args.sides.now.bases.now) (pairs_of (g.B.Bases.table c.args.sides.now.bases.now)) c.args.sides.now.fresh.now c.args.sides.now.made.now)
    (times_of c.args.spans.now) (MeetsChanged c.args.sides.now.fresh.now (is_searched o c.stand_apart-apart.result true) (length c.args.sides.now.fresh.now)) c.take_chunks.new.refs c.take_chunks-2.new.refs)
    c.map-2.ensures
    (subst (λ l. Searched (known (g.B.Bases.chunks c.args.sides.now.bases.now) (g.B.Bases.superblock c.args.sides.now.bases.now).nodesize (g.B.Bases.is_sum_free c.args.sides.now.bases.now) (pairs_of (g.B.Bases.table c.args.sides.now.bases.now)) c.args.sides.now.fresh.now c.args.sides.now.made.now)
    (times_of c.args.spans.now) (MeetsChanged l (is_searched c.map-2.result.now c.stand_apart-apart.result true) (length l)) c.take_chunks.new.refs c.take_chunks-2.new.refs)
    c.chunks-3.ensures (c.in_ok-take_chunks-2.ensures.searched lawful)))
    (subst (λ l. Searched (known (g.B.Bases.chunks c.args.sides.now.bases.now) (g.B.Bases.superblock c.args.sides.now.bases.now).nodesize (g.B.Bases.is_sum_free c.args.sides.now.bases.now) (pairs_of (g.B.Bases.table c.args.sides.now.bases.now)) c.args.sides.now.fresh.now c.args.sides.now.made.now)
    (times_of c.args.spans.now) (ShowsChanged l (g.B.Bases.is_sum_free c.args.sides.now.bases.now) (new_flags c.args.sides.now.made.now (g.B.Bases.is_sum_free c.args.sides.now.bases.now)) (length l)) c.take_chunks-2.new.refs c.take_inodes.new.refs)
    c.deref.ensures.value (c.in_ok-take_inodes.ensures.searched lawful alone))

pub returns-in_err-take_chunks-clause-looks : goal.returns-in_err-take_chunks-clause-looks
returns-in_err-take_chunks-clause-looks g c all are stops cover apart =
    let first = subst (λ l. c.take_chunks.new.steps ≤ c.args.steps.now + chunks_looks (is_searched c.args.sides.now.fresh.now true false) stops l) (c.chunks-2.ensures ∙ c.map.ensures)
    (subst (λ b. c.take_chunks.new.steps ≤ c.args.steps.now + chunks_looks (is_searched c.args.sides.now.fresh.now b false) stops c.chunks-2.result.now) (c.stand_apart-apart.ensures.1 (subst StandApart (sym c.chunks.ensures) apart)) (c.take_chunks.ensures.looks stops cover)) in
    omega (arith, first)

pub returns-in_err-take_chunks-2-clause-looks : goal.returns-in_err-take_chunks-2-clause-looks
returns-in_err-take_chunks-2-clause-looks g c all are stops cover apart =
    let first = subst (λ l. c.take_chunks.new.steps ≤ c.args.steps.now + chunks_looks (is_searched c.args.sides.now.fresh.now true false) stops l) (c.chunks-2.ensures ∙ c.map.ensures)
    (subst (λ b. c.take_chunks.new.steps ≤ c.args.steps.now + chunks_looks (is_searched c.args.sides.now.fresh.now b false) stops c.chunks-2.result.now) (c.stand_apart-apart.ensures.1 (subst StandApart (sym c.chunks.ensures) apart)) (c.take_chunks.ensures.looks stops cover)) in
    let second = subst (λ l. c.take_chunks-2.new.steps ≤ c.take_chunks.new.steps + chunks_looks (is_searched l true true) stops c.args.sides.now.fresh.now) c.map-2.ensures
    (subst (λ l. c.take_chunks-2.new.steps ≤ c.take_chunks.new.steps + chunks_looks (is_searched c.map-2.result.now true true) stops l) c.chunks-3.ensures
    (subst (λ b. c.take_chunks-2.new.steps ≤ c.take_chunks.new.steps + chunks_looks (is_searched c.map-2.result.now b true) stops c.chunks-3.result.now) (c.stand_apart-apart.ensures.1 (subst StandApart (sym c.chunks.ensures) apart)) (c.take_chunks-2.ensures.looks stops cover))) in
    omega (arith, first, second)

pub returns-in_err-take_inodes-clause-looks : goal.returns-in_err-take_inodes-clause-looks
returns-in_err-take_inodes-clause-looks g c all are stops cover apart =
    let first = subst (λ l. c.take_chunks.new.steps ≤ c.args.steps.now + chunks_looks (is_searched c.args.sides.now.fresh.now true false) stops l) (c.chunks-2.ensures ∙ c.map.ensures)
    (subst (λ b. c.take_chunks.new.steps ≤ c.args.steps.now + chunks_looks (is_searched c.args.sides.now.fresh.now b false) stops c.chunks-2.result.now) (c.stand_apart-apart.ensures.1 (subst StandApart (sym c.chunks.ensures) apart)) (c.take_chunks.ensures.looks stops cover)) in
    let second = subst (λ l. c.take_chunks-2.new.steps ≤ c.take_chunks.new.steps + chunks_looks (is_searched l true true) stops c.args.sides.now.fresh.now) c.map-2.ensures
    (subst (λ l. c.take_chunks-2.new.steps ≤ c.take_chunks.new.steps + chunks_looks (is_searched c.map-2.result.now true true) stops l) c.chunks-3.ensures
    (subst (λ b. c.take_chunks-2.new.steps ≤ c.take_chunks.new.steps + chunks_looks (is_searched c.map-2.result.now b true) stops c.chunks-3.result.now) (c.stand_apart-apart.ensures.1 (subst StandApart (sym c.chunks.ensures) apart)) (c.take_chunks-2.ensures.looks stops cover))) in
    let third = subst (λ l. c.take_inodes.new.steps ≤ c.take_chunks-2.new.steps + inodes_looks (g.B.Bases.is_sum_free c.args.sides.now.bases.now) (new_flags c.args.sides.now.made.now (g.B.Bases.is_sum_free c.args.sides.now.bases.now)) all l) c.deref.ensures.value (c.take_inodes.ensures.looks all are) in
    omega (arith, first, second, third)

pub returns-clause-looks : goal.returns-clause-looks
returns-clause-looks g c all are stops cover apart =
    let first = subst (λ l. c.take_chunks.new.steps ≤ c.args.steps.now + chunks_looks (is_searched c.args.sides.now.fresh.now true false) stops l) (c.chunks-2.ensures ∙ c.map.ensures)
    (subst (λ b. c.take_chunks.new.steps ≤ c.args.steps.now + chunks_looks (is_searched c.args.sides.now.fresh.now b false) stops c.chunks-2.result.now) (c.stand_apart-apart.ensures.1 (subst StandApart (sym c.chunks.ensures) apart)) (c.take_chunks.ensures.looks stops cover)) in
    let second = subst (λ l. c.take_chunks-2.new.steps ≤ c.take_chunks.new.steps + chunks_looks (is_searched l true true) stops c.args.sides.now.fresh.now) c.map-2.ensures
    (subst (λ l. c.take_chunks-2.new.steps ≤ c.take_chunks.new.steps + chunks_looks (is_searched c.map-2.result.now true true) stops l) c.chunks-3.ensures
    (subst (λ b. c.take_chunks-2.new.steps ≤ c.take_chunks.new.steps + chunks_looks (is_searched c.map-2.result.now b true) stops c.chunks-3.result.now) (c.stand_apart-apart.ensures.1 (subst StandApart (sym c.chunks.ensures) apart)) (c.take_chunks-2.ensures.looks stops cover))) in
    let third = subst (λ l. c.take_inodes.new.steps ≤ c.take_chunks-2.new.steps + inodes_looks (g.B.Bases.is_sum_free c.args.sides.now.bases.now) (new_flags c.args.sides.now.made.now (g.B.Bases.is_sum_free c.args.sides.now.bases.now)) all l) c.deref.ensures.value (c.take_inodes.ensures.looks all are) in
    omega (arith, first, second, third)
