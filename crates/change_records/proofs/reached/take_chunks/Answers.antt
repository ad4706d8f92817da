use Rattle.std.proofs.Common.{◌+◌, ◌∙◌, ◌≤◌, sym, subst, take}
use Rattle.live_index.specs.Table.{pairs_of}
use Rattle.span_index.specs.Table.{times_of}
use Rattle.change_records.specs.Passes.{chunks_looks, is_searched}
use Rattle.change_records.specs.Search.{MeetsChanged, MeetsChunk, Searched, known}
use Rattle.change_records.proofs.LookLaws.{chunks_all, chunks_end, chunks_more, chunks_skip}
use Rattle.change_records.proofs.SearchLaws.{chunk_kept_more, chunk_parts_more, searched_both, searched_less}
use Rattle.change_records.proofs.reached.take_chunks.Goals as goal
use Rattle.change_records.proofs.reached.take_chunks.Goals.{then-is_searched+in_ok-take_chunk, else-is_searched}

pub loop-chunk-preserved : goal.loop-chunk-preserved
loop-chunk-preserved g c = record {
  searched = λ lawful. elim c.if-is_searched.branch [
    | then-is_searched+in_ok-take_chunk w ↦
        subst (Searched (known (g.B.Bases.chunks c.args.sides.now.bases.now) (g.B.Bases.superblock c.args.sides.now.bases.now).nodesize (g.B.Bases.is_sum_free c.args.sides.now.bases.now)
        (pairs_of (g.B.Bases.table c.args.sides.now.bases.now)) c.args.sides.now.fresh.now c.args.sides.now.made.now)
        (times_of c.args.spans.now) (MeetsChanged c.args.chunks.now.list.now (is_searched c.args.chunks.now.others.now c.args.chunks.now.apart c.args.chunks.now.is_new) (c.loop-chunk.chunk-index + 1)) c.args.refs.now) (sym w.refs-is)
        (searched_both (known (g.B.Bases.chunks c.args.sides.now.bases.now) (g.B.Bases.superblock c.args.sides.now.bases.now).nodesize (g.B.Bases.is_sum_free c.args.sides.now.bases.now)
        (pairs_of (g.B.Bases.table c.args.sides.now.bases.now)) c.args.sides.now.fresh.now c.args.sides.now.made.now)
        (times_of c.args.spans.now) (MeetsChanged c.args.chunks.now.list.now (is_searched c.args.chunks.now.others.now c.args.chunks.now.apart c.args.chunks.now.is_new) c.loop-chunk.chunk-index) (MeetsChunk _)
        (MeetsChanged c.args.chunks.now.list.now (is_searched c.args.chunks.now.others.now c.args.chunks.now.apart c.args.chunks.now.is_new) (c.loop-chunk.chunk-index + 1)) c.args.refs.now c.loop-chunk.refs w.take_chunk.new.refs
        (λ span. chunk_parts_more c.args.chunks.now.list.now (is_searched c.args.chunks.now.others.now c.args.chunks.now.apart c.args.chunks.now.is_new) c.loop-chunk.chunk-index _ span c.loop-chunk-test.true)
        (c.loop-chunk.invariant.searched lawful) (w.in_ok-take_chunk.ensures.searched lawful))
    | else-is_searched w ↦
        subst (Searched (known (g.B.Bases.chunks c.args.sides.now.bases.now) (g.B.Bases.superblock c.args.sides.now.bases.now).nodesize (g.B.Bases.is_sum_free c.args.sides.now.bases.now)
        (pairs_of (g.B.Bases.table c.args.sides.now.bases.now)) c.args.sides.now.fresh.now c.args.sides.now.made.now)
        (times_of c.args.spans.now) (MeetsChanged c.args.chunks.now.list.now (is_searched c.args.chunks.now.others.now c.args.chunks.now.apart c.args.chunks.now.is_new) (c.loop-chunk.chunk-index + 1)) c.args.refs.now) (sym w.refs-is)
        (searched_less (known (g.B.Bases.chunks c.args.sides.now.bases.now) (g.B.Bases.superblock c.args.sides.now.bases.now).nodesize (g.B.Bases.is_sum_free c.args.sides.now.bases.now)
        (pairs_of (g.B.Bases.table c.args.sides.now.bases.now)) c.args.sides.now.fresh.now c.args.sides.now.made.now)
        (times_of c.args.spans.now) (MeetsChanged c.args.chunks.now.list.now (is_searched c.args.chunks.now.others.now c.args.chunks.now.apart c.args.chunks.now.is_new) c.loop-chunk.chunk-index)
        (MeetsChanged c.args.chunks.now.list.now (is_searched c.args.chunks.now.others.now c.args.chunks.now.apart c.args.chunks.now.is_new) (c.loop-chunk.chunk-index + 1)) c.args.refs.now c.loop-chunk.refs
        (λ span. chunk_kept_more c.args.chunks.now.list.now (is_searched c.args.chunks.now.others.now c.args.chunks.now.apart c.args.chunks.now.is_new) c.loop-chunk.chunk-index _ span c.loop-chunk-test.true (sym c.is_searched.ensures ∙ w.if-is_searched.false))
        (c.loop-chunk.invariant.searched lawful))
  ];
  looks = λ stops are. elim c.if-is_searched.branch [
    | then-is_searched+in_ok-take_chunk w ↦
        subst (λ n. n ≤ c.args.steps.now + chunks_looks (is_searched c.args.chunks.now.others.now c.args.chunks.now.apart c.args.chunks.now.is_new) stops (take (c.loop-chunk.chunk-index + 1) c.args.chunks.now.list.now)) (sym w.steps-is)
        (chunks_more (is_searched c.args.chunks.now.others.now c.args.chunks.now.apart c.args.chunks.now.is_new) stops c.args.chunks.now.list.now c.loop-chunk.chunk-index c.args.steps.now c.loop-chunk.steps (c.loop-chunk.invariant.looks stops are) _ c.loop-chunk-test.true
        (sym c.is_searched.ensures ∙ w.if-is_searched.true) w.take_chunk.new.steps (w.in_ok-take_chunk.ensures.looks stops are))
    | else-is_searched w ↦
        subst (λ n. n ≤ c.args.steps.now + chunks_looks (is_searched c.args.chunks.now.others.now c.args.chunks.now.apart c.args.chunks.now.is_new) stops (take (c.loop-chunk.chunk-index + 1) c.args.chunks.now.list.now)) (sym w.steps-is)
        (chunks_skip (is_searched c.args.chunks.now.others.now c.args.chunks.now.apart c.args.chunks.now.is_new) stops c.args.chunks.now.list.now c.loop-chunk.chunk-index c.args.steps.now c.loop-chunk.steps (c.loop-chunk.invariant.looks stops are) _ c.loop-chunk-test.true
        (sym c.is_searched.ensures ∙ w.if-is_searched.false))
  ];
}

pub returns-in_err-take_chunk-clause-looks : goal.returns-in_err-take_chunk-clause-looks
returns-in_err-take_chunk-clause-looks g c stops are =
    chunks_end (is_searched c.args.chunks.now.others.now c.args.chunks.now.apart c.args.chunks.now.is_new) stops c.args.chunks.now.list.now c.loop-chunk.chunk-index c.args.steps.now c.loop-chunk.steps (c.loop-chunk.invariant.looks stops are) _ c.loop-chunk-test.true
    (sym c.is_searched.ensures ∙ c.if-is_searched.true) c.take_chunk.new.steps (c.take_chunk.ensures.looks stops are)

pub returns-clause-looks : goal.returns-clause-looks
returns-clause-looks g c stops are =
    chunks_all (is_searched c.args.chunks.now.others.now c.args.chunks.now.apart c.args.chunks.now.is_new) stops c.args.chunks.now.list.now c.loop-chunk.chunk-index c.args.steps.now c.loop-chunk.steps (c.loop-chunk.invariant.looks stops are)
