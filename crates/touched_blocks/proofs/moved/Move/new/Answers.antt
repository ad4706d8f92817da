use Rattle.std.proofs.Common.{sym, ◌∙◌}
use Rattle.std.proofs.lemmas.Slice.Eq.{slice_eq-Decides}
use Rattle.touched_blocks.proofs.Moving.{chunk_decides}
use Rattle.touched_blocks.proofs.moved.Move.new.Goals as goal

pub invariant_of-result : goal.invariant_of-result
invariant_of-result c = record {
  same = λ is. sym c.chunks.ensures ∙ (slice_eq-Decides chunk_decides c.chunks.result.now c.chunks-2.result.now c.eq.result c.eq.ensures).0 is ∙ c.chunks-2.ensures;
}

pub returns-clause-same : goal.returns-clause-same
returns-clause-same c =
    λ is. (slice_eq-Decides chunk_decides c.chunks.result.now c.chunks-2.result.now c.eq.result c.eq.ensures).1 (c.chunks.ensures ∙ is ∙ sym c.chunks-2.ensures)
