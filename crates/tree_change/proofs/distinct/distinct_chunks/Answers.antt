use Rattle.tree_change.proofs.DistinctChunks.{distinct_kept, homes_kept, kept_few}
use Rattle.tree_change.proofs.distinct.distinct_chunks.Goals as goal

pub returns-clause-apart : goal.returns-clause-apart
returns-clause-apart c =
    distinct_kept c.args.map.now c.chunks-chunk-items.result.now c.loop-chunk.some c.loop-chunk.chunk-index c.chunks-chunk-items.ensures
    c.loop-chunk-test.false c.loop-chunk.invariant

pub returns-clause-homes : goal.returns-clause-homes
returns-clause-homes c =
    homes_kept c.args.map.now c.chunks-chunk-items.result.now c.loop-chunk.some c.loop-chunk.chunk-index c.chunks-chunk-items.ensures
    c.loop-chunk-test.false c.loop-chunk.invariant

pub returns-clause-few : goal.returns-clause-few
returns-clause-few c =
    kept_few c.args.map.now c.chunks-chunk-items.result.now c.loop-chunk.some c.loop-chunk.chunk-index c.chunks-chunk-items.ensures
    c.loop-chunk-test.false c.loop-chunk.invariant
