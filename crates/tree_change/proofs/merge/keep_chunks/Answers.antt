use Rattle.std.proofs.Common.{not, ap, sym, ◌∙◌}
use Rattle.std.specs.BTreeSet.{contains}
use Rattle.std.specs.Ordering.{nat_cmp}
use Rattle.verdict.specs.declared.place.Chunk.{Chunk}
use Rattle.tree_change.proofs.Merges.{kept_less, kept_more}
use Rattle.tree_change.proofs.merge.keep_chunks.Goals as goal

pub loop-chunk-preserved-then-contains : goal.loop-chunk-preserved-then-contains
loop-chunk-preserved-then-contains c =
    kept_less (λ (chunk : Chunk). not (contains nat_cmp c.args.starts.now chunk.start)) c.args.into.now.items c.loop-chunk.into.items
    c.args.old.now c.loop-chunk.chunk-index _
    c.loop-chunk-test.true c.loop-chunk.invariant (ap not (sym c.contains.ensures ∙ c.if-contains.true))

pub loop-chunk-preserved : goal.loop-chunk-preserved
loop-chunk-preserved c =
    kept_more (λ (chunk : Chunk). not (contains nat_cmp c.args.starts.now chunk.start)) c.args.into.now.items c.loop-chunk.into.items
    c.push_some.new.into.items c.args.old.now
    c.loop-chunk.chunk-index _ c.loop-chunk-test.true c.loop-chunk.invariant (ap not (sym c.contains.ensures ∙ c.if-contains.false))
    c.in_ok-push_some.ensures
