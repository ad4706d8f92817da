use Rattle.std.proofs.Common.{ℕ, ◌==◌, ap, ◌∙◌}
use Rattle.std.specs.BTreeSet.{contains}
use Rattle.std.specs.Ordering.{nat_cmp}
use Rattle.verdict.specs.declared.place.Chunk.{Chunk}
use Rattle.records.specs.Part.{owned_part}
use Rattle.records.specs.Part.{Located}
use Rattle.records.specs.declared.rec.ItemAt.{ItemAt}
use Rattle.tree_laws.specs.MergedLaw.{chunk_in}
use Rattle.tree_change.specs.Gathered.{located_item}
use Rattle.tree_change.proofs.Merges.{has_more}
use Rattle.tree_change.proofs.merge.starts_of.Goals as goal

pub loop-item-preserved : goal.loop-item-preserved
loop-item-preserved c =
    has_more located_item (λ (one : Located). chunk_in one.part) (λ (start : ℕ) (chunk : Chunk). chunk.start == start)
    (contains nat_cmp c.loop-item.starts)
    (contains nat_cmp c.put_start.new.starts) c.chunk_in.result c.args.items.now c.loop-item.item-index c.item-item.result c.loop-item-test.true
    c.loop-item.invariant
    (c.chunk_in.ensures ∙ ap (λ (item : ItemAt). chunk_in (owned_part item.part)) c.item-item.is) c.in_ok-put_start.ensures
