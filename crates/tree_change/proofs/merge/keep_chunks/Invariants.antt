use Rattle.std.proofs.Common.{◌≡◌, ◌++◌, not, take}
use Rattle.std.specs.BTreeSet.{contains}
use Rattle.std.specs.List.{filter}
use Rattle.std.specs.Ordering.{nat_cmp}
use Rattle.verdict.specs.declared.place.Chunk.{Chunk}
use Rattle.tree_change.proofs.merge.keep_chunks.Given as goal

-- those of the chunks so far are kept
abbrev pub invariant-loop-chunk : goal.invariant-loop-chunk
invariant-loop-chunk l =
    l.into.items ≡ l.initial.into.items ++ filter (λ (chunk : Chunk). not (contains nat_cmp l.starts chunk.start)) (take l.chunk-index l.old)
