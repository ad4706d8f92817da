use Rattle.std.proofs.Common.{rules}
use Rattle.std.specs.Cmp.{nat_cmp_total}
use Rattle.verdict.specs.declared.place.Chunk.{Chunk}
use Rattle.tree_laws.specs.MergedLaw.{begins_before}
use Rattle.tree_change.proofs.Merges.{sorted_of, start_before}
use Rattle.tree_change.proofs.merge.sort_chunks.Goals as goal

pub returns : goal.returns
returns c =
    sorted_of (λ (chunk : Chunk). chunk.start) nat_cmp_total begins_before (λ a b. start_before a.start b.start) _ _
    c.sort_unstable_by_key.ensures.permutation c.sort_unstable_by_key.ensures.sorted (λ a r q k. search rules)
