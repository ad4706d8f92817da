use Rattle.std.proofs.Common.{rules}
use Rattle.std.proofs.lemmas.List.Sorted.{IsNonDecreasingBy-from_sort_by_key}
use Rattle.verdict.specs.declared.place.Chunk.{Chunk}
use Rattle.touched_blocks.proofs.leaving.by_start.Goals as goal

pub returns-clause-ascend : goal.returns-clause-ascend
returns-clause-ascend c =
    IsNonDecreasingBy-from_sort_by_key (λ (chunk : Chunk). chunk.start) _ c.sort_unstable_by_key.ensures.sorted (λ a r q k. search rules)
