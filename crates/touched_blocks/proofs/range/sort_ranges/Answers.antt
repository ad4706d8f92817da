use Rattle.std.proofs.Common.{rules}
use Rattle.std.proofs.lemmas.List.Sorted.{IsNonDecreasingBy-from_sort_by_key}
use Rattle.touched_blocks.specs.declared.range.Range.{Range}
use Rattle.touched_blocks.proofs.range.sort_ranges.Goals as goal

pub returns-clause-ascend : goal.returns-clause-ascend
returns-clause-ascend c =
    IsNonDecreasingBy-from_sort_by_key (λ (range : Range). range.from) _ c.sort_unstable_by_key.ensures.sorted (λ a r q k. search rules)
