use Rattle.std.proofs.Common.{◌≡◌, drop}
use Rattle.verdict.specs.Rules.{first_failing}
use Rattle.volume_items.specs.MapRules.{array_rows}
use Rattle.chunk_map.proofs.rules.array_fault.Given as goal

-- what is left decides
abbrev pub invariant-loop-chunk : goal.invariant-loop-chunk
invariant-loop-chunk l = first_failing (array_rows l.chunks (drop l.chunk-index l.array)) ≡ first_failing (array_rows l.chunks l.array)
