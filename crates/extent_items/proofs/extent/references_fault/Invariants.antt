use Rattle.std.proofs.Common.{◌≡◌, ◌-◌, ◌≤◌, length, drop}
use Rattle.verdict.specs.Rules.{first_failing}
use Rattle.extent_items.specs.ReferenceRows.{reference_rows}
use Rattle.extent_items.proofs.extent.references_fault.Given as goal

-- what is left decides
abbrev pub invariant-loop-offset : goal.invariant-loop-offset
invariant-loop-offset l = record {
  decides : first_failing (reference_rows l.at l.key l.offset (drop l.offset l.bytes)) ≡ first_failing (reference_rows l.at l.key 24 (drop 24 l.bytes));
  inside : l.offset ≤ length l.bytes;
}

abbrev pub decreases-loop-offset : goal.decreases-loop-offset
decreases-loop-offset l = length l.bytes - l.offset
