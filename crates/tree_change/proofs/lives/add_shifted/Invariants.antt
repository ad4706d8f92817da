use Rattle.std.proofs.Common.{◌≡◌, ◌+◌, ◌≤◌, ◌++◌, true, take}
use Rattle.std.specs.List.{filter_map}
use Rattle.live_index.specs.Table.{pairs_of}
use Rattle.tree_laws.specs.declared.told.Met.{Met}
use Rattle.tree_change.specs.Leaves.{last_in, shifted_by_one}
use Rattle.tree_change.proofs.lives.add_shifted.Given as goal

-- those of the blocks so far are added, at one look at most for each, and at none where the walk asked the same table
abbrev pub invariant-loop-one : goal.invariant-loop-one
invariant-loop-one g l = record {
  puts : l.into.items ≡ l.initial.into.items ++ filter_map (λ (one : Met). shifted_by_one (pairs_of l.table) (last_in l.lasts) one.expect) (take l.one-index l.met);
  looks : l.steps ≤ l.initial.steps + l.one-index;
  none : l.is_asked ≡ true → l.steps ≡ l.initial.steps;
}
