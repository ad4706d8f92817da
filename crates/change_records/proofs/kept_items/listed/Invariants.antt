use Rattle.std.proofs.Common.{◌≡◌, ◌++◌}
use Rattle.change_records.proofs.kept_items.listed.Given as goal

abbrev pub invariant-loop-at : goal.invariant-loop-at
invariant-loop-at l = l.list.items ++ l.at-iterator ≡ l.refs.keys
