use Rattle.std.proofs.Common.{◌≡◌, map, take}
use Rattle.tree_change.specs.LastKeys.{last_key_of}
use Rattle.tree_change.proofs.lasts.last_keys.Given as goal

-- the greatest keys of the blocks so far
abbrev pub invariant-loop-one : goal.invariant-loop-one
invariant-loop-one l = l.keys.items ≡ map last_key_of (take l.one-index l.ended)
