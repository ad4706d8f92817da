use Rattle.std.proofs.Common.{◌≡◌, map, take}
use Rattle.tree_change.specs.Firsts.{first_copy}
use Rattle.tree_change.proofs.firsts.first_copies.Given as goal

-- those of the chunks so far are in the list
abbrev pub invariant-loop-chunk : goal.invariant-loop-chunk
invariant-loop-chunk l = l.some ≡ map first_copy (take l.chunk-index l.chunk-items)
