use Rattle.std.proofs.Common.{◌≡◌, take}
use Rattle.std.specs.List.{filter}
use Rattle.tree_change.specs.Merges.{fits}
use Rattle.tree_change.proofs.merge.map_of.Given as goal

-- those of the chunks so far are in the list
abbrev pub invariant-loop-chunk : goal.invariant-loop-chunk
invariant-loop-chunk l = l.some ≡ filter fits (take l.chunk-index l.chunks)
