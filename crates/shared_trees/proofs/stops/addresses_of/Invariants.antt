use Rattle.std.proofs.Common.{◌≡◌, take}
use Rattle.tree_laws.specs.Stopping.{addresses_of}
use Rattle.shared_trees.proofs.stops.addresses_of.Given as goal

-- the addresses of the blocks so far
abbrev pub invariant-loop-one : goal.invariant-loop-one
invariant-loop-one l = l.addresses.items ≡ addresses_of (take l.one-index l.met)
