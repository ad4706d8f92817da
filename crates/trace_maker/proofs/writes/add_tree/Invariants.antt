use Rattle.volume_maker.specs.Live.{blocks_of}
use Rattle.trace_maker.specs.Writes.{HasMore}
use Rattle.trace_maker.proofs.writes.add_tree.Given as goal

abbrev pub invariant-loop-leaf : goal.invariant-loop-leaf
invariant-loop-leaf l = HasMore l.generation (blocks_of l.tree) l.copy l.fn.into.items l.into.items
