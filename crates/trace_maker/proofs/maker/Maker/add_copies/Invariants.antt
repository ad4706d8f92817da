use Rattle.volume_maker.specs.Live.{all_blocks}
use Rattle.trace_maker.specs.Writes.{HasMore}
use Rattle.trace_maker.proofs.maker.Maker.add_copies.Given as goal

abbrev pub invariant-loop-tree : goal.invariant-loop-tree
invariant-loop-tree l = HasMore l.generation (all_blocks l.self.trees) l.copy l.fn.into.items l.into.items
