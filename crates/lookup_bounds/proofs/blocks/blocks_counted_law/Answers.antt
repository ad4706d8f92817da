use Rattle.lookup_bounds.proofs.BlocksWhole.{counted}
use Rattle.lookup_bounds.proofs.blocks.blocks_counted_law.Goals as goal

pub returns : goal.returns
returns c = counted c.paired_law.ensures c.all_changes_law.ensures
