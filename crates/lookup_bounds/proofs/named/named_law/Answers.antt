use Rattle.lookup_bounds.proofs.NamedWhole.{sectors_named}
use Rattle.lookup_bounds.proofs.named.named_law.Goals as goal

pub returns : goal.returns
returns c =
    sectors_named (record {
      held = c.held_law.ensures;
      items = c.items_law.ensures;
      blocks = c.blocks_law.ensures;
      paired = c.paired_law.ensures;
    })
