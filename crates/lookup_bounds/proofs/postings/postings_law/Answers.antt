use Rattle.lookup_bounds.proofs.PostingsFew.{few}
use Rattle.lookup_bounds.proofs.postings.postings_law.Goals as goal

pub returns : goal.returns
returns c =
    few (record {
      held = c.held_law.ensures;
      items = c.items_law.ensures;
      blocks = c.blocks_law.ensures;
      all_changes = c.all_changes_law.ensures;
      found = c.found_law.ensures;
      paired = c.paired_law.ensures;
      flags = c.flags_law.ensures;
    })
