use Rattle.commit_laws.proofs.sound_spans.Sound.{sound}
use Rattle.commit_laws.proofs.sound.sound_law.Goals as goal

pub returns : goal.returns
returns c =
    sound (record {
      held = c.held_law.ensures;
      items = c.items_law.ensures;
      blocks = c.blocks_law.ensures;
      all_changes = c.all_changes_law.ensures;
      found = c.found_law.ensures;
      step = c.step_law.ensures;
      whole_step = c.whole_step_law.ensures;
      posts = c.posts_law.ensures;
      spans = c.spans_law.ensures;
      sectors = c.sectors_law.ensures;
      runs = c.runs_law.ensures;
      judged = c.judged_law.ensures;
      flags = c.flags_law.ensures;
      table_moved = c.table_moved_law.ensures;
    })
