use Rattle.commit_judge.proofs.judgements.Work.{work}
use Rattle.commit_judge.proofs.laws.work_law.Goals as goal

pub returns : goal.returns
returns c =
    work (record {
      held = c.held_law.ensures;
      spans = c.known_spans_law.ensures;
      sound = c.sound_law.ensures;
      few = c.few_looks_law.ensures;
      postings = c.postings_law.ensures;
      blocks = c.blocks_counted_law.ensures;
      housed = c.housed_law.ensures;
      named = c.named_law.ensures;
      pieces = c.pieces_law.ensures;
    })
