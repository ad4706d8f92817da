use Rattle.commit_judge.proofs.judgements.Tried.{tried}
use Rattle.commit_judge.proofs.laws.tried_law.Goals as goal

pub returns : goal.returns
returns c =
    tried (record {
      commit = c.commit_law.ensures;
      sound = c.sound_law.ensures;
      spans = c.known_spans_law.ensures;
      ascend = c.ascend_law.ensures;
      held = c.held_law.ensures;
    })
