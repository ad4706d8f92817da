use Rattle.commit_laws.proofs.sound_spans.Whole.{known_spans}
use Rattle.commit_laws.proofs.sound.known_spans_law.Goals as goal

pub returns : goal.returns
returns c = known_spans c.held_law.ensures c.items_law.ensures
