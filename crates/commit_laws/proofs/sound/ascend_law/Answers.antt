use Rattle.commit_laws.proofs.sound_spans.Ascend.{ascend}
use Rattle.commit_laws.proofs.sound.ascend_law.Goals as goal

pub returns : goal.returns
returns c = ascend
