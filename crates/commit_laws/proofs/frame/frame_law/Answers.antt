use Rattle.commit_laws.proofs.other_images.Frame.{frame}
use Rattle.commit_laws.proofs.frame.frame_law.Goals as goal

pub returns : goal.returns
returns c = frame
