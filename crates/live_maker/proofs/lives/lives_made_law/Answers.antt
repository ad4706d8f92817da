use Rattle.live_maker.proofs.Made.{lives_made}
use Rattle.live_maker.proofs.lives.lives_made_law.Goals as goal

pub returns : goal.returns
returns c = lives_made
