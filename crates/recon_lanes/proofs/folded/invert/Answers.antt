use Rattle.recon_lanes.proofs.Tails.{four_inverted}
use Rattle.recon_lanes.proofs.folded.invert.Goals as goal

pub returns : goal.returns
returns c = four_inverted c.args.bytes.now c.requires
