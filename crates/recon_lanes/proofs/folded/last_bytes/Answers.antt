use Rattle.std.proofs.Common.{◌∙◌}
use Rattle.recon_lanes.proofs.Tails.{laid_last}
use Rattle.recon_lanes.proofs.folded.last_bytes.Goals as goal

pub returns : goal.returns
returns c =
    c.with_sent.ensures
    ∙ laid_last c.args.before.now c.args.bytes.now c.invert.new.bytes c.copy_from_slice.new.self c.requires.before c.copy_from_slice.ensures.after c.invert.ensures
