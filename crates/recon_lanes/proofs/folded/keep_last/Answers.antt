use Rattle.std.proofs.Common.{ap, subst, sym, ◌∙◌}
use Rattle.recon_lanes.specs.Folded.{window}
use Rattle.recon_lanes.proofs.Tails.{AreBytes, kept_last, kept-bytes}
use Rattle.recon_lanes.proofs.folded.keep_last.Goals as goal

pub returns-clause-last : goal.returns-clause-last
returns-clause-last c = ap (λ l. window l 0) c.copy_within.ensures.after ∙ kept_last c.args.buffer.now c.told-buffer

pub returns-clause-bytes : goal.returns-clause-bytes
returns-clause-bytes c = subst AreBytes (sym c.copy_within.ensures.after) (kept-bytes c.args.buffer.now c.requires)
