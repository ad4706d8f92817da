use Rattle.std.proofs.Common.{◌∙◌, ap}
use Rattle.std.specs.Prelude.{Some}
use Rattle.write_cache.proofs.PutLaws.{begin_hold, here_now, others_stay}
use Rattle.write_cache.proofs.runs.begin_at.Goals as goal

pub returns-clause-ok : goal.returns-clause-ok
returns-clause-ok c =
    begin_hold c.args.runs.now.entries c.insert.new.self.entries c.args.at c.args.bytes.items
    c.requires.kept c.requires.apart c.requires.some c.requires.fits
    (here_now _ c.args.at _ c.in_ok-insert.ensures.updates.1 ∙ ap Some c.of.ensures)
    (others_stay _ _ c.args.at c.in_ok-insert.ensures.updates.2) c.insert.ensures.ordered
