use Rattle.std.proofs.Common.{sym, subst, ap}
use Rattle.std.proofs.lemmas.Result.{on_err_weaker, on_ok_weaker}
use Rattle.recon_core.specs.Standing.{IsBelow}
use Rattle.recon_core.proofs.Steps.{below_put, below_after}
use Rattle.recon_core.proofs.checker.Checker.commit.Goals as goal

pub settle-requires-clause-below : goal.settle-requires-clause-below
settle-requires-clause-below g c =
    subst (IsBelow (g.D.Disk.len c.args.disk.now)) (sym c.in-Ok.ensures.ok)
    (below_put (g.D.Disk.len c.args.disk.now) c.args.self.now.cache c.args.write.at c.args.write.bytes c.requires.below c.requires.inside)

pub returns-clause-inside : goal.returns-clause-inside
returns-clause-inside g c =
    below_after (g.D.Disk.len c.args.disk.now) c.settle.result _ c.settle.new.self.cache
    (subst (IsBelow (g.D.Disk.len c.args.disk.now)) (sym c.in-Ok.ensures.ok)
    (below_put (g.D.Disk.len c.args.disk.now) c.args.self.now.cache c.args.write.at c.args.write.bytes c.requires.below c.requires.inside))
    (on_ok_weaker c.settle.result (λ new. ap (λ k. k.cache) new) c.settle.ensures.ok)
    (on_err_weaker c.settle.result (λ new. ap (λ k. k.cache) new) c.settle.ensures.err)
