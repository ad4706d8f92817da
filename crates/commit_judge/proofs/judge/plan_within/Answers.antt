use Rattle.commit_judge.specs.Index.{IndexStands}
use Rattle.commit_judge.proofs.judgements.Short.{short}
use Rattle.commit_judge.proofs.judge.plan_within.Goals as goal

pub returns-then-end-clause-told : goal.returns-then-end-clause-told
returns-then-end-clause-told g c =
    short (λ image. IndexStands image c.args.index.now) (g.D.Disk.bytes c.args.disk.now) c.args.cache.now (g.D.Disk.len c.args.disk.now) c.args.end
    c.of_image.result (g.met.D.Disk.told_length c.args.disk.now) c.requires c.if-end.true c.of_image.ensures
