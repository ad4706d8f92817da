use Rattle.std.proofs.Common.{rules}
use Rattle.commit_judge.specs.Judged.{MovesPlace}
use Rattle.commit_judge.proofs.judgements.Judge.{given, none_said, refused}
use Rattle.commit_judge.proofs.judge.judge_within.Goals as goal

pub returns-in-Err-clause-told : goal.returns-in-Err-clause-told
returns-in-Err-clause-told g c =
    refused (g.D.Disk.bytes c.args.disk.now) c.args.cache.now c.args.index.now c.judge_blocks.new.index (g.D.Disk.reads c.args.disk.now)
    (g.D.Disk.reads c.judge_blocks.new.disk) c.judge_blocks.result c.in-Err.finding (search rules) c.judge_blocks.ensures.told

pub returns-in-Err-clause-looks : goal.returns-in-Err-clause-looks
returns-in-Err-clause-looks g c =
    none_said (g.D.Disk.bytes c.args.disk.now) c.args.cache.now c.args.index.now c.args.steps.now c.judge_blocks.new.steps c.in-Err.finding

pub returns-in-Ok-clause-place : goal.returns-in-Ok-clause-place
returns-in-Ok-clause-place g c =
    given (MovesPlace c.args.index.now.raw c.args.cache.now c.judge_blocks.new.index.raw) c.judge_blocks.result c.in-Ok.judged (search rules)
    c.judge_blocks.ensures.place
