use Rattle.commit_judge.specs.Index.{IndexStands, known}
use Rattle.commit_judge.specs.Judged.{IsJudgement}
use Rattle.commit_judge.specs.Plan.{IsPlanOf}
use Rattle.commit_judge.proofs.judgements.Judge.{looks_of, said_of}
use Rattle.commit_judge.proofs.judge.judge_blocks.Goals as goal

pub returns-clause-told : goal.returns-clause-told
returns-clause-told g c =
    let before = g.D.Disk.reads c.args.disk.now in
    let after = g.D.Disk.reads c.plan_within.new.disk in
    said_of (g.D.Disk.bytes c.args.disk.now) (g.D.Disk.len c.args.disk.now) c.args.end (λ image. IndexStands image c.args.index.now)
    (λ image. IsPlanOf image c.args.cache.now (known c.args.index.now) before after c.in_ok-plan.plan)
    (λ image. IsJudgement image c.args.cache.now c.judge_plan.new.index before after c.in_ok-judge_plan.field-0)
    (g.met.D.Disk.told_length c.args.disk.now) c.requires c.in_ok-plan.ensures.told
    (λ image stands size plan. c.in_ok-judge_plan.ensures.judged image before after stands size plan)

pub returns-clause-looks : goal.returns-clause-looks
returns-clause-looks g c =
    looks_of c.work_law.ensures (g.D.Disk.bytes c.args.disk.now) (g.D.Disk.len c.args.disk.now) c.args.end c.args.cache.now c.args.index.now
    c.in_ok-plan.plan c.in_ok-judge_plan.field-0 (g.D.Disk.reads c.args.disk.now) (g.D.Disk.reads c.plan_within.new.disk) c.args.steps.now
    c.plan_within.new.steps c.judge_plan.new.steps (g.met.D.Disk.told_length c.args.disk.now) c.requires c.in_ok-plan.ensures.told c.in_ok-plan.ensures.looks
    c.in_ok-judge_plan.ensures.leads c.in_ok-judge_plan.ensures.looks
