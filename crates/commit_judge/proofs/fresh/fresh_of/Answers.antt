use Rattle.commit_judge.proofs.plans.Fresh.{fresh_bytes, fresh_super}
use Rattle.commit_judge.proofs.fresh.fresh_of.Goals as goal

pub returns-in-Ok : goal.returns-in-Ok
returns-in-Ok c image long was = (
  fresh_bytes c.args.cache.now image c.args.raw.now c.overlay.new.into was c.overlay.ensures,
  fresh_super c.args.cache.now image c.args.raw.now c.overlay.new.into _ long was c.overlay.ensures c.in-Ok.ensures.rules,
)

pub returns-in-Err : goal.returns-in-Err
returns-in-Err c image long was =
    fresh_super c.args.cache.now image c.args.raw.now c.overlay.new.into _ long was c.overlay.ensures c.in-Err.ensures.rules
