use Rattle.std.proofs.Common.{◌≡◌, ◌+◌, ◌-◌, List, [], ◌∷◌, ◌++◌, length, sym, ap, ◌∙◌, subst, arith}
use Rattle.std.proofs.lemmas.Grind.{common_steps}
use Rattle.trace_maker.specs.declared.operation.Operation.{Operation}
use Rattle.trace_maker.specs.Plan.{first_planned, plan_from, plan_of}
use Rattle.trace_maker.proofs.Planning.{plan_more, plan_done, plan_count}
use Rattle.trace_maker.proofs.workload.plan.Goals as goal

pub loop-before-preserved : goal.loop-before-preserved
loop-before-preserved c =
    let op = c.in_ok-commit.field-0 in
    let pushed : c.push.new.self.items ≡ c.loop-before.ops.items ++ op ∷ [] = grind (arith, common_steps) in
    let rest = plan_from (c.args.commits - (c.loop-before.before + 1)) ((c.loop-before.before + 1) + 1) c.commit.new.self in
    let P : List Operation → Type 0 = λ ops. ops ++ rest ≡ plan_of c.args.seed c.args.commits in
    record {
      some = grind (arith, common_steps);
      few = grind (arith, common_steps);
      planned = subst P (sym pushed) (plan_more c.loop-before.ops.items op c.commit.new.self c.loop-before.planner c.args.commits c.loop-before.before _
          (grind (arith, common_steps)) c.in_ok-commit.ensures.op c.in_ok-commit.ensures.after c.loop-before.invariant.planned);
    }

pub returns : goal.returns
returns c =
    let same = plan_done c.loop-before.ops.items (plan_of c.args.seed c.args.commits) (c.args.commits - c.loop-before.before) (c.loop-before.before + 1) c.loop-before.planner (grind (arith, common_steps)) c.loop-before.invariant.planned in
    record { plan = same; count = ap (λ (ops : List Operation). length ops) same ∙ plan_count c.args.commits 1 (first_planned c.args.seed) }
