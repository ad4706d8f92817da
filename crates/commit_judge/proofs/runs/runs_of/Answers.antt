use Rattle.std.proofs.Common.{length, subst, sym}
use Rattle.std.specs.List.{All}
use Rattle.std.proofs.lemmas.List.Sorted.{All-permutation}
use Rattle.span_index.specs.Sectors.{IsRun}
use Rattle.commit_judge.proofs.span_tables.Runs.{counted_stays, few_runs, merged_counted, merged_only, merged_spans}
use Rattle.commit_judge.proofs.runs.runs_of.Goals as goal

pub merged-requires-clause-runs : goal.merged-requires-clause-runs
merged-requires-clause-runs g c =
    subst (λ l. All IsRun l) (sym c.deref.ensures.value)
    (All-permutation IsRun c.add_runs.new.into.items c.sort_runs.new.runs.items c.sort_runs.ensures.all c.in_ok-add_runs.ensures.runs)

pub returns-clause-gone : goal.returns-clause-gone
returns-clause-gone g c = λ whole.
    merged_counted c.merged.result (λ some. some.items) (g.C.Ctx.context c.args.before.now) c.add_runs.new.into.items c.sort_runs.new.runs.items c.deref.result.now c.args.gone.now
    c.sort_runs.ensures.all c.deref.ensures.value c.merged.ensures.inside
    (counted_stays (g.C.Ctx.context c.args.before.now) c.add_counted-2.new.into.items c.add_runs.new.into.items c.args.gone.now c.in_ok-add_runs.ensures.stay
    (counted_stays (g.C.Ctx.context c.args.before.now) c.add_counted.new.into.items c.add_counted-2.new.into.items c.args.gone.now c.in_ok-add_counted-2.ensures.stay
    (c.in_ok-add_counted.ensures.inside whole)))

pub returns-clause-came : goal.returns-clause-came
returns-clause-came g c = λ whole.
    merged_counted c.merged.result (λ some. some.items) (g.D.Ctx.context c.args.after.now) c.add_runs.new.into.items c.sort_runs.new.runs.items c.deref.result.now c.args.came.now
    c.sort_runs.ensures.all c.deref.ensures.value c.merged.ensures.inside
    (counted_stays (g.D.Ctx.context c.args.after.now) c.add_counted-2.new.into.items c.add_runs.new.into.items c.args.came.now c.in_ok-add_runs.ensures.stay
    (c.in_ok-add_counted-2.ensures.inside whole))

pub returns-clause-found : goal.returns-clause-found
returns-clause-found g c = λ whole.
    merged_spans c.merged.result (λ some. some.items) c.add_runs.new.into.items c.sort_runs.new.runs.items c.deref.result.now c.args.found.now
    c.sort_runs.ensures.all c.deref.ensures.value c.merged.ensures.inside
    (c.in_ok-add_runs.ensures.inside whole)

pub returns-clause-few : goal.returns-clause-few
returns-clause-few g c =
    few_runs c.merged.result (λ some. some.items) c.new-runs.result.items c.add_counted.new.into.items c.add_counted-2.new.into.items
    c.add_runs.new.into.items c.sort_runs.new.runs.items c.deref.result.now (length c.args.gone.now) (length c.args.came.now)
    (length c.args.found.now) c.new-runs.ensures.items c.in_ok-add_counted.ensures.few c.in_ok-add_counted-2.ensures.few
    c.in_ok-add_runs.ensures.few c.sort_runs.ensures.all c.deref.ensures.value c.merged.ensures.few

pub returns-clause-only : goal.returns-clause-only
returns-clause-only g c =
    merged_only c.merged.result (λ some. some.items) (g.C.Ctx.context c.args.before.now) (g.D.Ctx.context c.args.after.now) c.args.gone.now
    c.args.came.now c.args.found.now c.new-runs.result.items c.add_counted.new.into.items c.add_counted-2.new.into.items
    c.add_runs.new.into.items c.sort_runs.new.runs.items c.deref.result.now c.new-runs.ensures.items c.in_ok-add_counted.ensures.only
    c.in_ok-add_counted-2.ensures.only c.in_ok-add_runs.ensures.only c.sort_runs.ensures.all c.deref.ensures.value c.merged.ensures.only
