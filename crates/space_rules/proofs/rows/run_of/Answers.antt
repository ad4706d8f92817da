use Rattle.std.proofs.Common.{ap, sym, ◌∙◌}
use Rattle.extent_items.specs.ExtentItems.{extent_fields_in}
use Rattle.fs_items.specs.Lent.{sums_in}
use Rattle.sector_runs.specs.Runs.{amount_in}
use Rattle.space_rules.proofs.Runs.{extent_sums, no_sector_sum, place_run, range_sums, sums_sums}
use Rattle.space_rules.proofs.rows.run_of.Goals as goal

-- src/rows.rt:88:1
pub returns-in-ExtentItem-clause-sums : goal.returns-in-ExtentItem-clause-sums
returns-in-ExtentItem-clause-sums g c =
    let place = c.place_of.ensures in
    let is = c.run.ensures ∙ place_run (g.C.Ctx.context c.args.ctx.now) c.args.tree (extent_fields_in c.in-ExtentItem.item) _ _ _ _ place.of_data place.address place.length place.home in
    rw (c.in-ExtentItem.is) (λ lawful address field.
    extent_sums (g.C.Ctx.context c.args.ctx.now) c.args.tree (extent_fields_in c.in-ExtentItem.item) address field lawful ∙ ap (λ run. amount_in run address field) (sym is))

-- src/rows.rt:88:1
pub returns-in-FileExtent-clause-sums : goal.returns-in-FileExtent-clause-sums
returns-in-FileExtent-clause-sums g c =
    rw (c.in-FileExtent.is) (λ lawful address field.
    range_sums (g.C.Ctx.context c.args.ctx.now) c.args.tree c.in-FileExtent.range address field lawful ∙ ap (λ run. amount_in run address field) (sym (c.shown_run.ensures.is lawful)))

-- src/rows.rt:88:1
pub returns-in-SumRun-clause-sums : goal.returns-in-SumRun-clause-sums
returns-in-SumRun-clause-sums g c =
    rw (c.in-SumRun.is) (λ lawful address field.
    sums_sums (g.C.Ctx.context c.args.ctx.now) c.args.tree (sums_in c.in-SumRun.run') address field lawful ∙ ap (λ run. amount_in run address field) (sym (c.summed_run.ensures.is lawful)))

-- src/rows.rt:88:1
pub returns-in_default : goal.returns-in_default
returns-in_default g c = record {
  sums = λ lawful address field. no_sector_sum (g.C.Ctx.context c.args.ctx.now) c.args.tree c.args.part.now c.in_default.not-ExtentItem c.in_default.not-FileExtent c.in_default.not-SumRun address field;
  fits = λ lawful. tt;
  shown = λ range is. tt;
}
