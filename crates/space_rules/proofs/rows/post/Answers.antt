use Rattle.std.proofs.Common.{ap, ◌∙◌}
use Rattle.space_rules.specs.RunPostings.{run_postings_in}
use Rattle.space_rules.proofs.Runs.{posts_where, range_run, rest_whole}
use Rattle.space_rules.proofs.rows.post.Goals as goal

-- src/rows.rt:39:1
pub returns-in-FileExtent : goal.returns-in-FileExtent
returns-in-FileExtent g c =
    rw (c.in-FileExtent.is) (posts_where _ _ c.post_run_in.ensures (λ lawful.
    ap run_postings_in (c.shown_run.ensures.is lawful) ∙ range_run (g.C.Ctx.context c.args.ctx.now) c.args.tree c.in-FileExtent.range))

-- src/rows.rt:39:1
pub returns-in_default : goal.returns-in_default
returns-in_default g c =
    posts_where _ _ c.post_rest.ensures (λ lawful.
    rest_whole (g.C.Ctx.context c.args.ctx.now) c.args.tree c.args.part.now c.in_default.not-ExtentItem c.in_default.not-FileExtent c.in_default.not-SumRun)
