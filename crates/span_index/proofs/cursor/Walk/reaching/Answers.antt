use Rattle.span_index.proofs.WalkLaws.{reaches}
use Rattle.span_index.proofs.cursor.Walk.reaching.Goals as goal

-- src/cursor.rt:70:5
pub returns-clause-sums : goal.returns-clause-sums
returns-clause-sums g c = λ field later of_sort at_sector begun.
    reaches (g.C.Ctx.context c.args.ctx.now) c.args.span.now c.args.times later field at_sector begun c.counting-all.result c.of_data-of_data.result c.args.self
    (record { sort = c.args.self.sort; head = c.args.self.head; all = c.with.result; of_data = c.with-2.result }) c.requires.sort of_sort c.counting-all.ensures c.of_data-of_data.ensures
    c.end_of-end.result c.end_of-end.ensures (c.with.ensures.value later) (c.with-2.ensures.value later)
