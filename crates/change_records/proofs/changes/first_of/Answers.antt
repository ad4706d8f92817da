use Rattle.std.proofs.Common.{◌∙◌, refl, sym}
use Rattle.change_records.proofs.Order.{before_ties}
use Rattle.change_records.proofs.changes.first_of.Goals as goal

pub returns-else-stands_before-2 : goal.returns-else-stands_before-2
returns-else-stands_before-2 c = (
  c.args.one.now,
  c.args.other.now,
  refl,
  refl,
  before_ties _ _ (sym c.stands_before.ensures ∙ c.if-stands_before.false) (sym c.stands_before-else-stands_before.ensures ∙ c.if-stands_before-2.false),
)
