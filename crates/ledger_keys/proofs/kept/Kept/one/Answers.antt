use Rattle.std.proofs.Common.{refl, ap, sym, ◌∙◌, ◌==◌, ◌&&◌}
use Rattle.std.specs.Prelude.{nat_lt}
use Rattle.ledger_keys.specs.Kept.{kept_sum}
use Rattle.ledger_keys.specs.Sums.{amount_at}
use Rattle.ledger_keys.proofs.SumLaws.{raised_nothing}
use Rattle.ledger_keys.proofs.KeptLaws.{none_by}
use Rattle.ledger_keys.proofs.kept.Kept.one.Goals as goal

pub returns-then-raise_few : goal.returns-then-raise_few
unfolding kept_sum
returns-then-raise_few c n =
    c.if-raise_few.ensures.raised refl n
    ∙ sym (raised_nothing (c.from-field.result == n && nat_lt n 9) c.args.amount _ c.ranges.amount.fits (none_by 9 n))
    ∙ ap (λ f. amount_at f c.args.amount n) c.from-field.ensures
