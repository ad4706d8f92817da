use Rattle.std.proofs.Common.{◌≡◌, rules, length}
use Rattle.ledger_keys.proofs.KeptLaws.{not_zero_long, zero_long}
use Rattle.ledger_keys.proofs.kept.are_zero_long.Goals as goal
use Rattle.ledger_keys.proofs.kept.are_zero_long.Goals.{then-long-ne0-via-then-long-ne0, then-long-ne0-via-else-long-ne0+then-long-ne0-2}

pub returns : goal.returns
returns c =
    let small : length c.args.few.now ≡ 7 = search rules in
    let size : length c.args.long.now ≡ 2 = search rules in
    zero_long c.args.few.now c.args.long.now _ small size c.are_zero.ensures (search rules) (search rules)

pub returns-then-long-ne0 : goal.returns-then-long-ne0
returns-then-long-ne0 c = (
  λ t. absurd (cc t),
  λ zero.
      let both = not_zero_long c.args.few.now c.args.long.now zero in
      elim c.then-long-ne0.branch [
        | then-long-ne0-via-then-long-ne0 w ↦ absurd (w.if-long-ne0.true both.0)
        | then-long-ne0-via-else-long-ne0+then-long-ne0-2 w ↦ absurd (w.if-long-ne0-2.true both.1)
      ],
)
