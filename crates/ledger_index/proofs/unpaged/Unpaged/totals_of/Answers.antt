use Rattle.std.proofs.Common.{◌≡◌, ◌+◌, length, rules, sym, ◌∙◌}
use Rattle.ledger_index.specs.Unpaged.{sums_of}
use Rattle.ledger_index.proofs.UnpagedLaws.{set_two}
use Rattle.ledger_index.proofs.unpaged.Unpaged.totals_of.Goals as goal

pub returns-in-Some : goal.returns-in-Some
returns-in-Some c =
    let size : length c.totals_of-totals.result.f ≡ 9 = search rules in
    set_two c.totals_of-totals.result.f c.in-Some.first c.in-Some.second (sums_of c.args.self.now c.args.account.now) size
    c.in-Some.ensures.some.first_is c.in-Some.ensures.some.second_is
    (λ n. c.totals_of-totals.ensures (n + 2) ∙ sym (c.in-Some.ensures.some.others n))
