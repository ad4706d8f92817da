use Rattle.std.proofs.Common.{◌≡◌, rules, length, get_or, ⊎_elim}
use Rattle.std.specs.Prelude.{IsTrue, ◌↔◌, EachIndex}
use Rattle.std.proofs.lemmas.Bool.{cases_lt}
use Rattle.std.proofs.lemmas.List.{get_or_past}
use Rattle.ledger_keys.proofs.kept.are_zero.Goals as goal

pub returns : goal.returns
returns c =
    let each : IsTrue c.all.result ↔ EachIndex c.args.bytes.now (λ n. get_or c.args.bytes.now n 0 ≡ 0) = search rules in (
      λ is n. ⊎_elim (λ lt. each.0 is n lt) (λ le. get_or_past c.args.bytes.now n 0 le) (cases_lt n (length c.args.bytes.now)),
      λ zero. each.1 (λ n lt. zero n),
    )
