use Rattle.std.proofs.Common.{◌≡◌, ap, rules, sym, ◌∙◌}
use Rattle.std.specs.Prelude.{Some}
use Rattle.ledger_keys.specs.Kept.{sums_at}
use Rattle.ledger_keys.specs.Sums.{amount_at, raise}
use Rattle.ledger_maps.specs.Entries.{by_key}
use Rattle.verdict.proofs.Answers.{on_err}
use Rattle.ledger_keys.proofs.SumLaws.{raise_none}
use Rattle.ledger_maps.proofs.EntryLaws.{amount_stands, changed_entry, stays_entry, tidy_put}
use Rattle.ledger_maps.proofs.part.add_by_hash.Goals as goal

-- what stood there was raised
pub returns-in_ok-full-in-Occupied-clause-ok : goal.returns-in_ok-full-in-Occupied-clause-ok
returns-in_ok-full-in-Occupied-clause-ok g c =
    let same = g.K.PartialEq.eq in
    let had : by_key same c.args.part.now c.args.key.now ≡ Some c.into_mut.result.now = search rules in
    changed_entry same g.met.K.Exact.exact raise raise_none (by_key same c.args.part.now) _ c.args.key.now c.args.field c.args.amount (Some c.raise.new.self) (search rules)
    (λ k. c.in_ok-full-in-Occupied.ensures.ok k ∙ ap (λ o. raise (amount_at c.args.field c.args.amount k) (sums_at o k)) (sym had))

pub returns-in_err-full-in-Occupied-clause-err : goal.returns-in_err-full-in-Occupied-clause-err
returns-in_err-full-in-Occupied-clause-err g c =
    let same = g.K.PartialEq.eq in
    let had : by_key same c.args.part.now c.args.key.now ≡ Some c.into_mut.result.now = search rules in
    on_err _ (stays_entry same g.met.K.Exact.exact (by_key same c.args.part.now) _ c.args.key.now (Some c.raise.new.self) (search rules)
    (λ k. c.in_err-full-in-Occupied.ensures.err k ∙ ap (λ o. sums_at o k) (sym had)))

-- there stood none
pub returns-in-Ok-clause-tidy : goal.returns-in-Ok-clause-tidy
returns-in-Ok-clause-tidy g c =
    let same = g.K.PartialEq.eq in
    λ tidy. tidy_put same g.met.K.Exact.exact (by_key same c.args.part.now) _ c.args.key.now c.in-Ok.kept
    (search rules) tidy
    (amount_stands c.in-Ok.kept c.args.field c.args.amount c.in-Ok.ensures c.requires.named c.requires.more)
