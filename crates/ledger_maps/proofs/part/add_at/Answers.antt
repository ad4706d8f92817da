use Rattle.std.proofs.Common.{◌≡◌, cond, length, arith, refl, ap, sym, ◌∙◌}
use Rattle.std.specs.Prelude.{Some}
use Rattle.indexmap.specs.IndexMap.{with_value_at}
use Rattle.indexmap.specs.Layout.{length-set_value_at, set_value_at}
use Rattle.ledger_maps.specs.Entries.{by_key}
use Rattle.ledger_keys.specs.Kept.{sums_at}
use Rattle.ledger_keys.specs.Sums.{amount_at, raise}
use Rattle.verdict.proofs.Answers.{ok_follows}
use Rattle.ledger_keys.proofs.SumLaws.{raise_none}
use Rattle.ledger_maps.proofs.EntryLaws.{changed_entry, full_as, on_err, stays_entry, tidy_raise}
use Rattle.ledger_maps.proofs.PlacedLaws.{kept_at, put_at}
use Rattle.ledger_maps.proofs.part.add_at.Goals as goal

pub returns-clause-tidy : goal.returns-clause-tidy
returns-clause-tidy g c =
    let same = g.K.PartialEq.eq in
    let m = c.args.part.now in
    tidy_raise same g.met.K.Exact.exact c.raise.result (by_key same m) (by_key same (with_value_at m c.args.at c.raise.new.self)) c.args.key.now
    c.unwrap-kept.result.now c.raise.new.self c.args.field c.args.amount
    (put_at same g.met.K.Eq.laws m c.args.at c.args.key.now c.raise.new.self c.get_index_mut.ensures.unique c.requires.there)
    c.raise.ensures.ok c.raise.ensures.err
    (kept_at same m m c.args.at c.args.key.now c.get_index_mut.result c.unwrap-kept.result refl c.requires.there
    c.unwrap-kept.ensures c.get_index_mut.ensures.value)

pub returns-clause-ok : goal.returns-clause-ok
returns-clause-ok g c =
    let same = g.K.PartialEq.eq in
    let m = c.args.part.now in
    let had : by_key same m c.args.key.now ≡ Some c.unwrap-kept.result.now =
    kept_at same m m c.args.at c.args.key.now c.get_index_mut.result c.unwrap-kept.result refl c.requires.there
    c.unwrap-kept.ensures c.get_index_mut.ensures.value in
    ok_follows c.raise.result (λ more. changed_entry same g.met.K.Exact.exact raise raise_none (by_key same m)
    (by_key same (with_value_at m c.args.at c.raise.new.self)) c.args.key.now c.args.field c.args.amount (Some c.raise.new.self)
    (put_at same g.met.K.Eq.laws m c.args.at c.args.key.now c.raise.new.self c.get_index_mut.ensures.unique c.requires.there)
    (λ k. more k ∙ ap (λ o. raise (amount_at c.args.field c.args.amount k) (sums_at o k)) (sym had))) c.raise.ensures.ok

pub returns-clause-full : goal.returns-clause-full
returns-clause-full g c =
    let same = g.K.PartialEq.eq in
    let m = c.args.part.now in
    let key = c.args.key.now in
    let put = put_at same g.met.K.Eq.laws m c.args.at key c.raise.new.self c.get_index_mut.ensures.unique c.requires.there key in
    full_as c.raise.result _ _
    (ap (λ o. sums_at o c.args.field) (sym (put ∙ ap (λ b. cond b (Some c.raise.new.self) (by_key same m key)) (g.met.K.Eq.laws.refl key))))
    c.raise.ensures.full

pub returns-clause-err : goal.returns-clause-err
returns-clause-err g c =
    let same = g.K.PartialEq.eq in
    let m = c.args.part.now in
    let had : by_key same m c.args.key.now ≡ Some c.unwrap-kept.result.now =
    kept_at same m m c.args.at c.args.key.now c.get_index_mut.result c.unwrap-kept.result refl c.requires.there
    c.unwrap-kept.ensures c.get_index_mut.ensures.value in
    on_err c.raise.result (λ stay. stays_entry same g.met.K.Exact.exact (by_key same m)
    (by_key same (with_value_at m c.args.at c.raise.new.self)) c.args.key.now (Some c.raise.new.self)
    (put_at same g.met.K.Eq.laws m c.args.at c.args.key.now c.raise.new.self c.get_index_mut.ensures.unique c.requires.there)
    (λ k. stay k ∙ ap (λ o. sums_at o k) (sym had))) c.raise.ensures.err

-- there are as many entries
pub returns-clause-few : goal.returns-clause-few
returns-clause-few g c =
    let m = c.args.part.now in
    let put : length (set_value_at m.entries c.args.at c.raise.new.self) ≡ length m.entries = length-set_value_at m.entries c.args.at c.raise.new.self in
    omega (arith, put)
