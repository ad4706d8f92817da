use Rattle.std.proofs.Common.{◌<◌, arith, ap, refl, sym, length, subst}
use Rattle.std.proofs.lemmas.Option.{slice_get_read}
use Rattle.ledger_keys.specs.Kept.{sums_at}
use Rattle.ledger_keys.specs.Sums.{greatest, raise}
use Rattle.ledger_keys.proofs.SumLaws.{raise_none}
use Rattle.verdict.proofs.Answers.{on_err}
use Rattle.ledger_maps.proofs.PartLaws.{changes_part, count_set, fit_part, here_new, others_added, stays_part}
use Rattle.ledger_index.proofs.table.Table.add_by_hash.Goals as goal

-- the amount was added
pub invariant_of-self : goal.invariant_of-self
invariant_of-self g c =
    let parts = c.args.self.now.parts.items in
    let there = slice_get_read parts (length parts) c.part.result c.in-Some.part.now refl c.in-Some.ensures.item.3.0 c.in-Some.ensures.item.1 in record {
      fit = fit_part g.K.PartialEq.eq g.met.K.Exact.exact g.K.Exact.part_of parts c.part.result c.in-Some.part.now c.add_by_hash.new.part c.in-Some.ensures.item.3.0 there
          c.args.key.now (sym c.part.ensures) c.args.self.now.fit c.add_by_hash.ensures.tidy
          (others_added g.K.PartialEq.eq _ _ c.args.key.now c.args.field c.args.amount c.add_by_hash.result c.add_by_hash.ensures.ok c.add_by_hash.ensures.err);
    }

pub returns-in_ok-full-in-Some-clause-ok : goal.returns-in_ok-full-in-Some-clause-ok
returns-in_ok-full-in-Some-clause-ok g c =
    let parts = c.args.self.now.parts.items in
    let there = slice_get_read parts (length parts) c.part.result c.in-Some.part.now refl c.in-Some.ensures.item.3.0 c.in-Some.ensures.item.1 in
    changes_part g.K.PartialEq.eq g.met.K.Exact.exact g.K.Exact.part_of parts c.part.result c.in-Some.part.now c.add_by_hash.new.part
    c.in-Some.ensures.item.3.0 there raise raise_none c.args.key.now (sym c.part.ensures) c.args.field c.args.amount c.in_ok-full-in-Some.ensures.ok

pub returns-in_ok-full-in-Some-clause-full : goal.returns-in_ok-full-in-Some-clause-full
returns-in_ok-full-in-Some-clause-full g c =
    let parts = c.args.self.now.parts.items in
    let there = slice_get_read parts (length parts) c.part.result c.in-Some.part.now refl c.in-Some.ensures.item.3.0 c.in-Some.ensures.item.1 in
    λ none. subst (λ n. n < greatest) (ap (λ o. sums_at o c.args.field) (sym (here_new g.K.PartialEq.eq g.met.K.Exact.exact g.K.Exact.part_of parts c.part.result
    c.in-Some.part.now c.add_by_hash.new.part c.in-Some.ensures.item.3.0 there c.args.key.now c.part.ensures))) (c.in_ok-full-in-Some.ensures.full none)

pub returns-in_ok-full-in-Some-clause-few : goal.returns-in_ok-full-in-Some-clause-few
returns-in_ok-full-in-Some-clause-few g c =
    let parts = c.args.self.now.parts.items in
    let there = slice_get_read parts (length parts) c.part.result c.in-Some.part.now refl c.in-Some.ensures.item.3.0 c.in-Some.ensures.item.1 in
    omega (arith, count_set parts c.part.result c.in-Some.part.now c.add_by_hash.new.part there, c.add_by_hash.ensures.few)

-- it was not
pub invariant_of-self-in-Some : goal.invariant_of-self-in-Some
invariant_of-self-in-Some g c =
    let parts = c.args.self.now.parts.items in
    let there = slice_get_read parts (length parts) c.part.result c.in-Some.part.now refl c.in-Some.ensures.item.3.0 c.in-Some.ensures.item.1 in record {
      fit = fit_part g.K.PartialEq.eq g.met.K.Exact.exact g.K.Exact.part_of parts c.part.result c.in-Some.part.now c.add_by_hash.new.part c.in-Some.ensures.item.3.0 there
          c.args.key.now (sym c.part.ensures) c.args.self.now.fit c.add_by_hash.ensures.tidy
          (others_added g.K.PartialEq.eq _ _ c.args.key.now c.args.field c.args.amount c.add_by_hash.result c.add_by_hash.ensures.ok c.add_by_hash.ensures.err);
    }

pub returns-in_err-full-in-Some-clause-err : goal.returns-in_err-full-in-Some-clause-err
returns-in_err-full-in-Some-clause-err g c =
    let parts = c.args.self.now.parts.items in
    let there = slice_get_read parts (length parts) c.part.result c.in-Some.part.now refl c.in-Some.ensures.item.3.0 c.in-Some.ensures.item.1 in
    on_err _ (stays_part g.K.PartialEq.eq g.met.K.Exact.exact g.K.Exact.part_of parts c.part.result c.in-Some.part.now c.add_by_hash.new.part
    c.in-Some.ensures.item.3.0 there c.in_err-full-in-Some.ensures.err)

pub returns-in_err-full-in-Some-clause-few : goal.returns-in_err-full-in-Some-clause-few
returns-in_err-full-in-Some-clause-few g c =
    let parts = c.args.self.now.parts.items in
    let there = slice_get_read parts (length parts) c.part.result c.in-Some.part.now refl c.in-Some.ensures.item.3.0 c.in-Some.ensures.item.1 in
    omega (arith, count_set parts c.part.result c.in-Some.part.now c.add_by_hash.new.part there, c.add_by_hash.ensures.few)
