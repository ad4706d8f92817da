use Rattle.std.proofs.Common.{arith, ap, refl, sym, length}
use Rattle.std.proofs.lemmas.Option.{slice_get_read}
use Rattle.ledger_keys.specs.Kept.{sums_at}
use Rattle.ledger_keys.specs.Sums.{raise}
use Rattle.verdict.proofs.Answers.{ok_follows}
use Rattle.ledger_keys.proofs.SumLaws.{raise_none}
use Rattle.ledger_maps.proofs.EntryLaws.{full_as, on_err}
use Rattle.ledger_maps.proofs.PartLaws.{changes_part, count_set, fit_part, here_new, others_added, stays_part}
use Rattle.ledger_index.proofs.table.Table.add_at.Goals as goal

pub invariant_of-self : goal.invariant_of-self
invariant_of-self g c =
    let parts = c.args.self.now.parts.items in
    let there = slice_get_read parts (length parts) c.args.number c.in-Some.part.now refl c.in-Some.ensures.item.3.0 c.in-Some.ensures.item.1 in record {
      fit = fit_part g.K.PartialEq.eq g.met.K.Exact.exact g.K.Exact.part_of parts c.args.number c.in-Some.part.now c.add_at.new.part c.in-Some.ensures.item.3.0 there
          c.args.key.now (sym c.requires.home) c.args.self.now.fit c.add_at.ensures.tidy
          (others_added g.K.PartialEq.eq _ _ c.args.key.now c.args.field c.args.amount c.add_at.result c.add_at.ensures.ok c.add_at.ensures.err);
    }

pub returns-in-Some-clause-ok : goal.returns-in-Some-clause-ok
returns-in-Some-clause-ok g c =
    let parts = c.args.self.now.parts.items in
    let there = slice_get_read parts (length parts) c.args.number c.in-Some.part.now refl c.in-Some.ensures.item.3.0 c.in-Some.ensures.item.1 in
    ok_follows c.add_at.result (λ is. changes_part g.K.PartialEq.eq g.met.K.Exact.exact g.K.Exact.part_of parts c.args.number c.in-Some.part.now c.add_at.new.part
    c.in-Some.ensures.item.3.0 there raise raise_none c.args.key.now (sym c.requires.home) c.args.field c.args.amount is) c.add_at.ensures.ok

pub returns-in-Some-clause-full : goal.returns-in-Some-clause-full
returns-in-Some-clause-full g c =
    let parts = c.args.self.now.parts.items in
    let there = slice_get_read parts (length parts) c.args.number c.in-Some.part.now refl c.in-Some.ensures.item.3.0 c.in-Some.ensures.item.1 in
    full_as c.add_at.result _ _ (ap (λ o. sums_at o c.args.field) (sym (here_new g.K.PartialEq.eq g.met.K.Exact.exact g.K.Exact.part_of parts c.args.number
    c.in-Some.part.now c.add_at.new.part c.in-Some.ensures.item.3.0 there c.args.key.now c.requires.home))) c.add_at.ensures.full

pub returns-in-Some-clause-err : goal.returns-in-Some-clause-err
returns-in-Some-clause-err g c =
    let parts = c.args.self.now.parts.items in
    let there = slice_get_read parts (length parts) c.args.number c.in-Some.part.now refl c.in-Some.ensures.item.3.0 c.in-Some.ensures.item.1 in
    on_err c.add_at.result (λ is. stays_part g.K.PartialEq.eq g.met.K.Exact.exact g.K.Exact.part_of parts c.args.number c.in-Some.part.now c.add_at.new.part
    c.in-Some.ensures.item.3.0 there is) c.add_at.ensures.err

-- there is an entry more at most
pub returns-in-Some-clause-few : goal.returns-in-Some-clause-few
returns-in-Some-clause-few g c =
    let parts = c.args.self.now.parts.items in
    let there = slice_get_read parts (length parts) c.args.number c.in-Some.part.now refl c.in-Some.ensures.item.3.0 c.in-Some.ensures.item.1 in
    omega (arith, count_set parts c.args.number c.in-Some.part.now c.add_at.new.part there, c.add_at.ensures.few)
