use Rattle.std.proofs.Common.{arith, length, refl, sym}
use Rattle.std.proofs.lemmas.Option.{slice_get_read}
use Rattle.ledger_maps.proofs.EntryLaws.{on_err}
use Rattle.ledger_maps.proofs.NamesLaws.{counted_part, counted_set, fit_set, posted_set, rests_set}
use Rattle.ledger_maps.proofs.PartLaws.{count_set}
use Rattle.verdict.proofs.Answers.{each_ok}
use Rattle.ledger_index.proofs.table.Table+LongPlace.post_at.Goals as goal

pub invariant_of-self : goal.invariant_of-self
invariant_of-self c =
    let parts = c.args.self.now.parts.items in
    let within = c.in-Some.ensures.item.3.0 in
    let there = slice_get_read parts (length parts) c.part.result c.in-Some.part.now refl within c.in-Some.ensures.item.1 in
    record {
      fit = fit_set parts c.part.result c.in-Some.part.now c.post_at.new.map within there c.args.name.now.place (sym c.part.ensures) c.args.self.now.fit
          (c.post_at.ensures.counted (counted_part parts c.part.result c.in-Some.part.now c.post_at.new.map within there c.args.self.now.fit c.requires.all)) c.post_at.ensures.others;
    }

pub returns-in-Some-clause-ok : goal.returns-in-Some-clause-ok
returns-in-Some-clause-ok c =
    let parts = c.args.self.now.parts.items in
    let within = c.in-Some.ensures.item.3.0 in
    let there = slice_get_read parts (length parts) c.part.result c.in-Some.part.now refl within c.in-Some.ensures.item.1 in
    each_ok c.post_at.result (λ full is. posted_set parts c.part.result c.in-Some.part.now c.post_at.new.map within there c.args.name.now (sym c.part.ensures) c.args.may_begin c.args.field c.args.amount full is)
    c.post_at.ensures.ok

pub returns-in-Some-clause-err : goal.returns-in-Some-clause-err
returns-in-Some-clause-err c =
    let parts = c.args.self.now.parts.items in
    let within = c.in-Some.ensures.item.3.0 in
    let there = slice_get_read parts (length parts) c.part.result c.in-Some.part.now refl within c.in-Some.ensures.item.1 in
    on_err c.post_at.result (λ rest. rests_set parts c.part.result c.in-Some.part.now c.post_at.new.map within there rest) c.post_at.ensures.err

pub returns-in-Some-clause-counted : goal.returns-in-Some-clause-counted
returns-in-Some-clause-counted c =
    let parts = c.args.self.now.parts.items in
    let within = c.in-Some.ensures.item.3.0 in
    let there = slice_get_read parts (length parts) c.part.result c.in-Some.part.now refl within c.in-Some.ensures.item.1 in
    counted_set parts c.part.result c.in-Some.part.now c.post_at.new.map within there c.requires.all (c.post_at.ensures.counted (counted_part parts c.part.result c.in-Some.part.now c.post_at.new.map within there c.args.self.now.fit c.requires.all))

pub returns-in-Some-clause-few : goal.returns-in-Some-clause-few
returns-in-Some-clause-few c =
    let parts = c.args.self.now.parts.items in
    let within = c.in-Some.ensures.item.3.0 in
    let there = slice_get_read parts (length parts) c.part.result c.in-Some.part.now refl within c.in-Some.ensures.item.1 in
    omega (arith, count_set parts c.part.result c.in-Some.part.now c.post_at.new.map there, c.post_at.ensures.few)
