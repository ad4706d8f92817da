use Rattle.std.proofs.Common.{arith, length, refl, sym}
use Rattle.std.proofs.lemmas.Option.{slice_get_read}
use Rattle.ledger_maps.proofs.NamesLaws.{counted_part, counted_set, fit_set, posted_set, rests_set}
use Rattle.verdict.proofs.Answers.{on_err}
use Rattle.ledger_maps.proofs.PartLaws.{count_set}
use Rattle.ledger_index.proofs.table.Table+LongPlace.post_by_hash.Goals as goal

pub invariant_of-self : goal.invariant_of-self
invariant_of-self c =
    let parts = c.args.self.now.parts.items in
    let within = c.in-Some.ensures.item.3.0 in
    let there = slice_get_read parts (length parts) c.part.result c.in-Some.part.now refl within c.in-Some.ensures.item.1 in
    record {
      fit = fit_set parts c.part.result c.in-Some.part.now c.post_to.new.map within there c.args.name.now.place (sym c.part.ensures) c.args.self.now.fit
          (c.post_to.ensures.counted (counted_part parts c.part.result c.in-Some.part.now c.post_to.new.map within there c.args.self.now.fit c.requires.all)) c.post_to.ensures.others;
    }

pub invariant_of-self-in-Some : goal.invariant_of-self-in-Some
invariant_of-self-in-Some c =
    let parts = c.args.self.now.parts.items in
    let within = c.in-Some.ensures.item.3.0 in
    let there = slice_get_read parts (length parts) c.part.result c.in-Some.part.now refl within c.in-Some.ensures.item.1 in
    record {
      fit = fit_set parts c.part.result c.in-Some.part.now c.post_to.new.map within there c.args.name.now.place (sym c.part.ensures) c.args.self.now.fit
          (c.post_to.ensures.counted (counted_part parts c.part.result c.in-Some.part.now c.post_to.new.map within there c.args.self.now.fit c.requires.all)) c.post_to.ensures.others;
    }

pub returns-in_ok-full-in-Some-clause-ok : goal.returns-in_ok-full-in-Some-clause-ok
returns-in_ok-full-in-Some-clause-ok c =
    let parts = c.args.self.now.parts.items in
    let within = c.in-Some.ensures.item.3.0 in
    let there = slice_get_read parts (length parts) c.part.result c.in-Some.part.now refl within c.in-Some.ensures.item.1 in
    posted_set parts c.part.result c.in-Some.part.now c.post_to.new.map within there c.args.name.now (sym c.part.ensures) c.args.may_begin c.args.field c.args.amount c.in_ok-full-in-Some.full c.in_ok-full-in-Some.ensures.ok

pub returns-in_ok-full-in-Some-clause-none : goal.returns-in_ok-full-in-Some-clause-none
returns-in_ok-full-in-Some-clause-none c =
    let parts = c.args.self.now.parts.items in
    let within = c.in-Some.ensures.item.3.0 in
    let there = slice_get_read parts (length parts) c.part.result c.in-Some.part.now refl within c.in-Some.ensures.item.1 in
    λ none. omega (arith, count_set parts c.part.result c.in-Some.part.now c.post_to.new.map there, c.in_ok-full-in-Some.ensures.none none)

pub returns-in_err-full-in-Some-clause-err : goal.returns-in_err-full-in-Some-clause-err
returns-in_err-full-in-Some-clause-err c =
    let parts = c.args.self.now.parts.items in
    let within = c.in-Some.ensures.item.3.0 in
    let there = slice_get_read parts (length parts) c.part.result c.in-Some.part.now refl within c.in-Some.ensures.item.1 in
    on_err _ (rests_set parts c.part.result c.in-Some.part.now c.post_to.new.map within there c.in_err-full-in-Some.ensures.err)

pub returns-in_ok-full-in-Some-clause-counted : goal.returns-in_ok-full-in-Some-clause-counted
returns-in_ok-full-in-Some-clause-counted c =
    let parts = c.args.self.now.parts.items in
    let within = c.in-Some.ensures.item.3.0 in
    let there = slice_get_read parts (length parts) c.part.result c.in-Some.part.now refl within c.in-Some.ensures.item.1 in
    counted_set parts c.part.result c.in-Some.part.now c.post_to.new.map within there c.requires.all (c.post_to.ensures.counted (counted_part parts c.part.result c.in-Some.part.now c.post_to.new.map within there c.args.self.now.fit c.requires.all))

pub returns-in_err-full-in-Some-clause-counted : goal.returns-in_err-full-in-Some-clause-counted
returns-in_err-full-in-Some-clause-counted c =
    let parts = c.args.self.now.parts.items in
    let within = c.in-Some.ensures.item.3.0 in
    let there = slice_get_read parts (length parts) c.part.result c.in-Some.part.now refl within c.in-Some.ensures.item.1 in
    counted_set parts c.part.result c.in-Some.part.now c.post_to.new.map within there c.requires.all (c.post_to.ensures.counted (counted_part parts c.part.result c.in-Some.part.now c.post_to.new.map within there c.args.self.now.fit c.requires.all))

pub returns-in_ok-full-in-Some-clause-few : goal.returns-in_ok-full-in-Some-clause-few
returns-in_ok-full-in-Some-clause-few c =
    let parts = c.args.self.now.parts.items in
    let within = c.in-Some.ensures.item.3.0 in
    let there = slice_get_read parts (length parts) c.part.result c.in-Some.part.now refl within c.in-Some.ensures.item.1 in
    omega (arith, count_set parts c.part.result c.in-Some.part.now c.post_to.new.map there, c.post_to.ensures.few)

pub returns-in_err-full-in-Some-clause-few : goal.returns-in_err-full-in-Some-clause-few
returns-in_err-full-in-Some-clause-few c =
    let parts = c.args.self.now.parts.items in
    let within = c.in-Some.ensures.item.3.0 in
    let there = slice_get_read parts (length parts) c.part.result c.in-Some.part.now refl within c.in-Some.ensures.item.1 in
    omega (arith, count_set parts c.part.result c.in-Some.part.now c.post_to.new.map there, c.post_to.ensures.few)
