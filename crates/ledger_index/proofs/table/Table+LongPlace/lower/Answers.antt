use Rattle.std.proofs.Common.{◌≡◌, length, refl, slice_set, subst, sym, ◌∙◌}
use Rattle.std.specs.Prelude.{Some, slice_get}
use Rattle.std.proofs.lemmas.Option.{slice_get_read}
use Rattle.verdict.proofs.Answers.{some_is}
use Rattle.ledger_maps.specs.Entries.{StandsAt, by_parts}
use Rattle.ledger_keys.specs.LongPlace.{is_same_long, part_of}
use Rattle.ledger_keys.specs.Name.{is_same_name}
use Rattle.ledger_maps.specs.Names.{CountedIn, names_in}
use Rattle.ledger_keys.specs.Shifts.{Shifts}
use Rattle.ledger_keys.specs.Side.{has_sums}
use Rattle.ledger_keys.specs.Sums.{lower}
use Rattle.ledger_keys.proofs.SumLaws.{lower_none}
use Rattle.ledger_maps.proofs.NamesLaws.{counted_part, counted_set, fit_set, has_set, nothing_taken, shifts_set}
use Rattle.ledger_index.proofs.table.Table+LongPlace.lower.Goals as goal

-- no entry of the name stands
pub returns-in_default-clause-less : goal.returns-in_default-clause-less
returns-in_default-clause-less c =
    subst (λ v. Shifts is_same_name lower (names_in c.args.self.now.parts.items) (names_in v.items) c.args.name.now c.args.field c.args.amount) (sym c.in_default.ensures.parts)
    (nothing_taken (by_parts is_same_long part_of c.args.self.now.parts.items) c.args.name.now (c.index_of.ensures.none c.in_default.is) c.args.field c.args.amount)

pub take_from-requires-clause-there : goal.take_from-requires-clause-there
take_from-requires-clause-there c =
    let parts = c.index_of.new.self.parts.items in
    let within = c.in-Some-get_mut.ensures.item.3.0 in
    let there = slice_get_read parts (length parts) c.part.result c.in-Some-get_mut.part.now refl within c.in-Some-get_mut.ensures.item.1 in
    let found = c.in-Some.ensures.found in
    let here : slice_get parts (part_of c.args.name.now.place) ≡ Some found.part =
    subst (λ v. slice_get v.items (part_of c.args.name.now.place) ≡ Some found.part) (sym c.in-Some.ensures.parts) found.here in
    let e : found.part ≡ c.in-Some-get_mut.part.now = some_is _ _ (sym here ∙ subst (λ i. slice_get parts i ≡ Some c.in-Some-get_mut.part.now) c.part.ensures there) in
    subst (λ m. StandsAt is_same_long m c.in-Some.at c.args.name.now.place) e found.stands

pub invariant_of-self : goal.invariant_of-self
invariant_of-self c =
    let parts = c.index_of.new.self.parts.items in
    let within = c.in-Some-get_mut.ensures.item.3.0 in
    let there = slice_get_read parts (length parts) c.part.result c.in-Some-get_mut.part.now refl within c.in-Some-get_mut.ensures.item.1 in
    record {
      fit = fit_set parts c.part.result c.in-Some-get_mut.part.now c.take_from.new.map within there c.args.name.now.place (sym c.part.ensures) c.index_of.new.self.fit
          (c.take_from.ensures.counted (counted_part parts c.part.result c.in-Some-get_mut.part.now c.take_from.new.map within there c.index_of.new.self.fit (subst (λ v. CountedIn v.items) (sym c.in-Some.ensures.parts) c.requires.all))) c.take_from.ensures.others;
    }

pub returns-in-Some-get_mut-clause-had : goal.returns-in-Some-get_mut-clause-had
returns-in-Some-get_mut-clause-had c =
    let parts = c.index_of.new.self.parts.items in
    let within = c.in-Some-get_mut.ensures.item.3.0 in
    let there = slice_get_read parts (length parts) c.part.result c.in-Some-get_mut.part.now refl within c.in-Some-get_mut.ensures.item.1 in
    c.take_from.ensures.had ∙ sym (has_set parts c.part.result c.in-Some-get_mut.part.now c.take_from.new.map within there c.args.name.now (sym c.part.ensures))
    ∙ (λ i. has_sums (names_in (c.in-Some.ensures.parts i).items c.args.name.now))

pub returns-in-Some-get_mut-clause-less : goal.returns-in-Some-get_mut-clause-less
returns-in-Some-get_mut-clause-less c =
    let parts = c.index_of.new.self.parts.items in
    let within = c.in-Some-get_mut.ensures.item.3.0 in
    let there = slice_get_read parts (length parts) c.part.result c.in-Some-get_mut.part.now refl within c.in-Some-get_mut.ensures.item.1 in
    subst (λ v. Shifts is_same_name lower (names_in v.items) (names_in (slice_set parts c.part.result c.take_from.new.map)) c.args.name.now c.args.field c.args.amount)
    c.in-Some.ensures.parts
    (shifts_set parts c.part.result c.in-Some-get_mut.part.now c.take_from.new.map within there c.args.name.now (sym c.part.ensures) lower lower_none c.args.field c.args.amount c.take_from.ensures.less)

pub returns-in-Some-get_mut-clause-counted : goal.returns-in-Some-get_mut-clause-counted
returns-in-Some-get_mut-clause-counted c =
    let parts = c.index_of.new.self.parts.items in
    let within = c.in-Some-get_mut.ensures.item.3.0 in
    let there = slice_get_read parts (length parts) c.part.result c.in-Some-get_mut.part.now refl within c.in-Some-get_mut.ensures.item.1 in
    counted_set parts c.part.result c.in-Some-get_mut.part.now c.take_from.new.map within there (subst (λ v. CountedIn v.items) (sym c.in-Some.ensures.parts) c.requires.all) (c.take_from.ensures.counted (counted_part parts c.part.result c.in-Some-get_mut.part.now c.take_from.new.map within there c.index_of.new.self.fit (subst (λ v. CountedIn v.items) (sym c.in-Some.ensures.parts) c.requires.all)))
