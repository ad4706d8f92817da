use Rattle.std.proofs.Common.{ap, length, refl, sym, ◌∙◌}
use Rattle.std.specs.List.{slice_get}
use Rattle.std.proofs.lemmas.Option.{slice_get_read}
use Rattle.ledger_maps.proofs.PlacedLaws.{stands}
use Rattle.ledger_index.proofs.table.Table.seen.Goals as goal

-- the keys of a part have its number
pub returns : goal.returns
returns g c =
    let parts = c.args.self.now.parts.items in
    let part = c.in-Some.part.now in
    let lookup = c.in-Some.ensures.lookup in
    let there = ap (λ ps. slice_get ps c.args.number) (sym c.deref.ensures.value) ∙ slice_get_read c.deref.result.now (length c.deref.result.now) c.args.number part refl lookup.3.0 lookup.1 in
    let entry = c.in-Some-get_index.ensures in
    let value = entry.value in
    let home = (c.args.self.now.fit c.args.number part there).home c.in-Some-get_index.key.now c.in-Some-get_index.field-0-1.now value in
    (sym home, record { part = part; here = ap (slice_get parts) home ∙ there; stands = stands g.K.PartialEq.eq part _ _ c.in-Some-get_index.field-0-1.now (sym entry.entry) value })
