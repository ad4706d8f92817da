use Rattle.std.proofs.Common.{◌<◌, arith, refl, sym, length, slice_set, subst}
use Rattle.std.proofs.lemmas.Option.{slice_get_read, slice_get_within}
use Rattle.ledger_maps.specs.Entries.{Changes, by_parts}
use Rattle.ledger_keys.specs.Sums.{lower}
use Rattle.ledger_keys.proofs.SumLaws.{lower_none}
use Rattle.ledger_maps.proofs.PartLaws.{changes_part, fit_part, others_stay}
use Rattle.ledger_index.proofs.table.Table.take.Goals as goal

pub invariant_of-self : goal.invariant_of-self
invariant_of-self g c =
    let parts = c.index_of.new.self.parts.items in
    let there = slice_get_read parts (length parts) c.part.result c.in-Some-get_mut.part.now refl c.in-Some-get_mut.ensures.item.3.0 c.in-Some-get_mut.ensures.item.1 in record {
      fit = fit_part g.K.PartialEq.eq g.met.K.Exact.exact g.K.Exact.part_of parts c.part.result c.in-Some-get_mut.part.now c.take_at.new.part c.in-Some-get_mut.ensures.item.3.0 there
          c.args.key.now (sym c.part.ensures) c.index_of.new.self.fit c.take_at.ensures.tidy
          (others_stay g.K.PartialEq.eq lower lower_none _ _ c.args.key.now c.args.field c.args.amount c.take_at.ensures.changes);
    }

pub returns-in-Some-get_mut : goal.returns-in-Some-get_mut
returns-in-Some-get_mut g c =
    let same = g.K.PartialEq.eq in
    let number = g.K.Exact.part_of in
    let parts = c.index_of.new.self.parts.items in
    let there = slice_get_read parts (length parts) c.part.result c.in-Some-get_mut.part.now refl c.in-Some-get_mut.ensures.item.3.0 c.in-Some-get_mut.ensures.item.1 in
    subst (λ v. Changes same lower (by_parts same number v.items) (by_parts same number (slice_set parts c.part.result c.take_at.new.part)) c.args.key.now c.args.field c.args.amount)
    c.in-Some.ensures.parts
    (changes_part same g.met.K.Exact.exact number parts c.part.result c.in-Some-get_mut.part.now c.take_at.new.part
    c.in-Some-get_mut.ensures.item.3.0 there lower lower_none c.args.key.now (sym c.part.ensures) c.args.field c.args.amount c.take_at.ensures.changes)

-- there is a part, since an entry was found in it
pub returns-in_default-get_mut : goal.returns-in_default-get_mut
returns-in_default-get_mut g c =
    let parts = c.args.self.now.parts.items in
    let within : g.K.Exact.part_of c.args.key.now < length parts = slice_get_within parts (g.K.Exact.part_of c.args.key.now) c.in-Some.ensures.found.part c.in-Some.ensures.found.here in
    let there : c.part.result < length c.index_of.new.self.parts.items =
    subst (λ v. c.part.result < length v.items) (sym c.in-Some.ensures.parts) (subst (λ n. n < length parts) (sym c.part.ensures) within) in
    absurd (cc (c.in_default-get_mut.ensures.variant.1 (omega (arith, there, c.index_of.new.self.parts.ok))))
