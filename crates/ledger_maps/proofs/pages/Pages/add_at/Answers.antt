use Rattle.std.proofs.Common.{◌≡◌, cond, refl, ap, sym, subst, ◌∙◌}
use Rattle.std.specs.Prelude.{Some, slice_get}
use Rattle.indexmap.specs.IndexMap.{with_value_at}
use Rattle.indexmap.specs.Layout.{length-set_value_at}
use Rattle.ledger_maps.specs.Entries.{by_key}
use Rattle.ledger_keys.specs.Kept.{sums_at}
use Rattle.ledger_maps.specs.Pages.{SlotChanges, SlotsStay, slots_of}
use Rattle.ledger_keys.specs.Seat.{is_same_page}
use Rattle.ledger_keys.specs.SeatLaws.{own_page, page_equiv}
use Rattle.ledger_keys.specs.Sums.{raise}
use Rattle.verdict.proofs.Answers.{ok_follows}
use Rattle.ledger_keys.proofs.SumLaws.{raise_none}
use Rattle.ledger_maps.proofs.EntryLaws.{full_as, on_err}
use Rattle.ledger_maps.proofs.PagesLaws.{made_stands, page_stands, seats_changed, seats_stay}
use Rattle.ledger_maps.proofs.PlacedLaws.{kept_at, put_at}
use Rattle.ledger_maps.proofs.pages.Pages.add_at.Goals as goal

pub invariant_of-self : goal.invariant_of-self
invariant_of-self c =
    let m = c.args.self.now.map in
    let key = c.args.seat.now.page in
    let put = put_at is_same_page page_equiv m c.args.at key c.raise.new.self c.get_index_mut.ensures.unique c.requires.there in
    let had = kept_at is_same_page m m c.args.at key c.get_index_mut.result c.unwrap-page.result refl c.requires.there
    c.unwrap-page.ensures c.get_index_mut.ensures.value in record {
      stand = page_stands (by_key is_same_page m) (by_key is_same_page (with_value_at m c.args.at c.raise.new.self)) key (Some c.raise.new.self) put c.raise.new.self refl c.args.self.now.stand
          (made_stands c.raise.result c.unwrap-page.result.now.slots.items c.raise.new.self.slots.items c.args.seat.now.slot c.args.field c.args.amount
          c.raise.ensures.ok c.raise.ensures.err (c.args.self.now.stand key c.unwrap-page.result.now had));
    }

pub returns-clause-ok : goal.returns-clause-ok
returns-clause-ok c =
    let m = c.args.self.now.map in
    let key = c.args.seat.now.page in
    let put = put_at is_same_page page_equiv m c.args.at key c.raise.new.self c.get_index_mut.ensures.unique c.requires.there in
    let had : by_key is_same_page m key ≡ Some c.unwrap-page.result.now = kept_at is_same_page m m c.args.at key c.get_index_mut.result c.unwrap-page.result refl c.requires.there
    c.unwrap-page.ensures c.get_index_mut.ensures.value in
    ok_follows c.raise.result (λ more. seats_changed (by_key is_same_page m) (by_key is_same_page (with_value_at m c.args.at c.raise.new.self)) key (Some c.raise.new.self) put raise raise_none
    c.args.seat.now.slot c.args.field c.args.amount
    (subst (λ o. SlotChanges raise (slots_of o) c.raise.new.self.slots.items c.args.seat.now.slot c.args.field c.args.amount) (sym had) more)) c.raise.ensures.ok

pub returns-clause-full : goal.returns-clause-full
returns-clause-full c =
    let m = c.args.self.now.map in
    let key = c.args.seat.now.page in
    let put = put_at is_same_page page_equiv m c.args.at key c.raise.new.self c.get_index_mut.ensures.unique c.requires.there key in
    full_as c.raise.result _ _
    (ap (λ o. sums_at (slice_get (slots_of o) c.args.seat.now.slot) c.args.field)
    (sym (put ∙ ap (λ b. cond b (Some c.raise.new.self) (by_key is_same_page m key)) (own_page key))))
    c.raise.ensures.full

pub returns-clause-err : goal.returns-clause-err
returns-clause-err c =
    let m = c.args.self.now.map in
    let key = c.args.seat.now.page in
    let put = put_at is_same_page page_equiv m c.args.at key c.raise.new.self c.get_index_mut.ensures.unique c.requires.there in
    let had : by_key is_same_page m key ≡ Some c.unwrap-page.result.now = kept_at is_same_page m m c.args.at key c.get_index_mut.result c.unwrap-page.result refl c.requires.there
    c.unwrap-page.ensures c.get_index_mut.ensures.value in
    on_err c.raise.result (λ stay. seats_stay (by_key is_same_page m) (by_key is_same_page (with_value_at m c.args.at c.raise.new.self)) key (Some c.raise.new.self) put
    (subst (λ o. SlotsStay (slots_of o) c.raise.new.self.slots.items) (sym had) stay)) c.raise.ensures.err

-- there are as many pages
pub returns-clause-few : goal.returns-clause-few
returns-clause-few c = length-set_value_at c.args.self.now.map.entries c.args.at c.raise.new.self
