use Rattle.std.proofs.Common.{◌≡◌, refl, rules, sym, subst}
use Rattle.std.specs.Prelude.{Some, None}
use Rattle.ledger_maps.specs.Entries.{by_key}
use Rattle.ledger_maps.specs.Pages.{SlotChanges, SlotsStay, slots_of}
use Rattle.ledger_keys.specs.Seat.{is_same_page}
use Rattle.ledger_keys.specs.Sums.{raise}
use Rattle.verdict.proofs.Answers.{on_err}
use Rattle.ledger_maps.proofs.PagesLaws.{one_stands, entries_raised, entries_stay, page_stands}
use Rattle.ledger_maps.proofs.pages.add_to.Goals as goal

-- the page stood there
pub returns-in_ok-full-in-Occupied-clause-ok : goal.returns-in_ok-full-in-Occupied-clause-ok
returns-in_ok-full-in-Occupied-clause-ok c =
    let had : by_key is_same_page c.args.map.now c.args.seat.now.page ≡ Some c.into_mut.result.now = search rules in
    entries_raised c.args.map.now.entries _ c.args.seat.now.page (Some c.raise.new.self) (search rules) c.args.seat.now.slot c.args.field c.args.amount
    (subst (λ o. SlotChanges raise (slots_of o) c.raise.new.self.slots.items c.args.seat.now.slot c.args.field c.args.amount) (sym had) c.in_ok-full-in-Occupied.ensures.ok)

pub returns-in_err-full-in-Occupied-clause-err : goal.returns-in_err-full-in-Occupied-clause-err
returns-in_err-full-in-Occupied-clause-err c =
    let had : by_key is_same_page c.args.map.now c.args.seat.now.page ≡ Some c.into_mut.result.now = search rules in
    on_err _ (entries_stay c.args.map.now.entries _ c.args.seat.now.page (Some c.raise.new.self) (search rules)
    (subst (λ o. SlotsStay (slots_of o) c.raise.new.self.slots.items) (sym had) c.in_err-full-in-Occupied.ensures.err))

-- there stood none
pub returns-in-Ok-clause-ok : goal.returns-in-Ok-clause-ok
returns-in-Ok-clause-ok c =
    let none : by_key is_same_page c.args.map.now c.args.seat.now.page ≡ None = search rules in
    entries_raised c.args.map.now.entries _ c.args.seat.now.page (Some c.in-Ok.page) (search rules) c.args.seat.now.slot c.args.field c.args.amount
    (subst (λ o. SlotChanges raise (slots_of o) c.in-Ok.page.slots.items c.args.seat.now.slot c.args.field c.args.amount) (sym none) c.in-Ok.ensures)

pub returns-in-Ok-clause-stand : goal.returns-in-Ok-clause-stand
returns-in-Ok-clause-stand c =
    λ pages. page_stands (by_key is_same_page c.args.map.now) _ c.args.seat.now.page (Some c.in-Ok.page) (search rules) c.in-Ok.page refl pages
    (one_stands c.in-Ok.page.slots.items c.args.seat.now.slot c.args.field c.args.amount c.in-Ok.ensures c.requires.named c.requires.more)
