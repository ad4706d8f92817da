use Rattle.std.proofs.Common.{◌≡◌, refl, sym, subst}
use Rattle.std.specs.Prelude.{Some, None}
use Rattle.indexmap.specs.IndexMap.{with_value_at}
use Rattle.ledger_maps.specs.Entries.{by_key}
use Rattle.ledger_maps.specs.Pages.{SlotChanges, slots_of}
use Rattle.ledger_keys.specs.Seat.{is_same_page}
use Rattle.ledger_keys.specs.SeatLaws.{page_equiv}
use Rattle.ledger_keys.specs.Sums.{lower}
use Rattle.ledger_keys.proofs.SumLaws.{lower_none}
use Rattle.ledger_maps.proofs.PagesLaws.{lowered_away, page_stands, pages_stand, seats_changed}
use Rattle.ledger_maps.proofs.PlacedLaws.{gone_placed, kept_at, put_at}
use Rattle.ledger_maps.proofs.pages.take_from.Goals as goal

-- the page went away
pub returns-then-is_zero-clause-changes : goal.returns-then-is_zero-clause-changes
returns-then-is_zero-clause-changes c =
    let m = c.args.map.now in
    let key = c.args.seat.now.page in
    let gone = gone_placed is_same_page page_equiv m m c.swap_remove_index.new.self c.args.at key c.lower.new.self c.swap_remove_index.result
    refl c.get_index_mut.ensures.unique c.requires.there c.swap_remove_index.ensures.entry c.swap_remove_index.ensures.updates in
    let had : by_key is_same_page m key ≡ Some c.unwrap-page.result.now = kept_at is_same_page m m c.args.at key c.get_index_mut.result c.unwrap-page.result refl c.requires.there
    c.unwrap-page.ensures c.get_index_mut.ensures.value in
    seats_changed (by_key is_same_page m) (by_key is_same_page c.swap_remove_index.new.self) key None gone lower lower_none c.args.seat.now.slot c.args.field c.args.amount
    (subst (λ o. SlotChanges lower (slots_of o) (slots_of None) c.args.seat.now.slot c.args.field c.args.amount) (sym had)
    (lowered_away c.unwrap-page.result.now.slots.items c.lower.new.self.slots.items c.args.seat.now.slot c.args.field c.args.amount c.lower.ensures (c.if-is_zero.ensures.0 refl)))

pub returns-then-is_zero-clause-stand : goal.returns-then-is_zero-clause-stand
returns-then-is_zero-clause-stand c =
    let m = c.args.map.now in
    let key = c.args.seat.now.page in
    let gone = gone_placed is_same_page page_equiv m m c.swap_remove_index.new.self c.args.at key c.lower.new.self c.swap_remove_index.result
    refl c.get_index_mut.ensures.unique c.requires.there c.swap_remove_index.ensures.entry c.swap_remove_index.ensures.updates in
    λ pages. pages_stand (by_key is_same_page m) (by_key is_same_page c.swap_remove_index.new.self) key None gone pages (λ p at. absurd (cc at))

-- it has the sums that are left
pub returns-else-is_zero-clause-changes : goal.returns-else-is_zero-clause-changes
returns-else-is_zero-clause-changes c =
    let m = c.args.map.now in
    let key = c.args.seat.now.page in
    let put = put_at is_same_page page_equiv m c.args.at key c.lower.new.self c.get_index_mut.ensures.unique c.requires.there in
    let had : by_key is_same_page m key ≡ Some c.unwrap-page.result.now = kept_at is_same_page m m c.args.at key c.get_index_mut.result c.unwrap-page.result refl c.requires.there
    c.unwrap-page.ensures c.get_index_mut.ensures.value in
    seats_changed (by_key is_same_page m) (by_key is_same_page (with_value_at m c.args.at c.lower.new.self)) key (Some c.lower.new.self) put lower lower_none c.args.seat.now.slot c.args.field c.args.amount
    (subst (λ o. SlotChanges lower (slots_of o) c.lower.new.self.slots.items c.args.seat.now.slot c.args.field c.args.amount) (sym had) c.lower.ensures)

pub returns-else-is_zero-clause-stand : goal.returns-else-is_zero-clause-stand
returns-else-is_zero-clause-stand c =
    let m = c.args.map.now in
    let key = c.args.seat.now.page in
    let put = put_at is_same_page page_equiv m c.args.at key c.lower.new.self c.get_index_mut.ensures.unique c.requires.there in
    λ pages. page_stands (by_key is_same_page m) (by_key is_same_page (with_value_at m c.args.at c.lower.new.self)) key (Some c.lower.new.self) put c.lower.new.self refl pages
    (λ zeros. absurd (cc (c.if-is_zero.ensures.1 zeros)))
