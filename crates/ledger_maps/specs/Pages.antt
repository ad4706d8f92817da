-- The sums that pages keep. It serves to state what private functions keep.
use Rattle.std.specs.Prelude.{◌≡◌, ℕ, ◌&&◌, ◌==◌, nat_lt, List, [], Option, Some, None, slice_get, if◌then◌else◌}
use Rattle.indexmap.specs.IndexMap.{IndexMap}
use Rattle.ledger_keys.specs.declared.kept.Kept.{Kept}
use Rattle.ledger_maps.specs.declared.page.Page.{Page}
use Rattle.ledger_keys.specs.declared.seat.PageKey.{PageKey}
use Rattle.ledger_keys.specs.declared.seat.Seat.{Seat}
use Rattle.ledger_maps.specs.Entries.{Entries, by_key}
use Rattle.ledger_keys.specs.Kept.{sums_at}
use Rattle.ledger_keys.specs.Seat.{is_same_page}

-- what is kept of the accounts of a page, in the order of their slots
abbrev pub slots_of : Option Page → List Kept
slots_of None = []
slots_of (Some page) = page.slots.items

-- what is kept of the account of each seat, by which pages stand
abbrev pub seats_by : (PageKey → Option Page) → Entries Seat
seats_by pages seat = slice_get (slots_of (pages seat.page)) seat.slot

abbrev pub seats_in : {S : Type 0} → IndexMap PageKey Page S → Entries Seat
seats_in pages = seats_by (by_key is_same_page pages)

-- an amount to one sum of the account of a slot changed exactly that one
abbrev pub SlotChanges : (ℕ → ℕ → ℕ) → List Kept → List Kept → ℕ → ℕ → ℕ → Type 0
SlotChanges how old new slot field amount =
    (i n : ℕ)
    → sums_at (slice_get new i) n ≡ how (if slot == i && (field == n && nat_lt n 9) then amount else 0) (sums_at (slice_get old i) n)

-- all sums of a page stayed
abbrev pub SlotsStay : List Kept → List Kept → Type 0
SlotsStay old new = (i n : ℕ) → sums_at (slice_get new i) n ≡ sums_at (slice_get old i) n

-- all sums of a page are zero
abbrev pub AreZero : List Kept → Type 0
AreZero slots = (i n : ℕ) → sums_at (slice_get slots i) n ≡ 0

-- no page stands whose sums are all zero
abbrev pub ArePages : (PageKey → Option Page) → Type 0
ArePages pages = (key : PageKey) (page : Page) → pages key ≡ Some page → AreZero page.slots.items → ⊥

-- the same of the pages of a map
abbrev pub StandIn : {S : Type 0} → IndexMap PageKey Page S → Type 0
StandIn pages = ArePages (by_key is_same_page pages)
