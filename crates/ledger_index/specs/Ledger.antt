-- What a ledger says: the sums of all accounts, and for which of them an entry stands.
use Rattle.std.specs.Prelude.{◌≡◌, ◌↔◌, ℕ, ◌+◌, Bool, false, Option, Some, None}
use Rattle.indexmap.specs.IndexMap.{index_map_len}
use Rattle.accounts.specs.declared.account.Account.{Account}
use Rattle.accounts.specs.Tally.{Sums}
use Rattle.ledger_index.specs.declared.ledger.LedgerIndex.{LedgerIndex}
use Rattle.ledger_keys.specs.declared.seat.Seat.{Seat}
use Rattle.ledger_maps.specs.Entries.{Entries}
use Rattle.ledger_keys.specs.Kept.{stands, sums_at}
use Rattle.ledger_maps.specs.Names.{CountedIn}
use Rattle.ledger_maps.specs.Pages.{StandIn, seats_in}
use Rattle.ledger_keys.specs.Seat.{seat_of}
use Rattle.ledger_index.specs.Unpaged as unpaged

-- the sums of an account: those of its seat in a page, if it has one, or else those that stand in no page
abbrev pub sums_from : Option Seat → Entries Seat → (ℕ → ℕ) → ℕ → ℕ
sums_from (Some seat) seats rest field = sums_at (seats seat) field
sums_from None seats rest field = rest field

-- the sums of all accounts, by the number of the field
unfoldable pub sums_of : {L : Type 0} → LedgerIndex L → Sums
sums_of ledger account field = sums_from (seat_of account) (seats_in ledger.pages.map) (unpaged.sums_of ledger.unpaged account) field

-- whether an entry stands for an account: in the slot of its seat something that is not zero, or else an entry in no page
abbrev pub entry_from : Option Seat → Entries Seat → Bool → Bool
entry_from (Some seat) seats rest = stands (seats seat)
entry_from None seats rest = rest

unfoldable pub has_entry : {L : Type 0} → LedgerIndex L → Account → Bool
has_entry ledger account = entry_from (seat_of account) (seats_in ledger.pages.map) (unpaged.has_entry ledger.unpaged account)

-- An entry stands for exactly the accounts whose sums are not all zero, and no page and no name's entry stands without one.
pub record IsTidy {L : Type 0} (ledger : LedgerIndex L) : Type 0 where
  pub entries : (account : Account) → (has_entry ledger account ≡ false) ↔ ((field : ℕ) → sums_of ledger account field ≡ 0)
  pub pages : StandIn ledger.pages.map
  pub names : CountedIn ledger.unpaged.names.parts.items

-- how many entries stand, a page being one, and the two accounts of a name one
unfoldable pub entries_of : {L : Type 0} → LedgerIndex L → ℕ
entries_of ledger = index_map_len ledger.pages.map + unpaged.entries_of ledger.unpaged
