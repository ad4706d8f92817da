-- What the tables of accounts with an entry each say: the sums of all accounts, and for which of them an entry stands. It serves to state
-- what private functions keep.
use Rattle.std.specs.Prelude.{◌≡◌, ◌↔◌, ℕ, ◌+◌, Bool, false, Option, Some, None, is_some}
use Rattle.std.specs.BTreeMap.{btree_map_len}
use Rattle.accounts.specs.declared.account.Account.{Account}
use Rattle.accounts.specs.Tally.{Sums}
use Rattle.ledger_keys.specs.declared.kept.Kept.{Kept}
use Rattle.ledger_index.specs.declared.singles.Singles.{Singles}
use Rattle.ledger_keys.specs.declared.place.Place.{Place}
use Rattle.ledger_keys.specs.declared.long_place.LongPlace.{LongPlace}
use Rattle.ledger_maps.specs.Entries.{Entries, by_account, by_parts, count_in}
use Rattle.ledger_keys.specs.LongPlace.{is_same_long, long_of, part_of as long_part}
use Rattle.ledger_keys.specs.Place.{is_same_place, part_of, place_of}
use Rattle.ledger_keys.specs.Kept.{sums_at}

-- what is kept of an account, if anything is: under its place, or where it has none under its long place, or else under
-- the account itself
abbrev pub entry_at : Option Place → Option LongPlace → Entries Place → Entries LongPlace → Option Kept → Option Kept
entry_at (Some place) long short longer whole = short place
entry_at None (Some place) short longer whole = longer place
entry_at None None short longer whole = whole

-- the entries of the two tables of a ledger that are by places
abbrev pub short_in : Singles → Entries Place
short_in ledger = by_parts is_same_place part_of ledger.short.parts.items

abbrev pub long_in : Singles → Entries LongPlace
long_in ledger = by_parts is_same_long long_part ledger.long.parts.items

unfoldable pub entry_of : Singles → Account → Option Kept
entry_of ledger account =
    entry_at (place_of account) (long_of account) (short_in ledger) (long_in ledger)
    (by_account ledger.whole.entries account)

-- the sums of all accounts, by the number of the field
unfoldable pub sums_of : Singles → Sums
sums_of ledger account field = sums_at (entry_of ledger account) field

-- whether an entry stands for an account
unfoldable pub has_entry : Singles → Account → Bool
has_entry ledger account = is_some (entry_of ledger account)

-- An entry stands for exactly the accounts whose sums are not all zero.
abbrev pub IsTidy : Singles → Type 0
IsTidy ledger = (account : Account) → (has_entry ledger account ≡ false) ↔ ((field : ℕ) → sums_of ledger account field ≡ 0)

-- how many entries stand
unfoldable pub entries_of : Singles → ℕ
entries_of ledger =
    count_in ledger.short.parts.items + (count_in ledger.long.parts.items + btree_map_len ledger.whole.entries)
