-- Which accounts with seats are still to be judged. It serves to state what private functions keep.
use Rattle.std.specs.Prelude.{ℕ, Bool, false, ◌&&◌, ◌||◌, nat_le, List, Option, Some, None, is_some}
use Rattle.std.specs.Map.{lookup}
use Rattle.accounts.specs.declared.account.Account.{Account}
use Rattle.ledger_maps.specs.declared.page.Page.{Page}
use Rattle.ledger_keys.specs.declared.seat.PageKey.{PageKey}
use Rattle.ledger_keys.specs.declared.seat.Seat.{Seat}
use Rattle.ledger_keys.specs.Seat.{is_same_page, seat_of}

-- whether a seat is in one of these pages
abbrev pub is_within : List (PageKey × Page) → Option Seat → Bool
is_within pages None = false
is_within pages (Some seat) = is_some (lookup (is_same_page seat.page) pages)

-- or in this one, from a slot on
abbrev pub is_within_from : List (PageKey × Page) → PageKey → ℕ → Option Seat → Bool
is_within_from pages key from None = false
is_within_from pages key from (Some seat) = is_some (lookup (is_same_page seat.page) pages) || (is_same_page seat.page key && nat_le from seat.slot)

-- the accounts whose seats are in one of these pages
unfoldable pub left_pages : List (PageKey × Page) → Account → Bool
left_pages pages account = is_within pages (seat_of account)

-- or in this one, from a slot on
unfoldable pub left_slots : List (PageKey × Page) → PageKey → ℕ → Account → Bool
left_slots pages key from account = is_within_from pages key from (seat_of account)
