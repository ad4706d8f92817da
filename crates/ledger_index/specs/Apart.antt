-- Which accounts stand in pages alone. It serves to state what private functions keep.
use Rattle.std.specs.Prelude.{◌≡◌, ℕ, Some}
use Rattle.accounts.specs.declared.account.Account.{Account}
use Rattle.ledger_keys.specs.declared.seat.Seat.{Seat}
use Rattle.ledger_index.specs.declared.unpaged.Unpaged.{Unpaged}
use Rattle.ledger_keys.specs.Seat.{seat_of}
use Rattle.ledger_index.specs.Unpaged.{sums_of}

-- no sums stand elsewhere for an account that has a seat in a page
abbrev pub AreApart : Unpaged → Type 0
AreApart unpaged = (account : Account) (seat : Seat) → seat_of account ≡ Some seat → (n : ℕ) → sums_of unpaged account n ≡ 0
