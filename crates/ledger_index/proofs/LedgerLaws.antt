-- What a ledger says once one of the sums is changed.
use Rattle.std.proofs.Common.{Bool, false, ◌≡◌, ℕ, ◌==◌, ◌&&◌, cond, refl, ap, sym, ◌∙◌}
use Rattle.std.specs.Prelude.{Option, Some, None, Result, Ok, Err, OnOk, OnErr, ◌↔◌, nat_lt}
use Rattle.std.proofs.Math.Path.{fun_ext}
use Rattle.accounts.specs.declared.account.Account.{Account}
use Rattle.accounts.specs.Sums.{is_same}
use Rattle.accounts.specs.Tally.{Sums, no_sums}
use Rattle.ledger_index.specs.declared.ledger.LedgerIndex.{LedgerIndex}
use Rattle.ledger_keys.specs.declared.seat.Seat.{Seat}
use Rattle.ledger_index.specs.declared.unpaged.Unpaged.{Unpaged}
use Rattle.ledger_index.specs.Apart.{AreApart}
use Rattle.ledger_maps.specs.Entries.{Changes, Entries, Stays}
use Rattle.ledger_keys.specs.Kept.{sums_at}
use Rattle.ledger_index.specs.Ledger.{IsTidy, entry_from, has_entry, sums_from, sums_of}
use Rattle.ledger_maps.specs.Pages.{seats_in}
use Rattle.ledger_keys.specs.Seat.{is_same_seat, seat_of}
use Rattle.ledger_index.specs.Unpaged as unpaged
use Rattle.ledger_keys.specs.Sums.{changed}
use Rattle.ledger_keys.proofs.SumLaws.{other_amount}
use Rattle.ledger_keys.proofs.KeptLaws.{stands_law}
use Rattle.ledger_keys.proofs.PlaceLaws.{apart, apart'}
use Rattle.ledger_keys.proofs.SeatLaws.{seats_alike}
use Rattle.ledger_index.proofs.UnpagedLaws.{is_tidy as unpaged_tidy}

module _ (how : ℕ → ℕ → ℕ) (none : (sum : ℕ) → how 0 sum ≡ sum) (account : Account) (field amount : ℕ) where
  -- what another account's sums are after it
  stays : (q : Account) (n sum : ℕ) → is_same account q ≡ false → sum ≡ how (cond (is_same account q && (field == n && nat_lt n 9)) amount 0) sum
  stays q n sum other = sym (none sum) ∙ ap (λ x. how x sum) (sym (other_amount (is_same account q) (field == n && nat_lt n 9) amount other))

  module _ (seats seats' : Entries Seat) (rest rest' : Sums) where
    seat_case : (s : Seat) → seat_of account ≡ Some s → Changes is_same_seat how seats seats' s field amount → rest' ≡ rest
        → (q : Account) (n : ℕ) (seat : Option Seat) → seat_of q ≡ seat
        → sums_from seat seats' (rest' q) n ≡ how (cond (is_same account q && (field == n && nat_lt n 9)) amount 0) (sums_from seat seats (rest q) n)
    seat_case s at is stay q n (Some t) other =
        is t n ∙ ap (λ b. how (cond (b && (field == n && nat_lt n 9)) amount 0) (sums_at (seats t) n)) (seats_alike account q s t at other)
    seat_case s at is stay q n None other = ap (λ (f : Sums). f q n) stay ∙ stays q n (rest q n) (apart seat_of account q s at other)

    unpaged_case : seat_of account ≡ None → rest' ≡ changed how rest account field amount → ((t : Seat) → seats' t ≡ seats t)
        → (q : Account) (n : ℕ) (seat : Option Seat) → seat_of q ≡ seat
        → sums_from seat seats' (rest' q) n ≡ how (cond (is_same account q && (field == n && nat_lt n 9)) amount 0) (sums_from seat seats (rest q) n)
    unfolding changed
    unpaged_case at is stay q n (Some t) other = ap (λ o. sums_at o n) (stay t) ∙ stays q n (sums_at (seats t) n) (apart' seat_of account q t at other)
    unpaged_case at is stay q n None other = ap (λ (f : Sums). f q n) is

  -- an amount to one of the sums of an account with a seat, and to one of another
  module _ {L : Type 0} (old new : LedgerIndex L) where
    pub seat_changed : (s : Seat) → seat_of account ≡ Some s → Changes is_same_seat how (seats_in old.pages.map) (seats_in new.pages.map) s field amount
        → unpaged.sums_of new.unpaged ≡ unpaged.sums_of old.unpaged → sums_of new ≡ changed how (sums_of old) account field amount
    unfolding changed sums_of
    seat_changed s at is stay = fun_ext (λ q. fun_ext (λ n.
        seat_case (seats_in old.pages.map) (seats_in new.pages.map) (unpaged.sums_of old.unpaged) (unpaged.sums_of new.unpaged) s at is stay q n (seat_of q) refl))

    pub unpaged_changed : seat_of account ≡ None → unpaged.sums_of new.unpaged ≡ changed how (unpaged.sums_of old.unpaged) account field amount
        → ((t : Seat) → seats_in new.pages.map t ≡ seats_in old.pages.map t) → sums_of new ≡ changed how (sums_of old) account field amount
    unfolding changed sums_of
    unpaged_changed at is stay = fun_ext (λ q. fun_ext (λ n.
        unpaged_case (seats_in old.pages.map) (seats_in new.pages.map) (unpaged.sums_of old.unpaged) (unpaged.sums_of new.unpaged) at is stay q n (seat_of q) refl))

  -- no account with a seat has an entry of its own then
  pub apart_changed : (old new : Unpaged) → seat_of account ≡ None → unpaged.sums_of new ≡ changed how (unpaged.sums_of old) account field amount → AreApart old → AreApart new
  unfolding changed
  apart_changed old new at is before = λ q s has n.
      ap (λ (f : Sums). f q n) is ∙ sym (stays q n (unpaged.sums_of old q n) (apart' seat_of account q s at has)) ∙ before q s has n

  pub apart_made : {A E : Type 0} (result : Result A E) (old new : Unpaged) → seat_of account ≡ None
      → OnOk result (unpaged.sums_of new ≡ changed how (unpaged.sums_of old) account field amount) → OnErr result (unpaged.sums_of new ≡ unpaged.sums_of old)
      → AreApart old → AreApart new
  apart_made (Ok a) old new at is stay before = apart_changed old new at is before
  apart_made (Err e) old new at is stay before = λ q s has n. ap (λ (f : Sums). f q n) stay ∙ before q s has n

from_stays : (seats seats' : Entries Seat) (rest rest' : ℕ → ℕ) → Stays seats seats' → ((n : ℕ) → rest' n ≡ rest n)
    → (seat : Option Seat) (n : ℕ) → sums_from seat seats' rest' n ≡ sums_from seat seats rest n
from_stays seats seats' rest rest' is1 is2 (Some s) n = is1 s n
from_stays seats seats' rest rest' is1 is2 None n = is2 n

-- nothing is changed
pub all_stay : {L : Type 0} (old new : LedgerIndex L) → Stays (seats_in old.pages.map) (seats_in new.pages.map)
    → unpaged.sums_of new.unpaged ≡ unpaged.sums_of old.unpaged → sums_of new ≡ sums_of old
unfolding sums_of
all_stay old new is1 is2 = fun_ext (λ q. fun_ext (λ n.
    from_stays (seats_in old.pages.map) (seats_in new.pages.map) (unpaged.sums_of old.unpaged q) (unpaged.sums_of new.unpaged q) is1
    (λ k. ap (λ (f : Sums). f q k) is2) (seat_of q) n))

-- where the sums of an account are kept
module _ {L : Type 0} (ledger : LedgerIndex L) (account : Account) where
  pub at_seat : (s : Seat) → seat_of account ≡ Some s → (n : ℕ) → sums_of ledger account n ≡ sums_at (seats_in ledger.pages.map s) n
  unfolding sums_of
  at_seat s at n = ap (λ o. sums_from o (seats_in ledger.pages.map) (unpaged.sums_of ledger.unpaged account) n) at

  pub at_unpaged : seat_of account ≡ None → (n : ℕ) → sums_of ledger account n ≡ unpaged.sums_of ledger.unpaged account n
  unfolding sums_of
  at_unpaged at n = ap (λ o. sums_from o (seats_in ledger.pages.map) (unpaged.sums_of ledger.unpaged account) n) at

tidy_case : (seat : Option Seat) (seats : Entries Seat) (rest : Bool) (sums : ℕ → ℕ) → (rest ≡ false) ↔ ((n : ℕ) → sums n ≡ 0)
    → (entry_from seat seats rest ≡ false) ↔ ((n : ℕ) → sums_from seat seats sums n ≡ 0)
tidy_case (Some s) seats rest sums tidy = stands_law (seats s)
tidy_case None seats rest sums tidy = tidy

-- an entry stands for exactly the accounts whose sums are not all zero
pub is_tidy : {L : Type 0} (ledger : LedgerIndex L) → IsTidy ledger
unfolding has_entry sums_of
is_tidy ledger = record {
  entries = λ account. tidy_case (seat_of account) (seats_in ledger.pages.map) (unpaged.has_entry ledger.unpaged account) (unpaged.sums_of ledger.unpaged account)
      (unpaged_tidy ledger.unpaged account);
  pages = ledger.pages.stand;
  names = ledger.unpaged.counted;
}

-- no sums at all
pub sums_none : {L : Type 0} (ledger : LedgerIndex L) → ((s : Seat) → seats_in ledger.pages.map s ≡ None) → unpaged.sums_of ledger.unpaged ≡ no_sums → sums_of ledger ≡ no_sums
unfolding sums_of
sums_none ledger none is = fun_ext (λ q. fun_ext (λ n.
    from_stays (λ s. None) (seats_in ledger.pages.map) (λ k. 0) (unpaged.sums_of ledger.unpaged q) (λ s k. ap (λ o. sums_at o k) (none s))
    (λ k. ap (λ (f : Sums). f q k) is) (seat_of q) n ∙ nothing (seat_of q) n))
  where
    nothing : (seat : Option Seat) (n : ℕ) → sums_from seat (λ s. None) (λ k. 0) n ≡ 0
    nothing (Some s) n = refl
    nothing None n = refl
