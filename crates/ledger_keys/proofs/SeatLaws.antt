-- An account is found by its seat: no two accounts have one.
use Rattle.std.proofs.Common.{◌≡◌, ◌+◌, ◌*◌, ◌/◌, ◌%◌, ◌<◌, ◌≤◌, ◌&&◌, ◌==◌, ℕ, Bool, true, false, cond, [], length, refl, ap, sym, ◌∙◌, subst, arith}
use Rattle.std.specs.Prelude.{Option, Some, None, nat_lt}
use Rattle.std.proofs.lemmas.Bool.{eqb-true, lt-ltb, ltb-true}
use Rattle.verdict.proofs.Lists.{empty_is}
use Rattle.verdict.proofs.Answers.{some_is}
use Rattle.accounts.specs.Sums.{is_same}
use Rattle.accounts.specs.declared.account.Account.{Account}
use Rattle.ledger_keys.specs.declared.seat.Seat.{Seat}
use Rattle.ledger_keys.specs.PlaceLaws.{both, join, own}
use Rattle.ledger_keys.specs.Seat.{account_at, base_of, detail_at, is_same_seat, kind_at, seat_from, seat_of}
use Rattle.ledger_keys.specs.SeatLaws.{own_page, same_page}
use Rattle.ledger_keys.proofs.PlaceLaws.{alike}

pub same_seat : (s t : Seat) → is_same_seat s t ≡ true → s ≡ t
same_seat s t is =
    let parts = both _ (s.slot == t.slot) is in
    let e1 = same_page s.page t.page parts.0 in
    let e2 = eqb-true s.slot t.slot parts.1 in
    λ i. record { page = e1 i; slot = e2 i }

pub own_seat : (s : Seat) → is_same_seat s s ≡ true
own_seat s = join _ _ (own_page s.page) (own s.slot)

kind_first : (n : ℕ) → n < 8 → kind_at n ≡ 9
kind_first n small = ap (λ (t : Bool). cond {A = ℕ} t 9 10) (lt-ltb n 8 small)

detail_first : (n : ℕ) → n < 8 → detail_at n ≡ 0
detail_first n small = ap (λ (t : Bool). cond {A = ℕ} t 0 1) (lt-ltb n 8 small)

not_less : (n : ℕ) → 8 ≤ n → nat_lt n 8 ≡ false
not_less n great = grind (arith, great, ltb-true n 8)

kind_last : (n : ℕ) → 8 ≤ n → kind_at n ≡ 10
kind_last n great = ap (λ (t : Bool). cond {A = ℕ} t 9 10) (not_less n great)

detail_last : (n : ℕ) → 8 ≤ n → detail_at n ≡ 1
detail_last n great = ap (λ (t : Bool). cond {A = ℕ} t 0 1) (not_less n great)

parts_of : (n : ℕ) → 8 * (n / 8) + n % 8 ≡ n
parts_of n = omega arith

-- what a slot says of its account
record Says (kind detail base rest : ℕ) : Type 0 where
  kind_is : kind_at (base + rest) ≡ kind
  detail_is : detail_at (base + rest) ≡ detail
  rest_is : (base + rest) % 8 ≡ rest
  small : base + rest < 16

says_case : (kind detail base rest : ℕ) (first second : Bool) → (kind == 9 && detail == 0) ≡ first → (kind == 10 && detail == 1) ≡ second → rest < 8
    → cond first (Some 0) (cond second (Some 8) None) ≡ Some base → Says kind detail base rest
says_case kind detail base rest true second is1 is2 small at =
    let b = both (kind == 9) (detail == 0) is1 in
    let e1 = eqb-true kind 9 b.0 in
    let e2 = eqb-true detail 0 b.1 in
    let e : 0 ≡ base = some_is _ _ at in
    subst (λ n. Says kind detail n rest) e (record {
      kind_is = kind_first (0 + rest) (omega (arith, small)) ∙ sym e1;
      detail_is = detail_first (0 + rest) (omega (arith, small)) ∙ sym e2;
      rest_is = omega (arith, small);
      small = omega (arith, small);
    })
says_case kind detail base rest false true is1 is2 small at =
    let b = both (kind == 10) (detail == 1) is2 in
    let e1 = eqb-true kind 10 b.0 in
    let e2 = eqb-true detail 1 b.1 in
    let e : 8 ≡ base = some_is _ _ at in
    subst (λ n. Says kind detail n rest) e (record {
      kind_is = kind_last (8 + rest) (omega arith) ∙ sym e1;
      detail_is = detail_last (8 + rest) (omega arith) ∙ sym e2;
      rest_is = omega (arith, small);
      small = omega (arith, small);
    })
says_case kind detail base rest false false is1 is2 small at = absurd (cc at)

seat_case : (a : Account) (s : Seat) (base : ℕ) (test rest : Bool) → base_of a.kind a.detail ≡ Some base
    → (a.block == 0 && (a.key.offset == 0 && (length a.tail == 0 && rest))) ≡ test
    → cond test (Some (record {
      page = record { sort = a.key.kind; tree = a.tree; number = a.key.objectid / 8 };
      slot = base + a.key.objectid % 8;
    })) None ≡ Some s → (account_at s.page s.slot ≡ a) × (s.slot < 16)
seat_case a s base true rest of tested is =
    let b1 = both (a.block == 0) _ tested in
    let b2 = both (a.key.offset == 0) _ b1.1 in
    let b3 = both (length a.tail == 0) _ b2.1 in
    let e1 : 0 ≡ a.block = sym (eqb-true a.block 0 b1.0) in
    let e2 : 0 ≡ a.key.offset = sym (eqb-true a.key.offset 0 b2.0) in
    let e3 : [] ≡ a.tail = sym (empty_is a.tail (eqb-true (length a.tail) 0 b3.0)) in
    let says = says_case a.kind a.detail base (a.key.objectid % 8) (a.kind == 9 && a.detail == 0) (a.kind == 10 && a.detail == 1) refl refl (omega arith) of in
    let e4 : 8 * (a.key.objectid / 8) + (base + a.key.objectid % 8) % 8 ≡ a.key.objectid =
    ap (λ r. 8 * (a.key.objectid / 8) + r) says.rest_is ∙ parts_of a.key.objectid in
    subst (λ t. (account_at t.page t.slot ≡ a) × (t.slot < 16)) (some_is _ _ is) (
      (λ i. record {
        kind = says.kind_is i;
        tree = a.tree;
        block = e1 i;
        key = record { objectid = e4 i; kind = a.key.kind; offset = e2 i };
        detail = says.detail_is i;
        tail = e3 i;
      }),
      says.small,
    )
seat_case a s base false rest of tested is = absurd (cc is)

from_case : (a : Account) (s : Seat) (base : Option ℕ) → base_of a.kind a.detail ≡ base → seat_from base a ≡ Some s → (account_at s.page s.slot ≡ a) × (s.slot < 16)
from_case a s None of is = absurd (cc is)
from_case a s (Some base) of is = seat_case a s base _ _ of refl is

-- a seat says its account whole
pub of_seat : (a : Account) (s : Seat) → seat_of a ≡ Some s → account_at s.page s.slot ≡ a
unfolding seat_of
of_seat a s is = (from_case a s _ refl is).0

pub slot_within : (a : Account) (s : Seat) → seat_of a ≡ Some s → s.slot < 16
unfolding seat_of
slot_within a s is = (from_case a s _ refl is).1

pub seats_alike : (a b : Account) (s t : Seat) → seat_of a ≡ Some s → seat_of b ≡ Some t → is_same_seat s t ≡ is_same a b
seats_alike = alike seat_of (λ s. account_at s.page s.slot) is_same_seat of_seat same_seat own_seat
