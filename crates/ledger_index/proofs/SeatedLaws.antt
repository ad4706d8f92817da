-- The least broken account of those with seats, one page and one slot after the other.
use Rattle.std.proofs.Common.{◌≡◌, ◌+◌, ◌<◌, ◌&&◌, ◌||◌, ◌==◌, ℕ, Bool, true, false, cond, List, [], ◌∷◌, ◌⊎◌, inl, inr, refl, ap, sym, ◌∙◌, subst, arith}
use Rattle.std.specs.Prelude.{Option, Some, None, is_some, nat_le, slice_get}
use Rattle.std.specs.Map.{lookup}
use Rattle.std.proofs.Math.Path.{fun_ext}
use Rattle.std.proofs.lemmas.Bool.{eqb-true, eqb-false, le-leb, leb-true}
use Rattle.accounts.specs.declared.account.Account.{Account}
use Rattle.accounts.specs.Broken.{is_broken}
use Rattle.accounts.specs.Least.{IsLeastBroken}
use Rattle.accounts.proofs.First.{unposted}
use Rattle.ledger_index.specs.declared.ledger.LedgerIndex.{LedgerIndex}
use Rattle.ledger_maps.specs.declared.page.Page.{Page}
use Rattle.ledger_keys.specs.declared.seat.PageKey.{PageKey}
use Rattle.ledger_keys.specs.declared.seat.Seat.{Seat}
use Rattle.ledger_maps.specs.Entries.{by_key}
use Rattle.ledger_index.specs.Judged.{IsLeastBut, breaks, lesser_of}
use Rattle.ledger_keys.specs.Kept.{sums_at}
use Rattle.ledger_index.specs.Ledger.{sums_of}
use Rattle.ledger_maps.specs.Pages.{seats_in, slots_of}
use Rattle.ledger_keys.specs.Seat.{account_at, is_same_page, kind_at, seat_of}
use Rattle.ledger_keys.specs.SeatLaws.{same_page}
use Rattle.ledger_index.specs.Seated.{is_within, is_within_from, left_pages, left_slots}
use Rattle.ledger_index.specs.Unpaged as unpaged
use Rattle.ledger_index.proofs.JudgedLaws.{judged, unbroken}
use Rattle.ledger_index.proofs.LedgerLaws.{at_seat, at_unpaged}
use Rattle.ledger_keys.proofs.SeatLaws.{of_seat, slot_within}

or_first : (b : Bool) (slot : ℕ) → (b || (true && nat_le 0 slot)) ≡ true
or_first true slot = refl
or_first false slot = le-leb 0 slot (omega arith)

or_false : (b : Bool) → (b || false) ≡ false → b ≡ false
or_false true is = is
or_false false is = refl

-- ---- which accounts are passed

-- the accounts of a page are those from its first slot on
first_case : (pages : List (PageKey × Page)) (key : PageKey) (page : Page) (s : Seat) (b : Bool)
    → (is_some (lookup (is_same_page s.page) pages) || (b && nat_le 0 s.slot)) ≡ false → is_some (cond b (Some page) (lookup (is_same_page s.page) pages)) ≡ false
first_case pages key page s true past = absurd (cc (sym (or_first (is_some (lookup (is_same_page s.page) pages)) s.slot) ∙ past))
first_case pages key page s false past = or_false (is_some (lookup (is_same_page s.page) pages)) past

first_passed : (pages : List (PageKey × Page)) (key : PageKey) (page : Page) (seat : Option Seat) → is_within_from pages key 0 seat ≡ false → is_within ((key, page) ∷ pages) seat ≡ false
first_passed pages key page None past = refl
first_passed pages key page (Some s) past = first_case pages key page s (is_same_page s.page key) past

lt-not-le : (a b : ℕ) → a < b → nat_le b a ≡ false
lt-not-le a b small = grind (arith, leb-true b a)

-- and behind the last slot there are none
last_case : (b same after : Bool) → b ≡ false → after ≡ false → (b || (same && after)) ≡ false
last_case true same after is none = is
last_case false true after is none = none
last_case false false after is none = refl

last_passed : (pages : List (PageKey × Page)) (key : PageKey) (seat : Option Seat) → ((s : Seat) → seat ≡ Some s → s.slot < 16) → is_within pages seat ≡ false
    → is_within_from pages key 16 seat ≡ false
last_passed pages key None small past = refl
last_passed pages key (Some s) small past =
    last_case (is_some (lookup (is_same_page s.page) pages)) (is_same_page s.page key) (nat_le 16 s.slot) past (lt-not-le s.slot 16 (small s refl))

step_case : (p : Bool) (i slot : ℕ) → (slot ≡ i → ⊥) → (p || (true && nat_le (i + 1) slot)) ≡ false → (p || (true && nat_le i slot)) ≡ false
step_case true i slot apart past = past
step_case false i slot apart past = grind (arith, leb-true i slot, le-leb (i + 1) slot, apart, past)

-- a slot is passed
slot_case : (pages : List (PageKey × Page)) (key : PageKey) (i : ℕ) (s : Seat) (same here : Bool) → is_same_page s.page key ≡ same → (s.slot == i) ≡ here
    → (is_some (lookup (is_same_page s.page) pages) || (same && nat_le (i + 1) s.slot)) ≡ false
    → ((is_some (lookup (is_same_page s.page) pages) || (same && nat_le i s.slot)) ≡ false) ⊎ (Some s ≡ Some (record { page = key; slot = i }))
slot_case pages key i s false here is at past = inl past
slot_case pages key i s true true is at past =
    let e1 = same_page s.page key is in
    let e2 = eqb-true s.slot i at in
    inr (ap Some (λ j. record { page = e1 j; slot = e2 j }))
slot_case pages key i s true false is at past = inl (step_case (is_some (lookup (is_same_page s.page) pages)) i s.slot (eqb-false s.slot i at) past)

slot_passed : (pages : List (PageKey × Page)) (key : PageKey) (i : ℕ) (seat : Option Seat) → is_within_from pages key (i + 1) seat ≡ false
    → (is_within_from pages key i seat ≡ false) ⊎ (seat ≡ Some (record { page = key; slot = i }))
slot_passed pages key i None past = inl refl
slot_passed pages key i (Some s) past = slot_case pages key i s (is_same_page s.page key) (s.slot == i) refl refl past

none_within : (seat : Option Seat) → is_within [] seat ≡ false
none_within None = refl
none_within (Some s) = refl

-- ---- the ledger's accounts with seats

module _ {L : Type 0} (ledger : LedgerIndex L) where
  -- those of a seat without sums keep their rule
  seat_keeps : (account : Account) (s : Seat) → seat_of account ≡ Some s → ((n : ℕ) → sums_at (seats_in ledger.pages.map s) n ≡ 0)
      → is_broken account (sums_of ledger account) ≡ false
  seat_keeps account s at zero = ap (is_broken account) (fun_ext (λ n. at_seat ledger account s at n ∙ zero n)) ∙ unposted account

  start_case : (account : Account) (seat : Option Seat) → seat_of account ≡ seat → is_within ledger.pages.map.entries seat ≡ false
      → is_broken account (unpaged.sums_of ledger.unpaged account) ≡ false → is_broken account (sums_of ledger account) ≡ false
  start_case account None at past keeps = ap (is_broken account) (fun_ext (at_unpaged ledger account at)) ∙ keeps
  start_case account (Some s) at past keeps =
      seat_keeps account s at (λ n. ap (λ o. sums_at (slice_get (slots_of o) s.slot) n) (none_is (lookup (is_same_page s.page) ledger.pages.map.entries) past))
    where
      none_is : {A : Type 0} (o : Option A) → is_some o ≡ false → o ≡ None
      none_is None is = refl
      none_is (Some a) is = absurd (cc is)

  -- an account without a seat that is broken by itself
  found_case : (l : Account) (seat : Option Seat) → seat_of l ≡ seat → is_broken l (unpaged.sums_of ledger.unpaged l) ≡ true → is_broken l (sums_of ledger l) ≡ true
  found_case l None at broken = ap (is_broken l) (fun_ext (at_unpaged ledger l at)) ∙ broken
  found_case l (Some s) at broken =
      let none : is_broken l (unpaged.sums_of ledger.unpaged l) ≡ false = ap (is_broken l) (fun_ext (λ n. ledger.apart l s at n)) ∙ unposted l in
      absurd (cc (sym broken ∙ none))

  pub least_start : (found : Option Account) → IsLeastBroken (λ account. is_broken account (unpaged.sums_of ledger.unpaged account)) found
      → IsLeastBut (sums_of ledger) (left_pages ledger.pages.map.entries) found
  unfolding IsLeastBut left_pages
  least_start None least = λ account past. start_case account (seat_of account) refl past (least account)
  least_start (Some l) least = (
    found_case l (seat_of l) refl least.0,
    λ account past less. start_case account (seat_of account) refl past (least.1 account less),
  )

  pub least_end : (found : Option Account) → IsLeastBut (sums_of ledger) (left_pages []) found → IsLeastBroken (λ account. is_broken account (sums_of ledger account)) found
  unfolding IsLeastBut left_pages
  least_end None least = λ account. least account (none_within (seat_of account))
  least_end (Some l) least = (least.0, λ account less. least.1 account (none_within (seat_of account)) less)

  -- a page begins and ends
  module _ (rest : List (PageKey × Page)) (key : PageKey) (page : Page) (found : Option Account) where
    pub page_start : IsLeastBut (sums_of ledger) (left_pages ((key, page) ∷ rest)) found → IsLeastBut (sums_of ledger) (left_slots rest key 0) found
    unfolding left_pages left_slots
    page_start =
        unbroken (sums_of ledger) (left_pages ((key, page) ∷ rest)) (left_slots rest key 0) (λ account. ⊥)
        (λ account past. inl (first_passed rest key page (seat_of account) past)) (λ account none. absurd none) found

    pub page_end : IsLeastBut (sums_of ledger) (left_slots rest key 16) found → IsLeastBut (sums_of ledger) (left_pages rest) found
    unfolding left_pages left_slots
    page_end =
        unbroken (sums_of ledger) (left_slots rest key 16) (left_pages rest) (λ account. ⊥)
        (λ account past. inl (last_passed rest key (seat_of account) (slot_within account) past)) (λ account none. absurd none) found

    -- a slot is judged
    module _ (there : by_key is_same_page ledger.pages.map key ≡ Some page) (i : ℕ) (is : IsLeastBut (sums_of ledger) (left_slots rest key i) found) where
      abbrev Here : Account → Type 0
      Here account = seat_of account ≡ Some (record { page = key; slot = i })

      at_slot : (account : Account) → Here account → (n : ℕ) → sums_of ledger account n ≡ sums_at (slice_get page.slots.items i) n
      at_slot account here n =
          at_seat ledger account (record { page = key; slot = i }) here n ∙ ap (λ o. sums_at (slice_get (slots_of o) i) n) there

      gone : (account : Account) → left_slots rest key (i + 1) account ≡ false → (left_slots rest key i account ≡ false) ⊎ Here account
      unfolding left_slots
      gone account past = slot_passed rest key i (seat_of account) past

      pub slot_kept : breaks (kind_at i) (sums_at (slice_get page.slots.items i)) ≡ false → IsLeastBut (sums_of ledger) (left_slots rest key (i + 1)) found
      unfolding breaks is_broken
      slot_kept keeps =
          unbroken (sums_of ledger) (left_slots rest key i) (left_slots rest key (i + 1)) Here gone
          (λ account here. ap (is_broken account) (fun_ext (at_slot account here))
          ∙ ap (λ k. breaks k (sums_at (slice_get page.slots.items i)))
          (ap (λ (a : Account). a.kind) (sym (of_seat account (record { page = key; slot = i }) here))) ∙ keeps) found is

      pub slot_judged : (k : Account) → k ≡ account_at key i → (least : Option Account) → least ≡ lesser_of (is_broken k (sums_of ledger k)) k found
          → IsLeastBut (sums_of ledger) (left_slots rest key (i + 1)) least
      slot_judged k made least so =
          subst (IsLeastBut (sums_of ledger) (left_slots rest key (i + 1))) (sym so)
          (judged (sums_of ledger) (left_slots rest key i) (left_slots rest key (i + 1)) Here gone k
          (λ account here. sym (of_seat account (record { page = key; slot = i }) here) ∙ sym made) found is)

no_page : PageKey
no_page = record { sort = 0; tree = 0; number = 0 }

-- no sums break no rule
pub none_breaks : (slot : ℕ) → breaks (kind_at slot) (sums_at None) ≡ false
unfolding breaks is_broken
none_breaks slot = unposted (account_at no_page slot)
