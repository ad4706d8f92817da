-- What pages say once one of them is changed.
use Rattle.std.proofs.Common.{◌≡◌, ◌<◌, ◌≤◌, ◌^◌, ◌==◌, ◌&&◌, ℕ, zero, suc, Bool, true, false, cond, List, [], ◌∷◌, length, set, ⊎_elim, refl, ap, sym, ◌∙◌, subst, arith}
use Rattle.std.specs.Prelude.{Option, Some, None, Result, Ok, Err, OnOk, OnErr, nat_lt, slice_get}
use Rattle.std.specs.Map.{lookup}
use Rattle.std.proofs.lemmas.Bool.{cases_lt, eq-eqb, eqb-false, eqb-true, lt-ltb}
use Rattle.ledger_keys.specs.declared.kept.Kept.{Kept}
use Rattle.ledger_maps.specs.declared.page.Page.{Page}
use Rattle.ledger_keys.specs.declared.seat.PageKey.{PageKey}
use Rattle.ledger_keys.specs.declared.seat.Seat.{Seat}
use Rattle.ledger_maps.specs.Entries.{Changes, Stays}
use Rattle.ledger_keys.specs.Kept.{kept_sum, sums_at}
use Rattle.ledger_maps.specs.Pages.{ArePages, AreZero, SlotChanges, SlotsStay, seats_by, slots_of}
use Rattle.ledger_keys.specs.Seat.{is_same_page, is_same_seat}
use Rattle.ledger_keys.specs.SeatLaws.{same_page}
use Rattle.ledger_keys.specs.Sums.{amount_at, lower, raise}
use Rattle.ledger_keys.proofs.SumLaws.{lower_none, raise_none, raised_nothing}
use Rattle.ledger_maps.proofs.PartLaws.{set_apart, set_here}

-- ---- the slots of a page

pub get_past : (xs : List Kept) (i : ℕ) → length xs ≤ i → slice_get xs i ≡ None
get_past [] i past = refl
get_past (x ∷ xs) zero past = absurd (omega arith)
get_past (x ∷ xs) (suc i) past = get_past xs i (omega (arith, past))

-- where the first sixteen have no sums, there are no more
pub zero_all : (xs : List Kept) → length xs ≡ 16 → ((i : ℕ) → i < 16 → (n : ℕ) → sums_at (slice_get xs i) n ≡ 0) → AreZero xs
zero_all xs whole first i n =
    ⊎_elim (λ within. first i within n) (λ past. ap (λ o. sums_at o n) (get_past xs i (omega (arith, whole, past)))) (cases_lt i 16)

abbrev no_slots : List Kept
no_slots = []

-- one amount alone, to one of them
one_case : (xs : List Kept) (kept : Kept) (slot field amount i n : ℕ) (b : Bool) → (slot == i) ≡ b → AreZero xs → slot < length xs → amount < 2 ^ 64
    → ((k : ℕ) → kept_sum kept k ≡ amount_at field amount k)
    → sums_at (slice_get (set xs slot kept) i) n ≡ raise (cond (b && (field == n && nat_lt n 9)) amount 0) (sums_at (slice_get no_slots i) n)
one_case xs kept slot field amount i n true is zeros within small own =
    ap (λ j. sums_at (slice_get (set xs slot kept) j) n) (sym (eqb-true slot i is)) ∙ ap (λ o. sums_at o n) (set_here xs slot kept within)
    ∙ own n ∙ raised_nothing (field == n && nat_lt n 9) amount 0 small refl
one_case xs kept slot field amount i n false is zeros within small own =
    ap (λ o. sums_at o n) (set_apart xs slot i kept (eqb-false slot i is)) ∙ zeros i n

pub one_changes : (xs : List Kept) (kept : Kept) (slot field amount : ℕ) → AreZero xs → slot < length xs → amount < 2 ^ 64
    → ((k : ℕ) → kept_sum kept k ≡ amount_at field amount k) → SlotChanges raise [] (set xs slot kept) slot field amount
one_changes xs kept slot field amount zeros within small own = λ i n. one_case xs kept slot field amount i n (slot == i) refl zeros within small own

-- what was raised is not zero
pub raised_stands : (old new : List Kept) (slot field amount : ℕ) → SlotChanges raise old new slot field amount → (AreZero old → ⊥) → AreZero new → ⊥
raised_stands old new slot field amount more stands zeros = stands (λ i n. (let z = zeros i n in let e = more i n in omega arith))

pub stays_stands : (old new : List Kept) → SlotsStay old new → (AreZero old → ⊥) → AreZero new → ⊥
stays_stands old new stay stands zeros = stands (λ i n. sym (stay i n) ∙ zeros i n)

own_slot : (slot field amount : ℕ) → field < 9 → cond (slot == slot && (field == field && nat_lt field 9)) amount 0 ≡ amount
own_slot slot field amount small = grind (arith, lt-ltb field 9 small, eq-eqb slot slot refl)

pub one_stands : (new : List Kept) (slot field amount : ℕ) → SlotChanges raise [] new slot field amount → field < 9 → 0 < amount → AreZero new → ⊥
one_stands new slot field amount more small some zeros =
    let z = zeros slot field in
    let e = more slot field in
    let o = own_slot slot field amount small in
    absurd (omega (arith, some))

-- ---- the pages, once one of them is another

module _ (old new : PageKey → Option Page) (key : PageKey) (w : Option Page)
    (updates : (q : PageKey) → new q ≡ cond (is_same_page key q) w (old q)) where
  module _ (how : ℕ → ℕ → ℕ) (none : (sum : ℕ) → how 0 sum ≡ sum) (slot field amount : ℕ) where
    seat_case : (q : Seat) (n : ℕ) (b : Bool) → is_same_page key q.page ≡ b → new q.page ≡ cond b w (old q.page)
        → SlotChanges how (slots_of (old key)) (slots_of w) slot field amount
        → sums_at (seats_by new q) n ≡ how (cond ((b && slot == q.slot) && (field == n && nat_lt n 9)) amount 0) (sums_at (seats_by old q) n)
    seat_case q n true is now changes =
        ap (λ o. sums_at (slice_get (slots_of o) q.slot) n) now ∙ changes q.slot n
        ∙ ap (λ k. how (cond (slot == q.slot && (field == n && nat_lt n 9)) amount 0) (sums_at (slice_get (slots_of (old k)) q.slot) n)) (same_page key q.page is)
    seat_case q n false is now changes = ap (λ o. sums_at (slice_get (slots_of o) q.slot) n) now ∙ sym (none (sums_at (seats_by old q) n))

    pub seats_changed : SlotChanges how (slots_of (old key)) (slots_of w) slot field amount
        → Changes is_same_seat how (seats_by old) (seats_by new) (record { page = key; slot = slot }) field amount
    seats_changed changes = λ q n. seat_case q n (is_same_page key q.page) refl (updates q.page) changes

  stay_case : (q : Seat) (n : ℕ) (b : Bool) → is_same_page key q.page ≡ b → new q.page ≡ cond b w (old q.page)
      → SlotsStay (slots_of (old key)) (slots_of w) → sums_at (seats_by new q) n ≡ sums_at (seats_by old q) n
  stay_case q n true is now stay =
      ap (λ o. sums_at (slice_get (slots_of o) q.slot) n) now ∙ stay q.slot n
      ∙ ap (λ k. sums_at (slice_get (slots_of (old k)) q.slot) n) (same_page key q.page is)
  stay_case q n false is now stay = ap (λ o. sums_at (slice_get (slots_of o) q.slot) n) now

  pub seats_stay : SlotsStay (slots_of (old key)) (slots_of w) → Stays (seats_by old) (seats_by new)
  seats_stay stay = λ q n. stay_case q n (is_same_page key q.page) refl (updates q.page) stay

  page_case : (q : PageKey) (page : Page) (b : Bool) → new q ≡ cond b w (old q) → ArePages old
      → ((p : Page) → w ≡ Some p → AreZero p.slots.items → ⊥) → new q ≡ Some page → AreZero page.slots.items → ⊥
  page_case q page true now pages own at = own page (sym now ∙ at)
  page_case q page false now pages own at = pages q page (sym now ∙ at)

  -- no page is all zero
  pub pages_stand : ArePages old → ((p : Page) → w ≡ Some p → AreZero p.slots.items → ⊥) → ArePages new
  pages_stand pages own = λ q page at. page_case q page (is_same_page key q) (updates q) pages own at

  pub page_stands : (page : Page) → w ≡ Some page → ArePages old → (AreZero page.slots.items → ⊥) → ArePages new
  page_stands page is pages own = pages_stand pages (λ p at. let e : page ≡ p = cc (is, at) in subst (λ (m : Page). AreZero m.slots.items → ⊥) e own)

-- the same by the entries of two maps
module _ (old new : List (PageKey × Page)) (key : PageKey) (w : Option Page)
    (updates : (q : PageKey) → lookup (is_same_page q) new ≡ cond (is_same_page key q) w (lookup (is_same_page q) old)) where
  pub entries_raised : (slot field amount : ℕ) → SlotChanges raise (slots_of (lookup (is_same_page key) old)) (slots_of w) slot field amount
      → Changes is_same_seat raise (seats_by (λ q. lookup (is_same_page q) old)) (seats_by (λ q. lookup (is_same_page q) new)) (record { page = key; slot = slot }) field amount
  entries_raised slot field amount = seats_changed (λ q. lookup (is_same_page q) old) (λ q. lookup (is_same_page q) new) key w updates raise raise_none slot field amount

  pub entries_stay : SlotsStay (slots_of (lookup (is_same_page key) old)) (slots_of w)
      → Stays (seats_by (λ q. lookup (is_same_page q) old)) (seats_by (λ q. lookup (is_same_page q) new))
  entries_stay = seats_stay (λ q. lookup (is_same_page q) old) (λ q. lookup (is_same_page q) new) key w updates

-- where a page does not stand, nothing is taken
module _ (pages : PageKey → Option Page) (key : PageKey) (absent : pages key ≡ None) where
  absent_case : (q : PageKey) (b : Bool) → is_same_page key q ≡ b → pages q ≡ cond b None (pages q)
  absent_case q true is = subst (λ k. pages k ≡ None) (same_page key q is) absent
  absent_case q false is = refl

  pub nothing_taken : (slot field amount : ℕ) → Changes is_same_seat lower (seats_by pages) (seats_by pages) (record { page = key; slot = slot }) field amount
  nothing_taken slot field amount =
      seats_changed pages pages key None (λ q. absent_case q (is_same_page key q) refl) lower lower_none slot field amount
      (λ i n. let e : sums_at (slice_get (slots_of (pages key)) i) n ≡ 0 = ap (λ o. sums_at (slice_get (slots_of o) i) n) absent in omega (arith, e))

-- what was raised, or could not be, is not zero
pub made_stands : {A E : Type 0} (result : Result A E) (old new : List Kept) (slot field amount : ℕ)
    → OnOk result (SlotChanges raise old new slot field amount) → OnErr result (SlotsStay old new) → (AreZero old → ⊥) → AreZero new → ⊥
made_stands (Ok a) old new slot field amount more stay stands = raised_stands old new slot field amount more stands
made_stands (Err e) old new slot field amount more stay stands = stays_stands old new stay stands

-- what is lowered to nothing
pub lowered_away : (old new : List Kept) (slot field amount : ℕ) → SlotChanges lower old new slot field amount → AreZero new → SlotChanges lower old [] slot field amount
lowered_away old new slot field amount less zeros = λ i n. sym (zeros i n) ∙ less i n
