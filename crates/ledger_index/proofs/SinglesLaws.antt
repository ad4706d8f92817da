-- The sums of all accounts once one of them is changed.
use Rattle.std.proofs.Common.{◌≡◌, ℕ, ◌<◌, ◌==◌, ◌&&◌, Bool, true, false, cond, refl, ap, sym, ◌∙◌, arith}
use Rattle.std.specs.Prelude.{Option, Some, None, ◌↔◌, is_some, nat_lt}
use Rattle.std.proofs.Math.Path.{fun_ext}
use Rattle.std.proofs.lemmas.Bool.{eqb-true, ltb-false}
use Rattle.accounts.specs.declared.account.Account.{Account}
use Rattle.accounts.specs.Sums.{is_same}
use Rattle.accounts.specs.Tally.{Sums, no_sums}
use Rattle.ledger_keys.specs.declared.kept.Kept.{Kept}
use Rattle.ledger_index.specs.declared.singles.Singles.{Singles}
use Rattle.ledger_keys.specs.Sums.{changed}
use Rattle.ledger_keys.specs.Kept.{IsZero, sums_at}
use Rattle.ledger_maps.specs.Entries.{AreTidy, Changes, Entries, Stays, by_account}
use Rattle.ledger_keys.specs.declared.place.Place.{Place}
use Rattle.ledger_keys.specs.declared.long_place.LongPlace.{LongPlace}
use Rattle.ledger_keys.specs.Place.{is_same_place, part_of, place_of}
use Rattle.ledger_keys.specs.LongPlace.{is_same_long, long_of, part_of as long_part}
use Rattle.ledger_index.specs.Singles.{IsTidy, entry_at, entry_of, has_entry, long_in, short_in, sums_of}
use Rattle.ledger_keys.proofs.SumLaws.{other_amount}
use Rattle.ledger_maps.proofs.PartLaws.{tidy_parts}
use Rattle.ledger_keys.proofs.PlaceLaws.{apart, apart', longs_alike, places_alike}

module _ (how : ℕ → ℕ → ℕ) (none : (sum : ℕ) → how 0 sum ≡ sum) where
  nothing_above : (s : Bool) (field k amount : ℕ) → 8 < field → ◌≡◌ {A = ℕ} (cond (s && (field == k && nat_lt k 9)) amount 0) 0
  nothing_above s field k amount above = grind (arith, eqb-true field k)

  -- an amount to a field above 8 changes nothing, and one of nothing neither
  pub changed_above : (sums : Sums) (account : Account) (field amount : ℕ) (named : Bool) → named ≡ false → named ≡ nat_lt field 9 → sums ≡ changed how sums account field amount
  unfolding changed
  changed_above sums account field amount named none_named is = let above : 8 < field = ltb-false field 9 (sym is ∙ none_named) in fun_ext (λ q. fun_ext (λ k.
      sym (none (sums q k)) ∙ ap (λ x. how x (sums q k)) (sym (nothing_above (is_same account q) field k amount above))))

  nothing_added : (b : Bool) (amount : ℕ) → amount ≡ 0 → ◌≡◌ {A = ℕ} (cond b amount 0) 0
  nothing_added true amount is = is
  nothing_added false amount is = refl

  pub changed_nothing : (sums : Sums) (account : Account) (field amount : ℕ) → amount ≡ 0 → sums ≡ changed how sums account field amount
  unfolding changed
  changed_nothing sums account field amount is = fun_ext (λ q. fun_ext (λ k.
      sym (none (sums q k)) ∙ ap (λ x. how x (sums q k)) (sym (nothing_added (is_same account q && (field == k && nat_lt k 9)) amount is))))

entry_case : (entry : Option Kept) → ((kept : Kept) → entry ≡ Some kept → IsZero kept → ⊥)
    → (is_some entry ≡ false) ↔ ((n : ℕ) → sums_at entry n ≡ 0)
entry_case None tidy = (λ is n. refl, λ zero. refl)
entry_case (Some kept) tidy = (λ is. absurd (cc is), λ zero. absurd (tidy kept refl zero))

-- the sums of a ledger without entries
pub sums_none : (ledger : Singles) → ((account : Account) → entry_of ledger account ≡ None) → sums_of ledger ≡ no_sums
unfolding sums_of
sums_none ledger none = fun_ext (λ q. fun_ext (λ k. ap (λ o. sums_at o k) (none q)))

module _ (short : Entries Place) (longer : Entries LongPlace) (whole : Entries Account) where
  tidy_case : AreTidy short → AreTidy longer → AreTidy whole
      → (account : Account) (place : Option Place) (long : Option LongPlace) (kept : Kept)
      → entry_at place long short longer (whole account) ≡ Some kept → IsZero kept → ⊥
  tidy_case tidy1 tidy2 tidy3 account (Some place) long kept at zero = tidy1 place kept at zero
  tidy_case tidy1 tidy2 tidy3 account None (Some place) kept at zero = tidy2 place kept at zero
  tidy_case tidy1 tidy2 tidy3 account None None kept at zero = tidy3 account kept at zero

  none_case : ((place : Place) → short place ≡ None) → ((place : LongPlace) → longer place ≡ None) → ((account : Account) → whole account ≡ None)
      → (account : Account) (place : Option Place) (long : Option LongPlace) → entry_at place long short longer (whole account) ≡ None
  none_case none1 none2 none3 account (Some place) long = none1 place
  none_case none1 none2 none3 account None (Some place) = none2 place
  none_case none1 none2 none3 account None None = none3 account

-- no entry of a ledger is zero
tidy_of : (ledger : Singles) → AreTidy (entry_of ledger)
unfolding entry_of
tidy_of ledger = λ account kept at zero.
    tidy_case (short_in ledger) (long_in ledger) (by_account ledger.whole.entries)
    (tidy_parts is_same_place part_of ledger.short.parts.items ledger.short.fit) (tidy_parts is_same_long long_part ledger.long.parts.items ledger.long.fit)
    ledger.whole.tidy account (place_of account) (long_of account) kept at zero

-- an entry stands for exactly the accounts whose sums are not all zero
pub is_tidy : (ledger : Singles) → IsTidy ledger
unfolding has_entry sums_of
is_tidy ledger = λ account. entry_case (entry_of ledger account) (tidy_of ledger account)

-- a ledger without entries in its tables has none
pub none_of : (ledger : Singles) → ((place : Place) → short_in ledger place ≡ None)
    → ((place : LongPlace) → long_in ledger place ≡ None)
    → ((account : Account) → by_account ledger.whole.entries account ≡ None) → (account : Account) → entry_of ledger account ≡ None
unfolding entry_of
none_of ledger none1 none2 none3 account =
    none_case (short_in ledger) (long_in ledger) (by_account ledger.whole.entries)
    none1 none2 none3 account (place_of account) (long_of account)

-- the tables of an old ledger and a new one
module _ (how : ℕ → ℕ → ℕ) (none : (sum : ℕ) → how 0 sum ≡ sum)
    (short short' : Entries Place) (longer longer' : Entries LongPlace) (whole whole' : Entries Account) (account : Account) (field amount : ℕ) where
  unmoved : (q : Account) (n : ℕ) (o o' : Option Kept) → o' ≡ o → is_same account q ≡ false
      → sums_at o' n ≡ how (cond (is_same account q && (field == n && nat_lt n 9)) amount 0) (sums_at o n)
  unmoved q n o o' stay other =
      ap (λ k. sums_at k n) stay ∙ sym (none (sums_at o n))
      ∙ ap (λ x. how x (sums_at o n)) (sym (other_amount (is_same account q) (field == n && nat_lt n 9) amount other))

  moved : (q : Account) (n : ℕ) (o o' : Option Kept) (s : Bool)
      → sums_at o' n ≡ how (cond (s && (field == n && nat_lt n 9)) amount 0) (sums_at o n) → s ≡ is_same account q
      → sums_at o' n ≡ how (cond (is_same account q && (field == n && nat_lt n 9)) amount 0) (sums_at o n)
  moved q n o o' s is same = is ∙ ap (λ t. how (cond (t && (field == n && nat_lt n 9)) amount 0) (sums_at o n)) same

  abbrev Moves : Account → ℕ → Option Place → Option LongPlace → Type 0
  Moves q n place long =
      sums_at (entry_at place long short' longer' (whole' q)) n
      ≡ how (cond (is_same account q && (field == n && nat_lt n 9)) amount 0) (sums_at (entry_at place long short longer (whole q)) n)

  short_case : (p : Place) → place_of account ≡ Some p → Changes is_same_place how short short' p field amount
      → ((l : LongPlace) → longer' l ≡ longer l) → ((q : Account) → whole' q ≡ whole q)
      → (q : Account) (n : ℕ) (place : Option Place) (long : Option LongPlace) → place_of q ≡ place → Moves q n place long
  short_case p at is stay1 stay2 q n (Some r) long other = moved q n (short r) (short' r) (is_same_place p r) (is r n) (places_alike account q p r at other)
  short_case p at is stay1 stay2 q n None (Some r) other = unmoved q n (longer r) (longer' r) (stay1 r) (apart place_of account q p at other)
  short_case p at is stay1 stay2 q n None None other = unmoved q n (whole q) (whole' q) (stay2 q) (apart place_of account q p at other)

  long_case : (p : LongPlace) → place_of account ≡ None → long_of account ≡ Some p → Changes is_same_long how longer longer' p field amount
      → ((l : Place) → short' l ≡ short l) → ((q : Account) → whole' q ≡ whole q)
      → (q : Account) (n : ℕ) (place : Option Place) (long : Option LongPlace) → place_of q ≡ place → long_of q ≡ long → Moves q n place long
  long_case p none_at at is stay1 stay2 q n (Some r) long other other' = unmoved q n (short r) (short' r) (stay1 r) (apart' place_of account q r none_at other)
  long_case p none_at at is stay1 stay2 q n None (Some r) other other' = moved q n (longer r) (longer' r) (is_same_long p r) (is r n) (longs_alike account q p r at other')
  long_case p none_at at is stay1 stay2 q n None None other other' = unmoved q n (whole q) (whole' q) (stay2 q) (apart long_of account q p at other')

  whole_case : place_of account ≡ None → long_of account ≡ None → Changes is_same how whole whole' account field amount
      → ((l : Place) → short' l ≡ short l) → ((l : LongPlace) → longer' l ≡ longer l)
      → (q : Account) (n : ℕ) (place : Option Place) (long : Option LongPlace) → place_of q ≡ place → long_of q ≡ long → Moves q n place long
  whole_case at at' is stay1 stay2 q n (Some r) long other other' = unmoved q n (short r) (short' r) (stay1 r) (apart' place_of account q r at other)
  whole_case at at' is stay1 stay2 q n None (Some r) other other' = unmoved q n (longer r) (longer' r) (stay2 r) (apart' long_of account q r at' other')
  whole_case at at' is stay1 stay2 q n None None other other' = is q n

module _ (how : ℕ → ℕ → ℕ) (none : (sum : ℕ) → how 0 sum ≡ sum) (old new : Singles) (account : Account) where
  -- an amount to a sum of an account with a place
  pub short_changed : (p : Place) (field amount : ℕ) → place_of account ≡ Some p
      → Changes is_same_place how (short_in old) (short_in new) p field amount
      → ((l : LongPlace) → long_in new l ≡ long_in old l)
      → ((q : Account) → by_account new.whole.entries q ≡ by_account old.whole.entries q)
      → sums_of new ≡ changed how (sums_of old) account field amount
  unfolding changed sums_of entry_of
  short_changed p field amount at is stay1 stay2 = fun_ext (λ q. fun_ext (λ n.
      short_case how none (short_in old) (short_in new)
      (long_in old) (long_in new) (by_account old.whole.entries) (by_account new.whole.entries)
      account field amount p at is stay1 stay2 q n (place_of q) (long_of q) refl))

  -- to one of an account with a long place
  pub long_changed : (p : LongPlace) (field amount : ℕ) → place_of account ≡ None → long_of account ≡ Some p
      → Changes is_same_long how (long_in old) (long_in new) p field amount
      → ((l : Place) → short_in new l ≡ short_in old l)
      → ((q : Account) → by_account new.whole.entries q ≡ by_account old.whole.entries q)
      → sums_of new ≡ changed how (sums_of old) account field amount
  unfolding changed sums_of entry_of
  long_changed p field amount none_at at is stay1 stay2 = fun_ext (λ q. fun_ext (λ n.
      long_case how none (short_in old) (short_in new)
      (long_in old) (long_in new) (by_account old.whole.entries) (by_account new.whole.entries)
      account field amount p none_at at is stay1 stay2 q n (place_of q) (long_of q) refl refl))

  -- to one of an account without
  pub whole_changed : (field amount : ℕ) → place_of account ≡ None → long_of account ≡ None
      → Changes is_same how (by_account old.whole.entries) (by_account new.whole.entries) account field amount
      → ((l : Place) → short_in new l ≡ short_in old l)
      → ((l : LongPlace) → long_in new l ≡ long_in old l)
      → sums_of new ≡ changed how (sums_of old) account field amount
  unfolding changed sums_of entry_of
  whole_changed field amount at at' is stay1 stay2 = fun_ext (λ q. fun_ext (λ n.
      whole_case how none (short_in old) (short_in new)
      (long_in old) (long_in new) (by_account old.whole.entries) (by_account new.whole.entries)
      account field amount at at' is stay1 stay2 q n (place_of q) (long_of q) refl refl))

stays_case : (short short' : Entries Place) (longer longer' : Entries LongPlace) (whole whole' : Option Kept) → Stays short short' → Stays longer longer'
    → ((n : ℕ) → sums_at whole' n ≡ sums_at whole n)
    → (place : Option Place) (long : Option LongPlace) (n : ℕ) → sums_at (entry_at place long short' longer' whole') n ≡ sums_at (entry_at place long short longer whole) n
stays_case short short' longer longer' whole whole' is1 is2 is3 (Some p) long n = is1 p n
stays_case short short' longer longer' whole whole' is1 is2 is3 None (Some p) n = is2 p n
stays_case short short' longer longer' whole whole' is1 is2 is3 None None n = is3 n

-- nothing is changed
pub all_stay : (old new : Singles) → Stays (short_in old) (short_in new)
    → Stays (long_in old) (long_in new)
    → Stays (by_account old.whole.entries) (by_account new.whole.entries) → sums_of new ≡ sums_of old
unfolding sums_of entry_of
all_stay old new is1 is2 is3 = fun_ext (λ q. fun_ext (λ n.
    stays_case (short_in old) (short_in new) (long_in old) (long_in new)
    (by_account old.whole.entries q) (by_account new.whole.entries q) is1 is2 (λ k. is3 q k) (place_of q) (long_of q) n))

-- where the sums of an account are kept
module _ (ledger : Singles) (account : Account) where
  pub at_place : (p : Place) → Some p ≡ place_of account → (n : ℕ) → sums_at (short_in ledger p) n ≡ sums_of ledger account n
  unfolding sums_of entry_of
  at_place p at n =
      ap (λ o. sums_at (entry_at o (long_of account) (short_in ledger) (long_in ledger)
      (by_account ledger.whole.entries account)) n) at

  pub at_long : (p : LongPlace) → None ≡ place_of account → Some p ≡ long_of account → (n : ℕ)
      → sums_at (long_in ledger p) n ≡ sums_of ledger account n
  unfolding sums_of entry_of
  at_long p none at n =
      ap (λ o. sums_at (entry_at None o (short_in ledger) (long_in ledger)
      (by_account ledger.whole.entries account)) n) at
      ∙ ap (λ o. sums_at (entry_at o (long_of account) (short_in ledger) (long_in ledger)
      (by_account ledger.whole.entries account)) n) none

  pub at_whole : None ≡ place_of account → None ≡ long_of account → (n : ℕ)
      → sums_at (by_account ledger.whole.entries account) n ≡ sums_of ledger account n
  unfolding sums_of entry_of
  at_whole none none' n =
      ap (λ o. sums_at (entry_at None o (short_in ledger) (long_in ledger)
      (by_account ledger.whole.entries account)) n) none'
      ∙ ap (λ o. sums_at (entry_at o (long_of account) (short_in ledger) (long_in ledger)
      (by_account ledger.whole.entries account)) n) none
