-- What is kept of the accounts without a page once one of the sums is changed.
use Rattle.std.proofs.Common.{Bool, true, false, not, ◌≡◌, ℕ, ◌+◌, ◌<◌, ◌≤◌, ◌==◌, ◌&&◌, ◌||◌, ⊎_elim, cond, refl, ap, sym, ◌∙◌, subst, arith, zero, suc, List, [], ◌∷◌, length, set, slice_index}
use Rattle.std.specs.Prelude.{Option, Some, None, Result, Ok, Err, IfOk, OnOk, OnErr, ◌↔◌, nat_lt}
use Rattle.std.proofs.Math.Path.{fun_ext}
use Rattle.std.proofs.lemmas.Bool.{cases_lt, eqb-true, ltb-true}
use Rattle.accounts.proofs.Same.{same_account}
use Rattle.accounts.specs.declared.account.Account.{Account}
use Rattle.accounts.specs.Broken.{is_broken}
use Rattle.accounts.specs.Sums.{is_same}
use Rattle.accounts.specs.Tally.{Sums, no_sums}
use Rattle.indexmap.specs.IndexMap.{IndexMap}
use Rattle.ledger_keys.specs.declared.kept.Kept.{Kept}
use Rattle.ledger_keys.specs.declared.long_place.LongPlace.{LongPlace}
use Rattle.ledger_keys.specs.declared.name.Name.{Name}
use Rattle.ledger_keys.specs.declared.name.Side.{Side}
use Rattle.ledger_keys.specs.declared.name.Side.TheVariants.{Entry, Link}
use Rattle.ledger_index.specs.declared.unpaged.Unpaged.{Unpaged}
use Rattle.ledger_maps.specs.Entries.{Entries, by_parts}
use Rattle.ledger_keys.specs.Kept.{sums_at}
use Rattle.ledger_keys.specs.LongPlace.{is_same_long, part_of}
use Rattle.ledger_keys.specs.Name.{account_at, is_same_name, name_of}
use Rattle.ledger_maps.specs.Names.{names_by, names_in}
use Rattle.ledger_keys.specs.PlaceLaws.{both}
use Rattle.ledger_keys.specs.Shifts.{Rests, Shifts}
use Rattle.ledger_keys.specs.Side.{first_of, has_sums, mark_of, number_of, side_of}
use Rattle.ledger_index.specs.Singles as single
use Rattle.ledger_keys.specs.Sums.{changed, greatest, lower, raise}
use Rattle.ledger_index.specs.Unpaged.{entry_from, has_entry, sums_from, sums_of}
use Rattle.ledger_keys.proofs.SumLaws.{lower_none, other_amount, raise_none}
use Rattle.ledger_maps.proofs.EntryLaws.{full_as}
use Rattle.ledger_keys.proofs.NameLaws.{names_alike, of_name, same_name}
use Rattle.ledger_keys.proofs.PlaceLaws.{apart}
use Rattle.ledger_index.proofs.SinglesLaws.{is_tidy as singles_tidy}

-- the sums of all accounts, by those of names and those of entries of their own
abbrev pub total : (Name → ℕ → ℕ) → Sums → Sums
total names single account n = sums_from (name_of account) names (single account) n

abbrev pub Once : (Name → ℕ → ℕ) → Sums → Type 0
Once names single =
    (account : Account) (name : Name) → name_of account ≡ Some name → has_sums (names name) ≡ true → (n : ℕ) → n < 2 → single account n ≡ 0

abbrev pub Named : Sums → Type 0
Named single = (account : Account) (name : Name) → name_of account ≡ Some name → (n : ℕ) → single account n ≡ 0

-- a side has two sums alone
pub past_two : (f : ℕ → ℕ) (side : Side) (n : ℕ) → 2 ≤ n → side_of f side n ≡ 0
past_two f side n past = go (f (mark_of side) == number_of side) (nat_lt n 2) refl
  where
    go : (b l : Bool) → nat_lt n 2 ≡ l → cond (b && l) (f (first_of side + n)) 0 ≡ 0
    go b true is = absurd (let e = ltb-true n 2 is in omega (arith, past, e))
    go true false is = refl
    go false false is = refl

-- which are zero where the side has none
pub no_sums_side : (f : ℕ → ℕ) (side : Side) → has_sums (side_of f side) ≡ false → (n : ℕ) → side_of f side n ≡ 0
no_sums_side f side none n = ⊎_elim (λ low. first n low) (λ past. past_two f side n past) (cases_lt n 2)
  where
    zeros : (a b : Bool) → (side_of f side 0 == 0) ≡ a → (side_of f side 1 == 0) ≡ b → not (a && b) ≡ false → (side_of f side 0 ≡ 0) × (side_of f side 1 ≡ 0)
    zeros true true is1 is2 is = (eqb-true _ 0 is1, eqb-true _ 0 is2)
    zeros true false is1 is2 is = absurd (cc is)
    zeros false b is1 is2 is = absurd (cc is)

    first : (m : ℕ) → m < 2 → side_of f side m ≡ 0
    first zero low = (zeros _ _ refl refl none).0
    first (suc zero) low = (zeros _ _ refl refl none).1
    first (suc (suc m)) low = absurd (omega (arith, low))

same_sums : (f g : ℕ → ℕ) → g 0 ≡ f 0 → g 1 ≡ f 1 → has_sums g ≡ has_sums f
same_sums f g is1 is2 = ap (λ x. not (x == 0 && g 1 == 0)) is1 ∙ ap (λ x. not (f 0 == 0 && x == 0)) is2

module _ (how : ℕ → ℕ → ℕ) (none : (sum : ℕ) → how 0 sum ≡ sum) where
  left_case : (c : Bool) (x s amount : ℕ) → (c ≡ true → s ≡ 0) → how (cond c amount 0) x + s ≡ how (cond c amount 0) (x + s)
  left_case true x s amount is =
      ap (λ y. how amount x + y) (is refl) ∙ (let e : how amount x + 0 ≡ how amount x = omega arith in e)
      ∙ ap (how amount) (let e : x ≡ x + 0 = omega arith in e) ∙ ap (λ y. how amount (x + y)) (sym (is refl))
  left_case false x s amount is = ap (λ y. y + s) (none x) ∙ sym (none (x + s))

  right_case : (c : Bool) (x s amount : ℕ) → (c ≡ true → x ≡ 0) → x + how (cond c amount 0) s ≡ how (cond c amount 0) (x + s)
  right_case true x s amount is =
      let gone = is refl in
      ap (λ y. y + how amount s) gone ∙ (let e : 0 + how amount s ≡ how amount s = omega arith in e)
      ∙ ap (how amount) (let e : s ≡ x + s = omega (arith, gone) in e)
  right_case false x s amount is = ap (λ y. x + y) (none s) ∙ sym (none (x + s))

  module _ (account : Account) (field amount : ℕ) where
    abbrev hits : Account → ℕ → Bool
    hits q n = is_same account q && (field == n && nat_lt n 9)

    -- what an amount goes to is the sum with this number of the account
    hit_is : (q : Account) (n : ℕ) → hits q n ≡ true → (account ≡ q) × (field ≡ n)
    hit_is q n is =
        let parts = both (is_same account q) _ is in
        (same_account account q parts.0, eqb-true field n (both (field == n) _ parts.1).0)

    stays : (q : Account) (n sum : ℕ) → is_same account q ≡ false → sum ≡ how (cond (hits q n) amount 0) sum
    stays q n sum other = sym (none sum) ∙ ap (λ x. how x sum) (sym (other_amount (is_same account q) (field == n && nat_lt n 9) amount other))

    module _ (names names' : Name → ℕ → ℕ) (single : Sums) (name : Name) (at : name_of account ≡ Some name)
        (shifts : Shifts is_same_name how names names' name field amount) where
      names_case : single account field ≡ 0 → (q : Account) (n : ℕ) (o : Option Name) → name_of q ≡ o
          → sums_from o names' (single q) n ≡ how (cond (hits q n) amount 0) (sums_from o names (single q) n)
      names_case own q n (Some t) other =
          ap (λ x. x + single q n) (shifts t n)
          ∙ ap (λ b. how (cond (b && (field == n && nat_lt n 9)) amount 0) (names t n) + single q n) (names_alike account q name t at other)
          ∙ left_case (hits q n) (names t n) (single q n) amount (λ hit. (let is = hit_is q n hit in
          ap (λ a. single a n) (sym is.0) ∙ ap (single account) (sym is.1) ∙ own))
      names_case own q n None other = stays q n (single q n) (apart name_of account q name at other)

      pub names_changed : single account field ≡ 0 → total names' single ≡ changed how (total names single) account field amount
      unfolding changed
      names_changed own = fun_ext (λ q. fun_ext (λ n. names_case own q n (name_of q) refl))

      -- an account has sums once
      once_case : (q : Account) (t : Name) (b : Bool) → is_same_name name t ≡ b → name_of q ≡ Some t → Once names single → ((n : ℕ) → n < 2 → single account n ≡ 0)
          → has_sums (names' t) ≡ true → (n : ℕ) → n < 2 → single q n ≡ 0
      once_case q t true is other once own has n low =
          ap (λ a. single a n) (sym (same_account account q (sym (names_alike account q name t at other) ∙ is))) ∙ own n low
      once_case q t false is other once own has n low =
          once q t other (sym (same_sums (names t) (names' t) (apart_is 0) (apart_is 1)) ∙ has) n low
        where
          apart_is : (k : ℕ) → names' t k ≡ names t k
          apart_is k = shifts t k ∙ ap (λ x. how x (names t k)) (other_amount (is_same_name name t) (field == k && nat_lt k 9) amount is) ∙ none (names t k)

      pub once_shifted : Once names single → ((n : ℕ) → n < 2 → single account n ≡ 0) → Once names' single
      once_shifted once own = λ q t other has n low. once_case q t (is_same_name name t) refl other once own has n low

    -- an amount to a sum in an entry of its own
    module _ (names : Name → ℕ → ℕ) (single single' : Sums) (is : single' ≡ changed how single account field amount) where
      single_is : (q : Account) (n : ℕ) → single' q n ≡ how (cond (hits q n) amount 0) (single q n)
      unfolding changed
      single_is q n = ap (λ (f : Sums). f q n) is

      single_case : ((t : Name) → name_of account ≡ Some t → names t field ≡ 0) → (q : Account) (n : ℕ) (o : Option Name) → name_of q ≡ o
          → sums_from o names (single' q) n ≡ how (cond (hits q n) amount 0) (sums_from o names (single q) n)
      single_case own q n (Some t) other =
          ap (λ x. names t n + x) (single_is q n)
          ∙ right_case (hits q n) (names t n) (single q n) amount (λ hit. (let here = hit_is q n hit in
          ap (names t) (sym here.1) ∙ own t (ap name_of here.0 ∙ other)))
      single_case own q n None other = single_is q n

      pub single_changed : ((t : Name) → name_of account ≡ Some t → names t field ≡ 0) → total names single' ≡ changed how (total names single) account field amount
      unfolding changed
      single_changed own = fun_ext (λ q. fun_ext (λ n. single_case own q n (name_of q) refl))

      kept_case : (q : Account) (n : ℕ) (c : Bool) → hits q n ≡ c → (c ≡ true → ⊥) → single q n ≡ 0 → single' q n ≡ 0
      kept_case q n true hit never gone = absurd (never refl)
      kept_case q n false hit never gone = single_is q n ∙ ap (λ b. how (cond b amount 0) (single q n)) hit ∙ none (single q n) ∙ gone

      pub once_single : ((t : Name) → name_of account ≡ Some t → field < 2 → has_sums (names t) ≡ false) → Once names single → Once names single'
      once_single own once = λ q t other has n low. kept_case q n (hits q n) refl
          (λ hit. (let here = hit_is q n hit in absurd (cc (sym has ∙ own t (ap name_of here.0 ∙ other) (subst (λ k. k < 2) (sym here.1) low)))))
          (once q t other has n low)

      pub named_apart : name_of account ≡ None → Named single → Named single'
      named_apart at named = λ q t other n. kept_case q n (hits q n) refl
          (λ hit. (let here = hit_is q n hit in absurd (cc (sym at ∙ ap name_of here.0 ∙ other)))) (named q t other n)

-- what is taken leaves nothing where nothing was
pub named_lowered : (single single' : Sums) (account : Account) (field amount : ℕ) → single' ≡ changed lower single account field amount → Named single → Named single'
unfolding changed
named_lowered single single' account field amount is named q t other n =
    let e = ap (λ (f : Sums). f q n) is in let gone = named q t other n in omega (arith, e, gone)

-- nothing is changed
rests_case : (names names' : Name → ℕ → ℕ) (single single' : ℕ → ℕ) → Rests names names' → ((n : ℕ) → single' n ≡ single n)
    → (o : Option Name) (n : ℕ) → sums_from o names' single' n ≡ sums_from o names single n
rests_case names names' single single' is1 is2 (Some t) n = ap (λ x. x + single' n) (is1 t n) ∙ ap (λ x. names t n + x) (is2 n)
rests_case names names' single single' is1 is2 None n = is2 n

pub total_rests : (names names' : Name → ℕ → ℕ) (single single' : Sums) → Rests names names' → single' ≡ single → total names' single' ≡ total names single
total_rests names names' single single' is1 is2 = fun_ext (λ q. fun_ext (λ n.
    rests_case names names' (single q) (single' q) is1 (λ k. ap (λ (f : Sums). f q k) is2) (name_of q) n))

pub once_rests : (names names' : Name → ℕ → ℕ) (single : Sums) → Rests names names' → Once names single → Once names' single
once_rests names names' single rest once = λ q t other has. once q t other (sym (same_sums (names t) (names' t) (rest t 0) (rest t 1)) ∙ has)

pub once_same : (names : Name → ℕ → ℕ) (single single' : Sums) → single' ≡ single → Once names single → Once names single'
once_same names single single' same once = subst (λ s. Once names s) (sym same) once

-- what is taken from a side without sums is nothing
pub nothing_taken : (entries : Entries LongPlace) (names' : Name → ℕ → ℕ) (name : Name) (field amount : ℕ) → has_sums (names_by entries name) ≡ false
    → Shifts is_same_name lower (names_by entries) names' name field amount → Rests (names_by entries) names'
nothing_taken entries names' name field amount none less = λ t n. go t n (is_same_name name t) refl
  where
    go : (t : Name) (n : ℕ) (b : Bool) → is_same_name name t ≡ b → names' t n ≡ names_by entries t n
    go t n true is =
        let gone : names_by entries t n ≡ 0 =
        ap (λ x. names_by entries x n) (sym (same_name name t is)) ∙ no_sums_side (sums_at (entries name.place)) name.side none n in
        let e = less t n in omega (arith, e, gone)
    go t n false is =
        less t n ∙ ap (λ x. lower x (names_by entries t n)) (other_amount (is_same_name name t) (field == n && nat_lt n 9) amount is) ∙ lower_none (names_by entries t n)

-- an entry stands for exactly the accounts whose sums are not all zero
tidy_case : (names : Name → ℕ → ℕ) (single : Bool) (sums : ℕ → ℕ) → ((t : Name) → (has_sums (names t) ≡ false) ↔ ((n : ℕ) → names t n ≡ 0))
    → (single ≡ false) ↔ ((n : ℕ) → sums n ≡ 0)
    → (o : Option Name) → (entry_from o names single ≡ false) ↔ ((n : ℕ) → sums_from o names sums n ≡ 0)
tidy_case names single sums sides tidy (Some t) = (
  λ is n. (let parts = neither (has_sums (names t)) single is in let e1 = (sides t).0 parts.0 n in let e2 = tidy.0 parts.1 n in omega (arith, e1, e2)),
  λ zeros. nor (has_sums (names t)) single ((sides t).1 (λ n. let e = zeros n in omega (arith, e))) (tidy.1 (λ n. let e = zeros n in omega (arith, e))),
)
  where
    neither : (a b : Bool) → (a || b) ≡ false → (a ≡ false) × (b ≡ false)
    neither true b is = absurd (cc is)
    neither false b is = (refl, is)

    nor : (a b : Bool) → a ≡ false → b ≡ false → (a || b) ≡ false
    nor true b is1 is2 = is1
    nor false b is1 is2 = is2
tidy_case names single sums sides tidy None = tidy

side_tidy : (f : ℕ → ℕ) (side : Side) → (has_sums (side_of f side) ≡ false) ↔ ((n : ℕ) → side_of f side n ≡ 0)
side_tidy f side = (
  no_sums_side f side,
  λ zeros. ap (λ x. not (x == 0 && side_of f side 1 == 0)) (zeros 0) ∙ ap (λ x. not (x == 0)) (zeros 1),
)

pub is_tidy : (unpaged : Unpaged) (account : Account) → (has_entry unpaged account ≡ false) ↔ ((n : ℕ) → sums_of unpaged account n ≡ 0)
unfolding has_entry sums_of
is_tidy unpaged account =
    tidy_case (names_in unpaged.names.parts.items) (single.has_entry unpaged.singles account) (single.sums_of unpaged.singles account)
    (λ t. side_tidy (sums_at (by_parts is_same_long part_of unpaged.names.parts.items t.place)) t.side) (singles_tidy unpaged.singles account) (name_of account)

-- ---- what functions leave

-- a sum that a name has none of
pub none_field : (entries : Entries LongPlace) (t : Name) (field : ℕ) → (field < 2 → has_sums (names_by entries t) ≡ false) → names_by entries t field ≡ 0
none_field entries t field none =
    ⊎_elim (λ low. no_sums_side (sums_at (entries t.place)) t.side (none low) field) (λ past. past_two (sums_at (entries t.place)) t.side field past) (cases_lt field 2)

pub once_taken : (entries : Entries LongPlace) (names' : Name → ℕ → ℕ) (single : Sums) (account : Account) (field amount : ℕ) (name : Name) → name_of account ≡ Some name
    → Shifts is_same_name lower (names_by entries) names' name field amount → Once (names_by entries) single → Once names' single
once_taken entries names' single account field amount name at less once = go (has_sums (names_by entries name)) refl
  where
    go : (b : Bool) → has_sums (names_by entries name) ≡ b → Once names' single
    go true has = once_shifted lower lower_none account field amount (names_by entries) names' single name at less once (once account name at has)
    go false has = once_rests (names_by entries) names' single (nothing_taken entries names' name field amount has less) once

pub once_made : {A E : Type 0} (result : Result A E) (names : Name → ℕ → ℕ) (single single' : Sums) (account : Account) (field amount : ℕ)
    → OnOk result (single' ≡ changed raise single account field amount) → OnErr result (single' ≡ single)
    → ((t : Name) → name_of account ≡ Some t → field < 2 → has_sums (names t) ≡ false) → Once names single → Once names single'
once_made (Ok a) names single single' account field amount is stay none once = once_single raise raise_none account field amount names single single' is none once
once_made (Err e) names single single' account field amount is stay none once = once_same names single single' stay once

pub named_made : {A E : Type 0} (result : Result A E) (single single' : Sums) (account : Account) (field amount : ℕ)
    → OnOk result (single' ≡ changed raise single account field amount) → OnErr result (single' ≡ single)
    → ((t : Name) → name_of account ≡ Some t → ⊥) → Named single → Named single'
named_made (Ok a) single single' account field amount is stay no_name named = go (name_of account) refl
  where
    go : (o : Option Name) → name_of account ≡ o → Named single'
    go (Some t) at = absurd (no_name t at)
    go None at = named_apart raise raise_none account field amount (λ t n. 0) single single' is at named
named_made (Err e) single single' account field amount is stay no_name named = subst (λ s. Named s) (sym stay) named

module _ (old new : Unpaged) where
  -- an amount to a sum in the entry of a name
  pub to_name : (how : ℕ → ℕ → ℕ) → ((sum : ℕ) → how 0 sum ≡ sum) → (account : Account) (field amount : ℕ) (name : Name) → name_of account ≡ Some name
      → Shifts is_same_name how (names_in old.names.parts.items) (names_in new.names.parts.items) name field amount → single.sums_of new.singles ≡ single.sums_of old.singles
      → single.sums_of old.singles account field ≡ 0 → sums_of new ≡ changed how (sums_of old) account field amount
  unfolding sums_of
  to_name how none account field amount name at shifts same own =
      ap (λ s. total (names_in new.names.parts.items) s) same
      ∙ names_changed how none account field amount (names_in old.names.parts.items) (names_in new.names.parts.items) (single.sums_of old.singles) name at shifts own

  -- to one in an entry of its own
  pub to_single : (how : ℕ → ℕ → ℕ) → ((sum : ℕ) → how 0 sum ≡ sum) → (account : Account) (field amount : ℕ)
      → ((t : Name) → name_of account ≡ Some t → field < 2 → has_sums (names_in old.names.parts.items t) ≡ false) → Rests (names_in old.names.parts.items) (names_in new.names.parts.items)
      → single.sums_of new.singles ≡ changed how (single.sums_of old.singles) account field amount → sums_of new ≡ changed how (sums_of old) account field amount
  unfolding sums_of
  to_single how none account field amount free rest is =
      total_rests (names_in old.names.parts.items) (names_in new.names.parts.items) (single.sums_of new.singles) (single.sums_of new.singles) rest refl
      ∙ single_changed how none account field amount (names_in old.names.parts.items) (single.sums_of old.singles) (single.sums_of new.singles) is
      (λ t at. none_field (by_parts is_same_long part_of old.names.parts.items) t field (free t at))

  pub all_stay : Rests (names_in old.names.parts.items) (names_in new.names.parts.items) → single.sums_of new.singles ≡ single.sums_of old.singles → sums_of new ≡ sums_of old
  unfolding sums_of
  all_stay rest same = total_rests (names_in old.names.parts.items) (names_in new.names.parts.items) (single.sums_of old.singles) (single.sums_of new.singles) rest same

-- where the sums of an account are kept
module _ (unpaged : Unpaged) (account : Account) where
  pub at_name : (t : Name) → name_of account ≡ Some t → (n : ℕ) → sums_of unpaged account n ≡ names_in unpaged.names.parts.items t n + single.sums_of unpaged.singles account n
  unfolding sums_of
  at_name t at n = ap (λ o. sums_from o (names_in unpaged.names.parts.items) (single.sums_of unpaged.singles account) n) at

  pub at_none : name_of account ≡ None → (n : ℕ) → sums_of unpaged account n ≡ single.sums_of unpaged.singles account n
  unfolding sums_of
  at_none at n = ap (λ o. sums_from o (names_in unpaged.names.parts.items) (single.sums_of unpaged.singles account) n) at

  -- where its name has no sums of it
  pub at_free : (t : Name) → name_of account ≡ Some t → has_sums (names_in unpaged.names.parts.items t) ≡ false → (n : ℕ)
      → sums_of unpaged account n ≡ single.sums_of unpaged.singles account n
  at_free t at none n =
      let gone = no_sums_side (sums_at (by_parts is_same_long part_of unpaged.names.parts.items t.place)) t.side none n in
      at_name t at n ∙ (let e : names_in unpaged.names.parts.items t n + single.sums_of unpaged.singles account n ≡ single.sums_of unpaged.singles account n = omega (arith, gone) in e)

  -- where it has some
  pub at_has : (t : Name) → name_of account ≡ Some t → has_sums (names_in unpaged.names.parts.items t) ≡ true → (n : ℕ) → n < 2 → sums_of unpaged account n ≡ names_in unpaged.names.parts.items t n
  at_has t at has n low =
      let gone = unpaged.once account t at has n low in
      at_name t at n ∙ (let e : names_in unpaged.names.parts.items t n + single.sums_of unpaged.singles account n ≡ names_in unpaged.names.parts.items t n = omega (arith, gone) in e)

  pub at_past : (t : Name) → name_of account ≡ Some t → (n : ℕ) → sums_of unpaged account (n + 2) ≡ single.sums_of unpaged.singles account (n + 2)
  at_past t at n =
      let gone = past_two (sums_at (by_parts is_same_long part_of unpaged.names.parts.items t.place)) t.side (n + 2) (omega arith) in
      at_name t at (n + 2)
      ∙ (let e : names_in unpaged.names.parts.items t (n + 2) + single.sums_of unpaged.singles account (n + 2) ≡ single.sums_of unpaged.singles account (n + 2) = omega (arith, gone) in e)

-- the rule of the accounts of names
pub rule_of : (account : Account) (t : Name) → name_of account ≡ Some t → (f : ℕ → ℕ) → is_broken account f ≡ not (f 0 == f 1)
unfolding is_broken
rule_of account t at f = ap (λ a. is_broken a f) (sym (of_name account t at)) ∙ go t.side
  where
    go : (s : Side) → is_broken (account_at t.place s) f ≡ not (f 0 == f 1)
    go (Entry hash) = refl
    go (Link index) = refl

pub has_by : (f : ℕ → ℕ) → (f 0 ≡ 0 → f 1 ≡ 0 → ⊥) → has_sums f ≡ true
has_by f some = go (f 0 == 0) (f 1 == 0) refl refl
  where
    go : (a b : Bool) → (f 0 == 0) ≡ a → (f 1 == 0) ≡ b → not (a && b) ≡ true
    go true true is1 is2 = absurd (some (eqb-true (f 0) 0 is1) (eqb-true (f 1) 0 is2))
    go true false is1 is2 = refl
    go false b is1 is2 = refl

pub none_by : (f : ℕ → ℕ) → f 0 ≡ 0 → f 1 ≡ 0 → has_sums f ≡ false
none_by f is1 is2 = ap (λ x. not (x == 0 && f 1 == 0)) is1 ∙ ap (λ x. not (x == 0)) is2

-- no sums at all
pub sums_none : (unpaged : Unpaged) → ((t : Name) (n : ℕ) → names_in unpaged.names.parts.items t n ≡ 0) → single.sums_of unpaged.singles ≡ no_sums → sums_of unpaged ≡ no_sums
unfolding sums_of
sums_none unpaged none is =
    total_rests (λ t n. 0) (names_in unpaged.names.parts.items) no_sums (single.sums_of unpaged.singles) none is
    ∙ fun_ext (λ q. fun_ext (λ n. nothing (name_of q) n))
  where
    nothing : (o : Option Name) (n : ℕ) → sums_from o (λ t k. 0) (λ k. 0) n ≡ 0
    nothing (Some t) n = omega arith
    nothing None n = refl

-- a sum in an entry of its own is all that the account has of it
pub full_single : {E : Type 0} (old new : Unpaged) (account : Account) (field : ℕ) (result : Result Bool E)
    → ((t : Name) → name_of account ≡ Some t → field < 2 → has_sums (names_in old.names.parts.items t) ≡ false) → Rests (names_in old.names.parts.items) (names_in new.names.parts.items)
    → IfOk result (λ full. full ≡ false → single.sums_of new.singles account field < greatest) → IfOk result (λ full. full ≡ false → sums_of new account field < greatest)
full_single old new account field result free rest =
    full_as result _ _ (go (name_of account) refl)
  where
    go : (o : Option Name) → name_of account ≡ o → single.sums_of new.singles account field ≡ sums_of new account field
    go (Some t) at =
        let gone = rest t field ∙ none_field (by_parts is_same_long part_of old.names.parts.items) t field (free t at) in
        let e : single.sums_of new.singles account field ≡ names_in new.names.parts.items t field + single.sums_of new.singles account field = omega (arith, gone) in
        e ∙ sym (at_name new account t at field)
    go None at = sym (at_none new account at field)

-- the first two sums are others
pub set_two : (xs : List ℕ) (x y : ℕ) (is : ℕ → ℕ) → length xs ≡ 9 → is 0 ≡ x → is 1 ≡ y → ((n : ℕ) → slice_index xs (n + 2) ≡ is (n + 2))
    → (n : ℕ) → slice_index (set (set xs 0 x) 1 y) n ≡ is n
set_two [] x y is size first second past n = absurd (omega (arith, size))
set_two (a ∷ []) x y is size first second past n = absurd (omega (arith, size))
set_two (a ∷ b ∷ xs) x y is size first second past zero = sym first
set_two (a ∷ b ∷ xs) x y is size first second past (suc zero) = sym second
set_two (a ∷ b ∷ xs) x y is size first second past (suc (suc n)) =
    let e : n + 2 ≡ suc (suc n) = omega arith in subst (λ k. slice_index (a ∷ b ∷ xs) k ≡ is k) e (past n)

-- an account that an amount goes to in the entry of its name has neither sum in an entry of its own
pub own_none : (unpaged : Unpaged) (account : Account) (name : Name) → name_of account ≡ Some name
    → (not unpaged.apart ≡ false → has_sums (names_in unpaged.names.parts.items name) ≡ true) → (n : ℕ) → n < 2 → single.sums_of unpaged.singles account n ≡ 0
own_none unpaged account name at has n low = go unpaged.apart refl
  where
    go : (b : Bool) → unpaged.apart ≡ b → single.sums_of unpaged.singles account n ≡ 0
    go true is = unpaged.once account name at (has (ap not is)) n low
    go false is = unpaged.named is account name at n

pub full_name : (unpaged : Unpaged) (account : Account) (name : Name) → name_of account ≡ Some name → (field : ℕ) → single.sums_of unpaged.singles account field ≡ 0
    → names_in unpaged.names.parts.items name field < greatest → sums_of unpaged account field < greatest
full_name unpaged account name at field gone low = let e = at_name unpaged account name at field in omega (arith, e, gone, low)

pub none_after : (names names' : Name → ℕ → ℕ) (account : Account) (name t : Name) → name_of account ≡ Some name → name_of account ≡ Some t → has_sums (names name) ≡ false
    → Rests names names' → has_sums (names' t) ≡ false
none_after names names' account name t at at' none rest =
    let e : name ≡ t = cc (at, at') in
    subst (λ k. has_sums (names' k) ≡ false) e (same_sums (names name) (names' name) (rest name 0) (rest name 1) ∙ none)

-- a table without parts has no sums of names
pub no_parts : {S : Type 0} (parts : List (IndexMap LongPlace Kept S)) → parts ≡ [] → (t : Name) (n : ℕ) → names_in parts t n ≡ 0
no_parts {S} parts is t n = ap (λ (ps : List (IndexMap LongPlace Kept S)). names_in ps t n) is ∙ go (0 == number_of t.side) (nat_lt n 2)
  where
    go : (b l : Bool) → ◌≡◌ {A = ℕ} (cond (b && l) 0 0) 0
    go true true = refl
    go true false = refl
    go false l = refl
