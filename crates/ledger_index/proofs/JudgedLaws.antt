-- The least broken account, one entry after the other.
use Rattle.std.proofs.Common.{◌≡◌, ℕ, zero, suc, ◌&&◌, Bool, true, false, cond, List, [], ◌∷◌, ◌++◌, ◌⊎◌, inl, inr, ⊎_elim, refl, ap, sym, ◌∙◌, subst}
use Rattle.std.specs.Prelude.{Option, Some, None, is_some, slice_get}
use Rattle.std.proofs.Math.Path.{fun_ext}
use Rattle.std.specs.Cmp.{IsEquivalence}
use Rattle.std.specs.List.{AllByRecursion, IsDistinct}
use Rattle.std.specs.List.Sorted.{IsStrictlySortedBy}
use Rattle.std.specs.Map.{keys_of, lookup}
use Rattle.std.specs.BTreeMap.{is_at}
use Rattle.indexmap.specs.IndexMap.{IndexMap}
use Rattle.std.specs.Ordering.{is_lt}
use Rattle.std.specs.declared.cmp.Ordering.{Ordering}
use Rattle.std.specs.declared.cmp.Ordering.TheVariants.{Less, Equal, Greater}
use Rattle.std.proofs.lemmas.Map.Keys.{IsDistinct-head, IsDistinct-tail, IsDistinct-from_sorted}
use Rattle.accounts.specs.declared.account.Account.{Account}
use Rattle.accounts.specs.Broken.{is_broken}
use Rattle.accounts.specs.Least.{IsLeastBroken}
use Rattle.accounts.specs.Order.{account_cmp}
use Rattle.accounts.specs.OrderLaws.{account_equiv, account_total}
use Rattle.accounts.specs.Sums.{is_same}
use Rattle.accounts.specs.Tally.{Sums}
use Rattle.accounts.proofs.First.{unposted}
use Rattle.accounts.proofs.Same.{is_Equal, same_account}
use Rattle.ledger_keys.specs.declared.kept.Kept.{Kept}
use Rattle.ledger_index.specs.declared.singles.Singles.{Singles}
use Rattle.ledger_keys.specs.declared.place.Place.{Place}
use Rattle.ledger_keys.specs.declared.long_place.LongPlace.{LongPlace}
use Rattle.ledger_maps.specs.Entries.{Within, by_account, entries_in, in_part}
use Rattle.ledger_index.specs.Judged.{IsLeastBut, breaks, is_later, lesser_of, stands_before}
use Rattle.ledger_keys.specs.Kept.{kept_sum, sums_at}
use Rattle.ledger_index.specs.Singles.{entry_at, entry_of, long_in, short_in, sums_of}
use Rattle.ledger_keys.specs.LongPlace as longer
use Rattle.ledger_keys.specs.LongPlaceLaws.{same_long}
use Rattle.ledger_keys.specs.Place.{account_of, is_same_place, part_of, place_of}
use Rattle.ledger_keys.specs.PlaceLaws.{same_place}
use Rattle.ledger_index.proofs.SinglesLaws.{at_long, at_place, at_whole}
use Rattle.ledger_keys.proofs.PlaceLaws.{of_long_place, of_place}
use Rattle.verdict.proofs.Truth.{is_less}

-- ---- an account is judged

not_itself : (a k : Account) {A : Type 0} → a ≡ k → account_cmp a k ≡ Less → A
not_itself a k same less =
    let tie : account_cmp k k ≡ Equal = is_Equal (account_cmp k k) (account_equiv.refl k) in
    let it : account_cmp k k ≡ Less = subst (λ b. account_cmp b k ≡ Less) same less in
    absurd (cc (tie, it))

not_less : (o : Ordering) {A : Type 0} → is_lt o ≡ false → o ≡ Less → A
not_less Less is less = absurd (cc is)
not_less Equal is less = absurd (cc less)
not_less Greater is less = absurd (cc less)

-- of what is judged later, some accounts are judged now
module _ (sums : Sums) (later later' : Account → Bool) (Here : Account → Type 0)
    (gone : (account : Account) → later' account ≡ false → (later account ≡ false) ⊎ Here account) where
  -- none of them is broken
  pub unbroken : ((account : Account) → Here account → is_broken account (sums account) ≡ false)
      → (found : Option Account) → IsLeastBut sums later found → IsLeastBut sums later' found
  unfolding IsLeastBut
  unbroken keeps None is = λ account past. ⊎_elim (λ p. is account p) (λ here. keeps account here) (gone account past)
  unbroken keeps (Some l) is =
      (is.0, λ account past less. ⊎_elim (λ p. is.1 account p less) (λ here. keeps account here) (gone account past))

  -- it is just one
  module _ (k : Account) (one : (account : Account) → Here account → account ≡ k) where
    before : is_broken k (sums k) ≡ true → (found : Option Account) → stands_before k found ≡ true → IsLeastBut sums later found
        → IsLeastBut sums later' (Some k)
    unfolding IsLeastBut
    before broken None first is =
        (broken, λ account past less. ⊎_elim (λ p. is account p) (λ here. not_itself account k (one account here) less) (gone account past))
    before broken (Some l) first is = (
      broken,
      λ account past less.
          ⊎_elim (λ p. is.1 account p (account_total.trans account k l less (is_less (account_cmp k l) first)))
          (λ here. not_itself account k (one account here) less) (gone account past),
    )

    behind : (found : Option Account) → stands_before k found ≡ false → IsLeastBut sums later found → IsLeastBut sums later' found
    unfolding IsLeastBut
    behind None first is = absurd (cc first)
    behind (Some l) first is = (
      is.0,
      λ account past less.
          ⊎_elim (λ p. is.1 account p less)
          (λ here. not_less (account_cmp k l) first (subst (λ b. account_cmp b l ≡ Less) (one account here) less)) (gone account past),
    )

    judged_case : (found : Option Account) (b s : Bool) → is_broken k (sums k) ≡ b → stands_before k found ≡ s → IsLeastBut sums later found
        → IsLeastBut sums later' (cond (b && s) (Some k) found)
    judged_case found true true broken first is = before broken found first is
    judged_case found true false broken first is = behind found first is
    judged_case found false s broken first is =
        unbroken (λ account here. subst (λ b. is_broken b (sums b) ≡ false) (sym (one account here)) broken) found is

    pub judged : (found : Option Account) → IsLeastBut sums later found → IsLeastBut sums later' (lesser_of (is_broken k (sums k)) k found)
    judged found is = judged_case found (is_broken k (sums k)) (stands_before k found) refl refl is

-- the kind alone decides what sums break
pub as_breaks : (account : Account) (kind : ℕ) (kept : Kept) (f : ℕ → ℕ) → account.kind ≡ kind → ((n : ℕ) → f n ≡ kept_sum kept n)
    → breaks kind (kept_sum kept) ≡ false → is_broken account f ≡ false
unfolding is_broken breaks
as_breaks account kind kept f same is keeps =
    ap (is_broken account) (fun_ext is) ∙ ap (λ k. breaks k (kept_sum kept)) same ∙ keeps

-- ---- entries are found under their keys

abbrev pub Found : {K T : Type 0} → (K → Option T) → List (K × T) → Type 0
Found entries [] = Unit {0}
Found entries (e ∷ es) = (entries e.0 ≡ Some e.1) × Found entries es

module _ {K T : Type 0} (same : K → K → Bool) (laws : IsEquivalence same) where
  found_more : (d : K × T) (es fs : List (K × T)) → AllByRecursion (λ k. same d.0 k ≡ false) (keys_of fs)
      → Found (λ k. lookup (same k) es) fs → Found (λ k. lookup (same k) (d ∷ es)) fs
  found_more d es [] apart found = tt
  found_more d es (f ∷ fs) apart found =
      (ap (λ b. cond b (Some d.1) (lookup (same f.0) es)) (laws.symm f.0 d.0 ∙ apart.0) ∙ found.0, found_more d es fs apart.1 found.1)

  pub found_all : (es : List (K × T)) → IsDistinct same (keys_of es) → Found (λ k. lookup (same k) es) es
  found_all [] distinct = tt
  found_all (e ∷ es) distinct = (
    ap (λ b. cond b (Some e.1) (lookup (same e.0) es)) (laws.refl e.0),
    found_more e es es (IsDistinct-head same e.0 (keys_of es) distinct) (found_all es (IsDistinct-tail same e.0 (keys_of es) distinct)),
  )

pub found_sorted : (es : List (Account × Kept)) → IsStrictlySortedBy account_cmp (keys_of es) → Found (λ k. lookup (is_at (account_cmp k)) es) es
found_sorted es sorted = found_all is_same account_equiv es (IsDistinct-from_sorted account_cmp (keys_of es) sorted)

-- ---- an entry is passed

-- it is the one that a key finds, or a later one
module _ {K : Type 0} (same : K → K → Bool) (exact : (a b : K) → same a b ≡ true → a ≡ b) where
  passed : {A : Type 0} (key : K) (e : K × Kept) (es : List (K × Kept)) (b : Bool) → same key e.0 ≡ b → is_some (lookup (same key) es) ≡ false
      → (key ≡ e.0 → A) → (is_some (lookup (same key) (e ∷ es)) ≡ false) ⊎ A
  passed key e es true is past here = inr (here (exact key e.0 is))
  passed key e es false is past here = inl (ap (λ c. is_some (cond c (Some e.1) (lookup (same key) es))) is ∙ past)

module _ (account : Account) where
  short_case : (e : Place × Kept) (short : List (Place × Kept)) (long : List (LongPlace × Kept)) (whole : List (Account × Kept))
      → (place : Option Place) (place' : Option LongPlace) → place_of account ≡ place
      → is_some (entry_at place place' (λ p. lookup (is_same_place p) short) (λ p. lookup (longer.is_same_long p) long) (lookup (is_at (account_cmp account)) whole)) ≡ false
      → (is_some (entry_at place place' (λ p. lookup (is_same_place p) (e ∷ short)) (λ p. lookup (longer.is_same_long p) long) (lookup (is_at (account_cmp account)) whole)) ≡ false)
      ⊎ (place_of account ≡ Some e.0)
  short_case e short long whole (Some p) place' at past = passed is_same_place same_place p e short (is_same_place p e.0) refl past (λ is. at ∙ ap Some is)
  short_case e short long whole None (Some p) at past = inl past
  short_case e short long whole None None at past = inl past

  pub short_passed : (e : Place × Kept) (short : List (Place × Kept)) (long : List (LongPlace × Kept)) (whole : List (Account × Kept))
      → is_later short long whole account ≡ false → (is_later (e ∷ short) long whole account ≡ false) ⊎ (place_of account ≡ Some e.0)
  unfolding is_later
  short_passed e short long whole past = short_case e short long whole (place_of account) (longer.long_of account) refl past

  long_case : (e : LongPlace × Kept) (long : List (LongPlace × Kept)) (whole : List (Account × Kept))
      → (place : Option Place) (place' : Option LongPlace) → place_of account ≡ place → longer.long_of account ≡ place'
      → is_some (entry_at place place' (λ p. lookup (is_same_place p) []) (λ p. lookup (longer.is_same_long p) long) (lookup (is_at (account_cmp account)) whole)) ≡ false
      → (is_some (entry_at place place' (λ p. lookup (is_same_place p) []) (λ p. lookup (longer.is_same_long p) (e ∷ long)) (lookup (is_at (account_cmp account)) whole)) ≡ false)
      ⊎ ((place_of account ≡ None) × (longer.long_of account ≡ Some e.0))
  long_case e long whole (Some p) place' at at' past = inl past
  long_case e long whole None (Some p) at at' past = passed longer.is_same_long same_long p e long (longer.is_same_long p e.0) refl past (λ is. (at, at' ∙ ap Some is))
  long_case e long whole None None at at' past = inl past

  pub long_passed : (e : LongPlace × Kept) (long : List (LongPlace × Kept)) (whole : List (Account × Kept))
      → is_later [] long whole account ≡ false
      → (is_later [] (e ∷ long) whole account ≡ false) ⊎ ((place_of account ≡ None) × (longer.long_of account ≡ Some e.0))
  unfolding is_later
  long_passed e long whole past = long_case e long whole (place_of account) (longer.long_of account) refl refl past

  abbrev pub IsWhole : Account → Type 0
  IsWhole whole = (place_of account ≡ None) × (longer.long_of account ≡ None) × (account ≡ whole)

  whole_case : (e : Account × Kept) (whole : List (Account × Kept))
      → (place : Option Place) (place' : Option LongPlace) → place_of account ≡ place → longer.long_of account ≡ place'
      → is_some (entry_at place place' (λ p. lookup (is_same_place p) []) (λ p. lookup (longer.is_same_long p) []) (lookup (is_at (account_cmp account)) whole)) ≡ false
      → (is_some (entry_at place place' (λ p. lookup (is_same_place p) []) (λ p. lookup (longer.is_same_long p) []) (lookup (is_at (account_cmp account)) (e ∷ whole))) ≡ false)
      ⊎ IsWhole e.0
  whole_case e whole (Some p) place' at at' past = inl past
  whole_case e whole None (Some p) at at' past = inl past
  whole_case e whole None None at at' past = passed is_same same_account account e whole (is_same account e.0) refl past (λ is. (at, at', is))

  pub whole_passed : (e : Account × Kept) (whole : List (Account × Kept))
      → is_later [] [] whole account ≡ false → (is_later [] [] (e ∷ whole) account ≡ false) ⊎ IsWhole e.0
  unfolding is_later
  whole_passed e whole past = whole_case e whole (place_of account) (longer.long_of account) refl refl past

-- ---- all entries are passed

none_later : (account : Account) (place : Option Place) (place' : Option LongPlace)
    → is_some (entry_at place place' (λ p. lookup {X = Kept} (is_same_place p) []) (λ p. lookup (longer.is_same_long p) []) None) ≡ false
none_later account (Some p) place' = refl
none_later account None (Some p) = refl
none_later account None None = refl

pub least_of_all : (sums : Sums) (found : Option Account) → IsLeastBut sums (is_later [] [] []) found
    → IsLeastBroken (λ account. is_broken account (sums account)) found
unfolding IsLeastBut is_later
least_of_all sums None is = λ account. is account (none_later account (place_of account) (longer.long_of account))
least_of_all sums (Some l) is = (is.0, λ account less. is.1 account (none_later account (place_of account) (longer.long_of account)) less)

nothing_there : (account : Account) (entry : Option Kept) → is_some entry ≡ false → is_broken account (sums_at entry) ≡ false
nothing_there account None none = unposted account
nothing_there account (Some kept) none = absurd (cc none)

-- what is found in no part is not among all their entries
module _ {K : Type 0} (same : K → K → Bool) (key : K) where
  abbrev Neither : List (K × Kept) → List (K × Kept) → Type 0
  Neither es fs = (is_some (lookup (same key) es) ≡ false) × (is_some (lookup (same key) fs) ≡ false)

  none_step : (e : K × Kept) (es fs : List (K × Kept)) (b : Bool) → same key e.0 ≡ b → (is_some (lookup (same key) (es ++ fs)) ≡ false → Neither es fs)
      → is_some (lookup (same key) (e ∷ es ++ fs)) ≡ false → Neither (e ∷ es) fs
  none_step e es fs true is more none =
      absurd (cc (sym (ap (λ c. is_some (cond c (Some e.1) (lookup (same key) (es ++ fs)))) is) ∙ none))
  none_step e es fs false is more none =
      let both = more (sym (ap (λ c. is_some (cond c (Some e.1) (lookup (same key) (es ++ fs)))) is) ∙ none) in
      (ap (λ c. is_some (cond c (Some e.1) (lookup (same key) es))) is ∙ both.0, both.1)

  none_apart : (es fs : List (K × Kept)) → is_some (lookup (same key) (es ++ fs)) ≡ false → Neither es fs
  none_apart [] fs none = (refl, none)
  none_apart (e ∷ es) fs none = none_step e es fs (same key e.0) refl (none_apart es fs) none

  pub none_in : {S : Type 0} (parts : List (IndexMap K Kept S)) (n : ℕ) → is_some (lookup (same key) (entries_in parts)) ≡ false
      → is_some (in_part same key (slice_get parts n)) ≡ false
  unfolding entries_in
  none_in [] n none = refl
  none_in (part ∷ parts) zero none = let both = none_apart part.entries (entries_in parts) none in both.0
  none_in (part ∷ parts) (suc n) none = let both = none_apart part.entries (entries_in parts) none in none_in parts n both.1

-- entries that are found in a part are found in the table
pub found_within : {K : Type 0} (part table : K → Option Kept) → Within part table → (es : List (K × Kept)) → Found part es → Found table es
found_within part table within [] found = tt
found_within part table within (e ∷ es) found = (within e.0 e.1 found.0, found_within part table within es found.1)

module _ (ledger : Singles) where
  none_then : (whole : Option Kept) (place : Option Place) (long : Option LongPlace)
      → is_some (entry_at place long (λ p. lookup (is_same_place p) (entries_in ledger.short.parts.items))
      (λ p. lookup (longer.is_same_long p) (entries_in ledger.long.parts.items)) whole) ≡ false
      → is_some (entry_at place long (short_in ledger) (long_in ledger) whole) ≡ false
  none_then whole (Some p) long past = none_in is_same_place p ledger.short.parts.items (part_of p) past
  none_then whole None (Some p) past = none_in longer.is_same_long p ledger.long.parts.items (longer.part_of p) past
  none_then whole None None past = past

  -- before the first entry
  pub least_of_none : IsLeastBut (sums_of ledger) (is_later (entries_in ledger.short.parts.items) (entries_in ledger.long.parts.items) ledger.whole.entries.entries) None
  unfolding IsLeastBut is_later sums_of entry_of
  least_of_none = λ account past. nothing_there account (entry_of ledger account)
      (none_then (lookup (is_at (account_cmp account)) ledger.whole.entries.entries) (place_of account) (longer.long_of account) past)

  -- ---- a step of a loop

  module _ (rest : List (Place × Kept)) (p : Place) (kept : Kept) (found : Option Account)
      (is : IsLeastBut (sums_of ledger) (is_later ((p, kept) ∷ rest) (entries_in ledger.long.parts.items) ledger.whole.entries.entries) found) where
    pub short_kept : short_in ledger p ≡ Some kept → (kind : ℕ) → kind ≡ (account_of p).kind → breaks kind (kept_sum kept) ≡ false
        → IsLeastBut (sums_of ledger) (is_later rest (entries_in ledger.long.parts.items) ledger.whole.entries.entries) found
    short_kept there kind same keeps =
        unbroken (sums_of ledger) (is_later ((p, kept) ∷ rest) (entries_in ledger.long.parts.items) ledger.whole.entries.entries)
        (is_later rest (entries_in ledger.long.parts.items) ledger.whole.entries.entries) (λ account. place_of account ≡ Some p)
        (λ account. short_passed account (p, kept) rest (entries_in ledger.long.parts.items) ledger.whole.entries.entries)
        (λ account at. as_breaks account kind kept (sums_of ledger account) (ap (λ (a : Account). a.kind) (sym (of_place account p at)) ∙ sym same)
        (λ n. sym (at_place ledger account p (sym at) n) ∙ ap (λ o. sums_at o n) there) keeps) found is

    pub short_judged : (k : Account) → k ≡ account_of p → (least : Option Account) → least ≡ lesser_of (is_broken k (sums_of ledger k)) k found
        → IsLeastBut (sums_of ledger) (is_later rest (entries_in ledger.long.parts.items) ledger.whole.entries.entries) least
    short_judged k made least so =
        subst (IsLeastBut (sums_of ledger) (is_later rest (entries_in ledger.long.parts.items) ledger.whole.entries.entries)) (sym so)
        (judged (sums_of ledger) (is_later ((p, kept) ∷ rest) (entries_in ledger.long.parts.items) ledger.whole.entries.entries)
        (is_later rest (entries_in ledger.long.parts.items) ledger.whole.entries.entries) (λ account. place_of account ≡ Some p)
        (λ account. short_passed account (p, kept) rest (entries_in ledger.long.parts.items) ledger.whole.entries.entries) k
        (λ account at. sym (of_place account p at) ∙ sym made) found is)

  module _ (rest : List (LongPlace × Kept)) (p : LongPlace) (kept : Kept) (found : Option Account)
      (is : IsLeastBut (sums_of ledger) (is_later [] ((p, kept) ∷ rest) ledger.whole.entries.entries) found) where
    pub long_kept : long_in ledger p ≡ Some kept → (kind : ℕ) → kind ≡ p.kind → breaks kind (kept_sum kept) ≡ false
        → IsLeastBut (sums_of ledger) (is_later [] rest ledger.whole.entries.entries) found
    long_kept there kind same keeps =
        unbroken (sums_of ledger) (is_later [] ((p, kept) ∷ rest) ledger.whole.entries.entries)
        (is_later [] rest ledger.whole.entries.entries) (λ account. (place_of account ≡ None) × (longer.long_of account ≡ Some p))
        (λ account. long_passed account (p, kept) rest ledger.whole.entries.entries)
        (λ account at. as_breaks account kind kept (sums_of ledger account) (ap (λ (a : Account). a.kind) (sym (of_long_place account p at.1)) ∙ sym same)
        (λ n. sym (at_long ledger account p (sym at.0) (sym at.1) n) ∙ ap (λ o. sums_at o n) there) keeps) found is

    pub long_judged : (k : Account) → k ≡ longer.account_of p → (least : Option Account) → least ≡ lesser_of (is_broken k (sums_of ledger k)) k found
        → IsLeastBut (sums_of ledger) (is_later [] rest ledger.whole.entries.entries) least
    long_judged k made least so =
        subst (IsLeastBut (sums_of ledger) (is_later [] rest ledger.whole.entries.entries)) (sym so)
        (judged (sums_of ledger) (is_later [] ((p, kept) ∷ rest) ledger.whole.entries.entries)
        (is_later [] rest ledger.whole.entries.entries) (λ account. (place_of account ≡ None) × (longer.long_of account ≡ Some p))
        (λ account. long_passed account (p, kept) rest ledger.whole.entries.entries) k
        (λ account at. sym (of_long_place account p at.1) ∙ sym made) found is)

  module _ (rest : List (Account × Kept)) (a : Account) (kept : Kept) (found : Option Account)
      (is : IsLeastBut (sums_of ledger) (is_later [] [] ((a, kept) ∷ rest)) found) where
    pub whole_kept : by_account ledger.whole.entries a ≡ Some kept → breaks a.kind (kept_sum kept) ≡ false
        → IsLeastBut (sums_of ledger) (is_later [] [] rest) found
    whole_kept there keeps =
        unbroken (sums_of ledger) (is_later [] [] ((a, kept) ∷ rest)) (is_later [] [] rest) (λ account. IsWhole account a)
        (λ account. whole_passed account (a, kept) rest)
        (λ account at. as_breaks account a.kind kept (sums_of ledger account) (ap (λ (b : Account). b.kind) at.2)
        (λ n. sym (at_whole ledger account (sym at.0) (sym at.1) n) ∙ ap (λ (b : Account). sums_at (by_account ledger.whole.entries b) n) at.2 ∙ ap (λ o. sums_at o n) there)
        keeps) found is

    pub whole_judged : (k : Account) → k ≡ a → (least : Option Account) → least ≡ lesser_of (is_broken k (sums_of ledger k)) k found
        → IsLeastBut (sums_of ledger) (is_later [] [] rest) least
    whole_judged k made least so =
        subst (IsLeastBut (sums_of ledger) (is_later [] [] rest)) (sym so)
        (judged (sums_of ledger) (is_later [] [] ((a, kept) ∷ rest)) (is_later [] [] rest) (λ account. IsWhole account a)
        (λ account. whole_passed account (a, kept) rest) k (λ account at. at.2 ∙ sym made) found is)
