-- A table in parts: what it says once one of its parts is changed.
use Rattle.std.proofs.Common.{◌≡◌, ℕ, zero, suc, ◌+◌, ◌<◌, ◌==◌, ◌&&◌, Bool, true, false, cond, List, [], ◌∷◌, length, drop, get_or, set, refl, ap, sym, ◌∙◌, subst, arith}
use Rattle.std.specs.Prelude.{Option, Some, None, Result, Ok, Err, OnOk, OnErr, nat_lt, slice_get}
use Rattle.std.specs.List.{AllByRecursion}
use Rattle.std.specs.Map.{lookup}
use Rattle.std.proofs.lemmas.Bool.{eqb-true, eqb-false}
use Rattle.std.proofs.lemmas.List.{drop_more}
use Rattle.indexmap.specs.IndexMap.{IndexMap, index_map_len}
use Rattle.ledger_keys.specs.declared.kept.Kept.{Kept}
use Rattle.ledger_keys.specs.Kept.{IsZero, sums_at}
use Rattle.ledger_maps.specs.Entries.{AreEmpty, AreFit, AreTidy, Changes, Entries, IsFit, Stays, Within, by_key, by_parts, count_in, in_part}
use Rattle.ledger_keys.specs.Sums.{raise}
use Rattle.ledger_keys.proofs.SumLaws.{other_amount, raise_none}

-- ---- lists

module _ {X : Type 0} where
  pub set_here : (xs : List X) (i : ℕ) (y : X) → i < length xs → slice_get (set xs i y) i ≡ Some y
  set_here [] i y within = absurd (omega arith)
  set_here (x ∷ xs) zero y within = refl
  set_here (x ∷ xs) (suc i) y within = set_here xs i y (omega arith)

  pub set_apart : (xs : List X) (i j : ℕ) (y : X) → (i ≡ j → ⊥) → slice_get (set xs i y) j ≡ slice_get xs j
  set_apart [] i j y apart = refl
  set_apart (x ∷ xs) zero zero y apart = absurd (apart refl)
  set_apart (x ∷ xs) zero (suc j) y apart = refl
  set_apart (x ∷ xs) (suc i) zero y apart = refl
  set_apart (x ∷ xs) (suc i) (suc j) y apart = set_apart xs i j y (λ e. apart (ap suc e))

  pub drop_step : (xs : List X) (i : ℕ) (x : X) → i < length xs → x ≡ get_or xs i x → drop i xs ≡ x ∷ drop (i + 1) xs
  drop_step xs i x within at = drop_more xs i x within ∙ ap (λ y. y ∷ drop (i + 1) xs) (sym at)

  pub all_by : (P : X → Type 0) (xs : List X) → ((n : ℕ) (x : X) → slice_get xs n ≡ Some x → P x) → AllByRecursion P xs
  all_by P [] each = tt
  all_by P (x ∷ xs) each = (each 0 x refl, all_by P xs (λ n y at. each (suc n) y at))

-- ---- what stands in a part

module _ {K S : Type 0} (same : K → K → Bool) (number : K → ℕ) where
  in_case : (key : K) (o : Option (IndexMap K Kept S)) (n : ℕ) → ((part : IndexMap K Kept S) → o ≡ Some part → IsFit same number n part)
      → (kept : Kept) → in_part same key o ≡ Some kept → IsZero kept → ⊥
  in_case key None n fit kept at none = absurd (cc at)
  in_case key (Some part) n fit kept at none = let is = fit part refl in is.tidy key kept at none

  -- no entry is zero
  pub tidy_parts : (parts : List (IndexMap K Kept S)) → AreFit same number parts → AreTidy (by_parts same number parts)
  tidy_parts parts fit = λ key kept at none. in_case key (slice_get parts (number key)) (number key) (λ part is. fit (number key) part is) kept at none

  -- a part with all its entries in the table
  pub within_parts : (parts : List (IndexMap K Kept S)) → AreFit same number parts
      → AllByRecursion (λ (part : IndexMap K Kept S). Within (by_key same part) (by_parts same number parts)) parts
  within_parts parts fit = all_by (λ (part : IndexMap K Kept S). Within (by_key same part) (by_parts same number parts)) parts
      (λ n part at. λ key kept is. (let
      home : number key ≡ n = (fit n part at).home key kept is in let
      there : slice_get parts (number key) ≡ Some part = ap (slice_get parts) home ∙ at in
      ap (in_part same key) there ∙ is))

  -- a table of empty parts
  empty_case : (key : K) (parts : List (IndexMap K Kept S)) (n : ℕ) → AreEmpty parts → in_part same key (slice_get parts n) ≡ None
  empty_case key [] n none = refl
  empty_case key (part ∷ parts) zero none = ap (lookup (same key)) none.0
  empty_case key (part ∷ parts) (suc n) none = empty_case key parts n none.1

  pub empty_parts : (parts : List (IndexMap K Kept S)) → AreEmpty parts → (key : K) → by_parts same number parts key ≡ None
  empty_parts parts none key = empty_case key parts (number key) none

  empty_at : (parts : List (IndexMap K Kept S)) (n : ℕ) (part : IndexMap K Kept S) → AreEmpty parts → slice_get parts n ≡ Some part → part.entries ≡ []
  empty_at [] n part none at = absurd (cc at)
  empty_at (p ∷ parts) zero part none at = let e : p ≡ part = cc at in ap (λ (m : IndexMap K Kept S). m.entries) (sym e) ∙ none.0
  empty_at (p ∷ parts) (suc n) part none at = empty_at parts n part none.1 at

  pub empty_fit : (parts : List (IndexMap K Kept S)) → AreEmpty parts → AreFit same number parts
  empty_fit parts none = λ n part at. (let
      is : part.entries ≡ [] = empty_at parts n part none at in record {
        tidy = λ key kept there none_there. (let e : by_key same part key ≡ None = ap (lookup (same key)) is in absurd (cc (e, there)));
        home = λ key kept there. (let e : by_key same part key ≡ None = ap (lookup (same key)) is in absurd (cc (e, there)));
      })

pub empty_count : {K S : Type 0} (parts : List (IndexMap K Kept S)) → AreEmpty parts → count_in parts ≡ 0
unfolding count_in
empty_count [] none = refl
empty_count (part ∷ parts) none = let e : length part.entries ≡ 0 = ap length none.0 in let rest = empty_count parts none.1 in omega (arith, e, rest)

-- no parts
pub none_count : {K S : Type 0} (parts : List (IndexMap K Kept S)) → length parts ≡ 0 → count_in parts ≡ 0
unfolding count_in
none_count [] none = refl
none_count (part ∷ parts) none = absurd (omega (arith, none))

-- ---- a part is changed

module _ {K S : Type 0} (same : K → K → Bool) (exact : (a b : K) → same a b ≡ true → a ≡ b) (number : K → ℕ) where
  -- what is kept of the keys of other parts stays
  pub apart_case : (parts : List (IndexMap K Kept S)) (i : ℕ) (part' : IndexMap K Kept S) (q : K) → (i ≡ number q → ⊥)
      → by_parts same number (set parts i part') q ≡ by_parts same number parts q
  apart_case parts i part' q apart = ap (in_part same q) (set_apart parts i (number q) part' apart)

  module _ (parts : List (IndexMap K Kept S)) (i : ℕ) (part part' : IndexMap K Kept S) (within : i < length parts) (at : slice_get parts i ≡ Some part) where
    pub here_new : (q : K) → i ≡ number q → by_parts same number (set parts i part') q ≡ by_key same part' q
    here_new q is = ap (λ n. in_part same q (slice_get (set parts i part') n)) (sym is) ∙ ap (in_part same q) (set_here parts i part' within)

    pub here_old : (q : K) → i ≡ number q → by_parts same number parts q ≡ by_key same part q
    here_old q is = ap (λ n. in_part same q (slice_get parts n)) (sym is) ∙ ap (in_part same q) at

    module _ (how : ℕ → ℕ → ℕ) (none : (sum : ℕ) → how 0 sum ≡ sum) (key : K) (here : number key ≡ i) (field amount : ℕ) where
      stay_case : (q : K) (n : ℕ) (s : Bool) → same key q ≡ s → (i ≡ number q → ⊥) → sums_at (by_parts same number parts q) n
          ≡ how (cond (same key q && (field == n && nat_lt n 9)) amount 0) (sums_at (by_parts same number parts q) n)
      stay_case q n true is apart = absurd (apart (sym here ∙ ap number (exact key q is)))
      stay_case q n false is apart =
          sym (none (sums_at (by_parts same number parts q) n))
          ∙ ap (λ x. how x (sums_at (by_parts same number parts q) n)) (sym (other_amount (same key q) (field == n && nat_lt n 9) amount is))

      change_case : (q : K) (n : ℕ) (b : Bool) → (i == number q) ≡ b → Changes same how (by_key same part) (by_key same part') key field amount
          → sums_at (by_parts same number (set parts i part') q) n
          ≡ how (cond (same key q && (field == n && nat_lt n 9)) amount 0) (sums_at (by_parts same number parts q) n)
      change_case q n true is changes = let e : i ≡ number q = eqb-true i (number q) is in
          ap (λ o. sums_at o n) (here_new q e) ∙ changes q n
          ∙ ap (λ o. how (cond (same key q && (field == n && nat_lt n 9)) amount 0) (sums_at o n)) (sym (here_old q e))
      change_case q n false is changes = let apart : i ≡ number q → ⊥ = eqb-false i (number q) is in
          ap (λ o. sums_at o n) (apart_case parts i part' q apart) ∙ stay_case q n (same key q) refl apart

      -- an amount to a key of the part
      pub changes_part : Changes same how (by_key same part) (by_key same part') key field amount
          → Changes same how (by_parts same number parts) (by_parts same number (set parts i part')) key field amount
      changes_part changes = λ q n. change_case q n (i == number q) refl changes

    -- the sums stay
    stays_case : (q : K) (n : ℕ) (b : Bool) → (i == number q) ≡ b → Stays (by_key same part) (by_key same part')
        → sums_at (by_parts same number (set parts i part') q) n ≡ sums_at (by_parts same number parts q) n
    stays_case q n true is stays = let e : i ≡ number q = eqb-true i (number q) is in
        ap (λ o. sums_at o n) (here_new q e) ∙ stays q n ∙ ap (λ o. sums_at o n) (sym (here_old q e))
    stays_case q n false is stays = ap (λ o. sums_at o n) (apart_case parts i part' q (eqb-false i (number q) is))

    pub stays_part : Stays (by_key same part) (by_key same part') → Stays (by_parts same number parts) (by_parts same number (set parts i part'))
    stays_part stays = λ q n. stays_case q n (i == number q) refl stays

    -- the part is fit again
    home_case : (q : K) (kept : Kept) (o : Option Kept) → by_key same part q ≡ o → IsFit same number i part → AreTidy (by_key same part')
        → ((n : ℕ) → sums_at (by_key same part' q) n ≡ sums_at (by_key same part q) n) → by_key same part' q ≡ Some kept → number q ≡ i
    home_case q kept (Some was) had fit tidy stay is = fit.home q was had
    home_case q kept None had fit tidy stay is =
        absurd (tidy q kept is (λ n. ap (λ o. sums_at o n) (sym is) ∙ stay n ∙ ap (λ o. sums_at o n) had))

    home_of : (key q : K) (kept : Kept) (s : Bool) → same key q ≡ s → number key ≡ i → IsFit same number i part → AreTidy (by_key same part')
        → ((n : ℕ) → same key q ≡ false → sums_at (by_key same part' q) n ≡ sums_at (by_key same part q) n) → by_key same part' q ≡ Some kept → number q ≡ i
    home_of key q kept true is here fit tidy stay at' = ap number (sym (exact key q is)) ∙ here
    home_of key q kept false is here fit tidy stay at' = home_case q kept (by_key same part q) refl fit tidy (λ n. stay n is) at'

    fit_at : (n : ℕ) (p : IndexMap K Kept S) (b : Bool) → (i == n) ≡ b → slice_get (set parts i part') n ≡ Some p → AreFit same number parts → IsFit same number i part'
        → IsFit same number n p
    fit_at n p true is there fit fit' = let
        e : i ≡ n = eqb-true i n is in let
        f : Some part' ≡ Some p = sym (set_here parts i part' within) ∙ ap (slice_get (set parts i part')) e ∙ there in let
        g : part' ≡ p = cc f in
        subst (λ m. IsFit same number m p) e (subst (IsFit same number i) g fit')
    fit_at n p false is there fit fit' = fit n p (sym (set_apart parts i n part' (eqb-false i n is)) ∙ there)

    pub fit_part : (key : K) → number key ≡ i → AreFit same number parts → (AreTidy (by_key same part) → AreTidy (by_key same part'))
        → ((q : K) (n : ℕ) → same key q ≡ false → sums_at (by_key same part' q) n ≡ sums_at (by_key same part q) n) → AreFit same number (set parts i part')
    fit_part key here fit tidy stay = let was : IsFit same number i part = fit i part at in λ n p there. fit_at n p (i == n) refl there fit (record {
      tidy = tidy was.tidy;
      home = λ q kept is. home_of key q kept (same key q) refl here was (tidy was.tidy) (λ m. stay q m) is;
    })

-- a change of one key leaves the sums of the others
pub others_stay : {K : Type 0} (same : K → K → Bool) (how : ℕ → ℕ → ℕ) → ((sum : ℕ) → how 0 sum ≡ sum) → (old new : Entries K) (key : K) (field amount : ℕ)
    → Changes same how old new key field amount → (q : K) (n : ℕ) → same key q ≡ false → sums_at (new q) n ≡ sums_at (old q) n
others_stay same how none old new key field amount changes q n other =
    changes q n ∙ ap (λ x. how x (sums_at (old q) n)) (other_amount (same key q) (field == n && nat_lt n 9) amount other) ∙ none (sums_at (old q) n)

-- also where there was no memory for it
pub others_added : {K A E : Type 0} (same : K → K → Bool) (old new : Entries K) (key : K) (field amount : ℕ) (result : Result A E)
    → OnOk result (Changes same raise old new key field amount) → OnErr result (Stays old new)
    → (q : K) (n : ℕ) → same key q ≡ false → sums_at (new q) n ≡ sums_at (old q) n
others_added same old new key field amount (Ok a) changes stays = others_stay same raise raise_none old new key field amount changes
others_added same old new key field amount (Err e) changes stays = λ q n other. stays q n

-- how many entries there are once one part is another
pub count_set : {K S : Type 0} (parts : List (IndexMap K Kept S)) (i : ℕ) (part part' : IndexMap K Kept S) → slice_get parts i ≡ Some part
    → count_in (set parts i part') + index_map_len part ≡ count_in parts + index_map_len part'
unfolding count_in
count_set [] i part part' at = absurd (cc at)
count_set (p ∷ parts) zero part part' at = let e : p ≡ part = cc at in let f : length p.entries ≡ length part.entries = ap (λ (m : IndexMap _ Kept _). length m.entries) e in omega (arith, f)
count_set (p ∷ parts) (suc i) part part' at = let rest = count_set parts i part part' at in omega (arith, rest)
