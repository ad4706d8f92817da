-- What entries say once that under one key is changed.
use Rattle.std.proofs.Common.{◌≡◌, ℕ, ◌<◌, ◌^◌, ◌==◌, ◌&&◌, Bool, true, false, cond, refl, ap, sym, ◌∙◌, subst, arith}
use Rattle.std.specs.Prelude.{Option, Some, None, Result, Ok, Err, IfOk, OnOk, OnErr, nat_lt}
use Rattle.std.proofs.lemmas.Bool.{lt-ltb}
use Rattle.ledger_keys.specs.declared.kept.Kept.{Kept}
use Rattle.ledger_keys.specs.Sums.{amount_at, greatest, lower, raise}
use Rattle.ledger_keys.specs.Kept.{IsZero, kept_sum, sums_at}
use Rattle.ledger_keys.proofs.SumLaws.{lower_none, other_amount, raised_nothing}
use Rattle.ledger_maps.specs.Entries.{AreTidy, Changes, Entries, Stays}

own_amount : (s a : Bool) (amount : ℕ) → s ≡ true → cond (s && a) amount 0 ≡ cond a amount 0
own_amount true a amount is = refl
own_amount false a amount is = absurd (cc is)

module _ {K : Type 0} (same : K → K → Bool) (one : (a b : K) → same a b ≡ true → a ≡ b) where
  module _ (how : ℕ → ℕ → ℕ) (none : (sum : ℕ) → how 0 sum ≡ sum) where
    changed_case : (old new : Entries K) (key : K) (field amount : ℕ) (w : Option Kept) (q : K) (s : Bool) → same key q ≡ s
        → new q ≡ cond s w (old q)
        → ((k : ℕ) → sums_at w k ≡ how (amount_at field amount k) (sums_at (old key) k))
        → (k : ℕ) → sums_at (new q) k ≡ how (cond (same key q && (field == k && nat_lt k 9)) amount 0) (sums_at (old q) k)
    changed_case old new key field amount w q true is updates own k =
        ap (λ o. sums_at o k) updates
        ∙ own k
        ∙ ap (λ a. how (amount_at field amount k) (sums_at (old a) k)) (one key q is)
        ∙ ap (λ x. how x (sums_at (old q) k)) (sym (own_amount (same key q) (field == k && nat_lt k 9) amount is))
    changed_case old new key field amount w q false is updates own k =
        ap (λ o. sums_at o k) updates
        ∙ sym (none (sums_at (old q) k))
        ∙ ap (λ x. how x (sums_at (old q) k)) (sym (other_amount (same key q) (field == k && nat_lt k 9) amount is))

    -- what is kept under a key was changed by an amount to it, and the rest stays
    pub changed_entry : (old new : Entries K) (key : K) (field amount : ℕ) (w : Option Kept)
        → ((q : K) → new q ≡ cond (same key q) w (old q))
        → ((k : ℕ) → sums_at w k ≡ how (amount_at field amount k) (sums_at (old key) k))
        → Changes same how old new key field amount
    changed_entry old new key field amount w updates own = λ q k. changed_case old new key field amount w q (same key q) refl (updates q) own k

  absent_case : (old : Entries K) (key q : K) (s : Bool) → same key q ≡ s → old key ≡ None → old q ≡ cond s None (old q)
  absent_case old key q true is none = subst (λ a. old a ≡ None) (one key q is) none
  absent_case old key q false is none = refl

  -- what is taken where no entry stands changes nothing
  pub lowered_absent : (old new : Entries K) (key : K) (field amount : ℕ) → ((q : K) → new q ≡ old q) → old key ≡ None
      → Changes same lower old new key field amount
  lowered_absent old new key field amount stay none =
      changed_entry lower lower_none old new key field amount None (λ q. stay q ∙ absent_case old key q (same key q) refl none)
      (λ k. let e : sums_at (old key) k ≡ 0 = ap (λ o. sums_at o k) none in omega arith)

  -- no entry is zero
  tidy_case : (old new : Entries K) (w : Option Kept) (q : K) (s : Bool) → new q ≡ cond s w (old q)
      → AreTidy old → ((t : Kept) → w ≡ Some t → IsZero t → ⊥) → (t : Kept) → new q ≡ Some t → IsZero t → ⊥
  tidy_case old new w q true is tidy own t at = own t (sym is ∙ at)
  tidy_case old new w q false is tidy own t at = tidy q t (sym is ∙ at)

  pub tidy_entry : (old new : Entries K) (key : K) (w : Option Kept) → ((q : K) → new q ≡ cond (same key q) w (old q))
      → AreTidy old → ((t : Kept) → w ≡ Some t → IsZero t → ⊥) → AreTidy new
  tidy_entry old new key w updates tidy own = λ q t at. tidy_case old new w q (same key q) (updates q) tidy own t at

  -- an entry that is not zero
  pub tidy_put : (old new : Entries K) (key : K) (w : Kept) → ((q : K) → new q ≡ cond (same key q) (Some w) (old q))
      → AreTidy old → (IsZero w → ⊥) → AreTidy new
  tidy_put old new key w updates tidy own =
      tidy_entry old new key (Some w) updates tidy (λ t at zero. own (λ k. let e : kept_sum w k ≡ kept_sum t k = ap (λ o. sums_at o k) at in e ∙ zero k))

  -- where an entry was put, or there was no memory for it
  pub tidy_insert : {A E : Type 0} (result : Result A E) (old new : Entries K) (key : K) (w : Kept)
      → OnOk result ((q : K) → new q ≡ cond (same key q) (Some w) (old q)) → OnErr result ((q : K) → new q ≡ old q)
      → AreTidy old → (IsZero w → ⊥) → AreTidy new
  tidy_insert (Ok a) old new key w put kept tidy own = tidy_put old new key w put tidy own
  tidy_insert (Err e) old new key w put kept tidy own = λ q t at. tidy q t (sym (kept q) ∙ at)

  -- where what was kept was raised, or there was no memory for that
  pub tidy_raise : {A E : Type 0} (result : Result A E) (old new : Entries K) (key : K) (was is : Kept) (field amount : ℕ)
      → ((q : K) → new q ≡ cond (same key q) (Some is) (old q))
      → OnOk result ((k : ℕ) → kept_sum is k ≡ raise (amount_at field amount k) (kept_sum was k))
      → OnErr result ((k : ℕ) → kept_sum is k ≡ kept_sum was k)
      → old key ≡ Some was → AreTidy old → AreTidy new
  tidy_raise (Ok a) old new key was is field amount updates more stay had tidy =
      tidy_put old new key is updates tidy (λ zero. tidy key was had (λ k. let z = zero k in let e = more k in omega arith))
  tidy_raise (Err e) old new key was is field amount updates more stay had tidy =
      tidy_put old new key is updates tidy (λ zero. tidy key was had (λ k. sym (stay k) ∙ zero k))

  stays_case : (old new : Entries K) (key : K) (w : Option Kept) (q : K) (s : Bool) → same key q ≡ s → new q ≡ cond s w (old q)
      → ((k : ℕ) → sums_at w k ≡ sums_at (old key) k) → (k : ℕ) → sums_at (new q) k ≡ sums_at (old q) k
  stays_case old new key w q true is updates own k = ap (λ o. sums_at o k) updates ∙ own k ∙ ap (λ a. sums_at (old a) k) (one key q is)
  stays_case old new key w q false is updates own k = ap (λ o. sums_at o k) updates

  -- an entry with the same sums
  pub stays_entry : (old new : Entries K) (key : K) (w : Option Kept) → ((q : K) → new q ≡ cond (same key q) w (old q))
      → ((k : ℕ) → sums_at w k ≡ sums_at (old key) k) → Stays old new
  stays_entry old new key w updates own = λ q k. stays_case old new key w q (same key q) refl (updates q) own k

at_field : (field : ℕ) → field < 9 → (field == field && nat_lt field 9) ≡ true
at_field field small = grind (arith, lt-ltb field 9 small)

-- an amount alone is not zero
pub amount_stands : (kept : Kept) (field amount : ℕ) → ((k : ℕ) → kept_sum kept k ≡ amount_at field amount k) → field < 9 → 0 < amount → IsZero kept → ⊥
amount_stands kept field amount is small more zero =
    let z = zero field in
    let e = is field ∙ ap (λ b. cond b amount 0) (at_field field small) in
    absurd (omega arith)

pub on_err : {A E P Q : Type 0} (result : Result A E) → (P → Q) → OnErr result P → OnErr result Q
on_err (Ok a) follows is = is
on_err (Err e) follows is = follows is

-- an amount alone is what comes of adding it to nothing
pub raised_absent : {K : Type 0} (old : Entries K) (key : K) (kept : Kept) (field amount : ℕ) → ((k : ℕ) → kept_sum kept k ≡ amount_at field amount k)
    → amount < 2 ^ 64 → old key ≡ None → (k : ℕ) → sums_at (Some kept) k ≡ raise (amount_at field amount k) (sums_at (old key) k)
raised_absent old key kept field amount is small none k =
    let zero : sums_at (old key) k ≡ 0 = ap (λ o. sums_at o k) none in
    is k ∙ raised_nothing (field == k && nat_lt k 9) amount (sums_at (old key) k) small zero

-- entries that were first put into another map
pub changes_after : {K : Type 0} (same : K → K → Bool) (how : ℕ → ℕ → ℕ) (old mid new : Entries K) (key : K) (field amount : ℕ)
    → ((q : K) → mid q ≡ old q) → Changes same how mid new key field amount → Changes same how old new key field amount
changes_after same how old mid new key field amount first is = λ q n.
    is q n ∙ ap (λ o. how (cond (same key q && (field == n && nat_lt n 9)) amount 0) (sums_at o n)) (first q)

pub stays_after : {K : Type 0} (old mid new : Entries K) → ((q : K) → mid q ≡ old q) → Stays mid new → Stays old new
stays_after old mid new first is = λ q n. is q n ∙ ap (λ o. sums_at o n) (first q)

-- where a sum stays below the greatest, so does the same sum by another name
pub full_as : {E : Type 0} (result : Result Bool E) (a b : ℕ) → a ≡ b → IfOk result (λ full. full ≡ false → a < greatest) → IfOk result (λ full. full ≡ false → b < greatest)
full_as (Ok full) a b same is = λ none. subst (λ n. n < greatest) same (is none)
full_as (Err e) a b same is = is

-- what is left of an entry, by the entry
pub lowered_had : (entry : Option Kept) (was is : Kept) (field amount : ℕ) → ((k : ℕ) → kept_sum is k ≡ lower (amount_at field amount k) (kept_sum was k))
    → entry ≡ Some was → (k : ℕ) → kept_sum is k ≡ lower (amount_at field amount k) (sums_at entry k)
lowered_had entry was is field amount less had k = less k ∙ ap (λ o. lower (amount_at field amount k) (sums_at o k)) (sym had)

pub lowered_away : (entry : Option Kept) (was is : Kept) (field amount : ℕ) → ((k : ℕ) → kept_sum is k ≡ lower (amount_at field amount k) (kept_sum was k))
    → entry ≡ Some was → IsZero is → (k : ℕ) → sums_at None k ≡ lower (amount_at field amount k) (sums_at entry k)
lowered_away entry was is field amount less had none k = sym (none k) ∙ lowered_had entry was is field amount less had k
