-- What a tally keeps, by its entries.
use Rattle.std.proofs.Common.{◌≡◌, ℕ, ◌+◌, ◌-◌, ◌<◌, ◌==◌, ◌&&◌, Bool, true, false, cond, [], ◌∷◌, refl, ap, sym, ◌∙◌, arith, subst}
use Rattle.std.specs.Prelude.{Option, Some, None, is_some, nat_lt}
use Rattle.std.specs.BTreeMap.{BTreeMap, get, is_at, IsEmpty}
use Rattle.std.specs.Map.{lookup}
use Rattle.std.proofs.Math.Path.{fun_ext}
use Rattle.std.proofs.lemmas.Bool.{eqb-true, lt-ltb}
use Rattle.accounts.specs.declared.account.Account.{Account}
use Rattle.accounts.specs.declared.postings.Posting.{Posting}
use Rattle.accounts.specs.declared.totals.Totals.{Totals}
use Rattle.accounts.specs.Order.{account_cmp}
use Rattle.accounts.specs.Sums.{added, total_of, sum_in, is_same}
use Rattle.accounts.specs.Tally.{kept, kept_sums, no_sums, sums_at, with_amount, with_postings}
use Rattle.accounts.proofs.Same.{same_account}
use Rattle.accounts.proofs.Kept.{balanced_kept, kept_more, kept_nothing}
use Rattle.accounts.specs.Kinds.{balances}

plus_none : (n : ℕ) → n + 0 ≡ n
plus_none n = omega arith

-- nothing is kept of no entries
pub empty_sums : (m : BTreeMap Account Totals) → IsEmpty m → kept_sums (get account_cmp m) ≡ no_sums
unfolding kept_sums
empty_sums m is = fun_ext (λ account. ap (λ es. kept account.kind (sums_at (lookup (is_at (account_cmp account)) es))) is ∙ kept_nothing account.kind)

-- an amount that is added where a test and two more say so
own_case : (s b c : Bool) (f amount : ℕ) → s ≡ true → (b ≡ true → c ≡ true) → f + (cond (s && (b && c)) amount 0 + 0) ≡ f + cond b amount 0
own_case true true true f amount same gives = omega arith
own_case true true false f amount same gives = absurd (cc (gives refl))
own_case true false c f amount same gives = refl
own_case false b c f amount same gives = absurd (cc same)

other_case : (s b : Bool) (f amount : ℕ) → s ≡ false → f + (cond (s && b) amount 0 + 0) ≡ f
other_case true b f amount other = absurd (cc other)
other_case false b f amount other = omega arith

above_case : (s b c : Bool) (f amount : ℕ) → (b ≡ true → c ≡ false) → f + (cond (s && (b && c)) amount 0 + 0) ≡ f
above_case true true true f amount gives = absurd (cc (gives refl))
above_case true true false f amount gives = omega arith
above_case true false c f amount gives = omega arith
above_case false b c f amount gives = omega arith

is_small : (field n : ℕ) → field < 9 → (field == n) ≡ true → nat_lt n 9 ≡ true
is_small field n small same = lt-ltb n 9 (subst (λ k. k < 9) (eqb-true field n same) small)

is_large : (field n : ℕ) → 8 < field → (field == n) ≡ true → nat_lt n 9 ≡ false
is_large field n large same = grind (arith, eqb-true field n same)

-- what a posting adds to its own account
own_added : (p : Posting) (account : Account) → is_same p.account account ≡ true → p.field < 9 → (f : ℕ → ℕ)
    → (λ n. f n + total_of (p ∷ []) account n) ≡ with_amount f p.field p.amount
unfolding added total_of
own_added p account same small f = fun_ext (λ n. own_case (is_same p.account account) (p.field == n) (nat_lt n 9) (f n) p.amount same (is_small p.field n small))

-- and to another
other_added : (p : Posting) (account : Account) → is_same p.account account ≡ false → (f : ℕ → ℕ)
    → (λ n. f n + total_of (p ∷ []) account n) ≡ f
unfolding added total_of
other_added p account other f = fun_ext (λ n. other_case (is_same p.account account) (p.field == n && nat_lt n 9) (f n) p.amount other)

-- a posting to a field above 8 adds to nothing
above_added : (p : Posting) (account : Account) → 8 < p.field → (f : ℕ → ℕ)
    → (λ n. f n + total_of (p ∷ []) account n) ≡ f
unfolding added total_of
above_added p account above f = fun_ext (λ n. above_case (is_same p.account account) (p.field == n) (nat_lt n 9) (f n) p.amount (is_large p.field n above))

-- a posting to a field above 8 leaves what is kept
pub above_kept : (entry : Account → Option Totals) (p : Posting) → 8 < p.field → kept_sums entry ≡ with_postings (kept_sums entry) (p ∷ [])
unfolding kept_sums with_postings
above_kept entry p above = fun_ext (λ account.
    sym (kept_more account.kind (sums_at (entry account)) (total_of (p ∷ []) account) ∙ ap (kept account.kind) (above_added p account above (sums_at (entry account)))))

zero_case : (b : Bool) (f amount : ℕ) → amount ≡ 0 → f + (cond b amount 0 + 0) ≡ f
zero_case true f amount zero = omega (zero, arith)
zero_case false f amount zero = omega arith

-- a posting of zero adds to nothing
zero_added : (p : Posting) (account : Account) → p.amount ≡ 0 → (f : ℕ → ℕ)
    → (λ n. f n + total_of (p ∷ []) account n) ≡ f
unfolding added total_of
zero_added p account zero f = fun_ext (λ n. zero_case (is_same p.account account && (p.field == n && nat_lt n 9)) (f n) p.amount zero)

-- a posting of zero leaves what is kept
pub zero_kept : (entry : Account → Option Totals) (p : Posting) → p.amount ≡ 0 → kept_sums entry ≡ with_postings (kept_sums entry) (p ∷ [])
unfolding kept_sums with_postings
zero_kept entry p zero = fun_ext (λ account.
    sym (kept_more account.kind (sums_at (entry account)) (total_of (p ∷ []) account) ∙ ap (kept account.kind) (zero_added p account zero (sums_at (entry account)))))

-- the entries after, where that of the posting's account is changed and others stay
at_account : (entry after : Account → Option Totals) (p : Posting) (w : Option Totals) (account : Account) (b : Bool) → is_same p.account account ≡ b
    → p.field < 9
    → kept p.account.kind (sums_at w) ≡ kept p.account.kind (with_amount (sums_at (entry p.account)) p.field p.amount)
    → after account ≡ cond b w (entry account)
    → kept account.kind (sums_at (after account)) ≡ kept account.kind (λ n. kept account.kind (sums_at (entry account)) n + total_of (p ∷ []) account n)
at_account entry after p w account true same small sums is =
    let one = same_account p.account account same in
    ap (λ o. kept account.kind (sums_at o)) is
    ∙ subst (λ a. kept a.kind (sums_at w) ≡ kept a.kind (with_amount (sums_at (entry a)) p.field p.amount)) one sums
    ∙ ap (kept account.kind) (sym (own_added p account same small (sums_at (entry account))))
    ∙ sym (kept_more account.kind (sums_at (entry account)) (total_of (p ∷ []) account))
at_account entry after p w account false other small sums is =
    ap (λ o. kept account.kind (sums_at o)) is
    ∙ ap (kept account.kind) (sym (other_added p account other (sums_at (entry account))))
    ∙ sym (kept_more account.kind (sums_at (entry account)) (total_of (p ∷ []) account))

pub put_kept : (entry after : Account → Option Totals) (p : Posting) (w : Option Totals) → p.field < 9
    → kept p.account.kind (sums_at w) ≡ kept p.account.kind (with_amount (sums_at (entry p.account)) p.field p.amount)
    → ((q : Account) → after q ≡ cond (is_at (account_cmp p.account) q) w (entry q))
    → kept_sums after ≡ with_postings (kept_sums entry) (p ∷ [])
unfolding kept_sums with_postings
put_kept entry after p w small sums is = fun_ext (λ account. at_account entry after p w account (is_same p.account account) refl small sums (is account))

equal_case : (x y : ℕ) (a b : Bool) → x ≡ y → cond a (x - y) (cond b (y - x) 0) ≡ cond a (0 - 0) (cond b (0 - 0) 0)
equal_case x y true b same = let e : x - y ≡ 0 = omega arith in e
equal_case x y false true same = let e : y - x ≡ 0 = omega arith in e
equal_case x y false false same = refl

-- where the difference decides, equal sums are as none
pub equal_kept : (kind : ℕ) (f : ℕ → ℕ) → balances kind ≡ true → f 0 ≡ f 1 → kept kind f ≡ kept kind (λ _. 0)
equal_kept kind f balanced same =
    balanced_kept kind f balanced ∙ fun_ext (λ n. equal_case (f 0) (f 1) (n == 0) (n == 1) same) ∙ sym (balanced_kept kind (λ _. 0) balanced)

-- the sums of the posting's account once it is added
new_sums : (entry : Account → Option Totals) (p : Posting) (field : ℕ) (old new : Totals) → field ≡ p.field
    → ((n : ℕ) → sum_in old n ≡ sums_at (entry p.account) n)
    → ((n : ℕ) → kept p.account.kind (sum_in new) n ≡ kept p.account.kind (with_amount (sum_in old) field p.amount) n)
    → kept p.account.kind (sum_in new) ≡ kept p.account.kind (with_amount (sums_at (entry p.account)) p.field p.amount)
new_sums entry p field old new same was is =
    fun_ext is
    ∙ ap (λ k. kept p.account.kind (with_amount (sum_in old) k p.amount)) same
    ∙ ap (λ f. kept p.account.kind (with_amount f p.field p.amount)) (fun_ext was)

-- a posting was added, and its account's entry has the new sums
pub added_put : (entry after : Account → Option Totals) (p : Posting) (field : ℕ) (old new : Totals) → field ≡ p.field → field < 9
    → ((n : ℕ) → sum_in old n ≡ sums_at (entry p.account) n)
    → ((n : ℕ) → kept p.account.kind (sum_in new) n ≡ kept p.account.kind (with_amount (sum_in old) field p.amount) n)
    → ((q : Account) → after q ≡ cond (is_at (account_cmp p.account) q) (Some new) (entry q))
    → kept_sums after ≡ with_postings (kept_sums entry) (p ∷ [])
added_put entry after p field old new same small was is updates =
    put_kept entry after p (Some new) (subst (λ k. k < 9) same small) (new_sums entry p field old new same was is) updates

-- a posting was added, and its account's entry went away, since its difference is zero
pub added_removed : (entry after : Account → Option Totals) (p : Posting) (field : ℕ) (old new : Totals) → field ≡ p.field → field < 9
    → ((n : ℕ) → sum_in old n ≡ sums_at (entry p.account) n)
    → ((n : ℕ) → kept p.account.kind (sum_in new) n ≡ kept p.account.kind (with_amount (sum_in old) field p.amount) n)
    → balances p.account.kind ≡ true → sum_in new 0 ≡ sum_in new 1
    → ((q : Account) → after q ≡ cond (is_at (account_cmp p.account) q) None (entry q))
    → kept_sums after ≡ with_postings (kept_sums entry) (p ∷ [])
added_removed entry after p field old new same small was is balanced equal updates =
    put_kept entry after p None (subst (λ k. k < 9) same small)
    (sym (equal_kept p.account.kind (sum_in new) balanced equal) ∙ new_sums entry p field old new same was is) updates

-- no posting leaves what is kept
pub none_kept : (entry : Account → Option Totals) → with_postings (kept_sums entry) [] ≡ kept_sums entry
unfolding kept_sums with_postings total_of
none_kept entry = fun_ext (λ account. kept_more account.kind (sums_at (entry account)) (λ _. 0) ∙ ap (kept account.kind) (fun_ext (λ n. plus_none (sums_at (entry account) n))))

-- nothing is kept of an account without an entry
none_case : (account : Account) (o : Option Totals) → is_some o ≡ false → kept account.kind (sums_at o) ≡ (λ _. 0)
none_case account None is = kept_nothing account.kind
none_case account (Some totals) is = absurd (cc is)

pub none_at : (entry : Account → Option Totals) (account : Account) → is_some (entry account) ≡ false → kept_sums entry account ≡ no_sums account
unfolding kept_sums
none_at entry account is = none_case account (entry account) is
