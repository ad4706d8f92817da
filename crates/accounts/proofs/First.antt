-- The first broken account of some entries in their order is the least, and the least is one.
use Rattle.std.proofs.Common.{◌≡◌, ℕ, ◌+◌, ◌-◌, ◌<◌, ◌≤◌, min, ◌==◌, ◌||◌, ◌&&◌, Bool, true, false, not, cond, List, [], ◌∷◌, refl, ap, sym, ◌∙◌, subst, arith}
use Rattle.std.specs.Prelude.{Option, Some, None, nat_le, nat_lt}
use Rattle.std.proofs.Math.Path.{fun_ext}
use Rattle.std.specs.List.{AllByRecursion}
use Rattle.std.specs.List.Sorted.{IsStrictlySortedBy}
use Rattle.std.specs.Map.{keys_of, lookup}
use Rattle.std.specs.BTreeMap.{BTreeMap, get, is_at, IsOrdered}
use Rattle.std.specs.Ordering.{is_eq, is_gt, ordering_reverse}
use Rattle.std.specs.declared.cmp.Ordering.{Ordering}
use Rattle.std.specs.declared.cmp.Ordering.TheVariants.{Less, Equal, Greater}
use Rattle.std.specs.Cmp.{both_ways}
use Rattle.std.proofs.lemmas.Bool.{eqb-true, eq-eqb, le-leb, leb-true, lt-ltb, ltb-true}
use Rattle.std.proofs.lemmas.Map.Keys.{sorted_head, sorted_tail}
use Rattle.accounts.specs.declared.account.Account.{Account}
use Rattle.accounts.specs.declared.totals.Totals.{Totals}
use Rattle.accounts.specs.declared.postings.Posting.{Posting}
use Rattle.accounts.specs.Order.{account_cmp}
use Rattle.accounts.specs.OrderLaws.{account_total, account_equiv}
use Rattle.accounts.specs.Sums.{added, is_same, sum_in, total_of}
use Rattle.accounts.specs.Tally.{Sums, difference, extent_class, form_class, inode_class, kept, kept_as, kept_sums, no_sums, sums_at, type_class, with_postings}
use Rattle.accounts.specs.Broken.{is_broken}
use Rattle.accounts.specs.Least.{IsLeastBroken, LeastBrokenIsOne, is_broken_by, least_broken, least_posted, lesser}
use Rattle.accounts.proofs.Same.{account_ties, is_Equal, same_account}
use Rattle.accounts.specs.Kinds.{Line, SumRule, balances, balances_at, extent_keeps, gives, inode_keeps, is_balance, keeps, keeps_at, table}
use Rattle.accounts.specs.Kinds.SumRule.{Balance, Own}

-- the first account that is broken by the sums of its entry
abbrev pub first_broken : List (Account × Totals) → Option Account
first_broken [] = None
first_broken (entry ∷ entries) = cond (is_broken entry.0 (sum_in entry.1)) (Some entry.0) (first_broken entries)

-- ---- of two least broken accounts neither is less

same_least : (broken : Account → Bool) (a b : Account) (o : Ordering) → account_cmp a b ≡ o → IsLeastBroken broken (Some a) → IsLeastBroken broken (Some b) → ◌≡◌ {A = Option Account} (Some a) (Some b)
same_least broken a b Less is first second = absurd (cc (first.0, second.1 a is))
same_least broken a b Equal is first second = ap (λ k. Some k) (account_ties a b is)
same_least broken a b Greater is first second =
    let back : account_cmp b a ≡ Less = account_total.antisymm b a ∙ ap ordering_reverse is in
    absurd (cc (second.0, first.1 b back))

pub one_least : (broken : Account → Bool) (x y : Option Account) → IsLeastBroken broken x → IsLeastBroken broken y → x ≡ y
one_least broken None None first second = refl
one_least broken None (Some b) first second = absurd (cc (first b, second.0))
one_least broken (Some a) None first second = absurd (cc (second a, first.0))
one_least broken (Some a) (Some b) first second = same_least broken a b (account_cmp a b) refl first second

-- ---- an account without sums keeps its rule

-- whether all rules of a table keep without sums
abbrev all_keep : List Line → Bool
all_keep [] = true
all_keep (l ∷ ls) = keeps l.rule (λ _. 0) && all_keep ls

both_true : (a b : Bool) → (a && b) ≡ true → (a ≡ true) × (b ≡ true)
both_true true true is = (refl, refl)
both_true true false is = absurd (cc is)
both_true false b is = absurd (cc is)

line_keeps : (kind : ℕ) (ls : List Line) → all_keep ls ≡ true → keeps_at kind ls (λ _. 0) ≡ true
line_keeps kind [] all = refl
line_keeps kind (l ∷ ls) all =
    let both = both_true (keeps l.rule (λ _. 0)) (all_keep ls) all in
    elim (kind == l.kind) as (λ b. cond b (keeps l.rule (λ _. 0)) (keeps_at kind ls (λ _. 0)) ≡ true) [ true ↦ both.0 | false ↦ line_keeps kind ls both.1 ]

pub unposted : (account : Account) → is_broken account (λ _. 0) ≡ false
unfolding is_broken
unposted account = ap not (line_keeps account.kind table refl)

-- ---- what is kept decides as the sums do

same_difference : (x y : ℕ) → ((x - y) == (y - x)) ≡ (x == y)
same_difference x y =
    both_ways ((x - y) == (y - x)) (x == y)
    (λ h. let e = eqb-true (x - y) (y - x) h in let s : x ≡ y = omega arith in eq-eqb x y s)
    (λ h. let e = eqb-true x y h in let s : x - y ≡ y - x = omega arith in eq-eqb (x - y) (y - x) s)

-- where the first two sums are to be equal their difference decides
balance_alike : (rule : SumRule) (f : ℕ → ℕ) → is_balance rule ≡ true → keeps rule (difference f) ≡ keeps rule f
balance_alike Balance f is = same_difference (f 0) (f 1)
balance_alike (Own rule) f is = absurd (cc is)

alike_lines : (kind : ℕ) (ls : List Line) (f : ℕ → ℕ) → balances_at kind ls ≡ true → keeps_at kind ls (difference f) ≡ keeps_at kind ls f
alike_lines kind [] f is = absurd (cc is)
alike_lines kind (l ∷ ls) f is = by (kind == l.kind) (alike_lines kind ls f) is
  where
    by : (b : Bool) → (balances_at kind ls ≡ true → keeps_at kind ls (difference f) ≡ keeps_at kind ls f)
        → cond b (is_balance l.rule) (balances_at kind ls) ≡ true
        → cond b (keeps l.rule (difference f)) (keeps_at kind ls (difference f)) ≡ cond b (keeps l.rule f) (keeps_at kind ls f)
    by true rest is = balance_alike l.rule f is
    by false rest is = rest is

-- of an inode, and of a type
is_some : (x : ℕ) → nat_lt 0 (min x 1) ≡ nat_lt 0 x
is_some x =
    both_ways (nat_lt 0 (min x 1)) (nat_lt 0 x)
    (λ h. let e = ltb-true 0 (min x 1) h in let s : 0 < x = omega arith in lt-ltb 0 x s)
    (λ h. let e = ltb-true 0 x h in let s : 0 < min x 1 = omega arith in lt-ltb 0 (min x 1) s)

is_one : (x : ℕ) → (min x 2 == 1) ≡ (x == 1)
is_one x =
    both_ways (min x 2 == 1) (x == 1)
    (λ h. let e = eqb-true (min x 2) 1 h in let s : x ≡ 1 = omega arith in eq-eqb x 1 s)
    (λ h. let e = eqb-true x 1 h in let s : min x 2 ≡ 1 = omega arith in eq-eqb (min x 2) 1 s)

same_left : (x y : ℕ) → (((x - y) + min 1 (min x y)) == ((y - x) + min 1 (min x y))) ≡ (x == y)
same_left x y =
    both_ways (((x - y) + min 1 (min x y)) == ((y - x) + min 1 (min x y))) (x == y)
    (λ h. let e = eqb-true _ _ h in let s : x ≡ y = omega arith in eq-eqb x y s)
    (λ h. let e = eqb-true x y h in let s : (x - y) + min 1 (min x y) ≡ (y - x) + min 1 (min x y) = omega arith in eq-eqb _ _ s)

none_left : (x y : ℕ) → (((x - y) + min 1 (min x y)) == 0) ≡ (x == 0)
none_left x y =
    both_ways (((x - y) + min 1 (min x y)) == 0) (x == 0)
    (λ h. let e = eqb-true _ _ h in let s : x ≡ 0 = omega arith in eq-eqb x 0 s)
    (λ h. let e = eqb-true x 0 h in let s : (x - y) + min 1 (min x y) ≡ 0 = omega arith in eq-eqb _ _ s)

inode_alike : (f : ℕ → ℕ) → inode_keeps (inode_class f) ≡ inode_keeps f
inode_alike f =
    let e0 = is_one (f 0) in
    let e1 = is_some (f 1) in
    let e2 = same_left (f 2) (f 3) in
    let e3 = none_left (f 2) (f 3) in
    let e4 = is_some (f 4) in
    let e5 = same_difference (f 5) (f 6) in
    let e6 = same_difference (f 7) (f 8) in
    λ i. gives (e1 i) (e0 i) && (e2 i && (gives (e0 i && e3 i) (e4 i) && (e5 i && e6 i)))

type_alike : (f : ℕ → ℕ) → gives (nat_lt 0 (min (f 0) 1)) (min (f 1) 2 == 1) ≡ gives (nat_lt 0 (f 0)) (f 1 == 1)
type_alike f = let e0 = is_some (f 0) in let e1 = is_one (f 1) in λ i. gives (e0 i) (e1 i)

-- of an extent, and of a form
no_more_than_one : (x : ℕ) → nat_le (min x 2) 1 ≡ nat_le x 1
no_more_than_one x =
    both_ways (nat_le (min x 2) 1) (nat_le x 1)
    (λ h. let e = leb-true (min x 2) 1 h in let s : x ≤ 1 = omega arith in le-leb x 1 s)
    (λ h. let e = leb-true x 1 h in let s : min x 2 ≤ 1 = omega arith in le-leb (min x 2) 1 s)

is_none : (x : ℕ) → (min x 2 == 0) ≡ (x == 0)
is_none x =
    both_ways (min x 2 == 0) (x == 0)
    (λ h. let e = eqb-true (min x 2) 0 h in let s : x ≡ 0 = omega arith in eq-eqb x 0 s)
    (λ h. let e = eqb-true x 0 h in let s : min x 2 ≡ 0 = omega arith in eq-eqb (min x 2) 0 s)

one_left : (x y : ℕ) → nat_le 1 ((x - y) + min 1 (min x y)) ≡ nat_le 1 x
one_left x y =
    both_ways (nat_le 1 ((x - y) + min 1 (min x y))) (nat_le 1 x)
    (λ h. let e = leb-true _ _ h in let s : 1 ≤ x = omega arith in le-leb 1 x s)
    (λ h. let e = leb-true 1 x h in let s : 1 ≤ (x - y) + min 1 (min x y) = omega arith in le-leb _ _ s)

second_left : (x y : ℕ) → (((y - x) + min 1 (min x y)) == 0) ≡ (y == 0)
second_left x y =
    both_ways (((y - x) + min 1 (min x y)) == 0) (y == 0)
    (λ h. let e = eqb-true _ _ h in let s : y ≡ 0 = omega arith in eq-eqb y 0 s)
    (λ h. let e = eqb-true y 0 h in let s : (y - x) + min 1 (min x y) ≡ 0 = omega arith in eq-eqb _ _ s)

extent_alike : (f : ℕ → ℕ) → extent_keeps (extent_class f) ≡ extent_keeps f
extent_alike f =
    let e0 = no_more_than_one (f 0) in
    let e1 = is_one (f 0) in
    let e2 = same_left (f 1) (f 2) in
    let e3 = one_left (f 1) (f 2) in
    let e4 = is_none (f 0) in
    let e5 = second_left (f 1) (f 2) in
    λ i. e0 i && (gives (e1 i) (e2 i && e3 i) && gives (e4 i) (e5 i))

is_there : (x : ℕ) → nat_le 1 (min x 1) ≡ nat_le 1 x
is_there x =
    both_ways (nat_le 1 (min x 1)) (nat_le 1 x)
    (λ h. let e = leb-true 1 (min x 1) h in let s : 1 ≤ x = omega arith in le-leb 1 x s)
    (λ h. let e = leb-true 1 x h in let s : 1 ≤ min x 1 = omega arith in le-leb 1 (min x 1) s)

form_alike : (f : ℕ → ℕ) → gives (nat_lt 0 (min (f 1) 1)) (nat_le 1 (min (f 0) 1)) ≡ gives (nat_lt 0 (f 1)) (nat_le 1 (f 0))
form_alike f = let e0 = is_some (f 1) in let e1 = is_there (f 0) in λ i. gives (e0 i) (e1 i)

kind_is : (n kind : ℕ) (f g : ℕ → ℕ) → (kind == n) ≡ true → keeps_at n table f ≡ keeps_at n table g → keeps_at kind table f ≡ keeps_at kind table g
kind_is n kind f g is same = subst (λ k. keeps_at k table f ≡ keeps_at k table g) (sym (eqb-true kind n is)) same

broken_if : (is_inode is_type is_extent is_form b : Bool) (account : Account) (f : ℕ → ℕ)
    → (account.kind == 9) ≡ is_inode → (account.kind == 10) ≡ is_type → (account.kind == 3) ≡ is_extent → (account.kind == 4) ≡ is_form → balances account.kind ≡ b
    → is_broken account (kept_as is_inode is_type is_extent is_form b f) ≡ is_broken account f
unfolding is_broken
broken_if true is_type is_extent is_form b account f inode type extent form is = ap not (kind_is 9 account.kind (inode_class f) f inode (inode_alike f))
broken_if false true is_extent is_form b account f inode type extent form is = ap not (kind_is 10 account.kind (type_class f) f type (type_alike f))
broken_if false false true is_form b account f inode type extent form is = ap not (kind_is 3 account.kind (extent_class f) f extent (extent_alike f))
broken_if false false false true b account f inode type extent form is = ap not (kind_is 4 account.kind (form_class f) f form (form_alike f))
broken_if false false false false true account f inode type extent form is =
    ap not (alike_lines account.kind table f is)
broken_if false false false false false account f inode type extent form is = refl

pub broken_kept : (account : Account) (f : ℕ → ℕ) → is_broken account (kept account.kind f) ≡ is_broken account f
unfolding kept
broken_kept account f =
    broken_if (account.kind == 9) (account.kind == 10) (account.kind == 3) (account.kind == 4) (balances account.kind) account f refl refl refl refl refl

-- ---- the first of the entries

abbrev broken_at : List (Account × Totals) → Account → Bool
broken_at es a = is_broken a (sums_at (lookup (is_at (account_cmp a)) es))

none_case : (o : Ordering) (t : Totals) (rest : Option Totals) → o ≡ Less → rest ≡ None → cond (is_eq o) (Some t) rest ≡ None
none_case Less t rest is none = none
none_case Equal t rest is none = absurd (cc is)
none_case Greater t rest is none = absurd (cc is)

none_above : (a : Account) (es : List (Account × Totals)) → AllByRecursion (λ y. account_cmp a y ≡ Less) (keys_of es) → lookup (is_at (account_cmp a)) es ≡ None
none_above a [] all = refl
none_above a (e ∷ es) all = none_case (account_cmp a e.0) e.1 (lookup (is_at (account_cmp a)) es) all.0 (none_above a es all.1)

above_more : (a b : Account) (ks : List Account) → account_cmp a b ≡ Less → AllByRecursion (λ y. account_cmp b y ≡ Less) ks → AllByRecursion (λ y. account_cmp a y ≡ Less) ks
above_more a b [] is all = tt
above_more a b (k ∷ ks) is all = (account_total.trans a b k is all.0, above_more a b ks is all.1)

unbroken_above : (a : Account) (es : List (Account × Totals)) → AllByRecursion (λ y. account_cmp a y ≡ Less) (keys_of es) → broken_at es a ≡ false
unbroken_above a es all = ap (λ o. is_broken a (sums_at o)) (none_above a es all) ∙ unposted a

-- an account by an entry and those behind it
at_entry : (a : Account) (e : Account × Totals) (es : List (Account × Totals)) (b : Bool) → is_same a e.0 ≡ b → broken_at (e ∷ es) a ≡ cond b (is_broken a (sum_in e.1)) (broken_at es a)
at_entry a e es true is = ap (λ b. is_broken a (sums_at (cond b (Some e.1) (lookup (is_at (account_cmp a)) es)))) is
at_entry a e es false is = ap (λ b. is_broken a (sums_at (cond b (Some e.1) (lookup (is_at (account_cmp a)) es)))) is

-- where the first entry's account is not broken, the others decide
at_others : (a : Account) (e : Account × Totals) (es : List (Account × Totals)) (b : Bool) → is_same a e.0 ≡ b → is_broken e.0 (sum_in e.1) ≡ false → broken_at es a ≡ false → broken_at (e ∷ es) a ≡ false
at_others a e es true is first others =
    at_entry a e es true is ∙ ap (λ k. is_broken k (sum_in e.1)) (same_account a e.0 is) ∙ first
at_others a e es false is first others = at_entry a e es false is ∙ others

stays_broken : (a : Account) (e : Account × Totals) (es : List (Account × Totals)) (b : Bool) → is_same a e.0 ≡ b → AllByRecursion (λ y. account_cmp e.0 y ≡ Less) (keys_of es) → broken_at es a ≡ true → broken_at (e ∷ es) a ≡ true
stays_broken a e es true is above others =
    absurd (cc (others, unbroken_above a es (subst (λ k. AllByRecursion (λ y. account_cmp k y ≡ Less) (keys_of es)) (sym (same_account a e.0 is)) above)))
stays_broken a e es false is above others = at_entry a e es false is ∙ others

later_least : (e : Account × Totals) (es : List (Account × Totals)) (r : Option Account) → AllByRecursion (λ y. account_cmp e.0 y ≡ Less) (keys_of es) → is_broken e.0 (sum_in e.1) ≡ false
    → IsLeastBroken (broken_at es) r → IsLeastBroken (broken_at (e ∷ es)) r
later_least e es None above first rest = λ a. at_others a e es (is_same a e.0) refl first (rest a)
later_least e es (Some l) above first rest =
    (stays_broken l e es (is_same l e.0) refl above rest.0, λ a less. at_others a e es (is_same a e.0) refl first (rest.1 a less))

first_least : (e : Account × Totals) (es : List (Account × Totals)) → AllByRecursion (λ y. account_cmp e.0 y ≡ Less) (keys_of es) → is_broken e.0 (sum_in e.1) ≡ true → IsLeastBroken (broken_at (e ∷ es)) (Some e.0)
first_least e es above first = (
  at_entry e.0 e es true (account_equiv.refl e.0) ∙ first,
  λ a less. unbroken_above a (e ∷ es) (less, above_more a e.0 (keys_of es) less above),
)

either_least : (b : Bool) (e : Account × Totals) (es : List (Account × Totals)) → is_broken e.0 (sum_in e.1) ≡ b → AllByRecursion (λ y. account_cmp e.0 y ≡ Less) (keys_of es)
    → IsLeastBroken (broken_at es) (first_broken es) → IsLeastBroken (broken_at (e ∷ es)) (cond b (Some e.0) (first_broken es))
either_least true e es is above rest = first_least e es above is
either_least false e es is above rest = later_least e es (first_broken es) above is rest

pub entries_least : (es : List (Account × Totals)) → IsStrictlySortedBy account_cmp (keys_of es) → IsLeastBroken (broken_at es) (first_broken es)
entries_least [] sorted = λ a. unposted a
entries_least (e ∷ es) sorted =
    either_least (is_broken e.0 (sum_in e.1)) e es refl (sorted_head account_cmp e.0 (keys_of es) sorted)
    (entries_least es (sorted_tail account_cmp e.0 (keys_of es) sorted))

-- ---- the least of the accounts that are posted to

abbrev names_it : List Posting → Account → Bool
names_it [] account = false
names_it (p ∷ ps) account = is_same p.account account || names_it ps account

unnamed_case : (s b : Bool) (amount rest : ℕ) → (s || b) ≡ false → (b ≡ false → rest ≡ 0) → (c : Bool) → cond (s && c) amount 0 + rest ≡ 0
unnamed_case true b amount rest is later c = absurd (cc is)
unnamed_case false true amount rest is later c = absurd (cc is)
unnamed_case false false amount rest is later c = let none = later refl in let same : 0 + rest ≡ 0 = omega arith in same

unnamed : (ps : List Posting) (account : Account) (n : ℕ) → names_it ps account ≡ false → total_of ps account n ≡ 0
unfolding total_of added
unnamed [] account n is = refl
unnamed (p ∷ ps) account n is =
    unnamed_case (is_same p.account account) (names_it ps account) p.amount (total_of ps account n) is (unnamed ps account n) (p.field == n && nat_lt n 9)

-- a result for the accounts that some postings name
abbrev IsLeastNamed : (Account → Bool) → List Posting → Option Account → Type 0
IsLeastNamed broken ps None = (account : Account) → names_it ps account ≡ true → broken account ≡ false
IsLeastNamed broken ps (Some least) =
    (broken least ≡ true) × ((account : Account) → names_it ps account ≡ true → account_cmp account least ≡ Less → broken account ≡ false)

-- an account is the first posting's, or a later one's
named_case : {A : Type 0} (p : Posting) (ps : List Posting) (account : Account) (s b : Bool) → is_same p.account account ≡ s → names_it ps account ≡ b → (s || b) ≡ true
    → (p.account ≡ account → A) → (names_it ps account ≡ true → A) → A
named_case p ps account true b is named or here later = here (same_account p.account account is)
named_case p ps account false true is named or here later = later named
named_case p ps account false false is named or here later = absurd (cc or)

no_less_itself : (a b : Account) {A : Type 0} → a ≡ b → account_cmp b a ≡ Less → A
no_less_itself a b same less =
    let tie : account_cmp a a ≡ Equal = is_Equal (account_cmp a a) (account_equiv.refl a) in
    let it : account_cmp a a ≡ Less = subst (λ k. account_cmp k a ≡ Less) (sym same) less in
    absurd (cc (tie, it))

unbroken_named : (broken : Account → Bool) (p : Posting) (ps : List Posting) (r : Option Account) → broken p.account ≡ false → IsLeastNamed broken ps r → IsLeastNamed broken (p ∷ ps) r
unbroken_named broken p ps None first rest = λ account named.
    named_case p ps account (is_same p.account account) (names_it ps account) refl refl named (λ e. subst (λ k. broken k ≡ false) e first) (rest account)
unbroken_named broken p ps (Some l) first rest = (
  rest.0,
  λ account named less.
      named_case p ps account (is_same p.account account) (names_it ps account) refl refl named (λ e. subst (λ k. broken k ≡ false) e first) (λ later. rest.1 account later less),
)

-- the first posting's account is broken, and others may be less
lesser_named : (broken : Account → Bool) (p : Posting) (ps : List Posting) (m : Account) (o : Ordering) → account_cmp p.account m ≡ o → broken p.account ≡ true
    → IsLeastNamed broken ps (Some m) → IsLeastNamed broken (p ∷ ps) (Some (cond (is_gt o) m p.account))
lesser_named broken p ps m Less is first rest = (
  first,
  λ account named less.
      named_case p ps account (is_same p.account account) (names_it ps account) refl refl named (λ e. no_less_itself p.account account e less)
      (λ later. rest.1 account later (account_total.trans account p.account m less is)),
)
lesser_named broken p ps m Equal is first rest = (
  first,
  λ account named less.
      named_case p ps account (is_same p.account account) (names_it ps account) refl refl named (λ e. no_less_itself p.account account e less)
      (λ later. rest.1 account later (subst (λ k. account_cmp account k ≡ Less) (account_ties p.account m is) less)),
)
lesser_named broken p ps m Greater is first rest = (
  rest.0,
  λ account named less.
      named_case p ps account (is_same p.account account) (names_it ps account) refl refl named
      (λ e. let it : account_cmp p.account m ≡ Less = subst (λ k. account_cmp k m ≡ Less) (sym e) less in absurd (cc (it, is)))
      (λ later. rest.1 account later less),
)

broken_named : (broken : Account → Bool) (p : Posting) (ps : List Posting) (r : Option Account) → broken p.account ≡ true → IsLeastNamed broken ps r → IsLeastNamed broken (p ∷ ps) (Some (lesser p.account r))
broken_named broken p ps None first rest = (
  first,
  λ account named less.
      named_case p ps account (is_same p.account account) (names_it ps account) refl refl named (λ e. no_less_itself p.account account e less) (rest account),
)
broken_named broken p ps (Some m) first rest = lesser_named broken p ps m (account_cmp p.account m) refl first rest

posted_case : (broken : Account → Bool) (p : Posting) (ps : List Posting) (b : Bool) → broken p.account ≡ b → IsLeastNamed broken ps (least_posted broken ps)
    → IsLeastNamed broken (p ∷ ps) (cond b (Some (lesser p.account (least_posted broken ps))) (least_posted broken ps))
posted_case broken p ps true is rest = broken_named broken p ps (least_posted broken ps) is rest
posted_case broken p ps false is rest = unbroken_named broken p ps (least_posted broken ps) is rest

posted_least : (broken : Account → Bool) (ps : List Posting) → IsLeastNamed broken ps (least_posted broken ps)
posted_least broken [] = λ account named. absurd (cc named)
posted_least broken (p ∷ ps) = posted_case broken p ps (broken p.account) refl (posted_least broken ps)

-- where no other account is broken, that is the least of all
every_case : (broken : Account → Bool) (ps : List Posting) (account : Account) (b : Bool) → names_it ps account ≡ b → (names_it ps account ≡ false → broken account ≡ false)
    → (names_it ps account ≡ true → broken account ≡ false) → broken account ≡ false
every_case broken ps account true is others named = named is
every_case broken ps account false is others named = others is

of_all : (broken : Account → Bool) (ps : List Posting) (r : Option Account) → ((account : Account) → names_it ps account ≡ false → broken account ≡ false) → IsLeastNamed broken ps r → IsLeastBroken broken r
of_all broken ps None others rest = λ account. every_case broken ps account (names_it ps account) refl (others account) (rest account)
of_all broken ps (Some l) others rest = (rest.0, λ account less. every_case broken ps account (names_it ps account) refl (others account) (λ named. rest.1 account named less))

unnamed_keeps : (ps : List Posting) (account : Account) → names_it ps account ≡ false → is_broken_by ps account ≡ false
unnamed_keeps ps account is = ap (is_broken account) (fun_ext (λ n. unnamed ps account n is)) ∙ unposted account

pub least_is_least : (ps : List Posting) → IsLeastBroken (is_broken_by ps) (least_broken ps)
unfolding least_broken
least_is_least ps = of_all (is_broken_by ps) ps (least_posted (is_broken_by ps) ps) (unnamed_keeps ps) (posted_least (is_broken_by ps) ps)

pub least_broken_is_one : LeastBrokenIsOne
least_broken_is_one ps = (least_is_least ps, λ other is. one_least (is_broken_by ps) other (least_broken ps) is (least_is_least ps))

-- ---- what a tally's first broken account is

zero_plus : (n : ℕ) → 0 + n ≡ n
zero_plus n = omega arith

kept_broken : (m : BTreeMap Account Totals) → broken_at m.entries ≡ (λ a. is_broken a (kept_sums (get account_cmp m) a))
unfolding kept_sums
kept_broken m = fun_ext (λ a. sym (broken_kept a (sums_at (lookup (is_at (account_cmp a)) m.entries))))

pub first_is_least : (m : BTreeMap Account Totals) → IsOrdered account_cmp m → IsLeastBroken (λ a. is_broken a (kept_sums (get account_cmp m) a)) (first_broken m.entries)
first_is_least m ordered = subst (λ b. IsLeastBroken b (first_broken m.entries)) (kept_broken m) (entries_least m.entries ordered)

-- what postings come to is broken where they are
posted_broken : (sums : Sums) (ps : List Posting) → sums ≡ with_postings no_sums ps → (λ a. is_broken a (sums a)) ≡ is_broken_by ps
unfolding with_postings
posted_broken sums ps is = fun_ext (λ a.
    ap (λ s. is_broken a (s a)) is
    ∙ ap (λ f. is_broken a (kept a.kind f)) (fun_ext (λ n. zero_plus (total_of ps a n)))
    ∙ broken_kept a (total_of ps a))

pub least_by_sums : (sums : Sums) (least : Option Account) (ps : List Posting) → IsLeastBroken (λ a. is_broken a (sums a)) least → sums ≡ with_postings no_sums ps → least ≡ least_broken ps
least_by_sums sums least ps is posted =
    one_least (is_broken_by ps) least (least_broken ps) (subst (λ b. IsLeastBroken b least) (posted_broken sums ps posted) is) (least_is_least ps)

-- the first of some entries, by the first entry
pub first_here : (e : Account × Totals) (es : List (Account × Totals)) → is_broken e.0 (sum_in e.1) ≡ true → first_broken (e ∷ es) ≡ Some e.0
first_here e es is = ap (λ b. cond b (Some e.0) (first_broken es)) is

pub first_later : (e : Account × Totals) (es : List (Account × Totals)) → is_broken e.0 (sum_in e.1) ≡ false → first_broken (e ∷ es) ≡ first_broken es
first_later e es is = ap (λ b. cond b (Some e.0) (first_broken es)) is
