-- The least broken account of those to which some postings go.
use Rattle.std.proofs.Common.{◌≡◌, ℕ, ◌+◌, ◌<◌, ◌==◌, ◌&&◌, ◌||◌, Bool, true, false, cond, List, [], ◌∷◌, ◌++◌, length, take, get_or, refl, ap, sym, ◌∙◌, subst, append_assoc, arith}
use Rattle.std.specs.Prelude.{Option, Some, None, nat_lt}
use Rattle.std.specs.Ordering.{is_lt}
use Rattle.std.specs.declared.cmp.Ordering.TheVariants.{Less, Equal}
use Rattle.std.proofs.Math.Path.{fun_ext}
use Rattle.std.proofs.lemmas.List.{take_more}
use Rattle.std.proofs.lemmas.List.Folds.{list_any-append}
use Rattle.verdict.proofs.Truth.{neither, false_either_way, is_less}
use Rattle.accounts.specs.declared.account.Account.{Account}
use Rattle.accounts.specs.declared.postings.Posting.{Posting}
use Rattle.accounts.specs.Broken.{is_broken}
use Rattle.accounts.specs.Least.{IsLeastBroken}
use Rattle.accounts.specs.Order.{account_cmp}
use Rattle.accounts.specs.OrderLaws.{account_equiv, account_total}
use Rattle.accounts.specs.Sums.{added, is_same, total_of}
use Rattle.accounts.specs.Tally.{Sums}
use Rattle.accounts.proofs.Same.{is_Equal, same_account}
use Rattle.touched_accounts.specs.Laws.{TouchedLaw}
use Rattle.touched_accounts.specs.Least.{IsLeastTouched, is_touched, stands_before}
use Rattle.touched_accounts.specs.Sums.{AreMoved}

touched_joined : (ps qs : List Posting) (account : Account) → is_touched (ps ++ qs) account ≡ (is_touched ps account || is_touched qs account)
unfolding is_touched
touched_joined ps qs account = list_any-append (λ (one : Posting). is_same one.account account) ps qs

touched_one : (ps : List Posting) (p : Posting) (account : Account) → is_touched (ps ++ p ∷ []) account ≡ (is_touched ps account || (is_same p.account account || false))
unfolding is_touched
touched_one ps p account = list_any-append (λ (one : Posting). is_same one.account account) ps (p ∷ [])

-- ---- an account to which no posting goes

nothing_added : (s c : Bool) (amount rest : ℕ) → s ≡ false → rest ≡ 0 → cond (s && c) amount 0 + rest ≡ 0
nothing_added true c amount rest is none = absurd (cc is)
nothing_added false c amount rest is none = let same : 0 + rest ≡ 0 = omega arith in same

untouched : (ps : List Posting) (account : Account) (n : ℕ) → is_touched ps account ≡ false → total_of ps account n ≡ 0
unfolding is_touched total_of added
untouched [] account n is = refl
untouched (p ∷ ps) account n is =
    let parts = neither (is_same p.account account) (is_touched ps account) is in
    nothing_added (is_same p.account account) (p.field == n && nat_lt n 9) p.amount (total_of ps account n) parts.0 (untouched ps account n parts.1)

unmoved : (x y gone came : ℕ) → gone ≡ 0 → came ≡ 0 → x + gone ≡ y + came → x ≡ y
unmoved x y gone came first second is = omega arith

-- where no other account is broken, the least of the touched is the least of all
of_all : (sums : Sums) (ps : List Posting) (least : Option Account) → ((account : Account) → is_touched ps account ≡ false → is_broken account (sums account) ≡ false)
    → IsLeastTouched sums ps least → IsLeastBroken (λ account. is_broken account (sums account)) least
of_all sums ps None others is = λ account. false_either_way (is_broken account (sums account)) (is_touched ps account) (others account) (is account)
of_all sums ps (Some least) others is =
    (is.0, λ account less. false_either_way (is_broken account (sums account)) (is_touched ps account) (others account) (λ one. is.2 account one less))

-- an account to which nothing that is gone or came goes keeps its rule
other_keeps : (old new : Sums) (gone came : List Posting) → AreMoved old new gone came → ((account : Account) → is_broken account (old account) ≡ false)
    → (account : Account) → is_touched (gone ++ came) account ≡ false → is_broken account (new account) ≡ false
other_keeps old new gone came moved keeps account other =
    let parts = neither (is_touched gone account) (is_touched came account) (sym (touched_joined gone came account) ∙ other) in
    ap (is_broken account) (fun_ext (λ n.
    unmoved (new account n) (old account n) (total_of gone account n) (total_of came account n)
    (untouched gone account n parts.0) (untouched came account n parts.1) (moved account n)))
    ∙ keeps account

pub touched : TouchedLaw
touched old new gone came least moved keeps is = of_all new (gone ++ came) least (other_keeps old new gone came moved keeps) is

-- ---- one posting more

-- the account of a list with one more is one of the list's, or that of the one
more_case : {A : Type 0} (ps : List Posting) (p : Posting) (account : Account) (t s : Bool) → is_touched ps account ≡ t → is_same p.account account ≡ s
    → is_touched (ps ++ p ∷ []) account ≡ true → (is_touched ps account ≡ true → A) → (p.account ≡ account → A) → A
more_case ps p account true s is same more earlier here = earlier is
more_case ps p account false true is same more earlier here = here (same_account p.account account same)
more_case ps p account false false is same more earlier here =
    let none : (is_touched ps account || (is_same p.account account || false)) ≡ false =
    ap (λ (t : Bool). t || (is_same p.account account || false)) is ∙ ap (λ (s : Bool). s || false) same in
    absurd (cc (sym (touched_one ps p account) ∙ more, none))

is_touched_earlier : (ps : List Posting) (p : Posting) (account : Account) → is_touched ps account ≡ true → is_touched (ps ++ p ∷ []) account ≡ true
is_touched_earlier ps p account is = touched_one ps p account ∙ ap (λ (t : Bool). t || (is_same p.account account || false)) is

any_true : (t : Bool) → (t || true) ≡ true
any_true true = refl
any_true false = refl

is_touched_here : (ps : List Posting) (p : Posting) → is_touched (ps ++ p ∷ []) p.account ≡ true
is_touched_here ps p =
    touched_one ps p p.account ∙ ap (λ (s : Bool). is_touched ps p.account || (s || false)) (account_equiv.refl p.account) ∙ any_true (is_touched ps p.account)

no_less_itself : (a b : Account) {A : Type 0} → a ≡ b → account_cmp b a ≡ Less → A
no_less_itself a b same less =
    let tie : account_cmp a a ≡ Equal = is_Equal (account_cmp a a) (account_equiv.refl a) in
    let it : account_cmp a a ≡ Less = subst (λ k. account_cmp k a ≡ Less) (sym same) less in
    absurd (cc (tie, it))

module _ (sums : Sums) (ps : List Posting) (p : Posting) where
  -- the least stays: the posting's account is not broken, or does not stand before it
  unbroken_more : (least : Option Account) → is_broken p.account (sums p.account) ≡ false → IsLeastTouched sums ps least → IsLeastTouched sums (ps ++ p ∷ []) least
  unbroken_more None keeps is = λ account more.
      more_case ps p account (is_touched ps account) (is_same p.account account) refl refl more (is account) (λ e. subst (λ k. is_broken k (sums k) ≡ false) e keeps)
  unbroken_more (Some least) keeps is = (
    is.0,
    is_touched_earlier ps p least is.1,
    λ account more less.
        more_case ps p account (is_touched ps account) (is_same p.account account) refl refl more (λ one. is.2 account one less)
        (λ e. subst (λ k. is_broken k (sums k) ≡ false) e keeps),
  )

  behind_more : (least : Option Account) → stands_before p.account least ≡ false → IsLeastTouched sums ps least → IsLeastTouched sums (ps ++ p ∷ []) least
  behind_more None behind is = absurd (cc behind)
  behind_more (Some least) behind is = (
    is.0,
    is_touched_earlier ps p least is.1,
    λ account more less.
        more_case ps p account (is_touched ps account) (is_same p.account account) refl refl more (λ one. is.2 account one less)
        (λ e. let before : stands_before p.account (Some least) ≡ true = ap is_lt (ap (λ k. account_cmp k least) e ∙ less) in absurd (cc (before, behind))),
  )

  -- the posting's account is the least
  before_more : (least : Option Account) → stands_before p.account least ≡ true → is_broken p.account (sums p.account) ≡ true
      → IsLeastTouched sums ps least → IsLeastTouched sums (ps ++ p ∷ []) (Some p.account)
  before_more None before broken is = (
    broken,
    is_touched_here ps p,
    λ account more less.
        more_case ps p account (is_touched ps account) (is_same p.account account) refl refl more (is account) (λ e. no_less_itself p.account account e less),
  )
  before_more (Some least) before broken is = (
    broken,
    is_touched_here ps p,
    λ account more less.
        more_case ps p account (is_touched ps account) (is_same p.account account) refl refl more
        (λ one. is.2 account one (account_total.trans account p.account least less (is_less (account_cmp p.account least) before)))
        (λ e. no_less_itself p.account account e less),
  )

-- ---- a step of a loop

pub none_touched : (sums : Sums) → IsLeastTouched sums [] None
unfolding is_touched
none_touched sums = λ account one. absurd (cc one)

next_list : (earlier ps : List Posting) (i : ℕ) (d p : Posting) → i < length ps → p ≡ get_or ps i d → (earlier ++ take i ps) ++ p ∷ [] ≡ earlier ++ take (i + 1) ps
next_list earlier ps i d p inside item =
    append_assoc earlier (take i ps) (p ∷ [])
    ∙ ap (λ (q : Posting). earlier ++ (take i ps ++ q ∷ [])) item
    ∙ ap (λ (l : List Posting). earlier ++ l) (sym (take_more ps i d inside))

module _ (sums : Sums) (earlier ps : List Posting) (i : ℕ) (d p : Posting) (least : Option Account) (inside : i < length ps) (item : p ≡ get_or ps i d) where
  pub before_next : stands_before p.account least ≡ true → is_broken p.account (sums p.account) ≡ true
      → IsLeastTouched sums (earlier ++ take i ps) least → IsLeastTouched sums (earlier ++ take (i + 1) ps) (Some p.account)
  before_next before broken is =
      subst (λ l. IsLeastTouched sums l (Some p.account)) (next_list earlier ps i d p inside item)
      (before_more sums (earlier ++ take i ps) p least before broken is)

  pub unbroken_next : is_broken p.account (sums p.account) ≡ false
      → IsLeastTouched sums (earlier ++ take i ps) least → IsLeastTouched sums (earlier ++ take (i + 1) ps) least
  unbroken_next keeps is =
      subst (λ l. IsLeastTouched sums l least) (next_list earlier ps i d p inside item) (unbroken_more sums (earlier ++ take i ps) p least keeps is)

  pub behind_next : stands_before p.account least ≡ false
      → IsLeastTouched sums (earlier ++ take i ps) least → IsLeastTouched sums (earlier ++ take (i + 1) ps) least
  behind_next behind is =
      subst (λ l. IsLeastTouched sums l least) (next_list earlier ps i d p inside item) (behind_more sums (earlier ++ take i ps) p least behind is)
