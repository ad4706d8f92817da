-- What is kept apart of inodes.
use Rattle.std.proofs.Common.{◌≡◌, ℕ, ◌+◌, ◌<◌, ◌≤◌, Bool, true, false, cond, List, [], ◌∷◌, length, get_or, set, drop, replicate, zero, suc, refl, ap, sym, ◌∙◌, subst, arith}
use Rattle.std.specs.Prelude.{Option, Some}
use Rattle.std.proofs.Math.Path.{fun_ext}
use Rattle.std.specs.Cmp.{IsTotalOrder, IsEquivalence, eq_by_cmp_equiv, then_total, on_total, nat_cmp_total}
use Rattle.std.specs.Ordering.{nat_cmp, eq_by_cmp}
use Rattle.std.specs.FinMap.{nat_cmp-IsAntisymmetric}
use Rattle.std.specs.BTreeMap.{get, is_at}
use Rattle.std.proofs.lemmas.List.{drop_all, drop_more}
use Rattle.accounts.specs.declared.account.Account.{Account}
use Rattle.accounts.specs.declared.postings.Posting.{Posting}
use Rattle.accounts.specs.Apart.{AddsUp}
use Rattle.accounts.specs.Kinds.{inode, inode_type}
use Rattle.accounts.specs.Sums.{is_same, total_of}
use Rattle.accounts.specs.Tally.{Sums, kept}
use Rattle.accounts.proofs.Apart.{more_alike}
use Rattle.accounts.proofs.Same.{is_Equal, same_account}
use Rattle.inode_tally.specs.declared.class.Gathered.{Gathered}
use Rattle.inode_tally.specs.declared.class.InodeClass.{InodeClass}
use Rattle.inode_tally.specs.declared.tally.InodeTally.{InodeTally}
use Rattle.inode_tally.specs.declared.tally.Own.{Own}
use Rattle.inode_tally.specs.Held.{class_in, class_postings, class_sums, gathered_postings, inode_cmp, inode_of, inodes_apart, is_of_inodes, own_sums, owns_sums, widened}
use Rattle.inode_tally.specs.Joined.{Adds, Joins}
use Rattle.inode_tally.proofs.Amounts.{joined_kept, none_at, none_of_others}
use Rattle.verdict.proofs.Truth.{both_tie}

pub back_more : (kind : ℕ) (x f g : ℕ → ℕ) → kept kind f ≡ kept kind g → kept kind (λ n. x n + f n) ≡ kept kind (λ n. x n + g n)
back_more kind x f g same =
    ap (kept kind) (fun_ext (λ n. (let e : x n + f n ≡ f n + x n = omega arith in e)))
    ∙ more_alike kind f g x same
    ∙ ap (kept kind) (fun_ext (λ n. (let e : g n + x n ≡ x n + g n = omega arith in e)))

-- ---- inodes that tie in their order are one inode

inode_total : IsTotalOrder inode_cmp
inode_total = then_total (on_total (λ at. at.0) nat_cmp_total) (on_total (λ at. at.1) nat_cmp_total)

pub inode_equiv : IsEquivalence (eq_by_cmp inode_cmp)
inode_equiv = eq_by_cmp_equiv inode_total

pub inode_ties : (x y : ℕ × ℕ) → is_at (inode_cmp x) y ≡ true → x ≡ y
inode_ties x y is =
    let ties = both_tie (nat_cmp x.0 y.0) (nat_cmp x.1 y.1) (is_Equal (inode_cmp x y) is) in
    let first = nat_cmp-IsAntisymmetric x.0 y.0 ties.0 in
    let second = nat_cmp-IsAntisymmetric x.1 y.1 ties.1 in
    λ i. (first i, second i)

-- an account of another inode
other_inode : (at : ℕ × ℕ) (a : Account) → is_at (inode_cmp at) (inode_of a) ≡ false → is_same (inode at.0 at.1) a ≡ false
other_inode at a other =
    elim (is_same (inode at.0 at.1) a) as (λ b. is_same (inode at.0 at.1) a ≡ b → b ≡ false)
    [ true ↦ λ is. absurd (cc (other, inode_equiv.refl at, ap (λ x. is_at (inode_cmp at) (inode_of x)) (same_account (inode at.0 at.1) a is))) | false ↦ λ is. refl ] refl

other_type : (at : ℕ × ℕ) (sort : ℕ) (a : Account) → is_at (inode_cmp at) (inode_of a) ≡ false → is_same (inode_type at.0 at.1 sort) a ≡ false
other_type at sort a other =
    elim (is_same (inode_type at.0 at.1 sort) a) as (λ b. is_same (inode_type at.0 at.1 sort) a ≡ b → b ≡ false)
    [ true ↦ λ is. absurd (cc (other, inode_equiv.refl at, ap (λ x. is_at (inode_cmp at) (inode_of x)) (same_account (inode_type at.0 at.1 sort) a is))) | false ↦ λ is. refl ] refl

pub elsewhere : (at : ℕ × ℕ) (more : Gathered) (a : Account) → is_at (inode_cmp at) (inode_of a) ≡ false → (n : ℕ) → total_of (gathered_postings at.0 at.1 more) a n ≡ 0
elsewhere at more a other n = none_at at.0 at.1 more a (other_inode at a other) (other_type at more.sort a other) n

-- ---- an inode's class has more

module _ (entry after : ℕ × ℕ → Option InodeClass) (at : ℕ × ℕ) (more : Gathered) (is : Joins entry after at more) where
  abbrev pub class_at : (a : Account) → ℕ → ℕ
  class_at a = total_of (class_postings (inode_of a) (class_in (entry (inode_of a)))) a

  abbrev pub class_after : (a : Account) → ℕ → ℕ
  class_after a = total_of (class_postings (inode_of a) (class_in (after (inode_of a)))) a

  joined_at : (b : Bool) (a : Account) → is_at (inode_cmp at) (inode_of a) ≡ b → kept a.kind (class_after a) ≡ kept a.kind (λ n. class_at a n + total_of (gathered_postings at.0 at.1 more) a n)
  joined_at true a here =
      let one : at ≡ inode_of a = inode_ties at (inode_of a) here in
      let new : class_in (after (inode_of a)) ≡ is.joined = ap class_in (is.entries (inode_of a) ∙ ap (λ b. cond b (Some is.joined) (entry (inode_of a))) here) in
      ap (λ c. kept a.kind (total_of (class_postings (inode_of a) c) a)) new
      ∙ ap (λ q. kept a.kind (total_of (class_postings q is.joined) a)) (sym one)
      ∙ joined_kept at.0 at.1 (class_in (entry at)) more is.joined is.is a
      ∙ ap (λ q. kept a.kind (λ n. total_of (class_postings q (class_in (entry q))) a n + total_of (gathered_postings at.0 at.1 more) a n)) one
  joined_at false a other =
      ap (λ c. kept a.kind (total_of (class_postings (inode_of a) (class_in c)) a)) (is.entries (inode_of a) ∙ ap (λ b. cond b (Some is.joined) (entry (inode_of a))) other)
      ∙ ap (kept a.kind) (fun_ext (λ n. (let z = elsewhere at more a other n in let e : class_at a n ≡ class_at a n + total_of (gathered_postings at.0 at.1 more) a n = omega (arith, z) in e)))

  pub class_more : (a : Account) → kept a.kind (class_sums after a) ≡ kept a.kind (λ n. class_sums entry a n + total_of (gathered_postings at.0 at.1 more) a n)
  class_more a = joined_at (is_at (inode_cmp at) (inode_of a)) a refl

-- ---- what is gathered of some inodes

-- of all but one
abbrev others : List Own → ℕ → Sums
others [] i a n = 0
others (own ∷ owns) zero a n = owns_sums owns a n
others (own ∷ owns) (suc i) a n = own_sums own a n + others owns i a n

at_place : (owns : List Own) (i : ℕ) (d : Own) → i < length owns → (a : Account) (n : ℕ) → owns_sums owns a n ≡ own_sums (get_or owns i d) a n + others owns i a n
at_place [] i d below a n = absurd (omega (arith, below))
at_place (own ∷ owns) zero d below a n = refl
at_place (own ∷ owns) (suc i) d below a n =
    let later = at_place owns i d (omega (arith, below)) a n in
    omega (arith, later)

set_place : (owns : List Own) (i : ℕ) (own : Own) → i < length owns → (a : Account) (n : ℕ) → owns_sums (set owns i own) a n ≡ own_sums own a n + others owns i a n
set_place [] i own below a n = absurd (omega (arith, below))
set_place (first ∷ owns) zero own below a n = refl
set_place (first ∷ owns) (suc i) own below a n =
    let later = set_place owns i own (omega (arith, below)) a n in
    omega (arith, later)

-- one stands in place of another
pub exchanged : (owns : List Own) (i : ℕ) (own last : Own) → i < length owns → last ≡ get_or owns i last → (a : Account) (n : ℕ)
    → owns_sums (set owns i own) a n + own_sums last a n ≡ owns_sums owns a n + own_sums own a n
exchanged owns i own last below is a n =
    let x = at_place owns i last below a n in
    let y = set_place owns i own below a n in
    let z = ap (λ (o : Own). own_sums o a n) is in
    omega (arith, x, y, z)

-- amounts to one are amounts to all
pub added_at : (owns : List Own) (i : ℕ) (last own : Own) (given : List Posting) → i < length owns → last ≡ get_or owns i last
    → Adds (own_sums last) (own_sums own) given → Adds (owns_sums owns) (owns_sums (set owns i own)) given
added_at owns i last own given below same is = λ a.
    ap (kept a.kind) (fun_ext (set_place owns i own below a))
    ∙ more_alike a.kind (own_sums own a) (λ n. own_sums last a n + total_of given a n) (others owns i a) (is a)
    ∙ ap (kept a.kind) (fun_ext (λ n. (let x = at_place owns i last below a n in let y = ap (λ (o : Own). own_sums o a n) same in let
    e : (own_sums last a n + total_of given a n) + others owns i a n ≡ owns_sums owns a n + total_of given a n = omega (arith, x, y) in e)))

-- nothing is gathered of any
pub none_all : (count : ℕ) (own : Own) (a : Account) (n : ℕ) → own_sums own a n ≡ 0 → owns_sums (replicate count own) a n ≡ 0
none_all zero own a n none = refl
none_all (suc count) own a n none =
    let later = none_all count own a n none in
    omega (arith, none, later)

-- one of those that are left
pub next_own : (owns : List Own) (i : ℕ) (d : Own) → i < length owns → (a : Account) (n : ℕ)
    → owns_sums (drop (i + 1) owns) a n + own_sums (get_or owns i d) a n ≡ owns_sums (drop i owns) a n + total_of [] a n
unfolding total_of
next_own owns i d below a n =
    let x = ap (λ os. owns_sums os a n) (drop_more owns i d below) in
    omega (arith, x)

others_none : (owns : List Own) (a : Account) (n : ℕ) → is_of_inodes a.kind ≡ false → owns_sums owns a n ≡ 0
others_none [] a n other = refl
others_none (own ∷ owns) a n other =
    let x = none_of_others own.tree own.ino own.sums a other n in
    let y = others_none owns a n other in
    omega (arith, x, y)

pub no_class_of_others : (entry : ℕ × ℕ → Option InodeClass) (a : Account) (n : ℕ) → is_of_inodes a.kind ≡ false → class_sums entry a n ≡ 0
no_class_of_others entry a n other = none_of_others (inode_of a).0 (inode_of a).1 (widened (class_in (entry (inode_of a)))) a other n

-- nothing is kept apart of an account that is none of an inode
pub apart_of_others : (tally : InodeTally) (account : Account) (n : ℕ) → is_of_inodes account.kind ≡ false → inodes_apart tally account n ≡ 0
apart_of_others tally account n other =
    let x = no_class_of_others (get inode_cmp tally.classes) account n other in
    let y = others_none tally.owns.items account n other in
    omega (arith, x, y)

-- ---- what is kept apart, and the list

-- amounts stay apart
pub adds_apart : (old new : Sums) (list given : List Posting) → Adds old new given → AddsUp old new list list given
adds_apart old new list given is = λ a.
    more_alike a.kind (new a) (λ n. old a n + total_of given a n) (total_of list a) (is a)
    ∙ ap (kept a.kind) (fun_ext (λ n. (let
    e : (old a n + total_of given a n) + total_of list a n ≡ (old a n + total_of list a n) + total_of given a n = omega arith in e)))

-- beside classes
pub beside_classes : (classes old new : Sums) (list given : List Posting) → Adds old new given
    → AddsUp (λ a n. classes a n + old a n) (λ a n. classes a n + new a n) list list given
beside_classes classes old new list given is =
    adds_apart (λ a n. classes a n + old a n) (λ a n. classes a n + new a n) list given
    (λ a. back_more a.kind (classes a) (new a) (λ n. old a n + total_of given a n) (is a)
    ∙ ap (kept a.kind) (fun_ext (λ n. (let e : classes a n + (old a n + total_of given a n) ≡ (classes a n + old a n) + total_of given a n = omega arith in e))))

-- some went to the classes, and others came in their place
pub adds_exchanged : (old new first later : Sums) (before after last given : List Posting) → AddsUp old new before after last
    → ((a : Account) (n : ℕ) → later a n + total_of last a n ≡ first a n + total_of given a n)
    → AddsUp (λ a n. old a n + first a n) (λ a n. new a n + later a n) before after given
adds_exchanged old new first later before after last given is same = λ a.
    ap (kept a.kind) (fun_ext (λ n. (let
    e : (new a n + later a n) + total_of after a n ≡ (new a n + total_of after a n) + later a n = omega arith in e)))
    ∙ more_alike a.kind (λ n. new a n + total_of after a n) (λ n. (old a n + total_of before a n) + total_of last a n) (later a) (is a)
    ∙ ap (kept a.kind) (fun_ext (λ n. (let s = same a n in let
    e : ((old a n + total_of before a n) + total_of last a n) + later a n ≡ ((old a n + first a n) + total_of before a n) + total_of given a n = omega (arith, s) in e)))

-- none is left
pub adds_all : (old classes : Sums) (owns : List Own) (i : ℕ) (before after given : List Posting)
    → AddsUp old (λ a n. classes a n + owns_sums (drop i owns) a n) before after given → length owns ≤ i → AddsUp old classes before after given
adds_all old classes owns i before after given is past = λ a.
    ap (kept a.kind) (fun_ext (λ n. (let z = ap (λ os. owns_sums os a n) (drop_all i owns past) in let
    e : classes a n + total_of after a n ≡ (classes a n + owns_sums (drop i owns) a n) + total_of after a n = omega (arith, z) in e))) ∙ is a

-- what is gathered is the same
pub adds_stayed : (classes new : Sums) (owns same : List Own) (before after given : List Posting) → same ≡ owns
    → AddsUp (λ a n. classes a n + owns_sums same a n) new before after given → AddsUp (λ a n. classes a n + owns_sums owns a n) new before after given
adds_stayed classes new owns same before after given is = subst (λ os. AddsUp (λ a n. classes a n + owns_sums os a n) new before after given) is

-- lists of which the same is kept
pub adds_alike : (old new : Sums) (before after given other : List Posting) → AddsUp old new before after given
    → ((a : Account) → kept a.kind (total_of given a) ≡ kept a.kind (total_of other a)) → AddsUp old new before after other
adds_alike old new before after given other is same = λ a.
    is a ∙ back_more a.kind (λ n. old a n + total_of before a n) (total_of given a) (total_of other a) (same a)

-- an amount to an inode of which nothing was gathered
pub first_amount : (none own : Own) (given : List Posting) → ((a : Account) (n : ℕ) → own_sums none a n ≡ 0) → Adds (own_sums none) (own_sums own) given
    → (a : Account) → kept a.kind (own_sums own a) ≡ kept a.kind (total_of given a)
first_amount none own given nothing is a =
    is a ∙ ap (kept a.kind) (fun_ext (λ n. (let z = nothing a n in let e : own_sums none a n + total_of given a n ≡ total_of given a n = omega (arith, z) in e)))
