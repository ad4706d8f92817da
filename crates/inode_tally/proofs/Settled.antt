-- Classes that are posted, or stay out since they keep their rules.
use Rattle.std.proofs.Common.{◌≡◌, ℕ, ◌+◌, min, ◌==◌, ◌&&◌, Bool, true, false, not, cond, List, [], ◌∷◌, refl, ap, sym, ◌∙◌, subst, arith}
use Rattle.std.specs.Prelude.{Option, Some, None, nat_lt}
use Rattle.std.proofs.Math.Path.{fun_ext}
use Rattle.std.specs.List.{AllByRecursion}
use Rattle.std.specs.List.Sorted.{IsStrictlySortedBy}
use Rattle.std.specs.Map.{keys_of, lookup}
use Rattle.std.specs.BTreeMap.{is_at}
use Rattle.std.specs.Ordering.{is_eq}
use Rattle.std.specs.declared.cmp.Ordering.{Ordering}
use Rattle.std.specs.declared.cmp.Ordering.TheVariants.{Less, Equal, Greater}
use Rattle.std.proofs.lemmas.Map.Keys.{sorted_head}
use Rattle.accounts.specs.declared.account.Account.{Account}
use Rattle.accounts.specs.declared.postings.Posting.{Posting}
use Rattle.accounts.specs.declared.tally.Tally.{Tally}
use Rattle.accounts.specs.Broken.{is_broken}
use Rattle.accounts.specs.Kinds.{inode, inode_type, gives, inode_keeps}
use Rattle.accounts.specs.Sums.{is_same, total_of}
use Rattle.accounts.specs.OrderLaws.{account_equiv}
use Rattle.accounts.specs.Apart.{AddsUp, IsSettled}
use Rattle.accounts.specs.Tally.{Sums, inode_class, kept, kept_sums, no_sums, sums_in, with_postings}
use Rattle.accounts.proofs.First.{broken_kept, unposted}
use Rattle.accounts.proofs.Apart.{more_alike}
use Rattle.accounts.proofs.Kept.{kept_more}
use Rattle.accounts.proofs.Same.{same_account}
use Rattle.inode_tally.specs.declared.class.InodeClass.{InodeClass}
use Rattle.inode_tally.specs.Held.{class_in, class_postings, class_sums, gathered_postings, inode_cmp, inode_of, is_of_inodes, sum_of, widened}
use Rattle.inode_tally.specs.Joined.{LeavesOthers, class_keeps}
use Rattle.inode_tally.proofs.Amounts.{at_type, inode_kept, inode_with, none_at, none_gathered, none_of_others, plus_none, two_alike, type_kept}
use Rattle.inode_tally.proofs.Aside.{elsewhere, inode_equiv, inode_ties, no_class_of_others}
use Rattle.verdict.proofs.Truth.{and_left, and_right}
use Rattle.verdict.proofs.Numbers.{itself}

-- what is broken rests on what is kept
pub broken_alike : (a : Account) (f g : ℕ → ℕ) → kept a.kind f ≡ kept a.kind g → is_broken a f ≡ is_broken a g
broken_alike a f g same = sym (broken_kept a f) ∙ ap (is_broken a) same ∙ broken_kept a g

-- ---- a class that keeps the rules

module _ (tree ino : ℕ) (class : InodeClass) (keeps : class_keeps class ≡ true) where
  abbrev pub sums : Account → ℕ → ℕ
  sums = total_of (gathered_postings tree ino (widened class))

  inode_rule : inode_keeps (sum_of (widened class)) ≡ true
  inode_rule =
      let a = and_left (gives (nat_lt 0 class.others) (class.items == 1)) _ keeps in
      let b = and_left (gives (class.items == 1 && class.linked == 0) (nat_lt 0 class.orphans)) _ (and_right (gives (nat_lt 0 class.others) (class.items == 1)) _ keeps) in
      λ i. a i && (itself class.linked i && (b i && true))

  inode_unbroken : is_broken (inode tree ino) (sums (inode tree ino)) ≡ false
  unfolding is_broken
  inode_unbroken =
      broken_alike (inode tree ino) (sums (inode tree ino)) (sum_of (widened class))
      (inode_kept 9 (sums (inode tree ino)) refl ∙ ap inode_class (plus_none (sums (inode tree ino))) ∙ inode_with tree ino (widened class) (λ _. 0)
      ∙ ap inode_class (sym (plus_none (sum_of (widened class)))) ∙ sym (inode_kept 9 (sum_of (widened class)) refl))
      ∙ ap not inode_rule

  types : ℕ → ℕ
  types n = cond (n == 0) class.entries class.typed

  type_rule : gives (nat_lt 0 class.entries) (class.typed == 1) ≡ true
  type_rule = and_right (gives (class.items == 1 && class.linked == 0) (nat_lt 0 class.orphans)) _ (and_right (gives (nat_lt 0 class.others) (class.items == 1)) _ keeps)

  type_unbroken : is_broken (inode_type tree ino class.sort) (sums (inode_type tree ino class.sort)) ≡ false
  unfolding is_broken types
  type_unbroken =
      let a : Account = inode_type tree ino class.sort in
      let at = at_type tree ino (widened class) a refl in
      let same : is_same a a ≡ true = account_equiv.refl a in
      let first : sums a 0 ≡ class.entries = at.0 ∙ ap (λ b. cond b class.entries 0) same in
      let second : sums a 1 ≡ class.typed = at.1 ∙ ap (λ b. cond b class.typed 0) same in
      broken_alike a (sums a) types
      (type_kept 10 (sums a) refl ∙ two_alike (sums a) types (ap (λ k. min k 1) first) (ap (λ k. min k 2) second) ∙ sym (type_kept 10 types refl))
      ∙ ap not type_rule

  zero_front : (x : ℕ → ℕ) (f : ℕ → ℕ) → f ≡ (λ _. 0) → (λ n. f n + x n) ≡ x
  zero_front x f none = fun_ext (λ n. (let z : f n ≡ 0 = ap (λ (g : ℕ → ℕ). g n) none in let e : f n + x n ≡ x n = omega (arith, z) in e))

  unbroken_both : (rest : Sums) (a : Account) → is_broken a (sums a) ≡ false → rest a ≡ no_sums a → is_broken a (λ n. rest a n + sums a n) ≡ is_broken a (rest a)
  unbroken_both rest a unbroken none =
      ap (is_broken a) (zero_front (sums a) (rest a) none) ∙ unbroken ∙ sym (unposted a) ∙ ap (is_broken a) (sym none)

  type_case : (rest : Sums) → rest (inode_type tree ino class.sort) ≡ no_sums (inode_type tree ino class.sort) → (b : Bool) (a : Account)
      → is_same (inode tree ino) a ≡ false → is_same (inode_type tree ino class.sort) a ≡ b → is_broken a (λ n. rest a n + sums a n) ≡ is_broken a (rest a)
  type_case rest none true a other same =
      subst (λ (x : Account). is_broken x (λ n. rest x n + sums x n) ≡ is_broken x (rest x)) (same_account (inode_type tree ino class.sort) a same)
      (unbroken_both rest (inode_type tree ino class.sort) type_unbroken none)
  type_case rest none false a first second =
      ap (is_broken a) (fun_ext (λ n. (let z = none_at tree ino (widened class) a first second n in let e : rest a n + sums a n ≡ rest a n = omega (arith, z) in e)))

  inode_case : (rest : Sums) → rest (inode tree ino) ≡ no_sums (inode tree ino) → rest (inode_type tree ino class.sort) ≡ no_sums (inode_type tree ino class.sort)
      → (b : Bool) (a : Account) → is_same (inode tree ino) a ≡ b → is_broken a (λ n. rest a n + sums a n) ≡ is_broken a (rest a)
  inode_case rest none type true a same =
      subst (λ (x : Account). is_broken x (λ n. rest x n + sums x n) ≡ is_broken x (rest x)) (same_account (inode tree ino) a same)
      (unbroken_both rest (inode tree ino) inode_unbroken none)
  inode_case rest none type false a other = type_case rest type (is_same (inode_type tree ino class.sort) a) a other refl

  pub outside : (rest : Sums) → rest (inode tree ino) ≡ no_sums (inode tree ino) → rest (inode_type tree ino class.sort) ≡ no_sums (inode_type tree ino class.sort)
      → (a : Account) → is_broken a (λ n. rest a n + sums a n) ≡ is_broken a (rest a)
  outside rest none type a = inode_case rest none type (is_same (inode tree ino) a) a refl

-- ---- the classes that are left

abbrev pub Classes : Type 0
Classes = List ((ℕ × ℕ) × InodeClass)

abbrev pub left : Classes → Account → ℕ → ℕ
left es = class_sums (λ q. lookup (is_at (inode_cmp q)) es)

none_case : (o : Ordering) (class : InodeClass) (rest : Option InodeClass) → o ≡ Less → rest ≡ None → cond (is_eq o) (Some class) rest ≡ None
none_case Less class rest is none = none
none_case Equal class rest is none = absurd (cc is)
none_case Greater class rest is none = absurd (cc is)

none_above : (at : ℕ × ℕ) (es : Classes) → AllByRecursion (λ y. inode_cmp at y ≡ Less) (keys_of es) → lookup (is_at (inode_cmp at)) es ≡ None
none_above at [] all = refl
none_above at (e ∷ es) all = none_case (inode_cmp at e.0) e.1 (lookup (is_at (inode_cmp at)) es) all.0 (none_above at es all.1)

turned : (x y : ℕ × ℕ) → is_at (inode_cmp y) x ≡ false → is_at (inode_cmp x) y ≡ false
turned x y other =
    elim (is_at (inode_cmp x) y) as (λ b. is_at (inode_cmp x) y ≡ b → b ≡ false)
    [ true ↦ λ is. absurd (cc (other, inode_equiv.refl y, ap (λ z. is_at (inode_cmp y) z) (inode_ties x y is))) | false ↦ λ is. refl ] refl

module _ (at : ℕ × ℕ) (class : InodeClass) (es : Classes) (sorted : IsStrictlySortedBy inode_cmp (at ∷ keys_of es)) where
  abbrev pub given : Account → ℕ → ℕ
  given = total_of (class_postings at class)

  -- of the inode nothing else is left
  here : (a : Account) → is_at (inode_cmp (inode_of a)) at ≡ true → (n : ℕ) → (left es a n ≡ 0) × (left ((at, class) ∷ es) a n ≡ given a n)
  here a is n =
      let one : inode_of a ≡ at = inode_ties (inode_of a) at is in (
        ap (λ q. total_of (class_postings q (class_in (lookup (is_at (inode_cmp q)) es))) a n) one
            ∙ ap (λ o. total_of (class_postings at (class_in o)) a n) (none_above at es (sorted_head inode_cmp at (keys_of es) sorted))
            ∙ none_gathered at.0 at.1 a n,
        ap (λ b. total_of (class_postings (inode_of a) (class_in (cond b (Some class) (lookup (is_at (inode_cmp (inode_of a))) es)))) a n) is
            ∙ ap (λ q. total_of (class_postings q class) a n) one,
      )

  away : (a : Account) → is_at (inode_cmp (inode_of a)) at ≡ false → (n : ℕ) → (given a n ≡ 0) × (left ((at, class) ∷ es) a n ≡ left es a n)
  away a other n = (
    elsewhere at (widened class) a (turned at (inode_of a) other) n,
    ap (λ b. total_of (class_postings (inode_of a) (class_in (cond b (Some class) (lookup (is_at (inode_cmp (inode_of a))) es)))) a n) other,
  )

  both_left : (a : Account) (n : ℕ) → left ((at, class) ∷ es) a n ≡ given a n + left es a n
  both_left a n =
      elim (is_at (inode_cmp (inode_of a)) at) as (λ b. is_at (inode_cmp (inode_of a)) at ≡ b → left ((at, class) ∷ es) a n ≡ given a n + left es a n) [
        | true ↦ λ is. (let h = here a is n in omega (arith, h.0, h.1))
        | false ↦ λ is. (let h = away a is n in omega (arith, h.0, h.1))
      ] refl

  pub moved_class : (rest next : Sums) → next ≡ with_postings rest (class_postings at class) → (a : Account)
      → is_broken a (λ n. next a n + left es a n) ≡ is_broken a (λ n. rest a n + left ((at, class) ∷ es) a n)
  unfolding with_postings
  moved_class rest next is a =
      broken_alike a (λ n. next a n + left es a n) (λ n. rest a n + left ((at, class) ∷ es) a n)
      (ap (λ (s : Sums). kept a.kind (λ n. s a n + left es a n)) is
      ∙ kept_more a.kind (λ n. rest a n + given a n) (left es a)
      ∙ ap (kept a.kind) (fun_ext (λ n. (let l = both_left a n in let e : (rest a n + given a n) + left es a n ≡ rest a n + left ((at, class) ∷ es) a n = omega (arith, l) in e))))

  pub skipped_class : (rest : Sums) → ((a : Account) → is_broken a (λ n. rest a n + given a n) ≡ is_broken a (rest a)) → (a : Account)
      → is_broken a (λ n. rest a n + left es a n) ≡ is_broken a (λ n. rest a n + left ((at, class) ∷ es) a n)
  skipped_class rest out a =
      elim (is_at (inode_cmp (inode_of a)) at) as (λ b. is_at (inode_cmp (inode_of a)) at ≡ b → is_broken a (λ n. rest a n + left es a n) ≡ is_broken a (λ n. rest a n + left ((at, class) ∷ es) a n)) [
        | true ↦ λ is. (
            ap (is_broken a) (fun_ext (λ n. (let h = here a is n in let e : rest a n + left es a n ≡ rest a n = omega (arith, h.0) in e)))
            ∙ sym (out a)
            ∙ ap (is_broken a) (fun_ext (λ n. (let h = here a is n in let e : rest a n + given a n ≡ rest a n + left ((at, class) ∷ es) a n = omega (arith, h.1) in e))))
        | false ↦ λ is. ap (is_broken a) (fun_ext (λ n. ap (λ k. rest a n + k) (sym (away a is n).1)))
      ] refl

-- no class is left
pub none_left : (rest : Sums) (es : Classes) → es ≡ [] → (a : Account) → is_broken a (rest a) ≡ is_broken a (λ n. rest a n + left es a n)
none_left rest es is a = ap (is_broken a) (fun_ext (λ n. (let
    z : left es a n ≡ 0 = ap (λ xs. left xs a n) is ∙ none_gathered (inode_of a).0 (inode_of a).1 a n in
    let e : rest a n ≡ rest a n + left es a n = omega (arith, z) in e)))

-- ---- what a tally has of other accounts

-- what is kept is kept again
kept_twice : (kind : ℕ) (f : ℕ → ℕ) → kept kind (kept kind f) ≡ kept kind f
kept_twice kind f = ap (kept kind) (plus_none (kept kind f)) ∙ kept_more kind f (λ _. 0) ∙ ap (kept kind) (sym (plus_none f))

in_tally : (tally : Tally) (a : Account) → kept a.kind (sums_in tally a) ≡ sums_in tally a
unfolding kept_sums
in_tally tally a = kept_twice a.kind _

-- nothing of an account was moved to a tally
pub none_moved : (old new : Tally) (ps : List Posting) (a : Account) → sums_in new ≡ with_postings (sums_in old) ps
    → kept a.kind (λ n. sums_in old a n + total_of ps a n) ≡ kept a.kind (sums_in old a) → sums_in new a ≡ sums_in old a
unfolding with_postings
none_moved old new ps a is same = ap (λ (s : Sums). s a) is ∙ same ∙ in_tally old a

pub class_moved : (old new : Tally) (tree ino : ℕ) (class : InodeClass) → sums_in new ≡ with_postings (sums_in old) (gathered_postings tree ino (widened class)) → LeavesOthers old new
class_moved old new tree ino class is = λ a other.
    none_moved old new (gathered_postings tree ino (widened class)) a is
    (ap (kept a.kind) (fun_ext (λ n. (let z = none_of_others tree ino (widened class) a other n in let
    e : sums_in old a n + total_of (gathered_postings tree ino (widened class)) a n ≡ sums_in old a n = omega (arith, z) in e))))

-- ---- all that was kept apart

module _ (apart : Sums) (entry : ℕ × ℕ → Option InodeClass) (list : List Posting) (old mid new : Tally)
    (given : AddsUp apart (class_sums entry) [] list []) (moved : sums_in mid ≡ with_postings (sums_in old) list)
    (none : (a : Account) (n : ℕ) → is_of_inodes a.kind ≡ false → apart a n ≡ 0) where
  -- the list and the classes have what was kept apart
  whole : (a : Account) → kept a.kind (λ n. (sums_in old a n + total_of list a n) + class_sums entry a n) ≡ kept a.kind (λ n. sums_in old a n + apart a n)
  unfolding total_of
  whole a =
      ap (kept a.kind) (fun_ext (λ n. (let
      e : (sums_in old a n + total_of list a n) + class_sums entry a n ≡ (class_sums entry a n + total_of list a n) + sums_in old a n = omega arith in e)))
      ∙ more_alike a.kind (λ n. class_sums entry a n + total_of list a n) (λ n. (apart a n + 0) + 0) (sums_in old a) (given a)
      ∙ ap (kept a.kind) (fun_ext (λ n. (let e : ((apart a n + 0) + 0) + sums_in old a n ≡ sums_in old a n + apart a n = omega arith in e)))

  between : (a : Account) → is_broken a (λ n. sums_in mid a n + class_sums entry a n) ≡ is_broken a (λ n. sums_in old a n + apart a n)
  unfolding with_postings
  between a =
      broken_alike a (λ n. sums_in mid a n + class_sums entry a n) (λ n. sums_in old a n + apart a n)
      (ap (λ (s : Sums). kept a.kind (λ n. s a n + class_sums entry a n)) moved
      ∙ kept_more a.kind (λ n. sums_in old a n + total_of list a n) (class_sums entry a)
      ∙ whole a)

  left_others : LeavesOthers old mid
  left_others = λ a other.
      none_moved old mid list a moved
      (ap (kept a.kind) (fun_ext (λ n. (let z = no_class_of_others entry a n other in let
      e : sums_in old a n + total_of list a n ≡ (sums_in old a n + total_of list a n) + class_sums entry a n = omega (arith, z) in e)))
      ∙ whole a
      ∙ ap (kept a.kind) (fun_ext (λ n. (let z = none a n other in let e : sums_in old a n + apart a n ≡ sums_in old a n = omega (arith, z) in e))))

  pub all_settled : ((a : Account) → is_broken a (sums_in new a) ≡ is_broken a (λ n. sums_in mid a n + class_sums entry a n)) → LeavesOthers mid new
      → IsSettled apart is_of_inodes old new
  all_settled broken others = record {
    broken = λ a. broken a ∙ between a;
    others = λ a other. others a other ∙ left_others a other;
  }
