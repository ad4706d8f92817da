-- What amounts to an inode come to, account by account.
use Rattle.std.proofs.Common.{◌≡◌, ℕ, ◌+◌, ◌-◌, min, ◌==◌, ◌&&◌, Bool, true, false, cond, [], ◌∷◌, refl, ap, sym, ◌∙◌, subst, arith}
use Rattle.std.specs.Prelude.{nat_lt}
use Rattle.std.proofs.Math.Path.{fun_ext}
use Rattle.std.proofs.lemmas.Bool.{eqb-true}
use Rattle.accounts.specs.declared.account.Account.{Account}
use Rattle.accounts.specs.Kinds.{inode, inode_type}
use Rattle.accounts.specs.Sums.{added, is_same, total_of}
use Rattle.accounts.specs.OrderLaws.{account_equiv}
use Rattle.accounts.specs.Tally.{inode_class, kept, type_class, with_amount}
use Rattle.accounts.proofs.Apart.{more_alike}
use Rattle.accounts.proofs.Same.{same_account}
use Rattle.inode_tally.specs.declared.class.Gathered.{Gathered}
use Rattle.inode_tally.specs.declared.class.InodeClass.{InodeClass}
use Rattle.inode_tally.specs.Held.{gathered_postings, is_of_inodes, no_sums_of, sum_of, to, widened}
use Rattle.inode_tally.specs.Joined.{IsJoined, IsTargeted}
use Rattle.verdict.proofs.Truth.{neither as neither_kind}

-- amounts, by whether they are to an account of the inode or of the type
abbrev amounts : Bool → Bool → (ℕ → ℕ) → ℕ → ℕ → ℕ → ℕ
amounts is_inode is_type f entries typed n =
    cond (is_inode && (0 == n && nat_lt n 9)) (f 0) 0
    + (cond (is_inode && (1 == n && nat_lt n 9)) (f 1) 0
    + (cond (is_inode && (2 == n && nat_lt n 9)) (f 2) 0
    + (cond (is_inode && (3 == n && nat_lt n 9)) (f 3) 0
    + (cond (is_inode && (4 == n && nat_lt n 9)) (f 4) 0
    + (cond (is_inode && (5 == n && nat_lt n 9)) (f 5) 0
    + (cond (is_inode && (6 == n && nat_lt n 9)) (f 6) 0
    + (cond (is_inode && (7 == n && nat_lt n 9)) (f 7) 0
    + (cond (is_inode && (8 == n && nat_lt n 9)) (f 8) 0
    + (cond (is_type && (0 == n && nat_lt n 9)) entries 0
    + (cond (is_type && (1 == n && nat_lt n 9)) typed 0
    + 0))))))))))

amounts_of : (tree ino : ℕ) (more : Gathered) (a : Account) (n : ℕ) → total_of (gathered_postings tree ino more) a n
    ≡ amounts (is_same (inode tree ino) a) (is_same (inode_type tree ino more.sort) a) (sum_of more) more.entries more.typed n
unfolding total_of added
amounts_of tree ino more a n = refl

-- to the inode itself
at_inode : (tree ino : ℕ) (more : Gathered) (n : ℕ) → total_of (gathered_postings tree ino more) (inode tree ino) n ≡ amounts true false (sum_of more) more.entries more.typed n
at_inode tree ino more n = amounts_of tree ino more (inode tree ino) n ∙ ap (λ b. amounts b false (sum_of more) more.entries more.typed n) (account_equiv.refl (inode tree ino))

nine_alike : (f g : ℕ → ℕ) → f 0 ≡ g 0 → f 1 ≡ g 1 → f 2 ≡ g 2 → f 3 ≡ g 3 → f 4 ≡ g 4 → f 5 ≡ g 5 → f 6 ≡ g 6 → f 7 ≡ g 7 → f 8 ≡ g 8 → inode_class f ≡ inode_class g
nine_alike f g e0 e1 e2 e3 e4 e5 e6 e7 e8 = λ i n.
    cond (n == 0) (min (e0 i) 2)
    (cond (n == 1) (min (e1 i) 1)
    (cond (n == 2) ((e2 i - e3 i) + min 1 (min (e2 i) (e3 i)))
    (cond (n == 3) ((e3 i - e2 i) + min 1 (min (e2 i) (e3 i)))
    (cond (n == 4) (min (e4 i) 1)
    (cond (n == 5) (e5 i - e6 i)
    (cond (n == 6) (e6 i - e5 i)
    (cond (n == 7) (e7 i - e8 i)
    (cond (n == 8) (e8 i - e7 i) 0))))))))

-- amounts to the inode itself and more are as the sums and more
pub inode_with : (tree ino : ℕ) (more : Gathered) (g : ℕ → ℕ) → inode_class (λ n. total_of (gathered_postings tree ino more) (inode tree ino) n + g n) ≡ inode_class (λ n. sum_of more n + g n)
inode_with tree ino more g =
    let f : ℕ → ℕ = sum_of more in
    nine_alike (λ n. total_of (gathered_postings tree ino more) (inode tree ino) n + g n) (λ n. f n + g n)
    (let e = at_inode tree ino more 0 in omega (arith, e))
    (let e = at_inode tree ino more 1 in omega (arith, e))
    (let e = at_inode tree ino more 2 in omega (arith, e))
    (let e = at_inode tree ino more 3 in omega (arith, e))
    (let e = at_inode tree ino more 4 in omega (arith, e))
    (let e = at_inode tree ino more 5 in omega (arith, e))
    (let e = at_inode tree ino more 6 in omega (arith, e))
    (let e = at_inode tree ino more 7 in omega (arith, e))
    (let e = at_inode tree ino more 8 in omega (arith, e))

pub plus_none : (f : ℕ → ℕ) → f ≡ (λ n. f n + 0)
plus_none f = fun_ext (λ n. (let e : f n ≡ f n + 0 = omega arith in e))

swapped : (f g : ℕ → ℕ) → ◌≡◌ {A = ℕ → ℕ} (λ n. f n + g n) (λ n. g n + f n)
swapped f g = fun_ext (λ n. (let e : f n + g n ≡ g n + f n = omega arith in e))

-- ---- what is kept, by the kind
pub inode_kept : (kind : ℕ) (f : ℕ → ℕ) → (kind == 9) ≡ true → kept kind f ≡ inode_class f
unfolding kept
inode_kept kind f is = subst (λ k. kept k f ≡ inode_class f) (sym (eqb-true kind 9 is)) refl

pub type_kept : (kind : ℕ) (f : ℕ → ℕ) → (kind == 10) ≡ true → kept kind f ≡ type_class f
unfolding kept
type_kept kind f is = subst (λ k. kept k f ≡ type_class f) (sym (eqb-true kind 10 is)) refl

pub two_alike : (f g : ℕ → ℕ) → min (f 0) 1 ≡ min (g 0) 1 → min (f 1) 2 ≡ min (g 1) 2 → type_class f ≡ type_class g
two_alike f g first second = λ i n. cond (n == 0) (first i) (cond (n == 1) (second i) 0)

-- ---- what is no account of the inode has none
no_inode : (tree ino : ℕ) (a : Account) → (a.kind == 9) ≡ false → is_same (inode tree ino) a ≡ false
no_inode tree ino a other =
    elim (is_same (inode tree ino) a) as (λ b. is_same (inode tree ino) a ≡ b → b ≡ false)
    [ true ↦ λ is. absurd (cc (other, ap (λ (x : Account). x.kind == 9) (same_account (inode tree ino) a is))) | false ↦ λ is. refl ] refl

no_type : (tree ino sort : ℕ) (a : Account) → (a.kind == 10) ≡ false → is_same (inode_type tree ino sort) a ≡ false
no_type tree ino sort a other =
    elim (is_same (inode_type tree ino sort) a) as (λ b. is_same (inode_type tree ino sort) a ≡ b → b ≡ false)
    [ true ↦ λ is. absurd (cc (other, ap (λ (x : Account). x.kind == 10) (same_account (inode_type tree ino sort) a is))) | false ↦ λ is. refl ] refl

-- amounts to neither
pub none_at : (tree ino : ℕ) (more : Gathered) (a : Account) → is_same (inode tree ino) a ≡ false → is_same (inode_type tree ino more.sort) a ≡ false → (n : ℕ) → total_of (gathered_postings tree ino more) a n ≡ 0
none_at tree ino more a first second n =
    amounts_of tree ino more a n
    ∙ ap (λ b. amounts b (is_same (inode_type tree ino more.sort) a) (sum_of more) more.entries more.typed n) first
    ∙ ap (λ b. amounts false b (sum_of more) more.entries more.typed n) second

entries_at : (b : Bool) (f : ℕ → ℕ) (entries typed : ℕ) → amounts false b f entries typed 0 ≡ cond b entries 0
entries_at true f entries typed = omega arith
entries_at false f entries typed = refl

typed_at : (b : Bool) (f : ℕ → ℕ) (entries typed : ℕ) → amounts false b f entries typed 1 ≡ cond b typed 0
typed_at true f entries typed = omega arith
typed_at false f entries typed = refl

pub at_type : (tree ino : ℕ) (more : Gathered) (a : Account) → is_same (inode tree ino) a ≡ false
    → (total_of (gathered_postings tree ino more) a 0 ≡ cond (is_same (inode_type tree ino more.sort) a) more.entries 0)
    × (total_of (gathered_postings tree ino more) a 1 ≡ cond (is_same (inode_type tree ino more.sort) a) more.typed 0)
at_type tree ino more a other =
    let b : Bool = is_same (inode_type tree ino more.sort) a in (
      amounts_of tree ino more a 0 ∙ ap (λ s. amounts s b (sum_of more) more.entries more.typed 0) other ∙ entries_at b (sum_of more) more.entries more.typed,
      amounts_of tree ino more a 1 ∙ ap (λ s. amounts s b (sum_of more) more.entries more.typed 1) other ∙ typed_at b (sum_of more) more.entries more.typed,
    )

-- ---- a class joined with more
module _ (tree ino : ℕ) (class : InodeClass) (more : Gathered) (joined : InodeClass) (is : IsJoined class more joined) where
  abbrev pub old : Account → ℕ → ℕ
  old = total_of (gathered_postings tree ino (widened class))

  abbrev pub new : Account → ℕ → ℕ
  new = total_of (gathered_postings tree ino (widened joined))

  abbrev pub given : Account → ℕ → ℕ
  given = total_of (gathered_postings tree ino more)

  joined_inode : inode_class (new (inode tree ino)) ≡ inode_class (λ n. old (inode tree ino) n + given (inode tree ino) n)
  joined_inode =
      ap inode_class (plus_none (new (inode tree ino)))
      ∙ inode_with tree ino (widened joined) (λ _. 0)
      ∙ ap inode_class (sym (plus_none (sum_of (widened joined))))
      ∙ fun_ext is.inode
      ∙ ap inode_class (swapped (sum_of (widened class)) (sum_of more))
      ∙ sym (inode_with tree ino more (sum_of (widened class)))
      ∙ ap inode_class (swapped (given (inode tree ino)) (sum_of (widened class)))
      ∙ sym (inode_with tree ino (widened class) (given (inode tree ino)))

  joined_type : (a : Account) → is_same (inode tree ino) a ≡ false → type_class (new a) ≡ type_class (λ n. old a n + given a n)
  joined_type a other =
      let same : ℕ → Bool = λ sort. is_same (inode_type tree ino sort) a in
      let n = at_type tree ino (widened joined) a other in
      let o = at_type tree ino (widened class) a other in
      let g = at_type tree ino more a other in
      two_alike (new a) (λ n. old a n + given a n)
      (ap (λ k. min k 1) n.0 ∙ is.entries same ∙ ap (λ k. min (k + cond (same more.sort) more.entries 0) 1) (sym o.0) ∙ ap (λ k. min (old a 0 + k) 1) (sym g.0))
      (ap (λ k. min k 2) n.1 ∙ is.typed same ∙ ap (λ k. min (k + cond (same more.sort) more.typed 0) 2) (sym o.1) ∙ ap (λ k. min (old a 1 + k) 2) (sym g.1))

  neither : (a : Account) → is_same (inode tree ino) a ≡ false → (a.kind == 10) ≡ false → (n : ℕ) → new a n ≡ old a n + given a n
  neither a first second n =
      let x = none_at tree ino (widened joined) a first (no_type tree ino joined.sort a second) n in
      let y = none_at tree ino (widened class) a first (no_type tree ino class.sort a second) n in
      let z = none_at tree ino more a first (no_type tree ino more.sort a second) n in
      omega (arith, x, y, z)

  joined_other : (b : Bool) (a : Account) → is_same (inode tree ino) a ≡ false → (a.kind == 10) ≡ b → kept a.kind (new a) ≡ kept a.kind (λ n. old a n + given a n)
  joined_other true a other type = type_kept a.kind (new a) type ∙ joined_type a other ∙ sym (type_kept a.kind (λ n. old a n + given a n) type)
  joined_other false a other none = ap (kept a.kind) (fun_ext (neither a other none))

  joined_case : (b : Bool) (a : Account) → is_same (inode tree ino) a ≡ b → kept a.kind (new a) ≡ kept a.kind (λ n. old a n + given a n)
  joined_case true a same =
      subst (λ (x : Account). kept x.kind (new x) ≡ kept x.kind (λ n. old x n + given x n)) (same_account (inode tree ino) a same)
      (inode_kept 9 (new (inode tree ino)) refl ∙ joined_inode ∙ sym (inode_kept 9 (λ n. old (inode tree ino) n + given (inode tree ino) n) refl))
  joined_case false a other = joined_other (a.kind == 10) a other refl

  pub joined_kept : (a : Account) → kept a.kind (new a) ≡ kept a.kind (λ n. old a n + given a n)
  joined_kept a = joined_case (is_same (inode tree ino) a) a refl

-- ---- no amount
drop_zero : (b : Bool) (rest : ℕ) → rest ≡ 0 → cond b 0 0 + rest ≡ 0
drop_zero true rest is = omega (arith, is)
drop_zero false rest is = omega (arith, is)

pub none_gathered : (tree ino : ℕ) (a : Account) (n : ℕ) → total_of (gathered_postings tree ino no_sums_of) a n ≡ 0
none_gathered tree ino a n =
    amounts_of tree ino no_sums_of a n
    ∙ drop_zero _ _ (drop_zero _ _ (drop_zero _ _ (drop_zero _ _ (drop_zero _ _ (drop_zero _ _ (drop_zero _ _ (drop_zero _ _ (drop_zero _ _ (drop_zero _ _ (drop_zero _ _ refl))))))))))

pub zero_dropped : (b : Bool) (rest more : ℕ) → rest ≡ more → cond b 0 0 + rest ≡ more
zero_dropped true rest more is = omega (arith, is)
zero_dropped false rest more is = omega (arith, is)

-- ---- an amount more to one sum
one_amount : (b : Bool) (amount : ℕ) → cond (b && true) amount 0 + 0 ≡ cond b amount 0
one_amount true amount = omega arith
one_amount false amount = refl

module _ (tree ino : ℕ) (old new : Gathered) (field amount : ℕ)
    (sums : (n : ℕ) → sum_of new n ≡ with_amount (sum_of old) field amount n)
    (types : (new.sort ≡ old.sort) × (new.entries ≡ old.entries) × (new.typed ≡ old.typed)) where
  abbrev pub before : Account → ℕ → ℕ
  before = total_of (gathered_postings tree ino old)

  abbrev pub after : Account → ℕ → ℕ
  after = total_of (gathered_postings tree ino new)

  abbrev pub more : Account → ℕ → ℕ
  more = total_of (to (inode tree ino) field amount ∷ [])

  -- at the inode itself, one sum
  abbrev raised_sum : ℕ → Type 0
  raised_sum n = after (inode tree ino) n ≡ before (inode tree ino) n + more (inode tree ino) n

  more_at : (n : ℕ) → nat_lt n 9 ≡ true → more (inode tree ino) n ≡ cond (field == n) amount 0
  unfolding total_of added
  more_at n small =
      ap (λ b. cond (b && (field == n && nat_lt n 9)) amount 0 + 0) (account_equiv.refl (inode tree ino))
      ∙ ap (λ b. cond (field == n && b) amount 0 + 0) small
      ∙ one_amount (field == n) amount

  raised_at : (n : ℕ) → nat_lt n 9 ≡ true → amounts true false (sum_of new) new.entries new.typed n ≡ sum_of new n
      → amounts true false (sum_of old) old.entries old.typed n ≡ sum_of old n → raised_sum n
  raised_at n small here there =
      let a = at_inode tree ino new n ∙ here in
      let b = at_inode tree ino old n ∙ there in
      let c = more_at n small in
      let s = sums n in
      omega (arith, a, b, c, s)

  raised_inode : inode_class (after (inode tree ino)) ≡ inode_class (λ n. before (inode tree ino) n + more (inode tree ino) n)
  raised_inode =
      nine_alike (after (inode tree ino)) (λ n. before (inode tree ino) n + more (inode tree ino) n)
      (raised_at 0 refl (omega arith) (omega arith))
      (raised_at 1 refl (omega arith) (omega arith))
      (raised_at 2 refl (omega arith) (omega arith))
      (raised_at 3 refl (omega arith) (omega arith))
      (raised_at 4 refl (omega arith) (omega arith))
      (raised_at 5 refl (omega arith) (omega arith))
      (raised_at 6 refl (omega arith) (omega arith))
      (raised_at 7 refl (omega arith) (omega arith))
      (raised_at 8 refl (omega arith) (omega arith))

  none_more : (a : Account) (n : ℕ) → is_same (inode tree ino) a ≡ false → more a n ≡ 0
  unfolding total_of added
  none_more a n other = ap (λ b. cond (b && (field == n && nat_lt n 9)) amount 0 + 0) other

  raised_other : (a : Account) → is_same (inode tree ino) a ≡ false → (n : ℕ) → after a n ≡ before a n + more a n
  raised_other a other n =
      let none = none_more a n other in
      let x : after a n ≡ amounts false (is_same (inode_type tree ino new.sort) a) (sum_of new) new.entries new.typed n =
      amounts_of tree ino new a n ∙ ap (λ b. amounts b (is_same (inode_type tree ino new.sort) a) (sum_of new) new.entries new.typed n) other in
      let y : before a n ≡ amounts false (is_same (inode_type tree ino old.sort) a) (sum_of old) old.entries old.typed n =
      amounts_of tree ino old a n ∙ ap (λ b. amounts b (is_same (inode_type tree ino old.sort) a) (sum_of old) old.entries old.typed n) other in
      let z : amounts false (is_same (inode_type tree ino new.sort) a) (sum_of old) new.entries new.typed n
      ≡ amounts false (is_same (inode_type tree ino old.sort) a) (sum_of old) old.entries old.typed n =
      λ i. amounts false (is_same (inode_type tree ino (types.0 i)) a) (sum_of old) (types.1 i) (types.2 i) n in
      let whole : after a n ≡ before a n = x ∙ z ∙ sym y in
      omega (arith, whole, none)

  raised_case : (b : Bool) (a : Account) → is_same (inode tree ino) a ≡ b → kept a.kind (after a) ≡ kept a.kind (λ n. before a n + more a n)
  raised_case true a same =
      subst (λ (x : Account). kept x.kind (after x) ≡ kept x.kind (λ n. before x n + more x n)) (same_account (inode tree ino) a same)
      (inode_kept 9 (after (inode tree ino)) refl ∙ raised_inode ∙ sym (inode_kept 9 (λ n. before (inode tree ino) n + more (inode tree ino) n) refl))
  raised_case false a other = ap (kept a.kind) (fun_ext (raised_other a other))

  pub raised_kept : (a : Account) → kept a.kind (after a) ≡ kept a.kind (λ n. before a n + more a n)
  raised_kept a = raised_case (is_same (inode tree ino) a) a refl

-- ---- targets, and a type
pub target_total : (tree ino sort count : ℕ) (more : Gathered)
    → more ≡ record { bytes = 0 ∷ 0 ∷ 0 ∷ 0 ∷ []; counts = 0 ∷ count ∷ 0 ∷ 0 ∷ 0 ∷ []; entries = count; typed = 0; sort = sort } → (a : Account) (n : ℕ)
    → total_of (gathered_postings tree ino more) a n ≡ total_of (to (inode tree ino) 1 count ∷ to (inode_type tree ino sort) 0 count ∷ []) a n
unfolding total_of added
target_total tree ino sort count more is a n =
    ap (λ m. total_of (gathered_postings tree ino m) a n) is
    ∙ zero_dropped _ _ _ (ap (λ k. cond (is_same (inode tree ino) a && (1 == n && nat_lt n 9)) count 0 + k)
    (zero_dropped _ _ _ (zero_dropped _ _ _ (zero_dropped _ _ _ (zero_dropped _ _ _ (zero_dropped _ _ _ (zero_dropped _ _ _ (zero_dropped _ _ _ (ap (λ k. cond (is_same (inode_type tree ino sort) a && (0 == n && nat_lt n 9)) count 0 + k) (zero_dropped _ _ _ refl))))))))))

pub type_total : (tree ino sort : ℕ) (more : Gathered) → more ≡ record { bytes = 0 ∷ 0 ∷ 0 ∷ 0 ∷ []; counts = 0 ∷ 0 ∷ 0 ∷ 0 ∷ 0 ∷ []; entries = 0; typed = 1; sort = sort } → (a : Account) (n : ℕ)
    → total_of (gathered_postings tree ino more) a n ≡ total_of (to (inode_type tree ino sort) 1 1 ∷ []) a n
unfolding total_of added
type_total tree ino sort more is a n =
    ap (λ m. total_of (gathered_postings tree ino m) a n) is
    ∙ (zero_dropped _ _ _ (zero_dropped _ _ _ (zero_dropped _ _ _ (zero_dropped _ _ _ (zero_dropped _ _ _ (zero_dropped _ _ _ (zero_dropped _ _ _ (zero_dropped _ _ _ (zero_dropped _ _ _ (zero_dropped _ _ _ refl))))))))))

-- ---- an entry, or an item, that says a type more

some_more : (b : Bool) (k count : ℕ) → cond b (k + count) 0 ≡ cond b k 0 + cond b count 0
some_more true k count = refl
some_more false k count = refl

tail_more : (x0 x1 x2 x3 x4 x5 x6 x7 x8 e t f u more : ℕ) → e + t ≡ (f + u) + more
    → x0 + (x1 + (x2 + (x3 + (x4 + (x5 + (x6 + (x7 + (x8 + (e + (t + 0))))))))))
    ≡ (x0 + (x1 + (x2 + (x3 + (x4 + (x5 + (x6 + (x7 + (x8 + (f + (u + 0))))))))))) + (more + 0)
tail_more x0 x1 x2 x3 x4 x5 x6 x7 x8 e t f u more is = omega (arith, is)

-- what says a type goes with it to another one
abbrev pub MovesTo : ℕ → ℕ → ℕ → Type 0
MovesTo amount old sort = (same : ℕ → Bool) → cond (same sort) amount 0 ≡ cond (same old) amount 0

module _ (tree ino sort : ℕ) (old : Gathered) (entries : MovesTo old.entries old.sort sort) (typed : MovesTo old.typed old.sort sort) where
  pub entry_total : (count : ℕ) (a : Account) (n : ℕ)
      → total_of (gathered_postings tree ino (record { bytes = old.bytes; counts = old.counts; entries = old.entries + count; typed = old.typed; sort = sort })) a n
      ≡ total_of (gathered_postings tree ino old) a n + total_of (to (inode_type tree ino sort) 0 count ∷ []) a n
  unfolding total_of added
  entry_total count a n =
      let e = entries (λ k. is_same (inode_type tree ino k) a && (0 == n && nat_lt n 9)) in
      let t = typed (λ k. is_same (inode_type tree ino k) a && (1 == n && nat_lt n 9)) in
      let m = some_more (is_same (inode_type tree ino sort) a && (0 == n && nat_lt n 9)) old.entries count in
      tail_more _ _ _ _ _ _ _ _ _ _ _ _ _ _ (omega (arith, e, t, m))

  pub typed_total : (a : Account) (n : ℕ)
      → total_of (gathered_postings tree ino (record { bytes = old.bytes; counts = old.counts; entries = old.entries; typed = old.typed + 1; sort = sort })) a n
      ≡ total_of (gathered_postings tree ino old) a n + total_of (to (inode_type tree ino sort) 1 1 ∷ []) a n
  unfolding total_of added
  typed_total a n =
      let e = entries (λ k. is_same (inode_type tree ino k) a && (0 == n && nat_lt n 9)) in
      let t = typed (λ k. is_same (inode_type tree ino k) a && (1 == n && nat_lt n 9)) in
      let m = some_more (is_same (inode_type tree ino sort) a && (1 == n && nat_lt n 9)) old.typed 1 in
      tail_more _ _ _ _ _ _ _ _ _ _ _ _ _ _ (omega (arith, e, t, m))

both_totals : (tree ino sort count : ℕ) (a : Account) (n : ℕ) → total_of (to (inode tree ino) 1 count ∷ to (inode_type tree ino sort) 0 count ∷ []) a n
    ≡ total_of (to (inode tree ino) 1 count ∷ []) a n + total_of (to (inode_type tree ino sort) 0 count ∷ []) a n
unfolding total_of
both_totals tree ino sort count a n = omega arith

-- so many entries more lead to an inode
pub targeted_kept : (tree ino sort count : ℕ) (old new : Gathered) → MovesTo old.entries old.sort sort → MovesTo old.typed old.sort sort → IsTargeted old sort count new → (a : Account)
    → kept a.kind (total_of (gathered_postings tree ino new) a)
    ≡ kept a.kind (λ n. total_of (gathered_postings tree ino old) a n + total_of (to (inode tree ino) 1 count ∷ to (inode_type tree ino sort) 0 count ∷ []) a n)
targeted_kept tree ino sort count old new entries typed is a =
    let mid : Gathered = record { bytes = new.bytes; counts = new.counts; entries = old.entries; typed = old.typed; sort = old.sort } in
    let end : new ≡ record { bytes = mid.bytes; counts = mid.counts; entries = mid.entries + count; typed = mid.typed; sort = sort } =
    λ i. record { bytes = new.bytes; counts = new.counts; entries = is.types.1 i; typed = is.types.2 i; sort = is.types.0 i } in
    let y : ℕ → ℕ = total_of (to (inode_type tree ino sort) 0 count ∷ []) a in
    ap (λ (m : Gathered). kept a.kind (total_of (gathered_postings tree ino m) a)) end
    ∙ ap (kept a.kind) (fun_ext (entry_total tree ino sort mid entries typed count a))
    ∙ more_alike a.kind (total_of (gathered_postings tree ino mid) a)
    (λ n. total_of (gathered_postings tree ino old) a n + total_of (to (inode tree ino) 1 count ∷ []) a n) y
    (raised_kept tree ino old mid 1 count is.sums (refl, refl, refl) a)
    ∙ ap (kept a.kind) (fun_ext (λ n. (let b = both_totals tree ino sort count a n in let
    e : (total_of (gathered_postings tree ino old) a n + total_of (to (inode tree ino) 1 count ∷ []) a n) + y n
    ≡ total_of (gathered_postings tree ino old) a n + total_of (to (inode tree ino) 1 count ∷ to (inode_type tree ino sort) 0 count ∷ []) a n = omega (arith, b) in e)))

-- ---- accounts of other kinds

pub none_of_others : (tree ino : ℕ) (more : Gathered) (a : Account) → is_of_inodes a.kind ≡ false → (n : ℕ) → total_of (gathered_postings tree ino more) a n ≡ 0
none_of_others tree ino more a other n =
    let is = neither_kind (a.kind == 9) (a.kind == 10) other in
    none_at tree ino more a (no_inode tree ino a is.0) (no_type tree ino more.sort a is.1) n
