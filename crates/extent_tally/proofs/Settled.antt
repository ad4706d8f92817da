-- Classes that are posted, or stay out since they keep their rules.
use Rattle.std.proofs.Common.{◌≡◌, ℕ, ◌+◌, ◌-◌, ◌<◌, ◌≤◌, min, drop, get_or, length, add-one, ◌==◌, ◌&&◌, Bool, true, false, not, cond, List, [], ◌∷◌, refl, ap, sym, ◌∙◌, subst, arith}
use Rattle.std.specs.Prelude.{nat_lt}
use Rattle.std.specs.BTreeMap.{get}
use Rattle.std.proofs.Math.Path.{fun_ext}
use Rattle.std.proofs.Math.Bool.{or-true}
use Rattle.std.proofs.Math.Seq.{drop-cons}
use Rattle.std.proofs.lemmas.Bool.{eqb-true, le-leb, ne_eqb}
use Rattle.std.proofs.lemmas.List.{drop_all}
use Rattle.std.proofs.lemmas.List.Sums.{sum_by-cons}
use Rattle.accounts.specs.declared.account.Account.{Account}
use Rattle.accounts.specs.Apart.{IsSettled}
use Rattle.accounts.specs.Broken.{is_broken}
use Rattle.accounts.specs.Order.{account_cmp}
use Rattle.accounts.specs.Kinds.{block_ref, data_ref, extent, extent_form}
use Rattle.accounts.specs.Sums.{is_same, total_of}
use Rattle.accounts.specs.Tally.{Sums, extent_class, form_class, kept, kept_sums, no_sums, sums_at, sums_in, with_postings}
use Rattle.accounts.specs.declared.tally.Tally.{Tally}
use Rattle.accounts.proofs.Apart.{more_alike}
use Rattle.accounts.proofs.First.{broken_kept, unposted}
use Rattle.accounts.proofs.Kept.{kept_more}
use Rattle.accounts.proofs.Same.{same_account}
use Rattle.extent_tally.specs.declared.class.ExtentClass.{ExtentClass}
use Rattle.extent_tally.specs.declared.tally.ExtentTally.{ExtentTally}
use Rattle.extent_tally.specs.Gains.{AreAbove, AreApart, KeepsAll}
use Rattle.extent_tally.specs.Held.{class_postings, class_sums, extents_apart, is_of_extents, sums_of, user_account}
use Rattle.extent_tally.proofs.Parts.{alike, elsewhere, extent_kept, extent_part, extent_sum, form_kept, form_part, parts, user_kept, user_part, user_sum}
use Rattle.verdict.proofs.Numbers.{itself}

-- what is broken rests on what is kept
broken_alike : (a : Account) (f g : ℕ → ℕ) → kept a.kind f ≡ kept a.kind g → is_broken a f ≡ is_broken a g
broken_alike a f g same = sym (broken_kept a f) ∙ ap (is_broken a) same ∙ broken_kept a g

-- ---- accounts of which a class says nothing

not_same : (f : Account → Bool) (x a : Account) → f x ≡ true → f a ≡ false → is_same x a ≡ false
not_same f x a here there =
    elim (is_same x a) as (λ b. is_same x a ≡ b → b ≡ false)
    [ true ↦ λ is. absurd (cc (here, there, ap f (same_account x a is))) | false ↦ λ is. refl ] refl

none_of : (class : ExtentClass) (a : Account) → is_same (extent class.address) a ≡ false → is_same (extent_form class.address class.sort class.form) a ≡ false
    → is_same (user_account class) a ≡ false → (n : ℕ) → class_sums class a n ≡ 0
none_of class a first second third n =
    let x = elsewhere (extent class.address) (extent_part class) (refl, (refl, (refl, tt))) a first n in
    let y = elsewhere (extent_form class.address class.sort class.form) (form_part class) (refl, (refl, tt)) a second n in
    let z = elsewhere (user_account class) (user_part class) (refl, (refl, tt)) a third n in
    parts class a n ∙ (λ i. x i + (y i + z i))

user_tests : (f : Account → Bool) (b : Bool) (address root ino origin : ℕ) → f (block_ref root address) ≡ true → f (data_ref root address ino origin) ≡ true
    → f (cond b (block_ref root address) (data_ref root address ino origin)) ≡ true
user_tests f true address root ino origin first second = first
user_tests f false address root ino origin first second = second

of_other_kind : (class : ExtentClass) (a : Account) → is_of_extents a.kind ≡ false → (n : ℕ) → class_sums class a n ≡ 0
of_other_kind class a other =
    let f : Account → Bool = λ x. is_of_extents x.kind in
    none_of class a (not_same f (extent class.address) a refl other) (not_same f (extent_form class.address class.sort class.form) a refl other)
    (not_same f (user_account class) a (user_tests f (class.sort == 169) class.address class.root class.ino class.origin refl refl) other)

of_other_block : (class : ExtentClass) (a : Account) → (a.block == class.address) ≡ false → (n : ℕ) → class_sums class a n ≡ 0
of_other_block class a other =
    let f : Account → Bool = λ x. x.block == class.address in
    let own = itself class.address in
    none_of class a (not_same f (extent class.address) a own other) (not_same f (extent_form class.address class.sort class.form) a own other)
    (not_same f (user_account class) a (user_tests f (class.sort == 169) class.address class.root class.ino class.origin own own) other)

sums_cons : (class : ExtentClass) (es : List ExtentClass) (a : Account) (n : ℕ) → sums_of (class ∷ es) a n ≡ class_sums class a n + sums_of es a n
sums_cons class es a n = sum_by-cons (λ c. class_sums c a n) class es

none_in : (es : List ExtentClass) (a : Account) → is_of_extents a.kind ≡ false → (n : ℕ) → sums_of es a n ≡ 0
none_in [] a other n = refl
none_in (class ∷ es) a other n = let x = sums_cons class es a n in let y = of_other_kind class a other n in let z = none_in es a other n in omega (arith, x, y, z)

-- accounts of other kinds have nothing kept apart
pub apart_none : (tally : ExtentTally) (a : Account) (n : ℕ) → is_of_extents a.kind ≡ false → extents_apart tally a n ≡ 0
unfolding extents_apart
apart_none tally a n other = none_in tally.list.items a other n

-- ---- each address is above those before it

abbrev pub Rises : ℕ → List ExtentClass → Type 0
Rises low [] = Unit {0}
Rises low (class ∷ es) = (low ≤ class.address) × Rises (class.address + 1) es

rises_above : (low high : ℕ) (es : List ExtentClass) → low < high → Rises high es → AreAbove low es
rises_above low high [] less all = tt
rises_above low high (class ∷ es) less all = (omega (arith, all.0), rises_above low (class.address + 1) es (omega (arith, all.0)) all.1)

pub rises_apart : (low : ℕ) (es : List ExtentClass) → Rises low es → AreApart es
rises_apart low [] all = tt
rises_apart low (class ∷ es) all = (rises_above class.address (class.address + 1) es (omega arith) all.1, rises_apart (class.address + 1) es all.1)

none_above : (es : List ExtentClass) (low : ℕ) (a : Account) → AreAbove low es → a.block ≡ low → (n : ℕ) → sums_of es a n ≡ 0
none_above [] low a all is n = refl
none_above (class ∷ es) low a all is n =
    let x = sums_cons class es a n in
    let y = of_other_block class a (ne_eqb a.block class.address (λ same. omega (arith, all.0, is, same))) n in
    let z = none_above es low a all.1 is n in
    omega (arith, x, y, z)

-- ---- a class that keeps the rules

module _ (class : ExtentClass) (keeps : KeepsAll class) where
  links : ℕ → ℕ
  links n = cond (n == 0) 1 class.linked

  extent_here : (n : ℕ) → class_sums class (extent class.address) n ≡ total_of (extent_part class) (extent class.address) n
  extent_here n =
      let x = extent class.address in
      let kind : Account → Bool = λ a. not (a.kind == 3) in
      let y = elsewhere (extent_form class.address class.sort class.form) (form_part class) (refl, (refl, tt)) x (not_same kind (extent_form class.address class.sort class.form) x refl refl) n in
      let z = elsewhere (user_account class) (user_part class) (refl, (refl, tt)) x
      (not_same kind (user_account class) x (user_tests kind (class.sort == 169) class.address class.root class.ino class.origin refl refl) refl) n in
      let p = parts class x n in
      omega (arith, p, y, z)

  extent_unbroken : is_broken (extent class.address) (class_sums class (extent class.address)) ≡ false
  unfolding is_broken links
  extent_unbroken =
      let x = extent class.address in
      let f : ℕ → ℕ = class_sums class x in
      let f0 : f 0 ≡ 1 = extent_here 0 ∙ extent_sum class 0 in
      let f1 : f 1 ≡ class.linked = extent_here 1 ∙ extent_sum class 1 ∙ (let all = keeps.all in let e : 0 + ((class.linked + class.lacks) + (0 + 0)) ≡ class.linked = omega (arith, all) in e) in
      let f2 : f 2 ≡ class.linked = extent_here 2 ∙ extent_sum class 2 ∙ (let e : 0 + (0 + (class.linked + 0)) ≡ class.linked = omega arith in e) in
      let same : extent_class f ≡ extent_class links =
      (λ i n. cond (n == 0) (min (f0 i) 2) (cond (n == 1) ((f1 i - f2 i) + min 1 (min (f1 i) (f2 i))) (cond (n == 2) ((f2 i - f1 i) + min 1 (min (f1 i) (f2 i))) 0))) in
      let some = keeps.some in
      broken_alike x f links (extent_kept x f links refl same)
      ∙ (λ i. not (true && ((itself class.linked i && le-leb 1 class.linked (omega (arith, some)) i) && true)))

  form_here : (n : ℕ) → class_sums class (extent_form class.address class.sort class.form) n ≡ total_of (form_part class) (extent_form class.address class.sort class.form) n
  form_here n =
      let x = extent_form class.address class.sort class.form in
      let kind : Account → Bool = λ a. not (a.kind == 4) in
      let y = elsewhere (extent class.address) (extent_part class) (refl, (refl, (refl, tt))) x (not_same kind (extent class.address) x refl refl) n in
      let z = elsewhere (user_account class) (user_part class) (refl, (refl, tt)) x
      (not_same kind (user_account class) x (user_tests kind (class.sort == 169) class.address class.root class.ino class.origin refl refl) refl) n in
      let p = parts class x n in
      omega (arith, p, y, z)

  shows : ℕ → ℕ
  shows n = cond (n == 0) 1 class.shown

  form_unbroken : is_broken (extent_form class.address class.sort class.form) (class_sums class (extent_form class.address class.sort class.form)) ≡ false
  unfolding is_broken shows
  form_unbroken =
      let x = extent_form class.address class.sort class.form in
      let f : ℕ → ℕ = class_sums class x in
      let f0 : f 0 ≡ 1 = form_here 0 ∙ user_sum x 1 class.shown 0 in
      let f1 : f 1 ≡ class.shown = form_here 1 ∙ user_sum x 1 class.shown 1 ∙ (let e : 0 + (class.shown + 0) ≡ class.shown = omega arith in e) in
      let same : form_class f ≡ form_class shows = (λ i n. cond (n == 0) (min (f0 i) 1) (cond (n == 1) (min (f1 i) 1) 0)) in
      broken_alike x f shows (form_kept x f shows refl same)
      ∙ ap not (or-true (not (nat_lt 0 class.shown)))

  user_even : (a : Account) → kept a.kind (total_of (user_part class) a) ≡ kept a.kind (total_of [] a)
  unfolding total_of
  user_even a =
      let x = user_account class in
      let f : ℕ → ℕ = total_of (user_part class) x in
      let f0 : f 0 ≡ class.given = user_sum x class.given class.used 0 ∙ (let e : class.given + (0 + 0) ≡ class.given = omega arith in e) in
      let f1 : f 1 ≡ class.used = user_sum x class.given class.used 1 ∙ (let e : 0 + (class.used + 0) ≡ class.used = omega arith in e) in
      let even = keeps.even in
      let first : f 0 - f 1 ≡ 0 = omega (arith, f0, f1, even) in
      let second : f 1 - f 0 ≡ 0 = omega (arith, f0, f1, even) in
      alike x (user_part class) [] (refl, (refl, tt)) tt (user_kept class f (total_of [] x) first second) a

  zero_front : (x : ℕ → ℕ) (f : ℕ → ℕ) → f ≡ (λ _. 0) → (λ n. f n + x n) ≡ x
  zero_front x f none = fun_ext (λ n. (let z : f n ≡ 0 = ap (λ (g : ℕ → ℕ). g n) none in let e : f n + x n ≡ x n = omega (arith, z) in e))

  unbroken_both : (rest : Sums) (a : Account) → is_broken a (class_sums class a) ≡ false → rest a ≡ no_sums a → is_broken a (λ n. rest a n + class_sums class a n) ≡ is_broken a (rest a)
  unbroken_both rest a unbroken none =
      ap (is_broken a) (zero_front (class_sums class a) (rest a) none) ∙ unbroken ∙ sym (unposted a) ∙ ap (is_broken a) (sym none)

  user_case : (rest : Sums) (a : Account) → is_same (extent class.address) a ≡ false → is_same (extent_form class.address class.sort class.form) a ≡ false
      → is_broken a (λ n. rest a n + class_sums class a n) ≡ is_broken a (rest a)
  unfolding total_of
  user_case rest a first second =
      let user : ℕ → ℕ = total_of (user_part class) a in
      let here : (n : ℕ) → class_sums class a n ≡ user n =
      (λ n. (let x = elsewhere (extent class.address) (extent_part class) (refl, (refl, (refl, tt))) a first n in
      let y = elsewhere (extent_form class.address class.sort class.form) (form_part class) (refl, (refl, tt)) a second n in
      let p = parts class a n in
      let e : class_sums class a n ≡ user n = omega (arith, p, x, y) in e)) in
      broken_alike a (λ n. rest a n + class_sums class a n) (rest a)
      (ap (kept a.kind) (fun_ext (λ n. (let h = here n in let e : rest a n + class_sums class a n ≡ user n + rest a n = omega (arith, h) in e)))
      ∙ more_alike a.kind user (total_of [] a) (rest a) (user_even a)
      ∙ ap (kept a.kind) (fun_ext (λ n. (let e : 0 + rest a n ≡ rest a n = omega arith in e))))

  form_case : (rest : Sums) → rest (extent_form class.address class.sort class.form) ≡ no_sums (extent_form class.address class.sort class.form) → (b : Bool) (a : Account)
      → is_same (extent class.address) a ≡ false → is_same (extent_form class.address class.sort class.form) a ≡ b → is_broken a (λ n. rest a n + class_sums class a n) ≡ is_broken a (rest a)
  form_case rest none true a other same =
      subst (λ (x : Account). is_broken x (λ n. rest x n + class_sums class x n) ≡ is_broken x (rest x)) (same_account (extent_form class.address class.sort class.form) a same)
      (unbroken_both rest (extent_form class.address class.sort class.form) form_unbroken none)
  form_case rest none false a first second = user_case rest a first second

  extent_case : (rest : Sums) → rest (extent class.address) ≡ no_sums (extent class.address) → rest (extent_form class.address class.sort class.form) ≡ no_sums (extent_form class.address class.sort class.form)
      → (b : Bool) (a : Account) → is_same (extent class.address) a ≡ b → is_broken a (λ n. rest a n + class_sums class a n) ≡ is_broken a (rest a)
  extent_case rest none form true a same =
      subst (λ (x : Account). is_broken x (λ n. rest x n + class_sums class x n) ≡ is_broken x (rest x)) (same_account (extent class.address) a same)
      (unbroken_both rest (extent class.address) extent_unbroken none)
  extent_case rest none form false a other = form_case rest form (is_same (extent_form class.address class.sort class.form) a) a other refl

  pub outside : (rest : Sums) → rest (extent class.address) ≡ no_sums (extent class.address) → rest (extent_form class.address class.sort class.form) ≡ no_sums (extent_form class.address class.sort class.form)
      → (a : Account) → is_broken a (λ n. rest a n + class_sums class a n) ≡ is_broken a (rest a)
  outside rest none form a = extent_case rest none form (is_same (extent class.address) a) a refl

-- ---- the classes that are left

-- the first stays out
pub skipped_class : (class : ExtentClass) (es : List ExtentClass) (rest : Sums) → AreApart (class ∷ es)
    → ((a : Account) → is_broken a (λ n. rest a n + class_sums class a n) ≡ is_broken a (rest a))
    → (a : Account) → is_broken a (λ n. rest a n + sums_of es a n) ≡ is_broken a (λ n. rest a n + sums_of (class ∷ es) a n)
skipped_class class es rest apart out a =
    elim (a.block == class.address) as (λ b. (a.block == class.address) ≡ b → is_broken a (λ n. rest a n + sums_of es a n) ≡ is_broken a (λ n. rest a n + sums_of (class ∷ es) a n)) [
      | true ↦ λ is.
          ap (is_broken a) (fun_ext (λ n. (let z = none_above es class.address a apart.0 (eqb-true a.block class.address is) n in let e : rest a n + sums_of es a n ≡ rest a n = omega (arith, z) in e)))
          ∙ sym (out a)
          ∙ ap (is_broken a) (fun_ext (λ n. (let z = none_above es class.address a apart.0 (eqb-true a.block class.address is) n in let s = sums_cons class es a n in
          let e : rest a n + class_sums class a n ≡ rest a n + sums_of (class ∷ es) a n = omega (arith, z, s) in e)))
      | false ↦ λ is. ap (is_broken a) (fun_ext (λ n. (let z = of_other_block class a is n in let s = sums_cons class es a n in
          let e : rest a n + sums_of es a n ≡ rest a n + sums_of (class ∷ es) a n = omega (arith, z, s) in e)))
    ] refl

-- the first is posted
pub posted_class : (class : ExtentClass) (es : List ExtentClass) (rest next : Sums) → next ≡ with_postings rest (class_postings class)
    → (a : Account) → is_broken a (λ n. next a n + sums_of es a n) ≡ is_broken a (λ n. rest a n + sums_of (class ∷ es) a n)
unfolding with_postings
posted_class class es rest next is a =
    broken_alike a (λ n. next a n + sums_of es a n) (λ n. rest a n + sums_of (class ∷ es) a n)
    (ap (λ (s : Sums). kept a.kind (λ n. s a n + sums_of es a n)) is
    ∙ kept_more a.kind (λ n. rest a n + class_sums class a n) (sums_of es a)
    ∙ ap (kept a.kind) (fun_ext (λ n. (let s = sums_cons class es a n in
    let e : (rest a n + class_sums class a n) + sums_of es a n ≡ rest a n + sums_of (class ∷ es) a n = omega (arith, s) in e))))

-- what a tally keeps is kept again
kept_again : (kind : ℕ) (f x : ℕ → ℕ) → ((n : ℕ) → x n ≡ 0) → kept kind (λ n. kept kind f n + x n) ≡ kept kind f
kept_again kind f x none = kept_more kind f x ∙ ap (kept kind) (fun_ext (λ n. (let z = none n in let e : f n + x n ≡ f n = omega (arith, z) in e)))

pub others_stay : (class : ExtentClass) (old new : Tally) → sums_in new ≡ with_postings (sums_in old) (class_postings class) → (a : Account) → is_of_extents a.kind ≡ false
    → sums_in new a ≡ sums_in old a
unfolding with_postings kept_sums
others_stay class old new is a other =
    ap (λ (s : Sums). s a) is ∙ kept_again a.kind (sums_at (get account_cmp old.entries a)) (class_sums class a) (of_other_kind class a other)

-- ---- the classes of a list from a place on

abbrev pub no_class : ExtentClass
no_class = record { address = 0; form = 0; ino = 0; origin = 0; root = 0; given = 0; used = 0; lacks = 0; sort = 0; linked = 0; shown = 0 }

pub first_left : (es : List ExtentClass) (i : ℕ) → i < length es → drop i es ≡ get_or es i no_class ∷ drop (i + 1) es
first_left es i within = rw (add-one, drop-cons es i no_class)

-- all that is kept apart went to the tally
pub all_settled : (es : List ExtentClass) (i : ℕ) (old new : Tally) → length es ≤ i
    → ((a : Account) → is_broken a (λ n. sums_in new a n + sums_of (drop i es) a n) ≡ is_broken a (λ n. sums_in old a n + sums_of es a n))
    → ((a : Account) → is_of_extents a.kind ≡ false → sums_in new a ≡ sums_in old a)
    → IsSettled (sums_of es) is_of_extents old new
all_settled es i old new all broken others = record {
  broken = λ a.
      ap (is_broken a) (fun_ext (λ n. (let
      z : sums_of (drop i es) a n ≡ 0 = ap (λ l. sums_of l a n) (drop_all i es all) in let
      e : sums_in new a n ≡ sums_in new a n + sums_of (drop i es) a n = omega (arith, z) in e)))
      ∙ broken a;
  others = others;
}
