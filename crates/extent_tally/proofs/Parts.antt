-- The three parts of a class, the extent, its form and its user, and classes that gain amounts.
use Rattle.std.proofs.Common.{◌≡◌, ℕ, ◌+◌, ◌-◌, min, ◌==◌, ◌&&◌, Bool, true, false, cond, List, [], ◌∷◌, ◌++◌, refl, ap, sym, ◌∙◌, subst, arith}
use Rattle.std.specs.Prelude.{nat_lt}
use Rattle.std.proofs.Math.Path.{fun_ext}
use Rattle.accounts.specs.declared.account.Account.{Account}
use Rattle.accounts.specs.declared.postings.Posting.{Posting}
use Rattle.accounts.specs.Kinds.{block_ref, data_ref, extent, extent_form, balances}
use Rattle.accounts.specs.OrderLaws.{account_equiv}
use Rattle.accounts.specs.Sums.{added, is_same, total_of}
use Rattle.accounts.specs.Tally.{Sums, extent_class, form_class, kept}
use Rattle.accounts.proofs.Apart.{more_alike}
use Rattle.accounts.proofs.Kept.{balanced_kept, total_joined}
use Rattle.accounts.proofs.Same.{same_account}
use Rattle.accounts.specs.Lent.{to}
use Rattle.extent_tally.specs.declared.class.ExtentClass.{ExtentClass}
use Rattle.extent_tally.specs.Held.{class_sums, user_account}
use Rattle.extent_tally.specs.Gains.{Gains, IsMore, IsOfUser, use_postings, with_user}

-- ---- postings to one account

abbrev pub AllTo : Account → List Posting → Type 0
AllTo x [] = Unit {0}
AllTo x (p ∷ ps) = (p.account ≡ x) × AllTo x ps

none_added : (p : Posting) (a : Account) (n : ℕ) → is_same p.account a ≡ false → added p a n ≡ 0
unfolding added
none_added p a n other = ap (λ b. cond (b && (p.field == n && nat_lt n 9)) p.amount 0) other

pub elsewhere : (x : Account) (ps : List Posting) → AllTo x ps → (a : Account) → is_same x a ≡ false → (n : ℕ) → total_of ps a n ≡ 0
unfolding total_of
elsewhere x [] all a other n = refl
elsewhere x (p ∷ ps) all a other n =
    let here : added p a n ≡ 0 = none_added p a n (ap (λ y. is_same y a) all.0 ∙ other) in
    let later : total_of ps a n ≡ 0 = elsewhere x ps all.1 a other n in
    (λ i. here i + later i)

alike_case : (x : Account) (ps qs : List Posting) → AllTo x ps → AllTo x qs → kept x.kind (total_of ps x) ≡ kept x.kind (total_of qs x)
    → (b : Bool) (a : Account) → is_same x a ≡ b → kept a.kind (total_of ps a) ≡ kept a.kind (total_of qs a)
alike_case x ps qs first second here true a same = subst (λ (y : Account). kept y.kind (total_of ps y) ≡ kept y.kind (total_of qs y)) (same_account x a same) here
alike_case x ps qs first second here false a other = ap (kept a.kind) (fun_ext (λ n. elsewhere x ps first a other n ∙ sym (elsewhere x qs second a other n)))

-- postings to one account that are alike there are alike everywhere
pub alike : (x : Account) (ps qs : List Posting) → AllTo x ps → AllTo x qs → kept x.kind (total_of ps x) ≡ kept x.kind (total_of qs x)
    → (a : Account) → kept a.kind (total_of ps a) ≡ kept a.kind (total_of qs a)
alike x ps qs first second here a = alike_case x ps qs first second here (is_same x a) a refl

-- what a posting adds to its own account
pub at_own : (x : Account) (field amount n : ℕ) → added (to x field amount) x n ≡ cond (field == n && nat_lt n 9) amount 0
unfolding added
at_own x field amount n = ap (λ b. cond (b && (field == n && nat_lt n 9)) amount 0) (account_equiv.refl x)

-- ---- the parts

abbrev pub extent_part : ExtentClass → List Posting
extent_part class = to (extent class.address) 0 1 ∷ to (extent class.address) 1 (class.linked + class.lacks) ∷ to (extent class.address) 2 class.linked ∷ []

abbrev pub form_part : ExtentClass → List Posting
form_part class = to (extent_form class.address class.sort class.form) 0 1 ∷ to (extent_form class.address class.sort class.form) 1 class.shown ∷ []

abbrev pub user_part : ExtentClass → List Posting
user_part class = to (user_account class) 0 class.given ∷ to (user_account class) 1 class.used ∷ []

pub parts : (class : ExtentClass) (a : Account) (n : ℕ) → class_sums class a n ≡ total_of (extent_part class) a n + (total_of (form_part class) a n + total_of (user_part class) a n)
parts class a n =
    total_joined (extent_part class) (form_part class ++ user_part class) a n
    ∙ ap (λ k. total_of (extent_part class) a n + k) (total_joined (form_part class) (user_part class) a n)

-- ---- a part gains

-- what of a part alone is alike
abbrev PartGains : List Posting → List Posting → List Posting → Type 0
PartGains old new given = (a : Account) → kept a.kind (total_of new a) ≡ kept a.kind (total_of (old ++ given) a)

part_more : (old new given : List Posting) → PartGains old new given → (a : Account) → kept a.kind (total_of new a) ≡ kept a.kind (λ n. total_of old a n + total_of given a n)
part_more old new given is a = is a ∙ ap (kept a.kind) (fun_ext (λ n. total_joined old given a n))

with_rest : (a : Account) (new old given rest : ℕ → ℕ) → kept a.kind new ≡ kept a.kind (λ n. old n + given n)
    → kept a.kind (λ n. new n + rest n) ≡ kept a.kind (λ n. (old n + rest n) + given n)
with_rest a new old given rest is =
    more_alike a.kind new (λ n. old n + given n) rest is
    ∙ ap (kept a.kind) (fun_ext (λ n. (let e : (old n + given n) + rest n ≡ (old n + rest n) + given n = omega arith in e)))

-- the sums of two classes that differ in one part, by what is left beside
from_part : (old new : ExtentClass) (x y given : List Posting) (rest : Sums)
    → ((a : Account) (n : ℕ) → class_sums old a n ≡ total_of x a n + rest a n)
    → ((a : Account) (n : ℕ) → class_sums new a n ≡ total_of y a n + rest a n)
    → PartGains x y given → IsMore (class_sums old) (class_sums new) given
from_part old new x y given rest before after is = record {
  alike = λ a.
      ap (kept a.kind) (fun_ext (after a))
      ∙ with_rest a (total_of y a) (total_of x a) (total_of given a) (rest a) (part_more x y given is a)
      ∙ ap (kept a.kind) (fun_ext (λ n. ap (λ k. k + total_of given a n) (sym (before a n))));
}

abbrev beside_extent : ExtentClass → Sums
beside_extent class a n = total_of (form_part class) a n + total_of (user_part class) a n

abbrev beside_form : ExtentClass → Sums
beside_form class a n = total_of (extent_part class) a n + total_of (user_part class) a n

abbrev beside_user : ExtentClass → Sums
beside_user class a n = total_of (extent_part class) a n + total_of (form_part class) a n

by_form : (class : ExtentClass) (a : Account) (n : ℕ) → class_sums class a n ≡ total_of (form_part class) a n + beside_form class a n
by_form class a n = let p = parts class a n in omega (arith, p)

by_user : (class : ExtentClass) (a : Account) (n : ℕ) → class_sums class a n ≡ total_of (user_part class) a n + beside_user class a n
by_user class a n = let p = parts class a n in omega (arith, p)

-- ---- references more

three_alike : (f g : ℕ → ℕ) → min (f 0) 2 ≡ min (g 0) 2
    → (f 1 - f 2) + min 1 (min (f 1) (f 2)) ≡ (g 1 - g 2) + min 1 (min (g 1) (g 2))
    → (f 2 - f 1) + min 1 (min (f 1) (f 2)) ≡ (g 2 - g 1) + min 1 (min (g 1) (g 2)) → extent_class f ≡ extent_class g
three_alike f g e0 e1 e2 = λ i n. cond (n == 0) (e0 i) (cond (n == 1) (e1 i) (cond (n == 2) (e2 i) 0))

pub extent_kept : (x : Account) (f g : ℕ → ℕ) → x.kind ≡ 3 → extent_class f ≡ extent_class g → kept x.kind f ≡ kept x.kind g
unfolding kept
extent_kept x f g is same = subst (λ k. kept k f ≡ kept k g) (sym is) same

-- the first three sums of an extent's part with references more
abbrev with_listed : ExtentClass → ℕ → List Posting
with_listed class count = extent_part class ++ to (extent class.address) 2 count ∷ []

first_sum : (class : ExtentClass) (count n : ℕ) → total_of (with_listed class count) (extent class.address) n
    ≡ cond (0 == n && nat_lt n 9) 1 0 + (cond (1 == n && nat_lt n 9) (class.linked + class.lacks) 0 + (cond (2 == n && nat_lt n 9) class.linked 0 + (cond (2 == n && nat_lt n 9) count 0 + 0)))
unfolding total_of
first_sum class count n =
    let x = extent class.address in
    λ i. at_own x 0 1 n i + (at_own x 1 (class.linked + class.lacks) n i + (at_own x 2 class.linked n i + (at_own x 2 count n i + 0)))

pub extent_sum : (class : ExtentClass) (n : ℕ) → total_of (extent_part class) (extent class.address) n
    ≡ cond (0 == n && nat_lt n 9) 1 0 + (cond (1 == n && nat_lt n 9) (class.linked + class.lacks) 0 + (cond (2 == n && nat_lt n 9) class.linked 0 + 0))
unfolding total_of
extent_sum class n =
    let x = extent class.address in
    λ i. at_own x 0 1 n i + (at_own x 1 (class.linked + class.lacks) n i + (at_own x 2 class.linked n i + 0))

-- a class with other references
abbrev pub with_links : ExtentClass → ℕ → ℕ → ExtentClass
with_links class linked lacks = record {
  address = class.address;
  form = class.form;
  ino = class.ino;
  origin = class.origin;
  root = class.root;
  given = class.given;
  used = class.used;
  lacks = lacks;
  sort = class.sort;
  linked = linked;
  shown = class.shown;
}

listed_part : (class : ExtentClass) (linked lacks count : ℕ)
    → lacks + min 1 linked ≡ ((class.linked + class.lacks) - (class.linked + count)) + min 1 (min (class.linked + class.lacks) (class.linked + count))
    → min 1 linked ≡ ((class.linked + count) - (class.linked + class.lacks)) + min 1 (min (class.linked + class.lacks) (class.linked + count))
    → PartGains (extent_part class) (extent_part (with_links class linked lacks)) (to (extent class.address) 2 count ∷ [])
listed_part class linked lacks count more less =
    let new = with_links class linked lacks in
    let x = extent class.address in
    let f : ℕ → ℕ = total_of (extent_part new) x in
    let g : ℕ → ℕ = total_of (with_listed class count) x in
    let f0 : f 0 ≡ 1 = extent_sum new 0 in
    let f1 : f 1 ≡ linked + lacks = extent_sum new 1 ∙ (let e : 0 + ((linked + lacks) + (0 + 0)) ≡ linked + lacks = omega arith in e) in
    let f2 : f 2 ≡ linked = extent_sum new 2 ∙ (let e : 0 + (0 + (linked + 0)) ≡ linked = omega arith in e) in
    let g0 : g 0 ≡ 1 = first_sum class count 0 in
    let g1 : g 1 ≡ class.linked + class.lacks = first_sum class count 1 ∙ (let e : 0 + ((class.linked + class.lacks) + (0 + (0 + 0))) ≡ class.linked + class.lacks = omega arith in e) in
    let g2 : g 2 ≡ class.linked + count = first_sum class count 2 ∙ (let e : 0 + (0 + (class.linked + (count + 0))) ≡ class.linked + count = omega arith in e) in
    let u : ((linked + lacks) - linked) + min 1 (min (linked + lacks) linked) ≡ lacks + min 1 linked = omega arith in
    let v : (linked - (linked + lacks)) + min 1 (min (linked + lacks) linked) ≡ min 1 linked = omega arith in
    let e1 = (λ i. (f1 i - f2 i) + min 1 (min (f1 i) (f2 i))) ∙ u ∙ more ∙ sym (λ i. (g1 i - g2 i) + min 1 (min (g1 i) (g2 i))) in
    let e2 = (λ i. (f2 i - f1 i) + min 1 (min (f1 i) (f2 i))) ∙ v ∙ less ∙ sym (λ i. (g2 i - g1 i) + min 1 (min (g1 i) (g2 i))) in
    alike x (extent_part new) (with_listed class count) (refl, (refl, (refl, tt))) (refl, (refl, (refl, (refl, tt))))
    (extent_kept x f g refl (three_alike f g (ap (λ k. min k 2) (f0 ∙ sym g0)) e1 e2))

pub gains_listed : (class : ExtentClass) (linked lacks count : ℕ)
    → lacks + min 1 linked ≡ ((class.linked + class.lacks) - (class.linked + count)) + min 1 (min (class.linked + class.lacks) (class.linked + count))
    → min 1 linked ≡ ((class.linked + count) - (class.linked + class.lacks)) + min 1 (min (class.linked + class.lacks) (class.linked + count))
    → Gains class (with_links class linked lacks) (to (extent class.address) 2 count ∷ [])
gains_listed class linked lacks count more less = record {
  address = refl;
  sums = from_part class (with_links class linked lacks) (extent_part class) (extent_part (with_links class linked lacks)) (to (extent class.address) 2 count ∷ [])
      (beside_extent class) (parts class) (parts (with_links class linked lacks)) (listed_part class linked lacks count more less);
}

-- ---- a user more

-- a class with other amounts of its user, and of its form
abbrev pub with_uses : ExtentClass → ℕ → ℕ → ℕ → ExtentClass
with_uses class shown given used = record {
  address = class.address;
  form = class.form;
  ino = class.ino;
  origin = class.origin;
  root = class.root;
  given = given;
  used = used;
  lacks = class.lacks;
  sort = class.sort;
  linked = class.linked;
  shown = shown;
}

user_balances : (b : Bool) (address root ino origin : ℕ) → balances (cond b (block_ref root address) (data_ref root address ino origin)).kind ≡ true
user_balances true address root ino origin = refl
user_balances false address root ino origin = refl

pub user_kept : (class : ExtentClass) (f g : ℕ → ℕ) → f 0 - f 1 ≡ g 0 - g 1 → f 1 - f 0 ≡ g 1 - g 0 → kept (user_account class).kind f ≡ kept (user_account class).kind g
user_kept class f g first second =
    let on = user_balances (class.sort == 169) class.address class.root class.ino class.origin in
    balanced_kept (user_account class).kind f on ∙ (λ i n. cond (n == 0) (first i) (cond (n == 1) (second i) 0)) ∙ sym (balanced_kept (user_account class).kind g on)

pub user_sum : (x : Account) (given used n : ℕ) → total_of (to x 0 given ∷ to x 1 used ∷ []) x n ≡ cond (0 == n && nat_lt n 9) given 0 + (cond (1 == n && nat_lt n 9) used 0 + 0)
unfolding total_of
user_sum x given used n = λ i. at_own x 0 given n i + (at_own x 1 used n i + 0)

user_more : (x : Account) (given used field amount n : ℕ) → total_of (to x 0 given ∷ to x 1 used ∷ to x field amount ∷ []) x n
    ≡ cond (0 == n && nat_lt n 9) given 0 + (cond (1 == n && nat_lt n 9) used 0 + (cond (field == n && nat_lt n 9) amount 0 + 0))
unfolding total_of
user_more x given used field amount n = λ i. at_own x 0 given n i + (at_own x 1 used n i + (at_own x field amount n i + 0))

-- the amounts of the user with one more have the same difference
abbrev pub AreEven : ExtentClass → ℕ → ℕ → ℕ → ℕ → Type 0
AreEven class given used first second =
    (given - used ≡ (class.given + first) - (class.used + second)) × (used - given ≡ (class.used + second) - (class.given + first))

front : (b : Bool) (given amount : ℕ) → given + (0 + (cond (b && true) amount 0 + 0)) ≡ given + cond b amount 0
front true given amount = omega arith
front false given amount = omega arith

back : (b : Bool) (used amount : ℕ) → 0 + (used + (cond (b && true) amount 0 + 0)) ≡ used + cond b amount 0
back true used amount = omega arith
back false used amount = omega arith

user_gains : (class : ExtentClass) (shown given used field amount : ℕ)
    → AreEven class given used (cond (field == 0) amount 0) (cond (field == 1) amount 0)
    → PartGains (user_part class) (user_part (with_uses class shown given used)) (to (user_account class) field amount ∷ [])
user_gains class shown given used field amount even =
    let x = user_account class in
    let f : ℕ → ℕ = total_of (to x 0 given ∷ to x 1 used ∷ []) x in
    let g : ℕ → ℕ = total_of (to x 0 class.given ∷ to x 1 class.used ∷ to x field amount ∷ []) x in
    let a : ℕ = cond (field == 0) amount 0 in
    let b : ℕ = cond (field == 1) amount 0 in
    let f0 : f 0 ≡ given = user_sum x given used 0 ∙ (let e : given + (0 + 0) ≡ given = omega arith in e) in
    let f1 : f 1 ≡ used = user_sum x given used 1 ∙ (let e : 0 + (used + 0) ≡ used = omega arith in e) in
    let g0 : g 0 ≡ class.given + a = user_more x class.given class.used field amount 0 ∙ front (field == 0) class.given amount in
    let g1 : g 1 ≡ class.used + b = user_more x class.given class.used field amount 1 ∙ back (field == 1) class.used amount in
    alike x (to x 0 given ∷ to x 1 used ∷ []) (to x 0 class.given ∷ to x 1 class.used ∷ to x field amount ∷ []) (refl, (refl, tt)) (refl, (refl, (refl, tt)))
    (user_kept class f g ((λ i. f0 i - f1 i) ∙ even.0 ∙ sym (λ i. g0 i - g1 i)) ((λ i. f1 i - f0 i) ∙ even.1 ∙ sym (λ i. g1 i - g0 i)))

pub gains_user : (class : ExtentClass) (given used field amount : ℕ) → AreEven class given used (cond (field == 0) amount 0) (cond (field == 1) amount 0)
    → Gains class (with_uses class class.shown given used) (to (user_account class) field amount ∷ [])
gains_user class given used field amount even =
    let new = with_uses class class.shown given used in
    record {
      address = refl;
      sums = from_part class new (user_part class) (user_part new) (to (user_account class) field amount ∷ [])
          (beside_user class) (by_user class) (by_user new) (user_gains class class.shown given used field amount even);
    }

-- ---- the form shown

two_alike : (f g : ℕ → ℕ) → min (f 0) 1 ≡ min (g 0) 1 → min (f 1) 1 ≡ min (g 1) 1 → form_class f ≡ form_class g
two_alike f g first second = λ i n. cond (n == 0) (first i) (cond (n == 1) (second i) 0)

pub form_kept : (x : Account) (f g : ℕ → ℕ) → x.kind ≡ 4 → form_class f ≡ form_class g → kept x.kind f ≡ kept x.kind g
unfolding kept
form_kept x f g is same = subst (λ k. kept k f ≡ kept k g) (sym is) same

form_gains : (class : ExtentClass) → PartGains (form_part class) (form_part (with_uses class 1 class.given class.used)) (to (extent_form class.address class.sort class.form) 1 1 ∷ [])
form_gains class =
    let x = extent_form class.address class.sort class.form in
    let f : ℕ → ℕ = total_of (to x 0 1 ∷ to x 1 1 ∷ []) x in
    let g : ℕ → ℕ = total_of (to x 0 1 ∷ to x 1 class.shown ∷ to x 1 1 ∷ []) x in
    let f0 : f 0 ≡ 1 = user_sum x 1 1 0 in
    let f1 : f 1 ≡ 1 = user_sum x 1 1 1 in
    let g0 : g 0 ≡ 1 = user_more x 1 class.shown 1 1 0 in
    let g1 : g 1 ≡ class.shown + 1 = user_more x 1 class.shown 1 1 1 ∙ (let e : 0 + (class.shown + 1) ≡ class.shown + 1 = omega arith in e) in
    let e : 1 ≡ min (class.shown + 1) 1 = omega arith in
    alike x (to x 0 1 ∷ to x 1 1 ∷ []) (to x 0 1 ∷ to x 1 class.shown ∷ to x 1 1 ∷ []) (refl, (refl, tt)) (refl, (refl, (refl, tt)))
    (form_kept x f g refl (two_alike f g (ap (λ k. min k 1) (f0 ∙ sym g0)) (ap (λ k. min k 1) f1 ∙ e ∙ sym (ap (λ k. min k 1) g1))))

gains_form : (class : ExtentClass) → Gains class (with_uses class 1 class.given class.used) (to (extent_form class.address class.sort class.form) 1 1 ∷ [])
gains_form class =
    let new = with_uses class 1 class.given class.used in
    record {
      address = refl;
      sums = from_part class new (form_part class) (form_part new) (to (extent_form class.address class.sort class.form) 1 1 ∷ [])
          (beside_form class) (by_form class) (by_form new) (form_gains class);
    }

-- ---- one after the other

pub more_then : (old mid new : Sums) (first later : List Posting) → IsMore old mid first → IsMore mid new later → IsMore old new (first ++ later)
more_then old mid new first later one two = record {
  alike = λ a.
      two.alike a
      ∙ more_alike a.kind (mid a) (λ n. old a n + total_of first a n) (total_of later a) (one.alike a)
      ∙ ap (kept a.kind) (fun_ext (λ n. (let
      j = total_joined first later a n in let
      e : (old a n + total_of first a n) + total_of later a n ≡ old a n + total_of (first ++ later) a n = omega (arith, j) in e)));
}

pub gains_use : (class : ExtentClass) (given used : ℕ) → AreEven class given used 0 1
    → Gains class (with_uses class 1 given used) (use_postings class.address class.sort class.form class.root class.ino class.origin)
gains_use class given used even =
    let mid = with_uses class class.shown given used in
    let one = gains_user class given used 1 1 even in
    let two = gains_form mid in
    record {
      address = refl;
      sums = more_then (class_sums class) (class_sums mid) (class_sums (with_uses class 1 given used))
          (to (user_account class) 1 1 ∷ []) (to (extent_form class.address class.sort class.form) 1 1 ∷ []) one.sums two.sums;
    }

-- ---- a user that was none

pub none_even : (b : Bool) → ◌≡◌ {A = ℕ} (cond b 0 0) 0
none_even true = refl
none_even false = refl

none_used : (x a : Account) (n : ℕ) → total_of (to x 0 0 ∷ to x 1 0 ∷ []) a n ≡ 0
unfolding total_of added
none_used x a n = λ i. none_even (is_same x a && (0 == n && nat_lt n 9)) i + (none_even (is_same x a && (1 == n && nat_lt n 9)) i + 0)

pub of_no_user : (class : ExtentClass) (root ino origin : ℕ) → class.given ≡ 0 → class.used ≡ 0 → IsOfUser class (with_user class root ino origin) root ino origin
of_no_user class root ino origin nothing none = record {
  is = refl;
  same = λ a n.
      let new = with_user class root ino origin in
      let x : total_of (user_part new) a n ≡ 0 = (λ i. total_of (to (user_account new) 0 (nothing i) ∷ to (user_account new) 1 (none i) ∷ []) a n) ∙ none_used (user_account new) a n in
      let y : total_of (user_part class) a n ≡ 0 = (λ i. total_of (to (user_account class) 0 (nothing i) ∷ to (user_account class) 1 (none i) ∷ []) a n) ∙ none_used (user_account class) a n in
      parts new a n ∙ (λ i. total_of (extent_part class) a n + (total_of (form_part class) a n + (x ∙ sym y) i)) ∙ sym (parts class a n);
}

pub gains_as : (old mid new : ExtentClass) (root ino origin : ℕ) (given : List Posting) → IsOfUser old mid root ino origin → Gains mid new given → Gains old new given
gains_as old mid new root ino origin given is more = record {
  address = more.address ∙ ap (λ (c : ExtentClass). c.address) is.is;
  sums = record {
    alike = λ a. more.sums.alike a ∙ ap (kept a.kind) (fun_ext (λ n. ap (λ k. k + total_of given a n) (is.same a n)));
  };
}
