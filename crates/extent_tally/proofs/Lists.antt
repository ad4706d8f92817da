-- Lists of classes that gain amounts, and what is left to take.
use Rattle.std.proofs.Common.{◌≡◌, ℕ, ◌+◌, ◌-◌, ◌<◌, ◌≤◌, zero, suc, ◌==◌, ◌&&◌, Bool, List, [], ◌∷◌, ◌++◌, length, get_or, ap, sym, ◌∙◌, subst, arith}
use Rattle.std.specs.List.{sum_by}
use Rattle.std.specs.Prelude.{nat_lt, Option, Some, None, Result, Ok, Err, IfOk, IfSome, OnOk}
use Rattle.std.proofs.Math.ListN.{set}
use Rattle.std.proofs.Math.Path.{fun_ext}
use Rattle.std.proofs.lemmas.List.Sums.{sum_by-append, sum_by-cons, sum_by-set}
use Rattle.verdict.specs.declared.key.Key.{Key}
use Rattle.accounts.specs.declared.account.Account.{Account}
use Rattle.accounts.specs.declared.postings.Posting.{Posting}
use Rattle.accounts.specs.Apart.{AddsUp}
use Rattle.accounts.specs.Kinds.{extent, extent_form}
use Rattle.accounts.specs.Posts.{Posts}
use Rattle.accounts.specs.Sums.{added, is_same, total_of}
use Rattle.accounts.specs.Tally.{Sums, kept, no_sums}
use Rattle.accounts.proofs.Apart.{adds_beside, adds_exactly, adds_listed, adds_then, more_alike}
use Rattle.accounts.specs.Lent.{to}
use Rattle.extent_tally.specs.declared.class.ExtentClass.{ExtentClass}
use Rattle.extent_tally.specs.Gains.{IsMore, new_class}
use Rattle.extent_tally.specs.Held.{class_sums, sums_of, user}
use Rattle.extent_tally.proofs.Parts.{none_even}
use Rattle.verdict.proofs.Answers.{on_ok}

-- ---- sums that come to more, with any list

pub adds_more : (old new : Sums) (list given : List Posting) → IsMore old new given → AddsUp old new list list given
adds_more old new list given more = λ a.
    more_alike a.kind (new a) (λ n. old a n + total_of given a n) (total_of list a) (more.alike a)
    ∙ ap (kept a.kind) (fun_ext (λ n. (let e : (old a n + total_of given a n) + total_of list a n ≡ (old a n + total_of list a n) + total_of given a n = omega arith in e)))

adds_same : (old new first last : Sums) (before after given : List Posting) → ((a : Account) (n : ℕ) → first a n ≡ old a n) → ((a : Account) (n : ℕ) → last a n ≡ new a n)
    → AddsUp old new before after given → AddsUp first last before after given
adds_same old new first last before after given one two adds = λ a.
    ap (kept a.kind) (fun_ext (λ n. ap (λ k. k + total_of after a n) (two a n)))
    ∙ adds a
    ∙ ap (kept a.kind) (fun_ext (λ n. ap (λ k. (k + total_of before a n) + total_of given a n) (sym (one a n))))

-- ---- one class of a list changes

pub at_most : (f : ExtentClass → ℕ) (es : List ExtentClass) (i : ℕ) (d : ExtentClass) → i < length es → f (get_or es i d) ≤ sum_by f es
at_most f [] i d within = absurd (omega arith)
at_most f (e ∷ es) zero d within = omega (arith, sum_by-cons f e es)
at_most f (e ∷ es) (suc i) d within = omega (arith, at_most f es i d (omega arith), sum_by-cons f e es)

module _ (es : List ExtentClass) (i : ℕ) (new d : ExtentClass) (within : i < length es) where
  abbrev beside : Sums
  beside a n = sums_of es a n - class_sums (get_or es i d) a n

  before_set : (a : Account) (n : ℕ) → sums_of es a n ≡ class_sums (get_or es i d) a n + beside a n
  before_set a n = let least = at_most (λ class. class_sums class a n) es i d within in omega (arith, least)

  after_set : (a : Account) (n : ℕ) → sums_of (set es i new) a n ≡ class_sums new a n + beside a n
  after_set a n =
      let least = at_most (λ class. class_sums class a n) es i d within in
      let both = sum_by-set (λ class. class_sums class a n) es i new d within in
      omega (arith, least, both)

  pub set_adds : (before after given : List Posting) → AddsUp (class_sums (get_or es i d)) (class_sums new) before after given
      → AddsUp (sums_of es) (sums_of (set es i new)) before after given
  set_adds before after given adds =
      adds_same (λ a n. class_sums (get_or es i d) a n + beside a n) (λ a n. class_sums new a n + beside a n) (sums_of es) (sums_of (set es i new)) before after given
      before_set after_set (adds_beside (class_sums (get_or es i d)) (class_sums new) beside before after given adds)

  pub set_more : (given : List Posting) → IsMore (class_sums (get_or es i d)) (class_sums new) given → IsMore (sums_of es) (sums_of (set es i new)) given
  set_more given more = record {
    alike = λ a.
        ap (kept a.kind) (fun_ext (after_set a))
        ∙ more_alike a.kind (class_sums new a) (λ n. class_sums (get_or es i d) a n + total_of given a n) (beside a) (more.alike a)
        ∙ ap (kept a.kind) (fun_ext (λ n. (let b = before_set a n in let
        e : (class_sums (get_or es i d) a n + total_of given a n) + beside a n ≡ sums_of es a n + total_of given a n = omega (arith, b) in e)));
  }

-- ---- a class is put behind the others

-- what an item says without its references
abbrev pub item_head : Key → ℕ → List Posting
item_head key refs = to (extent key.objectid) 0 1 ∷ to (extent key.objectid) 1 refs ∷ to (extent_form key.objectid key.kind key.offset) 0 1 ∷ []

head_sums : (key : Key) (refs : ℕ) (a : Account) (n : ℕ) → class_sums (new_class key refs) a n ≡ total_of (item_head key refs) a n
unfolding total_of added
head_sums key refs a n =
    let own : Bool = is_same (extent key.objectid) a && (2 == n && nat_lt n 9) in
    let form : Bool = is_same (extent_form key.objectid key.kind key.offset) a && (1 == n && nat_lt n 9) in
    let first : Bool = is_same (user key.kind key.objectid 0 0 0) a && (0 == n && nat_lt n 9) in
    let second : Bool = is_same (user key.kind key.objectid 0 0 0) a && (1 == n && nat_lt n 9) in
    let x : ℕ = added (to (extent key.objectid) 0 1) a n in
    let z : ℕ = added (to (extent_form key.objectid key.kind key.offset) 0 1) a n in
    let r : 0 + refs ≡ refs = omega arith in
    let y : ℕ = added (to (extent key.objectid) 1 refs) a n in
    let e : x + (y + (0 + (z + (0 + (0 + (0 + 0)))))) ≡ x + (y + (z + 0)) = omega arith in
    (λ i. x + (added (to (extent key.objectid) 1 (r i)) a n + (none_even own i + (z + (none_even form i + (none_even first i + (none_even second i + 0))))))) ∙ e

pub push_adds : (es : List ExtentClass) (key : Key) (refs : ℕ) (start class : ExtentClass) (before after later : List Posting) → start ≡ new_class key refs
    → AddsUp (class_sums start) (class_sums class) before after later
    → AddsUp (sums_of es) (sums_of (es ++ class ∷ [])) before after (item_head key refs ++ later)
unfolding total_of
push_adds es key refs start class before after later is adds =
    let first : AddsUp no_sums (class_sums start) before before (item_head key refs) =
    adds_exactly no_sums (class_sums start) before before (item_head key refs) (λ a n.
    let h = ap (λ (c : ExtentClass). class_sums c a n) is ∙ head_sums key refs a n in
    let e : class_sums start a n + total_of before a n ≡ (0 + total_of before a n) + total_of (item_head key refs) a n = omega (arith, h) in e) in
    let all = adds_then no_sums (class_sums start) (class_sums class) before before after (item_head key refs) later first adds in
    adds_same (λ a n. 0 + sums_of es a n) (λ a n. class_sums class a n + sums_of es a n) (sums_of es) (sums_of (es ++ class ∷ [])) before after (item_head key refs ++ later)
    (λ a n. (let e : sums_of es a n ≡ 0 + sums_of es a n = omega arith in e))
    (λ a n. (let j = sum_by-append (λ c. class_sums c a n) es (class ∷ []) in let e : sums_of (es ++ class ∷ []) a n ≡ class_sums class a n + sums_of es a n = omega (arith, j) in e))
    (adds_beside no_sums (class_sums class) (sums_of es) before after (item_head key refs ++ later) all)

-- what follows from a fact of an answer
pub if_ok : {T E : Type 0} {A B : T → Type 0} (r : Result T E) → IfOk r A → ((x : T) → A x → B x) → IfOk r B
if_ok (Ok x) a gives = gives x a
if_ok (Err e) a gives = tt

pub if_some : {T : Type 0} {A B : T → Type 0} (r : Option T) → IfSome r A → ((x : T) → A x → B x) → IfSome r B
if_some (Some x) a gives = gives x a
if_some None a gives = tt

-- all stands behind the list, and what is kept apart is as it was
pub adds_posted : {T E : Type 0} (old new : Sums) (before after : List Posting) (r : Result T E) (given : List Posting) → new ≡ old → Posts before after r given
    → OnOk r (AddsUp old new before after given)
adds_posted old new before after r given same posts =
    on_ok r posts.all (λ is. subst (λ (s : Sums). AddsUp old s before after given) (sym same) (adds_listed old before after given is))
