-- Laws of what is kept of an account's sums.
use Rattle.std.proofs.Common.{◌≡◌, ℕ, ◌+◌, ◌-◌, min, ◌==◌, Bool, true, false, cond, List, [], ◌∷◌, ◌++◌, refl, ap, sym, ◌∙◌, arith, add_assoc}
use Rattle.std.proofs.Math.Path.{fun_ext}
use Rattle.std.proofs.lemmas.Bool.{eqb-true}
use Rattle.accounts.specs.declared.account.Account.{Account}
use Rattle.accounts.specs.declared.postings.Posting.{Posting}
use Rattle.accounts.specs.Sums.{added, total_of}
use Rattle.accounts.specs.Tally.{Sums, difference, difference_if, extent_class, form_class, inode_class, kept, kept_as, type_class, with_postings, no_sums}
use Rattle.accounts.specs.Kinds.{balances}

-- the difference of what was kept with more added is that of the whole
difference_more : (f g : ℕ → ℕ) (n : ℕ) → difference (λ m. difference f m + g m) n ≡ difference (λ m. f m + g m) n
difference_more f g n =
    let first : ((f 0 - f 1) + g 0) - ((f 1 - f 0) + g 1) ≡ (f 0 + g 0) - (f 1 + g 1) = omega arith in
    let second : ((f 1 - f 0) + g 1) - ((f 0 - f 1) + g 0) ≡ (f 1 + g 1) - (f 0 + g 0) = omega arith in
    rw (first, second) refl

more_if : (b : Bool) (f g : ℕ → ℕ) (n : ℕ) → difference_if b (λ m. difference_if b f m + g m) n ≡ difference_if b (λ m. f m + g m) n
more_if true f g n = difference_more f g n
more_if false f g n = refl

-- numbers up to one, and up to two
up_to : (x y n : ℕ) → min (min x n + y) n ≡ min (x + y) n
up_to x y n = omega arith

-- what is left of two numbers has their difference, and is above zero where they are
left_apart : (u v x y a b : ℕ) → u + y ≡ v + x → (u + a) - (v + b) ≡ (x + a) - (y + b)
left_apart u v x y a b same = omega (arith, same)

one_more : (u x a : ℕ) → min 1 u ≡ min 1 x → min 1 (u + a) ≡ min 1 (x + a)
one_more u x a same = omega (arith, same)

one_of_both : (p q : ℕ) → min 1 (min p q) ≡ min (min 1 p) (min 1 q)
one_of_both p q = omega arith

both_more : (u v x y a b : ℕ) → u + y ≡ v + x → min 1 u ≡ min 1 x → min 1 v ≡ min 1 y
    → ((u + a) - (v + b)) + min 1 (min (u + a) (v + b)) ≡ ((x + a) - (y + b)) + min 1 (min (x + a) (y + b))
both_more u v x y a b same first second =
    let p = one_more u x a first in
    let q = one_more v y b second in
    let d = left_apart u v x y a b same in
    let m : min 1 (min (u + a) (v + b)) ≡ min 1 (min (x + a) (y + b)) =
    one_of_both (u + a) (v + b) ∙ ap (λ k. min k (min 1 (v + b))) p ∙ ap (λ k. min (min 1 (x + a)) k) q ∙ sym (one_of_both (x + a) (y + b)) in
    λ i. d i + m i

left_same : (x y : ℕ) → ((x - y) + min 1 (min x y)) + y ≡ ((y - x) + min 1 (min x y)) + x
left_same x y = omega arith

left_some : (x y : ℕ) → min 1 ((x - y) + min 1 (min x y)) ≡ min 1 x
left_some x y = omega arith

left_other : (x y : ℕ) → min 1 ((y - x) + min 1 (min x y)) ≡ min 1 y
left_other x y = omega arith

-- the first and the second of what is left of two numbers
first_more : (x y a b : ℕ)
    → ((((x - y) + min 1 (min x y)) + a) - (((y - x) + min 1 (min x y)) + b)) + min 1 (min (((x - y) + min 1 (min x y)) + a) (((y - x) + min 1 (min x y)) + b))
    ≡ ((x + a) - (y + b)) + min 1 (min (x + a) (y + b))
first_more x y a b = both_more ((x - y) + min 1 (min x y)) ((y - x) + min 1 (min x y)) x y a b (left_same x y) (left_some x y) (left_other x y)

second_more : (x y a b : ℕ)
    → ((((y - x) + min 1 (min x y)) + b) - (((x - y) + min 1 (min x y)) + a)) + min 1 (min (((x - y) + min 1 (min x y)) + a) (((y - x) + min 1 (min x y)) + b))
    ≡ ((y + b) - (x + a)) + min 1 (min (x + a) (y + b))
second_more x y a b =
    let u : ℕ = (x - y) + min 1 (min x y) in
    let v : ℕ = (y - x) + min 1 (min x y) in
    let d = left_apart v u y x b a (sym (left_same x y)) in
    let m = one_of_both (u + a) (v + b) ∙ ap (λ k. min k (min 1 (v + b))) (one_more u x a (left_some x y)) ∙ ap (λ k. min (min 1 (x + a)) k) (one_more v y b (left_other x y))
    ∙ sym (one_of_both (x + a) (y + b)) in
    λ i. d i + m i

apart : (x y a b : ℕ) → ((x - y) + a) - ((y - x) + b) ≡ (x + a) - (y + b)
apart x y a b = omega arith

-- by cases of the field
by_case : (b : Bool) {x y p q : ℕ} → x ≡ y → p ≡ q → cond b x p ≡ cond b y q
by_case true first later = first
by_case false first later = later

nine : (n : ℕ) {a0 a1 a2 a3 a4 a5 a6 a7 a8 b0 b1 b2 b3 b4 b5 b6 b7 b8 : ℕ}
    → a0 ≡ b0 → a1 ≡ b1 → a2 ≡ b2 → a3 ≡ b3 → a4 ≡ b4 → a5 ≡ b5 → a6 ≡ b6 → a7 ≡ b7 → a8 ≡ b8
    → cond (n == 0) a0 (cond (n == 1) a1 (cond (n == 2) a2 (cond (n == 3) a3 (cond (n == 4) a4 (cond (n == 5) a5 (cond (n == 6) a6 (cond (n == 7) a7 (cond (n == 8) a8 0))))))))
    ≡ cond (n == 0) b0 (cond (n == 1) b1 (cond (n == 2) b2 (cond (n == 3) b3 (cond (n == 4) b4 (cond (n == 5) b5 (cond (n == 6) b6 (cond (n == 7) b7 (cond (n == 8) b8 0))))))))
nine n e0 e1 e2 e3 e4 e5 e6 e7 e8 =
    by_case (n == 0) e0 (by_case (n == 1) e1 (by_case (n == 2) e2 (by_case (n == 3) e3 (by_case (n == 4) e4 (by_case (n == 5) e5 (by_case (n == 6) e6 (by_case (n == 7) e7 (by_case (n == 8) e8 refl))))))))

-- the same of an inode, and of a type
inode_more : (f g : ℕ → ℕ) (n : ℕ) → inode_class (λ m. inode_class f m + g m) n ≡ inode_class (λ m. f m + g m) n
inode_more f g n =
    let e0 = up_to (f 0) (g 0) 2 in
    let e1 = up_to (f 1) (g 1) 1 in
    let e2 = first_more (f 2) (f 3) (g 2) (g 3) in
    let e3 = second_more (f 2) (f 3) (g 2) (g 3) in
    let e4 = up_to (f 4) (g 4) 1 in
    let e5 = apart (f 5) (f 6) (g 5) (g 6) in
    let e6 = apart (f 6) (f 5) (g 6) (g 5) in
    let e7 = apart (f 7) (f 8) (g 7) (g 8) in
    let e8 = apart (f 8) (f 7) (g 8) (g 7) in
    nine n e0 e1 e2 e3 e4 e5 e6 e7 e8

type_more : (f g : ℕ → ℕ) (n : ℕ) → type_class (λ m. type_class f m + g m) n ≡ type_class (λ m. f m + g m) n
type_more f g n =
    let first = up_to (f 0) (g 0) 1 in
    let second = up_to (f 1) (g 1) 2 in
    rw (first, second) refl

-- the same of an extent, and of a form
extent_more : (f g : ℕ → ℕ) (n : ℕ) → extent_class (λ m. extent_class f m + g m) n ≡ extent_class (λ m. f m + g m) n
extent_more f g n =
    let e0 = up_to (f 0) (g 0) 2 in
    let e1 = first_more (f 1) (f 2) (g 1) (g 2) in
    let e2 = second_more (f 1) (f 2) (g 1) (g 2) in
    by_case (n == 0) e0 (by_case (n == 1) e1 (by_case (n == 2) e2 refl))

form_more : (f g : ℕ → ℕ) (n : ℕ) → form_class (λ m. form_class f m + g m) n ≡ form_class (λ m. f m + g m) n
form_more f g n =
    let first = up_to (f 0) (g 0) 1 in
    let second = up_to (f 1) (g 1) 1 in
    rw (first, second) refl

more_as : (is_inode is_type is_extent is_form b : Bool) (f g : ℕ → ℕ) (n : ℕ)
    → kept_as is_inode is_type is_extent is_form b (λ m. kept_as is_inode is_type is_extent is_form b f m + g m) n
    ≡ kept_as is_inode is_type is_extent is_form b (λ m. f m + g m) n
more_as true is_type is_extent is_form b f g n = inode_more f g n
more_as false true is_extent is_form b f g n = type_more f g n
more_as false false true is_form b f g n = extent_more f g n
more_as false false false true b f g n = form_more f g n
more_as false false false false b f g n = more_if b f g n

-- to keep what was kept, with more added, is to keep the whole
pub kept_more : (kind : ℕ) (f g : ℕ → ℕ) → kept kind (λ m. kept kind f m + g m) ≡ kept kind (λ m. f m + g m)
unfolding kept
kept_more kind f g = fun_ext (λ n. more_as (kind == 9) (kind == 10) (kind == 3) (kind == 4) (balances kind) f g n)

-- what is kept of nothing is nothing
zeroes : (a b : Bool) → ◌≡◌ {A = ℕ} (cond a 0 (cond b 0 0)) 0
zeroes true b = refl
zeroes false true = refl
zeroes false false = refl

nothing_if : (b : Bool) (n : ℕ) → difference_if b (λ _. 0) n ≡ 0
nothing_if true n = zeroes (n == 0) (n == 1)
nothing_if false n = refl

to_zero : (b : Bool) {p : ℕ} → p ≡ 0 → cond b 0 p ≡ 0
to_zero true later = refl
to_zero false later = later

inode_nothing : (n : ℕ) → inode_class (λ _. 0) n ≡ 0
inode_nothing n =
    to_zero (n == 0) (to_zero (n == 1) (to_zero (n == 2) (to_zero (n == 3) (to_zero (n == 4) (to_zero (n == 5) (to_zero (n == 6) (to_zero (n == 7) (to_zero (n == 8) refl))))))))

nothing_as : (is_inode is_type is_extent is_form b : Bool) (n : ℕ) → kept_as is_inode is_type is_extent is_form b (λ _. 0) n ≡ 0
nothing_as true is_type is_extent is_form b n = inode_nothing n
nothing_as false true is_extent is_form b n = zeroes (n == 0) (n == 1)
nothing_as false false true is_form b n = to_zero (n == 0) (to_zero (n == 1) (to_zero (n == 2) refl))
nothing_as false false false true b n = zeroes (n == 0) (n == 1)
nothing_as false false false false b n = nothing_if b n

pub kept_nothing : (kind : ℕ) → kept kind (λ _. 0) ≡ (λ _. 0)
unfolding kept
kept_nothing kind = fun_ext (λ n. nothing_as (kind == 9) (kind == 10) (kind == 3) (kind == 4) (balances kind) n)

-- a kind whose difference decides is none of these
other_kind : (n kind : ℕ) (b : Bool) → (kind == n) ≡ b → balances n ≡ false → balances kind ≡ true → b ≡ false
other_kind n kind true is off on = absurd (cc (off, on, ap balances (eqb-true kind n is)))
other_kind n kind false is off on = refl

pub balanced_kept : (kind : ℕ) (f : ℕ → ℕ) → balances kind ≡ true → kept kind f ≡ difference_if true f
unfolding kept
balanced_kept kind f on =
    let inode = other_kind 9 kind (kind == 9) refl refl on in
    let type = other_kind 10 kind (kind == 10) refl refl on in
    let extent = other_kind 3 kind (kind == 3) refl refl on in
    let form = other_kind 4 kind (kind == 4) refl refl on in
    λ i. kept_as (inode i) (type i) (extent i) (form i) (on i) f

-- sums that are alike, and those whose difference is
pub alike_kept : (kind : ℕ) (f g : ℕ → ℕ) → ((n : ℕ) → f n ≡ g n) → (n : ℕ) → kept kind f n ≡ kept kind g n
alike_kept kind f g is n = ap (λ s. kept kind s n) (fun_ext is)

pub cancelled_kept : (kind : ℕ) (new old f : ℕ → ℕ) → balances kind ≡ true → ((n : ℕ) → difference new n ≡ difference old n)
    → ((n : ℕ) → old n ≡ f n) → (n : ℕ) → kept kind new n ≡ kept kind f n
cancelled_kept kind new old f on is was n =
    ap (λ s. s n) (balanced_kept kind new on ∙ fun_ext is ∙ sym (balanced_kept kind old on)) ∙ alike_kept kind old f was n

-- the totals of two lists add up
pub total_joined : (ps qs : List Posting) (account : Account) (n : ℕ) → total_of (ps ++ qs) account n ≡ total_of ps account n + total_of qs account n
unfolding total_of
total_joined [] qs account n = let same : total_of qs account n ≡ 0 + total_of qs account n = omega arith in same
total_joined (p ∷ ps) qs account n =
    ap (λ k. added p account n + k) (total_joined ps qs account n) ∙ sym (add_assoc (added p account n) (total_of ps account n) (total_of qs account n))

-- nothing posted changes nothing of what is kept, and a list after a list is both
pub with_more : (sums : Sums) (ps qs : List Posting) → with_postings (with_postings sums ps) qs ≡ with_postings sums (ps ++ qs)
unfolding with_postings
with_more sums ps qs =
    fun_ext (λ account.
    kept_more account.kind (λ n. sums account n + total_of ps account n) (total_of qs account)
    ∙ ap (kept account.kind) (fun_ext (λ n.
    let both = total_joined ps qs account n in
    let same : (sums account n + total_of ps account n) + total_of qs account n ≡ sums account n + total_of (ps ++ qs) account n = omega arith in
    same)))

-- the same the other way round
pub with_more_first : (sums : Sums) (ps qs : List Posting) → with_postings (with_postings sums qs) ps ≡ with_postings sums (ps ++ qs)
unfolding with_postings
with_more_first sums ps qs =
    fun_ext (λ account.
    kept_more account.kind (λ n. sums account n + total_of qs account n) (total_of ps account)
    ∙ ap (kept account.kind) (fun_ext (λ n.
    let both = total_joined ps qs account n in
    let same : (sums account n + total_of qs account n) + total_of ps account n ≡ sums account n + total_of (ps ++ qs) account n = omega arith in
    same)))

pub with_none : with_postings no_sums [] ≡ no_sums
unfolding with_postings total_of
with_none = fun_ext (λ account. kept_nothing account.kind)
