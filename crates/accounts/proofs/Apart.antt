-- Laws of sums that are kept apart.
use Rattle.std.proofs.Common.{◌≡◌, ℕ, ◌+◌, List, [], ◌++◌, ap, sym, ◌∙◌, arith}
use Rattle.std.proofs.Math.Path.{fun_ext}
use Rattle.accounts.specs.declared.account.Account.{Account}
use Rattle.accounts.specs.declared.postings.Posting.{Posting}
use Rattle.accounts.specs.Apart.{AddsUp}
use Rattle.accounts.specs.Sums.{total_of}
use Rattle.accounts.specs.Tally.{Sums, kept}
use Rattle.accounts.proofs.Kept.{kept_more, total_joined}

-- what is kept alike stays so with more added
pub more_alike : (kind : ℕ) (f g x : ℕ → ℕ) → kept kind f ≡ kept kind g → kept kind (λ n. f n + x n) ≡ kept kind (λ n. g n + x n)
more_alike kind f g x same = sym (kept_more kind f x) ∙ ap (λ (k : ℕ → ℕ). kept kind (λ n. k n + x n)) same ∙ kept_more kind g x

-- sums that are the same, number by number
pub adds_exactly : (old new : Sums) (before after given : List Posting)
    → ((a : Account) (n : ℕ) → new a n + total_of after a n ≡ (old a n + total_of before a n) + total_of given a n)
    → AddsUp old new before after given
adds_exactly old new before after given is = λ a. ap (kept a.kind) (fun_ext (is a))

-- nothing is given
pub adds_nothing : (sums : Sums) (list : List Posting) → AddsUp sums sums list list []
unfolding total_of
adds_nothing sums list = adds_exactly sums sums list list [] (λ a n. (let e : sums a n + total_of list a n ≡ (sums a n + total_of list a n) + 0 = omega arith in e))

-- all that is given stands behind the list
pub adds_listed : (sums : Sums) (before after given : List Posting) → after ≡ before ++ given → AddsUp sums sums before after given
adds_listed sums before after given is = adds_exactly sums sums before after given (λ a n. (let
    w = ap (λ l. total_of l a n) is ∙ total_joined before given a n in let
    e : sums a n + total_of after a n ≡ (sums a n + total_of before a n) + total_of given a n = omega (arith, w) in
    e))

-- one list is given, then another
pub adds_then : (old mid new : Sums) (before between after first later : List Posting) → AddsUp old mid before between first → AddsUp mid new between after later
    → AddsUp old new before after (first ++ later)
adds_then old mid new before between after first later one two = λ a.
    two a
    ∙ more_alike a.kind (λ n. mid a n + total_of between a n) (λ n. (old a n + total_of before a n) + total_of first a n) (total_of later a) (one a)
    ∙ ap (kept a.kind) (fun_ext (λ n. (let
    j = total_joined first later a n in let
    e : ((old a n + total_of before a n) + total_of first a n) + total_of later a n ≡ (old a n + total_of before a n) + total_of (first ++ later) a n =
    omega (arith, j) in
    e)))

-- the lists that are given come to the same
pub adds_the_same : (old new : Sums) (before after given other : List Posting) → AddsUp old new before after given
    → ((a : Account) (n : ℕ) → total_of other a n ≡ total_of given a n) → AddsUp old new before after other
adds_the_same old new before after given other is same = λ a.
    is a ∙ ap (kept a.kind) (fun_ext (λ n. ap (λ k. (old a n + total_of before a n) + k) (sym (same a n))))

-- what is kept apart besides, and takes no part
pub adds_beside : (old new beside : Sums) (before after given : List Posting) → AddsUp old new before after given
    → AddsUp (λ a n. old a n + beside a n) (λ a n. new a n + beside a n) before after given
adds_beside old new beside before after given is = λ a.
    ap (kept a.kind) (fun_ext (λ n. (let
    e : (new a n + beside a n) + total_of after a n ≡ (new a n + total_of after a n) + beside a n = omega arith in e)))
    ∙ more_alike a.kind (λ n. new a n + total_of after a n) (λ n. (old a n + total_of before a n) + total_of given a n) (beside a) (is a)
    ∙ ap (kept a.kind) (fun_ext (λ n. (let
    e : ((old a n + total_of before a n) + total_of given a n) + beside a n ≡ ((old a n + beside a n) + total_of before a n) + total_of given a n = omega arith in e)))
