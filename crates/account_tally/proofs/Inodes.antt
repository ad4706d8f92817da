-- A set of inodes, each with its tree.
use Rattle.std.proofs.Common.{◌≡◌, ℕ, ◌==◌, ◌&&◌, ◌||◌, Bool, true, false, cond, List, [], ◌∷◌, refl, ap, sym, ◌∙◌, arith}
use Rattle.std.specs.Prelude.{Some, nat_lt}
use Rattle.std.proofs.Math.Path.{fun_ext}
use Rattle.std.proofs.lemmas.Bool.Decides.{nat_tests}
use Rattle.std.specs.List.{list_any}
use Rattle.std.specs.BTreeMap.{is_at}
use Rattle.std.specs.Ordering.{is_eq, nat_cmp, ordering_then}
use Rattle.std.specs.declared.cmp.Ordering.{Ordering}
use Rattle.std.specs.declared.cmp.Ordering.TheVariants.{Less, Equal, Greater}
use Rattle.records.specs.Context.{is_inode}
use Rattle.account_tally.specs.Sums.{Frees, or_free}
use Rattle.verdict.proofs.Truth.{then_tied}

-- pairs by their first numbers, then by their second
abbrev pub pair_cmp : ℕ × ℕ → ℕ × ℕ → Ordering
pair_cmp x y = ordering_then (nat_cmp x.0 y.0) (nat_cmp x.1 y.1)

is_eq-nat : (a b : ℕ) → is_eq (nat_cmp a b) ≡ (b == a)
is_eq-nat a b =
    elim (nat_lt a b) as (λ t. nat_lt a b ≡ t → is_eq (cond t Less (cond (a == b) Equal Greater)) ≡ (b == a)) [
      | true ↦ λ e. grind (arith, nat_tests)
      | false ↦ λ e. elim (a == b) as (λ t. (a == b) ≡ t → is_eq (cond t Equal Greater) ≡ (b == a))
          [ true ↦ λ e2. grind (arith, nat_tests) | false ↦ λ e2. grind (arith, nat_tests) ] refl
    ] refl

pair_is : (x y : ℕ × ℕ) → is_eq (pair_cmp x y) ≡ is_inode x.0 x.1 y
pair_is x y =
    then_tied (nat_cmp x.0 y.0) (nat_cmp x.1 y.1)
    ∙ ap (λ a. a && is_eq (nat_cmp x.1 y.1)) (is_eq-nat x.0 y.0)
    ∙ ap (λ b. (y.0 == x.0) && b) (is_eq-nat x.1 y.1)

any_is : (keys : List (ℕ × ℕ)) (q : ℕ × ℕ) → list_any (is_at (pair_cmp q)) keys ≡ list_any (is_inode q.0 q.1) keys
any_is [] q = refl
any_is (key ∷ keys) q = ap (λ a. a || list_any (is_at (pair_cmp q)) keys) (pair_is q key) ∙ ap (λ b. is_inode q.0 q.1 key || b) (any_is keys q)

or_swapped : (a b : Bool) → cond a true b ≡ (b || a)
or_swapped true true = refl
or_swapped true false = refl
or_swapped false true = refl
or_swapped false false = refl

turned : (x y : ℕ × ℕ) → is_inode x.0 x.1 y ≡ is_inode y.0 y.1 x
turned x y = grind (arith, nat_tests)

-- an inode put into the set
pub noted : (old new : List (ℕ × ℕ)) (k : ℕ × ℕ)
    → ((q : ℕ × ℕ) → list_any (is_at (pair_cmp q)) new ≡ cond (is_at (pair_cmp k) q) true (list_any (is_at (pair_cmp q)) old))
    → ◌≡◌ {A = Frees} (λ tree ino. list_any (is_inode tree ino) new) (or_free (λ tree ino. list_any (is_inode tree ino) old) (Some k))
noted old new k is = fun_ext (λ tree. fun_ext (λ ino.
    sym (any_is new (tree, ino)) ∙ is (tree, ino)
    ∙ ap (λ a. cond a true (list_any (is_at (pair_cmp (tree, ino))) old)) (pair_is k (tree, ino) ∙ turned k (tree, ino))
    ∙ ap (λ b. cond (is_inode tree ino k) true b) (any_is old (tree, ino))
    ∙ or_swapped (is_inode tree ino k) (list_any (is_inode tree ino) old)))
