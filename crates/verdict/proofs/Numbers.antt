-- Laws of numbers and of tests of them.
use Rattle.std.proofs.Common.{◌≡◌, ◌≢◌, ℕ, suc, ◌+◌, ◌-◌, ◌*◌, ◌<◌, ◌≤◌, ◌==◌, not, ◌&&◌, Bool, true, false, ◌⊎◌, inl, inr, refl, cond, arith}
use Rattle.std.proofs.lemmas.Grind.{common_steps}
use Rattle.std.specs.Prelude.{◌%◌, ◌/◌, nat_lt}
use Rattle.std.specs.Ordering.{nat_cmp, ordering_then, is_lt, is_gt}
use Rattle.std.specs.declared.cmp.Ordering.{Ordering}
use Rattle.std.specs.declared.cmp.Ordering.TheVariants.{Less, Equal}
use Rattle.std.proofs.lemmas.Bool.{cases_lt}
use Rattle.std.proofs.lemmas.Bool.Decides.{nat_tests}

pub itself : (n : ℕ) → (n == n) ≡ true
itself n = grind (arith, common_steps)

pub same_there : (m n : ℕ) → m ≡ n → (m == n) ≡ true
same_there m n is = grind (arith, nat_tests)

pub same_of_not : (a b : ℕ) → not (a == b) ≡ false → a ≡ b
same_of_not a b is = grind (arith, common_steps)

pub not_differs : (a b : ℕ) → a ≡ b → not (a == b) ≡ false
not_differs a b is = grind (arith, common_steps)

pub same_or_not : (a b : ℕ) → (a ≡ b) ⊎ (a ≢ b)
same_or_not a b =
    elim (cases_lt a b) [
      | inl h ↦ inr (omega arith)
      | inr h ↦ elim (cases_lt b a) [ inl g ↦ inr (omega arith) | inr g ↦ inl (omega arith) ]
    ]

pub above_zero : (n : ℕ) → (n == 0) ≡ false → 0 < n
above_zero n is = grind (arith, nat_tests)

pub not_zero : (n : ℕ) → not (n == 0) ≡ true → 0 < n
not_zero n is = grind (arith, is)

-- a rule that speaks of what is not zero
pub rule_of_some : (n : ℕ) (fails : Bool) → 0 < n → (not (n == 0) && fails) ≡ false → fails ≡ false
rule_of_some n fails some kept = grind (arith, nat_tests)

pub not_below : (a b : ℕ) → b ≤ a → nat_lt a b ≡ false
not_below a b is = grind (arith, common_steps)

pub at_least : (a b : ℕ) → nat_lt a b ≡ false → b ≤ a
at_least a b is = grind (arith, common_steps)

pub lower : (n level : ℕ) → n ≡ suc level → n - 1 ≡ level
lower n level at = omega arith

pub whole_sectors : (n : ℕ) → n % 4096 ≡ 0 → n / 4096 * 4096 ≡ n
whole_sectors n whole = omega (arith, whole)

pub less_is : (a b : ℕ) → nat_cmp a b ≡ Less → a < b
less_is a b is = grind (arith, nat_tests)

pub less_from : (a b : ℕ) → a < b → nat_cmp a b ≡ Less
less_from a b less = grind (arith, nat_tests)

pub equal_from : (a b : ℕ) → a ≡ b → nat_cmp a b ≡ Equal
equal_from a b same = grind (arith, nat_tests)

pub not_above : (x y : ℕ) → x ≤ y → is_gt (nat_cmp x y) ≡ false
not_above x y h = grind (arith, nat_tests)

pub none_above : (x y : ℕ) (r : Ordering) → x ≤ y → is_gt r ≡ false → is_gt (ordering_then (nat_cmp x y) r) ≡ false
none_above x y r low h = grind (arith, nat_tests)

pub less_first : (x y : ℕ) (r : Ordering) → x < y → is_lt (ordering_then (nat_cmp x y) r) ≡ true
less_first x y r h = grind (arith, nat_tests)

pub cond_more : (b : Bool) (x y : ℕ) → cond b (x + y) 0 ≡ cond b x 0 + cond b y 0
cond_more true x y = refl
cond_more false x y = refl
