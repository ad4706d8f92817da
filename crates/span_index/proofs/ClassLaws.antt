-- The class of a length.
use Rattle.std.proofs.Common.{◌≡◌, ℕ, zero, suc, ◌<◌, ◌≤◌, ◌+◌, ◌*◌, ◌^◌, true, false, cond, refl, subst, arith}
use Rattle.std.specs.Prelude.{nat_le}
use Rattle.std.proofs.Math.Nat.{pow-succ', pow-le-pow_right}
use Rattle.std.proofs.lemmas.Nat.{pow_pos}
use Rattle.std.proofs.lemmas.Bool.Decides.{nat_tests}
use Rattle.span_index.specs.Places.{class_of, class_upto}

doubled : (k : ℕ) → 2 ^ suc k ≡ 2 * 2 ^ k
doubled k = pow-succ' 2 k

pub class_none : (k n : ℕ) → n < 1 → class_upto k n ≡ 0
unfolding class_upto
class_none zero n h = refl
class_none (suc k) n h =
    elim (nat_le (2 ^ k) n) as (λ b. nat_le (2 ^ k) n ≡ b → cond b (suc k) (class_upto k n) ≡ 0) [
      | true ↦ λ e. absurd (let low : 2 ^ k ≤ n = grind (arith, nat_tests) in let more : 0 < 2 ^ k = pow_pos k in omega arith)
      | false ↦ λ e. class_none k n h
    ] refl

class_at : (k r n : ℕ) → r < suc k → 2 ^ k ≤ n → n < 2 * 2 ^ r → suc k ≡ r + 1
class_at k r n low here to =
    elim (nat_le k r) as (λ b. nat_le k r ≡ b → suc k ≡ r + 1) [
      | true ↦ λ e. let over : k ≤ r = grind (arith, nat_tests) in omega arith
      | false ↦ λ e.
          let under : r < k = grind (arith, nat_tests) in
          let more : 2 ^ suc r ≤ 2 ^ k = pow-le-pow_right {n = 2} (omega arith) {i = suc r} {j = k} (omega arith) in
          absurd (omega (arith, doubled r))
    ] refl

class_under : (k r n : ℕ) → r < suc k → 2 ^ r ≤ n → n < 2 ^ k → r < k
class_under k r n low from here =
    elim (nat_le k r) as (λ b. nat_le k r ≡ b → r < k) [
      | true ↦ λ e.
          let over : k ≤ r = grind (arith, nat_tests) in
          let more : 2 ^ k ≤ 2 ^ r = pow-le-pow_right {n = 2} (omega arith) {i = k} {j = r} over in
          absurd (omega arith)
      | false ↦ λ e. grind (arith, nat_tests)
    ] refl

pub class_is : (k r n : ℕ) → r < k → 2 ^ r ≤ n → n < 2 * 2 ^ r → class_upto k n ≡ r + 1
unfolding class_upto
class_is zero r n low from to = absurd (omega arith)
class_is (suc k) r n low from to =
    elim (nat_le (2 ^ k) n) as (λ b. nat_le (2 ^ k) n ≡ b → cond b (suc k) (class_upto k n) ≡ r + 1) [
      | true ↦ λ e. class_at k r n low (grind (arith, nat_tests)) to
      | false ↦ λ e.
          let here : n < 2 ^ k = grind (arith, nat_tests) in
          class_is k r n (class_under k r n low from here) from to
    ] refl

-- a length is below twice the least of its class
pub class_small : (k n : ℕ) → n < 2 ^ k → n < 2 ^ class_upto k n
unfolding class_upto
class_small zero n h = h
class_small (suc k) n h =
    elim (nat_le (2 ^ k) n) as (λ b. nat_le (2 ^ k) n ≡ b → n < 2 ^ cond b (suc k) (class_upto k n)) [
      | true ↦ λ e. h
      | false ↦ λ e. class_small k n (grind (arith, nat_tests))
    ] refl

pub class_low : (k n : ℕ) → class_upto k n ≤ k
unfolding class_upto
class_low zero n = omega arith
class_low (suc k) n =
    elim (nat_le (2 ^ k) n) as (λ b. cond b (suc k) (class_upto k n) ≤ suc k) [
      | true ↦ omega arith
      | false ↦ let low : class_upto k n ≤ k = class_low k n in omega arith
    ]

-- below the greatest class, a length is below twice the least of its class
pub class_reach : (n : ℕ) → class_of n < 64 → n < 2 ^ class_of n
unfolding class_of class_upto
class_reach n h =
    elim (nat_le (2 ^ 63) n) as (λ b. nat_le (2 ^ 63) n ≡ b → cond b 64 (class_upto 63 n) < 64 → n < 2 ^ cond b 64 (class_upto 63 n)) [
      | true ↦ λ e f. absurd (omega arith)
      | false ↦ λ e f. class_small 63 n (grind (arith, nat_tests))
    ] refl h

pub class_below : (n : ℕ) → class_of n < 65
unfolding class_of
class_below n = let low : class_upto 64 n ≤ 64 = class_low 64 n in omega arith

-- what has a sector is of no class but those from 1 on, and these have what has a sector
pub class_some : (n : ℕ) → 0 < n → nat_le 1 (class_of n) ≡ true
class_some n h =
    elim (nat_le 1 (class_of n)) as (λ b. nat_le 1 (class_of n) ≡ b → b ≡ true) [
      | true ↦ λ e. refl
      | false ↦ λ e.
          let none : class_of n ≡ 0 = grind (arith, nat_tests) in
          let few : n < 2 ^ 0 = subst (λ c. n < 2 ^ c) none (class_reach n (grind (arith, nat_tests))) in
          absurd (omega arith)
    ] refl

pub some_class : (n : ℕ) → nat_le 1 (class_of n) ≡ true → 0 < n
unfolding class_of
some_class n h =
    elim (nat_le 1 n) as (λ b. nat_le 1 n ≡ b → 0 < n) [
      | true ↦ λ e. grind (arith, nat_tests)
      | false ↦ λ e.
          let few : n < 1 = grind (arith, nat_tests) in
          let none : class_upto 64 n ≡ 0 = class_none 64 n few in
          let some : 1 ≤ class_upto 64 n = grind (arith, nat_tests) in
          absurd (omega arith)
    ] refl
