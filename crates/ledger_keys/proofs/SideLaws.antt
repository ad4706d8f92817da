-- The sums of the two accounts of a name, once one of them is changed.
use Rattle.std.proofs.Common.{◌≡◌, ℕ, ◌+◌, ◌<◌, ◌≤◌, ◌==◌, ◌&&◌, Bool, true, false, cond, not, List, refl, ap, sym, ◌∙◌, subst, arith, zero, suc, slice_index, ⊎_elim}
use Rattle.std.specs.Prelude.{None, nat_lt, replicate}
use Rattle.std.proofs.lemmas.Bool.{cases_eq, eq-eqb, eqb-true, lt-ltb, ltb-true}
use Rattle.verdict.proofs.Truth.{both_ways}
use Rattle.ledger_keys.specs.declared.kept.Kept.TheVariants.{Long}
use Rattle.ledger_keys.specs.declared.name.Side.{Side}
use Rattle.ledger_keys.specs.declared.name.Side.TheVariants.{Entry, Link}
use Rattle.ledger_keys.specs.Kept.{kept_sum, sums_at}
use Rattle.ledger_keys.specs.Shifts.{Rests, Shifts}
use Rattle.ledger_keys.specs.Side.{IsCounted, first_of, has_sums, is_same_side, mark_of, number_of, side_of}
use Rattle.ledger_keys.specs.Sums.{amount_at, lower, raise}
use Rattle.ledger_keys.proofs.KeptLaws.{long_by, none_by}

pub none_long : (few long : List ℕ) → few ≡ replicate 7 0 → long ≡ replicate 2 0 → (n : ℕ) → kept_sum (Long few long) n ≡ 0
none_long few long is1 is2 =
    long_by few long (λ _. 0) (λ n small. ap (λ xs. slice_index xs n) is1 ∙ none_by 7 n) (λ n. ap (λ xs. slice_index xs n) is2 ∙ none_by 2 n)

eq_more : (a field n : ℕ) → (a + field == a + n) ≡ (field == n)
eq_more a field n =
    both_ways (a + field == a + n) (field == n)
    (λ is. eq-eqb field n (let e = eqb-true (a + field) (a + n) is in omega (arith, e)))
    (λ is. eq-eqb (a + field) (a + n) (ap (λ x. a + x) (eqb-true field n is)))

-- which of the nine it is, and which of the two
hit_more : (a field n : ℕ) → a ≤ 2 → n < 2 → (a + field == a + n && nat_lt (a + n) 9) ≡ (field == n && nat_lt n 9)
hit_more a field n low small =
    ap (λ b. b && nat_lt (a + n) 9) (eq_more a field n)
    ∙ ap (λ b. (field == n) && b) (lt-ltb (a + n) 9 (omega (arith, low, small)) ∙ sym (lt-ltb n 9 (omega (arith, small))))

-- an amount to another of the nine
no_hit : (a k amount : ℕ) → (a ≡ k → ⊥) → amount_at a amount k ≡ 0
no_hit a k amount apart = go (a == k) refl
  where
    go : (b : Bool) → (a == k) ≡ b → cond (b && nat_lt k 9) amount 0 ≡ 0
    go true is = absurd (apart (eqb-true a k is))
    go false is = refl

past_hit : (field n : ℕ) → field < 2 → nat_lt n 2 ≡ false → (field == n && nat_lt n 9) ≡ false
past_hit field n small past = go (field == n) refl
  where
    go : (b : Bool) → (field == n) ≡ b → (b && nat_lt n 9) ≡ false
    go true is = absurd (cc (sym (lt-ltb n 2 (subst (λ k. k < 2) (eqb-true field n is) small)) ∙ past))
    go false is = refl

module _ (how : ℕ → ℕ → ℕ) (none : (sum : ℕ) → how 0 sum ≡ sum) where
  own_case : (b small hit : Bool) (c c' amount : ℕ) → (small ≡ false → hit ≡ false) → (small ≡ true → c' ≡ how (cond hit amount 0) c)
      → cond (b && small) c' 0 ≡ how (cond (b && hit) amount 0) (cond (b && small) c 0)
  own_case true true hit c c' amount past is = is refl
  own_case true false hit c c' amount past is = sym (none 0) ∙ ap (λ h. how (cond h amount 0) 0) (sym (past refl))
  own_case false small hit c c' amount past is = sym (none 0)

  module _ (f f' : ℕ → ℕ) (field amount : ℕ) (small : field < 2) where
    module _ (a m x : ℕ) (low : a ≤ 2) (high : 7 ≤ m) (has : f m ≡ x) (is : (k : ℕ) → f' k ≡ how (amount_at (a + field) amount k) (f k)) where
      -- a sum that is none of these
      stays : (k : ℕ) → (a + field ≡ k → ⊥) → f' k ≡ f k
      stays k apart = is k ∙ ap (λ y. how y (f k)) (no_hit (a + field) k amount apart) ∙ none (f k)

      own : (y n : ℕ) → cond (f' m == y && nat_lt n 2) (f' (a + n)) 0
          ≡ how (cond (x == y && (field == n && nat_lt n 9)) amount 0) (cond (f m == y && nat_lt n 2) (f (a + n)) 0)
      own y n =
          ap (λ k. cond (k == y && nat_lt n 2) (f' (a + n)) 0) (stays m (λ e. absurd (omega (arith, small, low, high, e))) ∙ has)
          ∙ own_case (x == y) (nat_lt n 2) (field == n && nat_lt n 9) (f (a + n)) (f' (a + n)) amount (past_hit field n small)
          (λ first. is (a + n) ∙ ap (λ h. how (cond h amount 0) (f (a + n))) (hit_more a field n low (ltb-true n 2 first)))
          ∙ ap (λ k. how (cond (x == y && (field == n && nat_lt n 9)) amount 0) (cond (k == y && nat_lt n 2) (f (a + n)) 0)) (sym has)

      -- the other side stays
      other : (a' m' y n : ℕ) → 7 ≤ m' → ((k : ℕ) → k < 2 → a + field ≡ a' + k → ⊥) → cond (f' m' == y && nat_lt n 2) (f' (a' + n)) 0
          ≡ how 0 (cond (f m' == y && nat_lt n 2) (f (a' + n)) 0)
      other a' m' y n high' apart =
          ap (λ k. cond (k == y && nat_lt n 2) (f' (a' + n)) 0) (stays m' (λ e. absurd (omega (arith, small, low, high', e))))
          ∙ count (f m' == y) (nat_lt n 2) refl ∙ sym (none _)
        where
          count : (b s : Bool) → nat_lt n 2 ≡ s → cond (b && s) (f' (a' + n)) 0 ≡ cond (b && s) (f (a' + n)) 0
          count true true first = stays (a' + n) (apart n (ltb-true n 2 first))
          count true false first = refl
          count false s first = refl

    -- an amount to a sum of a side whose number stands
    pub shifts : (s : Side) → f (mark_of s) ≡ number_of s → ((k : ℕ) → f' k ≡ how (amount_at (first_of s + field) amount k) (f k))
        → Shifts is_same_side how (side_of f) (side_of f') s field amount
    shifts (Entry x) has is (Entry y) n = own 0 7 x (omega arith) (omega arith) has is y n
    shifts (Entry x) has is (Link y) n = other 0 7 x (omega arith) (omega arith) has is 2 8 y n (omega arith) (λ k low e. omega (arith, small, e))
    shifts (Link x) has is (Link y) n = own 2 8 x (omega arith) (omega arith) has is y n
    shifts (Link x) has is (Entry y) n = other 2 8 x (omega arith) (omega arith) has is 0 7 y n (omega arith) (λ k low e. omega (arith, low, e))

nothing : (b : Bool) (c : ℕ) → cond (b && false) c 0 ≡ 0
nothing true c = refl
nothing false c = refl

-- another number where no sums are
rest_case : (b b' s : Bool) (c c' : ℕ) → (s ≡ true → c ≡ 0) → c' ≡ c → cond (b' && s) c' 0 ≡ cond (b && s) c 0
rest_case b b' false c c' gone same = nothing b' c' ∙ sym (nothing b c)
rest_case true true true c c' gone same = same
rest_case true false true c c' gone same = sym (gone refl)
rest_case false true true c c' gone same = same ∙ gone refl
rest_case false false true c c' gone same = refl

module _ (f f' : ℕ → ℕ) where
  first_two : (a n : ℕ) → nat_lt n 2 ≡ true → f a ≡ 0 → f (a + 1) ≡ 0 → f (a + n) ≡ 0
  first_two a zero small zero1 zero2 = ap f (omega arith) ∙ zero1
  first_two a (suc zero) small zero1 zero2 = zero2
  first_two a (suc (suc n)) small zero1 zero2 = absurd (let e = ltb-true (suc (suc n)) 2 small in omega (arith, e))

  here : (a m y n : ℕ) → f a ≡ 0 → f (a + 1) ≡ 0 → (nat_lt n 2 ≡ true → f' (a + n) ≡ f (a + n))
      → cond (f' m == y && nat_lt n 2) (f' (a + n)) 0 ≡ cond (f m == y && nat_lt n 2) (f (a + n)) 0
  here a m y n zero1 zero2 same = go (nat_lt n 2) refl
    where
      go : (s : Bool) → nat_lt n 2 ≡ s → cond (f' m == y && s) (f' (a + n)) 0 ≡ cond (f m == y && s) (f (a + n)) 0
      go true small = rest_case (f m == y) (f' m == y) true (f (a + n)) (f' (a + n)) (λ _. first_two a n small zero1 zero2) (same small)
      go false small = nothing (f' m == y) (f' (a + n)) ∙ sym (nothing (f m == y) (f (a + n)))

  there : (a m y n : ℕ) → f' m ≡ f m → (nat_lt n 2 ≡ true → f' (a + n) ≡ f (a + n))
      → cond (f' m == y && nat_lt n 2) (f' (a + n)) 0 ≡ cond (f m == y && nat_lt n 2) (f (a + n)) 0
  there a m y n mark same = ap (λ k. cond (k == y && nat_lt n 2) (f' (a + n)) 0) mark ∙ go (f m == y) (nat_lt n 2) refl
    where
      go : (b s : Bool) → nat_lt n 2 ≡ s → cond (b && s) (f' (a + n)) 0 ≡ cond (b && s) (f (a + n)) 0
      go true true small = same small
      go true false small = refl
      go false s small = refl

  -- the number of a side without sums is put
  module _ (s : Side) (zero1 : f (first_of s) ≡ 0) (zero2 : f (first_of s + 1) ≡ 0) (stay : (k : ℕ) → (mark_of s ≡ k → ⊥) → f' k ≡ f k) where
    low : (m k : ℕ) → m ≡ mark_of s → 7 ≤ m → k < 4 → f' k ≡ f k
    low m k is high small = stay k (λ e. omega (arith, is, high, small, e))

    pub rests : Rests (side_of f) (side_of f')
    rests other n = go s other zero1 zero2 stay
      where
        go : (s t : Side) → f (first_of s) ≡ 0 → f (first_of s + 1) ≡ 0 → ((k : ℕ) → (mark_of s ≡ k → ⊥) → f' k ≡ f k) → side_of f' t n ≡ side_of f t n
        go (Entry x) (Entry y) zero1 zero2 stay = here 0 7 y n zero1 zero2 (λ small. stay (0 + n) (λ e. (let l = ltb-true n 2 small in omega (arith, e, l))))
        go (Entry x) (Link y) zero1 zero2 stay = there 2 8 y n (stay 8 (λ e. omega (arith, e))) (λ small. stay (2 + n) (λ e. (let l = ltb-true n 2 small in omega (arith, e, l))))
        go (Link x) (Link y) zero1 zero2 stay = here 2 8 y n zero1 zero2 (λ small. stay (2 + n) (λ e. (let l = ltb-true n 2 small in omega (arith, e, l))))
        go (Link x) (Entry y) zero1 zero2 stay = there 0 7 y n (stay 7 (λ e. omega (arith, e))) (λ small. stay (0 + n) (λ e. (let l = ltb-true n 2 small in omega (arith, e, l))))

    pub counted : IsCounted f → IsCounted f'
    counted is z0 z1 z2 z3 =
        is (sym (low (mark_of s) 0 refl (high s) (omega arith)) ∙ z0) (sym (low (mark_of s) 1 refl (high s) (omega arith)) ∙ z1)
        (sym (low (mark_of s) 2 refl (high s) (omega arith)) ∙ z2) (sym (low (mark_of s) 3 refl (high s) (omega arith)) ∙ z3)
      where
        high : (t : Side) → 7 ≤ mark_of t
        high (Entry x) = omega arith
        high (Link x) = omega arith

-- a sum of a side whose number stands is one of the nine
pub side_is : (f : ℕ → ℕ) (s : Side) (n : ℕ) → f (mark_of s) ≡ number_of s → n < 2 → side_of f s n ≡ f (first_of s + n)
side_is f s n has small =
    ap (λ b. cond (b && nat_lt n 2) (f (first_of s + n)) 0) (eq-eqb (f (mark_of s)) (number_of s) has)
    ∙ ap (λ b. cond b (f (first_of s + n)) 0) (lt-ltb n 2 small)

-- where a side has sums, its number stands
pub stands_number : (f : ℕ → ℕ) (s : Side) → has_sums (side_of f s) ≡ true → f (mark_of s) ≡ number_of s
stands_number f s has = go (f (mark_of s) == number_of s) refl
  where
    go : (b : Bool) → (f (mark_of s) == number_of s) ≡ b → f (mark_of s) ≡ number_of s
    go true is = eqb-true (f (mark_of s)) (number_of s) is
    go false is = absurd (cc (sym has ∙ ap (λ b. not (cond (b && true) (f (first_of s + 0)) 0 == 0 && cond (b && true) (f (first_of s + 1)) 0 == 0)) is))

pub stands_by : (f : ℕ → ℕ) (s : Side) → (side_of f s 0 ≡ 0 → side_of f s 1 ≡ 0 → ⊥) → f (mark_of s) ≡ number_of s
stands_by f s some = go (f (mark_of s) == number_of s) refl
  where
    go : (b : Bool) → (f (mark_of s) == number_of s) ≡ b → f (mark_of s) ≡ number_of s
    go true is = eqb-true (f (mark_of s)) (number_of s) is
    go false is = absurd (some (ap (λ b. cond (b && true) (f (first_of s + 0)) 0) is) (ap (λ b. cond (b && true) (f (first_of s + 1)) 0) is))

-- where no side has sums, each is zero
none_side : (f : ℕ → ℕ) (s : Side) (n : ℕ) → f 0 ≡ 0 → f 1 ≡ 0 → f 2 ≡ 0 → f 3 ≡ 0 → side_of f s n ≡ 0
none_side f s n z0 z1 z2 z3 = go s (f (mark_of s) == number_of s) (nat_lt n 2) refl
  where
    none_at : (t : Side) (k : ℕ) → k < 2 → f (first_of t + k) ≡ 0
    none_at (Entry x) zero small = z0
    none_at (Entry x) (suc zero) small = z1
    none_at (Link x) zero small = z2
    none_at (Link x) (suc zero) small = z3
    none_at t (suc (suc k)) small = absurd (omega (arith, small))

    go : (t : Side) (b l : Bool) → nat_lt n 2 ≡ l → cond (b && l) (f (first_of t + n)) 0 ≡ 0
    go t true true small = none_at t n (ltb-true n 2 small)
    go t true false small = refl
    go t false l small = refl

own_hit : (s : Side) (field amount : ℕ) → field < 2 → is_same_side s s ≡ true → cond (is_same_side s s && (field == field && nat_lt field 9)) amount 0 ≡ amount
own_hit s field amount small is =
    ap (λ b. cond (b && (field == field && nat_lt field 9)) amount 0) is
    ∙ ap (λ b. cond (b && nat_lt field 9) amount 0) (eq-eqb field field refl) ∙ ap (λ b. cond b amount 0) (lt-ltb field 9 (omega (arith, small)))

-- a side that an amount went to has a sum
pub shifted_counts : (f f' : ℕ → ℕ) (s : Side) (field amount : ℕ) → Shifts is_same_side raise (side_of f) (side_of f') s field amount → field < 2 → 0 < amount
    → is_same_side s s ≡ true → IsCounted f'
shifted_counts f f' s field amount more small some own z0 z1 z2 z3 =
    let e = more s field in
    let none = none_side f' s field z0 z1 z2 z3 in
    let hit = own_hit s field amount small own in
    absurd (omega (arith, some))

-- what is lowered to nothing
module _ (f f' : ℕ → ℕ) (s : Side) (field amount : ℕ) where
  no_side : (t : Side) (n : ℕ) → side_of (sums_at None) t n ≡ 0
  no_side t n = go (0 == number_of t) (nat_lt n 2)
    where
      go : (b l : Bool) → ◌≡◌ {A = ℕ} (cond (b && l) 0 0) 0
      go true true = refl
      go true false = refl
      go false l = refl

  pub shifts_away : Shifts is_same_side lower (side_of f) (side_of f') s field amount → (IsCounted f' → ⊥)
      → Shifts is_same_side lower (side_of f) (side_of (sums_at None)) s field amount
  shifts_away less gone t n = no_side t n ∙ sym (zero_of t n) ∙ less t n
    where
      decide : (k : ℕ) (A : Type 0) → (f' k ≡ 0 → A) → ((f' k ≡ 0 → ⊥) → A) → A
      decide k A then else_then = ⊎_elim then else_then (cases_eq (f' k) 0)

      zero_of : (t : Side) (m : ℕ) → side_of f' t m ≡ 0
      zero_of t m =
          decide 0 _ (λ z0. decide 1 _ (λ z1. decide 2 _ (λ z2. decide 3 _ (λ z3. none_side f' t m z0 z1 z2 z3)
          (λ n3. absurd (gone (λ y0 y1 y2 y3. absurd (n3 y3))))) (λ n2. absurd (gone (λ y0 y1 y2 y3. absurd (n2 y2)))))
          (λ n1. absurd (gone (λ y0 y1 y2 y3. absurd (n1 y1))))) (λ n0. absurd (gone (λ y0 y1 y2 y3. absurd (n0 y0))))
