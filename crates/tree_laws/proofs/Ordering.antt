-- The order of keys, and that of the children of a node.
use Rattle.std.proofs.Common.{◌≡◌, ℕ, Bool, true, false, ◌&&◌, ◌||◌, ◌⊎◌, inl, inr, refl, ap, sym, subst, ◌∙◌, arith}
use Rattle.std.specs.Prelude.{nat_lt}
use Rattle.std.proofs.lemmas.Bool.Decides.{nat_tests}
use Rattle.std.proofs.lemmas.Grind.{common_steps}
use Rattle.live_index.proofs.PlaceLaws.{same_name}
use Rattle.tree_laws.proofs.Mixing.{same_itself}
use Rattle.verdict.proofs.Truth.{and_parts, never, or_cases, or_right}
use Rattle.verdict.specs.OnDisk.{key_below, key_same}
use Rattle.verdict.specs.declared.key.Key.{Key}
use Rattle.tree_laws.specs.declared.told.Start.{Start}
use Rattle.tree_laws.specs.Listed.{is_before}
use Rattle.tree_laws.proofs.Bounds.{below_trans}

neither : (a b : Key) → key_below a b ≡ false → key_below b a ≡ false → key_same a b ≡ true
neither a b first later = grind (arith, common_steps)

-- of two keys neither of which is below the other
pub one_key : (a b : Key) → key_below a b ≡ false → key_below b a ≡ false → a ≡ b
one_key a b first later = same_name a b (neither a b first later)

-- what is not below a key that is not below another
pub from_trans : (a b low : Key) → key_below b low ≡ false → key_below a b ≡ false → key_below a low ≡ false
from_trans a b low first later = by (key_below a low) refl (key_below b a) refl
  where
    by : (x : Bool) → key_below a low ≡ x → (y : Bool) → key_below b a ≡ y → x ≡ false
    by false is y at = refl
    by true is true at = absurd (never (key_below b low) (below_trans b a low at is) first)
    by true is false at =
        let same : a ≡ b = one_key a b later at in
        absurd (never (key_below b low) (subst (λ k. key_below k low ≡ true) same is) first)

-- what is below a key is not above what is not below it
pub not_less : (v w q : Key) → key_below w q ≡ true → key_below v q ≡ false → key_below v w ≡ false
not_less v w q under over = by (key_below v w) refl
  where
    by : (x : Bool) → key_below v w ≡ x → x ≡ false
    by false is = refl
    by true is = absurd (never (key_below v q) (below_trans v w q is under) over)

before_cases : (a b : Start) → is_before a b ≡ true → (key_below a.pointer.key b.pointer.key ≡ true) ⊎ ((a.pointer.key ≡ b.pointer.key) × (nat_lt a.pointer.address b.pointer.address ≡ true))
before_cases a b is = by (or_cases (key_below a.pointer.key b.pointer.key) (key_same a.pointer.key b.pointer.key && nat_lt a.pointer.address b.pointer.address) is)
  where
    by : (key_below a.pointer.key b.pointer.key ≡ true) ⊎ ((key_same a.pointer.key b.pointer.key && nat_lt a.pointer.address b.pointer.address) ≡ true)
        → (key_below a.pointer.key b.pointer.key ≡ true) ⊎ ((a.pointer.key ≡ b.pointer.key) × (nat_lt a.pointer.address b.pointer.address ≡ true))
    by (inl less) = inl less
    by (inr less) =
        let both = and_parts (key_same a.pointer.key b.pointer.key) (nat_lt a.pointer.address b.pointer.address) less in
        inr (same_name a.pointer.key b.pointer.key both.0, both.1)

pub before_of : (a b : Start) → key_below a.pointer.key b.pointer.key ≡ true → is_before a b ≡ true
before_of a b less = rw less refl

before_at : (a b : Start) → a.pointer.key ≡ b.pointer.key → nat_lt a.pointer.address b.pointer.address ≡ true → is_before a b ≡ true
before_at a b same less =
    or_right (key_below a.pointer.key b.pointer.key) (key_same a.pointer.key b.pointer.key && nat_lt a.pointer.address b.pointer.address)
    (ap (λ x. x && nat_lt a.pointer.address b.pointer.address) (subst (λ k. key_same a.pointer.key k ≡ true) same (same_itself a.pointer.key)) ∙ less)

less_trans : (l m n : ℕ) → nat_lt l m ≡ true → nat_lt m n ≡ true → nat_lt l n ≡ true
less_trans l m n first later = grind (arith, nat_tests)

pub before_trans : (a b c : Start) → is_before a b ≡ true → is_before b c ≡ true → is_before a c ≡ true
before_trans a b c first later = by (before_cases a b first) (before_cases b c later)
  where
    by : (key_below a.pointer.key b.pointer.key ≡ true) ⊎ ((a.pointer.key ≡ b.pointer.key) × (nat_lt a.pointer.address b.pointer.address ≡ true))
        → (key_below b.pointer.key c.pointer.key ≡ true) ⊎ ((b.pointer.key ≡ c.pointer.key) × (nat_lt b.pointer.address c.pointer.address ≡ true)) → is_before a c ≡ true
    by (inl x) (inl y) = before_of a c (below_trans a.pointer.key b.pointer.key c.pointer.key x y)
    by (inl x) (inr y) = before_of a c (subst (λ k. key_below a.pointer.key k ≡ true) y.0 x)
    by (inr x) (inl y) = before_of a c (subst (λ k. key_below k c.pointer.key ≡ true) (sym x.0) y)
    by (inr x) (inr y) = before_at a c (x.0 ∙ y.0) (less_trans a.pointer.address b.pointer.address c.pointer.address x.1 y.1)

pub before_self : (a : Start) → is_before a a ≡ false
before_self a = by (is_before a a) refl
  where
    below_self : (k : Key) → key_below k k ≡ false
    below_self k = grind (arith, common_steps)

    less_self : (n : ℕ) → nat_lt n n ≡ false
    less_self n = grind (arith, nat_tests)

    cases : (key_below a.pointer.key a.pointer.key ≡ true) ⊎ ((a.pointer.key ≡ a.pointer.key) × (nat_lt a.pointer.address a.pointer.address ≡ true)) → ⊥
    cases (inl x) = never (key_below a.pointer.key a.pointer.key) x (below_self a.pointer.key)
    cases (inr x) = never (nat_lt a.pointer.address a.pointer.address) x.1 (less_self a.pointer.address)

    by : (b : Bool) → is_before a a ≡ b → b ≡ false
    by false is = refl
    by true is = absurd (cases (before_cases a a is))

-- of two children neither of which comes before the other the addresses are the same
pub same_place : (a b : Start) → is_before a b ≡ false → is_before b a ≡ false → a.pointer.address ≡ b.pointer.address
same_place a b first later =
    let x = split (key_below a.pointer.key b.pointer.key) (key_same a.pointer.key b.pointer.key && nat_lt a.pointer.address b.pointer.address) first in
    let y = split (key_below b.pointer.key a.pointer.key) (key_same b.pointer.key a.pointer.key && nat_lt b.pointer.address a.pointer.address) later in
    equal a.pointer.address b.pointer.address
    (right (key_same a.pointer.key b.pointer.key) (nat_lt a.pointer.address b.pointer.address) (neither a.pointer.key b.pointer.key x.0 y.0) x.1)
    (right (key_same b.pointer.key a.pointer.key) (nat_lt b.pointer.address a.pointer.address) (neither b.pointer.key a.pointer.key y.0 x.0) y.1)
  where
    split : (p q : Bool) → (p || q) ≡ false → (p ≡ false) × (q ≡ false)
    split true q is = absurd (cc)
    split false q is = (refl, is)

    right : (p q : Bool) → p ≡ true → (p && q) ≡ false → q ≡ false
    right true q is none = none
    right false q is none = absurd (cc)

    equal : (m n : ℕ) → nat_lt m n ≡ false → nat_lt n m ≡ false → m ≡ n
    equal m n first later = grind (arith, nat_tests)
