-- Laws of truth values and of orderings.
use Rattle.std.proofs.Common.{◌≡◌, Bool, true, false, not, ◌&&◌, ◌||◌, ◌⊎◌, inl, inr, refl, sym, ap, ◌∙◌, cond}
use Rattle.std.specs.Ordering.{ordering_then, is_lt, is_eq}
use Rattle.std.specs.declared.cmp.Ordering.{Ordering}
use Rattle.std.specs.declared.cmp.Ordering.TheVariants.{Less, Equal, Greater}

-- no truth value is both
pub never : (b : Bool) → b ≡ true → b ≡ false → ⊥
never b is other = cc

pub decided : (b : Bool) → (b ≡ true) ⊎ (b ≡ false)
decided = elim [ true ↦ inl refl | false ↦ inr refl ]

pub false_if : (b : Bool) → (b ≡ true → ⊥) → b ≡ false
false_if true not = absurd (not refl)
false_if false not = refl

-- two answers are alike where each implies the other
pub both_ways : (a b : Bool) → (a ≡ true → b ≡ true) → (b ≡ true → a ≡ true) → a ≡ b
both_ways true b to from = sym (to refl)
both_ways false true to from = from refl
both_ways false false to from = refl

pub and_true : (a b : Bool) → a ≡ true → b ≡ true → (a && b) ≡ true
and_true a b x y = rw (x, y) refl

pub and_left : (a b : Bool) → (a && b) ≡ true → a ≡ true
and_left = elim [ true ↦ λ b e. refl | false ↦ λ b e. e ]

pub and_right : (a b : Bool) → (a && b) ≡ true → b ≡ true
and_right = elim [ true ↦ λ b e. e | false ↦ λ b e. cc ]

pub and_parts : (a b : Bool) → (a && b) ≡ true → (a ≡ true) × (b ≡ true)
and_parts true b is = (refl, is)
and_parts false b is = absurd (cc)

pub and_false : (a : Bool) → (a && false) ≡ false
and_false true = refl
and_false false = refl

pub and_alike : (a b c d : Bool) → a ≡ b → c ≡ d → (a && c) ≡ (b && d)
and_alike a b c d e f = ap (λ x. x && c) e ∙ ap (λ x. b && x) f

-- what the second implies adds nothing to it
pub absorbs_left : (a b : Bool) → (b ≡ true → a ≡ true) → (a && b) ≡ b
absorbs_left true b f = refl
absorbs_left false true f = f refl
absorbs_left false false f = refl

pub or_left : (a b : Bool) → a ≡ true → (a || b) ≡ true
or_left true b is = refl
or_left false b is = absurd (cc)

pub or_right : (a b : Bool) → b ≡ true → (a || b) ≡ true
or_right true b is = refl
or_right false b is = is

pub or_cases : (a b : Bool) → (a || b) ≡ true → (a ≡ true) ⊎ (b ≡ true)
or_cases true b is = inl refl
or_cases false b is = inr is

pub or_none : (a b : Bool) → a ≡ false → b ≡ false → (a || b) ≡ false
or_none a b is_a is_b = rw (is_a, is_b) refl

pub neither : (a b : Bool) → (a || b) ≡ false → (a ≡ false) × (b ≡ false)
neither true b is = absurd (cc)
neither false b is = (refl, is)

pub or_false_right : (a b : Bool) → (a || b) ≡ false → b ≡ false
or_false_right true b is = absurd (cc)
or_false_right false b is = is

pub or_with_false : (b : Bool) → (b || false) ≡ true → b ≡ true
or_with_false true is = refl
or_with_false false is = is

pub or_assoc : (a b c : Bool) → ((a || b) || c) ≡ (a || (b || c))
or_assoc true b c = refl
or_assoc false b c = refl

pub or_swapped : (a b c : Bool) → (a || (b || c)) ≡ ((b || a) || c)
or_swapped true true c = refl
or_swapped true false c = refl
or_swapped false true c = refl
or_swapped false false c = refl

pub implied : (a b : Bool) → (not a || b) ≡ true → a ≡ true → b ≡ true
implied true b whole is = whole
implied false b whole is = absurd (cc)

pub true_of_not : (b : Bool) → not b ≡ false → b ≡ true
true_of_not true is = refl
true_of_not false is = absurd (cc)

pub false_of_not : (b : Bool) → not b ≡ true → b ≡ false
false_of_not true is = absurd (cc)
false_of_not false is = refl

pub not_of_false : (b : Bool) → b ≡ false → not b ≡ true
not_of_false b e = ap not e

pub false_either_way : (a b : Bool) → (b ≡ false → a ≡ false) → (b ≡ true → a ≡ false) → a ≡ false
false_either_way a true off on = on refl
false_either_way a false off on = off refl

-- a test within the same test
pub cond_within : {A : Type 0} (b : Bool) (x y z : A) → cond b x (cond b y z) ≡ cond b x z
cond_within true x y z = refl
cond_within false x y z = refl

-- orderings

pub is_less : (o : Ordering) → is_lt o ≡ true → o ≡ Less
is_less Less is = refl
is_less Equal is = absurd (cc is)
is_less Greater is = absurd (cc is)

pub is_equal : (o : Ordering) → is_eq o ≡ true → o ≡ Equal
is_equal Less e = absurd (cc)
is_equal Equal e = refl
is_equal Greater e = absurd (cc)

pub then_tied : (o p : Ordering) → is_eq (ordering_then o p) ≡ (is_eq o && is_eq p)
then_tied Less p = refl
then_tied Equal p = refl
then_tied Greater p = refl

pub both_tie : (r s : Ordering) → ordering_then r s ≡ Equal → (r ≡ Equal) × (s ≡ Equal)
both_tie Less s e = absurd (cc)
both_tie Equal s e = (refl, e)
both_tie Greater s e = absurd (cc)

pub then_less : (first later : Ordering) → first ≡ Less → ordering_then first later ≡ Less
then_less Less later is = refl
then_less Equal later is = absurd (cc)
then_less Greater later is = absurd (cc)
