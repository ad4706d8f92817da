-- The order of items by tree and key.
use Rattle.std.proofs.Common.{◌≡◌, ℕ, ◌<◌, Bool, true, false, ◌&&◌, ◌||◌, List, ltb, eqb, refl, sym, subst, arith}
use Rattle.std.specs.Prelude.{slice_get, slice_index_or, Some}
use Rattle.std.proofs.lemmas.Bool.Decides.{nat_tests}
use Rattle.std.proofs.lemmas.Option.{get_or_from_slice_get, slice_get_within}
use Rattle.verdict.specs.OnDisk.{key_below}
use Rattle.verdict.specs.declared.key.Key.{Key}
use Rattle.records.specs.declared.rec.ItemAt.{ItemAt}
use Rattle.change_records.specs.Changes.{Ascend, HaveOneKey, is_before}

-- ---- an order by one number after another

lex_irrefl : (a : ℕ) (r : Bool) → (r ≡ true → ⊥) → (ltb a a || (eqb a a && r)) ≡ true → ⊥
lex_irrefl a true never is = never refl
lex_irrefl a false never is = grind (arith, nat_tests)

lex_trans : (a b c : ℕ) (r s t : Bool) → (r ≡ true → s ≡ true → t ≡ true) → (ltb a b || (eqb a b && r)) ≡ true → (ltb b c || (eqb b c && s)) ≡ true
    → (ltb a c || (eqb a c && t)) ≡ true
lex_trans a b c true true t more first second = let e : t ≡ true = more refl refl in grind (arith, nat_tests)
lex_trans a b c true false t more first second = grind (arith, nat_tests)
lex_trans a b c false s t more first second = grind (arith, nat_tests)

lex_ties : (a b : ℕ) (r s : Bool) → (ltb a b || (eqb a b && r)) ≡ false → (ltb b a || (eqb b a && s)) ≡ false → (a ≡ b) × (r ≡ false) × (s ≡ false)
lex_ties a b r s first second = grind (arith, nat_tests)

never_below : (a : ℕ) → ltb a a ≡ true → ⊥
never_below a is = grind (arith, nat_tests)

both_below : (a b c : ℕ) → ltb a b ≡ true → ltb b c ≡ true → ltb a c ≡ true
both_below a b c first second = grind (arith, nat_tests)

last_ties : (a b : ℕ) → ltb a b ≡ false → ltb b a ≡ false → a ≡ b
last_ties a b first second = grind (arith, nat_tests)

-- ---- keys

key_irrefl : (a : Key) → key_below a a ≡ true → ⊥
key_irrefl a = lex_irrefl a.objectid _ (lex_irrefl a.kind _ (never_below a.offset))

key_trans : (a b c : Key) → key_below a b ≡ true → key_below b c ≡ true → key_below a c ≡ true
key_trans a b c =
    lex_trans a.objectid b.objectid c.objectid _ _ _ (lex_trans a.kind b.kind c.kind _ _ _ (both_below a.offset b.offset c.offset))

key_ties : (a b : Key) → key_below a b ≡ false → key_below b a ≡ false → a ≡ b
key_ties a b first second =
    let o = lex_ties a.objectid b.objectid _ _ first second in
    let k = lex_ties a.kind b.kind _ _ o.1 o.2 in
    let e1 = o.0 in
    let e2 = k.0 in
    let e3 = last_ties a.offset b.offset k.1 k.2 in
    λ i. record { objectid = e1 i; kind = e2 i; offset = e3 i }

-- ---- items

pub before_irrefl : (a : ItemAt) → is_before a a ≡ true → ⊥
unfolding is_before
before_irrefl a = lex_irrefl a.tree _ (key_irrefl a.key)

pub before_trans : (a b c : ItemAt) → is_before a b ≡ true → is_before b c ≡ true → is_before a c ≡ true
unfolding is_before
before_trans a b c = lex_trans a.tree b.tree c.tree _ _ _ (key_trans a.key b.key c.key)

-- two items of which none is before the other are of one key
pub before_ties : (a b : ItemAt) → is_before a b ≡ false → is_before b a ≡ false → HaveOneKey a b
unfolding is_before
before_ties a b first second =
    let t = lex_ties a.tree b.tree _ _ first second in
    (t.0, key_ties a.key b.key t.1 t.2)

-- an item stands where one of its key does
pub like_left : (a b c : ItemAt) → HaveOneKey a b → is_before b c ≡ true → is_before a c ≡ true
unfolding is_before
like_left a b c same =
    subst (λ t. (ltb t c.tree || (eqb t c.tree && key_below b.key c.key)) ≡ true → (ltb a.tree c.tree || (eqb a.tree c.tree && key_below a.key c.key)) ≡ true) same.0
    (subst (λ k. (ltb a.tree c.tree || (eqb a.tree c.tree && key_below k c.key)) ≡ true → (ltb a.tree c.tree || (eqb a.tree c.tree && key_below a.key c.key)) ≡ true) same.1 (λ h. h))

pub like_right : (a b c : ItemAt) → HaveOneKey b c → is_before a b ≡ true → is_before a c ≡ true
unfolding is_before
like_right a b c same =
    subst (λ t. is_before a b ≡ true → (ltb a.tree t || (eqb a.tree t && key_below a.key c.key)) ≡ true) same.0
    (subst (λ k. is_before a b ≡ true → (ltb a.tree b.tree || (eqb a.tree b.tree && key_below a.key k)) ≡ true) same.1 (λ h. h))

pub one_key_back : (a b : ItemAt) → HaveOneKey a b → HaveOneKey b a
one_key_back a b same = (sym same.0, sym same.1)

pub before_apart : (a b : ItemAt) → is_before a b ≡ true → HaveOneKey a b → ⊥
before_apart a b is same = before_irrefl a (like_right a b a (one_key_back a b same) is)

pub after_apart : (a b : ItemAt) → is_before b a ≡ true → HaveOneKey a b → ⊥
after_apart a b is same = before_apart b a is (one_key_back a b same)

-- of items that ascend, an earlier one is before a later one
pub ascend_at : (items : List ItemAt) → Ascend items → (i k : ℕ) (one later : ItemAt) → i < k → slice_get items i ≡ Some one → slice_get items k ≡ Some later
    → is_before one later ≡ true
ascend_at items ascend i k one later small at_i at_k =
    subst (λ x. is_before x later ≡ true) (get_or_from_slice_get items i one one at_i)
    (subst (λ x. is_before (slice_index_or items i one) x ≡ true) (get_or_from_slice_get items k later one at_k)
    (ascend i k one small (slice_get_within items k later at_k)))
