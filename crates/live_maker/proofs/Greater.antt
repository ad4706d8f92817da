-- The greater of two keys: in which order several are taken together does not matter.
use Rattle.std.proofs.Common.{◌≡◌, ℕ, Bool, true, false, refl, ap, ◌∙◌, arith}
use Rattle.std.proofs.lemmas.Grind.{common_steps}
use Rattle.tree_laws.proofs.Bounds.{below_self}
use Rattle.verdict.specs.OnDisk.{key_below}
use Rattle.verdict.specs.Rules.{no_key}
use Rattle.verdict.specs.declared.key.Key.{Key}
use Rattle.tree_laws.specs.LivePairs.{greater_key}

-- the order of keys is strict and total
below_trans : (a b c : Key) → key_below a b ≡ true → key_below b c ≡ true → key_below a c ≡ true
below_trans a b c ab bc = grind (arith, common_steps)

not_below : (a b c : Key) → key_below a b ≡ false → key_below b c ≡ false → key_below a c ≡ false
not_below a b c ab bc = grind (arith, common_steps)

below_none : (a : Key) → key_below a no_key ≡ false
below_none a = grind (arith, common_steps)

abbrev key : ℕ → ℕ → ℕ → Key
key objectid kind offset = record { objectid = objectid; kind = kind; offset = offset }

alike : (a b : Key) → key_below a b ≡ false → key_below b a ≡ false → a ≡ b
alike a b x y =
    let o : a.objectid ≡ b.objectid = grind (arith, common_steps) in
    let k : a.kind ≡ b.kind = grind (arith, common_steps) in
    let f : a.offset ≡ b.offset = grind (arith, common_steps) in
    ap (λ n. key n a.kind a.offset) o ∙ ap (λ n. key b.objectid n a.offset) k ∙ ap (λ n. key b.objectid b.kind n) f

-- no key is the least
pub greater_none : (a : Key) → greater_key a no_key ≡ a
greater_none a = let h = below_none a in rw h refl

comm_by : (a b : Key) (x y : Bool) → key_below a b ≡ x → key_below b a ≡ y → greater_key a b ≡ greater_key b a
comm_by a b true true p q = absurd (let h = below_trans a b a p q in let k = below_self a in cc)
comm_by a b true false p q = rw (p, q) refl
comm_by a b false true p q = rw (p, q) refl
comm_by a b false false p q = rw (p, q) (alike a b p q)

pub greater_comm : (a b : Key) → greater_key a b ≡ greater_key b a
greater_comm a b = comm_by a b (key_below a b) (key_below b a) refl refl

assoc_by : (a b c : Key) (x y : Bool) → key_below a b ≡ x → key_below b c ≡ y → greater_key (greater_key a b) c ≡ greater_key a (greater_key b c)
assoc_by a b c true true p q = let h = below_trans a b c p q in rw (p, q, h) refl
assoc_by a b c true false p q = rw (p, q, p) refl
assoc_by a b c false true p q = rw (p, q) refl
assoc_by a b c false false p q = let h = not_below a b c p q in rw (p, q, h, p) refl

pub greater_assoc : (a b c : Key) → greater_key (greater_key a b) c ≡ greater_key a (greater_key b c)
greater_assoc a b c = assoc_by a b c (key_below a b) (key_below b c) refl refl

pub none_greater : (a : Key) → greater_key no_key a ≡ a
none_greater a = greater_comm no_key a ∙ greater_none a

-- the first of three behind the second
pub greater_swap : (a b c : Key) → greater_key (greater_key a b) c ≡ greater_key b (greater_key a c)
greater_swap a b c = ap (λ k. greater_key k c) (greater_comm a b) ∙ greater_assoc b a c
