-- The keys of a trail, and whether they are below a bound.
use Rattle.std.proofs.Common.{◌≡◌, Bool, true, false, ◌&&◌, List, [], ◌∷◌, ◌++◌, refl, sym, arith}
use Rattle.std.specs.Prelude.{Option, Some, None, Ok, Err}
use Rattle.std.proofs.lemmas.Grind.{common_steps}
use Rattle.verdict.proofs.Truth.{and_true, and_parts}
use Rattle.verdict.specs.OnDisk.{key_below, key_same}
use Rattle.verdict.specs.declared.key.Key.{Key}
use Rattle.node_reader.specs.declared.expect.Expect.{Expect}
use Rattle.records.specs.Seen.{Seen}
use Rattle.records.specs.Seen.Seen.{BlockSeen, PointerSeen, ItemSeen}
use Rattle.tree_laws.specs.Skips.{is_below}
use Rattle.tree_laws.proofs.Trails.{Trail, Visit, after, then_trail}
use Rattle.tree_laws.proofs.Visiting.{Visits, visits_later}

-- whether all keys are below a bound
abbrev pub keys_below : List Key → Option Key → Bool
keys_below [] high = true
keys_below (key ∷ keys) high = is_below key high && keys_below keys high

-- whether the key of a record is, of an item or a pointer
abbrev pub record_below : Seen → Option Key → Bool
record_below (BlockSeen block) high = true
record_below (PointerSeen one) high = is_below one.pointer.key high
record_below (ItemSeen one) high = is_below one.key high

abbrev pub own_below : List Seen → Option Key → Bool
own_below [] high = true
own_below (one ∷ more) high = record_below one high && own_below more high

abbrev pub visits_below : List Visit → Option Key → Bool
visits_below [] high = true
visits_below (v ∷ visits) high = own_below v.own high && visits_below visits high

-- whether all keys of a trail are
abbrev pub upto : Trail → Option Key → Bool
upto (Err finding) high = true
upto (Ok visits) high = visits_below visits high

pub and_assoc : (a b c : Bool) → ((a && b) && c) ≡ (a && (b && c))
and_assoc true b c = refl
and_assoc false b c = refl

visits_below_append : (first later : List Visit) (high : Option Key) → visits_below (first ++ later) high ≡ (visits_below first high && visits_below later high)
visits_below_append [] later high = refl
visits_below_append (v ∷ first) later high =
    rw (visits_below_append first later high) (sym (and_assoc (own_below v.own high) (visits_below first high) (visits_below later high)))

pub upto_after : (P : Expect → Type 0) (visits : List Visit) (later : Trail) (high : Option Key) → Visits P later → upto (after visits later) high ≡ (visits_below visits high && upto later high)
unfolding after
upto_after P visits (Err finding) high all = elim all [ ]
upto_after P visits (Ok others) high all = visits_below_append visits others high

pub upto_then : (P : Expect → Type 0) (first later : Trail) (high : Option Key) → Visits P (then_trail first later) → upto (then_trail first later) high ≡ (upto first high && upto later high)
upto_then P (Err finding) later high all = elim all [ ]
upto_then P (Ok visits) later high all = upto_after P visits later high (visits_later P visits later all)

-- a key that is below one that is below a bound is below it too
pub below_through : (a b : Key) (high : Option Key) → is_below a (Some b) ≡ true → is_below b high ≡ true → is_below a high ≡ true
below_through a b None through below = refl
below_through a b (Some high) through below = grind (arith, common_steps)

record_through : (one : Seen) (b : Key) (high : Option Key) → record_below one (Some b) ≡ true → is_below b high ≡ true → record_below one high ≡ true
record_through (BlockSeen block) b high through below = refl
record_through (PointerSeen one) b high through below = below_through one.pointer.key b high through below
record_through (ItemSeen one) b high through below = below_through one.key b high through below

own_through : (own : List Seen) (b : Key) (high : Option Key) → own_below own (Some b) ≡ true → is_below b high ≡ true → own_below own high ≡ true
own_through [] b high through below = refl
own_through (one ∷ more) b high through below =
    let both = and_parts (record_below one (Some b)) (own_below more (Some b)) through in
    and_true (record_below one high) (own_below more high) (record_through one b high both.0 below) (own_through more b high both.1 below)

visits_through : (visits : List Visit) (b : Key) (high : Option Key) → visits_below visits (Some b) ≡ true → is_below b high ≡ true → visits_below visits high ≡ true
visits_through [] b high through below = refl
visits_through (v ∷ visits) b high through below =
    let both = and_parts (own_below v.own (Some b)) (visits_below visits (Some b)) through in
    and_true (own_below v.own high) (visits_below visits high) (own_through v.own b high both.0 below) (visits_through visits b high both.1 below)

pub upto_through : (trail : Trail) (b : Key) (high : Option Key) → upto trail (Some b) ≡ true → is_below b high ≡ true → upto trail high ≡ true
upto_through (Err finding) b high through below = refl
upto_through (Ok visits) b high through below = visits_through visits b high through below

-- all keys are below no bound
record_none : (one : Seen) → record_below one None ≡ true
record_none (BlockSeen block) = refl
record_none (PointerSeen one) = refl
record_none (ItemSeen one) = refl

own_none : (own : List Seen) → own_below own None ≡ true
own_none [] = refl
own_none (one ∷ more) = and_true (record_below one None) (own_below more None) (record_none one) (own_none more)

pub visits_none : (visits : List Visit) → visits_below visits None ≡ true
visits_none [] = refl
visits_none (v ∷ visits) = and_true (own_below v.own None) (visits_below visits None) (own_none v.own) (visits_none visits)

pub upto_none : (trail : Trail) → upto trail None ≡ true
upto_none (Err finding) = refl
upto_none (Ok visits) = visits_none visits

-- the order of keys
pub below_trans : (a b c : Key) → key_below a b ≡ true → key_below b c ≡ true → key_below a c ≡ true
below_trans a b c ab bc = grind (arith, common_steps)

pub below_self : (a : Key) → key_below a a ≡ false
below_self a = grind (arith, common_steps)

-- a key that is the same is below the same bounds
pub below_same : (a b : Key) (high : Option Key) → key_same a b ≡ true → is_below a high ≡ true → is_below b high ≡ true
below_same a b None same below = refl
below_same a b (Some high) same below = grind (arith, common_steps)
