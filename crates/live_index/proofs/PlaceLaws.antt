-- Places in the three orders: which are alike, which come first, and what a set or a map of them has after a change.
use Rattle.std.proofs.Common.{◌≡◌, ℕ, ◌≤◌, Bool, true, false, cond, ◌&&◌, List, [], ◌∷◌, refl, sym, ap, ◌∙◌, subst, arith}
use Rattle.std.specs.Prelude.{◌==◌, Option, Some, None, is_some}
use Rattle.std.specs.Ordering.{nat_cmp, ordering_then, is_eq, is_gt}
use Rattle.std.specs.Cmp.{unsigned_tied}
use Rattle.std.specs.declared.cmp.Ordering.{Ordering}
use Rattle.std.specs.declared.cmp.Ordering.TheVariants.{Less, Equal, Greater}
use Rattle.std.specs.declared.ops.Bound.TheVariants.{Included, Excluded, Unbounded}
use Rattle.std.specs.BTreeMap as map
use Rattle.std.specs.BTreeMap.{is_at}
use Rattle.std.specs.BTreeMap.Range.{IsRangeOf}
use Rattle.std.specs.BTreeSet as set
use Rattle.std.proofs.lemmas.Bool.{eqb-true}
use Rattle.std.proofs.lemmas.Bool.Decides.{nat_tests}
use Rattle.verdict.proofs.Numbers.{equal_from}
use Rattle.verdict.proofs.Truth.{cond_within, then_tied, and_alike, and_left, and_right, then_less}
use Rattle.verdict.specs.OnDisk.{key_below, key_same}
use Rattle.verdict.specs.declared.key.Key.{Key}
use Rattle.live_index.specs.declared.live.Live.{Live}
use Rattle.live_index.specs.declared.places.ByTree.{ByTree}
use Rattle.live_index.specs.declared.places.ByAddress.{ByAddress}
use Rattle.live_index.specs.declared.places.ByFirst.{ByFirst}
use Rattle.live_index.specs.Orders.{address_place, by_address, by_first, by_key, by_tree, is_address_of, is_key_of, key_place}
use Rattle.live_index.specs.Pairs.{comes_before}

-- ---- places that are alike

pub tied_tree : (k q : ByTree) → is_at (by_tree k) q ≡ (k.tree == q.tree && k.address == q.address)
tied_tree k q = then_tied (nat_cmp k.tree q.tree) (nat_cmp k.address q.address) ∙ and_alike _ _ _ _ (unsigned_tied k.tree q.tree) (unsigned_tied k.address q.address)

pub tied_address : (k q : ByAddress) → is_at (by_address k) q ≡ (k.address == q.address && k.tree == q.tree)
tied_address k q = then_tied (nat_cmp k.address q.address) (nat_cmp k.tree q.tree) ∙ and_alike _ _ _ _ (unsigned_tied k.address q.address) (unsigned_tied k.tree q.tree)

tied_name : (k q : Key) → is_eq (by_key k q) ≡ key_same k q
tied_name k q =
    then_tied (nat_cmp k.objectid q.objectid) (ordering_then (nat_cmp k.kind q.kind) (nat_cmp k.offset q.offset))
    ∙ and_alike _ _ _ _ (unsigned_tied k.objectid q.objectid)
    (then_tied (nat_cmp k.kind q.kind) (nat_cmp k.offset q.offset) ∙ and_alike _ _ _ _ (unsigned_tied k.kind q.kind) (unsigned_tied k.offset q.offset))

abbrev pub same_place : ByFirst → ByFirst → Bool
same_place k q = k.tree == q.tree && (k.level == q.level && (key_same k.first q.first && k.address == q.address))

pub tied_key : (k q : ByFirst) → is_at (by_first k) q ≡ same_place k q
tied_key k q =
    then_tied (nat_cmp k.tree q.tree) (ordering_then (nat_cmp k.level q.level) (ordering_then (by_key k.first q.first) (nat_cmp k.address q.address)))
    ∙ and_alike _ _ _ _ (unsigned_tied k.tree q.tree)
    (then_tied (nat_cmp k.level q.level) (ordering_then (by_key k.first q.first) (nat_cmp k.address q.address))
    ∙ and_alike _ _ _ _ (unsigned_tied k.level q.level)
    (then_tied (by_key k.first q.first) (nat_cmp k.address q.address)
    ∙ and_alike _ _ _ _ (tied_name k.first q.first) (unsigned_tied k.address q.address)))

pub same_address : (k q : ByAddress) → (k.address == q.address && k.tree == q.tree) ≡ true → k ≡ q
same_address k q e =
    let a : k.address ≡ q.address = eqb-true _ _ (and_left _ _ e) in
    let t : k.tree ≡ q.tree = eqb-true _ _ (and_right (k.address == q.address) _ e) in
    λ i. record { address = a i; tree = t i }

pub same_name : (k q : Key) → key_same k q ≡ true → k ≡ q
same_name k q e =
    let o : k.objectid ≡ q.objectid = eqb-true _ _ (and_left _ _ e) in
    let rest : (k.kind == q.kind && k.offset == q.offset) ≡ true = and_right (k.objectid == q.objectid) _ e in
    let n : k.kind ≡ q.kind = eqb-true _ _ (and_left _ _ rest) in
    let f : k.offset ≡ q.offset = eqb-true _ _ (and_right (k.kind == q.kind) _ rest) in
    λ i. record { objectid = o i; kind = n i; offset = f i }

pub same_key : (k q : ByFirst) → same_place k q ≡ true → k ≡ q
same_key k q e =
    let t : k.tree ≡ q.tree = eqb-true _ _ (and_left _ _ e) in
    let rest : (k.level == q.level && (key_same k.first q.first && k.address == q.address)) ≡ true = and_right (k.tree == q.tree) _ e in
    let l : k.level ≡ q.level = eqb-true _ _ (and_left _ _ rest) in
    let more : (key_same k.first q.first && k.address == q.address) ≡ true = and_right (k.level == q.level) _ rest in
    let f : k.first ≡ q.first = same_name _ _ (and_left _ _ more) in
    let a : k.address ≡ q.address = eqb-true _ _ (and_right (key_same k.first q.first) _ more) in
    λ i. record { tree = t i; level = l i; first = f i; address = a i }

-- ---- sets of places after a change

pub set_address : (s n : set.BTreeSet ByAddress) (b : Bool) (k : ByAddress) (live : Live) → k ≡ address_place live → set.UpdatesBy by_address (by_address k) s n b
    → (place : ByAddress) → set.contains by_address n place ≡ cond (is_address_of live place) b (set.contains by_address s place)
set_address s n b k live is updates place =
    updates.0 place ∙ ap (λ t. cond t b (set.contains by_address s place)) (tied_address k place ∙ ap (λ x. x.address == place.address && x.tree == place.tree) is)

pub map_key : (m n : map.BTreeMap ByFirst Live) (w : Option Live) (k : ByFirst) (live : Live) → k ≡ key_place live → map.UpdatesBy by_first (by_first k) m n w
    → (place : ByFirst) → map.get by_first n place ≡ cond (is_key_of live place) w (map.get by_first m place)
map_key m n w k live is updates place =
    updates.0 place ∙ ap (λ t. cond t w (map.get by_first m place)) (tied_key k place ∙ ap (λ x. same_place x place) is)

-- what is added and taken again is as before, where it was not there
pub undone_address : (s : set.BTreeSet ByAddress) (live : Live) → set.contains by_address s (address_place live) ≡ false → (place : ByAddress)
    → cond (is_address_of live place) false (cond (is_address_of live place) true (set.contains by_address s place)) ≡ set.contains by_address s place
undone_address s live none place =
    elim (is_address_of live place) as (λ b. is_address_of live place ≡ b → cond b false (cond b true (set.contains by_address s place)) ≡ set.contains by_address s place) [
      | true ↦ λ e. sym (ap (set.contains by_address s) (sym (same_address (address_place live) place e)) ∙ none)
      | false ↦ λ e. refl
    ] refl

-- a pair in the place of another: where both are at one place, it replaces that; else the new one is added and the old one is taken
pub moved_same : (m : map.BTreeMap ByFirst Live) (from to : Live) → key_place from ≡ key_place to → (place : ByFirst)
    → cond (is_key_of to place) (Some to) (map.get by_first m place) ≡ cond (is_key_of to place) (Some to) (cond (is_key_of from place) None (map.get by_first m place))
moved_same m from to is place =
    sym (cond_within (is_key_of to place) (Some to) None (map.get by_first m place))
    ∙ ap (λ b. cond (is_key_of to place) (Some to) (cond b None (map.get by_first m place))) (ap (λ x. same_place x place) (sym is))

pub moved_other : (m : map.BTreeMap ByFirst Live) (from to : Live) → same_place (key_place from) (key_place to) ≡ false → (place : ByFirst)
    → cond (is_key_of from place) None (cond (is_key_of to place) (Some to) (map.get by_first m place)) ≡ cond (is_key_of to place) (Some to) (cond (is_key_of from place) None (map.get by_first m place))
moved_other m from to apart place =
    elim (is_key_of to place) as (λ b. is_key_of to place ≡ b → cond (is_key_of from place) None (cond b (Some to) (map.get by_first m place)) ≡ cond b (Some to) (cond (is_key_of from place) None (map.get by_first m place))) [
      | true ↦ λ e.
          let other : is_key_of from place ≡ false = ap (same_place (key_place from)) (sym (same_key (key_place to) place e)) ∙ apart in
          ap (λ b. cond b None (Some to)) other
      | false ↦ λ e. refl
    ] refl

-- ---- what comes first

from_start : (a b : ByAddress) → comes_before b.address b.tree a.address a.tree ≡ false → is_gt (by_address a b) ≡ false
from_start a b h = grind (arith, nat_tests)

start_from : (a b : ByAddress) → is_gt (by_address a b) ≡ false → comes_before b.address b.tree a.address a.tree ≡ false
start_from a b h = grind (arith, nat_tests)

pub none_from : (s : set.BTreeSet ByAddress) (a : ByAddress) (r : List ByAddress) → set.IsKeyRangeOf by_address (Included a) Unbounded s r → r ≡ []
    → (place : ByAddress) → comes_before place.address place.tree a.address a.tree ≡ false → set.contains by_address s place ≡ false
none_from s a r range is place h = range.5 is place (from_start a place h, tt)

pub absent_if : (b : Bool) → (b ≡ true → true ≡ false) → b ≡ false
absent_if = elim [ true ↦ λ f. f refl | false ↦ λ f. refl ]

pub first_from : (s : set.BTreeSet ByAddress) (a : ByAddress) (r : List ByAddress) → set.IsKeyRangeOf by_address (Included a) Unbounded s r → (first : ByAddress) (rest : List ByAddress) → r ≡ first ∷ rest
    → (set.contains by_address s first ≡ true)
    × (comes_before first.address first.tree a.address a.tree ≡ false)
    × ((place : ByAddress) → comes_before place.address place.tree a.address a.tree ≡ false → comes_before place.address place.tree first.address first.tree ≡ true → set.contains by_address s place ≡ false)
first_from s a r range first rest is =
    let here : set.IsKeyRangeOf by_address (Included a) Unbounded s (first ∷ rest) = subst (set.IsKeyRangeOf by_address (Included a) Unbounded s) is range in (
      here.1.1,
      start_from a first here.1.0.0,
      λ place low before. absent_if _ (λ had. sym before ∙ start_from first place (here.2 place (from_start a place low, tt) had)),
    )

-- ---- the next key of a tree and a level

pub then_equal : (o p : Ordering) → o ≡ Equal → ordering_then o p ≡ p
then_equal o p e = ap (λ x. ordering_then x p) e

pub then_greater : (o p : Ordering) → o ≡ Greater → ordering_then o p ≡ Greater
then_greater o p e = ap (λ x. ordering_then x p) e

key_less : (a b : Key) → key_below a b ≡ true → by_key a b ≡ Less
key_less a b h = grind (arith, nat_tests)

key_greater : (a b : Key) → key_below a b ≡ true → by_key b a ≡ Greater
key_greater a b h = grind (arith, nat_tests)

less_key : (a b : Key) → by_key a b ≡ Less → key_below a b ≡ true
less_key a b h = grind (arith, nat_tests)

not_less : (a b : ℕ) → b ≤ a → nat_cmp a b ≡ Less → true ≡ false
not_less a b h e = grind (arith, nat_tests)

key_after : (a b : Key) (x y : ℕ) → y ≤ x → ordering_then (by_key a b) (nat_cmp x y) ≡ Less → key_below a b ≡ true
key_after a b x y h is =
    elim (by_key a b) as (λ o. by_key a b ≡ o → ordering_then o (nat_cmp x y) ≡ Less → key_below a b ≡ true) [
      | Less ↦ λ e _. less_key a b e
      | Equal ↦ λ _ less. cc (not_less x y h less)
      | Greater ↦ λ _ less. cc
    ] refl is

abbrev place : ℕ → ℕ → Key → ℕ → ByFirst
place t l k a = record { tree = t; level = l; first = k; address = a }

beyond : (t l : ℕ) (k q : Key) (a b : ℕ) → key_below k q ≡ true → by_first (place t l k a) (place t l q b) ≡ Less
beyond t l k q a b h = then_equal _ _ (equal_from t t refl) ∙ then_equal _ _ (equal_from l l refl) ∙ then_less _ _ (key_less k q h)

abbrev had : map.BTreeMap ByFirst Live → ByFirst → Bool
had m place = is_some (map.get by_first m place)

abbrev NextIs : map.BTreeMap ByFirst Live → ℕ → ℕ → Key → Option Key → Type 0
NextIs m t l key None = (a : ℕ) (k : Key) → key_below key k ≡ true → had m (place t l k a) ≡ false
NextIs m t l key (Some next) =
    (key_below key next ≡ true)
    × ((a : ℕ) × (had m (place t l next a) ≡ true))
    × ((a : ℕ) (k : Key) → key_below key k ≡ true → key_below k next ≡ true → had m (place t l k a) ≡ false)

pub no_key_after : (m : map.BTreeMap ByFirst Live) (t l : ℕ) (key : Key) (top : ℕ) (r : List (ByFirst × Live)) → IsRangeOf by_first (Excluded (place t l key top)) Unbounded m r → r ≡ []
    → (a : ℕ) (k : Key) → key_below key k ≡ true → had m (place t l k a) ≡ false
no_key_after m t l key top r range is a k h = ap is_some (range.5 is (place t l k a) (beyond t l key k top a h, tt))

other_group : (t l t' l' : ℕ) (o p : Ordering) → (t' == t && l' == l) ≡ false → ordering_then (nat_cmp t t') (ordering_then (nat_cmp l l') o) ≡ Less → ordering_then (nat_cmp t' t) (ordering_then (nat_cmp l' l) p) ≡ Greater
other_group t l t' l' o p h e = grind (arith, nat_tests)

pub other_key_after : (m : map.BTreeMap ByFirst Live) (t l : ℕ) (key : Key) (top : ℕ) (r : List (ByFirst × Live)) → IsRangeOf by_first (Excluded (place t l key top)) Unbounded m r
    → (first : ByFirst × Live) (rest : List (ByFirst × Live)) → r ≡ first ∷ rest → (first.0.tree == t && first.0.level == l) ≡ false
    → (a : ℕ) (k : Key) → key_below key k ≡ true → had m (place t l k a) ≡ false
other_key_after m t l key top r range first rest is apart a k h =
    let here : IsRangeOf by_first (Excluded (place t l key top)) Unbounded m (first ∷ rest) = subst (IsRangeOf by_first (Excluded (place t l key top)) Unbounded m) is range in
    let later : by_first first.0 (place t l k a) ≡ Greater = other_group t l first.0.tree first.0.level _ _ apart here.1.0.0 in
    absent_if _ (λ is_had. sym (ap is_gt later) ∙ here.2 (place t l k a) (beyond t l key k top a h, tt) is_had)

pub key_found : (m : map.BTreeMap ByFirst Live) (t l : ℕ) (key : Key) (top : ℕ) (r : List (ByFirst × Live)) → IsRangeOf by_first (Excluded (place t l key top)) Unbounded m r
    → (first : ByFirst × Live) (rest : List (ByFirst × Live)) → r ≡ first ∷ rest → first.0.tree ≡ t → first.0.level ≡ l → first.0.address ≤ top
    → (key_below key first.0.first ≡ true)
    × ((a : ℕ) × (had m (place t l first.0.first a) ≡ true))
    × ((a : ℕ) (k : Key) → key_below key k ≡ true → key_below k first.0.first ≡ true → had m (place t l k a) ≡ false)
key_found m t l key top r range first rest is tree level low =
    let here : IsRangeOf by_first (Excluded (place t l key top)) Unbounded m (first ∷ rest) = subst (IsRangeOf by_first (Excluded (place t l key top)) Unbounded m) is range in
    let itself : place t l first.0.first first.0.address ≡ first.0 = λ i. record { tree = sym tree i; level = sym level i; first = first.0.first; address = first.0.address } in (
      key_after key first.0.first top first.0.address low
          (sym (then_equal _ _ (equal_from t first.0.tree (sym tree)) ∙ then_equal _ _ (equal_from l first.0.level (sym level))) ∙ here.1.0.0),
      (first.0.address, ap (had m) itself ∙ ap is_some here.1.1),
      λ a k h before.
          let later : by_first first.0 (place t l k a) ≡ Greater = then_equal _ _ (equal_from first.0.tree t tree) ∙ then_equal _ _ (equal_from first.0.level l level) ∙ then_greater _ _ (key_greater k first.0.first before) in
          absent_if _ (λ is_had. sym (ap is_gt later) ∙ here.2 (place t l k a) (beyond t l key k top a h, tt) is_had),
    )

-- the key of the first place behind, where it is one of the tree and the level
pub next_is : (m : map.BTreeMap ByFirst Live) (t l : ℕ) (key : Key) (top : ℕ) (r : List (ByFirst × Live)) → IsRangeOf by_first (Excluded (place t l key top)) Unbounded m r
    → (first : ByFirst × Live) (rest : List (ByFirst × Live)) → r ≡ first ∷ rest → first.0.address ≤ top
    → (found : Option Key) → found ≡ cond (first.0.tree == t && first.0.level == l) (Some first.0.first) None → NextIs m t l key found
next_is m t l key top r range first rest is low found so =
    elim (first.0.tree == t && first.0.level == l) as (λ b. (first.0.tree == t && first.0.level == l) ≡ b → found ≡ cond b (Some first.0.first) None → NextIs m t l key found) [
      | true ↦ λ e f. subst (NextIs m t l key) (sym f)
          (key_found m t l key top r range first rest is (eqb-true _ _ (and_left _ _ e)) (eqb-true _ _ (and_right (first.0.tree == t) _ e)) low)
      | false ↦ λ e f. subst (NextIs m t l key) (sym f) (other_key_after m t l key top r range first rest is e)
    ] refl so
