-- What no change names: items that stand apart from the items of both lists.
use Rattle.std.proofs.Common.{◌≡◌, ℕ, zero, suc, ◌+◌, ◌<◌, ◌==◌, Bool, true, false, ◌&&◌, ◌||◌, List, [], ◌∷◌}
use Rattle.std.proofs.Common.{◌++◌, length, map, refl, ap, sym, subst, ◌∙◌, arith, slice_index_or}
use Rattle.std.proofs.lemmas.Bool.{eqb-true}
use Rattle.std.proofs.lemmas.List.{length-append}
use Rattle.std.specs.Prelude.{Option, Some, None, slice_get}
use Rattle.std.specs.List.{AllPairs, Contains, list_any}
use Rattle.std.specs.List.Sorted.{IsPermutation}
use Rattle.std.proofs.lemmas.List.Sorted.{Contains-permutation, IsPermutation-sym}
use Rattle.commit_laws.proofs.named_items.Found.{apart_turns}
use Rattle.live_index.proofs.PlaceLaws.{same_name}
use Rattle.verdict.proofs.Truth.{and_parts}
use Rattle.verdict.specs.OnDisk.{key_same}
use Rattle.records.specs.Part.{Located}
use Rattle.records.specs.declared.rec.ItemAt.{ItemAt}
use Rattle.change_records.specs.Refs.{is_named, names, stands_at}
use Rattle.change_records.specs.Spans.{StandApart}
use Rattle.change_records.specs.declared.changes.ItemChange.{ItemChange}
use Rattle.change_records.specs.declared.changes.ItemChange.TheVariants.{Added, Altered, Removed}
use Rattle.change_records.specs.declared.item_ref.ItemRef.{ItemRef}
use Rattle.tree_change.specs.Gathered.{located_item}
use Rattle.tree_change.proofs.Unordered.{permuted_pairs}
use Rattle.commit_laws.specs.Paired.{name_of}

-- no item of a list stands under a name
abbrev pub NoneStands : ItemRef → List ItemAt → Type 0
NoneStands at items = (k : ℕ) (x : ItemAt) → slice_get items k ≡ Some x → stands_at at (Some x) ≡ false

-- no change names what no item of either list stands under
module _ (old new : List ItemAt) (at : ItemRef) (no_old : NoneStands at old) (no_new : NoneStands at new) where
  none_there : (items : List ItemAt) → NoneStands at items → (k : ℕ) → stands_at at (slice_get items k) ≡ false
  none_there items none k = by (slice_get items k) refl
    where
      by : (found : Option ItemAt) → slice_get items k ≡ found → stands_at at found ≡ false
      by None is = refl
      by (Some x) is = none k x is

  no_name : (change : ItemChange) → names old new at change ≡ false
  no_name (Added is) = none_there new no_new is
  no_name (Removed was) = none_there old no_old was
  no_name (Altered was is) = λ i. none_there old no_old was i || none_there new no_new is i

  pub none_named : (changes : List ItemChange) → is_named old new changes at ≡ false
  unfolding is_named
  none_named changes = each changes
    where
      each : (some : List ItemChange) → list_any (names old new at) some ≡ false
      each [] = refl
      each (change ∷ some) = λ i. no_name change i || each some i

-- what is got of a list is in it
got : {X Y : Type 0} (f : X → Y) (xs : List X) (k : ℕ) (x : X) → slice_get xs k ≡ Some x → Contains (map f xs) (f x)
got f [] k x is = absurd (cc)
got f (y ∷ xs) zero x is = let same : y ≡ x = cc in (0, omega arith, ap f same)
got f (y ∷ xs) (suc k) x is = let rest = got f xs k x is in (suc rest.0, omega (arith, rest.1), rest.2)

-- what holds of any two of two lists, one before the other, holds of one of each
module _ {X : Type 0} (R : X → X → Type 0) where
  behind : (xs ys : List X) (d : X) (j : ℕ) → slice_index_or (xs ++ ys) (length xs + j) d ≡ slice_index_or ys j d
  behind [] ys d j = ap (λ n. slice_index_or ys n d) (let e : 0 + j ≡ j = omega arith in e)
  behind (x ∷ xs) ys d j =
      ap (λ n. slice_index_or (x ∷ (xs ++ ys)) n d) (let e : suc (length xs) + j ≡ suc (length xs + j) = omega arith in e) ∙ behind xs ys d j

  before : (xs ys : List X) (d : X) (i : ℕ) → i < length xs → slice_index_or (xs ++ ys) i d ≡ slice_index_or xs i d
  before [] ys d i less = absurd (omega arith)
  before (x ∷ xs) ys d zero less = refl
  before (x ∷ xs) ys d (suc i) less = before xs ys d i (omega arith)

  pub cross : (xs ys : List X) → AllPairs R (xs ++ ys) → (x y : X) → Contains xs x → Contains ys y → R x y
  cross xs ys all x y has also =
      let long = length-append xs ys in
      let i = has.0 in
      let less : i < length xs = has.1 in
      let j = also.0 in
      let within : j < length ys = also.1 in
      let first : slice_index_or (xs ++ ys) i x ≡ x = before xs ys x i less ∙ has.2 in
      let one : R (slice_index_or (xs ++ ys) i x) (slice_index_or (xs ++ ys) (length xs + j) x) =
      all i (length xs + j) x (omega arith) (omega arith) in
      let later : slice_index_or (xs ++ ys) (length xs + j) x ≡ y = behind xs ys x j ∙ at_default ys j x y within ∙ also.2 in
      subst (λ z. R z y) first (subst (R (slice_index_or (xs ++ ys) i x)) later one)
    where
      at_default : (zs : List X) (k : ℕ) (d e : X) → k < length zs → slice_index_or zs k d ≡ slice_index_or zs k e
      at_default [] k d e less = absurd (omega arith)
      at_default (z ∷ zs) zero d e less = refl
      at_default (z ∷ zs) (suc k) d e less = at_default zs k d e (omega arith)

-- an item stands under no name of an item that it stands apart from
apart_from : (x : ItemAt) (one : Located) → StandApart (located_item x) one → stands_at (name_of one) (Some x) ≡ false
apart_from x one apart = by (x.tree == one.tree && key_same x.key one.key) refl
  where
    by : (b : Bool) → (x.tree == one.tree && key_same x.key one.key) ≡ b → b ≡ false
    by true is =
        let both = and_parts (x.tree == one.tree) (key_same x.key one.key) is in
        elim (apart (eqb-true x.tree one.tree both.0) (same_name x.key one.key both.1)) [ ]
    by false is = refl

-- Where an image's items are those of a list and others, no two under one name, none of the list's stands under the name of another.
pub none_stands : (all left others : List Located) (items : List ItemAt) → AllPairs StandApart all → IsPermutation all (left ++ others)
    → IsPermutation left (map located_item items) → (one : Located) → Contains others one → NoneStands (name_of one) items
none_stands all left others items distinct perm are one has k x is =
    let pairs = permuted_pairs StandApart apart_turns all (left ++ others) perm distinct in
    let there : Contains left (located_item x) =
    Contains-permutation (map located_item items) left (located_item x) (IsPermutation-sym left (map located_item items) are)
    (got located_item items k x is) in
    apart_from x one (cross StandApart left others pairs (located_item x) one there has)
