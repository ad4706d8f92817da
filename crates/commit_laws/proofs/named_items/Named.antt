-- What changes name: the items that they take away and that they bring.
use Rattle.std.proofs.Common.{◌≡◌, ℕ, Bool, true, false, ◌⊎◌, inl, inr, List, [], ◌∷◌, refl, sym, ap, ◌∙◌, subst}
use Rattle.std.specs.Prelude.{slice_get, Option, Some, None}
use Rattle.std.specs.List.{Contains, list_any}
use Rattle.std.proofs.lemmas.Bool.{and_from, and_parts, eq-eqb, eqb-true, or_cases, or_left, or_right}
use Rattle.std.proofs.lemmas.Option.{get_or_from_slice_get, same_Some, slice_get-get_or, slice_get_within}
use Rattle.live_index.proofs.PlaceLaws.{same_name}
use Rattle.tree_laws.proofs.Mixing.{same_itself}
use Rattle.verdict.specs.OnDisk.{key_same}
use Rattle.verdict.specs.declared.key.Key.{Key}
use Rattle.records.specs.Part.{owned_part}
use Rattle.records.specs.declared.rec.ItemAt.{ItemAt}
use Rattle.change_records.specs.declared.changes.ItemChange.{ItemChange}
use Rattle.change_records.specs.declared.changes.ItemChange.TheVariants.{Added, Removed, Altered}
use Rattle.change_records.specs.declared.item_ref.ItemRef.{ItemRef}
use Rattle.change_records.specs.Changes.{Ascend, AreChanges, HasNone, HaveOneKey, IsChange}
use Rattle.change_records.specs.Refs.{is_named, names, ref_to, stands_at}
use Rattle.change_records.proofs.Merge.{contains_first, contains_more, contains_none}
use Rattle.change_records.proofs.Order.{one_key_back}
use Rattle.commit_laws.specs.Paired.{came_of, gone_of}
use Rattle.commit_laws.proofs.named_items.Alike.{contains_cases, one_item}
use Rattle.commit_laws.proofs.named_items.Stable.{stable_part}

-- ---- one of a list that passes a test

pub any_from : {X : Type 0} (p : X → Bool) (xs : List X) → list_any p xs ≡ true → (x : X) × Contains xs x × (p x ≡ true)
any_from p [] is = absurd (cc)
any_from p (x ∷ xs) is = elim (or_cases (p x) (list_any p xs) is) [
  | inl here ↦ (x, contains_first x xs, here)
  | inr later ↦ (let found = any_from p xs later in (found.0, contains_more x xs found.0 found.1, found.2))
]

pub any_of : {X : Type 0} (p : X → Bool) (xs : List X) (x : X) → Contains xs x → p x ≡ true → list_any p xs ≡ true
any_of p [] x has is = absurd (contains_none x has)
any_of p (y ∷ ys) x has is = elim (contains_cases y ys x has) [
  | inl here ↦ or_left (p y) (list_any p ys) (subst (λ z. p z ≡ true) (sym here) is)
  | inr later ↦ or_right (p y) (list_any p ys) (any_of p ys x later is)
]

-- ---- names

-- the name of an item of a list
abbrev pub its_name : ItemAt → ItemRef
its_name one = ref_to one.tree one.key

-- an item stands under a name: it has that name
stands_from : (x : ItemAt) (o : Option ItemAt) → stands_at (its_name x) o ≡ true → (one : ItemAt) × (o ≡ Some one) × HaveOneKey one x
stands_from x None is = absurd (cc)
stands_from x (Some one) is =
    let both = and_parts _ _ is in
    (one, refl, (eqb-true one.tree x.tree both.0, same_name one.key x.key both.1))

pub stands_itself : (x : ItemAt) (o : Option ItemAt) → o ≡ Some x → stands_at (its_name x) o ≡ true
stands_itself x o is = subst (λ p. stands_at (its_name x) p ≡ true) (sym is) (and_from _ _ (eq-eqb x.tree x.tree refl) (same_itself x.key))

pub one_name : (x y : ItemAt) → HaveOneKey x y → its_name x ≡ its_name y
one_name x y same = let e1 = same.0 in let e2 = same.1 in λ i. record { tree = e1 i; key = e2 i }

pub named_by : (old new : List ItemAt) (changes : List ItemChange) (at : ItemRef) → is_named old new changes at ≡ true
    → (c : ItemChange) × Contains changes c × (names old new at c ≡ true)
unfolding is_named
named_by old new changes at is = any_from (names old new at) changes is

pub names_it : (old new : List ItemAt) (changes : List ItemChange) (at : ItemRef) (c : ItemChange) → Contains changes c → names old new at c ≡ true
    → is_named old new changes at ≡ true
unfolding is_named
names_it old new changes at c has is = any_of (names old new at) changes c has is

-- ---- places

pub place_of : (xs : List ItemAt) (x : ItemAt) → Contains xs x → (k : ℕ) × (slice_get xs k ≡ Some x)
place_of xs x is = (is.0, slice_get-get_or xs is.0 x is.1 ∙ ap Some is.2)

pub has_at : (xs : List ItemAt) (k : ℕ) (x : ItemAt) → slice_get xs k ≡ Some x → Contains xs x
has_at xs k x is = (k, slice_get_within xs k x is, get_or_from_slice_get xs k x x is)

-- one of a list that has a key, or that none has it
pub has_or_none : (xs : List ItemAt) (x : ItemAt) → ((y : ItemAt) × Contains xs y × HaveOneKey y x) ⊎ HasNone xs x
has_or_none xs x = by (list_any (λ y. stands_at (its_name x) (Some y)) xs) refl
  where
    by : (b : Bool) → list_any (λ y. stands_at (its_name x) (Some y)) xs ≡ b → ((y : ItemAt) × Contains xs y × HaveOneKey y x) ⊎ HasNone xs x
    by true is =
        let found = any_from (λ y. stands_at (its_name x) (Some y)) xs is in
        let both = and_parts _ _ found.2 in
        inl (found.0, found.1, (eqb-true (found.0).tree x.tree both.0, same_name (found.0).key x.key both.1))
    by false is = inr (λ k y at same.
        let here : stands_at (its_name x) (Some y) ≡ true = subst (λ n. stands_at n (Some y) ≡ true) (sym (one_name x y same)) (stands_itself y (Some y) refl) in
        let yes = any_of (λ z. stands_at (its_name x) (Some z)) xs y (has_at xs k y at) here in
        absurd (let both : true ≡ false = sym yes ∙ is in cc))

-- ---- the named items are those that are gone, and those that came

pub record AreSorted (old new : List ItemAt) (changes : List ItemChange) : Type 0 where
  pub olds : Ascend old
  pub news : Ascend new
  pub all : AreChanges old new changes

-- what is taken away by a change
pub record IsGone (old : List ItemAt) (changes : List ItemChange) (x : ItemAt) : Type 0 where
  pub change : ItemChange
  pub among : Contains changes change
  pub gone : gone_of old change ≡ Some x

pub record HasCome (new : List ItemAt) (changes : List ItemChange) (x : ItemAt) : Type 0 where
  pub change : ItemChange
  pub among : Contains changes change
  pub came : came_of new change ≡ Some x

module _ (old new : List ItemAt) (changes : List ItemChange) (are : AreSorted old new changes) where
  -- an old item that has the key of one at a place
  same_old : (x y : ItemAt) (k : ℕ) → Contains old x → slice_get old k ≡ Some y → HaveOneKey y x → slice_get old k ≡ Some x
  same_old x y k has at same = at ∙ ap Some (one_item old are.olds y x (has_at old k y at) has same)

  same_new : (x y : ItemAt) (k : ℕ) → Contains new x → slice_get new k ≡ Some y → HaveOneKey y x → slice_get new k ≡ Some x
  same_new x y k has at same = at ∙ ap Some (one_item new are.news y x (has_at new k y at) has same)

  -- a named old item is taken away by the change that names it
  gone_by : (x : ItemAt) → Contains old x → (c : ItemChange) → IsChange old new c → names old new (its_name x) c ≡ true → gone_of old c ≡ Some x
  gone_by x has (Added is) change named =
      let y = stands_from x (slice_get new is) named in
      let k = place_of old x has in
      let z : y.0 ≡ change.0 = same_Some y.0 change.0 (sym y.1 ∙ change.1) in
      absurd (change.2 k.0 x k.1 (subst (λ w. HaveOneKey w x) z y.2))
  gone_by x has (Removed was) change named = let y = stands_from x (slice_get old was) named in same_old x y.0 was has y.1 y.2
  gone_by x has (Altered was is) change named = elim (or_cases _ _ named) [
    | inl here ↦ (let y = stands_from x (slice_get old was) here in same_old x y.0 was has y.1 y.2)
    | inr there ↦
        (let y = stands_from x (slice_get new is) there in
        let z : y.0 ≡ change.1 = same_Some y.0 change.1 (sym y.1 ∙ change.3) in
        let same : HaveOneKey change.1 x = subst (λ w. HaveOneKey w x) z y.2 in
        same_old x change.0 was has change.2 (change.4.0 ∙ same.0, change.4.1 ∙ same.1))
  ]

  -- a named new item is brought by the change that names it
  came_by : (x : ItemAt) → Contains new x → (c : ItemChange) → IsChange old new c → names old new (its_name x) c ≡ true → came_of new c ≡ Some x
  came_by x has (Added is) change named = let y = stands_from x (slice_get new is) named in same_new x y.0 is has y.1 y.2
  came_by x has (Removed was) change named =
      let y = stands_from x (slice_get old was) named in
      let k = place_of new x has in
      let z : y.0 ≡ change.0 = same_Some y.0 change.0 (sym y.1 ∙ change.1) in
      absurd (change.2 k.0 x k.1 (subst (λ w. HaveOneKey w x) z y.2))
  came_by x has (Altered was is) change named = elim (or_cases _ _ named) [
    | inl here ↦
        (let y = stands_from x (slice_get old was) here in
        let z : y.0 ≡ change.0 = same_Some y.0 change.0 (sym y.1 ∙ change.2) in
        let same : HaveOneKey change.0 x = subst (λ w. HaveOneKey w x) z y.2 in
        same_new x change.1 is has change.3 (sym change.4.0 ∙ same.0, sym change.4.1 ∙ same.1))
    | inr there ↦ (let y = stands_from x (slice_get new is) there in same_new x y.0 is has y.1 y.2)
  ]

  pub named_gone : (x : ItemAt) → Contains old x → is_named old new changes (its_name x) ≡ true → IsGone old changes x
  named_gone x has named =
      let c = named_by old new changes (its_name x) named in
      record { change = c.0; among = c.1; gone = gone_by x has c.0 (are.all.hold c.0 c.1) c.2 }

  pub named_came : (x : ItemAt) → Contains new x → is_named old new changes (its_name x) ≡ true → HasCome new changes x
  named_came x has named =
      let c = named_by old new changes (its_name x) named in
      record { change = c.0; among = c.1; came = came_by x has c.0 (are.all.hold c.0 c.1) c.2 }

  -- what a change takes away is an old item, which it names
  old_gone : (x : ItemAt) (c : ItemChange) → gone_of old c ≡ Some x → Contains old x × (names old new (its_name x) c ≡ true)
  old_gone x (Added is) gone = absurd (cc)
  old_gone x (Removed was) gone = (has_at old was x gone, stands_itself x (slice_get old was) gone)
  old_gone x (Altered was is) gone = (has_at old was x gone, or_left _ _ (stands_itself x (slice_get old was) gone))

  new_came : (x : ItemAt) (c : ItemChange) → came_of new c ≡ Some x → Contains new x × (names old new (its_name x) c ≡ true)
  new_came x (Added is) came = (has_at new is x came, stands_itself x (slice_get new is) came)
  new_came x (Removed was) came = absurd (cc)
  new_came x (Altered was is) came = (has_at new is x came, or_right _ _ (stands_itself x (slice_get new is) came))

  pub gone_named : (x : ItemAt) → IsGone old changes x → Contains old x × (is_named old new changes (its_name x) ≡ true)
  gone_named x is =
      let has = old_gone x is.change is.gone in
      (has.0, names_it old new changes (its_name x) is.change is.among has.1)

  pub came_named : (x : ItemAt) → HasCome new changes x → Contains new x × (is_named old new changes (its_name x) ≡ true)
  came_named x is =
      let has = new_came x is.change is.came in
      (has.0, names_it old new changes (its_name x) is.change is.among has.1)

  -- ---- what is not named is the same in both lists

  never_named : (x : ItemAt) (c : ItemChange) → is_named old new changes (its_name x) ≡ false → IsChange old new c → names old new (its_name x) c ≡ true → ⊥
  never_named x c unnamed change named =
      let yes = names_it old new changes (its_name x) c (are.all.all c change) named in
      let both : true ≡ false = sym yes ∙ unnamed in
      cc

  -- two of one key say the same, where they are not named
  same_parts : (x y : ItemAt) → Contains old x → Contains new y → HaveOneKey x y → is_named old new changes (its_name x) ≡ false
      → owned_part x.part ≡ owned_part y.part
  same_parts x y has also same unnamed = stable_part (owned_part x.part) (owned_part y.part) (λ differ.
      let was = place_of old x has in
      let is = place_of new y also in
      never_named x (Altered was.0 is.0) unnamed (x, y, was.1, is.1, same, differ) (or_left _ _ (stands_itself x (slice_get old was.0) was.1)))

  pub same_in_new : (x : ItemAt) → Contains old x → is_named old new changes (its_name x) ≡ false
      → (y : ItemAt) × Contains new y × HaveOneKey x y × (owned_part x.part ≡ owned_part y.part)
  same_in_new x has unnamed = elim (has_or_none new x) [
    | inl y ↦ (let same = one_key_back y.0 x y.2 in (y.0, y.1, same, same_parts x y.0 has y.1 same unnamed))
    | inr none ↦
        (let was = place_of old x has in
        absurd (never_named x (Removed was.0) unnamed (x, was.1, none) (stands_itself x (slice_get old was.0) was.1)))
  ]

  pub same_in_old : (y : ItemAt) → Contains new y → is_named old new changes (its_name y) ≡ false
      → (x : ItemAt) × Contains old x × HaveOneKey x y × (owned_part x.part ≡ owned_part y.part)
  same_in_old y has unnamed = elim (has_or_none old y) [
    | inl x ↦ (x.0, x.1, x.2, same_parts x.0 y x.1 has x.2 (ap (is_named old new changes) (one_name x.0 y x.2) ∙ unnamed))
    | inr none ↦
        (let is = place_of new y has in
        absurd (never_named y (Added is.0) unnamed (y, is.1, none) (stands_itself y (slice_get new is.0) is.1)))
  ]
