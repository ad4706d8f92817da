-- Lists of items in order, by all changes between them: what is gone, what came, and the rest.
use Rattle.std.proofs.Common.{◌≡◌, Bool, true, false, not, List, [], ◌∷◌, ◌++◌, map, refl, sym, ap, ◌∙◌, subst}
use Rattle.std.specs.Prelude.{Some}
use Rattle.std.specs.List.{All, Contains, filter, filter_map}
use Rattle.std.specs.List.Sorted.{IsPermutation}
use Rattle.std.proofs.lemmas.Bool.{not-true, not_from_false}
use Rattle.std.proofs.lemmas.Option.{same_Some}
use Rattle.std.proofs.lemmas.List.Elements.{All-weaker, filter_passes}
use Rattle.std.proofs.lemmas.List.Sorted.{IsPermutation-filter_both}
use Rattle.records.specs.Part.{owned_part}
use Rattle.records.specs.Part.{Located}
use Rattle.records.specs.declared.rec.ItemAt.{ItemAt}
use Rattle.change_records.specs.declared.changes.ItemChange.{ItemChange}
use Rattle.change_records.specs.declared.changes.ItemChange.TheVariants.{Added, Removed, Altered}
use Rattle.change_records.specs.declared.item_ref.ItemRef.{ItemRef}
use Rattle.change_records.specs.Changes.{HaveOneKey, item_of}
use Rattle.change_records.specs.Refs.{is_named}
use Rattle.change_records.proofs.Merge.{from_one}
use Rattle.change_records.proofs.Order.{one_key_back}
use Rattle.tree_change.specs.Gathered.{located_item}
use Rattle.commit_laws.specs.Paired.{ArePaired, PairedLaw, anywhere, came_items, came_of, gone_items, gone_of, name_of}
use Rattle.commit_laws.proofs.named_items.Alike.{alike}
use Rattle.commit_laws.proofs.named_items.Filters.{ascend_filter, ascend_made, filter_in, filter_map_both, in_filter, made_one}
use Rattle.commit_laws.proofs.named_items.Named.{AreSorted, came_named, gone_named, its_name, named_came, named_gone, one_name, same_in_new, same_in_old}

map_twice : {X Y Z : Type 0} (f : X → Y) (g : Y → Z) (xs : List X) → map g (map f xs) ≡ map (λ x. g (f x)) xs
map_twice f g [] = refl
map_twice f g (x ∷ xs) = ap (λ l. g (f x) ∷ l) (map_twice f g xs)

module _ (old new : List ItemAt) (changes : List ItemChange) (are : AreSorted old new changes) where
  abbrev named : ItemRef → Bool
  named = is_named old new changes

  abbrev is_named_item : ItemAt → Bool
  is_named_item x = named (its_name x)

  abbrev stays : ItemAt → Bool
  stays x = not (named (its_name x))

  same_key : (x y : ItemAt) → x ≡ y → HaveOneKey x y
  same_key x y same = (ap (λ (z : ItemAt). z.tree) same, ap (λ (z : ItemAt). z.key) same)

  -- ---- what is gone, and what came

  gone_like : (c : ItemChange) → Contains changes c → (x : ItemAt) → gone_of old c ≡ Some x → (y : ItemAt) × (item_of old new c ≡ Some y) × HaveOneKey y x
  gone_like (Added is) has x gone = absurd (cc)
  gone_like (Removed was) has x gone = (x, gone, (refl, refl))
  gone_like (Altered was is) has x gone = (x, gone, (refl, refl))

  came_like : (c : ItemChange) → Contains changes c → (x : ItemAt) → came_of new c ≡ Some x → (y : ItemAt) × (item_of old new c ≡ Some y) × HaveOneKey y x
  came_like (Added is) has x came = (x, came, (refl, refl))
  came_like (Removed was) has x came = absurd (cc)
  came_like (Altered was is) has x came =
      let change = are.all.hold (Altered was is) has in
      let same : change.1 ≡ x = same_Some change.1 x (sym change.3 ∙ came) in
      (change.0, change.2, subst (HaveOneKey change.0) same change.4)

  gone_are : map located_item (filter is_named_item old) ≡ map located_item (filter_map (gone_of old) changes)
  gone_are =
      alike (λ x y. x ≡ y) same_key located_item (λ x y same. ap located_item same) (filter is_named_item old) (filter_map (gone_of old) changes)
      (ascend_filter is_named_item old are.olds) (ascend_made (item_of old new) (gone_of old) changes gone_like are.all.ascend)
      (λ x has.
      let inside = filter_in is_named_item old x has in
      let gone = named_gone old new changes are x inside.0 inside.1 in
      (x, made_one (gone_of old) changes gone.change x gone.among gone.gone, refl))
      (λ x has.
      let c = from_one (gone_of old) changes x has in
      let inside = gone_named old new changes are x (record { change = c.0; among = c.1; gone = c.2 }) in
      (x, in_filter is_named_item old x inside.0 inside.1, refl))

  came_are : map located_item (filter is_named_item new) ≡ map located_item (filter_map (came_of new) changes)
  came_are =
      alike (λ x y. x ≡ y) same_key located_item (λ x y same. ap located_item same) (filter is_named_item new) (filter_map (came_of new) changes)
      (ascend_filter is_named_item new are.news) (ascend_made (item_of old new) (came_of new) changes came_like are.all.ascend)
      (λ x has.
      let inside = filter_in is_named_item new x has in
      let came = named_came old new changes are x inside.0 inside.1 in
      (x, made_one (came_of new) changes came.change x came.among came.came, refl))
      (λ x has.
      let c = from_one (came_of new) changes x has in
      let inside = came_named old new changes are x (record { change = c.0; among = c.1; came = c.2 }) in
      (x, in_filter is_named_item new x inside.0 inside.1, refl))

  -- ---- the rest

  abbrev AreSame : ItemAt → ItemAt → Type 0
  AreSame x y = HaveOneKey x y × (owned_part x.part ≡ owned_part y.part)

  same_anywhere : (x y : ItemAt) → AreSame x y → anywhere (located_item x) ≡ anywhere (located_item y)
  same_anywhere x y same =
      let e1 = same.0.0 in
      let e2 = same.0.1 in
      let e3 = same.1 in
      λ i. record { tree = e1 i; block = 0; key = e2 i; part = e3 i }

  not_named : (x y : ItemAt) → HaveOneKey x y → named (its_name x) ≡ false → stays y ≡ true
  not_named x y same is = not_from_false (named (its_name y)) (ap named (sym (one_name x y same)) ∙ is)

  rest_same : map (λ x. anywhere (located_item x)) (filter stays old) ≡ map (λ x. anywhere (located_item x)) (filter stays new)
  rest_same =
      alike AreSame (λ x y same. same.0) (λ x. anywhere (located_item x)) same_anywhere (filter stays old) (filter stays new)
      (ascend_filter stays old are.olds) (ascend_filter stays new are.news)
      (λ x has.
      let inside = filter_in stays old x has in
      let unnamed = not-true (named (its_name x)) inside.1 in
      let y = same_in_new old new changes are x inside.0 unnamed in
      (y.0, in_filter stays new y.0 y.1 (not_named x y.0 y.2 unnamed), (y.2, y.3)))
      (λ y has.
      let inside = filter_in stays new y has in
      let unnamed = not-true (named (its_name y)) inside.1 in
      let x = same_in_old old new changes are y inside.0 unnamed in
      (x.0, in_filter stays old x.0 x.1 (not_named y x.0 (one_key_back x.0 y x.2) unnamed), (x.2, x.3)))

  -- ---- both lists

  abbrev is_named_one : Located → Bool
  is_named_one one = named (name_of one)

  abbrev stays_one : Located → Bool
  stays_one one = not (named (name_of one))

  pub gone_is : filter is_named_one (map located_item old) ≡ map located_item (filter_map (gone_of old) changes)
  gone_is = filter_map_both located_item is_named_one old ∙ gone_are

  pub came_is : filter is_named_one (map located_item new) ≡ map located_item (filter_map (came_of new) changes)
  came_is = filter_map_both located_item is_named_one new ∙ came_are

  both : (xs : List ItemAt) (some : List Located) → filter is_named_one (map located_item xs) ≡ some
      → IsPermutation (map located_item xs) (some ++ filter stays_one (map located_item xs))
  both xs some is =
      subst (λ l. IsPermutation (map located_item xs) (l ++ filter stays_one (map located_item xs))) is
      (IsPermutation-filter_both is_named_one stays_one (λ one. refl) (map located_item xs))

  all_named : (xs some : List Located) → filter is_named_one xs ≡ some → All (λ one. named (name_of one) ≡ true) some
  all_named xs some is = subst (All (λ (one : Located). named (name_of one) ≡ true)) is (filter_passes is_named_one xs)

  rests : (xs : List ItemAt) → map anywhere (filter stays_one (map located_item xs)) ≡ map (λ x. anywhere (located_item x)) (filter stays xs)
  rests xs = ap (map anywhere) (filter_map_both located_item stays_one xs) ∙ map_twice located_item anywhere (filter stays xs)

  pub are_paired : ArePaired named (map located_item old) (map located_item new) (map located_item (filter_map (gone_of old) changes)) (map located_item (filter_map (came_of new) changes))
  are_paired = record {
    old_rest = filter stays_one (map located_item old);
    new_rest = filter stays_one (map located_item new);
    old = both old _ gone_is;
    new = both new _ came_is;
    same = rests old ∙ rest_same ∙ sym (rests new);
    gone_named = all_named (map located_item old) _ gone_is;
    came_named = all_named (map located_item new) _ came_is;
    rest_unnamed =
        All-weaker (λ one. stays_one one ≡ true) (λ one. named (name_of one) ≡ false) (λ one is. not-true (named (name_of one)) is)
        (filter stays_one (map located_item old)) (filter_passes stays_one (map located_item old));
  }

pub paired : PairedLaw
unfolding gone_items came_items
paired old new changes olds news all = are_paired old new changes (record { olds = olds; news = news; all = all })
