-- A kept item of an image stands in the other image too, perhaps in another block.
use Rattle.std.proofs.Common.{◌≡◌, ◌++◌, inl, inr, Bool, true, false, List, refl, sym}
use Rattle.std.specs.List.{Contains}
use Rattle.std.specs.List.Sorted.{IsPermutation}
use Rattle.std.proofs.lemmas.List.Elements.{All-contains, Contains-append_cases, Contains-append_right}
use Rattle.std.proofs.lemmas.List.Sorted.{Contains-permutation, IsPermutation-sym}
use Rattle.change_records.specs.declared.item_ref.ItemRef.{ItemRef}
use Rattle.live_index.specs.declared.live.Live.{Live}
use Rattle.records.specs.Part.{Located}
use Rattle.tree_laws.specs.LivePairs.{Walked}
use Rattle.tree_laws.specs.Unshared.{items_in}
use Rattle.commit_laws.specs.Items.{items_of}
use Rattle.commit_laws.specs.Paired.{ArePaired, anywhere, name_of}
use Rattle.commit_laws.proofs.steps_between.Records.{HoldApart}
use Rattle.lookup_bounds.proofs.PostingsApart.{its_like}
use Rattle.lookup_bounds.proofs.PostingsCounted.{among_items}

-- a record that is alike to one, among others
abbrev pub HasTwin : List Located → Located → Type 0
HasTwin others one = (twin : Located) × Contains others twin × (anywhere one ≡ anywhere twin)

module _ (old new : Walked) (old_lives new_lives : List Live) (both : HoldApart old new old_lives new_lives) (named : ItemRef → Bool)
    (old_changed new_changed gone came : List Located) (paired : ArePaired named old_changed new_changed gone came)
    (old_all : IsPermutation (items_in old_lives old.seen) old_changed) (new_all : IsPermutation (items_in new_lives new.seen) new_changed) where
  twin_shared : (one : Located) → Contains both.items one → HasTwin (items_of new) one
  twin_shared one has = (
    one,
    Contains-permutation (items_in new_lives new.seen ++ both.items) (items_of new) one
        (IsPermutation-sym (items_of new) (items_in new_lives new.seen ++ both.items) both.new_items)
        (Contains-append_right (items_in new_lives new.seen) both.items one has),
    refl,
  )

  twin_rest : (one : Located) → Contains paired.old_rest one → HasTwin (items_of new) one
  twin_rest one has =
      let other = its_like paired.new_rest paired.old_rest (sym paired.same) one has in
      let changed : Contains new_changed other.0 =
      Contains-permutation (came ++ paired.new_rest) new_changed other.0 (IsPermutation-sym new_changed (came ++ paired.new_rest) paired.new)
      (Contains-append_right came paired.new_rest other.0 other.1) in
      let there : Contains (items_in new_lives new.seen) other.0 =
      Contains-permutation new_changed (items_in new_lives new.seen) other.0 (IsPermutation-sym (items_in new_lives new.seen) new_changed new_all) changed in
      (other.0, (among_items new_lives new other.0 there).0, sym other.2)

  twin_changed : (one : Located) → named (name_of one) ≡ false → Contains (items_in old_lives old.seen) one → HasTwin (items_of new) one
  twin_changed one kept has =
      let changed : Contains old_changed one = Contains-permutation (items_in old_lives old.seen) old_changed one old_all has in
      let parts : Contains (gone ++ paired.old_rest) one = Contains-permutation old_changed (gone ++ paired.old_rest) one paired.old changed in
      elim (Contains-append_cases gone paired.old_rest one parts) [
        | inl went ↦
            absurd (let is_gone = All-contains (λ (x : Located). named (name_of x) ≡ true) gone one paired.gone_named went in cc (is_gone, kept))
        | inr stays ↦ twin_rest one stays
      ]

  pub twin_of : (one : Located) → Contains (items_of old) one → named (name_of one) ≡ false → HasTwin (items_of new) one
  twin_of one has kept =
      let parts : Contains (items_in old_lives old.seen ++ both.items) one =
      Contains-permutation (items_of old) (items_in old_lives old.seen ++ both.items) one both.old_items has in
      elim (Contains-append_cases (items_in old_lives old.seen) both.items one parts) [
        | inl changed ↦ twin_changed one kept changed
        | inr shared ↦ twin_shared one shared
      ]
