-- Of kept items those that post otherwise in another context, by their names.
use Rattle.std.proofs.Common.{◌≡◌, ℕ, Bool, true, false, not, ◌⊎◌, inl, inr, List, [], ◌∷◌, ◌++◌, get_or, map, refl, sym, ap, ◌∙◌, subst, arith}
use Rattle.std.specs.Prelude.{◌==◌, ◌&&◌}
use Rattle.std.specs.List.{All, AllPairs, Contains, filter, list_any}
use Rattle.std.specs.List.Sorted.{IsPermutation, IsStrictlySortedBy}
use Rattle.std.specs.declared.cmp.Ordering.TheVariants.{Less}
use Rattle.std.specs.Ordering.{is_eq}
use Rattle.std.proofs.lemmas.Bool.{and_from, and_parts, both_ways, eq-eqb, eqb-true, not-true, not_from_false}
use Rattle.std.proofs.lemmas.List.Elements.{All-contains, All-from_recursion, Contains-get_or}
use Rattle.std.proofs.lemmas.List.Sorted.{IsPermutation-append_left, IsPermutation-filter_both, IsPermutation-trans}
use Rattle.verdict.specs.OnDisk.{key_same}
use Rattle.accounts.specs.Context.{Context}
use Rattle.change_records.specs.Affected.{AreAffected, IsAffected, context_with}
use Rattle.change_records.specs.Refs.{ref_cmp}
use Rattle.change_records.specs.Spans.{StandApart}
use Rattle.change_records.specs.declared.item_ref.ItemRef.{ItemRef}
use Rattle.change_records.proofs.MadeLaws.{tied_ref}
use Rattle.change_records.proofs.Merge.{contains_first, contains_more, contains_none}
use Rattle.live_index.specs.Pairs.{Pairs}
use Rattle.records.specs.Part.{FitsPlace, Located}
use Rattle.records.specs.Postings.{postings_of}
use Rattle.records.specs.SpacePostings.{rest_postings}
use Rattle.commit_laws.specs.Blocks.{HasOwnName}
use Rattle.commit_laws.specs.Items.{ItemsStand}
use Rattle.commit_laws.specs.Kept.{AreFound, FoundLaw, kept_items, placed_postings}
use Rattle.commit_laws.specs.Paired.{name_of}
use Rattle.commit_laws.proofs.named_items.Alike.{contains_cases, pairs_cons, pairs_head, pairs_tail}
use Rattle.commit_laws.proofs.named_items.Filters.{filter_in, in_filter, pairs_filter}
use Rattle.commit_laws.proofs.named_items.Members.{same_members}
use Rattle.commit_laws.proofs.named_items.Named.{any_from, any_of}
use Rattle.commit_laws.proofs.named_items.Placed.{rest_is}
use Rattle.commit_laws.proofs.named_items.Stable.{stable_list, stable_posting}

-- ---- names

abbrev is_ref : ItemRef → ItemRef → Bool
is_ref at other = at.tree == other.tree && key_same at.key other.key

same_ref : (a b : ItemRef) → is_ref a b ≡ true → a ≡ b
same_ref a b is =
    let both = and_parts (a.tree == b.tree) _ is in
    let keys = and_parts _ _ both.1 in
    let rest = and_parts _ _ keys.1 in
    let e1 : a.tree ≡ b.tree = eqb-true _ _ both.0 in
    let e2 : a.key.objectid ≡ b.key.objectid = eqb-true _ _ keys.0 in
    let e3 : a.key.kind ≡ b.key.kind = eqb-true _ _ rest.0 in
    let e4 : a.key.offset ≡ b.key.offset = eqb-true _ _ rest.1 in
    λ i. record { tree = e1 i; key = record { objectid = e2 i; kind = e3 i; offset = e4 i } }

ref_itself : (a : ItemRef) → is_ref a a ≡ true
ref_itself a =
    and_from _ _ (eq-eqb a.tree a.tree refl)
    (and_from _ _ (eq-eqb a.key.objectid a.key.objectid refl)
    (and_from _ _ (eq-eqb a.key.kind a.key.kind refl) (eq-eqb a.key.offset a.key.offset refl)))

never_less : (a b : ItemRef) → ref_cmp a b ≡ Less → a ≡ b → ⊥
never_less a b less same =
    let here : ref_cmp b b ≡ Less = subst (λ r. ref_cmp r b ≡ Less) same less in
    let tied : is_eq (ref_cmp b b) ≡ true = tied_ref b b ∙ ref_itself b in
    let both : is_eq (ref_cmp b b) ≡ false = ap is_eq here in
    cc

-- whether a name is among some
abbrev is_listed : List ItemRef → ItemRef → Bool
is_listed refs at = list_any (is_ref at) refs

listed_in : (refs : List ItemRef) (at : ItemRef) → is_listed refs at ≡ true → Contains refs at
listed_in refs at is = let found = any_from (is_ref at) refs is in subst (Contains refs) (sym (same_ref at found.0 found.2)) found.1

in_listed : (refs : List ItemRef) (at : ItemRef) → Contains refs at → is_listed refs at ≡ true
in_listed refs at has = any_of (is_ref at) refs at has (ref_itself at)

-- ---- items that stand apart

pub apart_turns : (a b : Located) → StandApart a b → StandApart b a
apart_turns a b apart tree key = apart (sym tree) (sym key)

apart_never : (a : Located) → StandApart a a → ⊥
apart_never a apart = apart refl refl

name_parts : (a b : Located) → name_of a ≡ name_of b → (a.tree ≡ b.tree) × (a.key ≡ b.key)
name_parts a b same = (ap (λ (r : ItemRef). r.tree) same, ap (λ (r : ItemRef). r.key) same)

-- one of a list alone has its name
pub one_alone : (xs : List Located) → AllPairs StandApart xs → (a b : Located) → Contains xs a → Contains xs b → name_of a ≡ name_of b → a ≡ b
one_alone [] apart a b has also same = absurd (contains_none a has)
one_alone (x ∷ xs) apart a b has also same =
    by (contains_cases x xs a has) (contains_cases x xs b also) (λ h k. one_alone xs (pairs_tail StandApart x xs apart) a b h k same)
  where
    parts : (a.tree ≡ b.tree) × (a.key ≡ b.key)
    parts = name_parts a b same

    never : (c d : Located) → x ≡ c → Contains xs d → c.tree ≡ d.tree → c.key ≡ d.key → ⊥
    never c d here later tree key = subst (λ z. StandApart z d) here (pairs_head StandApart x xs apart d later) tree key

    by : (x ≡ a) ⊎ Contains xs a → (x ≡ b) ⊎ Contains xs b → (Contains xs a → Contains xs b → a ≡ b) → a ≡ b
    by (inl h) (inl k) later = sym h ∙ k
    by (inl h) (inr k) later = absurd (never a b h k parts.0 parts.1)
    by (inr h) (inl k) later = absurd (never b a k h (sym parts.0) (sym parts.1))
    by (inr h) (inr k) later = later h k

-- ---- the item of each name

module _ (Fits : Located → Type 0) where
  -- each name is that of an item that fits
  abbrev HaveItems : List ItemRef → Type 0
  HaveItems refs = (at : ItemRef) → Contains refs at → (one : Located) × (name_of one ≡ at) × Fits one

  picked : (refs : List ItemRef) → HaveItems refs → List Located
  picked [] have = []
  picked (at ∷ refs) have = (have at (contains_first at refs)).0 ∷ picked refs (λ other has. have other (contains_more at refs other has))

  picked_names : (refs : List ItemRef) (have : HaveItems refs) → map name_of (picked refs have) ≡ refs
  unfolding picked
  picked_names [] have = refl
  picked_names (at ∷ refs) have =
      let first = (have at (contains_first at refs)).1 in
      let rest = picked_names refs (λ other has. have other (contains_more at refs other has)) in
      λ i. first i ∷ rest i

  picked_fit : (refs : List ItemRef) (have : HaveItems refs) (one : Located) → Contains (picked refs have) one → Fits one × Contains refs (name_of one)
  unfolding picked
  picked_fit [] have one has = absurd (contains_none one has)
  picked_fit (at ∷ refs) have one has = by (contains_cases first.0 rest one has) (picked_fit refs (λ other has. have other (contains_more at refs other has)) one)
    where
      first : (one : Located) × (name_of one ≡ at) × Fits one
      first = have at (contains_first at refs)

      rest : List Located
      rest = picked refs (λ other has. have other (contains_more at refs other has))

      by : (first.0 ≡ one) ⊎ Contains rest one → (Contains rest one → Fits one × Contains refs (name_of one)) → Fits one × Contains (at ∷ refs) (name_of one)
      by (inl here) more = subst (λ z. Fits z × Contains (at ∷ refs) (name_of z)) here (first.2, subst (Contains (at ∷ refs)) (sym first.1) (contains_first at refs))
      by (inr later) more =
          let found = more later in
          (found.0, contains_more at refs (name_of one) found.1)

  picked_has : (refs : List ItemRef) (have : HaveItems refs) (at : ItemRef) → Contains refs at → (one : Located) × Contains (picked refs have) one × (name_of one ≡ at)
  unfolding picked
  picked_has [] have at has = absurd (contains_none at has)
  picked_has (r ∷ refs) have at has = by (contains_cases r refs at has) (picked_has refs (λ other has. have other (contains_more r refs other has)) at)
    where
      first : (one : Located) × (name_of one ≡ r) × Fits one
      first = have r (contains_first r refs)

      rest : List Located
      rest = picked refs (λ other has. have other (contains_more r refs other has))

      by : (r ≡ at) ⊎ Contains refs at → (Contains refs at → (one : Located) × Contains rest one × (name_of one ≡ at))
          → (one : Located) × Contains (first.0 ∷ rest) one × (name_of one ≡ at)
      by (inl here) more = (first.0, contains_first first.0 rest, first.1 ∙ here)
      by (inr later) more =
          let found = more later in
          (found.0, contains_more first.0 rest found.0 found.1, found.2)

  -- what is behind the first name is of a higher one
  picked_apart : (refs : List ItemRef) (have : HaveItems refs) → IsStrictlySortedBy ref_cmp refs → AllPairs StandApart (picked refs have)
  unfolding picked IsStrictlySortedBy
  picked_apart [] have sorted = λ i j d less within. absurd (omega (arith, within))
  picked_apart (at ∷ refs) have sorted =
      pairs_cons StandApart first.0 rest apart (picked_apart refs (λ other has. have other (contains_more at refs other has)) sorted.1)
    where
      first : (one : Located) × (name_of one ≡ at) × Fits one
      first = have at (contains_first at refs)

      rest : List Located
      rest = picked refs (λ other has. have other (contains_more at refs other has))

      apart : (y : Located) → Contains rest y → StandApart first.0 y
      apart y has tree key =
          let among = (picked_fit refs (λ other has. have other (contains_more at refs other has)) y has).1 in
          let less = All-contains (λ r. ref_cmp at r ≡ Less) refs (name_of y) (All-from_recursion (λ r. ref_cmp at r ≡ Less) refs sorted.0) among in
          let same : name_of first.0 ≡ name_of y = λ i. record { tree = tree i; key = key i } in
          never_less at (name_of y) less (sym first.1 ∙ same)

-- ---- what the names of affected items say of kept items

pub all_of : {X : Type 0} (P : X → Type 0) (xs : List X) → ((x : X) → Contains xs x → P x) → All P xs
all_of P xs each k d small = each (get_or xs k d) (Contains-get_or xs k d small)

module _ (pairs : Pairs) (old new : Context) (named : ItemRef → Bool) (items : List Located) (refs : List ItemRef) (nodesize : ℕ)
    (stand : ItemsStand nodesize items) (own : All (HasOwnName pairs) items) (are : AreAffected pairs old new named items refs) where
  abbrev unnamed : Located → Bool
  unnamed one = not (named (name_of one))

  abbrev kept : List Located
  kept = kept_items named items

  -- a kept item that posts otherwise
  abbrev PostsOtherwise : Located → Type 0
  PostsOtherwise one = Contains kept one × (postings_of old one ≡ postings_of new one → ⊥)

  own_name : (one : Located) → Contains items one → HasOwnName pairs one
  own_name one has = All-contains (HasOwnName pairs) items one own has

  item_at : (at : ItemRef) → Contains refs at → (one : Located) × (name_of one ≡ at) × PostsOtherwise one
  item_at at has =
      let its = are.hold at has in
      let same : at ≡ name_of its.one = (own_name its.one its.among).one_name at its.name in
      let out : named (name_of its.one) ≡ false = ap named (sym same) ∙ its.kept in
      (its.one, sym same, (in_filter unnamed items its.one its.among (not_from_false (named (name_of its.one)) out), its.differs))

  abbrev found : List Located
  found = picked PostsOtherwise refs item_at

  abbrev listed : Located → Bool
  listed one = is_listed refs (name_of one)

  abbrev unlisted : Located → Bool
  unlisted one = not (is_listed refs (name_of one))

  kept_apart : AllPairs StandApart kept
  kept_apart = pairs_filter StandApart unnamed items stand.distinct

  is_found : (one : Located) → Contains (filter listed kept) one → Contains found one
  is_found one has =
      let inside = filter_in listed kept one has in
      let other = picked_has PostsOtherwise refs item_at (name_of one) (listed_in refs (name_of one) inside.1) in
      let fits = picked_fit PostsOtherwise refs item_at other.0 other.1 in
      subst (Contains found) (one_alone kept kept_apart other.0 one fits.0.0 inside.0 other.2) other.1

  found_is : (one : Located) → Contains found one → Contains (filter listed kept) one
  found_is one has =
      let fits = picked_fit PostsOtherwise refs item_at one has in
      in_filter listed kept one fits.0.0 (in_listed refs (name_of one) fits.1)

  same_found : IsPermutation (filter listed kept) found
  same_found =
      same_members StandApart apart_turns apart_never found (filter listed kept) (picked_apart PostsOtherwise refs item_at are.ascend)
      (pairs_filter StandApart listed kept kept_apart) is_found found_is

  stays_same : (one : Located) → Contains (filter unlisted kept) one → postings_of old one ≡ postings_of new one
  stays_same one has =
      let inside = filter_in unlisted kept one has in
      let among = filter_in unnamed items one inside.0 in
      stable_list stable_posting (postings_of old one) (postings_of new one) (λ differs.
      let affected : IsAffected pairs old new named items (name_of one) = record {
        one = one;
        among = among.0;
        name = (own_name one among.0).own;
        kept = not-true (named (name_of one)) among.1;
        differs = differs;
      } in
      let yes = in_listed refs (name_of one) (are.all (name_of one) affected) in
      both_ways (is_listed refs (name_of one)) (not-true (is_listed refs (name_of one)) inside.1) yes)

  is_placed : (one : Located) → Contains found one → (context : Context) → rest_postings context one.tree one.part ≡ placed_postings context (name_of one)
  is_placed one has context =
      let fits = picked_fit PostsOtherwise refs item_at one has in
      let among = filter_in unnamed items one fits.0.0 in
      let place = All-contains (λ (x : Located). FitsPlace x.tree x.key x.part) items one stand.places among.0 in
      rest_is old new one.tree one.block one.key one.part place fits.0.1 context

  pub are_found : AreFound old new kept refs
  are_found = record {
    found = found;
    staying = filter unlisted kept;
    all =
        IsPermutation-trans kept (filter listed kept ++ filter unlisted kept) (found ++ filter unlisted kept)
        (IsPermutation-filter_both listed unlisted (λ one. refl) kept)
        (IsPermutation-append_left (filter unlisted kept) (filter listed kept) found same_found);
    names = picked_names PostsOtherwise refs item_at;
    same = all_of (λ one. postings_of old one ≡ postings_of new one) (filter unlisted kept) stays_same;
    placed = all_of (λ one. (context : Context) → rest_postings context one.tree one.part ≡ placed_postings context (name_of one)) found is_placed;
  }

pub found_of : FoundLaw
found_of pairs before after nodesize free fresh named items refs stand own are =
    are_found pairs (context_with before nodesize free) (context_with after nodesize fresh) named items refs nodesize stand own are
