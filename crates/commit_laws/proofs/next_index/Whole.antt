-- What is known of all live pairs of an image.
use Rattle.std.proofs.Common.{◌≡◌, ℕ, Bool, true, false, ◌||◌, List, [], ◌∷◌, ◌++◌, refl, ap, sym, subst, ◌∙◌}
use Rattle.std.proofs.lemmas.Bool.{or_parts}
use Rattle.std.proofs.lemmas.List.Elements.{All-from_recursion, recursion_from_All}
use Rattle.std.proofs.lemmas.List.Sorted.{All-permutation}
use Rattle.std.specs.Prelude.{Some, Ok, map}
use Rattle.std.specs.List.{AllByRecursion, filter, list_any}
use Rattle.std.specs.List.Sorted.{IsPermutation}
use Rattle.verdict.proofs.Lists.{all_append, all_map}
use Rattle.super_reader.specs.declared.Super.{Super}
use Rattle.live_index.specs.Pairs.{Pairs}
use Rattle.live_index.specs.declared.live.Live.{Live}
use Rattle.node_reader.specs.Stored.{Stored, stored_in}
use Rattle.node_reader.specs.declared.expect.Expect.{Expect}
use Rattle.records.specs.WalkLaw.{visited}
use Rattle.verdict.specs.declared.key.Key.{Key}
use Rattle.tree_laws.specs.Keeping.{Stands, live_at, owner_in}
use Rattle.tree_laws.specs.LivePairs.{Walked, live_in, table_of, walked}
use Rattle.tree_laws.specs.TableLaw.{Tree, trees_in}
use Rattle.tree_laws.proofs.Forest.{all_lives, lives_all, lives_of, tables_stand}
use Rattle.tree_laws.proofs.KeptImage.{IsOfImage, of_image}
use Rattle.tree_laws.proofs.Picking.{each_both}
use Rattle.tree_laws.proofs.Treed.{has_trees, steps_of, trees_walk}

-- a table has a pair, and what is stored at its address names its owner
pub record IsLive (table : Pairs) (stored : Stored) (live : Live) : Type 0 where
  pub entry : table live.tree live.address ≡ Some live
  pub owner : live.owner ≡ owner_in (stored live.address)

module _ (sup : Super) (table : Pairs) (stored : Stored) where
  -- a tree for which the table stands, by what is stored
  pub record IsTree (tree : Tree) : Type 0 where
    pub stands : Stands table sup tree.0 tree.1
    pub stored_is : tree.0 ≡ stored

  whole_blocks : (tree : Tree) → tree.0 ≡ stored → (es : List Expect) → AllByRecursion (λ v. table v.tree v.address ≡ Some (live_at sup tree.0 v)) es
      → AllByRecursion (IsLive table stored) (map (live_at sup tree.0) es)
  whole_blocks tree is [] all = tt
  whole_blocks tree is (e ∷ es) all =
      (record { entry = all.0; owner = ap (λ (s : Stored). owner_in (s e.address)) is }, whole_blocks tree is es all.1)

  pub whole_trees : (trees : List Tree) → AllByRecursion IsTree trees → AllByRecursion (IsLive table stored) (all_lives sup trees)
  whole_trees [] all = tt
  whole_trees (tree ∷ trees) all =
      all_append (IsLive table stored) (lives_of sup tree) (all_lives sup trees)
      (whole_blocks tree all.0.stored_is (visited sup tree.0 tree.1) all.0.stands.each.each) (whole_trees trees all.1)

-- so are all live pairs of an image
pub whole_lives : (image : List ℕ) (whole : Walked) → walked image ≡ Ok whole
    → AllByRecursion (IsLive (table_of (live_in whole.seen)) (stored_in image whole.chunks whole.sup.nodesize)) (live_in whole.seen)
whole_lives image whole is =
    let s = steps_of image whole is in
    let trees = trees_in whole.sup whole.chunks whole.chunks s.roots image in
    let has = has_trees image whole s is in
    let told = trees_walk image whole trees has in
    let table = table_of (live_in whole.seen) in
    let stored = stored_in image whole.chunks whole.sup.nodesize in
    let Is = IsLive table stored in
    let Has = λ (tree : Tree). Stands table whole.sup tree.0 tree.1 in
    subst (AllByRecursion Is) (sym (lives_all whole.sup trees whole.seen told.0 told.1))
    (whole_trees whole.sup table stored trees
    (all_map (λ (tree : Tree). Has tree × IsOfImage image whole tree) (IsTree whole.sup table stored) trees
    (λ tree h. record { stands = h.0; stored_is = h.1.stored })
    (each_both Has (IsOfImage image whole) trees (tables_stand whole.sup trees whole.seen told.0 told.1) (of_image image whole trees has))))

-- what holds of each of a list holds of each of a list that has the same
pub all_permuted : {A : Type 0} (P : A → Type 0) (xs ys : List A) → IsPermutation xs ys → AllByRecursion P xs → AllByRecursion P ys
all_permuted P xs ys perm all = recursion_from_All P ys (All-permutation P xs ys perm (All-from_recursion P xs all))

-- no one passes a test
pub none_passes : {A : Type 0} (test : A → Bool) (xs : List A) → list_any test xs ≡ false → AllByRecursion (λ x. test x ≡ false) xs
none_passes test [] none = tt
none_passes test (x ∷ xs) none =
    let both = or_parts (test x) (list_any test xs) none in
    (both.0, none_passes test xs both.1)

-- one that passes a test among those that pass another
pub some_filter : {A : Type 0} (p q : A → Bool) (xs : List A) → AllByRecursion (λ x. q x ≡ true → p x ≡ true) xs
    → list_any q (filter p xs) ≡ list_any q xs
some_filter p q [] all = refl
some_filter p q (x ∷ xs) all = by (p x) (q x) refl refl (some_filter p q xs all.1)
  where
    by : (a b : Bool) → p x ≡ a → q x ≡ b → list_any q (filter p xs) ≡ list_any q xs → list_any q (filter p (x ∷ xs)) ≡ list_any q (x ∷ xs)
    by true b is also rest = rw is (ap (λ t. q x || t) rest)
    by false true is also rest = let h : p x ≡ true = all.0 also in absurd (cc)
    by false false is also rest = rw (is, also) rest

pub none_filter : {A : Type 0} (p q : A → Bool) (xs : List A) → AllByRecursion (λ x. q x ≡ true → p x ≡ false) xs
    → list_any q (filter p xs) ≡ false
none_filter p q [] all = refl
none_filter p q (x ∷ xs) all = by (p x) (q x) refl refl (none_filter p q xs all.1)
  where
    by : (a b : Bool) → p x ≡ a → q x ≡ b → list_any q (filter p xs) ≡ false → list_any q (filter p (x ∷ xs)) ≡ false
    by false b is also rest = rw is rest
    by true true is also rest = let h : p x ≡ false = all.0 also in absurd (cc)
    by true false is also rest = rw (is, also) rest

pub still_none : {A : Type 0} (p q : A → Bool) (xs : List A) → list_any q xs ≡ false → list_any q (filter p xs) ≡ false
still_none p q [] none = refl
still_none p q (x ∷ xs) none = by (p x) refl (still_none p q xs both.1)
  where
    both : (q x ≡ false) × (list_any q xs ≡ false)
    both = or_parts (q x) (list_any q xs) none

    by : (a : Bool) → p x ≡ a → list_any q (filter p xs) ≡ false → list_any q (filter p (x ∷ xs)) ≡ false
    by true is rest = rw (is, both.0) rest
    by false is rest = rw is rest

-- a live pair by what it has
abbrev pair : ℕ → ℕ → ℕ → ℕ → Key → Key → ℕ → ℕ → Live
pair tree address level generation first last parent owner = record {
  tree = tree;
  address = address;
  level = level;
  generation = generation;
  first = first;
  last = last;
  parent = parent;
  owner = owner;
}

-- pairs that have the same are one
pub record HaveSame (a b : Live) : Type 0 where
  pub tree : a.tree ≡ b.tree
  pub address : a.address ≡ b.address
  pub level : a.level ≡ b.level
  pub generation : a.generation ≡ b.generation
  pub first : a.first ≡ b.first
  pub last : a.last ≡ b.last
  pub parent : a.parent ≡ b.parent
  pub owner : a.owner ≡ b.owner

pub same_pair : (a b : Live) → HaveSame a b → a ≡ b
same_pair a b s =
    ap (λ x. pair x a.address a.level a.generation a.first a.last a.parent a.owner) s.tree
    ∙ (ap (λ x. pair b.tree x a.level a.generation a.first a.last a.parent a.owner) s.address
    ∙ (ap (λ x. pair b.tree b.address x a.generation a.first a.last a.parent a.owner) s.level
    ∙ (ap (λ x. pair b.tree b.address b.level x a.first a.last a.parent a.owner) s.generation
    ∙ (ap (λ x. pair b.tree b.address b.level b.generation x a.last a.parent a.owner) s.first
    ∙ (ap (λ x. pair b.tree b.address b.level b.generation b.first x a.parent a.owner) s.last
    ∙ (ap (λ x. pair b.tree b.address b.level b.generation b.first b.last x a.owner) s.parent
    ∙ ap (λ x. pair b.tree b.address b.level b.generation b.first b.last b.parent x) s.owner))))))
