-- A pair is shared just where its own block stays as it is and it is not marked.
use Rattle.std.proofs.Common.{◌≡◌, ℕ, zero, suc, ◌==◌, Bool, true, false, not, ◌&&◌, ◌||◌, List, [], ◌∷◌, length, refl, ap, sym, ◌∙◌}
use Rattle.std.proofs.lemmas.Bool.{eqb-true}
use Rattle.std.specs.Prelude.{Option, Some, None, Ok}
use Rattle.std.specs.List.{AllByRecursion, list_any}
use Rattle.std.specs.Ordering.{nat_cmp}
use Rattle.std.specs.FinMap.{FinMap}
use Rattle.tree_laws.proofs.KnownShared.{passes_here}
use Rattle.verdict.proofs.Lists.{all_map as each_map}
use Rattle.verdict.proofs.Truth.{and_parts}
use Rattle.verdict.specs.OnDisk.{key_same}
use Rattle.super_reader.specs.declared.Super.{Super}
use Rattle.live_index.specs.Pairs.{Pairs}
use Rattle.live_index.specs.declared.live.Live.{Live}
use Rattle.node_reader.specs.Stored.{Stored}
use Rattle.node_reader.specs.declared.expect.Expect.{Expect}
use Rattle.records.specs.Seen.{Seen}
use Rattle.records.specs.WalkLaw.{visited, visited_from}
use Rattle.touched_blocks.specs.Touched.{stays_in_place, written_in}
use Rattle.tree_laws.specs.Keeping.{AreMarked, Marks, Stands, comes_to, first_in, live_at}
use Rattle.tree_laws.specs.LivePairs.{Walked, live_in, table_of}
use Rattle.tree_laws.specs.Shared.{are_alike, are_read_alike, is_shared, is_shared_by, stands_untouched}
use Rattle.tree_laws.specs.SharedLaw.{HasTrees, MarksTouched, touches_old}
use Rattle.tree_laws.specs.TableLaw.{AreApart, Tree}
use Rattle.tree_laws.proofs.Forest.{lives_all, tables_stand, walks}
use Rattle.tree_laws.proofs.Picking.{comes_there, each_both, is_at, is_there, one_of, table_some, there_trees}
use Rattle.tree_laws.proofs.Treed.{trees_walk}
use Rattle.tree_laws.proofs.Untouching.{free_all, is_free}
use Rattle.tree_change.specs.Unchanged.{is_unchanged, none_touched, stays_unchanged}

-- whether what a table has is alike to a pair
abbrev pub is_known : Live → Option Live → Bool
is_known live None = false
is_known live (Some one) = are_alike one live

-- where each of a list passes a test just where it passes another and something else holds
any_and : {A : Type 0} (p test : A → Bool) (k : Bool) (xs : List A) → AllByRecursion (λ x. p x ≡ (test x && k)) xs
    → list_any p xs ≡ (list_any test xs && k)
any_and p test k [] all = refl
any_and p test k (x ∷ xs) all =
    ap (λ b. b || list_any p xs) all.0
    ∙ (ap (λ b. (test x && k) || b) (any_and p test k xs all.1) ∙ joined (test x) (list_any test xs) k)
  where
    joined : (a b k : Bool) → ((a && k) || (b && k)) ≡ ((a || b) && k)
    joined true true true = refl
    joined true true false = refl
    joined true false true = refl
    joined true false false = refl
    joined false b k = refl

module _ (sup : Super) (touched : ℕ → Bool) (marked : Marks) (table : Pairs) where
  -- a block that a walk comes to: a table has its pair, and it is marked just where the walk from it on comes to a touched one
  record Marked (stored : Stored) (v : Expect) : Type 0 where
    pub known : table v.tree v.address ≡ Some (live_at sup stored v)
    pub marks : marked v.tree v.address ≡ comes_to touched sup stored v

  -- so it is with each block of a tree
  abbrev AllMarked : Tree → Type 0
  AllMarked tree = AllByRecursion (Marked tree.0) (visited sup tree.0 tree.1)

  -- whether what the table has of a pair is alike to it and not marked
  abbrev free_entry : Live → Bool
  free_entry live = is_known live (table live.tree live.address) && not (marked live.tree live.address)

  -- a block is alike to a pair and free of touched ones just where it is the table's entry and that is so
  free_block : (live : Live) (stored : Stored) (v : Expect) → Marked stored v
      → is_free touched live sup stored v ≡ (is_at live.tree live.address v && free_entry live)
  free_block live stored v b = by (is_at live.tree live.address v) refl
    where
      by : (here : Bool) → is_at live.tree live.address v ≡ here → is_free touched live sup stored v ≡ (here && free_entry live)
      by true is =
          let both = and_parts (v.tree == live.tree) (v.address == live.address) is in
          let tree : v.tree ≡ live.tree = eqb-true v.tree live.tree both.0 in
          let address : v.address ≡ live.address = eqb-true v.address live.address both.1 in
          let entry : table live.tree live.address ≡ Some (live_at sup stored v) =
          ap (λ t. table t live.address) (sym tree) ∙ (ap (table v.tree) (sym address) ∙ b.known) in
          let mark : marked live.tree live.address ≡ comes_to touched sup stored v =
          ap (λ t. marked t live.address) (sym tree) ∙ (ap (marked v.tree) (sym address) ∙ b.marks) in
          ap (λ m. are_alike (live_at sup stored v) live && not m) (sym mark)
          ∙ ap (λ entry. is_known live entry && not (marked live.tree live.address)) (sym entry)
      by false is =
          ap (λ here. (here && (v.level == live.level &&
          (v.generation == live.generation && key_same (first_in (stored v.address)) live.first))) && not (comes_to touched sup stored v)) is

  -- the same of the blocks of all trees
  free_trees : (live : Live) (trees : List Tree) → AllByRecursion AllMarked trees
      → list_any (λ (tree : Tree). list_any (is_free touched live sup tree.0) (visited sup tree.0 tree.1)) trees
      ≡ (list_any (comes_there sup live.tree live.address) trees && free_entry live)
  free_trees live trees all =
      any_and (λ (tree : Tree). list_any (is_free touched live sup tree.0) (visited sup tree.0 tree.1))
      (comes_there sup live.tree live.address) (free_entry live) trees
      (each_map AllMarked
      (λ tree. list_any (is_free touched live sup tree.0) (visited sup tree.0 tree.1) ≡ (comes_there sup live.tree live.address tree && free_entry live))
      trees
      (λ tree each. any_and (is_free touched live sup tree.0) (is_at live.tree live.address) (free_entry live) (visited sup tree.0 tree.1)
      (each_map (Marked tree.0) (λ v. is_free touched live sup tree.0 v ≡ (is_at live.tree live.address v && free_entry live))
      (visited sup tree.0 tree.1) (free_block live tree.0) each)) all)

-- what a table has of a pair is a block of a tree
there_if : (sup : Super) (trees : List Tree) (seen : List Seen) → AreApart trees → walks sup trees ≡ Ok seen → (live : Live)
    → is_known live (table_of (live_in seen) live.tree live.address) ≡ true → list_any (comes_there sup live.tree live.address) trees ≡ true
there_if sup trees seen apart told live known = by (table_of (live_in seen) live.tree live.address) refl known
  where
    by : (entry : Option Live) → table_of (live_in seen) live.tree live.address ≡ entry → is_known live entry ≡ true
        → list_any (comes_there sup live.tree live.address) trees ≡ true
    by None is known = absurd (cc)
    by (Some one) is known =
        sym (there_trees sup live.tree live.address trees)
        ∙ (ap (list_any (is_there live.tree live.address)) (sym (lives_all sup trees seen apart told))
        ∙ table_some (live_in seen) live.tree live.address one is)

module _ (sup : Super) (touched : ℕ → Bool) (marked : Marks) (trees : List Tree) (seen : List Seen) (apart : AreApart trees)
    (told : walks sup trees ≡ Ok seen) (marks : AllByRecursion (λ (tree : Tree). AreMarked marked touched sup tree.0 tree.1) trees) where
  -- so it is with each block of all trees of an image, by the table of its pairs
  all_marked : AllByRecursion (AllMarked sup touched marked (table_of (live_in seen))) trees
  all_marked =
      let table = table_of (live_in seen) in
      each_map
      (λ (tree : Tree). AllByRecursion (λ v. table v.tree v.address ≡ Some (live_at sup tree.0 v)) (visited sup tree.0 tree.1)
      × AreMarked marked touched sup tree.0 tree.1)
      (AllMarked sup touched marked table) trees
      (λ tree h. each_map
      (λ v. (table v.tree v.address ≡ Some (live_at sup tree.0 v)) × (marked v.tree v.address ≡ comes_to touched sup tree.0 v))
      (Marked sup touched marked table tree.0) (visited sup tree.0 tree.1) (λ v both. record { known = both.0; marks = both.1 })
      (each_both (λ v. table v.tree v.address ≡ Some (live_at sup tree.0 v)) (λ v. marked v.tree v.address ≡ comes_to touched sup tree.0 v)
      (visited sup tree.0 tree.1) h.0 h.1.each))
      (each_both
      (λ (tree : Tree). AllByRecursion (λ v. table v.tree v.address ≡ Some (live_at sup tree.0 v)) (visited sup tree.0 tree.1))
      (λ (tree : Tree). AreMarked marked touched sup tree.0 tree.1) trees
      (each_map (λ (tree : Tree). Stands table sup tree.0 tree.1)
      (λ (tree : Tree). AllByRecursion (λ v. table v.tree v.address ≡ Some (live_at sup tree.0 v)) (visited sup tree.0 tree.1)) trees
      (λ tree stands. stands.each.each) (tables_stand sup trees seen apart told)) marks)

  -- a pair is alike to a block free of touched ones just where what the table has of it is alike to it and not marked
  pub stands_is : (live : Live)
      → stands_untouched touched seen live
      ≡ (is_known live (table_of (live_in seen) live.tree live.address) && not (marked live.tree live.address))
  stands_is live =
      free_all touched live sup trees seen apart told
      ∙ (free_trees sup touched marked (table_of (live_in seen)) live trees all_marked
      ∙ also (list_any (comes_there sup live.tree live.address) trees) (is_known live (table_of (live_in seen) live.tree live.address))
      (marked live.tree live.address) (there_if sup trees seen apart told live))
    where
      also : (c k m : Bool) → (k ≡ true → c ≡ true) → (c && (k && not m)) ≡ (k && not m)
      also true k m h = refl
      also false false m h = refl
      also false true m h = let never : false ≡ true = h refl in absurd (cc)

  -- a pair that the table knows is not touched where it is not marked
  pub not_touched : (live : Live) → is_known live (table_of (live_in seen) live.tree live.address) ≡ true
      → marked live.tree live.address ≡ false → touched live.address ≡ false
  not_touched live known unmarked =
      let table = table_of (live_in seen) in
      let pick = one_of (AllMarked sup touched marked table) (comes_there sup live.tree live.address) trees all_marked
      (there_if sup trees seen apart told live known) in
      let at = one_of (Marked sup touched marked table pick.0.0) (is_at live.tree live.address) (visited sup pick.0.0 pick.0.1) pick.1 pick.2 in
      by pick.0.0 at.0 at.1 (and_parts (at.0.tree == live.tree) (at.0.address == live.address) at.2)
    where
      by : (stored : Stored) (v : Expect) → Marked sup touched marked (table_of (live_in seen)) stored v
          → ((v.tree == live.tree) ≡ true) × ((v.address == live.address) ≡ true) → touched live.address ≡ false
      by stored v b both =
          let tree : v.tree ≡ live.tree = eqb-true v.tree live.tree both.0 in
          let address : v.address ≡ live.address = eqb-true v.address live.address both.1 in
          let free : comes_to touched sup stored v ≡ false =
          sym b.marks ∙ (ap (λ t. marked t v.address) tree ∙ (ap (marked live.tree) address ∙ unmarked)) in
          ap touched (sym address) ∙ passes_here touched sup stored v free

-- where no block is touched none is marked
abbrev unmarked : Marks
unmarked tree address = false

-- no block passes a test that none passes
none_comes : {A : Type 0} (xs : List A) → list_any (λ x. false) xs ≡ false
none_comes [] = refl
none_comes (x ∷ xs) = none_comes xs

-- so that none is marked
none_marked : (sup : Super) (stored : Stored) (es : List Expect)
    → AllByRecursion (λ v. unmarked v.tree v.address ≡ comes_to none_touched sup stored v) es
none_marked sup stored [] = tt
none_marked sup stored (e ∷ es) = (sym (none_comes (visited sup stored e)), none_marked sup stored es)

module _ (image : List ℕ) (pending : FinMap nat_cmp ℕ) (old new : Walked) where
  -- whether a pair stays as it is
  abbrev pub unchanged : Live → Bool
  unchanged = is_unchanged old new (written_in pending) (length image)

  -- whether it is shared
  abbrev pub shared : Live → Bool
  shared = is_shared old new (written_in pending) (length image)

-- whether what the table of the old pairs has of a pair is alike to it
abbrev pub knows : Walked → Live → Bool
knows old live = is_known live (table_of (live_in old.seen) live.tree live.address)

module _ (image : List ℕ) (pending : FinMap nat_cmp ℕ) (old new : Walked) (trees : List Tree) (has : HasTrees image old trees) where
  -- the same of all trees
  unmarked_all : AllByRecursion (λ (tree : Tree). AreMarked unmarked none_touched old.sup tree.0 tree.1) trees
  unmarked_all =
      let walk = trees_walk image old trees has in
      each_map (λ (tree : Tree). Stands (table_of (live_in old.seen)) old.sup tree.0 tree.1)
      (λ (tree : Tree). AreMarked unmarked none_touched old.sup tree.0 tree.1) trees
      (λ tree stands. record { fine = stands.each.fine; each = none_marked old.sup tree.0 (visited old.sup tree.0 tree.1) })
      (tables_stand old.sup trees old.seen walk.0 walk.1)

  -- A pair is unchanged where the old table knows it, the new image has it, and its own block stays as it is.
  pub unchanged_is : (live : Live)
      → unchanged image pending old new live
      ≡ (are_read_alike old.sup new.sup
      && (stays_unchanged old new.chunks (written_in pending) (length image) live.address
      && (knows old live && list_any (are_alike live) (live_in new.seen))))
  unfolding is_shared_by
  unchanged_is live =
      let walk = trees_walk image old trees has in
      ap (λ b. are_read_alike old.sup new.sup
      && (stays_unchanged old new.chunks (written_in pending) (length image) live.address && (b && list_any (are_alike live) (live_in new.seen))))
      (stands_is old.sup none_touched unmarked trees old.seen walk.0 walk.1 unmarked_all live ∙ and_true (knows old live))
    where
      and_true : (b : Bool) → (b && not false) ≡ b
      and_true true = refl
      and_true false = refl

  -- It is shared where it is unchanged and not marked.
  pub shared_is : (marked : Marks)
      → (are_read_alike old.sup new.sup ≡ true → AllByRecursion (MarksTouched old (written_in pending) (length image) marked) trees)
      → (live : Live) → shared image pending old new live ≡ (unchanged image pending old new live && not (marked live.tree live.address))
  unfolding is_shared_by
  shared_is marked marks live =
      by (are_read_alike old.sup new.sup) refl marks
      ∙ ap (λ b. b && not (marked live.tree live.address)) (sym (unchanged_is live))
    where
      stays : Bool
      stays = stays_in_place old.chunks new.chunks old.sup.nodesize (length image) live.address

      touched : Bool
      touched = touches_old old (written_in pending) (length image) live.address

      among : Bool
      among = list_any (are_alike live) (live_in new.seen)

      told : (k m s t l : Bool) → (k ≡ true → m ≡ false → t ≡ false) → (s && ((k && not m) && l)) ≡ (((s && not t) && (k && l)) && not m)
      told k m false t l h = refl
      told false m true true l h = refl
      told false m true false l h = refl
      told true true true true l h = refl
      told true true true false true h = refl
      told true true true false false h = refl
      told true false true true l h = let never : true ≡ false = h refl refl in absurd (cc)
      told true false true false true h = refl
      told true false true false false h = refl

      by : (a : Bool) → are_read_alike old.sup new.sup ≡ a
          → (are_read_alike old.sup new.sup ≡ true → AllByRecursion (MarksTouched old (written_in pending) (length image) marked) trees)
          → (a && (stays && (stands_untouched (touches_old old (written_in pending) (length image)) old.seen live && among)))
          ≡ ((a && ((stays && not touched) && (knows old live && among))) && not (marked live.tree live.address))
      by false is marks = refl
      by true is marks =
          let walk = trees_walk image old trees has in
          let test = touches_old old (written_in pending) (length image) in
          ap (λ b. stays && (b && among)) (stands_is old.sup test marked trees old.seen walk.0 walk.1 (marks is) live)
          ∙ told (knows old live) (marked live.tree live.address) stays touched among
          (not_touched old.sup test marked trees old.seen walk.0 walk.1 (marks is) live)
