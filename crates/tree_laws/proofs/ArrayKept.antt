-- What is kept of the new chunk tree by the chunks of the new system array is what is shared.
use Rattle.std.proofs.Common.{◌≡◌, ℕ, ◌==◌, Bool, true, not, ◌||◌, List, ◌∷◌, length, refl, ap, sym, subst, ◌∙◌, arith, if◌then◌else◌}
use Rattle.std.proofs.lemmas.Bool.Decides.{nat_tests}
use Rattle.std.specs.Prelude.{None, is_some, map}
use Rattle.std.specs.List.{AllByRecursion}
use Rattle.std.specs.Ordering.{nat_cmp}
use Rattle.std.specs.FinMap.{FinMap}
use Rattle.verdict.proofs.Lists.{all_map as each_map}
use Rattle.verdict.specs.declared.place.Chunk.{Chunk}
use Rattle.write_cache.specs.Cache.{overlaid}
use Rattle.write_cache.proofs.CacheLaws.{length-overlaid}
use Rattle.super_reader.specs.declared.Super.{Super}
use Rattle.live_index.specs.Pairs.{Pairs}
use Rattle.node_reader.specs.Stored.{Stored, stored_in}
use Rattle.node_reader.specs.declared.expect.Expect.{Expect}
use Rattle.records.specs.Contents.{chunk_tree_root, named_root, root_tree_root}
use Rattle.records.specs.WalkLaw.{visited}
use Rattle.touched_blocks.specs.Moves.{is_moved}
use Rattle.touched_blocks.specs.Touched.{written_in}
use Rattle.tree_laws.specs.ArrayLaw.{AreBoth, ArrayKeptLaw, EachByArray, IsAsByAll, IsKeptByArray, chunk_tree_by, moves_by}
use Rattle.tree_laws.specs.Keeping.{AreUntouched, Comes, Marks, Under, kept_of, last_if_same, live_at}
use Rattle.tree_laws.specs.LivePairs.{Walked, live_in, table_of}
use Rattle.tree_laws.specs.Shared.{is_shared}
use Rattle.tree_laws.specs.SharedLaw.{IsBefore, KeepsShared, MarksTouched, moves_between, stays_between, touches_old}
use Rattle.tree_laws.specs.TableLaw.{Tree, is_other, trees_in}
use Rattle.tree_laws.proofs.ArrayPlaces.{array_is, array_walk, as_by_all}
use Rattle.tree_laws.proofs.Forest.{tables_stand}
use Rattle.tree_laws.proofs.Images.{stored_alike}
use Rattle.tree_laws.proofs.Kept.{keeps_tree}
use Rattle.tree_laws.proofs.KeptImage.{nodesize_same, was}
use Rattle.tree_laws.proofs.OldTells.{tells_shared}
use Rattle.tree_laws.proofs.Picking.{each_both}
use Rattle.tree_laws.proofs.Rooted.{all_apart, all_walks, roots_are}
use Rattle.tree_laws.proofs.Treed.{Steps, chunk_tree, has_trees, steps_of, trees_walk}
use Rattle.volume_items.specs.declared.root_at.RootAt.{RootAt}

no_other : (m : ℕ) → not (3 == m) ≡ true → m ≡ 3 → ⊥
no_other m other is = grind (arith, nat_tests)

-- the trees of an image beside the chunk tree
abbrev pub others_in : Super → List Chunk → List RootAt → List ℕ → List Tree
others_in sup chunks roots image =
    (stored_in image chunks sup.nodesize, root_tree_root sup) ∷ map (λ root. (stored_in image chunks sup.nodesize, named_root root)) roots

module _ (image : List ℕ) (pending : FinMap nat_cmp ℕ) (old new : Walked) (pairs : Pairs) (marked : Marks) (under : Under) where
  abbrev pub judged : List ℕ
  judged = overlaid pending 0 image

  abbrev pub end : ℕ
  end = length image

  abbrev pub by_all : Stored
  by_all = stored_in judged new.chunks new.sup.nodesize

  -- what is kept of the new chunk tree by all chunks is what is shared
  pub keeps_all : (s : Steps image old) (t : Steps judged new) → AreBoth image pending old new t.array
      → ((address : ℕ) → pairs 3 address ≡ table_of (live_in old.seen) 3 address)
      → MarksTouched old (written_in pending) end marked (chunk_tree_by old.chunks old.sup image)
      → KeepsShared old new (written_in pending) end pairs marked under by_all (chunk_tree_root new.sup)
  keeps_all s t both pairs_are marks =
      let before = trees_in old.sup old.chunks old.chunks s.roots image in
      let after = trees_in new.sup new.chunks new.chunks t.roots judged in
      let olds = trees_walk image old before (has_trees image old s both.was) in
      let news = trees_walk judged new after (has_trees judged new t both.is.walks) in
      let first = chunk_tree_by old.chunks old.sup image in
      let now = chunk_tree_by new.chunks new.sup judged in
      keeps_tree (stays_between old new end) (touches_old old (written_in pending) end) old new before pairs marked under by_all (chunk_tree_root new.sup) olds.0 olds.1
      (tables_stand new.sup after new.seen news.0 news.1).0 refl both.alike pairs_are (
        λ same. record {
          marks = marks;
          alike = was image pending old new before pairs marked under both.alike now first (record { high = refl; stored = refl })
              (record { high = refl; stored = refl });
        },
        each_map (λ other. is_other first other ≡ true)
            (λ (tree : Tree). tree.1.tree ≡ 3 → IsBefore (stays_between old new end) (touches_old old (written_in pending) end) old marked by_all tree)
            (others_in old.sup old.chunks s.roots image) (λ tree other same. absurd (no_other tree.1.tree other same)) olds.0.0,
      )

  -- by the array's chunks the same is stored where no write touches a block and it did not move
  pub untouched_by : (array : List Chunk) → AreBoth image pending old new array
      → AreUntouched (touches_old old (written_in pending) end) (moves_by old array end) (stored_in image old.chunks old.sup.nodesize)
      (stored_in judged array new.sup.nodesize)
  untouched_by array both =
      subst (λ n. AreUntouched (touches_old old (written_in pending) end) (moves_by old array end) (stored_in image old.chunks old.sup.nodesize)
      (stored_in judged array n)) (nodesize_same old.sup new.sup both.alike) (stored_alike image pending old.chunks array old.sup.nodesize)

  -- its blocks moved by the array where they moved by all chunks
  pub moves_same : (array : List Chunk) → AreBoth image pending old new array
      → EachByArray (λ v. moves_by old array end v.address ≡ moves_between old new end v.address) judged new array
  moves_same array both =
      each_map (IsAsByAll judged new array) (λ v. moves_by old array end v.address ≡ moves_between old new end v.address)
      (visited new.sup (stored_in judged array new.sup.nodesize) (chunk_tree_root new.sup))
      (λ v h. at old.sup.nodesize new.sup.nodesize end (length judged) v.address (nodesize_same old.sup new.sup both.alike)
      (length-overlaid pending 0 image) (h.moved old.chunks))
      (as_by_all judged new array both.is)
    where
      at : (n m e f address : ℕ) → n ≡ m → f ≡ e → is_moved old.chunks array m f address ≡ is_moved old.chunks new.chunks m f address
          → is_moved old.chunks array n e address ≡ is_moved old.chunks new.chunks n e address
      at n m e f address size same is =
          subst (λ e. is_moved old.chunks array n e address ≡ is_moved old.chunks new.chunks n e address) same
          (subst (λ n. is_moved old.chunks array n f address ≡ is_moved old.chunks new.chunks n f address) (sym size) is)

  kept_same : (moved other : ℕ → Bool) (v : Expect) → moved v.address ≡ other v.address
      → kept_of pairs marked moved under v ≡ kept_of pairs marked other under v
  unfolding kept_of
  kept_same moved other v same =
      ap (λ b. if marked v.tree v.address || b then None else last_if_same v (under v.tree v.address) (pairs v.tree v.address)) same

  -- what is kept of it is what is shared
  pub keeps_by : (s : Steps image old) (t : Steps judged new) → AreBoth image pending old new t.array
      → ((address : ℕ) → pairs 3 address ≡ table_of (live_in old.seen) 3 address)
      → MarksTouched old (written_in pending) end marked (chunk_tree_by old.chunks old.sup image)
      → Comes (λ v. is_some (kept_of pairs marked (moves_by old t.array end) under v)
      ≡ is_shared old new (written_in pending) end (live_at new.sup (stored_in judged t.array new.sup.nodesize) v))
      new.sup (stored_in judged t.array new.sup.nodesize) (chunk_tree_root new.sup)
  keeps_by s t both pairs_are marks =
      let stored = stored_in judged t.array new.sup.nodesize in
      let root = chunk_tree_root new.sup in
      let shared = is_shared old new (written_in pending) end in
      let by = kept_of pairs marked (moves_by old t.array end) under in
      let all = kept_of pairs marked (moves_between old new end) under in
      let Moves = λ (v : Expect). moves_by old t.array end v.address ≡ moves_between old new end v.address in
      let Is = IsAsByAll judged new t.array in
      let Keeps = λ (v : Expect). is_some (all v) ≡ shared (live_at new.sup by_all v) in
      let es = visited new.sup stored root in
      let tree = chunk_tree judged new t.array both.is.walks t.arrays in
      let keeps : AllByRecursion Keeps es = subst (AllByRecursion Keeps) tree.blocks (keeps_all s t both pairs_are marks) in
      record {
        fine = rw (array_walk judged new t).1 refl;
        each = each_map (λ v. (Moves v × Is v) × Keeps v) (λ v. is_some (by v) ≡ shared (live_at new.sup stored v)) es
            (λ v h. ap is_some (kept_same (moves_by old t.array end) (moves_between old new end) v h.0.0)
            ∙ (h.1 ∙ ap shared (sym h.0.1.live)))
            (each_both (λ v. Moves v × Is v) Keeps es (each_both Moves Is es (moves_same t.array both) (as_by_all judged new t.array both.is)) keeps);
      }

pub kept_by_array : ArrayKeptLaw
kept_by_array image pending old new array pairs marked under both pairs_are marks =
    let judged = overlaid pending 0 image in
    let s = steps_of image old both.was in
    let t = steps_of judged new both.is.walks in
    let same = array_is judged new array t both.is in
    subst (λ a. IsKeptByArray image pending old new a pairs marked under) same
    (by s t (subst (AreBoth image pending old new) (sym same) both))
  where
    by : (s : Steps image old) (t : Steps (overlaid pending 0 image) new) → AreBoth image pending old new t.array
        → IsKeptByArray image pending old new t.array pairs marked under
    by s t both =
        let judged = overlaid pending 0 image in
        let trees = trees_in new.sup t.array new.chunks t.roots judged in
        let kept = kept_of pairs marked (moves_by old t.array (length image)) under in
        record {
          moves = moves_same image pending old new pairs marked under t.array both;
          untouched = untouched_by image pending old new pairs marked under t.array both;
          tells = (tells_shared (stays_between old new (length image)) (touches_old old (written_in pending) (length image)) old new kept new.sup trees
              (all_apart new.sup t.array new.chunks t.roots judged (roots_are new.sup new.chunks judged t.roots t.items))
              (all_walks new.sup t.array new.chunks t.roots judged ∙ t.records)).0
              (keeps_by image pending old new pairs marked under s t both pairs_are marks);
        }
