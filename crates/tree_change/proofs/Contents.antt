-- What the steps to what an image holds give: the finding of each step is that of the whole, and where none has one the walks of the image have
-- none. And what is known of an image for which the bases stand.
use Rattle.std.proofs.Common.{◌≡◌, ℕ, Bool, List, ◌∷◌, ◌++◌, length, refl, ap, sym, ◌∙◌}
use Rattle.std.specs.Prelude.{Result, Ok, Err, map}
use Rattle.std.specs.List.{filter_map}
use Rattle.walk_laws.proofs.Trees.{step_ok}
use Rattle.verdict.specs.Rules.{and_then, finding_or}
use Rattle.verdict.specs.declared.finding.Finding.{Finding}
use Rattle.verdict.specs.declared.place.Chunk.{Chunk}
use Rattle.super_reader.specs.Superblock.{array_place}
use Rattle.super_reader.specs.declared.Super.{Super}
use Rattle.volume_items.specs.MapRules.{map_finding}
use Rattle.volume_items.specs.SystemArray.{array_chunks}
use Rattle.volume_items.specs.declared.root_at.RootAt.{RootAt}
use Rattle.live_index.specs.Pairs.{Pairs}
use Rattle.records.specs.Contents.{Contents, all_records, chunk_map_in, chunk_records, contents, root_items_in, root_records, roots_fault}
use Rattle.records.specs.Contents.{super_record, superblock_in, tree_records}
use Rattle.records.specs.Seen.{Seen, accounted}
use Rattle.records.specs.Walk.{behind}
use Rattle.tree_laws.specs.LivePairs.{walked}
use Rattle.tree_laws.specs.MergedLaw.{chunks_seen, roots_seen}
use Rattle.tree_laws.proofs.MergedLists.{map_seen, roots_are_seen}
use Rattle.tree_laws.proofs.Treed.{has_trees, steps_of}
use Rattle.tree_change.specs.Change.{BasesStand}
use Rattle.tree_change.specs.Compared.{IsBased}

-- where a chunk map is given, the walk of the chunk tree has no finding
pub chunks_walk : (sup : Super) (array chunks : List Chunk) (image : List ℕ) → chunk_map_in sup array image ≡ Ok chunks
    → (records : List Seen) × (chunk_records sup array image ≡ Ok records)
chunks_walk sup array chunks image is =
    let step =
    step_ok (chunk_records sup array image)
    (λ records. and_then (finding_or (map_finding (chunks_seen records) array (length image)) (tt {0})) (λ _. Ok (chunks_seen records))) chunks
    (sym (map_seen sup array image) ∙ is) in
    (step.0, step.1)

-- where root items are given, that of the root tree has none
pub roots_walk : (sup : Super) (chunks : List Chunk) (roots : List RootAt) (image : List ℕ) → root_items_in sup chunks image ≡ Ok roots
    → (records : List Seen) × (root_records sup chunks image ≡ Ok records)
roots_walk sup chunks roots image is =
    let step =
    step_ok (root_records sup chunks image)
    (λ records. and_then (finding_or (roots_fault sup.compat_ro (roots_seen records)) (tt {0})) (λ _. Ok (roots_seen records))) roots
    (sym (roots_are_seen sup chunks image) ∙ is) in
    (step.0, step.1)

-- an image that is judged, of which this is the superblock
module _ (judged : List ℕ) (fresh : Super) (super_is : superblock_in judged ≡ Ok fresh) where
  pub contents_array : (finding : Finding) → array_chunks (array_place fresh) fresh.array fresh.array_size ≡ Err finding
      → contents judged ≡ Err finding
  unfolding contents
  contents_array finding failed = rw (super_is, failed) refl

  -- and these the chunks of its system array
  module _ (array : List Chunk) (array_is : array_chunks (array_place fresh) fresh.array fresh.array_size ≡ Ok array) where
    pub contents_chunks : (finding : Finding) → chunk_map_in fresh array judged ≡ Err finding → contents judged ≡ Err finding
    unfolding contents
    contents_chunks finding failed = rw (super_is, array_is, failed) refl

    -- and these its chunks
    module _ (chunks : List Chunk) (chunks_are : chunk_map_in fresh array judged ≡ Ok chunks) where
      pub contents_roots : (finding : Finding) → root_items_in fresh chunks judged ≡ Err finding → contents judged ≡ Err finding
      unfolding contents
      contents_roots finding failed = rw (super_is, array_is, chunks_are, failed) refl

      -- and these its root items
      module _ (roots : List RootAt) (items : root_items_in fresh chunks judged ≡ Ok roots) where
        pub all_found : (finding : Finding) → tree_records fresh chunks roots judged ≡ Err finding
            → all_records fresh array chunks roots judged ≡ Err finding
        unfolding all_records behind
        all_found finding failed =
            let chunk = chunks_walk fresh array chunks judged chunks_are in
            let root = roots_walk fresh chunks roots judged items in
            rw (chunk.1, root.1, failed) refl

        pub contents_trees : (finding : Finding) → tree_records fresh chunks roots judged ≡ Err finding → contents judged ≡ Err finding
        unfolding contents
        contents_trees finding failed = rw (super_is, array_is, chunks_are, items, all_found finding failed) refl

        all_fine : (records : List Seen) → tree_records fresh chunks roots judged ≡ Ok records
            → (seen : List Seen) × (all_records fresh array chunks roots judged ≡ Ok seen)
        unfolding all_records behind
        all_fine records fine =
            let chunk = chunks_walk fresh array chunks judged chunks_are in
            let root = roots_walk fresh chunks roots judged items in
            (chunk.0 ++ (root.0 ++ records), rw (chunk.1, root.1, fine) refl)

        pub walked_all : (records : List Seen) → tree_records fresh chunks roots judged ≡ Ok records
            → (seen : List Seen) × (walked judged ≡ Ok (record { sup = fresh; chunks = chunks; seen = seen }))
        unfolding walked
        walked_all records fine =
            let all = all_fine records fine in
            (all.0, rw (super_is, array_is, chunks_are, items, all.1) refl)

-- what is known of an image for which the bases stand
pub bases_are : (image : List ℕ) (sup : Super) (chunks : List Chunk) (roots : List RootAt) (sum_free : ℕ → ℕ → Bool) (full : ℕ → Bool) (pairs : Pairs)
    → BasesStand image sup chunks roots sum_free full pairs → IsBased image sup chunks roots pairs
unfolding contents
bases_are image sup chunks roots sum_free full pairs base =
    let old = base.trees in
    let s = steps_of image old base.walks in
    let all : Contents = record {
      sup = old.sup;
      chunks = old.chunks;
      roots = s.roots;
      records = super_record old.sup ∷ filter_map accounted old.seen;
    } in
    let holds : contents image ≡ Ok all = rw (s.sup_is, s.arrays, s.chunks_are, s.items, s.records) refl in
    let held : base.held ≡ all = same_contents base.held all (sym base.holds ∙ holds) in
    record {
      old = old;
      walks = base.walks;
      super_is = base.super_is ∙ ap (λ (c : Contents). c.sup) held;
      chunks_are = base.chunks_are ∙ ap (λ (c : Contents). c.chunks) held;
      array = s.array;
      array_is = s.arrays;
      olds = s.roots;
      items = s.items;
      roots_are = base.roots_are ∙ ap (λ (c : Contents). c.roots) held;
      pairs_are = base.pairs_are;
      has = has_trees image old s base.walks;
    }
  where
    as_held : Contents → Result Contents Finding
    as_held held = Ok held

    same_contents : (a b : Contents) → as_held a ≡ as_held b → a ≡ b
    same_contents a b is = cc
