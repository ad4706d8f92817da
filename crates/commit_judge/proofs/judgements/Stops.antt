-- A stop where no live block is hot.
use Rattle.std.proofs.Common.{◌≡◌, ℕ, List, length, refl, sym, ◌∙◌}
use Rattle.std.specs.Prelude.{Result, Ok, Err}
use Rattle.std.specs.List.{count_by}
use Rattle.std.specs.Ordering.{nat_cmp}
use Rattle.std.specs.FinMap.{FinMap}
use Rattle.walk_laws.proofs.Trees.{step_ok}
use Rattle.verdict.specs.declared.finding.Finding.{Finding}
use Rattle.verdict.specs.declared.finding.Verdict.TheVariants.{Accept}
use Rattle.verdict.specs.declared.place.Chunk.{Chunk}
use Rattle.super_reader.specs.Superblock.{array_place}
use Rattle.super_reader.specs.declared.Super.{Super}
use Rattle.volume_items.specs.SystemArray.{array_chunks}
use Rattle.records.specs.Contents.{Contents, all_records, chunk_map_in, contents, root_items_in, superblock_in}
use Rattle.records.specs.FullCheck.{checked, checked_with, full_check, verdict_of}
use Rattle.records.specs.Seen.{Seen}
use Rattle.tree_laws.specs.LivePairs.{Walked, live_in, walked}
use Rattle.touched_blocks.specs.Touched.{written_in}
use Rattle.write_cache.specs.Cache.{overlaid}
use Rattle.commit_laws.specs.Flags.{hot_of, is_hot}
use Rattle.commit_laws.specs.Stops.{StopLaw}
use Rattle.commit_judge.specs.Counts.{hot_between, may_be_harmed, over_walks}
use Rattle.commit_judge.specs.Stops.{SafeStops}
use Rattle.volume_items.specs.declared.root_at.RootAt.{RootAt}

pub generation_ok : (r : Result ℕ Finding) (generation : ℕ) → verdict_of r ≡ Accept generation → r ≡ Ok generation
generation_ok (Ok g) generation is = cc
generation_ok (Err finding) generation is = absurd (cc)

-- what all steps come to
walked_by : (image : List ℕ) (sup : Super) (array chunks : List Chunk) (roots : List RootAt) (seen : List Seen)
    → superblock_in image ≡ Ok sup → array_chunks (array_place sup) sup.array sup.array_size ≡ Ok array
    → chunk_map_in sup array image ≡ Ok chunks → root_items_in sup chunks image ≡ Ok roots
    → all_records sup array chunks roots image ≡ Ok seen
    → walked image ≡ Ok (record { sup = sup; chunks = chunks; seen = seen })
unfolding walked
walked_by image sup array chunks roots seen sup_is arrays chunks_are items records = rw (sup_is, arrays, chunks_are, items, records) refl

-- the walks of an image whose contents have no finding have none
pub held_walks : (image : List ℕ) (held : Contents) → contents image ≡ Ok held → (whole : Walked) × (walked image ≡ Ok whole)
unfolding contents
held_walks image held is =
    let s = step_ok (superblock_in image) _ held is in
    let a = step_ok (array_chunks (array_place s.0) s.0.array s.0.array_size) _ held s.2 in
    let c = step_ok (chunk_map_in s.0 a.0 image) _ held a.2 in
    let r = step_ok (root_items_in s.0 c.0 image) _ held c.2 in
    let w = step_ok (all_records s.0 a.0 c.0 r.0 image) _ held r.2 in
    (record { sup = s.0; chunks = c.0; seen = w.0 }, walked_by image s.0 a.0 c.0 r.0 w.0 s.1 a.1 c.1 r.1 w.1)

-- nor have those of an accepted image
accepted_walks : (image : List ℕ) (generation : ℕ) → full_check image ≡ Accept generation → (whole : Walked) × (walked image ≡ Ok whole)
unfolding checked_with
accepted_walks image generation is =
    let held = step_ok (contents image) _ generation (generation_ok (checked image) generation is) in
    held_walks image held.0 held.1

hot_by_walks : (image : List ℕ) (pending : FinMap nat_cmp ℕ) (old new : Walked) → walked image ≡ Ok old → walked (overlaid pending 0 image) ≡ Ok new
    → hot_of old new (written_in pending) (length image) (live_in old.seen) ≡ hot_between image pending
unfolding hot_between is_hot
hot_by_walks image pending old new was will =
    let hots : Walked → Walked → ℕ = λ o n. count_by (may_be_harmed o n (written_in pending) (length image)) (live_in o.seen) in
    let all : over_walks hots (walked image) (walked (overlaid pending 0 image)) ≡ hots old new = λ i. over_walks hots (was i) (will i) in
    sym all

pub safe : StopLaw → SafeStops
safe stop image other pending k generation known accepted none keeps =
    let old = known.bases.trees in
    let was = known.bases.walks in
    let next = accepted_walks (overlaid pending 0 image) generation accepted in
    (stop image other k old next.0 (written_in pending) known was (hot_by_walks image pending old next.0 was next.1 ∙ none) keeps).0
