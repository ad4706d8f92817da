-- The chunks of an image whose walks have no finding: they stand apart, and there are some.
use Rattle.std.proofs.Common.{◌≡◌, ℕ, ◌<◌, Bool, true, false, List, [], ◌∷◌, length, refl, ap, sym, ◌∙◌, subst, arith}
use Rattle.std.specs.Prelude.{Ok, Err, if◌then◌else◌, Result}
use Rattle.std.specs.List.{AllPairs}
use Rattle.walk_laws.proofs.Trees.{step_ok}
use Rattle.verdict.specs.Items.{is_multiple}
use Rattle.verdict.specs.Rules.{and_then, finding_or}
use Rattle.verdict.specs.declared.place.Chunk.{Chunk}
use Rattle.super_reader.specs.declared.Super.{Super}
use Rattle.volume_items.specs.MapRules.{map_finding}
use Rattle.node_reader.specs.Faults.{block_of}
use Rattle.node_reader.specs.Stored.{CopyFault, block_in, copy_finding, found_by, stored_in}
use Rattle.node_reader.specs.Stored.CopyFault.{NoPlace}
use Rattle.node_reader.specs.declared.expect.Expect.{Expect}
use Rattle.records.specs.Contents.{chunk_records, chunk_tree_root}
use Rattle.records.specs.Seen.{Seen}
use Rattle.records.specs.Walk.{walk_in, walk_of}
use Rattle.tree_laws.specs.LivePairs.{Walked, walked}
use Rattle.tree_laws.specs.MergedLaw.{begins_before, chunks_seen}
use Rattle.tree_laws.proofs.MergedLists.{map_seen}
use Rattle.tree_laws.proofs.Premises.{chunks_apart}
use Rattle.tree_laws.proofs.Treed.{chunk_tree, steps_of}
use Rattle.tree_change.proofs.Free.{chunks_ascend}
use Rattle.tree_change.proofs.Olds.{same_ok}
use Rattle.change_records.specs.Homes.{StandApart}
use Rattle.lookup_bounds.proofs.HousedHomes.{stand_apart}

-- the walk of the chunk tree, by the chunks of the system array
record ChunkWalk (image : List ℕ) (whole : Walked) : Type 0 where
  array : List Chunk
  records : List Seen
  by_array : walk_of whole.sup (stored_in image array whole.sup.nodesize) (chunk_tree_root whole.sup) ≡ Ok records
  by_chunks : walk_of whole.sup (stored_in image whole.chunks whole.sup.nodesize) (chunk_tree_root whole.sup) ≡ Ok records
  seen_is : chunks_seen records ≡ whole.chunks

chunk_walk : (image : List ℕ) (whole : Walked) → walked image ≡ Ok whole → ChunkWalk image whole
unfolding walk_in
chunk_walk image whole walks =
    let s = steps_of image whole walks in
    let alike = chunk_tree image whole s.array walks s.arrays in
    let walk =
    step_ok (chunk_records whole.sup s.array image)
    (λ records. and_then (finding_or (map_finding (chunks_seen records) s.array (length image)) (tt {0})) (λ _. Ok (chunks_seen records)))
    whole.chunks (sym (map_seen whole.sup s.array image) ∙ s.chunks_are) in
    let rules =
    step_ok (finding_or (map_finding (chunks_seen walk.0) s.array (length image)) (tt {0})) (λ _. Ok (chunks_seen walk.0)) whole.chunks walk.2 in
    record {
      array = s.array;
      records = walk.0;
      by_array = walk.1;
      by_chunks = alike.walk ∙ walk.1;
      seen_is = same_ok (chunks_seen walk.0) whole.chunks rules.2;
    }

-- the chunks of an image stand apart
pub chunks_stand : (image : List ℕ) (whole : Walked) → walked image ≡ Ok whole → StandApart whole.chunks
chunks_stand image whole walks =
    let w = chunk_walk image whole walks in
    let ascend : AllPairs (λ a b. begins_before a b ≡ true) whole.chunks =
    subst (λ chunks. AllPairs (λ a b. begins_before a b ≡ true) chunks) w.seen_is
    (chunks_ascend (λ live. false) (λ live. refl) whole.sup (stored_in image w.array whole.sup.nodesize) (chunk_tree_root whole.sup) w.records
    w.by_array refl) in
    stand_apart whole.chunks (chunks_apart image whole walks) ascend

-- nothing is stored by no chunks
none_stored : (image : List ℕ) (n address : ℕ) → stored_in image [] n address ≡ Err NoPlace
unfolding stored_in
none_stored image n address = by (is_multiple address)
  where
    no_place : Result (List ℕ) CopyFault
    no_place = Err NoPlace

    by : (b : Bool) → (if b then no_place else no_place) ≡ no_place
    by true = refl
    by false = refl

walk_some : (sup : Super) (chunks : List Chunk) (image : List ℕ) (e : Expect) (records : List Seen)
    → walk_of sup (stored_in image chunks sup.nodesize) e ≡ Ok records → 0 < length chunks
unfolding block_in
walk_some sup [] image e records is =
    let block = step_ok (block_in (stored_in image [] sup.nodesize) sup.fsid e) _ records is in
    let failed : block_in (stored_in image [] sup.nodesize) sup.fsid e ≡ Err (copy_finding e NoPlace) =
    ap (λ (found : Result (List ℕ) CopyFault). and_then (found_by e found) (λ bytes. block_of bytes sup.fsid e))
    (none_stored image sup.nodesize e.address) in
    let given = block.1 in
    absurd (cc (failed, given))
walk_some sup (c ∷ chunks) image e records is = omega arith

-- and there are some
pub chunks_some : (image : List ℕ) (whole : Walked) → walked image ≡ Ok whole → 0 < length whole.chunks
chunks_some image whole walks =
    let w = chunk_walk image whole walks in
    walk_some whole.sup whole.chunks image (chunk_tree_root whole.sup) w.records w.by_chunks
