-- The blocks of the chunk tree are judged by the chunks of the system array as by all chunks.
use Rattle.std.proofs.Common.{◌≡◌, ℕ, List, [], ◌∷◌, length, refl, ap, sym, subst, ◌∙◌}
use Rattle.std.specs.Prelude.{Ok, map, not}
use Rattle.std.specs.List.{AllByRecursion}
use Rattle.verdict.proofs.Lists.{all_map as each_map}
use Rattle.verdict.specs.Chunks.{place}
use Rattle.verdict.specs.declared.place.Chunk.{Chunk}
use Rattle.verdict.specs.declared.place.Place.{Place}
use Rattle.super_reader.specs.declared.Super.{Super}
use Rattle.super_reader.specs.Superblock.{array_place}
use Rattle.live_index.specs.declared.live.Live.{Live}
use Rattle.node_reader.specs.Stored.{Stored, stored_in}
use Rattle.node_reader.specs.declared.expect.Expect.{Expect}
use Rattle.records.specs.Contents.{chunk_tree_root, named_root, root_tree_root}
use Rattle.records.specs.Seen.{Seen}
use Rattle.records.specs.Walk.{walk_of}
use Rattle.records.specs.WalkLaw.{visited}
use Rattle.touched_blocks.specs.Touched.{copy_written, same_place}
use Rattle.tree_laws.specs.ArrayLaw.{ArrayLaw, EachByArray, HasArray, IsAsByAll}
use Rattle.tree_laws.specs.Keeping.{live_at}
use Rattle.tree_laws.specs.LivePairs.{Walked}
use Rattle.tree_laws.specs.SharedLaw.{WalksAlike}
use Rattle.tree_laws.proofs.Accepted.{accepts}
use Rattle.tree_laws.proofs.ArrayTree.{same_places}
use Rattle.tree_laws.proofs.Forest.{then_ok, walks}
use Rattle.tree_laws.proofs.Lives.{lives_are}
use Rattle.tree_laws.proofs.Picking.{each_both}
use Rattle.tree_laws.proofs.Rooted.{all_walks}
use Rattle.tree_laws.proofs.Tables.{Any, any_each}
use Rattle.tree_laws.proofs.Trails.{trail_below, trail_of}
use Rattle.tree_laws.proofs.Treed.{Steps, chunk_tree, map_kept, nodesize_some, steps_of, same_chunks}
use Rattle.tree_laws.proofs.Visiting.{Visits, comes_from, visits_from}
use Rattle.tree_laws.proofs.Within.{Below, within}

heads : (a b : Live) (more rest : List Live) → a ∷ more ≡ b ∷ rest → (a ≡ b) × (more ≡ rest)
heads a b more rest is = (cc, cc)

each_same : (f g : Expect → Live) (es : List Expect) → map f es ≡ map g es → AllByRecursion (λ v. f v ≡ g v) es
each_same f g [] is = tt
each_same f g (e ∷ es) is =
    let both = heads (f e) (g e) (map f es) (map g es) is in
    (both.0, each_same f g es both.1)

-- walks that come to the same blocks and give the same know the same of each
lives_same : (sup : Super) (stored other : Stored) (root : Expect) (records : List Seen) → walk_of sup stored root ≡ Ok records
    → WalksAlike sup stored other root → AllByRecursion (λ v. live_at sup stored v ≡ live_at sup other v) (visited sup stored root)
lives_same sup stored other root records is alike =
    each_same (live_at sup stored) (live_at sup other) (visited sup stored root)
    (sym (lives_are sup stored root records is)
    ∙ (lives_are sup other root records (alike.walk ∙ is) ∙ ap (map (live_at sup other)) alike.blocks))

-- the walk of the chunk tree by the array's chunks has no finding
pub array_walk : (image : List ℕ) (whole : Walked) (s : Steps image whole)
    → (records : List Seen) × (walk_of whole.sup (stored_in image s.array whole.sup.nodesize) (chunk_tree_root whole.sup) ≡ Ok records)
array_walk image whole s =
    let stored = stored_in image whole.chunks whole.sup.nodesize in
    let split =
    then_ok (walk_of whole.sup (stored_in image s.array whole.sup.nodesize) (chunk_tree_root whole.sup))
    (walks whole.sup ((stored, root_tree_root whole.sup) ∷ map (λ root. (stored, named_root root)) s.roots)) whole.seen
    (all_walks whole.sup s.array whole.chunks s.roots image ∙ s.records) in
    (split.0, split.2)

places_same : (image : List ℕ) (whole : Walked) (s : Steps image whole)
    → EachByArray (λ v. place whole.chunks v.address whole.sup.nodesize (length image) ≡ place s.array v.address whole.sup.nodesize (length image))
    image whole s.array
places_same image whole s =
    let sup = whole.sup in
    let root = chunk_tree_root sup in
    let any : Visits (Any sup stored) (trail_of sup stored root) =
    visits_from (Any sup stored) sup stored root
    (record { fine = rw (array_walk image whole s).1 refl; each = any_each sup stored (visited sup stored root) }) in
    each_map (Below (Any sup stored) sup stored)
    (λ v. place whole.chunks v.address sup.nodesize (length image) ≡ place s.array v.address sup.nodesize (length image)) (visited sup stored root)
    (λ w below. block w below)
    (comes_from (Below (Any sup stored) sup stored) sup stored root (within (Any sup stored) sup stored root any)).each
  where
    stored : Stored
    stored = stored_in image s.array whole.sup.nodesize

    block : (w : Expect) → Below (Any whole.sup stored) whole.sup stored w
        → place whole.chunks w.address whole.sup.nodesize (length image) ≡ place s.array w.address whole.sup.nodesize (length image)
    block w below =
        let a = accepts (Any whole.sup stored) (trail_below w.level whole.sup stored) whole.sup stored w below in
        same_places image whole.chunks s.array whole.sup.nodesize a.bytes w.address (nodesize_some image whole.sup s.sup_is)
        (map_kept whole.sup s.array whole.chunks image s.chunks_are) a.is

-- the steps to the walks of an image come to its array
pub array_is : (image : List ℕ) (whole : Walked) (array : List Chunk) (s : Steps image whole) → HasArray image whole array → s.array ≡ array
array_is image whole array s has =
    same_chunks (array_place whole.sup) whole.sup.array whole.sup.array_size s.array array s.arrays has.array_is

pub as_by_all : ArrayLaw
as_by_all image whole array has =
    let s = steps_of image whole has.walks in
    subst (λ a. EachByArray (IsAsByAll image whole a) image whole a) (array_is image whole array s has) (by s)
  where
    by : (s : Steps image whole) → EachByArray (IsAsByAll image whole s.array) image whole s.array
    by s =
        let n = whole.sup.nodesize in
        let end = length image in
        let root = chunk_tree_root whole.sup in
        let stored = stored_in image s.array n in
        let all = stored_in image whole.chunks n in
        let walk = array_walk image whole s in
        each_map
        (λ v. (place whole.chunks v.address n end ≡ place s.array v.address n end) × (live_at whole.sup stored v ≡ live_at whole.sup all v))
        (IsAsByAll image whole s.array) (visited whole.sup stored root)
        (λ v h. record {
          stands = sym h.0;
          moved = λ old. ap (λ (at : Place). not (same_place (place old v.address n end) at)) (sym h.0);
          left = λ new. ap (λ (at : Place). not (same_place at (place new v.address n end))) (sym h.0);
          touched = λ written. ap (copy_written written n) (sym h.0);
          live = h.1;
        })
        (each_both (λ v. place whole.chunks v.address n end ≡ place s.array v.address n end)
        (λ v. live_at whole.sup stored v ≡ live_at whole.sup all v) (visited whole.sup stored root)
        (places_same image whole s)
        (lives_same whole.sup stored all root walk.0 walk.1 (chunk_tree image whole s.array has.walks s.arrays)))

-- the live pairs by the array's chunks are those by all
pub live_same : (image : List ℕ) (whole : Walked) (array : List Chunk) → HasArray image whole array
    → EachByArray (λ v. live_at whole.sup (stored_in image array whole.sup.nodesize) v
    ≡ live_at whole.sup (stored_in image whole.chunks whole.sup.nodesize) v)
    image whole array
live_same image whole array has =
    let n = whole.sup.nodesize in
    each_map (IsAsByAll image whole array)
    (λ v. live_at whole.sup (stored_in image array n) v ≡ live_at whole.sup (stored_in image whole.chunks n) v)
    (visited whole.sup (stored_in image array n) (chunk_tree_root whole.sup)) (λ v h. h.live) (as_by_all image whole array has)
