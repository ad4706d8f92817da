-- The trees of an image, whose walks give its records. The chunk tree is the same by the system array's chunks and by all chunks.
use Rattle.std.proofs.Common.{◌≡◌, ℕ, zero, suc, ◌<◌, Bool, true, false, List, [], ◌∷◌, ◌++◌, length, refl, ap, sym, subst, ◌∙◌, arith}
use Rattle.std.specs.Prelude.{None, Ok, Err, map, nat_lt, if◌then◌else◌}
use Rattle.std.specs.List.{AllByRecursion, flat_map}
use Rattle.walk_laws.proofs.Trees.{step_ok}
use Rattle.verdict.proofs.Lists.{all_map}
use Rattle.verdict.specs.Image.{range}
use Rattle.verdict.specs.Rules.{and_then, finding_or, first_failing, image_finding}
use Rattle.verdict.specs.Trees.{is_node_size}
use Rattle.verdict.specs.declared.finding.Family.TheVariants.{S}
use Rattle.verdict.specs.declared.place.At.{At}
use Rattle.verdict.specs.declared.place.Chunk.{Chunk}
use Rattle.verdict.proofs.Tables.{finding_or-ok}
use Rattle.super_reader.specs.declared.Super.{Super}
use Rattle.super_reader.specs.Superblock.{array_place, superblock_fields, superblock_of, superblock_rules}
use Rattle.super_reader.proofs.SuperLaws.{fields_readable}
use Rattle.volume_items.specs.MapRules.{map_finding}
use Rattle.volume_items.specs.SystemArray.{array_chunks}
use Rattle.node_reader.specs.Faults.{block_of}
use Rattle.node_reader.specs.Stored.{Stored, block_in, found_by, stored_in}
use Rattle.node_reader.specs.declared.expect.Expect.{Expect}
use Rattle.records.specs.Contents.{all_records, chunk_map_in, chunk_records, chunk_tree_root, named_root, root_items_in, root_tree_root, superblock_in}
use Rattle.records.specs.Takes.{held_after, with_chunk}
use Rattle.records.specs.Walk.{then_records, walk_of}
use Rattle.records.specs.WalkLaw.{StoredAlike, children_in, visited, visited_from}
use Rattle.records.proofs.Alike.{walk_alike}
use Rattle.tree_laws.specs.LivePairs.{Walked, walked}
use Rattle.tree_laws.specs.SharedLaw.{ChunkTreeLaw, HasTrees, TreesLaw, WalksAlike}
use Rattle.tree_laws.specs.TableLaw.{AreApart, Tree, trees_in}
use Rattle.tree_laws.proofs.Accepted.{accepts}
use Rattle.tree_laws.proofs.ArrayTree.{same_stored}
use Rattle.tree_laws.proofs.Forest.{then_ok, walks}
use Rattle.tree_laws.proofs.Rooted.{all_apart, all_walks, roots_are}
use Rattle.tree_laws.proofs.Tables.{Any, any_each}
use Rattle.tree_laws.proofs.Trails.{trail_below, trail_of}
use Rattle.tree_laws.proofs.Visiting.{Visits, comes_from, visits_from}
use Rattle.tree_laws.proofs.Within.{Below, within}
use Rattle.volume_items.specs.declared.root_at.RootAt.{RootAt}

-- what the steps to the walks of an image give
pub record Steps (image : List ℕ) (whole : Walked) : Type 0 where
  pub sup_is : superblock_in image ≡ Ok whole.sup
  pub array : List Chunk
  pub arrays : array_chunks (array_place whole.sup) whole.sup.array whole.sup.array_size ≡ Ok array
  pub chunks_are : chunk_map_in whole.sup array image ≡ Ok whole.chunks
  pub roots : List RootAt
  pub items : root_items_in whole.sup whole.chunks image ≡ Ok roots
  pub records : all_records whole.sup array whole.chunks roots image ≡ Ok whole.seen

pub steps_of : (image : List ℕ) (whole : Walked) → walked image ≡ Ok whole → Steps image whole
unfolding walked
steps_of image whole is =
    let s = step_ok (superblock_in image) _ whole is in
    let a = step_ok (array_chunks (array_place s.0) s.0.array s.0.array_size) _ whole s.2 in
    let c = step_ok (chunk_map_in s.0 a.0 image) _ whole a.2 in
    let r = step_ok (root_items_in s.0 c.0 image) _ whole c.2 in
    let w = step_ok (all_records s.0 a.0 c.0 r.0 image) _ whole r.2 in
    subst (Steps image) (ok_walked (record { sup = s.0; chunks = c.0; seen = w.0 }) whole w.2)
    (record { sup_is = s.1; array = a.0; arrays = a.1; chunks_are = c.1; roots = r.0; items = r.1; records = w.1 })
  where
    ok_walked : (a b : Walked) → finding_or {A = Walked} None a ≡ Ok b → a ≡ b
    ok_walked a b is = cc

-- a block of an image has bytes
pub nodesize_some : (image : List ℕ) (sup : Super) → superblock_in image ≡ Ok sup → 0 < sup.nodesize
unfolding superblock_in superblock_of
nodesize_some image sup is = by (nat_lt (length image) 69632) is
  where
    some : (n : ℕ) → is_node_size n ≡ true → 0 < n
    some zero is = absurd (cc)
    some (suc n) is = omega arith

    by : (b : Bool) → (if b then Err (image_finding S 1 (length image)) else finding_or (first_failing (superblock_rules (range 65536 4096 image)))
        (superblock_fields (range 65536 4096 image))) ≡ Ok sup → 0 < sup.nodesize
    by true is = absurd (cc)
    by false is =
        let bytes = range 65536 4096 image in
        let fine = finding_or-ok (first_failing (superblock_rules bytes)) (superblock_fields bytes) sup is in
        some sup.nodesize (subst (λ (s : Super). is_node_size s.nodesize ≡ true) (sym fine.1) (fields_readable bytes fine.0).nodesize)

-- the rules on its chunk map keep
pub map_kept : (sup : Super) (array chunks : List Chunk) (image : List ℕ) → chunk_map_in sup array image ≡ Ok chunks
    → map_finding chunks array (length image) ≡ None
unfolding chunk_map_in
map_kept sup array chunks image is =
    let held =
    step_ok (held_after with_chunk [] (chunk_records sup array image))
    (λ chunks. and_then (finding_or (map_finding chunks array (length image)) (tt {0})) (λ _. Ok chunks)) chunks is in
    let fine = step_ok (finding_or (map_finding held.0 array (length image)) (tt {0})) (λ _. Ok held.0) chunks held.2 in
    subst (λ cs. map_finding cs array (length image) ≡ None) (ok_chunks held.0 chunks fine.2)
    (finding_or-ok (map_finding held.0 array (length image)) (tt {0}) fine.0 fine.1).0
  where
    ok_chunks : (a b : List Chunk) → finding_or {A = List Chunk} None a ≡ Ok b → a ≡ b
    ok_chunks a b is = cc

-- where the same is stored at the address of each block, a walk comes to the same
alike_split : (stored other : Stored) (first later : List Expect) → StoredAlike stored other (first ++ later)
    → StoredAlike stored other first × StoredAlike stored other later
alike_split stored other [] later alike = (tt, alike)
alike_split stored other (e ∷ es) later alike =
    let rest = alike_split stored other es later alike.1 in
    ((alike.0, rest.0), rest.1)

block_alike : (stored other : Stored) (fsid : List ℕ) (e : Expect) → other e.address ≡ stored e.address
    → block_in other fsid e ≡ block_in stored fsid e
unfolding block_in
block_alike stored other fsid e alike = ap (λ found. and_then (found_by e found) (λ bytes. block_of bytes fsid e)) alike

each_visited : (of by : Expect → List Expect) (stored other : Stored) (es : List Expect)
    → ((e : Expect) → StoredAlike stored other (by e) → of e ≡ by e) → StoredAlike stored other (flat_map by es)
    → flat_map of es ≡ flat_map by es
each_visited of by stored other [] same alike = refl
each_visited of by stored other (e ∷ es) same alike =
    let both = alike_split stored other (by e) (flat_map by es) alike in
    rw (same e both.0, each_visited of by stored other es same both.1) refl

visited_alike : (level : ℕ) (sup : Super) (stored other : Stored) (e : Expect) → StoredAlike stored other (visited_from level sup stored e)
    → visited_from level sup other e ≡ visited_from level sup stored e
unfolding visited_from
visited_alike zero sup stored other e alike = refl
visited_alike (suc level) sup stored other e alike =
    ap (λ es. e ∷ es)
    (ap (λ block. flat_map (visited_from level sup other) (children_in level e block)) (block_alike stored other sup.fsid e alike.0)
    ∙ each_visited (visited_from level sup other) (visited_from level sup stored) stored other (children_in level e (block_in stored sup.fsid e))
    (visited_alike level sup stored other) alike.1)

alike_all : (stored other : Stored) (es : List Expect) → AllByRecursion (λ w. other w.address ≡ stored w.address) es → StoredAlike stored other es
alike_all stored other [] all = tt
alike_all stored other (e ∷ es) all = (all.0, alike_all stored other es all.1)

-- the chunk tree of an image, by the array's chunks and by all
chunk_tree_alike : (image : List ℕ) (whole : Walked) (s : Steps image whole)
    → StoredAlike (stored_in image s.array whole.sup.nodesize) (stored_in image whole.chunks whole.sup.nodesize)
    (visited whole.sup (stored_in image s.array whole.sup.nodesize) (chunk_tree_root whole.sup))
chunk_tree_alike image whole s =
    let sup = whole.sup in
    let root = chunk_tree_root sup in
    let split =
    then_ok (walk_of sup stored root) (walks sup (others s.roots)) whole.seen (all_walks sup s.array whole.chunks s.roots image ∙ s.records) in
    let any : Visits (Any sup stored) (trail_of sup stored root) =
    visits_from (Any sup stored) sup stored root (record { fine = rw split.2 refl; each = any_each sup stored (visited sup stored root) }) in
    alike_all stored other (visited sup stored root)
    (all_map (Below (Any sup stored) sup stored) (λ w. other w.address ≡ stored w.address) (visited sup stored root) (λ w below. block w below)
    (comes_from (Below (Any sup stored) sup stored) sup stored root (within (Any sup stored) sup stored root any)).each)
  where
    stored : Stored
    stored = stored_in image s.array whole.sup.nodesize

    other : Stored
    other = stored_in image whole.chunks whole.sup.nodesize

    others : List RootAt → List Tree
    others roots = (other, root_tree_root whole.sup) ∷ map (λ root. (other, named_root root)) roots

    block : (w : Expect) → Below (Any whole.sup stored) whole.sup stored w → other w.address ≡ stored w.address
    block w below =
        let a = accepts (Any whole.sup stored) (trail_below w.level whole.sup stored) whole.sup stored w below in
        same_stored image whole.chunks s.array whole.sup.nodesize a.bytes w.address (nodesize_some image whole.sup s.sup_is)
        (map_kept whole.sup s.array whole.chunks image s.chunks_are) a.is

pub same_chunks : (place : At) (array : List ℕ) (n : ℕ) (a b : List Chunk) → array_chunks place array n ≡ Ok a → array_chunks place array n ≡ Ok b → a ≡ b
same_chunks place array n a b x y = cc

pub chunk_tree : ChunkTreeLaw
chunk_tree image whole array is arrays =
    let s = steps_of image whole is in
    let n = whole.sup.nodesize in
    let root = chunk_tree_root whole.sup in
    let alike = chunk_tree_alike image whole s in
    subst (λ a. WalksAlike whole.sup (stored_in image a n) (stored_in image whole.chunks n) root)
    (same_chunks (array_place whole.sup) whole.sup.array whole.sup.array_size s.array array s.arrays arrays)
    (record {
      walk = walk_alike root.level whole.sup (stored_in image s.array n) (stored_in image whole.chunks n) root alike;
      blocks = visited_alike root.level whole.sup (stored_in image s.array n) (stored_in image whole.chunks n) root alike;
    })

-- the trees of an image
pub has_trees : (image : List ℕ) (whole : Walked) (s : Steps image whole) → walked image ≡ Ok whole
    → HasTrees image whole (trees_in whole.sup whole.chunks whole.chunks s.roots image)
has_trees image whole s is = record { walks = is; roots = s.roots; items = s.items; trees_are = refl }

-- have different ids, and their walks give its records
pub trees_walk : TreesLaw
trees_walk image whole trees has =
    let s = steps_of image whole has.walks in
    let n = whole.sup.nodesize in
    let root = chunk_tree_root whole.sup in
    let rest = walks whole.sup (others has.roots) in
    let walk : walk_of whole.sup (stored_in image whole.chunks n) root ≡ walk_of whole.sup (stored_in image s.array n) root =
    walk_alike root.level whole.sup (stored_in image s.array n) (stored_in image whole.chunks n) root (chunk_tree_alike image whole s) in
    subst (λ trees. AreApart trees × (walks whole.sup trees ≡ Ok whole.seen)) (sym has.trees_are) (
      all_apart whole.sup whole.chunks whole.chunks has.roots image (roots_are whole.sup whole.chunks image has.roots has.items),
      ap (λ w. then_records w rest) walk ∙ (all_walks whole.sup s.array whole.chunks has.roots image
          ∙ subst (λ r. all_records whole.sup s.array whole.chunks r image ≡ Ok whole.seen)
          (same_roots s.roots has.roots s.items has.items) s.records),
    )
  where
    others : List RootAt → List Tree
    others roots =
        (stored_in image whole.chunks whole.sup.nodesize, root_tree_root whole.sup) ∷ map
        (λ root. (stored_in image whole.chunks whole.sup.nodesize, named_root root)) roots

    same_roots : (a b : List RootAt) → root_items_in whole.sup whole.chunks image ≡ Ok a → root_items_in whole.sup whole.chunks image ≡ Ok b → a ≡ b
    same_roots a b x y = cc
