-- The two images that are compared, as private functions have them: the image as it was, for which the bases stand, and the new one.
use Rattle.std.specs.Prelude.{ℕ, ◌≡◌, ◌≤◌, ◌⊎◌, ◌&&◌, true, false, List, length, map, Some, Result, Ok, Err, IfSome}
use Rattle.std.specs.Ordering.{nat_cmp}
use Rattle.std.specs.FinMap.{FinMap, empty}
use Rattle.verdict.specs.Trees.{is_node_size}
use Rattle.verdict.specs.declared.finding.Finding.{Finding}
use Rattle.verdict.specs.declared.place.Chunk.{Chunk}
use Rattle.recon_disk.specs.declared.disk.Disk.{Ghosts}
use Rattle.write_cache.specs.Cache.{overlaid}
use Rattle.live_index.specs.Pairs.{AreNarrow, Pairs, no_pairs}
use Rattle.live_index.specs.Table.{pairs_of}
use Rattle.super_reader.specs.Superblock.{array_place}
use Rattle.super_reader.specs.declared.Super.{Super}
use Rattle.volume_items.specs.SystemArray.{array_chunks}
use Rattle.volume_items.specs.declared.root_at.RootAt.{RootAt}
use Rattle.records.specs.Contents.{chunk_map_in, chunk_tree_root, contents, root_items_in, root_tree_root, superblock_in, tree_records}
use Rattle.records.specs.Seen.{Seen}
use Rattle.block_source.specs.declared.halt.Halt.{Halt}
use Rattle.block_source.specs.declared.halt.Halt.TheVariants.{Found}
use Rattle.touched_blocks.specs.Marking.{AreMarked}
use Rattle.touched_blocks.specs.Marks.{marked_by, no_mark}
use Rattle.touched_blocks.specs.Spots.{at_address}
use Rattle.touched_blocks.specs.Touched.{touches_block, written_in}
use Rattle.tree_laws.specs.LivePairs.{Walked, live_in, table_of, walked}
use Rattle.tree_laws.specs.Shared.{are_read_alike}
use Rattle.tree_laws.specs.SharedLaw.{HasTrees}
use Rattle.tree_laws.specs.TableLaw.{trees_in}
use Rattle.tree_change.specs.AllTrees.{IsOver, gone_all, named_parts, with_parts}
use Rattle.tree_change.specs.Change.{IsDifference, ReadsFew, is_before, item_before}
use Rattle.tree_change.specs.Gathered.{located_item}
use Rattle.tree_change.specs.Making.{IsAdded}
use Rattle.tree_change.specs.Merging.{IsSortedOf}
use Rattle.tree_change.specs.OneTree.{KnowsNothing, KnowsTree, side_of}
use Rattle.tree_change.specs.Walks.{Known, Parts, Side, tree_parts}
use Rattle.tree_change.specs.declared.change.Change.{Change}
use Rattle.tree_change.specs.declared.change.Diff.TheVariants.{Change as Changed}
use Rattle.tree_change.specs.declared.sides.Compared.{Compared}
use Rattle.tree_change.specs.declared.trees.TreeParts.{TreeParts}

-- What is known of an image for which the bases stand: its walks have no finding, and what is known is what they give.
pub record IsBased (image : List ℕ) (sup : Super) (chunks : List Chunk) (roots : List RootAt) (pairs : Pairs) : Type 0 where
  pub old : Walked
  pub walks : walked image ≡ Ok old
  pub super_is : sup ≡ old.sup
  pub chunks_are : chunks ≡ old.chunks
  pub array : List Chunk
  pub array_is : array_chunks (array_place old.sup) old.sup.array old.sup.array_size ≡ Ok array
  pub olds : List RootAt
  pub items : root_items_in old.sup old.chunks image ≡ Ok olds
  pub roots_are : roots ≡ olds
  pub pairs_are : (tree address : ℕ) → pairs tree address ≡ table_of (live_in old.seen) tree address
  pub has : HasTrees image old (trees_in old.sup old.chunks old.chunks olds image)

-- blocks are kept by the table of the old pairs where they are read alike in both images, and by no pair where they are not
abbrev pub KeepsBy : Super → Super → Pairs → Pairs → Type 0
KeepsBy was fresh pairs kept =
    ((are_read_alike was fresh ≡ true) × (kept ≡ pairs)) ⊎ ((are_read_alike was fresh ≡ false) × (kept ≡ no_pairs))

-- Both images are read by sound sizes from a device of so many bytes, the one as it was without pending writes. Blocks are kept by a table,
-- of which those pairs are marked that writes touch, and all above them. Of these the ones that writes touch are told apart.
pub record FitsCompared {L : Type 0} (both : Compared L) (end : ℕ) : Type 0 where
  pub was_size : is_node_size both.was.sup.now.nodesize ≡ true
  pub new_size : is_node_size both.fresh.now.nodesize ≡ true
  pub was_array : both.was.sup.now.array_size ≤ 2048
  pub was_end : both.was.end ≡ end
  pub none : both.was.cache.now ≡ empty
  pub keeps : KeepsBy both.was.sup.now both.fresh.now (pairs_of both.table.now) (pairs_of both.kept.now)
  pub marked : AreMarked (pairs_of both.kept.now)
      (at_address (touches_block (written_in both.cache.now) both.was.map.now both.was.sup.now.nodesize both.was.end)) no_mark
      (marked_by both.marks.now)
  pub touched : (tree address : ℕ) → marked_by both.touched.now tree address
      ≡ (marked_by both.marks.now tree address
      && touches_block (written_in both.cache.now) both.was.map.now both.was.sup.now.nodesize both.was.end address)

-- the new image, and how it is read by some chunks
abbrev pub judged_by : {L : Type 0} → Compared L → List ℕ → List ℕ
judged_by both image = overlaid both.cache.now 0 image

abbrev pub side_to : {L : Type 0} → Compared L → List ℕ → List Chunk → Side
side_to both image chunks = record { sup = both.fresh.now; chunks = chunks; image = judged_by both image }

-- the disk's bytes are an image for which the bases stand, with ids and addresses of 64 bits; and the new superblock is that of the new image
pub record IsCompared {L : Type 0} (both : Compared L) (image : List ℕ) : Type 0 where
  pub based : IsBased image both.was.sup.now both.was.map.now both.roots.now (pairs_of both.table.now)
  pub narrow : AreNarrow (pairs_of both.table.now)
  pub super_is : superblock_in (judged_by both image) ≡ Ok both.fresh.now
  pub end : both.was.end ≡ length image

-- these are the chunks of the new system array
abbrev pub HasNewArray : {L : Type 0} → Compared L → List Chunk → Type 0
HasNewArray both array = array_chunks (array_place both.fresh.now) both.fresh.now.array both.fresh.now.array_size ≡ Ok array

-- the new chunks, and what changes in the chunk tree by what is known of the old one
pub record MakesMap {L : Type 0} (both : Compared L) (image : List ℕ) (old : Walked) (array chunks : List Chunk) (known : Known) (parts : Parts) : Type 0 where
  pub known_is : KnowsTree image both.cache.now old (side_to both image array) known (Some (chunk_tree_root old.sup))
      ⊎ KnowsNothing old (side_to both image array) known
  pub tree : tree_parts (pairs_of both.table.now) known (side_of image old) (side_to both image array) (Some (chunk_tree_root old.sup))
      (chunk_tree_root both.fresh.now) ≡ Ok parts
  pub chunks_are : chunk_map_in both.fresh.now array (judged_by both image) ≡ Ok chunks

-- a step makes the new chunks, and puts what changes in the chunk tree behind other parts; or it has the finding
abbrev pub TellsMap : {D L : Type 0} → (disk : Ghosts D) → D → D → TreeParts → TreeParts → Compared L → List Chunk → Result (List Chunk) Halt → Type 0
TellsMap disk old new some all both array (Err (Found finding)) = IfSome (disk.bytes old) (λ image.
    IsCompared both image → HasNewArray both array → chunk_map_in both.fresh.now array (judged_by both image) ≡ Err finding)
TellsMap disk old new some all both array (Err other) = Unit {0}
TellsMap disk old new some all both array (Ok chunks) = IfSome (disk.bytes old) (λ image.
    (is : IsCompared both image) → HasNewArray both array
    → (known : Known) × (parts : Parts) × MakesMap both image is.based.old array chunks known parts
    × IsAdded some all parts (disk.reads old) (disk.reads new))

-- the trees but the chunk tree have no finding, these are the new roots, and this is what changes in them
pub record MakesRest {L : Type 0} (both : Compared L) (image : List ℕ) (old : Walked) (olds : List RootAt) (chunks : List Chunk) (parts : Parts)
    (news : List RootAt) : Type 0 where
  pub items : root_items_in both.fresh.now chunks (judged_by both image) ≡ Ok news
  pub records : List Seen
  pub fine : tree_records both.fresh.now chunks news (judged_by both image) ≡ Ok records
  pub known : Known
  pub over : IsOver image both.cache.now old olds (trees_in old.sup old.chunks old.chunks olds image) (pairs_of both.table.now)
      (side_to both image chunks) known
  pub root_parts : Parts
  pub named : Parts
  pub gone : Parts
  pub root_tree : tree_parts (pairs_of both.table.now) known (side_of image old) (side_to both image chunks) (Some (root_tree_root old.sup))
      (root_tree_root both.fresh.now) ≡ Ok root_parts
  pub named_trees : named_parts (pairs_of both.table.now) known (side_of image old) (side_to both image chunks) olds news
      ≡ Ok named
  pub gone_trees : gone_all (pairs_of both.table.now) known (side_of image old) news olds ≡ Ok gone
  pub all : parts ≡ with_parts root_parts (with_parts named gone)

-- the first finding of the root tree, of its items, or of a tree that these name
abbrev pub FindsRest : {L : Type 0} → Compared L → List ℕ → List Chunk → Finding → Type 0
FindsRest both image chunks finding =
    (root_items_in both.fresh.now chunks (judged_by both image) ≡ Err finding)
    ⊎ ((news : List RootAt) × (root_items_in both.fresh.now chunks (judged_by both image) ≡ Ok news)
    × (tree_records both.fresh.now chunks news (judged_by both image) ≡ Err finding))

-- these are the chunks of the new image
abbrev pub HasNewMap : {L : Type 0} → Compared L → List ℕ → List Chunk → Type 0
HasNewMap both image chunks = (array : List Chunk) × (chunk_map_in both.fresh.now array (judged_by both image) ≡ Ok chunks)

-- a step makes the new roots, and puts what changes in the other trees behind other parts; or it has the finding
abbrev pub TellsRest : {D L : Type 0} → (disk : Ghosts D) → D → D → TreeParts → TreeParts → Compared L → List Chunk → Result (List RootAt) Halt → Type 0
TellsRest disk old new some all both chunks (Err (Found finding)) = IfSome (disk.bytes old) (λ image.
    IsCompared both image → HasNewMap both image chunks → FindsRest both image chunks finding)
TellsRest disk old new some all both chunks (Err other) = Unit {0}
TellsRest disk old new some all both chunks (Ok roots) = IfSome (disk.bytes old) (λ image.
    (is : IsCompared both image) → HasNewMap both image chunks
    → (parts : Parts) × MakesRest both image is.based.old is.based.olds chunks parts roots
    × IsAdded some all parts (disk.reads old) (disk.reads new))

-- what changes, of these parts, of the new chunks and of the new roots
pub record IsFinished (parts : TreeParts) (chunks : List Chunk) (roots : List RootAt) (change : Change) : Type 0 where
  pub old_blocks : change.old_blocks.items ≡ parts.old_blocks.items
  pub new_blocks : change.new_blocks.items ≡ parts.new_blocks.items
  pub moved : IsSortedOf is_before parts.shifted.items change.moved.items
  pub old_items : IsSortedOf item_before (map located_item parts.old_items.items) (map located_item change.old_items.items)
  pub new_items : IsSortedOf item_before (map located_item parts.new_items.items) (map located_item change.new_items.items)
  pub map_is : change.map ≡ chunks
  pub roots_are : change.roots.items ≡ roots

-- what the whole step tells: what changes, at few reads, or the first finding of what the new image holds
abbrev pub TellsChange : {D L : Type 0} → (disk : Ghosts D) → D → D → Compared L → Result Change Halt → Type 0
TellsChange disk old new both (Err (Found finding)) = IfSome (disk.bytes old) (λ image.
    IsCompared both image → contents (judged_by both image) ≡ Err finding)
TellsChange disk old new both (Err other) = Unit {0}
TellsChange disk old new both (Ok change) = IfSome (disk.bytes old) (λ image.
    IsCompared both image → IsDifference image (judged_by both image) (written_in both.cache.now) (Changed change)
    × ReadsFew (disk.reads old) (disk.reads new) (Changed change))

-- the same of an image as it was that is read so, of which what is known is for sure where the new superblock is that of the new image
abbrev pub TellsOld : {D : Type 0} → (disk : Ghosts D) → D → D → Super → List Chunk → FinMap nat_cmp ℕ → Super → List RootAt → Pairs → Result Change Halt → Type 0
TellsOld disk old new sup chunks pending fresh roots pairs (Err (Found finding)) = IfSome (disk.bytes old) (λ image.
    IsBased image sup chunks roots pairs → superblock_in (overlaid pending 0 image) ≡ Ok fresh
    → contents (overlaid pending 0 image) ≡ Err finding)
TellsOld disk old new sup chunks pending fresh roots pairs (Err other) = Unit {0}
TellsOld disk old new sup chunks pending fresh roots pairs (Ok change) = IfSome (disk.bytes old) (λ image.
    IsBased image sup chunks roots pairs → superblock_in (overlaid pending 0 image) ≡ Ok fresh
    → IsDifference image (overlaid pending 0 image) (written_in pending) (Changed change)
    × ReadsFew (disk.reads old) (disk.reads new) (Changed change))
