-- What an image holds: the records of its superblock, and of all blocks and items of its trees; or the first finding. The steps come
-- in the order of the check.
use Rattle.std.specs.Prelude.{ℕ, Bool, not, ◌&&◌, ◌==◌, nat_lt, List, [], ◌∷◌, ◌++◌, length, Option, Some, None, Result, Ok, Err, if◌then◌else◌}
use Rattle.std.specs.List.{list_any, filter_map}
use Rattle.verdict.specs.Image.{range}
use Rattle.verdict.specs.Rules.{TableRow, first_failing, or_found, finding_or, and_then, image_finding, no_key}
use Rattle.verdict.specs.Trees.{has_group_tree}
use Rattle.verdict.specs.declared.trees.TheConstants.{ROOT_TREE, EXTENT_TREE, CHUNK_TREE, DEV_TREE, FS_TREE, CSUM_TREE, BLOCK_GROUP_TREE}
use Rattle.verdict.specs.declared.finding.Finding.{Finding}
use Rattle.verdict.specs.declared.finding.Family.TheVariants.{S, X}
use Rattle.verdict.specs.declared.key.Key.{Key}
use Rattle.verdict.specs.declared.place.Chunk.{Chunk}
use Rattle.super_reader.specs.declared.Super.{Super}
use Rattle.super_reader.specs.Superblock.{superblock_of, array_place}
use Rattle.volume_items.specs.SystemArray.{array_chunks}
use Rattle.volume_items.specs.MapRules.{map_finding}
use Rattle.node_reader.specs.declared.expect.Expect.{Expect}
use Rattle.records.specs.Part.{Located}
use Rattle.records.specs.Part.Part.{SuperPart}
use Rattle.records.specs.Seen.{accounted}
use Rattle.records.specs.Walk.{Records, each, then_records, walk_in}
use Rattle.records.specs.Takes.{held_after, with_chunk, with_root}
use Rattle.verdict.specs.declared.kinds.TheConstants.{ROOT_ITEM}
use Rattle.volume_items.specs.declared.root_at.RootAt.{RootAt}

-- the superblock of an image, or the first finding: the image has fewer than 69,632 bytes, so that no superblock lies in it, or a
-- rule of the superblock fails
unfoldable pub superblock_in : List ℕ → Result Super Finding
superblock_in image =
    if nat_lt (length image) 69632 then Err (image_finding S 1 (length image))
    else superblock_of (range 65536 4096 image)

-- what is expected of the root block of a tree, which has no low key, no high key and no node above
abbrev pub root_expected : ℕ → ℕ → ℕ → ℕ → Expect
root_expected tree address generation level = record {
  tree = tree;
  address = address;
  generation = generation;
  level = level;
  low = None;
  high = None;
  parent = 0;
}

-- the root of the chunk tree, by the superblock
abbrev pub chunk_tree_root : Super → Expect
chunk_tree_root sup = root_expected CHUNK_TREE sup.chunk_root sup.chunk_root_generation sup.chunk_root_level

-- the root of the root tree, by the superblock
abbrev pub root_tree_root : Super → Expect
root_tree_root sup = root_expected ROOT_TREE sup.root sup.generation sup.root_level

-- the root of the tree that a root item names
abbrev pub named_root : RootAt → Expect
named_root root = root_expected root.key.objectid root.address root.generation root.level

-- a finding on the list of root items
abbrev pub roots_finding : ℕ → Key → Finding
roots_finding number key = record { rule = record { family = X; number = number }; tree = ROOT_TREE; block = 0; key = key; detail = 0 }

-- whether a root item names a tree
abbrev pub names : ℕ → RootAt → Bool
names id root = root.key.objectid == id

-- X1: a root item has the id of an earlier root item; those before are given first
unfoldable pub repeated_after : List RootAt → List RootAt → Option Finding
repeated_after before [] = None
repeated_after before (root ∷ roots) =
    if list_any (names root.key.objectid) before then Some (roots_finding 1 root.key) else repeated_after (before ++ root ∷ []) roots

-- the finding X2 names the root item that the tree with this id would have
abbrev pub missing_finding : ℕ → Finding
missing_finding id = roots_finding 2 (record { objectid = id; kind = ROOT_ITEM; offset = 0 })

-- X2: no root item names a tree that each image has
abbrev pub missing_row : List RootAt → ℕ → TableRow
missing_row roots id = record { fails = not (list_any (names id) roots); finding = missing_finding id }

-- X2 of the extent tree, the device tree, the first file tree and the tree of checksums, and of the tree of block groups where these
-- have one of their own
abbrev pub missing_rows : ℕ → List RootAt → List TableRow
missing_rows compat_ro roots =
    missing_row roots EXTENT_TREE ∷ missing_row roots DEV_TREE ∷ missing_row roots FS_TREE ∷ missing_row roots CSUM_TREE
    ∷ record { fails = has_group_tree compat_ro && not (list_any (names BLOCK_GROUP_TREE) roots); finding = missing_finding BLOCK_GROUP_TREE } ∷ []

-- the first finding on the list of root items
unfoldable pub roots_fault : ℕ → List RootAt → Option Finding
roots_fault compat_ro roots = or_found (repeated_after [] roots) (first_failing (missing_rows compat_ro roots))

-- the chunk tree's records, read through the chunks of the system array
abbrev pub chunk_records : Super → List Chunk → List ℕ → Records
chunk_records sup array image = walk_in sup array (chunk_tree_root sup) image

-- the chunks of the chunk tree, where the rules on the chunk map keep
unfoldable pub chunk_map_in : Super → List Chunk → List ℕ → Result (List Chunk) Finding
chunk_map_in sup array image =
    and_then (held_after with_chunk [] (chunk_records sup array image)) (λ chunks.
    and_then (finding_or (map_finding chunks array (length image)) (tt {0})) (λ _.
    Ok chunks))

-- the root tree's records
abbrev pub root_records : Super → List Chunk → List ℕ → Records
root_records sup chunks image = walk_in sup chunks (root_tree_root sup) image

-- where the trees begin by the root items of the root tree, where the rules on their list keep
unfoldable pub root_items_in : Super → List Chunk → List ℕ → Result (List RootAt) Finding
root_items_in sup chunks image =
    and_then (held_after with_root [] (root_records sup chunks image)) (λ roots.
    and_then (finding_or (roots_fault sup.compat_ro roots) (tt {0})) (λ _.
    Ok roots))

-- the records of the trees that root items name, in the order of the items, which is that of the ids as unsigned numbers
abbrev pub tree_records : Super → List Chunk → List RootAt → List ℕ → Records
tree_records sup chunks roots image = each (λ root. walk_in sup chunks (named_root root) image) roots

-- the records of all trees
unfoldable pub all_records : Super → List Chunk → List Chunk → List RootAt → List ℕ → Records
all_records sup array chunks roots image =
    then_records (chunk_records sup array image) (then_records (root_records sup chunks image) (tree_records sup chunks roots image))

-- the record of the superblock
abbrev pub super_record : Super → Located
super_record sup = record { tree = 0; block = 0; key = no_key; part = SuperPart sup.bytes_used }

-- what an image holds: its superblock, its chunks, its root items and all records that accounts see, of the superblock, of blocks and of items
pub record Contents : Type 0 where
  pub sup : Super
  pub chunks : List Chunk
  pub roots : List RootAt
  pub records : List Located

-- what an image holds, or the first finding: of the superblock, of the system array, of the chunk tree and the rules on the chunk map,
-- of the root tree and the rules on its items, and of the trees that these name
unfoldable pub contents : List ℕ → Result Contents Finding
contents image =
    and_then (superblock_in image) (λ sup.
    and_then (array_chunks (array_place sup) sup.array sup.array_size) (λ array.
    and_then (chunk_map_in sup array image) (λ chunks.
    and_then (root_items_in sup chunks image) (λ roots.
    and_then (all_records sup array chunks roots image) (λ records.
    Ok (record { sup = sup; chunks = chunks; roots = roots; records = super_record sup ∷ filter_map accounted records }))))))
