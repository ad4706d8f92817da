-- The live pairs of an image: of each block that a walk of a tree visits, what the table of live pairs keeps. They are made of the
-- records of the walks, in whose order they stand.
use Rattle.std.specs.Prelude.{ℕ, Bool, false, not, ◌||◌, ◌==◌, nat_le, List, [], ◌∷◌, Option, Some, None, Result, Ok, if◌then◌else◌}
use Rattle.verdict.specs.OnDisk.{key_below}
use Rattle.verdict.specs.Rules.{and_then, no_key}
use Rattle.verdict.specs.declared.finding.Finding.{Finding}
use Rattle.verdict.specs.declared.key.Key.{Key}
use Rattle.live_index.specs.Pairs.{Pairs, no_pairs, with_pair}
use Rattle.live_index.specs.declared.live.Live.{Live}
use Rattle.verdict.specs.declared.place.Chunk.{Chunk}
use Rattle.super_reader.specs.declared.Super.{Super}
use Rattle.super_reader.specs.Superblock.{array_place}
use Rattle.volume_items.specs.SystemArray.{array_chunks}
use Rattle.records.specs.Contents.{superblock_in, chunk_map_in, root_items_in, all_records}
use Rattle.records.specs.Seen.{Seen}
use Rattle.records.specs.Seen.Seen.{BlockSeen, ItemSeen}
use Rattle.records.specs.declared.rec.WalkedBlock.{WalkedBlock}

-- the greatest key, which an empty leaf has as its first
abbrev pub greatest_key : Key
greatest_key = record { objectid = 18446744073709551615; kind = 255; offset = 18446744073709551615 }

-- the first key of a block, or the greatest key where it has none
abbrev pub first_or_greatest : Option Key → Key
first_or_greatest None = greatest_key
first_or_greatest (Some key) = key

-- Whether a record is that of a block which is not below another. A walk gives a block before all that is below it, so that the
-- first block behind it that is of its level or above, or of another tree, is not below it, and nothing behind that block is.
abbrev pub is_beside : WalkedBlock → Seen → Bool
is_beside block (BlockSeen one) = not (one.tree == block.tree) || nat_le block.level one.level
is_beside block other = false

-- of the records behind that of a block, those of what it has and of what is below it
unfoldable pub records_in : WalkedBlock → List Seen → List Seen
records_in block [] = []
records_in block (one ∷ more) = if is_beside block one then [] else one ∷ records_in block more

-- the greater of two keys
abbrev pub greater_key : Key → Key → Key
greater_key a b = if key_below a b then b else a

-- the greatest key of the items among records, (0, 0, 0) where there is none
unfoldable pub last_key : List Seen → Key
last_key [] = no_key
last_key (ItemSeen item ∷ more) = greater_key item.key (last_key more)
last_key (other ∷ more) = last_key more

-- the live pair of a block, by the records behind it
abbrev pub live_of : WalkedBlock → List Seen → Live
live_of block behind = record {
  tree = block.tree;
  address = block.address;
  level = block.level;
  generation = block.generation;
  first = first_or_greatest block.first;
  last = last_key (records_in block behind);
  parent = block.parent;
  owner = block.owner;
}

-- the live pairs of the blocks among records, in their order
unfoldable pub live_in : List Seen → List Live
live_in [] = []
live_in (BlockSeen block ∷ more) = live_of block more ∷ live_in more
live_in (other ∷ more) = live_in more

-- the table of these pairs; no accepted image has two of one tree and address
abbrev pub table_of : List Live → Pairs
table_of [] = no_pairs
table_of (live ∷ lives) = with_pair (table_of lives) live

-- what the walks of an image come to: its superblock, its chunks, and the records of the chunk tree's walk, the root tree's and those of
-- the trees that root items name, in this order
pub record Walked : Type 0 where
  pub sup : Super
  pub chunks : List Chunk
  pub seen : List Seen

-- the same, or the first finding of what the image holds: the steps are those of its contents, and no account decides
unfoldable pub walked : List ℕ → Result Walked Finding
walked image =
    and_then (superblock_in image) (λ sup.
    and_then (array_chunks (array_place sup) sup.array sup.array_size) (λ array.
    and_then (chunk_map_in sup array image) (λ chunks.
    and_then (root_items_in sup chunks image) (λ roots.
    and_then (all_records sup array chunks roots image) (λ seen.
    Ok (record { sup = sup; chunks = chunks; seen = seen }))))))
