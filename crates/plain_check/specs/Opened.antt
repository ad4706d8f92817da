-- What is known of an image once its chunk tree and its root tree were walked.
use Rattle.std.specs.Prelude.{ℕ, ◌+◌, ◌*◌, ◌≤◌, Bool, true, false, List, ◌∷◌, Result, Ok, IfOk, IfSome, OnOk, count_by}
use Rattle.std.specs.Ordering.{nat_cmp}
use Rattle.std.specs.FinMap.{FinMap}
use Rattle.verdict.specs.Image.{range}
use Rattle.verdict.specs.Rules.{and_then}
use Rattle.verdict.specs.declared.finding.Finding.{Finding}
use Rattle.verdict.specs.declared.place.Chunk.{Chunk}
use Rattle.recon_disk.specs.declared.disk.Disk.{Ghosts}
use Rattle.write_cache.specs.Cache.{overlaid}
use Rattle.super_reader.specs.declared.Super.{Super}
use Rattle.super_reader.specs.Superblock.{array_place}
use Rattle.volume_items.specs.SystemArray.{array_chunks}
use Rattle.records.specs.Seen.{Seen}
use Rattle.records.specs.Seen.Seen.{BlockSeen, PointerSeen, ItemSeen}
use Rattle.records.specs.Walk.{Records, behind, then_records}
use Rattle.records.specs.Contents.{superblock_in, chunk_map_in, root_items_in, chunk_records, root_records, tree_records, super_record}
use Rattle.block_source.specs.declared.halt.Halt.{Halt}
use Rattle.plain_check.specs.declared.volume.Volume.{Volume}
use Rattle.volume_items.specs.declared.root_at.RootAt.{RootAt}

-- what is known: the bytes of the superblock place, what they say, all chunks, the root items, and the records of the chunk tree and,
-- behind them, of the root tree
pub record Opened : Type 0 where
  pub raw : List ℕ
  pub sup : Super
  pub chunks : List Chunk
  pub roots : List RootAt
  pub seen : List Seen

-- the records of the chunk tree, read through the chunks of the system array, and of the root tree, read through all chunks
abbrev pub top_records : Super → List Chunk → List Chunk → List ℕ → Records
top_records sup array chunks image = then_records (chunk_records sup array image) (root_records sup chunks image)

-- what is known of an image, or the first finding: of the superblock, of the system array, of the chunk tree and the rules on the chunk
-- map, of the root tree and the rules on its items
unfoldable pub opened : List ℕ → Result Opened Finding
opened image =
    and_then (superblock_in image) (λ sup.
    and_then (array_chunks (array_place sup) sup.array sup.array_size) (λ array.
    and_then (chunk_map_in sup array image) (λ chunks.
    and_then (root_items_in sup chunks image) (λ roots.
    and_then (top_records sup array chunks image) (λ seen.
    Ok (record { raw = range 65536 4096 image; sup = sup; chunks = chunks; roots = roots; seen = seen }))))))

-- what a volume says that is known of its image
abbrev pub known : Volume → Opened
known volume = record { raw = volume.raw; sup = volume.sup; chunks = volume.map; roots = volume.roots.items; seen = volume.kept }

-- the records of the trees that root items name
abbrev pub named_records : Opened → List ℕ → Records
named_records o image = tree_records o.sup o.chunks o.roots image

-- all records of an image of which this is known: that of the superblock, those of the chunk tree and of the root tree, and those of the
-- trees that root items name
abbrev pub volume_records : Opened → List ℕ → Records
volume_records o image = behind (ItemSeen (super_record o.sup) ∷ o.seen) (named_records o image)

-- whether a record is a block
abbrev pub is_block : Seen → Bool
is_block (BlockSeen block) = true
is_block (PointerSeen pointer) = false
is_block (ItemSeen one) = false

-- how many blocks are among records
abbrev pub block_count : List Seen → ℕ
block_count records = count_by is_block records

-- Where the disk tells its bytes, a step that is done read each block among these records once: at most twice the disk for each, once for
-- each of its copies.
abbrev pub ReadsOnce : {D A : Type 0} → (disk : Ghosts D) → D → D → FinMap nat_cmp ℕ → Result A Halt → (List ℕ → Records) → Type 0
ReadsOnce disk before after waiting result records =
    OnOk result (IfSome (disk.bytes before) (λ image.
    IfOk (records (overlaid waiting 0 image)) (λ found. disk.reads after ≤ disk.reads before + 2 * block_count found)))
