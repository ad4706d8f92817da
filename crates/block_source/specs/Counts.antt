-- How often a step reads a disk.
use Rattle.std.specs.Prelude.{ℕ, zero, suc, ◌+◌, ◌≡◌, Bool, true, ◌&&◌, is_some, List, IfSome, Result, if◌then◌else◌}
use Rattle.std.specs.Ordering.{nat_cmp}
use Rattle.std.specs.FinMap.{FinMap, get}
use Rattle.verdict.specs.Chunks.{place}
use Rattle.verdict.specs.declared.finding.Finding.{Finding}
use Rattle.verdict.specs.declared.place.Place.{Place}
use Rattle.verdict.specs.declared.place.Place.TheVariants.{Nowhere, One, Two}
use Rattle.recon_disk.specs.Outside.{counted}
use Rattle.recon_disk.specs.declared.disk.Disk.{Ghosts}
use Rattle.write_cache.specs.Cache.{overlaid}
use Rattle.records.specs.Seen.{Seen}
use Rattle.records.specs.Seen.Seen.{BlockSeen, PointerSeen, ItemSeen}
use Rattle.records.specs.Walk.{Records}
use Rattle.records.specs.Takes.{held_after}
use Rattle.block_source.specs.declared.halt.Halt.{Halt}
use Rattle.block_source.specs.declared.read.BlockSource.{BlockSource}
use Rattle.block_source.specs.Gives.{Gives}
use Rattle.block_source.specs.Takes.{leaving, unless_found}

-- where the copies of the block at an address stand
abbrev pub copies_of : BlockSource → ℕ → Place
copies_of source address = place source.map.now address source.sup.now.nodesize source.end

-- whether pending writes cover n bytes from an offset on
unfoldable pub cover : FinMap nat_cmp ℕ → ℕ → ℕ → Bool
cover waiting at zero = true
cover waiting at (suc n) = is_some (get waiting at) && cover waiting (at + 1) n

-- a counter of reads after a copy of n bytes is read: one more, but none where pending writes cover the copy
abbrev pub after_copy : FinMap nat_cmp ℕ → ℕ → ℕ → ℕ → ℕ
after_copy waiting n at reads = if cover waiting at n then reads else counted reads

-- the same of the copies at a place
abbrev pub after_copies : FinMap nat_cmp ℕ → ℕ → Place → ℕ → ℕ
after_copies waiting n Nowhere reads = reads
after_copies waiting n (One first) reads = after_copy waiting n first reads
after_copies waiting n (Two first second) reads = after_copy waiting n second (after_copy waiting n first reads)

-- the same of the block at an address
abbrev pub after_block : BlockSource → ℕ → ℕ → ℕ
after_block source address reads = after_copies source.cache.now source.sup.now.nodesize (copies_of source address) reads

-- a counter of reads, with a record more: each copy of a block is read that no pending writes cover
abbrev pub with_read : BlockSource → ℕ → Seen → ℕ
with_read source reads (BlockSeen block) = after_block source block.address reads
with_read source reads (PointerSeen pointer) = reads
with_read source reads (ItemSeen one) = reads

-- a step reads each such copy of the blocks among these records of an image, or has their finding
abbrev pub ReadsCopies : {D A : Type 0} → (disk : Ghosts D) → BlockSource → D → D → Result A Halt → (List ℕ → Records) → Type 0
ReadsCopies disk source before new result records =
    Gives disk before source.cache.now (leaving result (disk.reads new)) (λ image. held_after (with_read source) (disk.reads before) (records image))

-- the same, as a step says it to others
abbrev pub ReadsCopiesAsTold : {D A : Type 0} → (disk : Ghosts D) → BlockSource → D → D → Result A Finding → (List ℕ → Records) → Type 0
ReadsCopiesAsTold disk source before new answer records =
    IfSome (disk.bytes before) (λ image. held_after (with_read source) (disk.reads before) (records (overlaid source.cache.now 0 image)) ≡ unless_found answer (disk.reads new))
