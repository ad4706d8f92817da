-- The live pairs that two images share, an old one and a new one, by the writes between them.
use Rattle.std.specs.Prelude.{ℕ, Bool, false, not, ◌&&◌, ◌||◌, ◌==◌, bytes_eq, List, [], ◌∷◌, length, ◌+◌}
use Rattle.std.specs.List.{list_any, filter}
use Rattle.verdict.specs.OnDisk.{key_same}
use Rattle.live_index.specs.declared.live.Live.{Live}
use Rattle.super_reader.specs.declared.Super.{Super}
use Rattle.records.specs.Seen.{Seen}
use Rattle.records.specs.Seen.Seen.{BlockSeen}
use Rattle.records.specs.declared.rec.WalkedBlock.{WalkedBlock}
use Rattle.tree_laws.specs.LivePairs.{Walked, live_in, live_of, records_in}
use Rattle.touched_blocks.specs.Touched.{Written, stays_in_place, touches_block}

-- whether two superblocks agree in what the reading of each block rests on: the id of the file system, the size of a tree block, the
-- two words of features and the id of the device; the size of a sector is 4096 bytes in all
abbrev pub are_read_alike : Super → Super → Bool
are_read_alike a b =
    bytes_eq a.fsid b.fsid && (a.nodesize == b.nodesize && (a.incompat == b.incompat && (a.compat_ro == b.compat_ro && a.devid == b.devid)))

-- whether two live pairs are of one tree and one address, and have the same level, generation and first key
abbrev pub are_alike : Live → Live → Bool
are_alike a b =
    (a.tree == b.tree && a.address == b.address) && (a.level == b.level && (a.generation == b.generation && key_same a.first b.first))

-- whether a record is that of a block whose address passes a test
abbrev pub is_block_where : (ℕ → Bool) → Seen → Bool
is_block_where test (BlockSeen block) = test block.address
is_block_where test other = false

-- whether the address of a block passes a test, or that of a block below it; the records behind the block are given
abbrev pub at_or_below : (ℕ → Bool) → WalkedBlock → List Seen → Bool
at_or_below test block behind = test block.address || list_any (is_block_where test) (records_in block behind)

-- whether a pair is alike to one of these walks, neither in which nor below which an address passes the test
unfoldable pub stands_untouched : (ℕ → Bool) → List Seen → Live → Bool
stands_untouched touched [] live = false
stands_untouched touched (BlockSeen block ∷ behind) live =
    (are_alike (live_of block behind) live && not (at_or_below touched block behind)) || stands_untouched touched behind live
stands_untouched touched (other ∷ behind) live = stands_untouched touched behind live

-- Whether a live pair is shared, by two tests of addresses: it is live in both images with the same level, generation and first key, its
-- address passes the first test, and neither it nor the address of a block that was below it passes the second. Nothing is shared where
-- blocks are not read alike in both.
unfoldable pub is_shared_by : (ℕ → Bool) → (ℕ → Bool) → Walked → Walked → Live → Bool
is_shared_by stays touched old new live =
    are_read_alike old.sup new.sup
    && (stays live.address
    && (stands_untouched touched old.seen live
    && list_any (are_alike live) (live_in new.seen)))

-- Whether a live pair is shared: its block stands at the same place under both lists of chunks, and no write touches a byte of a copy of it
-- or of a block that was below it, where the old list has them.
abbrev pub is_shared : Walked → Walked → Written → ℕ → Live → Bool
is_shared old new written end =
    is_shared_by (stays_in_place old.chunks new.chunks old.sup.nodesize end) (touches_block written old.chunks old.sup.nodesize end) old new

-- the pairs of one of the two images that are not shared
abbrev pub unshared_in : Walked → Walked → Written → ℕ → Walked → List Live
unshared_in old new written end image = filter (λ live. not (is_shared old new written end live)) (live_in image.seen)

-- how many pairs are not shared: of the old image, and of the new one
abbrev pub unshared : Walked → Walked → Written → ℕ → ℕ
unshared old new written end = length (unshared_in old new written end old) + length (unshared_in old new written end new)
