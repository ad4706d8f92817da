-- What a record says of the space of the volume and of the device: the accounts A5 to A8, A15, A16 and A18.
use Rattle.std.specs.Prelude.{ℕ, zero, suc, ◌+◌, ◌/◌, Bool, not, ◌&&◌, ◌==◌, bit_and, List, [], ◌∷◌, ◌++◌, length, map, flat_map, Option, Some, None, if◌then◌else◌}
use Rattle.std.specs.List.{filter}
use Rattle.volume_items.specs.ChunkRow.{ChunkFields}
use Rattle.volume_items.specs.declared.dev_extent.DevExtent.{DevExtent}
use Rattle.extent_items.specs.ExtentRow.{ExtentFields}
use Rattle.extent_items.specs.declared.group.GroupItem.{GroupItem}
use Rattle.fs_items.specs.declared.file_extent.FileExtent.{FileExtent}
use Rattle.fs_items.specs.SumsRow.{SumFields}
use Rattle.accounts.specs.declared.postings.Posting.{Posting}
use Rattle.accounts.specs.declared.context.Home.{Home}
use Rattle.accounts.specs.Context.{Context, home_of}
use Rattle.accounts.specs.Sums.{total_of}
use Rattle.accounts.specs.Kinds.{sector, group, group_of, group_class, outside, stripe, bytes_used, device}
use Rattle.accounts.specs.declared.kinds.TheConstants.{SECTOR_EXTENTS, SECTOR_DATA, SECTOR_SUMS, SECTOR_SHOWN, GROUP_ITEMS, GROUP_CHUNKS, GROUP_USED, GROUP_TAKEN, OTHER_CLASS, OUTSIDE_CHUNKS, CHUNK_STRIPES, DEVICE_RANGES, BYTES_SAID, BYTES_IN_GROUPS, DEVICE_SAID, DEVICE_TAKEN, SECTOR}
use Rattle.records.specs.Part.{Part}
use Rattle.records.specs.Part.Part.{SuperPart, ChunkPart, DevicePart, DevExtentPart, GroupPart, ExtentPart, FileExtentPart, SumsPart}
use Rattle.verdict.specs.declared.kinds.TheConstants.{EXTENT_ITEM}
use Rattle.accounts.specs.Lent.{to}

-- the size of a sector in bytes
abbrev pub sector_size : ℕ
sector_size = 4096

-- n sectors from an address on, in rising order
unfoldable pub sectors_from : ℕ → ℕ → List ℕ
sectors_from address zero = []
sectors_from address (suc n) = address ∷ sectors_from (address + sector_size) n

-- the sectors of a range of so many bytes
abbrev pub sectors_of : ℕ → ℕ → List ℕ
sectors_of address bytes = sectors_from address (bytes / sector_size)

-- a chunk: its group, and each of its stripes
abbrev pub chunk_postings : ChunkFields → List Posting
chunk_postings item =
    to (group item.key.offset item.length item.class) GROUP_CHUNKS 1
    ∷ map (λ one. to (stripe item.key.offset one.devid one.physical item.length) CHUNK_STRIPES 1) item.stripes

-- a range of the device
abbrev pub dev_extent_postings : DevExtent → List Posting
dev_extent_postings item =
    to (stripe item.chunk_offset item.key.objectid item.key.offset item.length) DEVICE_RANGES 1
    ∷ to (device item.key.objectid) DEVICE_TAKEN item.length
    ∷ []

-- a block group
abbrev pub group_postings : GroupItem → List Posting
group_postings item =
    to (group item.key.objectid item.key.offset item.flags) GROUP_ITEMS 1
    ∷ to (group item.key.objectid item.key.offset item.flags) GROUP_USED item.used
    ∷ to bytes_used BYTES_IN_GROUPS item.used
    ∷ []

-- whether an extent is of file data, and else a tree block
abbrev pub is_data : ExtentFields → Bool
is_data item = item.key.kind == EXTENT_ITEM

-- the bytes of an extent: those that its key says, or a tree block
abbrev pub extent_length : Context → ExtentFields → ℕ
extent_length context item = if is_data item then item.key.offset else context.nodesize

-- a sector of an extent
abbrev pub owned_postings : Bool → ℕ → List Posting
owned_postings of_data address =
    to (sector address) SECTOR_EXTENTS 1 ∷ (if of_data then to (sector address) SECTOR_DATA 1 ∷ [] else [])

-- whether a class of chunks does not take an extent: bit 1 is data, bits 2 and 4 take tree blocks
abbrev pub is_other_class : Bool → ℕ → Bool
is_other_class of_data class =
    if of_data then not (bit_and class 1 == 1) else (not (bit_and class 2 == 2) && not (bit_and class 4 == 4))

-- the place of an extent: what it takes of its group, its sectors, and whether the group is of another class; or that no chunk has it
abbrev pub place_postings : Bool → ℕ → ℕ → Option Home → List Posting
place_postings of_data address len (Some home) =
    to (group_of home) GROUP_TAKEN len
    ∷ flat_map (owned_postings of_data) (sectors_of address len)
    ++ (if is_other_class of_data home.class then to (group_class address) OTHER_CLASS 1 ∷ [] else [])
place_postings of_data address len None = to (outside address) OUTSIDE_CHUNKS 1 ∷ []

-- an extent
abbrev pub extent_place_postings : Context → ExtentFields → List Posting
extent_place_postings context item =
    place_postings (is_data item) item.key.objectid (extent_length context item)
    (home_of context item.key.objectid (extent_length context item))

-- whether a range of a file shows sectors that have sums: it is written, no hole, and its inode's data has sums
abbrev pub shows_sums : Context → ℕ → FileExtent → Bool
shows_sums context tree range =
    range.sort == 1 && (not (range.extent == 0) && not (context.sum_free tree range.key.objectid))

-- the sectors that a range of a file shows of its extent, where that has a home
abbrev pub shown_postings : FileExtent → Option Home → List Posting
shown_postings range (Some home) =
    map (λ address. to (sector address) SECTOR_SHOWN 1) (sectors_of (range.extent + range.offset) range.length)
shown_postings range None = []

-- a range of a file
abbrev pub range_sector_postings : Context → ℕ → FileExtent → List Posting
range_sector_postings context tree range =
    if shows_sums context tree range then shown_postings range (home_of context range.extent range.extent_length) else []

-- checksums, four bytes a sector
abbrev pub sum_postings : SumFields → List Posting
sum_postings item = map (λ address. to (sector address) SECTOR_SUMS 1) (sectors_from item.key.offset (length item.sums / 4))

-- what a record of a tree posts to A5, A6, A7, A8, A15, A16 and A18
unfoldable pub space_postings : Context → ℕ → Part → List Posting
space_postings context tree (SuperPart used) = to bytes_used BYTES_SAID used ∷ []
space_postings context tree (ChunkPart item) = chunk_postings item
space_postings context tree (DevicePart item) = to (device item.devid) DEVICE_SAID item.bytes_used ∷ []
space_postings context tree (DevExtentPart item) = dev_extent_postings item
space_postings context tree (GroupPart item) = group_postings item
space_postings context tree (ExtentPart item) = extent_place_postings context item
space_postings context tree (FileExtentPart range) = range_sector_postings context tree range
space_postings context tree (SumsPart item) = sum_postings item
space_postings context tree other = []

-- whether a posting is to a sector, A5
abbrev pub is_to_sector : Posting → Bool
is_to_sector posting = posting.account.kind == SECTOR

-- what a record posts to A6, A7, A8, A15, A16 and A18 alone
abbrev pub rest_postings : Context → ℕ → Part → List Posting
rest_postings context tree part = filter (λ posting. not (is_to_sector posting)) (space_postings context tree part)

-- what a record posts to the sums of a sector
abbrev pub sector_sum : Context → ℕ → Part → ℕ → ℕ → ℕ
sector_sum context tree part address field = total_of (space_postings context tree part) (sector address) field
