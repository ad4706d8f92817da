-- The superblock: its fields, and the rules that it is judged by, in their order. Offsets are in bytes
-- from the superblock's first byte.
use Rattle.std.specs.Prelude.{ℕ, ◌≡◌, ◌≤◌, ◌+◌, ◌^◌, Bool, not, true, ◌&&◌, ◌==◌, nat_lt, List, [], ◌∷◌, ◌++◌, drop, slice_index, bit_and, Result}
use Rattle.recon_bytes.specs.Field.{field}
use Rattle.recon_crc.specs.Checksum.{crc32c_of}
use Rattle.verdict.specs.Image.{range}
use Rattle.verdict.specs.Rules.{TableRow, first_failing, finding_or, image_rule}
use Rattle.verdict.specs.Trees.{is_node_size, sort_of}
use Rattle.verdict.specs.declared.place.At.{At}
use Rattle.verdict.specs.declared.finding.Finding.{Finding}
use Rattle.verdict.specs.declared.finding.Family.TheVariants.{S, U}
use Rattle.super_reader.specs.declared.Super.{Super}

-- the eight bytes `_BHRfS_M`, as a number whose lowest byte is the first
abbrev pub magic_number : ℕ
magic_number = 0x4D5F53665248425F

-- the incompat bits that must be set: 0 mixed backref and 8 skinny metadata
abbrev pub needed_incompat : ℕ
needed_incompat = 2 ^ 0 + 2 ^ 8

-- the incompat bits that may be set: those two, 1 default subvolume, 2 mixed groups, 5 big metadata,
-- 6 extended iref and 9 no holes
abbrev pub allowed_incompat : ℕ
allowed_incompat = 2 ^ 0 + 2 ^ 1 + 2 ^ 2 + 2 ^ 5 + 2 ^ 6 + 2 ^ 8 + 2 ^ 9

-- the compat_ro bits that may be set: 0 free space tree, 1 free space tree valid and 3 block group tree
abbrev pub allowed_compat_ro : ℕ
allowed_compat_ro = 2 ^ 0 + 2 ^ 1 + 2 ^ 3

-- whether a word has every bit of a set
abbrev pub has_all : ℕ → ℕ → Bool
has_all word bits = bit_and word bits == bits

-- whether a word has no bit outside a set
abbrev pub has_only : ℕ → ℕ → Bool
has_only word bits = bit_and word bits == word

-- the rules of the superblock in their order: where each fails, its name and its detail. First what
-- tells that it is one: magic, checksum kind, checksum and own place
unfoldable pub identity_rules : List ℕ → List TableRow
identity_rules bytes =
    image_rule (not (field 8 bytes 0x40 == magic_number)) S 2 0
    ∷ image_rule (not (field 2 bytes 0xc4 == 0)) U 1 (field 2 bytes 0xc4)
    ∷ image_rule (not (crc32c_of (drop 0x20 bytes) == field 4 bytes 0)) S 3 (crc32c_of (drop 0x20 bytes))
    ∷ image_rule (not (field 8 bytes 0x30 == 65536)) S 4 (field 8 bytes 0x30)
    ∷ []

-- then the features: incompat bits, compat_ro bits, sector size, node size and number of devices
unfoldable pub feature_rules : List ℕ → List TableRow
feature_rules bytes =
    image_rule (not (has_all (field 8 bytes 0xbc) needed_incompat && has_only (field 8 bytes 0xbc) allowed_incompat)) U 2 (field 8 bytes 0xbc)
    ∷ image_rule (not (has_only (field 8 bytes 0xb4) allowed_compat_ro)) U 3 (field 8 bytes 0xb4)
    ∷ image_rule (not (field 4 bytes 0x90 == 4096)) U 4 (field 4 bytes 0x90)
    ∷ image_rule (not (is_node_size (field 4 bytes 0x94))) S 5 (field 4 bytes 0x94)
    ∷ image_rule (not (field 8 bytes 0x88 == 1)) U 5 (field 8 bytes 0x88)
    ∷ []

-- then the greatest values: root_level, chunk_root_level and sys_chunk_array_size
unfoldable pub limit_rules : List ℕ → List TableRow
limit_rules bytes =
    image_rule (nat_lt 7 (slice_index bytes 0xc6)) S 6 (slice_index bytes 0xc6)
    ∷ image_rule (nat_lt 7 (slice_index bytes 0xc7)) S 6 (slice_index bytes 0xc7)
    ∷ image_rule (nat_lt 2048 (field 4 bytes 0xa0)) S 8 (field 4 bytes 0xa0)
    ∷ []

-- the rules of the superblock in their order
abbrev pub superblock_rules : List ℕ → List TableRow
superblock_rules bytes = identity_rules bytes ++ (feature_rules bytes ++ limit_rules bytes)

-- the fields of a superblock that the check reads, the devid as the first of its dev_item
abbrev pub superblock_fields : List ℕ → Super
superblock_fields bytes = record {
  fsid = range 0x20 16 bytes;
  generation = field 8 bytes 0x48;
  root = field 8 bytes 0x50;
  chunk_root = field 8 bytes 0x58;
  log_root = field 8 bytes 0x60;
  bytes_used = field 8 bytes 0x78;
  nodesize = field 4 bytes 0x94;
  incompat = field 8 bytes 0xbc;
  compat_ro = field 8 bytes 0xb4;
  chunk_root_generation = field 8 bytes 0xa4;
  root_level = slice_index bytes 0xc6;
  chunk_root_level = slice_index bytes 0xc7;
  log_root_level = slice_index bytes 0xc8;
  devid = field 8 bytes 0xc9;
  array_size = field 4 bytes 0xa0;
  array = range 0x32b 2048 bytes;
}

-- what a superblock's 4096 bytes say: the finding of the first rule that fails, else the fields
unfoldable pub superblock_of : List ℕ → Result Super Finding
superblock_of bytes = finding_or (first_failing (superblock_rules bytes)) (superblock_fields bytes)

-- what an accepted superblock keeps: a node size of the five, and an array that lies inside its 2048 bytes
pub record IsReadable (sup : Super) : Type 0 where
  pub nodesize : is_node_size sup.nodesize ≡ true
  pub array : sup.array_size ≤ 2048

-- the place of an item of a tree, in the leaf at an address whose header has a generation
abbrev pub item_place : Super → ℕ → ℕ → ℕ → At
item_place sup tree block generation = record {
  tree = tree;
  sort = sort_of tree;
  block = block;
  generation = generation;
  nodesize = sup.nodesize;
  devid = sup.devid;
  incompat = sup.incompat;
  compat_ro = sup.compat_ro;
}

-- the place of the items of the system chunk array: the chunk tree, and no leaf of it
abbrev pub array_place : Super → At
array_place sup = item_place sup 3 0 sup.chunk_root_generation
