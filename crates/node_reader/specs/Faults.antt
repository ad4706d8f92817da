-- The rules of a tree block in their order, for a block that is expected somewhere in the walk of a tree.
use Rattle.std.specs.Prelude.{ℕ, ◌+◌, ◌-◌, ◌*◌, ◌/◌, zero, suc, Bool, not, ◌&&◌, ◌||◌, ◌==◌, nat_lt, false, if◌then◌else◌, List, [], ◌∷◌, ◌++◌, length, drop, slice_index, bit_and, bytes_eq, Option, Some, None, is_some, Result}
use Rattle.recon_bytes.specs.Field.{field}
use Rattle.recon_crc.specs.Checksum.{crc32c_of}
use Rattle.verdict.specs.Image.{range}
use Rattle.verdict.specs.Rules.{TableRow, first_failing, finding_or, no_key}
use Rattle.verdict.specs.OnDisk.{key_below, key_same}
use Rattle.verdict.specs.declared.key.Key.{Key}
use Rattle.verdict.specs.declared.finding.Finding.{Finding}
use Rattle.verdict.specs.declared.finding.Family.{Family}
use Rattle.verdict.specs.declared.finding.Family.TheVariants.{N, U}
use Rattle.node_reader.specs.Places.{least_from, place_or_zero}
use Rattle.node_reader.specs.Layout.{generation_of, count_of, level_of, entry_size, entry_start, entry_key, item_offset, item_size}
use Rattle.node_reader.specs.declared.expect.Expect.{Expect}

-- the low key, or (0, 0, 0) where there is none
abbrev pub key_or_zero : Option Key → Key
key_or_zero (Some key) = key
key_or_zero None = no_key

-- a finding of the block that is expected: its tree, its address and its low key
abbrev pub block_finding : Expect → Family → ℕ → ℕ → Finding
block_finding e family number detail = record {
  rule = record { family = family; number = number };
  tree = e.tree;
  block = e.address;
  key = key_or_zero e.low;
  detail = detail;
}

-- the row of a rule on a block
abbrev pub block_rule : Expect → Bool → Family → ℕ → ℕ → TableRow
block_rule e fails family number detail = record { fails = fails; finding = block_finding e family number detail }

-- the row of a rule on a block's entries, which fails where a place is found that breaks it
abbrev pub place_rule : Expect → Option ℕ → ℕ → TableRow
place_rule e found number = block_rule e (is_some found) N number (place_or_zero found)

-- how many entries fit into a block of a level
abbrev pub room_of : List ℕ → ℕ → ℕ
room_of bytes level = (length bytes - 101) / entry_size level

-- whether a block of a level may not be empty: it is a node, or a leaf with a low key
abbrev pub needs_entry : Expect → Bool
needs_entry e = not (e.level == 0) || is_some e.low

-- whether there is a low key and another key differs from it
abbrev pub differs_from : Option Key → Key → Bool
differs_from None key = false
differs_from (Some low) key = not (key_same low key)

-- whether there is a high key and another key is not below it
abbrev pub reaches : Option Key → Key → Bool
reaches None key = false
reaches (Some high) key = not (key_below key high)

-- whether the key at a place is not above the one before
unfoldable pub disordered_at : List ℕ → ℕ → ℕ → Bool
disordered_at bytes size place = not (key_below (entry_key bytes size (place - 1)) (entry_key bytes size place))

-- whether the generation of the pointer at a place exceeds the header's
unfoldable pub newer_at : List ℕ → ℕ → Bool
newer_at bytes place = nat_lt (generation_of bytes) (field 8 bytes (entry_start 33 place + 25))

-- where the item at a place must end: the first at the end of the leaf, each other where the one before begins
abbrev pub end_before : List ℕ → ℕ → ℕ
end_before bytes zero = length bytes - 101
end_before bytes (suc place) = item_offset bytes place

-- whether the item at a place does not end where it must, or begins before the end of the entries
unfoldable pub misplaced_at : List ℕ → ℕ → ℕ → Bool
misplaced_at bytes count place =
    not (item_offset bytes place + item_size bytes place == end_before bytes place) || nat_lt (item_offset bytes place) (25 * count)

-- the rules of a block in their order. First what the header says: checksum, file system, address,
-- relocation, owner, generation and level
unfoldable pub header_rules : List ℕ → List ℕ → Expect → List TableRow
header_rules bytes fsid e =
    block_rule e (not (crc32c_of (drop 0x20 bytes) == field 4 bytes 0)) N 3 (crc32c_of (drop 0x20 bytes))
    ∷ block_rule e (not (bytes_eq (range 0x20 16 bytes) fsid)) N 4 0
    ∷ block_rule e (not (field 8 bytes 0x30 == e.address)) N 5 (field 8 bytes 0x30)
    ∷ block_rule e (bit_and (slice_index bytes 0x38) 2 == 2) U 12 0
    ∷ block_rule e (not (field 8 bytes 0x58 == e.tree)) N 6 (field 8 bytes 0x58)
    ∷ block_rule e (not (generation_of bytes == e.generation)) N 7 (generation_of bytes)
    ∷ block_rule e (not (level_of bytes == e.level)) N 8 (level_of bytes)
    ∷ []

-- then how many entries there are: no more than fit, and some where there must be
unfoldable pub count_rules : List ℕ → Expect → List TableRow
count_rules bytes e =
    block_rule e (nat_lt (room_of bytes e.level) (count_of bytes) || (count_of bytes == 0 && needs_entry e)) N 9 (count_of bytes)
    ∷ []

-- then the keys: the first is the low key, they ascend,
abbrev pub order_rules : List ℕ → Expect → List TableRow
order_rules bytes e =
    block_rule e (differs_from e.low (entry_key bytes (entry_size e.level) 0)) N 10 0
    ∷ place_rule e (least_from (disordered_at bytes (entry_size e.level)) 1 (count_of bytes - 1)) 11
    ∷ []

-- and the last is below the high key
abbrev pub high_rule : List ℕ → Expect → TableRow
high_rule bytes e =
    block_rule e (not (count_of bytes == 0) && reaches e.high (entry_key bytes (entry_size e.level) (count_of bytes - 1))) N 12 (count_of bytes - 1)

unfoldable pub key_rules : List ℕ → Expect → List TableRow
key_rules bytes e = order_rules bytes e ++ high_rule bytes e ∷ []

-- then a node's pointers, which are no newer than the node, and a leaf's items, which fill it from its end
unfoldable pub body_rules : List ℕ → Expect → List TableRow
body_rules bytes e =
    place_rule e (if e.level == 0 then None else least_from (newer_at bytes) 0 (count_of bytes)) 13
    ∷ place_rule e (if e.level == 0 then least_from (misplaced_at bytes (count_of bytes)) 0 (count_of bytes) else None) 14
    ∷ []

-- the rules of a block in their order, where it is expected in a file system with an id
abbrev pub block_rules : List ℕ → List ℕ → Expect → List TableRow
block_rules bytes fsid e = header_rules bytes fsid e ++ (count_rules bytes e ++ (key_rules bytes e ++ body_rules bytes e))

-- the finding of the first rule that a block breaks
unfoldable pub block_fault : List ℕ → List ℕ → Expect → Option Finding
block_fault bytes fsid e = first_failing (block_rules bytes fsid e)

-- what the reader makes of a block's bytes: the finding of the first rule that they break, else the block
abbrev pub block_of : List ℕ → List ℕ → Expect → Result (List ℕ) Finding
block_of bytes fsid e = finding_or (block_fault bytes fsid e) bytes
