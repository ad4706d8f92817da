-- The context of an image: what the records of one item are read by beside the item itself.
use Rattle.std.specs.Prelude.{ℕ, Bool, ◌&&◌, ◌==◌, bit_and, List, Option, Some, None, if◌then◌else◌}
use Rattle.std.specs.List.{filter_map, list_any}
use Rattle.accounts.specs.Context.{Context, no_full}
use Rattle.records.specs.Part.{Located, Part}
use Rattle.records.specs.Part.Part.{InodePart}
use Rattle.records.specs.Contents.{Contents}

-- the flag NODATASUM of an inode, bit 0: its data has no checksums
abbrev pub nodatasum : ℕ
nodatasum = 1

-- the tree and the number of the inode where an inode item has NODATASUM
abbrev pub sum_free_part : ℕ → Part → Option (ℕ × ℕ)
sum_free_part tree (InodePart item) = if bit_and item.flags nodatasum == nodatasum then Some (tree, item.key.objectid) else None
sum_free_part tree other = None

abbrev pub sum_free_inode : Located → Option (ℕ × ℕ)
sum_free_inode one = sum_free_part one.tree one.part

-- whether a pair is that of an inode of a tree
abbrev pub is_inode : ℕ → ℕ → ℕ × ℕ → Bool
is_inode tree ino one = one.0 == tree && one.1 == ino

-- whether one of some records is the item of an inode of a tree, with NODATASUM
abbrev pub has_sum_free : List Located → ℕ → ℕ → Bool
has_sum_free records tree ino = list_any (is_inode tree ino) (filter_map sum_free_inode records)

-- the context of an image that holds this
abbrev pub context_of : Contents → Context
context_of held = record { chunks = held.chunks; nodesize = held.sup.nodesize; sum_free = has_sum_free held.records; full = no_full }
