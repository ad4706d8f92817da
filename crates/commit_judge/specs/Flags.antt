-- The inodes whose data has no checksums, and the blocks that refer to what is below them by their address, as sets.
use Rattle.std.specs.Prelude.{ℕ, Bool}
use Rattle.std.specs.BTreeSet as set
use Rattle.std.specs.Ordering.{nat_cmp}
use Rattle.change_records.specs.Listed.{inode_cmp}
use Rattle.change_records.specs.declared.kept.Inode.{Inode}

-- whether an inode of a tree is in a set
abbrev pub free_in : set.BTreeSet Inode → ℕ → ℕ → Bool
free_in free tree ino = set.contains inode_cmp free (record { tree = tree; ino = ino })

-- whether the block at an address is in a set
abbrev pub full_in : set.BTreeSet ℕ → ℕ → Bool
full_in full address = set.contains nat_cmp full address
