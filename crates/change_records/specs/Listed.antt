-- The inodes whose flags changes set. It serves to state what private functions keep.
use Rattle.std.specs.Prelude.{Bool, List, IsSome}
use Rattle.std.specs.List.{Contains}
use Rattle.std.specs.Ordering.{nat_cmp, ordering_then}
use Rattle.std.specs.declared.cmp.Ordering.{Ordering}
use Rattle.std.specs.BTreeMap as map
use Rattle.change_records.specs.declared.kept.Inode.{Inode}

-- the inodes in order: by the tree, then by the number
abbrev pub inode_cmp : Inode → Inode → Ordering
inode_cmp a b = ordering_then (nat_cmp a.tree b.tree) (nat_cmp a.ino b.ino)

-- no inode that has a flag is missing on a list
abbrev pub AreListed : map.BTreeMap Inode Bool → List Inode → Type 0
AreListed flags inodes = (inode : Inode) → IsSome (map.get inode_cmp flags inode) → (Contains inodes inode → ⊥) → ⊥
