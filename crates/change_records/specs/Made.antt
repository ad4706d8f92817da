-- What is kept of changes. It serves to state what private functions keep.
use Rattle.std.specs.Prelude.{◌≡◌, ℕ, ◌+◌, ◌*◌, ◌≤◌, Bool, ◌||◌, List, length, IsSome, Option}
use Rattle.std.specs.List.{AllPairs, Contains}
use Rattle.std.specs.Option.{unwrap_or}
use Rattle.std.specs.BTreeMap as map
use Rattle.std.specs.BTreeSet as set
use Rattle.records.specs.declared.rec.ItemAt.{ItemAt}
use Rattle.change_records.specs.declared.changes.ItemChange.{ItemChange}
use Rattle.change_records.specs.declared.item_ref.ItemRef.{ItemRef}
use Rattle.change_records.specs.declared.kept.Inode.{Inode}
use Rattle.change_records.specs.declared.kept.Made.{Made}
use Rattle.change_records.specs.Listed.{inode_cmp}
use Rattle.change_records.specs.Refs.{ref_cmp, stands_at, names, is_named}
use Rattle.change_records.specs.SumFree.{flag_after, flag_at, sum_free_after, without_flag}

-- whether the changes name an item
unfoldable pub has_name : Made → ItemRef → Bool
has_name made at = set.contains ref_cmp made.named at

-- the flag of an inode by the changes, or that which it had where none is of it
unfoldable pub flag_by : Made → ℕ → ℕ → Bool → Bool
flag_by made tree ino free = unwrap_or (map.get inode_cmp made.flags (record { tree = tree; ino = ino })) free

-- the inodes of a list are different, each has a flag, and they are no more than a number
pub record AreOnce (flags : map.BTreeMap Inode Bool) (inodes : List Inode) (most : ℕ) : Type 0 where
  pub distinct : AllPairs (λ one other. one ≡ other → ⊥) inodes
  pub flagged : (inode : Inode) → Contains inodes inode → IsSome (map.get inode_cmp flags inode)
  pub few : length inodes ≤ most

-- one inode more at most is on the list of what is kept
abbrev pub ListsOneMore : Made → Made → Type 0
ListsOneMore old new = (most : ℕ) → AreOnce old.flags old.inodes.items most → AreOnce new.flags new.inodes.items (most + 1)

-- what is kept names an item more, and has its flag where it is an inode's
pub record IsPut (old new : Made) (item : Option ItemAt) : Type 0 where
  pub named : (at : ItemRef) → has_name new at ≡ (stands_at at item || has_name old at)
  pub flags : (tree ino : ℕ) (free : Bool) → flag_by new tree ino free ≡ unwrap_or (flag_at tree ino item) (flag_by old tree ino free)
  pub once : ListsOneMore old new

-- what is kept names an item more, and has no flag of it where it is an inode's
pub record IsTaken (old new : Made) (item : Option ItemAt) : Type 0 where
  pub named : (at : ItemRef) → has_name new at ≡ (stands_at at item || has_name old at)
  pub flags : (tree ino : ℕ) (free : Bool) → flag_by new tree ino free ≡ without_flag (flag_at tree ino item) (flag_by old tree ino free)
  pub once : ListsOneMore old new

-- what is kept has a change more
pub record IsApplied (olds news : List ItemAt) (change : ItemChange) (old new : Made) : Type 0 where
  pub named : (at : ItemRef) → has_name new at ≡ (names olds news at change || has_name old at)
  pub flags : (tree ino : ℕ) (free : Bool) → flag_by new tree ino free ≡ flag_after olds news tree ino change (flag_by old tree ino free)
  pub once : (most : ℕ) → AreOnce old.flags old.inodes.items most → AreOnce new.flags new.inodes.items (most + 2)

-- what is kept is that of some changes
pub record IsMade (old new : List ItemAt) (changes : List ItemChange) (made : Made) : Type 0 where
  pub named : (at : ItemRef) → has_name made at ≡ is_named old new changes at
  pub flags : (tree ino : ℕ) (free : Bool) → flag_by made tree ino free ≡ sum_free_after old new tree ino changes free
  pub once : AreOnce made.flags made.inodes.items (2 * length changes)
