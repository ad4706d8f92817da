-- Whether the data of an inode has no checksums, once changes are made.
use Rattle.std.specs.Prelude.{ℕ, Bool, false, ◌&&◌, ◌==◌, bit_and, List, [], ◌∷◌, slice_get, Option, Some, None, if◌then◌else◌}
use Rattle.std.specs.Option.{unwrap_or}
use Rattle.records.specs.Context.{nodatasum}
use Rattle.records.specs.Part.{owned_part}
use Rattle.records.specs.Part.{Part}
use Rattle.records.specs.Part.Part.{InodePart}
use Rattle.records.specs.declared.rec.ItemAt.{ItemAt}
use Rattle.change_records.specs.declared.changes.ItemChange.{ItemChange}
use Rattle.change_records.specs.declared.changes.ItemChange.TheVariants.{Added, Removed, Altered}

-- the flag NODATASUM of an inode of a tree by what an item of a tree says, where it is that inode's
abbrev pub flag_in : ℕ → ℕ → ℕ → Part → Option Bool
flag_in tree ino of_tree (InodePart item) =
    if of_tree == tree && item.key.objectid == ino then Some (bit_and item.flags nodatasum == nodatasum) else None
flag_in tree ino of_tree other = None

-- the same of an item, where there is one
abbrev pub flag_at : ℕ → ℕ → Option ItemAt → Option Bool
flag_at tree ino None = None
flag_at tree ino (Some item) = flag_in tree ino item.tree (owned_part item.part)

-- no flag where an item of the inode goes away
abbrev pub without_flag : Option Bool → Bool → Bool
without_flag None free = free
without_flag (Some was) free = false

-- the flag of an inode once a change is made: that of the new item, none where the old item goes away
abbrev pub flag_after : List ItemAt → List ItemAt → ℕ → ℕ → ItemChange → Bool → Bool
flag_after old new tree ino (Added is) free = unwrap_or (flag_at tree ino (slice_get new is)) free
flag_after old new tree ino (Removed was) free = without_flag (flag_at tree ino (slice_get old was)) free
flag_after old new tree ino (Altered was is) free =
    unwrap_or (flag_at tree ino (slice_get new is)) (without_flag (flag_at tree ino (slice_get old was)) free)

-- whether an inode's data has no checksums once changes are made, in their order
unfoldable pub sum_free_after : List ItemAt → List ItemAt → ℕ → ℕ → List ItemChange → Bool → Bool
sum_free_after old new tree ino [] free = free
sum_free_after old new tree ino (change ∷ changes) free = sum_free_after old new tree ino changes (flag_after old new tree ino change free)

-- the same of each inode
abbrev pub flags_after : List ItemAt → List ItemAt → List ItemChange → (ℕ → ℕ → Bool) → ℕ → ℕ → Bool
flags_after old new changes free tree ino = sum_free_after old new tree ino changes (free tree ino)
