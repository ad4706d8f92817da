-- What changes from an old image to a new one, and what the call that finds it promises.
use Rattle.std.specs.Prelude.{ℕ, ◌≡◌, ◌≤◌, ◌+◌, ◌*◌, Bool, ◌&&◌, ◌||◌, ◌==◌, nat_lt, List, length, map, Result, Ok, Err, IfOk, IfSome}
use Rattle.std.specs.List.Sorted.{IsPermutation}
use Rattle.std.specs.Ordering.{nat_cmp}
use Rattle.std.specs.FinMap.{FinMap}
use Rattle.verdict.specs.OnDisk.{key_below}
use Rattle.verdict.specs.declared.finding.Verdict.TheVariants.{Accept}
use Rattle.verdict.specs.declared.place.Chunk.{Chunk}
use Rattle.recon_disk.specs.declared.disk.Disk.{Ghosts}
use Rattle.write_cache.specs.Cache.{overlaid}
use Rattle.live_index.specs.Pairs.{Pairs, comes_before}
use Rattle.live_index.specs.declared.live.Live.{Live}
use Rattle.super_reader.specs.declared.Super.{Super}
use Rattle.volume_items.specs.declared.root_at.RootAt.{RootAt}
use Rattle.records.specs.Contents.{Contents, contents, root_items_in, superblock_in}
use Rattle.accounts.specs.Context.{no_full}
use Rattle.records.specs.Context.{has_sum_free}
use Rattle.records.specs.FullCheck.{full_check}
use Rattle.records.specs.Part.{Located}
use Rattle.tree_laws.specs.LivePairs.{Walked, live_in, table_of, walked}
use Rattle.tree_laws.specs.Shared.{unshared_in}
use Rattle.touched_blocks.specs.Touched.{Written, written_in}
use Rattle.tree_laws.specs.MergedLaw.{IsInOrder}
use Rattle.tree_laws.specs.ShiftedLaw.{shifted_in}
use Rattle.tree_laws.specs.Unshared.{items_in}
use Rattle.tree_change.specs.Gathered.{located_item}
use Rattle.tree_change.specs.declared.change.Change.{Change}
use Rattle.tree_change.specs.declared.change.Diff.{Diff}
use Rattle.tree_change.specs.declared.change.Diff.TheVariants.{Found, Change as Changed}

-- whether a pair comes before another by address and tree, and an item before another by tree and key
abbrev pub is_before : Live → Live → Bool
is_before a b = comes_before a.address a.tree b.address b.tree

abbrev pub item_before : Located → Located → Bool
item_before a b = nat_lt a.tree b.tree || (a.tree == b.tree && key_below a.key b.key)

-- What changes from an old image to a new one on a device of end bytes: the pairs that are not shared, of the old image and of the new
-- one; the shared ones that are shifted, with what is known of them now; the items of the leaves that are not shared; the new chunks
pub record IsChange (old new : Walked) (written : Written) (end : ℕ) (change : Change) : Type 0 where
  pub old_blocks : IsPermutation (unshared_in old new written end old) change.old_blocks.items
  pub new_blocks : IsPermutation (unshared_in old new written end new) change.new_blocks.items
  pub moved : IsInOrder is_before (shifted_in old new written end) change.moved.items
  pub old_items : IsInOrder item_before (items_in (unshared_in old new written end old) old.seen) (map located_item change.old_items.items)
  pub new_items : IsInOrder item_before (items_in (unshared_in old new written end new) new.seen) (map located_item change.new_items.items)
  pub map : change.map ≡ new.chunks

-- what a judged image is beside an old one: the first finding of what it holds, or what changes, with where the trees of the judged image begin
abbrev pub IsDifference : List ℕ → List ℕ → Written → Diff → Type 0
IsDifference image judged written (Found finding) = contents judged ≡ Err finding
IsDifference image judged written (Changed change) =
    (old : Walked) × (new : Walked) × (walked image ≡ Ok old) × (walked judged ≡ Ok new) × IsChange old new written (length image) change
    × (root_items_in new.sup new.chunks judged ≡ Ok change.roots.items)

-- what is known of an image that is accepted is what it holds: its superblock, its chunks, its root items in the order of their keys,
-- whether an inode's data has no checksums, that no block refers to what is below it by its address, and the table of its live pairs
pub record BasesStand (image : List ℕ) (sup : Super) (chunks : List Chunk) (roots : List RootAt) (sum_free : ℕ → ℕ → Bool) (full : ℕ → Bool) (pairs : Pairs) : Type 0 where
  pub generation : ℕ
  pub accepted : full_check image ≡ Accept generation
  pub held : Contents
  pub holds : contents image ≡ Ok held
  pub super_is : sup ≡ held.sup
  pub chunks_are : chunks ≡ held.chunks
  pub roots_are : roots ≡ held.roots
  pub free_are : (tree ino : ℕ) → sum_free tree ino ≡ has_sum_free held.records tree ino
  pub full_are : (address : ℕ) → full address ≡ no_full address
  pub trees : Walked
  pub walks : walked image ≡ Ok trees
  pub pairs_are : (tree address : ℕ) → pairs tree address ≡ table_of (live_in trees.seen) tree address

-- what a change costs: at most one read for each old block that is not shared, and two for each new one
abbrev pub ReadsFew : ℕ → ℕ → Diff → Type 0
ReadsFew before after (Found finding) = Unit {0}
ReadsFew before after (Changed change) = after ≤ before + length change.old_blocks.items + 2 * length change.new_blocks.items

-- What the call promises that finds the difference: where the disk tells the bytes of an image for which the bases stand, and the fresh
-- superblock is that of the judged image, its answer is the difference, at so few reads; and the disk's bytes stay.
pub record GivesDifference {D E : Type 0} (disk : Ghosts D) (before after : D) (pending : FinMap nat_cmp ℕ)
    (sup : Super) (chunks : List Chunk) (roots : List RootAt) (sum_free : ℕ → ℕ → Bool) (full : ℕ → Bool) (pairs : Pairs) (fresh : Super) (result : Result Diff E) : Type 0 where
  pub told : IfOk result (λ diff. IfSome (disk.bytes before) (λ image.
      BasesStand image sup chunks roots sum_free full pairs → superblock_in (overlaid pending 0 image) ≡ Ok fresh
      → IsDifference image (overlaid pending 0 image) (written_in pending) diff × ReadsFew (disk.reads before) (disk.reads after) diff))
  pub bytes : disk.bytes after ≡ disk.bytes before
