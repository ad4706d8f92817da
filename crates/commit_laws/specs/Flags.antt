-- What changes besides the accounts: which inodes' data has no checksums, and how many blocks a stop may harm.
use Rattle.std.specs.Prelude.{◌≡◌, ℕ, Bool, not, ◌||◌, List, length, Ok}
use Rattle.std.specs.List.{count_by}
use Rattle.std.specs.Ordering.{nat_cmp}
use Rattle.std.specs.FinMap.{FinMap}
use Rattle.change_records.specs.SumFree.{flags_after}
use Rattle.change_records.specs.declared.changes.ItemChange.{ItemChange}
use Rattle.live_index.specs.declared.live.Live.{Live}
use Rattle.records.specs.Context.{has_sum_free}
use Rattle.tree_laws.specs.LivePairs.{Walked, live_in, walked}
use Rattle.tree_laws.specs.Shared.{are_read_alike}
use Rattle.touched_blocks.specs.Touched.{Written, stays_in_place, touches_block, written_in}
use Rattle.tree_change.specs.Change.{IsChange}
use Rattle.tree_change.specs.declared.change.Change.{Change}
use Rattle.write_cache.specs.Cache.{overlaid}
use Rattle.commit_laws.specs.Items.{ItemsStand, items_of}
use Rattle.commit_laws.specs.Paired.{SayChanges}
use Rattle.commit_laws.specs.Same.{records_of}

-- the inodes of the next image whose data has no checksums are those of the first, once all changes are made
abbrev pub FlagsLaw : Type 0
FlagsLaw = (image : List ℕ) (pending : FinMap nat_cmp ℕ) (old new : Walked) (change : Change) (changes : List ItemChange) (tree ino : ℕ)
    → walked image ≡ Ok old → walked (overlaid pending 0 image) ≡ Ok new
    → ItemsStand old.sup.nodesize (items_of old) → ItemsStand new.sup.nodesize (items_of new)
    → IsChange old new (written_in pending) (length image) change
    → SayChanges (are_read_alike old.sup new.sup) change.old_items.items change.new_items.items changes
    → has_sum_free (records_of new) tree ino
    ≡ flags_after change.old_items.items change.new_items.items changes (has_sum_free (records_of old)) tree ino

-- whether a write touches a byte of a copy of a live pair's block, or the next image has no place or another for it
unfoldable pub is_hot : Walked → Walked → Written → ℕ → Live → Bool
is_hot old new written end live =
    touches_block written old.chunks old.sup.nodesize end live.address || not (stays_in_place old.chunks new.chunks old.sup.nodesize end live.address)

-- of how many live pairs of an image that is so
abbrev pub hot_of : Walked → Walked → Written → ℕ → List Live → ℕ
hot_of old new written end lives = count_by (is_hot old new written end) lives

-- no shared pair is among them, so that they can be counted among the pairs that are not shared
abbrev pub HotLaw : Type 0
HotLaw = (old new : Walked) (written : Written) (end : ℕ) (change : Change) → IsChange old new written end change
    → hot_of old new written end (live_in old.seen) ≡ hot_of old new written end change.old_blocks.items
