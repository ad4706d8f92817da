-- The table of live pairs of the next image.
use Rattle.std.specs.Prelude.{◌≡◌, ℕ, List, length, Ok}
use Rattle.std.specs.Ordering.{nat_cmp}
use Rattle.std.specs.FinMap.{FinMap}
use Rattle.live_index.specs.Pairs.{Pairs}
use Rattle.live_maker.specs.Tables.{with_pairs, without_pairs}
use Rattle.tree_laws.specs.LivePairs.{Walked, live_in, table_of, walked}
use Rattle.touched_blocks.specs.Touched.{written_in}
use Rattle.tree_change.specs.Change.{IsChange}
use Rattle.tree_change.specs.declared.change.Change.{Change}
use Rattle.write_cache.specs.Cache.{overlaid}

-- the table of an image, without the old pairs that are not shared, with the new ones, and with those that are shifted, is that of the next
abbrev pub TableMovedLaw : Type 0
TableMovedLaw = (image : List ℕ) (pending : FinMap nat_cmp ℕ) (old new : Walked) (change : Change) (pairs : Pairs) (tree address : ℕ)
    → walked image ≡ Ok old → walked (overlaid pending 0 image) ≡ Ok new
    → IsChange old new (written_in pending) (length image) change
    → ((tree address : ℕ) → pairs tree address ≡ table_of (live_in old.seen) tree address)
    → with_pairs (with_pairs (without_pairs pairs change.old_blocks.items) change.new_blocks.items) change.moved.items tree address
    ≡ table_of (live_in new.seen) tree address
