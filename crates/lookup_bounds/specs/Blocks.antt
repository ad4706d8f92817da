-- The blocks and items of a commit, by the pairs that two images do not share.
use Rattle.std.specs.Prelude.{◌≡◌, ℕ, ◌+◌, ◌≤◌, List, length}
use Rattle.std.specs.Ordering.{nat_cmp}
use Rattle.std.specs.FinMap.{FinMap}
use Rattle.write_cache.specs.Cache.{overlaid}
use Rattle.tree_laws.specs.LivePairs.{Walked}
use Rattle.tree_change.specs.LooksLaw.{entries_of}
use Rattle.tree_change.specs.OneTree.{side_of}
use Rattle.commit_laws.specs.Commit.{Commit, Known, came_by, gone_by}
use Rattle.commit_laws.specs.Steps.{spans_of}
use Rattle.lookup_bounds.specs.Postings.{IsPassage}
use Rattle.tree_change.specs.Accepted.{unshared_old}
use Rattle.lookup_bounds.specs.Work.{unshared_new}

-- The blocks that a commit changes are the pairs that are not shared, with their entries. There are no more items in them than entries; no more
-- changes than items; and no more spans gone or come than items.
pub record AreBlocksCounted (image : List ℕ) (pending : FinMap nat_cmp ℕ) (k : Known) (c : Commit) (old new : Walked) : Type 0 where
  pub old_blocks : length c.change.old_blocks.items ≡ length (unshared_old image pending old new)
  pub new_blocks : length c.change.new_blocks.items ≡ length (unshared_new image pending old new)
  pub old_entries : entries_of (side_of image old) c.change.old_blocks.items ≡ entries_of (side_of image old) (unshared_old image pending old new)
  pub new_entries : entries_of (side_of (overlaid pending 0 image) new) c.change.new_blocks.items
      ≡ entries_of (side_of (overlaid pending 0 image) new) (unshared_new image pending old new)
  pub old_items : length c.change.old_items.items ≤ entries_of (side_of image old) (unshared_old image pending old new)
  pub new_items : length c.change.new_items.items ≤ entries_of (side_of (overlaid pending 0 image) new) (unshared_new image pending old new)
  pub changes : length c.changes ≤ length c.change.old_items.items + length c.change.new_items.items
  pub gone_spans : length (spans_of k.sup.nodesize (gone_by k c)) ≤ length c.change.old_items.items
  pub came_spans : length (spans_of c.fresh.nodesize (came_by c)) ≤ length c.change.new_items.items

-- so it is with each commit from an accepted image to another
abbrev pub BlocksCountedLaw : Type 0
BlocksCountedLaw = (image : List ℕ) (pending : FinMap nat_cmp ℕ) (k next : Known) (c : Commit) (old new : Walked)
    → IsPassage image pending k next c old new → AreBlocksCounted image pending k c old new
