-- How much a commit posts, by the work.
use Rattle.std.specs.Prelude.{◌≡◌, ℕ, ◌+◌, ◌*◌, ◌≤◌, List, length, Ok}
use Rattle.std.specs.Ordering.{nat_cmp}
use Rattle.std.specs.FinMap.{FinMap}
use Rattle.write_cache.specs.Cache.{overlaid}
use Rattle.tree_laws.specs.LivePairs.{Walked, walked}
use Rattle.commit_laws.specs.Commit.{Commit, IsCommit, IsKnown, IsMoved, Known, came_by, context_by, gone_by}
use Rattle.commit_laws.specs.Steps.{step_posts}
use Rattle.tree_change.specs.Accepted.{unshared_old}
use Rattle.lookup_bounds.specs.Work.{new_postings, old_postings, unshared_new}

-- a commit from an accepted image to another, what is known of both, and their walks
pub record IsPassage (image : List ℕ) (pending : FinMap nat_cmp ℕ) (k next : Known) (c : Commit) (old new : Walked) : Type 0 where
  pub known : IsKnown image k
  pub commit : IsCommit image pending k c
  pub moved : IsMoved k c next
  pub known_then : IsKnown (overlaid pending 0 image) next
  pub was : walked image ≡ Ok old
  pub is : walked (overlaid pending 0 image) ≡ Ok new

-- What is taken away is no more than what the items post that count in the old image, two for each pair that is not shared, and one; so with
-- what comes. No more kept items post otherwise than there are postings that count.
pub record ArePostingsFew (image : List ℕ) (pending : FinMap nat_cmp ℕ) (k next : Known) (c : Commit) (old new : Walked) : Type 0 where
  pub gone : length (step_posts (context_by k) (gone_by k c) c.refs)
      ≤ length (old_postings image pending old new) + 2 * length (unshared_old image pending old new) + 1
  pub came : length (step_posts (context_by next) (came_by c) c.refs)
      ≤ length (new_postings image pending old new) + 2 * length (unshared_new image pending old new) + 1
  pub refs : length c.refs ≤ length (old_postings image pending old new) + length (new_postings image pending old new)

-- so it is with each commit from an accepted image to another
abbrev pub PostingsLaw : Type 0
PostingsLaw = (image : List ℕ) (pending : FinMap nat_cmp ℕ) (k next : Known) (c : Commit) (old new : Walked)
    → IsPassage image pending k next c old new → ArePostingsFew image pending k next c old new
