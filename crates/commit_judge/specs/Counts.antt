-- How many blocks a commit changes, and how many of the old ones a stop may harm.
use Rattle.std.specs.Prelude.{ℕ, Bool, not, ◌||◌, List, length, Result, Ok, Err}
use Rattle.std.specs.List.{count_by}
use Rattle.std.specs.Ordering.{nat_cmp}
use Rattle.std.specs.FinMap.{FinMap}
use Rattle.verdict.specs.declared.finding.Finding.{Finding}
use Rattle.write_cache.specs.Cache.{overlaid}
use Rattle.live_index.specs.declared.live.Live.{Live}
use Rattle.tree_laws.specs.LivePairs.{Walked, live_in, walked}
use Rattle.tree_laws.specs.Shared.{unshared}
use Rattle.touched_blocks.specs.Touched.{Written, stays_in_place, touches_block, written_in}

-- a count over the walks of two images, none where one of them has a finding
abbrev pub over_walks : (Walked → Walked → ℕ) → Result Walked Finding → Result Walked Finding → ℕ
over_walks count (Ok old) (Ok new) = count old new
over_walks count (Ok old) (Err finding) = 0
over_walks count (Err finding) other = 0

-- the live pairs of both images that are not shared, of an image and the same with pending writes over it
unfoldable pub blocks_between : List ℕ → FinMap nat_cmp ℕ → ℕ
blocks_between image pending =
    over_walks (λ old new. unshared old new (written_in pending) (length image)) (walked image) (walked (overlaid pending 0 image))

-- whether a stop may harm the block of a live pair of an image while the next is written: a write touches a byte of a copy, or the next
-- image has no place or another for it
abbrev pub may_be_harmed : Walked → Walked → Written → ℕ → Live → Bool
may_be_harmed old new written end live =
    touches_block written old.chunks old.sup.nodesize end live.address || not (stays_in_place old.chunks new.chunks old.sup.nodesize end live.address)

-- of how many live pairs of an image that is so, with pending writes over it
unfoldable pub hot_between : List ℕ → FinMap nat_cmp ℕ → ℕ
hot_between image pending =
    over_walks (λ old new. count_by (may_be_harmed old new (written_in pending) (length image)) (live_in old.seen))
    (walked image) (walked (overlaid pending 0 image))
