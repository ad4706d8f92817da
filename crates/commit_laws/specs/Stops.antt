-- What a stop may leave of a device on which writes went out in part.
use Rattle.std.specs.Prelude.{◌≡◌, ℕ, false, List, length, slice_index, Ok}
use Rattle.verdict.specs.Image.{range}
use Rattle.records.specs.FullCheck.{full_check}
use Rattle.tree_laws.specs.LivePairs.{Walked, live_in, walked}
use Rattle.touched_blocks.specs.Touched.{Written}
use Rattle.commit_laws.specs.Commit.{IsKnown, Known}
use Rattle.commit_laws.specs.Flags.{hot_of}

-- Another image has the length of one, its bytes where the superblock stands, and its byte at each offset that is not written.
pub record KeepsUnwritten (written : Written) (image other : List ℕ) : Type 0 where
  pub size : length other ≡ length image
  pub super : range 65536 4096 other ≡ range 65536 4096 image
  pub others : (i : ℕ) → written i ≡ false → slice_index other i ≡ slice_index image i

-- where no live block is hot, an image that keeps what is not written has the full check of the first and the same walks, and the same is
-- known of it
abbrev pub StopLaw : Type 0
StopLaw = (image other : List ℕ) (k : Known) (old new : Walked) (written : Written) → IsKnown image k → walked image ≡ Ok old
    → hot_of old new written (length image) (live_in old.seen) ≡ 0
    → KeepsUnwritten written image other
    → (full_check other ≡ full_check image) × (walked other ≡ walked image) × IsKnown other k
