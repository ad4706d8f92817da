-- What a stop may leave of a disk on which pending writes went out in part.
use Rattle.std.specs.Prelude.{◌≡◌, ℕ, List}
use Rattle.std.specs.Ordering.{nat_cmp}
use Rattle.std.specs.FinMap.{FinMap}
use Rattle.verdict.specs.declared.finding.Verdict.TheVariants.{Accept}
use Rattle.write_cache.specs.Cache.{overlaid}
use Rattle.records.specs.FullCheck.{full_check}
use Rattle.touched_blocks.specs.Touched.{written_in}
use Rattle.commit_laws.specs.Commit.{IsKnown, Known}
use Rattle.commit_laws.specs.Stops.{KeepsUnwritten}
use Rattle.commit_judge.specs.Counts.{hot_between}

-- Where the next image is accepted and no live block is hot, what a stop may leave, with the superblock place as it was and each byte at
-- which no write is pending, has the full check of the image before.
abbrev pub SafeStops : Type 0
SafeStops = (image other : List ℕ) (pending : FinMap nat_cmp ℕ) (k : Known) (generation : ℕ) → IsKnown image k
    → full_check (overlaid pending 0 image) ≡ Accept generation → hot_between image pending ≡ 0
    → KeepsUnwritten (written_in pending) image other
    → full_check other ≡ full_check image
