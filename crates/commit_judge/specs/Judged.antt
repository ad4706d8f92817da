-- What the judgement of a commit says, and what it leaves of the index.
use Rattle.std.specs.Prelude.{◌≡◌, ℕ, ◌+◌, ◌*◌, ◌≤◌, List, length}
use Rattle.std.specs.Ordering.{nat_cmp}
use Rattle.std.specs.FinMap.{FinMap}
use Rattle.verdict.specs.declared.finding.Finding.{Finding}
use Rattle.verdict.specs.declared.finding.Verdict.TheVariants.{Accept, Found}
use Rattle.verdict.specs.Image.{range}
use Rattle.write_cache.specs.Cache.{overlaid}
use Rattle.records.specs.FullCheck.{full_check}
use Rattle.commit_judge.specs.Counts.{blocks_between, hot_between}
use Rattle.commit_judge.specs.Index.{IndexStands}
use Rattle.commit_judge.specs.declared.index.Index.{Index}
use Rattle.commit_judge.specs.declared.judge.Judged.{Judged}
use Rattle.commit_judge.specs.declared.judge.Judged.TheVariants.{Passed, Rejected}

-- The judged image is accepted, and the index stands for it. The counts are those of the blocks that are not shared, and of the old ones
-- that a stop may harm. Each block that is not shared is at most two reads.
pub record IsPassed {L : Type 0} (image : List ℕ) (pending : FinMap nat_cmp ℕ) (index : Index L) (before after generation blocks hot : ℕ) : Type 0 where
  pub accepted : full_check (overlaid pending 0 image) ≡ Accept generation
  pub stands : IndexStands (overlaid pending 0 image) index
  pub blocks_are : blocks ≡ blocks_between image pending
  pub hot_are : hot ≡ hot_between image pending
  pub reads : after ≤ before + 2 * blocks

-- the judged image has this finding, and the index stands for the image as before
pub record IsRejected {L : Type 0} (image : List ℕ) (pending : FinMap nat_cmp ℕ) (index : Index L) (finding : Finding) : Type 0 where
  pub found : full_check (overlaid pending 0 image) ≡ Found finding
  pub stands : IndexStands image index

abbrev pub IsJudgement : {L : Type 0} → List ℕ → FinMap nat_cmp ℕ → Index L → ℕ → ℕ → Judged → Type 0
IsJudgement image pending index before after (Passed generation blocks hot) = IsPassed image pending index before after generation blocks hot
IsJudgement image pending index before after (Rejected finding) = IsRejected image pending index finding

-- a commit passes only where the superblock lies on the device
abbrev pub HasRoom : ℕ → Judged → Type 0
HasRoom len (Passed generation blocks hot) = 69632 ≤ len
HasRoom len (Rejected finding) = Unit {0}

-- Where these are the bytes of an image's superblock place, those are the bytes of the place with pending writes over the image. Nothing else
-- is asked of the image.
abbrev pub IsPlaceAfter : List ℕ → FinMap nat_cmp ℕ → List ℕ → Type 0
IsPlaceAfter old pending new =
    (image : List ℕ) → 69632 ≤ length image → old ≡ range 65536 4096 image → new ≡ range 65536 4096 (overlaid pending 0 image)

-- what a commit that passes makes of the bytes of the superblock place
abbrev pub MovesPlace : List ℕ → FinMap nat_cmp ℕ → List ℕ → Judged → Type 0
MovesPlace old pending new (Passed generation blocks hot) = IsPlaceAfter old pending new
MovesPlace old pending new (Rejected finding) = Unit {0}
