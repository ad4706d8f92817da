-- How often a disk is read.
use Rattle.std.specs.Prelude.{ℕ, ◌≡◌, ◌+◌, ◌*◌, ◌≤◌, List, length, Result, Ok, Err}
use Rattle.verdict.specs.declared.finding.Finding.{Finding}
use Rattle.verdict.specs.declared.machine.Answer.{Answer}
use Rattle.verdict.specs.declared.machine.Answer.TheVariants.{Held, Fetched, Passed, Rejected}
use Rattle.tree_laws.specs.LivePairs.{Walked, live_in, walked}
use Rattle.recon_core.specs.declared.checker.Checker.{Checker}
use Rattle.recon_core.specs.declared.checker.Started.{Started}
use Rattle.recon_core.specs.declared.checker.Started.TheVariants.{Ready, Refused}

-- the most reads of an event by its answer: none of a write that waits, one of a fetch, and of a judged event that passed two of each block
-- that the two images do not share; of a rejected one nothing is said
abbrev pub reads_of : Answer → ℕ
reads_of Held = 0
reads_of (Fetched bytes) = 1
reads_of (Passed generation blocks hot) = 2 * blocks
reads_of (Rejected finding) = 0

-- the reads before and after an event of this answer
abbrev pub HasReads : Answer → ℕ → ℕ → Type 0
HasReads (Rejected finding) before after = Unit {0}
HasReads answer before after = after ≤ before + reads_of answer

-- the reads before and after a fetch
abbrev pub HasFetched : Answer → ℕ → ℕ → Type 0
HasFetched (Fetched bytes) before after = after ≤ before + 1
HasFetched other before after = Unit {0}

-- at most one read of the superblock of an image, and two of each block of its trees
pub record HasReadTrees (image : List ℕ) (before after : ℕ) : Type 0 where
  pub trees : Walked
  pub walks : walked image ≡ Ok trees
  pub reads : after ≤ before + 1 + 2 * length (live_in trees.seen)

-- the reads before and after the start of a checker; where the image is refused nothing is said
abbrev pub HasBegun : {L : Type 0} → List ℕ → ℕ → ℕ → Result (Checker L × ℕ) Finding → Type 0
HasBegun image before after (Ok begun) = HasReadTrees image before after
HasBegun image before after (Err finding) = Unit {0}

abbrev pub HasStarted : {L : Type 0} → List ℕ → ℕ → ℕ → Started L → Type 0
HasStarted image before after (Ready checker) = HasReadTrees image before after
HasStarted image before after (Refused finding) = Unit {0}
