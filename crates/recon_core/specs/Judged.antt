-- These words serve private functions alone: what a judged event leaves, by the map of what waits.
use Rattle.std.specs.Prelude.{ℕ, ◌≡◌, Bool, List, Option, Some, Result, OnErr, IfOk, IfSome}
use Rattle.std.specs.Option.{IsSomeAnd}
use Rattle.std.specs.Ordering.{nat_cmp}
use Rattle.std.specs.FinMap.{FinMap}
use Rattle.verdict.specs.declared.machine.Answer.{Answer}
use Rattle.verdict.specs.declared.machine.Stop.{Stop}
use Rattle.verdict.specs.declared.machine.Stop.TheVariants.{DiskFault, NoMemory as want}
use Rattle.recon_disk.specs.declared.disk.Disk.{Ghosts}
use Rattle.recon_disk.specs.Keeping.{IsCounted}
use Rattle.write_cache.specs.Cache.{overlaid}
use Rattle.records.specs.FullCheck.{full_check}
use Rattle.block_source.specs.declared.halt.Fault.{Fault}
use Rattle.block_source.specs.declared.halt.Fault.TheVariants.{Disk, NoMemory}
use Rattle.commit_judge.specs.Counts.{blocks_between, hot_between}
use Rattle.commit_judge.specs.Index.{IndexStands}
use Rattle.commit_judge.specs.declared.index.Index.{Index}
use Rattle.recon_core.specs.Machine.{answer_to, image_by}
use Rattle.recon_core.specs.Reads.{HasReads}
use Rattle.recon_core.specs.Stops.{IsLeftBy}

-- The answer is that of the full check and of the counts, the disk holds the judged image where it is accepted, and the index stands for
-- what the disk holds.
pub record IsSettled {L : Type 0} (waiting : FinMap nat_cmp ℕ) (index : Index L) (answer : Answer) (bytes : Option (List ℕ))
    (image : List ℕ) : Type 0 where
  pub says : answer ≡ answer_to (full_check (overlaid waiting 0 image)) (blocks_between image waiting) (hot_between image waiting)
  pub holds : bytes ≡ Some (image_by (full_check (overlaid waiting 0 image)) (overlaid waiting 0 image) image)
  pub stands : IndexStands (image_by (full_check (overlaid waiting 0 image)) (overlaid waiting 0 image) image) index

-- what is left of an image where a call failed
abbrev pub IsLeftOf : FinMap nat_cmp ℕ → List ℕ → List ℕ → Type 0
IsLeftOf waiting image left = IsLeftBy (full_check (overlaid waiting 0 image)) waiting (overlaid waiting 0 image) image left

-- What the judging of all that waits gives of a disk, where the index stood for its image; the flag says whether the answer names a fault
-- of it.
pub record Judges {D E L : Type 0} (disk : Ghosts D) (old new : D) (waiting : FinMap nat_cmp ℕ) (before after : Index L) (result : Result Answer E)
    (failed : Bool) : Type 0 where
  pub settled : IfOk result
      (λ answer. IfSome (disk.bytes old) (λ image. IndexStands image before → IsSettled waiting after answer (disk.bytes new) image))
  pub left : OnErr result (IfSome (disk.bytes old) (λ image. IndexStands image before → IsSomeAnd (disk.bytes new) (IsLeftOf waiting image)))
  pub reads : IfOk result (λ answer. IfSome (disk.bytes old) (λ image. IndexStands image before → HasReads answer (disk.reads old) (disk.reads new)))
  pub len : disk.len new ≡ disk.len old
  pub faults : IsCounted failed (disk.faults old) (disk.faults new)

-- the stop that a fault of the judge makes
abbrev pub stop_for : Fault → Stop
stop_for Disk = DiskFault
stop_for NoMemory = want
