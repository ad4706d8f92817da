-- How often an event looks into the index, and the start of a checker.
use Rattle.std.specs.Prelude.{ℕ, ◌+◌, ◌*◌, ◌≤◌, List, length, Option, Result, Ok, Err, IfOk, IfSome, if◌then◌else◌}
use Rattle.std.specs.Ordering.{nat_cmp}
use Rattle.std.specs.FinMap.{FinMap}
use Rattle.verdict.specs.Events.{meets_superblock}
use Rattle.verdict.specs.declared.finding.Finding.{Finding}
use Rattle.verdict.specs.declared.machine.Answer.{Answer}
use Rattle.verdict.specs.declared.machine.Answer.TheVariants.{Held, Fetched, Passed, Rejected}
use Rattle.verdict.specs.declared.machine.Event.{Event}
use Rattle.verdict.specs.declared.machine.Event.TheVariants.{Write, Settle, Fetch}
use Rattle.write_cache.specs.Cache.{cache_of}
use Rattle.lookup_bounds.specs.Work.{starting_work, work_between}
use Rattle.commit_judge.specs.Index.{IndexStands}
use Rattle.commit_judge.specs.declared.index.Index.{Index}
use Rattle.recon_core.specs.Machine.{MachineState, with_pending}
use Rattle.recon_core.specs.declared.checker.Checker.{Checker}
use Rattle.recon_core.specs.declared.checker.Started.{Started}
use Rattle.recon_core.specs.declared.checker.Started.TheVariants.{Ready, Refused}

-- the work of an event: that between the state's image and the one that a judged event would make, and none of another event
abbrev pub work_at : MachineState → Event → ℕ
work_at s (Write submitter at bytes) =
    if meets_superblock at (length bytes) then work_between s.image (cache_of (with_pending s (record { at = at; bytes = bytes })).pending) else 0
work_at s Settle = work_between s.image (cache_of s.pending)
work_at s (Fetch at len) = 0

-- the looks before and after an event of this answer and this work; of a rejected one nothing is said
abbrev pub HasLooks : Answer → ℕ → ℕ → ℕ → Type 0
HasLooks (Rejected finding) work before after = Unit {0}
HasLooks answer work before after = after ≤ before + 64 * work

-- the looks before and after the judging of all pending writes, where an index stands for the image that a disk tells
abbrev pub JudgesByWork : {L E : Type 0} → Option (List ℕ) → FinMap nat_cmp ℕ → Index L → Result Answer E → ℕ → ℕ → Type 0
JudgesByWork told pending index result before after =
    IfOk result (λ answer. IfSome told (λ image. IndexStands image index → HasLooks answer (work_between image pending) before after))

-- the looks before and after the start of a checker; where the image is refused nothing is said
abbrev pub BeginsByWork : {L : Type 0} → List ℕ → ℕ → ℕ → Result (Checker L × ℕ) Finding → Type 0
BeginsByWork image before after (Ok begun) = after ≤ before + 64 * starting_work image
BeginsByWork image before after (Err finding) = Unit {0}

abbrev pub StartsByWork : {L : Type 0} → List ℕ → ℕ → ℕ → Started L → Type 0
StartsByWork image before after (Ready checker) = after ≤ before + 64 * starting_work image
StartsByWork image before after (Refused finding) = Unit {0}
