-- The checking machine: a state, and for each event that lies inside the image one answer and one next
-- state.
use Rattle.std.specs.Prelude.{ℕ, Bool, false, List, [], ◌∷◌, ◌++◌, length, if◌then◌else◌}
use Rattle.verdict.specs.Image.{range, applied}
use Rattle.verdict.specs.Events.{meets_superblock}
use Rattle.verdict.specs.declared.machine.HeldWrite.{HeldWrite}
use Rattle.verdict.specs.declared.machine.Event.{Event}
use Rattle.verdict.specs.declared.machine.Event.TheVariants.{Write, Settle, Fetch}
use Rattle.verdict.specs.declared.machine.Answer.{Answer}
use Rattle.verdict.specs.declared.machine.Answer.TheVariants.{Held, Fetched, Passed, Rejected}
use Rattle.write_cache.specs.Cache.{cache_of}
use Rattle.records.specs.FullCheck.{full_check}
use Rattle.commit_judge.specs.Counts.{blocks_between, hot_between}
use Rattle.verdict.specs.declared.finding.Verdict.{Verdict}
use Rattle.verdict.specs.declared.finding.Verdict.TheVariants.{Accept, Found}

-- what the machine holds: the image on the device, the writes that wait, in order, and whether it is
-- closed
pub record MachineState : Type 0 where
  pub image : List ℕ
  pub pending : List HeldWrite
  pub closed : Bool

-- the state of the machine over an image, before the first event
abbrev pub first_state : List ℕ → MachineState
first_state image = record { image = image; pending = []; closed = false }

-- an answer, and the state after it
pub record Step : Type 0 where
  pub answer : Answer
  pub after : MachineState

-- the image that a judged event would make: all pending writes applied in order
abbrev pub judged_image : MachineState → List ℕ
judged_image s = applied s.image s.pending

-- a write added to those that wait
abbrev pub with_pending : MachineState → HeldWrite → MachineState
with_pending s w = record { image = s.image; pending = s.pending ++ w ∷ []; closed = s.closed }

-- the answer to a judged event, with how many blocks the two images do not share, and how many of the old ones a stop may harm
abbrev pub answer_to : Verdict → ℕ → ℕ → Answer
answer_to (Accept generation) blocks hot = Passed generation blocks hot
answer_to (Found finding) blocks hot = Rejected finding

-- of two images the first where the full check accepts, and else the second
abbrev pub image_by : Verdict → List ℕ → List ℕ → List ℕ
image_by (Accept generation) judged old = judged
image_by (Found finding) judged old = old

-- A judged event: where the full check accepts, the image becomes the judged one, and else it stays. The blocks are counted between the
-- image before the event and the judged one. Nothing waits any more.
abbrev pub judged_step : MachineState → Verdict → Step
judged_step s verdict = record {
  answer = answer_to verdict (blocks_between s.image (cache_of s.pending)) (hot_between s.image (cache_of s.pending));
  after = record { image = image_by verdict (judged_image s) s.image; pending = []; closed = s.closed };
}

-- all pending writes are judged
abbrev pub settle_step : MachineState → Step
settle_step s = judged_step s (full_check (judged_image s))

-- one step of the machine. A write that meets the superblock place is a commit, and is judged together
-- with the writes that wait, its own last; any other write waits.
abbrev pub machine_step : MachineState → Event → Step
machine_step s (Write submitter at bytes) =
    if meets_superblock at (length bytes)
    then settle_step (with_pending s (record { at = at; bytes = bytes }))
    else record { answer = Held; after = with_pending s (record { at = at; bytes = bytes }) }
machine_step s Settle = settle_step s
machine_step s (Fetch at len) = record { answer = Fetched (range at len (judged_image s)); after = s }
