-- What one event does. It serves to state what private functions keep.
use Rattle.std.specs.Prelude.{ℕ, ◌≡◌, true, false, nat_lt, List, ◌++◌, length, Option, Some, None, IfSome}
use Rattle.verdict.specs.declared.machine.Event.{Event}
use Rattle.verdict.specs.declared.machine.Answer.TheVariants.{Passed}
use Rattle.verdict.specs.Events.{begin_of, end_of}
use Rattle.recon_disk.specs.Stops.{Moment}
use Rattle.recon_core.specs.declared.checker.Checker.{Checker}
use Rattle.recon_core.specs.Machine.{MachineState, machine_step}
use Rattle.recon_core.specs.Looks.{HasLooks, work_at}
use Rattle.recon_core.specs.Reads.{HasReads}
use Rattle.recon_core.specs.Moments.{EachLeaves, IsFlushedAs}
use Rattle.recon_core.specs.Standing.{IsAccepted, StandsFor}
use Rattle.recon_core.specs.Stops.{IsStopImage}
use Rattle.recon_cli.specs.Outcome.{answer_text, counts_after, is_settle, past_end}
use Rattle.recon_cli.specs.declared.counts.Counts.{Counts}
use Rattle.recon_cli.specs.declared.lines.Style.{Style}

-- an event that goes on as the machine's step says
pub record StepsOn {L : Type 0} (s : MachineState) (t : Counts) (event : Event)
    (checker : Checker L) (new : Counts) (disk : Option (List ℕ)) : Type 0 where
  pub inside : nat_lt (length s.image) (end_of event) ≡ false
  pub stands : StandsFor checker (machine_step s event).after
  pub image : disk ≡ Some (machine_step s event).after.image
  pub counts : new ≡ counts_after t (machine_step s event).answer

-- What one event did: it goes on as the machine's step says, with the line of the answer printed, or the
-- event passes the end of the device, which is printed, and the run ends with status 3.
pub record GoesOn {L : Type 0} (style : Style) (s : MachineState) (t : Counts) (event : Event) (kept : List ℕ)
    (checker : Checker L) (new : Counts) (disk sink : Option (List ℕ)) : Type 0 where
  pub step : StepsOn s t event checker new disk
  pub printed : sink ≡ Some
      (kept ++ answer_text style t (begin_of event) (is_settle event) (machine_step s event).answer)

pub record EndsPast (style : Style) (s : MachineState) (place : ℕ) (event : Event) (kept : List ℕ)
    (status : ℕ) (disk sink : Option (List ℕ)) : Type 0 where
  pub outside : nat_lt (length s.image) (end_of event) ≡ true
  pub status_is : status ≡ 3
  pub image : disk ≡ Some s.image
  pub printed : sink ≡ Some (kept ++ (past_end style s place event).text)

abbrev pub Turns : {L : Type 0} → Style → MachineState → ℕ → Counts → Event → List ℕ
    → Option ℕ → Checker L → Counts → Option (List ℕ) → Option (List ℕ) → Type 0
Turns style s place t event kept None checker new disk sink =
    GoesOn style s t event kept checker new disk sink
Turns style s place t event kept (Some status) checker new disk sink =
    EndsPast style s place event kept status disk sink

-- what one event did that goes on, and the reads and the looks before and after it
abbrev pub MayStep : {L : Type 0} → MachineState → Counts → Event → Option ℕ → Checker L → Counts → Option (List ℕ) → ℕ → ℕ → ℕ → ℕ → Type 0
MayStep s t event None checker new disk before after first last =
    StepsOn s t event checker new disk × HasReads (machine_step s event).answer before after
    × HasLooks (machine_step s event).answer (work_at s event) first last
MayStep s t event (Some status) checker new disk before after first last = Unit {0}

-- Moments that one event adds behind older ones: a stop at one leaves a stop image of the event, which the full check accepts where the
-- event's line ends in `hot 0`.
pub record TurnAdds (s : MachineState) (event : Event) (before : List Moment) (now : Option (List Moment)) : Type 0 where
  pub added : List Moment
  pub moments : now ≡ Some (added ++ before)
  pub stops : EachLeaves (IsStopImage s event) added
  pub safe : (generation blocks : ℕ) → (machine_step s event).answer ≡ Passed generation blocks 0 → EachLeaves IsAccepted added

-- the same of a disk that tells its moments and is settled before
abbrev pub TurnStopsIn : MachineState → Event → Option (List Moment) → Option (List Moment) → Type 0
TurnStopsIn s event before now = IfSome before (λ moments. IsFlushedAs s.image moments → TurnAdds s event moments now)
