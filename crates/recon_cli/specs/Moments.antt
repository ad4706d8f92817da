-- What a stop at a moment in a replay may leave, such as a power cut, of a disk that tells its moments.
use Rattle.std.specs.Prelude.{ℕ, ◌≡◌, List, [], ◌∷◌, ◌++◌, Option, Some, IfSome}
use Rattle.std.specs.List.{All}
use Rattle.verdict.specs.declared.machine.Event.{Event}
use Rattle.verdict.specs.declared.machine.Answer.TheVariants.{Passed}
use Rattle.recon_disk.specs.Stops.{Moment, MayRemain}
use Rattle.recon_core.specs.Machine.{MachineState, first_state, machine_step}
use Rattle.recon_core.specs.Moments.{IsFlushedAs}
use Rattle.recon_core.specs.Standing.{IsAccepted}
use Rattle.recon_core.specs.Stops.{IsStopImage}
use Rattle.trace_reader.specs.Trace.{Ending, IsTrace}
use Rattle.recon_cli.specs.Run.{record_limit}
use Rattle.recon_cli.specs.Stopped.{state_after}

-- A stop at this moment leaves a stop image of one of these events, in the state before that event. The full check accepts it where the
-- event's line ends in `hot 0`.
pub record LeavesOfOne (first : MachineState) (events : List Event) (moment : Moment) : Type 0 where
  pub before : List Event
  pub event : Event
  pub behind : List Event
  pub parts : events ≡ before ++ event ∷ behind
  pub stops : (left : List ℕ) → MayRemain moment left → IsStopImage (state_after first before) event left
  pub safe : (generation blocks : ℕ) → (machine_step (state_after first before) event).answer ≡ Passed generation blocks 0
      → (left : List ℕ) → MayRemain moment left → IsAccepted left

-- Moments came behind older ones, each in one of these events.
pub record AddsMoments (first : MachineState) (events : List Event) (before : List Moment) (now : Option (List Moment)) : Type 0 where
  pub added : List Moment
  pub moments : now ≡ Some (added ++ before)
  pub each : All (LeavesOfOne first events) added

-- The moments before and after a replay of these bytes over the state, of a disk that tells them and is settled before: those that it adds
-- come in the events that the bytes spell.
unfoldable pub StopsInEvents : MachineState → List ℕ → Option (List Moment) → Option (List Moment) → Type 0
StopsInEvents first bytes before now =
    (events : List Event) (ending : Ending) → IsTrace record_limit bytes events ending
    → IfSome before (λ moments. IsFlushedAs first.image moments → AddsMoments first events moments now)
