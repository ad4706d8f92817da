-- The order law: whatever follows, it decides nothing in which order writes were held whose ranges do not meet.
use Rattle.std.specs.Prelude.{ℕ, ◌≡◌, ◌<◌, ◌≤◌, List, [], ◌∷◌, IsTrue, IsPermutation}
use Rattle.std.specs.List.{All, AllPairs}
use Rattle.verdict.specs.Events.{begin_of, end_of}
use Rattle.verdict.specs.declared.machine.Event.{Event}
use Rattle.verdict.specs.declared.machine.Answer.{Answer}
use Rattle.recon_core.specs.Machine.{MachineState, machine_step}
use Rattle.recon_core.specs.Standing.{waits}

-- the state after these events, one after the other
abbrev pub state_after : MachineState → List Event → MachineState
state_after s [] = s
state_after s (e ∷ es) = state_after (machine_step s e).after es

-- an answer, and the image on the device after it
pub record Outcome : Type 0 where
  pub answer : Answer
  pub image : List ℕ

-- the outcome of each of these events, one after the other
abbrev pub outcomes_from : MachineState → List Event → List Outcome
outcomes_from s [] = []
outcomes_from s (e ∷ es) =
    record { answer = (machine_step s e).answer; image = (machine_step s e).after.image }
    ∷ outcomes_from (machine_step s e).after es

-- two states of one image which no list of events tells apart: each event has equal answers, and equal images after it
pub record AreAlike (s t : MachineState) : Type 0 where
  pub image : s.image ≡ t.image
  pub outcomes : (events : List Event) → outcomes_from s events ≡ outcomes_from t events

-- no byte lies in the ranges of both events
abbrev pub AreApart : Event → Event → Type 0
AreApart e f = (i : ℕ) → begin_of e ≤ i → i < end_of e → begin_of f ≤ i → i < end_of f → ⊥

-- Writes that wait, of any submitters, whose ranges do not meet, and the same writes in any other order: from any state
-- the runs of both leave states that are alike.
abbrev pub OrderDecidesNothing : Type 0
OrderDecidesNothing = (state : MachineState) (one other : List Event)
    → All (λ e. IsTrue (waits e)) one → AllPairs AreApart one → IsPermutation one other
    → AreAlike (state_after state one) (state_after state other)
