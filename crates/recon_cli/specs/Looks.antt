-- How often a replay looks into the index.
use Rattle.std.specs.Prelude.{ℕ, ◌+◌, ◌*◌, ◌≤◌, List, [], ◌∷◌}
use Rattle.verdict.specs.declared.machine.Event.{Event}
use Rattle.lookup_bounds.specs.Work.{starting_work}
use Rattle.recon_core.specs.Looks.{work_at}
use Rattle.recon_core.specs.Machine.{MachineState, first_state, machine_step}
use Rattle.trace_reader.specs.Trace.{Ending, IsTrace}
use Rattle.recon_cli.specs.Run.{record_limit}

-- the work of these events, one after the other
abbrev pub works_from : MachineState → List Event → ℕ
works_from s [] = 0
works_from s (event ∷ events) = work_at s event + works_from (machine_step s event).after events

-- the looks before and after a replay of these bytes over the state: at most 64 for each unit of the work of the events that they spell
abbrev pub LooksEvents : MachineState → List ℕ → ℕ → ℕ → Type 0
LooksEvents first bytes before after =
    (events : List Event) (ending : Ending) → IsTrace record_limit bytes events ending → after ≤ before + 64 * works_from first events

-- the same of a replay over an image, from which the index is made first: at most 64 for each unit of the work of that
abbrev pub LooksAtMost : List ℕ → List ℕ → ℕ → ℕ → Type 0
LooksAtMost image bytes before after =
    (events : List Event) (ending : Ending) → IsTrace record_limit bytes events ending
    → after ≤ before + 64 * starting_work image + 64 * works_from (first_state image) events
