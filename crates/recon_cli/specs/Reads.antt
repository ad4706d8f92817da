-- How often a replay reads the disk.
use Rattle.std.specs.Prelude.{ℕ, ◌≡◌, ◌+◌, ◌*◌, ◌≤◌, List, [], ◌∷◌, length, Ok}
use Rattle.verdict.specs.declared.machine.Event.{Event}
use Rattle.tree_laws.specs.LivePairs.{Walked, live_in, walked}
use Rattle.recon_core.specs.Machine.{MachineState, first_state, machine_step}
use Rattle.recon_core.specs.Reads.{reads_of}
use Rattle.trace_reader.specs.Trace.{Ending, IsTrace}
use Rattle.recon_cli.specs.Run.{record_limit}

-- the most reads of these events, one after the other, by their answers
abbrev pub reads_from : MachineState → List Event → ℕ
reads_from s [] = 0
reads_from s (event ∷ events) = reads_of (machine_step s event).answer + reads_from (machine_step s event).after events

-- the reads before and after a replay of these bytes over the state: at most those of the events that they spell
abbrev pub ReadsEvents : MachineState → List ℕ → ℕ → ℕ → Type 0
ReadsEvents first bytes before after =
    (events : List Event) (ending : Ending) → IsTrace record_limit bytes events ending → after ≤ before + reads_from first events

-- The same of a replay over an image, which is read first: its superblock once, and each block of its trees at most twice.
abbrev pub ReadsAtMost : List ℕ → List ℕ → ℕ → ℕ → Type 0
ReadsAtMost image bytes before after =
    (events : List Event) (ending : Ending) → IsTrace record_limit bytes events ending
    → (trees : Walked) → walked image ≡ Ok trees
    → after ≤ before + 1 + 2 * length (live_in trees.seen) + reads_from (first_state image) events
