-- Where a stop in an event leaves an accepted image.
use Rattle.std.specs.Prelude.{ℕ, ◌≡◌, ◌≤◌, List, length}
use Rattle.verdict.specs.Events.{end_of}
use Rattle.verdict.specs.declared.machine.Event.{Event}
use Rattle.verdict.specs.declared.machine.Event.TheVariants.{Write, Settle, Fetch}
use Rattle.write_cache.specs.Cache.{cache_of}
use Rattle.commit_judge.specs.Counts.{hot_between}
use Rattle.recon_core.specs.Machine.{MachineState, with_pending}
use Rattle.recon_core.specs.Standing.{IsAccepted, IsMachineState}
use Rattle.recon_core.specs.Stops.{IsStopImage}

-- how many live blocks of the state's image an event writes over or moves, with all that is judged in it
abbrev pub hot_at : MachineState → Event → ℕ
hot_at s (Write submitter at bytes) = hot_between s.image (cache_of (with_pending s (record { at = at; bytes = bytes })).pending)
hot_at s Settle = hot_between s.image (cache_of s.pending)
hot_at s (Fetch at len) = 0

-- Where there is none, the full check accepts each stop image of an event that lies inside the image.
abbrev pub StopsAreSafe : Type 0
StopsAreSafe = (s : MachineState) (event : Event) (left : List ℕ) → IsMachineState s → end_of event ≤ length s.image
    → hot_at s event ≡ 0 → IsStopImage s event left → IsAccepted left
