-- What private functions say of a run that stops early: a line that was not printed, and an event at which a replay stops.
use Rattle.std.specs.Prelude.{ℕ, ◌≡◌, ◌⊎◌, nat_lt, List, length, Option, Some, IsSomeAnd}
use Rattle.std.specs.Bool.{MatchBool}
use Rattle.verdict.specs.declared.machine.Event.{Event}
use Rattle.verdict.specs.Events.{end_of, begin_of}
use Rattle.recon_disk.specs.Outside.{MayBeAppended}
use Rattle.recon_core.specs.Machine.{MachineState, machine_step}
use Rattle.recon_core.specs.Stops.{IsStopImage}
use Rattle.trace_reader.specs.declared.fault.TraceFault.{TraceFault}
use Rattle.trace_reader.specs.declared.fault.TraceFault.TheVariants.{ReadFault, NoMemory}
use Rattle.recon_cli.specs.declared.lines.Style.{Style}
use Rattle.recon_cli.specs.declared.counts.Counts.{Counts}
use Rattle.recon_cli.specs.declared.run_fault.RunFault.{RunFault}
use Rattle.recon_cli.specs.declared.run_fault.RunFault.TheVariants.{Device, Trace, Lines, Memory}
use Rattle.recon_cli.specs.Outcome.{answer_text, is_settle, past_end}
use Rattle.recon_cli.specs.Stopped.{HasFront}

-- what a sink has where a line was not printed: a front of it, or nothing of it where memory was out
abbrev pub IsCutPrint : Option (List ℕ) → List ℕ → RunFault → Option (List ℕ) → Type 0
IsCutPrint before line Device after = ⊥
IsCutPrint before line Trace after = ⊥
IsCutPrint before line Lines after = MayBeAppended before line after
IsCutPrint before line Memory after = after ≡ before

-- how the line of a trace's fault is not printed: the read of the trace failed, memory was out for its record, or the line was cut
abbrev pub FaultStops : TraceFault → Option (List ℕ) → List ℕ → RunFault → Option (List ℕ) → Type 0
FaultStops ReadFault before line cause after = (cause ≡ Trace) × (after ≡ before)
FaultStops NoMemory before line cause after = (cause ≡ Memory) × (after ≡ before)
FaultStops fault before line cause after = IsCutPrint before line cause after

-- what an event leaves at which a replay stops
abbrev pub TurnStops : Style → MachineState → ℕ → Counts → Event → List ℕ → RunFault → Option (List ℕ) → Option (List ℕ) → Type 0
TurnStops style s place t event kept Device disk sink = IsSomeAnd disk (IsStopImage s event) × (sink ≡ Some kept)
TurnStops style s place t event kept Trace disk sink = ⊥
TurnStops style s place t event kept Lines disk sink =
    MatchBool (nat_lt (length s.image) (end_of event))
    ((disk ≡ Some s.image) × HasFront kept (past_end style s place event).text sink)
    ((disk ≡ Some (machine_step s event).after.image)
    × HasFront kept (answer_text style t (begin_of event) (is_settle event) (machine_step s event).answer) sink)
TurnStops style s place t event kept Memory disk sink =
    (sink ≡ Some kept) × ((disk ≡ Some s.image) ⊎ (disk ≡ Some (machine_step s event).after.image))
