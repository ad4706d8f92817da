-- What a run of the program says of the objects that it is handed.
use Rattle.std.specs.Prelude.{ℕ, ◌≡◌, ◌==◌, ◌-◌, ◌^◌, ◌<◌, ◌⊎◌, true, List, [], ◌++◌, drop, map, Option, Some, IfSome, option_map, Result, Ok, Err}
use Rattle.recon_disk.specs.declared.disk.Disk.{Ghosts as DiskGhosts}
use Rattle.recon_disk.specs.declared.source.Source.{Ghosts as SourceGhosts}
use Rattle.recon_disk.specs.declared.sink.Sink.{Ghosts as SinkGhosts}
use Rattle.recon_disk.specs.Keeping.{IsCounted}
use Rattle.records.specs.FullCheck.{full_check}
use Rattle.verdict.specs.declared.machine.Event.{Event}
use Rattle.recon_core.specs.Machine.{MachineState}
use Rattle.recon_cli.specs.declared.lines.Style.{Style}
use Rattle.recon_cli.specs.Outcome.{Outcome, after_text, no_counts, line_in, outcome_from, replay_outcome, verdict_status, verdict_text}
use Rattle.report.specs.declared.line.Line.{Line}
use Rattle.trace_reader.specs.Trace.{Ending, IsTrace}
use Rattle.trace_reader.specs.declared.fault.TraceFault.{TraceFault}
use Rattle.trace_reader.specs.declared.fault.TraceFault.TheVariants.{ReadFault, NoMemory}
use Rattle.recon_cli.specs.declared.outside.Outside.{Outside}
use Rattle.recon_cli.specs.declared.run_fault.RunFault.{RunFault}
use Rattle.recon_cli.specs.declared.run_fault.RunFault.TheVariants.{Device, Trace, Lines, Memory}

-- The check of an image: the sink has gained exactly the line of what the full check says, the status is
-- that of what it says, and the disk holds the image.
pub record ChecksAs (image kept : List ℕ) (status : ℕ) (disk sink : Option (List ℕ))
    : Type 0 where
  pub text : sink ≡ Some (kept ++ verdict_text (full_check image))
  pub status_is : status ≡ verdict_status (full_check image)
  pub device : disk ≡ Some image

-- the statuses of a check that came to its line, and of one that did not: 4 a call of the disk, 6 a write
-- of the line, 7 memory
abbrev pub IsCheckStatus : ℕ → Type 0
IsCheckStatus status =
    (status ≡ 0) ⊎ (status ≡ 1) ⊎ (status ≡ 4) ⊎ (status ≡ 6) ⊎ (status ≡ 7)

-- the most records that a trace may have before its end tag
abbrev pub record_limit : ℕ
record_limit = 4294967296

-- The sink has gained exactly the outcome's text, the status is the outcome's, the disk holds exactly its
-- device, and the source was taken exactly as far as the outcome says.
pub record ComesOut (o : Outcome) (trace kept : List ℕ) (status : ℕ)
    (disk left sink : Option (List ℕ)) : Type 0 where
  pub text : sink ≡ Some (kept ++ o.text)
  pub status_is : status ≡ o.status
  pub device : disk ≡ Some o.device
  pub taken : IfSome o.taken (λ n. left ≡ Some (drop n trace))

-- the counts of faults of the disk, the source and the sink
pub record Faults : Type 0 where
  pub disk : ℕ
  pub source : ℕ
  pub sink : ℕ

abbrev pub faults_are : ℕ → ℕ → ℕ → Faults
faults_are disk source sink = record { disk = disk; source = source; sink = sink }

-- the counts of faults of these three objects
abbrev pub faults_of : {D S K : Type 0} → DiskGhosts D → SourceGhosts S → SinkGhosts K
    → D → S → K → Faults
faults_of disks sources sinks disk trace out =
    faults_are (disks.faults disk) (sources.faults trace) (sinks.faults out)

-- the same of what a replay is lent
abbrev pub faults_lent : {D S K L : Type 0} → DiskGhosts D → SourceGhosts S → SinkGhosts K
    → Outside D S K L → Faults
faults_lent disks sources sinks lent =
    faults_of disks sources sinks lent.disk.now lent.trace.now lent.out.now

-- A run stops early for a fault of an object only where that object's count rose, and leaves the counts
-- of the others. With every other end it leaves all three.
abbrev pub HasFaultCause : {T : Type 0} → Faults → Faults → Result T RunFault → Type 0
HasFaultCause before now (Ok value) = now ≡ before
HasFaultCause before now (Err Device) =
    IsCounted true before.disk now.disk × (now.source ≡ before.source) × (now.sink ≡ before.sink)
HasFaultCause before now (Err Trace) =
    (now.disk ≡ before.disk) × IsCounted true before.source now.source × (now.sink ≡ before.sink)
HasFaultCause before now (Err Lines) =
    (now.disk ≡ before.disk) × (now.source ≡ before.source) × IsCounted true before.sink now.sink
HasFaultCause before now (Err Memory) = now ≡ before

-- the same disk, trace, place for lines and steps are lent still
pub record IsSameOutside {D S K L : Type 0} (old new : Outside D S K L) : Type 0 where
  pub disk : new.disk.ghost_name ≡ old.disk.ghost_name
  pub trace : new.trace.ghost_name ≡ old.trace.ghost_name
  pub out : new.out.ghost_name ≡ old.out.ghost_name
  pub steps : new.steps.ghost_name ≡ old.steps.ghost_name

-- no count of faults rose, and none stands at its greatest value
pub record HadNoFault (before now : Faults) : Type 0 where
  pub same : now ≡ before
  pub disk_below : before.disk < 2 ^ 64 - 1
  pub source_below : before.source < 2 ^ 64 - 1
  pub sink_below : before.sink < 2 ^ 64 - 1

-- the same by the status of the run
pub record HasStatusCause (before now : Faults) (status : ℕ) : Type 0 where
  pub disk : IsCounted (status == 4) before.disk now.disk
  pub source : IsCounted (status == 5) before.source now.source
  pub sink : IsCounted (status == 6) before.sink now.sink

-- a status that an outcome may have
abbrev pub IsOutcomeStatus : ℕ → Type 0
IsOutcomeStatus status = (status ≡ 0) ⊎ (status ≡ 1) ⊎ (status ≡ 3)

-- a line is not printed for a fault of the sink only where the sink's count rose
abbrev pub HasPrintCause : {T : Type 0} → ℕ → ℕ → Result T RunFault → Type 0
HasPrintCause before now (Ok value) = now ≡ before
HasPrintCause before now (Err Device) = ⊥
HasPrintCause before now (Err Trace) = ⊥
HasPrintCause before now (Err Lines) = IsCounted true before now
HasPrintCause before now (Err Memory) = now ≡ before

-- What a sink took since is whole lines, one a write, where it tells what each write gave it.
pub record TookLines {K : Type 0} (sinks : SinkGhosts K) (style : Style) (old new : K) : Type 0 where
  pub lines : List Line
  pub pieces : sinks.pieces new ≡ option_map (λ before. before ++ map (line_in style) lines) (sinks.pieces old)

-- the cause of what one event gives, by the counts of the disk and of the sink
abbrev pub HasTurnCause : {T : Type 0} → ℕ → ℕ → ℕ → ℕ → Result T RunFault → Type 0
HasTurnCause disk disk' sink sink' (Ok value) = (disk' ≡ disk) × (sink' ≡ sink)
HasTurnCause disk disk' sink sink' (Err Device) = IsCounted true disk disk' × (sink' ≡ sink)
HasTurnCause disk disk' sink sink' (Err Trace) = ⊥
HasTurnCause disk disk' sink sink' (Err Lines) = (disk' ≡ disk) × IsCounted true sink sink'
HasTurnCause disk disk' sink sink' (Err Memory) = (disk' ≡ disk) × (sink' ≡ sink)

-- the trace's bytes are at fault, and not a read of them or want of memory
abbrev pub IsOfBytes : TraceFault → Type 0
IsOfBytes ReadFault = ⊥
IsOfBytes NoMemory = ⊥
IsOfBytes fault = Unit {0}

-- the fault is no read that failed
abbrev pub IsNoRead : TraceFault → Type 0
IsNoRead ReadFault = ⊥
IsNoRead fault = Unit {0}

-- how the line of a fault is not printed: a read failed, or the sink's count rose, or memory was wanting
abbrev pub HasFaultPrintCause : {T : Type 0} → TraceFault → ℕ → ℕ → Result T RunFault → Type 0
HasFaultPrintCause fault before now (Ok value) = IsNoRead fault × (now ≡ before)
HasFaultPrintCause fault before now (Err Device) = ⊥
HasFaultPrintCause fault before now (Err Trace) = (fault ≡ ReadFault) × (now ≡ before)
HasFaultPrintCause fault before now (Err Lines) = IsNoRead fault × IsCounted true before now
HasFaultPrintCause fault before now (Err Memory) = IsNoRead fault × (now ≡ before)

-- A replay of these bytes over the state comes out as the outcome of the events that they spell, and of
-- their ending, says.
pub record Replays (style : Style) (first : MachineState) (bytes kept : List ℕ) (status : ℕ)
    (disk left sink : Option (List ℕ)) : Type 0 where
  pub events : List Event
  pub ending : Ending
  pub spelled : IsTrace record_limit bytes events ending
  pub comes : ComesOut (after_text [] 16 (outcome_from style first 0 no_counts events ending))
      bytes kept status disk left sink

-- the same as an outcome of a replay over the image, for the events and the ending that the bytes spell
abbrev pub ReplaysAs : Style → List ℕ → List ℕ → List ℕ → ℕ
    → Option (List ℕ) → Option (List ℕ) → Option (List ℕ) → Type 0
ReplaysAs style image bytes kept status disk left sink =
    (events : List Event) (ending : Ending) → IsTrace record_limit bytes events ending
    → ComesOut (replay_outcome style image events ending) bytes kept status disk left sink
