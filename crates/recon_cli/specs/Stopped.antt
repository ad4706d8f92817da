-- What a run leaves that stops early: of a replay how far the trace was taken, which lines were printed and what the device holds; of a
-- check its line.
use Rattle.std.specs.Prelude.{ℕ, ◌≡◌, ◌+◌, ◌≤◌, ◌⊎◌, nat_lt, List, [], ◌∷◌, ◌++◌, length, take, Option, Some, IsSomeAnd}
use Rattle.std.specs.Bool.{MatchBool}
use Rattle.verdict.specs.declared.machine.Event.{Event}
use Rattle.verdict.specs.declared.finding.Verdict.{Verdict}
use Rattle.verdict.specs.declared.finding.Verdict.TheVariants.{Accept, Found}
use Rattle.verdict.specs.Events.{end_of, begin_of}
use Rattle.records.specs.FullCheck.{full_check}
use Rattle.recon_core.specs.Machine.{MachineState, first_state, machine_step}
use Rattle.recon_core.specs.Stops.{IsStopImage}
use Rattle.trace_reader.specs.Trace.{Ending, IsTrace}
use Rattle.report.specs.declared.line.Line.TheVariants.{Image, Refused}
use Rattle.recon_cli.specs.declared.lines.Style.{Style}
use Rattle.recon_cli.specs.declared.counts.Counts.{Counts}
use Rattle.recon_cli.specs.declared.run_fault.RunFault.{RunFault}
use Rattle.recon_cli.specs.declared.run_fault.RunFault.TheVariants.{Device, Trace, Lines, Memory}
use Rattle.recon_cli.specs.Outcome.{answer_text, counts_after, ended, is_settle, line_in, no_counts, past_end, verdict_text}
use Rattle.recon_cli.specs.Run.{record_limit}

-- the state of the machine after these events
abbrev pub state_after : MachineState → List Event → MachineState
state_after s [] = s
state_after s (event ∷ events) = state_after (machine_step s event).after events

-- how many of them were judged
abbrev pub judged_in : MachineState → Counts → List Event → Counts
judged_in s t [] = t
judged_in s t (event ∷ events) = judged_in (machine_step s event).after (counts_after t (machine_step s event).answer) events

-- the lines of their answers
abbrev pub lines_of : Style → MachineState → Counts → List Event → List ℕ
lines_of style s t [] = []
lines_of style s t (event ∷ events) =
    answer_text style t (begin_of event) (is_settle event) (machine_step s event).answer
    ++ lines_of style (machine_step s event).after (counts_after t (machine_step s event).answer) events

-- the sink has this text behind what it had, and then a front of a line, which may be the whole line
abbrev pub HasFront : List ℕ → List ℕ → Option (List ℕ) → Type 0
HasFront text line sink = (n : ℕ) × (n ≤ length line) × (sink ≡ Some (text ++ take n line))

-- What was taken of a trace is a front of its bytes, in which the records of just these events are whole.
pub record HasTaken (trace : List ℕ) (left : Option (List ℕ)) (events : List Event) : Type 0 where
  pub taken : List ℕ
  pub rest : List ℕ
  pub parts : trace ≡ taken ++ rest
  pub left_is : left ≡ Some rest
  pub ending : Ending
  pub spelled : IsTrace record_limit taken events ending

-- the device holds the state's image after these events
abbrev pub HoldsAfter : MachineState → List Event → Option (List ℕ) → Type 0
HoldsAfter first events disk = disk ≡ Some (state_after first events).image

-- the line of the last of these events was not printed whole: that of its answer, or that it passes the end of the device
pub record StopsAtLine (style : Style) (first : MachineState) (trace kept : List ℕ) (disk left sink : Option (List ℕ)) : Type 0 where
  pub before : List Event
  pub event : Event
  pub taken : HasTaken trace left (before ++ event ∷ [])
  pub line : let s : MachineState = state_after first before in
      let t : Counts = judged_in first no_counts before in
      let text : List ℕ = kept ++ lines_of style first no_counts before in
      MatchBool (nat_lt (length s.image) (end_of event))
      (HoldsAfter first before disk × HasFront text (past_end style s (length before + 1) event).text sink)
      (HoldsAfter first (before ++ event ∷ []) disk
      × HasFront text (answer_text style t (begin_of event) (is_settle event) (machine_step s event).answer) sink)

-- the last line was not printed whole: the summary, or the line of the trace's fault. The events are all that the trace holds, and all
-- of them were taken.
pub record StopsAtLast (style : Style) (first : MachineState) (trace kept : List ℕ) (disk left sink : Option (List ℕ)) : Type 0 where
  pub events : List Event
  pub ending : Ending
  pub taken : HasTaken trace left events
  pub spelled : IsTrace record_limit trace events ending
  pub device : HoldsAfter first events disk
  pub line : HasFront (kept ++ lines_of style first no_counts events) (ended style (state_after first events) (judged_in first no_counts events) ending).text sink

-- an event was taken, and then a call of the device failed, or memory was out: the lines of those before it stand
pub record StopsInEvent (style : Style) (first : MachineState) (trace kept : List ℕ) (Left : List Event → Event → Type 0) (left sink : Option (List ℕ)) : Type 0 where
  pub before : List Event
  pub event : Event
  pub taken : HasTaken trace left (before ++ event ∷ [])
  pub lines : sink ≡ Some (kept ++ lines_of style first no_counts before)
  pub device : Left before event

-- no record more was taken whole: the lines of all events stand, and the device holds the image after them
pub record StopsBetween (style : Style) (first : MachineState) (trace kept : List ℕ) (disk left sink : Option (List ℕ)) : Type 0 where
  pub events : List Event
  pub taken : HasTaken trace left events
  pub lines : sink ≡ Some (kept ++ lines_of style first no_counts events)
  pub device : HoldsAfter first events disk

-- all that the trace holds was taken, and memory was out for the last line
pub record StopsBeforeLast (style : Style) (first : MachineState) (trace kept : List ℕ) (disk left sink : Option (List ℕ)) : Type 0 where
  pub events : List Event
  pub ending : Ending
  pub taken : HasTaken trace left events
  pub spelled : IsTrace record_limit trace events ending
  pub lines : sink ≡ Some (kept ++ lines_of style first no_counts events)
  pub device : HoldsAfter first events disk

-- What a replay leaves that stops behind the line of the accepted image, which is the last of what was kept. A call of the device that
-- failed leaves a stop image of the event. Out of memory, the event has its effect or has none, and no line.
abbrev pub StopsFrom : Style → MachineState → List ℕ → List ℕ → RunFault → Option (List ℕ) → Option (List ℕ) → Option (List ℕ) → Type 0
StopsFrom style first trace kept Device disk left sink =
    StopsInEvent style first trace kept (λ before event. IsSomeAnd disk (IsStopImage (state_after first before) event)) left sink
StopsFrom style first trace kept Trace disk left sink = StopsBetween style first trace kept disk left sink
StopsFrom style first trace kept Lines disk left sink =
    StopsAtLine style first trace kept disk left sink ⊎ StopsAtLast style first trace kept disk left sink
StopsFrom style first trace kept Memory disk left sink =
    StopsBetween style first trace kept disk left sink
    ⊎ StopsInEvent style first trace kept (λ before event. HoldsAfter first before disk ⊎ HoldsAfter first (before ++ event ∷ []) disk) left sink
    ⊎ StopsBeforeLast style first trace kept disk left sink

-- the line of an image that the full check accepts or not
abbrev pub image_line : Style → Verdict → List ℕ
image_line style (Accept generation) = line_in style (Image generation)
image_line style (Found finding) = line_in style (Refused finding)

-- What a run leaves that stops before the line of the image or at it: no line, or a front of that line.
abbrev pub HasNoLine : List ℕ → List ℕ → RunFault → Option (List ℕ) → Type 0
HasNoLine kept line Device sink = sink ≡ Some kept
HasNoLine kept line Trace sink = ⊥
HasNoLine kept line Lines sink = HasFront kept line sink
HasNoLine kept line Memory sink = sink ≡ Some kept

-- A replay that stops so has taken nothing of the trace, and the device holds its image.
pub record StopsFirst (style : Style) (image trace kept : List ℕ) (cause : RunFault) (disk left sink : Option (List ℕ)) : Type 0 where
  pub device : disk ≡ Some image
  pub left_is : left ≡ Some trace
  pub line : HasNoLine kept (image_line style (full_check image)) cause sink

-- a replay that stops behind that line
pub record StopsLater (style : Style) (image trace kept : List ℕ) (cause : RunFault) (disk left sink : Option (List ℕ)) : Type 0 where
  pub generation : ℕ
  pub accepted : full_check image ≡ Accept generation
  pub stops : StopsFrom style (first_state image) trace (kept ++ line_in style (Image generation)) cause disk left sink

-- What a replay over an image leaves that stops early, by what it stops for: a call of the device, a read of the trace or a write of a line
-- that failed, or memory that was out.
abbrev pub StopsAs : Style → List ℕ → List ℕ → List ℕ → RunFault → Option (List ℕ) → Option (List ℕ) → Option (List ℕ) → Type 0
StopsAs style image trace kept cause disk left sink =
    StopsFirst style image trace kept cause disk left sink ⊎ StopsLater style image trace kept cause disk left sink

-- What a check leaves that stops early: the image, and no line, or a front of its line.
pub record CheckStops (image kept : List ℕ) (cause : RunFault) (disk sink : Option (List ℕ)) : Type 0 where
  pub device : disk ≡ Some image
  pub line : HasNoLine kept (verdict_text (full_check image)) cause sink
