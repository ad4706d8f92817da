-- The outcome of a check, which is the image's line and a status; and the outcome of a replay: what is
-- printed, the status, what the device holds, and how much of the trace is taken. A replay prints its lines
-- as text or as JSON, which changes nothing else. It says the machine's steps
-- one after the other, up to the first event that passes the end.
use Rattle.std.specs.Prelude.{ℕ, ◌+◌, Bool, true, false, ◌==◌, nat_lt, List, [], ◌∷◌, ◌++◌, length, Option, Some, None, option_map, if◌then◌else◌}
use Rattle.verdict.specs.declared.machine.Event.{Event}
use Rattle.verdict.specs.declared.machine.Event.TheVariants.{Write, Settle, Fetch}
use Rattle.verdict.specs.declared.machine.Answer.{Answer}
use Rattle.verdict.specs.declared.machine.Answer.TheVariants.{Held, Fetched, Passed, Rejected}
use Rattle.records.specs.FullCheck.{full_check}
use Rattle.verdict.specs.declared.finding.Verdict.{Verdict}
use Rattle.verdict.specs.declared.finding.Verdict.TheVariants.{Accept, Found}
use Rattle.verdict.specs.Events.{end_of, begin_of, length_of}
use Rattle.recon_core.specs.Machine.{MachineState, first_state, machine_step}
use Rattle.trace_reader.specs.Fault.{fault_number}
use Rattle.trace_reader.specs.Trace.{spelling_of, Ending, End, Fault}
use Rattle.report.specs.Lines.{text_line}
use Rattle.report.specs.Json.{json_line}
use Rattle.report.specs.declared.line.Line.{Line}
use Rattle.report.specs.declared.line.Line.TheVariants.{Image, Refused, Passed as passed_line, Rejected as rejected_line, Fetched as fetched_line, End as end_line, BadTrace, Past}
use Rattle.recon_cli.specs.declared.lines.Style.{Style}
use Rattle.recon_cli.specs.declared.lines.Style.TheVariants.{Text, Json}
use Rattle.recon_cli.specs.declared.counts.Counts.{Counts}

-- a line as it is printed, as text or as JSON
abbrev pub line_in : Style → Line → List ℕ
line_in Text line = text_line line
line_in Json line = json_line line

-- the line of what the full check says of an image
abbrev pub verdict_text : Verdict → List ℕ
verdict_text (Accept generation) = text_line (Image generation)
verdict_text (Found finding) = text_line (Refused finding)

-- the status of a check: 0 where the image is accepted, 1 where it has a finding
abbrev pub verdict_status : Verdict → ℕ
verdict_status (Accept generation) = 0
verdict_status (Found finding) = 1

-- how a replay comes out: the text that is printed, the status, the bytes of the device, and how many
-- bytes of the trace are taken, where that is said
pub record Outcome : Type 0 where
  pub text : List ℕ
  pub status : ℕ
  pub device : List ℕ
  pub taken : Option ℕ

-- an outcome with this text printed and so many bytes taken before
abbrev pub after_text : List ℕ → ℕ → Outcome → Outcome
after_text text taken o = record {
  text = text ++ o.text;
  status = o.status;
  device = o.device;
  taken = option_map (λ n. taken + n) o.taken;
}

-- whether a judged event is a settle
abbrev pub is_settle : Event → Bool
is_settle (Write submitter at bytes) = false
is_settle Settle = true
is_settle (Fetch at len) = false

-- how many events were judged, and were let through or rejected, after an answer
abbrev pub counts_after : Counts → Answer → Counts
counts_after t Held = t
counts_after t (Fetched bytes) = t
counts_after t (Passed generation blocks hot) =
    record { passed = t.passed + 1; rejected = t.rejected }
counts_after t (Rejected finding) = record { passed = t.passed; rejected = t.rejected + 1 }

-- the line of an answer to an event that begins at a byte and may be a settle; a write that waits has
-- none. Judged events are numbered from 1.
abbrev pub answer_text : Style → Counts → ℕ → Bool → Answer → List ℕ
answer_text style t at settle Held = []
answer_text style t at settle (Fetched bytes) = line_in style (fetched_line at bytes)
answer_text style t at settle (Passed generation blocks hot) =
    line_in style (passed_line settle (t.passed + t.rejected + 1) generation blocks hot)
answer_text style t at settle (Rejected finding) =
    line_in style (rejected_line settle (t.passed + t.rejected + 1) finding)

-- the outcome at the end of the trace: the summary, or the line of the trace's fault
abbrev pub ended : Style → MachineState → Counts → Ending → Outcome
ended style s t End = record {
  text = line_in style (end_line t.passed t.rejected);
  status = if t.rejected == 0 then 0 else 1;
  device = s.image;
  taken = Some 1;
}
ended style s t (Fault fault place) = record {
  text = line_in style (BadTrace (fault_number fault) place);
  status = 3;
  device = s.image;
  taken = None;
}

-- the outcome at an event that passes the end of the device, which is the record of this number
abbrev pub past_end : Style → MachineState → ℕ → Event → Outcome
past_end style s place event = record {
  text = line_in style (Past place (begin_of event) (length_of event) (length s.image));
  status = 3;
  device = s.image;
  taken = Some (length (spelling_of event));
}

-- The outcome from a state on, after so many records, for the events that follow and the ending of the
-- trace. The events are taken in order, up to the first that passes the end of the device.
abbrev pub outcome_from : Style → MachineState → ℕ → Counts → List Event → Ending → Outcome
outcome_from style s k t [] ending = ended style s t ending
outcome_from style s k t (event ∷ events) ending =
    if nat_lt (length s.image) (end_of event) then past_end style s (k + 1) event
    else after_text
    (answer_text style t (begin_of event) (is_settle event) (machine_step s event).answer)
    (length (spelling_of event))
    (outcome_from style (machine_step s event).after (k + 1)
    (counts_after t (machine_step s event).answer) events ending)

-- no event was judged yet
abbrev pub no_counts : Counts
no_counts = record { passed = 0; rejected = 0 }

-- the outcome of a replay over an image that the full check accepts or not
abbrev pub replay_by : Style → Verdict → List ℕ → List Event → Ending → Outcome
replay_by style (Found finding) image events ending = record {
  text = line_in style (Refused finding);
  status = 1;
  device = image;
  taken = Some 0;
}
replay_by style (Accept generation) image events ending =
    after_text (line_in style (Image generation)) 16
    (outcome_from style (first_state image) 0 no_counts events ending)

-- the outcome of a replay of a trace, of these events and this ending, over an image
abbrev pub replay_outcome : Style → List ℕ → List Event → Ending → Outcome
replay_outcome style image events ending = replay_by style (full_check image) image events ending
