-- What a stop at a moment in a replay may leave, event by event.
use Rattle.std.proofs.Common.{◌≡◌, ℕ, zero, suc, ◌+◌, ◌≤◌, ◌<◌, inl, inr, Bool, true, false, List, [], ◌∷◌, ◌++◌, length, take, drop, Option, Some, None, IfSome, Ok, if◌then◌else◌, refl, sym, ap, ◌∙◌, arith, subst, append_assoc, length-append}
use Rattle.std.specs.List.{All}
use Rattle.std.proofs.lemmas.List.Elements.{All-append, All-cons, All-drop, All-nil}
use Rattle.std.proofs.lemmas.List.{drop_at}
use Rattle.verdict.specs.Events.{meets_superblock}
use Rattle.verdict.specs.declared.finding.Verdict.{Verdict}
use Rattle.verdict.specs.declared.finding.Verdict.TheVariants.{Accept, Found}
use Rattle.verdict.specs.declared.machine.Answer.TheVariants.{Held, Passed}
use Rattle.verdict.specs.declared.machine.Event.{Event}
use Rattle.verdict.specs.declared.machine.Event.TheVariants.{Write, Settle, Fetch}
use Rattle.verdict.specs.declared.machine.HeldWrite.{HeldWrite}
use Rattle.verdict.specs.declared.machine.Stop.{Stop}
use Rattle.records.specs.FullCheck.{full_check}
use Rattle.recon_disk.specs.Stops.{Moment, MayRemain}
use Rattle.recon_core.specs.declared.checker.Checker.{Checker}
use Rattle.recon_core.specs.Machine.{MachineState, Step, answer_to, judged_image, machine_step, settle_step, with_pending}
use Rattle.recon_core.specs.Moments.{EachLeaves, IsAtRest, IsFlushedAs, LeavesAfter}
use Rattle.recon_core.specs.Safe.{hot_at}
use Rattle.recon_core.specs.Standing.{IsAccepted, StandsFor, refusal_of}
use Rattle.recon_core.specs.Stops.{IsStopImage}
use Rattle.trace_reader.specs.declared.reader.Item.TheVariants.{Event as an_event}
use Rattle.trace_reader.specs.Reader.{ReaderState}
use Rattle.trace_reader.specs.Reading.{first_state as reader_start, after_event, TakesEvent, Tells}
use Rattle.trace_reader.specs.Trace.{EndsAs, Ending, IsBytes, IsSpelled, IsTrace, header_bytes, spelling_of, spelling_of_all}
use Rattle.trace_reader.proofs.Records.{one, records_exist}
use Rattle.recon_cli.specs.declared.counts.Counts.{Counts}
use Rattle.recon_cli.specs.Moments.{AddsMoments, LeavesOfOne, StopsInEvents}
use Rattle.recon_cli.specs.Outcome.{no_counts}
use Rattle.recon_cli.specs.Run.{record_limit}
use Rattle.recon_cli.specs.Stopped.{state_after}
use Rattle.recon_cli.specs.Turns.{StepsOn, TurnAdds, TurnStopsIn}
use Rattle.recon_cli.proofs.Going.{told_at}
use Rattle.recon_cli.proofs.Reaching.{Took, all_after, gone_more, gone_of, state_more, took_event, took_start}

-- ---- one event

-- an answer whose line ends in `hot 0` counts no hot block
answered : (v : Verdict) (blocks hot generation n : ℕ) → answer_to v blocks hot ≡ Passed generation n 0 → hot ≡ 0
answered (Accept g) blocks hot generation n is = cc
answered (Found finding) blocks hot generation n is = absurd (cc)

abbrev held_step : MachineState → HeldWrite → Step
held_step s w = record { answer = Held; after = with_pending s w }

write_hot : (s : MachineState) (w : HeldWrite) (b : Bool) (generation n hot : ℕ)
    → ((v : Verdict) (blocks : ℕ) → answer_to v blocks hot ≡ Passed generation n 0 → hot ≡ 0)
    → (if b then settle_step (with_pending s w) else held_step s w).answer ≡ Passed generation n 0
    → hot ≡ hot_at (with_pending s w) Settle → hot ≡ 0
write_hot s w true generation n hot says is same = same ∙ answered (full_check (judged_image (with_pending s w))) _ _ generation n is
write_hot s w false generation n hot says is same = absurd (cc)

pub hot_none : (s : MachineState) (e : Event) (generation n : ℕ) → (machine_step s e).answer ≡ Passed generation n 0 → hot_at s e ≡ 0
hot_none s (Write submitter at bytes) generation n is =
    let w : HeldWrite = record { at = at; bytes = bytes } in
    write_hot s w (meets_superblock at (length bytes)) generation n (hot_at s (Write submitter at bytes))
    (λ v blocks h. answered v blocks (hot_at s (Write submitter at bytes)) generation n h) is refl
hot_none s Settle generation n is = answered (full_check (judged_image s)) _ _ generation n is
hot_none s (Fetch at len) generation n is = refl

each_accepted : (P : List ℕ → Type 0) (moments : List Moment) → ((left : List ℕ) → P left → IsAccepted left) → EachLeaves P moments → EachLeaves IsAccepted moments
each_accepted P [] safe each = tt
each_accepted P (moment ∷ older) safe each = (λ left may. safe left (each.0 left may), each_accepted P older safe each.1)

pub each_refusal : {P Q : Stop → Type 0} (o : Option Stop) → ((stop : Stop) → P stop → Q stop) → IfSome o P → IfSome o Q
each_refusal None f p = tt
each_refusal (Some stop) f p = f stop p

pub each_moments : {P Q : List Moment → Type 0} (o : Option (List Moment)) → ((moments : List Moment) → P moments → Q moments) → IfSome o P → IfSome o Q
each_moments None f p = tt
each_moments (Some moments) f p = f moments p

-- what an event adds; one that is refused adds nothing
pub turn_adds : {L : Type 0} (checker : Checker L) (s : MachineState) (e : Event) (refusal : Option Stop) (old now : Option (List Moment))
    → refusal_of checker e ≡ refusal → IfSome refusal (λ stop. now ≡ old)
    → (refusal_of checker e ≡ None → IfSome old (λ before. IsFlushedAs s.image before → LeavesAfter (IsStopImage s e) before now))
    → (refusal_of checker e ≡ None → hot_at s e ≡ 0 → (left : List ℕ) → IsStopImage s e left → IsAccepted left)
    → TurnStopsIn s e old now
turn_adds checker s e refusal None now is same stops safe = tt
turn_adds checker s e (Some stop) (Some before) now is same stops safe = λ flushed.
    record { added = []; moments = same; stops = tt; safe = λ generation n passed. tt }
turn_adds checker s e None (Some before) now is same stops safe = λ flushed.
    let leaves : LeavesAfter (IsStopImage s e) before now = stops is flushed in
    record {
      added = leaves.added;
      moments = leaves.moments;
      stops = leaves.each;
      safe = λ generation n passed. each_accepted (IsStopImage s e) leaves.added (safe is (hot_none s e generation n passed)) leaves.each;
    }

-- ---- the events of a trace

spelled_both : (es fs : List Event) → spelling_of_all (es ++ fs) ≡ spelling_of_all es ++ spelling_of_all fs
spelled_both [] fs = refl
spelled_both (e ∷ es) fs = ap (λ more. spelling_of e ++ more) (spelled_both es fs) ∙ sym (append_assoc (spelling_of e) (spelling_of_all es) (spelling_of_all fs))

-- the events of a trace begin with those that its front spells
front_events : (bytes rest : List ℕ) (done : List Event) → bytes ≡ gone_of false done ++ rest → All IsSpelled done → length done ≤ record_limit → IsBytes bytes
    → (events : List Event) (ending : Ending) → IsTrace record_limit bytes events ending → (more : List Event) × (events ≡ done ++ more)
front_events bytes rest done parts lawful few whole events ending spelled =
    let gone : List ℕ = gone_of false done in
    let left : IsBytes rest = subst IsBytes (drop_at gone rest (length gone) refl) (All-drop (λ b. b < 256) (length gone) (gone ++ rest) (subst IsBytes parts whole)) in
    let r = records_exist record_limit (length done) rest left few in
    let e : gone ++ rest ≡ header_bytes ++ (spelling_of_all done ++ rest) = append_assoc header_bytes (spelling_of_all done) rest in
    let size : length (done ++ r.0) ≡ length done + length r.0 = length-append done r.0 in
    let all : IsTrace record_limit bytes (done ++ r.0) r.1 = subst (λ b. IsTrace record_limit b (done ++ r.0) r.1) (sym parts)
    (inr (
      ap (take 16) e,
      record {
        rest = r.2.rest;
        spelled = ap (drop 16) e ∙ ap (λ x. spelling_of_all done ++ x) r.2.spelled ∙ sym (append_assoc (spelling_of_all done) (spelling_of_all r.0) r.2.rest)
            ∙ ap (λ x. x ++ r.2.rest) (sym (spelled_both done r.0));
        lawful = All-append IsSpelled done r.0 lawful r.2.lawful;
        few = omega (arith, size, r.2.few);
        ends = let n : length done + length r.0 ≡ 0 + length (done ++ r.0) = omega (arith, size) in subst (λ n. EndsAs record_limit n r.2.rest r.1) n r.2.ends;
      },
    )) in
    let only = one record_limit bytes whole in
    (r.0, (only.3 events ending spelled).0 ∙ sym (only.3 (done ++ r.0) r.1 all).0)

took_by : (b : Bool) (bytes rest : List ℕ) (done : List Event) → (b ≡ true → done ≡ []) → bytes ≡ gone_of b done ++ rest → All IsSpelled done → length done ≤ record_limit
    → IsBytes bytes → (events : List Event) (ending : Ending) → IsTrace record_limit bytes events ending → (more : List Event) × (events ≡ done ++ more)
took_by true bytes rest done fresh parts lawful few whole events ending spelled = (events, ap (λ d. d ++ events) (sym (fresh refl)))
took_by false bytes rest done fresh parts lawful few whole events ending spelled = front_events bytes rest done parts lawful few whole events ending spelled

-- with those that were taken
took_events : {L : Type 0} (first : MachineState) (bytes : List ℕ) (rs : ReaderState) (t : Counts) (checker : Checker L) (disk left : Option (List ℕ))
    → (took : Took first bytes rs t checker disk left) → IsBytes bytes → (events : List Event) (ending : Ending) → IsTrace record_limit bytes events ending
    → (more : List Event) × (events ≡ took.done ++ more)
took_events first bytes rs t checker disk left took whole events ending spelled =
    let size = took.size in
    let few = took.few in
    let limit = took.limit in
    took_by rs.at_header bytes took.rest took.done took.fresh took.parts took.lawful (omega arith) whole events ending spelled

-- and with one more
next_events : {L : Type 0} (first : MachineState) (bytes : List ℕ) (rs : ReaderState) (t : Counts) (checker : Checker L) (disk left left' : Option (List ℕ)) (e : Event)
    → (took : Took first bytes rs t checker disk left) → TakesEvent rs took.rest e left' → IsBytes bytes
    → (events : List Event) (ending : Ending) → IsTrace record_limit bytes events ending → (more : List Event) × (events ≡ (took.done ++ e ∷ []) ++ more)
next_events first bytes rs t checker disk left left' e took takes whole events ending spelled =
    let size : length (took.done ++ e ∷ []) ≡ length took.done + 1 = length-append took.done (e ∷ []) in
    let had = took.size in
    let limit = took.limit in
    let room = takes.room in
    front_events bytes takes.rest (took.done ++ e ∷ [])
    (took.parts ∙ ap (λ x. gone_of rs.at_header took.done ++ x) takes.taken ∙ gone_more rs.at_header took.done e takes.rest took.fresh)
    (all_after took.done e took.lawful takes.lawful) (omega arith) whole events ending spelled

-- ---- the moments of a replay

-- how far a trace was taken, the moments that came, and that the disk is settled
pub record LeftSoFar {L : Type 0} (first : MachineState) (bytes : List ℕ) (rs : ReaderState) (t : Counts) (checker : Checker L) (disk left : Option (List ℕ))
    (before : List Moment) (now : Option (List Moment)) : Type 0 where
  pub took : Took first bytes rs t checker disk left
  pub added : List Moment
  pub moments : now ≡ Some (added ++ before)
  pub each : All (LeavesOfOne first took.done) added
  pub rest : IsFlushedAs (state_after first took.done).image (added ++ before)

pub left_start : {L : Type 0} (first : MachineState) (bytes : List ℕ) (checker : Checker L) (disk left : Option (List ℕ)) (moments : Option (List Moment))
    → StandsFor checker first → disk ≡ Some first.image → left ≡ Some bytes
    → IfSome moments (λ before. IsFlushedAs first.image before → LeftSoFar first bytes (reader_start record_limit) no_counts checker disk left before moments)
left_start first bytes checker disk left None stands image left_is = tt
left_start first bytes checker disk left (Some before) stands image left_is = λ flushed. record {
  took = took_start first bytes checker disk left stands image left_is;
  added = [];
  moments = refl;
  each = All-nil (LeavesOfOne first []);
  rest = flushed;
}

-- the moments of the event at hand
of_event : (first : MachineState) (done : List Event) (e : Event) (moments : List Moment) → EachLeaves (IsStopImage (state_after first done) e) moments
    → ((generation n : ℕ) → (machine_step (state_after first done) e).answer ≡ Passed generation n 0 → EachLeaves IsAccepted moments)
    → All (LeavesOfOne first (done ++ e ∷ [])) moments
of_event first done e [] stops safe = All-nil (LeavesOfOne first (done ++ e ∷ []))
of_event first done e (moment ∷ older) stops safe =
    All-cons (LeavesOfOne first (done ++ e ∷ [])) moment older
    (record { before = done; event = e; behind = []; parts = refl; stops = stops.0; safe = λ generation n passed. (safe generation n passed).0 })
    (of_event first done e older stops.1 (λ generation n passed. (safe generation n passed).1))

-- with more events behind
wider : (first : MachineState) (events more : List Event) (moments : List Moment) → All (LeavesOfOne first events) moments → All (LeavesOfOne first (events ++ more)) moments
wider first events more moments each k moment low =
    let here = each k moment low in
    record {
      before = here.before;
      event = here.event;
      behind = here.behind ++ more;
      parts = ap (λ es. es ++ more) here.parts ∙ append_assoc here.before (here.event ∷ here.behind) more;
      stops = here.stops;
      safe = here.safe;
    }

-- what the event at hand adds
turn_now : (s : MachineState) (e : Event) (added before : List Moment) (now now' : Option (List Moment)) → now ≡ Some (added ++ before)
    → IsFlushedAs s.image (added ++ before) → TurnStopsIn s e now now' → TurnAdds s e (added ++ before) now'
turn_now s e added before now now' is rest turn =
    subst (λ o. IfSome o (λ moments. IsFlushedAs s.image moments → TurnAdds s e moments now')) is turn rest

rests : (disk disk' : Option (List ℕ)) (now now' : Option (List Moment)) (image image' : List ℕ) (moments moments' : List Moment)
    → disk ≡ Some image → now ≡ Some moments → disk' ≡ Some image' → now' ≡ Some moments'
    → (IsAtRest disk now → IsAtRest disk' now') → IsFlushedAs image moments → IsFlushedAs image' moments'
rests disk disk' now now' image image' moments moments' is are is' are' goes flushed =
    subst (λ o. IfSome o (IsFlushedAs image')) are'
    (subst (λ o. IfSome o (λ i. IfSome now' (IsFlushedAs i))) is'
    (goes (subst (λ o. IfSome o (λ i. IfSome now (IsFlushedAs i))) (sym is) (subst (λ o. IfSome o (IsFlushedAs image)) (sym are) flushed))))

pub left_event : {L : Type 0} (first : MachineState) (bytes : List ℕ) (rs new : ReaderState) (t t' : Counts) (checker checker' : Checker L) (disk disk' left left' : Option (List ℕ))
    (before : List Moment) (now now' : Option (List Moment)) (e : Event)
    → (so : LeftSoFar first bytes rs t checker disk left before now)
    → IfSome left (λ b. Tells rs b (Ok (an_event e)) new left') → new ≡ after_event rs
    → StepsOn (state_after first so.took.done) t e checker' t' disk'
    → TurnStopsIn (state_after first so.took.done) e now now' → (IsAtRest disk now → IsAtRest disk' now')
    → LeftSoFar first bytes new t' checker' disk' left' before now'
left_event first bytes rs new t t' checker checker' disk disk' left left' before now now' e so told is step turn goes =
    let done : List Event = so.took.done in
    let s : MachineState = state_after first done in
    let adds : TurnAdds s e (so.added ++ before) now' = turn_now s e so.added before now now' so.moments so.rest turn in
    let same : adds.added ++ (so.added ++ before) ≡ (adds.added ++ so.added) ++ before = sym (append_assoc adds.added so.added before) in
    let flushed : IsFlushedAs (machine_step s e).after.image (adds.added ++ (so.added ++ before)) =
    rests disk disk' now now' s.image (machine_step s e).after.image (so.added ++ before) (adds.added ++ (so.added ++ before)) so.took.image so.moments step.image adds.moments goes so.rest in
    subst (λ k. LeftSoFar first bytes k t' checker' disk' left' before now') (sym is) (record {
      took = took_event first bytes rs new t t' checker checker' disk disk' left left' e so.took told step;
      added = adds.added ++ so.added;
      moments = adds.moments ∙ ap Some same;
      each = All-append (LeavesOfOne first (done ++ e ∷ [])) adds.added so.added (of_event first done e adds.added adds.stops adds.safe) (wider first done (e ∷ []) so.added so.each);
      rest = subst (λ st. IsFlushedAs st.image ((adds.added ++ so.added) ++ before)) (sym (state_more first done e))
          (subst (IsFlushedAs (machine_step s e).after.image) same flushed);
    })

-- the moments that came in the events that were taken
pub adds_taken : {L : Type 0} (first : MachineState) (bytes : List ℕ) (rs : ReaderState) (t : Counts) (checker : Checker L) (disk left : Option (List ℕ)) (before now : Option (List Moment))
    → IfSome before (λ moments. IsFlushedAs first.image moments → LeftSoFar first bytes rs t checker disk left moments now)
    → IsBytes bytes → StopsInEvents first bytes before now
unfolding StopsInEvents
adds_taken first bytes rs t checker disk left before now so whole = λ events ending spelled. each_moments before (λ moments left_by flushed.
    let so = left_by flushed in
    let more = took_events first bytes rs t checker disk left so.took whole events ending spelled in
    record {
      added = so.added;
      moments = so.moments;
      each = subst (λ es. All (LeavesOfOne first es) so.added) (sym more.1) (wider first so.took.done more.0 so.added so.each);
    }) so

-- and in the one at hand, where the replay ends
pub adds_next : {L : Type 0} (first : MachineState) (bytes : List ℕ) (rs new : ReaderState) (t : Counts) (checker : Checker L) (disk left left' : Option (List ℕ))
    (before now now' : Option (List Moment)) (e : Event)
    → IfSome before (λ moments. IsFlushedAs first.image moments → LeftSoFar first bytes rs t checker disk left moments now)
    → IfSome left (λ b. Tells rs b (Ok (an_event e)) new left')
    → ((s : MachineState) → StandsFor checker s → disk ≡ Some s.image → TurnStopsIn s e now now')
    → IsBytes bytes → StopsInEvents first bytes before now'
unfolding StopsInEvents
adds_next first bytes rs new t checker disk left left' before now now' e so told turn whole = λ events ending spelled. each_moments before (λ moments left_by flushed.
    let so = left_by flushed in
    let done : List Event = so.took.done in
    let s : MachineState = state_after first done in
    let takes : TakesEvent rs so.took.rest e left' = told_at rs new left left' so.took.rest (Ok (an_event e)) so.took.left_is told in
    let adds : TurnAdds s e (so.added ++ moments) now' = turn_now s e so.added moments now now' so.moments so.rest (turn s so.took.stands so.took.image) in
    let more = next_events first bytes rs t checker disk left left' e so.took takes whole events ending spelled in
    record {
      added = adds.added ++ so.added;
      moments = adds.moments ∙ ap Some (sym (append_assoc adds.added so.added moments));
      each = subst (λ es. All (LeavesOfOne first es) (adds.added ++ so.added)) (sym more.1)
          (wider first (done ++ e ∷ []) more.0 (adds.added ++ so.added)
          (All-append (LeavesOfOne first (done ++ e ∷ [])) adds.added so.added (of_event first done e adds.added adds.stops adds.safe) (wider first done (e ∷ []) so.added so.each)));
    }) so

-- nothing came
pub adds_none : (first : MachineState) (bytes : List ℕ) (before now : Option (List Moment)) → now ≡ before → StopsInEvents first bytes before now
unfolding StopsInEvents
adds_none first bytes None now same = λ events ending spelled. tt
adds_none first bytes (Some moments) now same = λ events ending spelled flushed. record { added = []; moments = same; each = All-nil (LeavesOfOne first events) }
