-- How far a replay has come, event by event, and what it leaves where it stops.
use Rattle.std.proofs.Common.{◌≡◌, ℕ, zero, suc, ◌+◌, ◌≤◌, ◌⊎◌, inl, inr, Bool, true, false, cond, List, [], ◌∷◌, ◌++◌, length, take, drop, Option, Some, IfSome, Result, Ok, Err, IfErr, refl, sym, ap, ◌∙◌, arith, subst, append_assoc, append-nil, zero-add, length-append}
use Rattle.std.specs.Prelude.{nat_lt}
use Rattle.std.specs.Bool.{MatchBool}
use Rattle.std.specs.List.{All}
use Rattle.std.proofs.lemmas.List.Elements.{All-append}
use Rattle.verdict.specs.declared.machine.Event.{Event}
use Rattle.verdict.specs.Events.{end_of, begin_of}
use Rattle.recon_disk.specs.Outside.{MayBeAppended}
use Rattle.recon_core.specs.declared.checker.Checker.{Checker}
use Rattle.recon_core.specs.Machine.{MachineState, machine_step}
use Rattle.recon_core.specs.Standing.{StandsFor}
use Rattle.trace_reader.specs.declared.fault.TraceFault.{TraceFault}
use Rattle.trace_reader.specs.declared.fault.TraceFault.TheVariants.{BadHeader, BadTag, BadLength, Truncated, ReadFault, NoMemory, TooMany}
use Rattle.trace_reader.specs.declared.reader.Item.TheVariants.{Event as an_event, End as the_end}
use Rattle.trace_reader.specs.Reader.{ReaderState}
use Rattle.trace_reader.specs.Reading.{first_state as reader_start, after_event, MeetsEnding, TakesEvent, TakesEnd, TakesLess, TakesWith, Tells, front_of}
use Rattle.trace_reader.specs.Trace.{EndsAs, Ending, End, Fault, HeaderEnds, IsSpelled, IsTrace, header_bytes, spelling_of, spelling_of_all}
use Rattle.recon_cli.specs.declared.lines.Style.{Style}
use Rattle.recon_cli.specs.declared.counts.Counts.{Counts}
use Rattle.recon_cli.specs.declared.run_fault.RunFault.{RunFault}
use Rattle.recon_cli.specs.declared.run_fault.RunFault.TheVariants.{Device, Trace, Lines, Memory}
use Rattle.recon_cli.specs.Outcome.{answer_text, counts_after, ended, is_settle, no_counts, past_end}
use Rattle.recon_cli.specs.Run.{record_limit}
use Rattle.recon_cli.specs.Turns.{GoesOn, StepsOn}
use Rattle.recon_cli.specs.Stopped.{HasFront, HasTaken, HoldsAfter, StopsBetween, StopsFrom, judged_in, lines_of, state_after}
use Rattle.recon_cli.specs.Stopping.{FaultStops, IsCutPrint, TurnStops}
use Rattle.recon_cli.proofs.Going.{told_at}

-- one event more

pub state_more : (s : MachineState) (es : List Event) (e : Event) → state_after s (es ++ e ∷ []) ≡ (machine_step (state_after s es) e).after
state_more s [] e = refl
state_more s (x ∷ es) e = state_more (machine_step s x).after es e

pub judged_more : (s : MachineState) (t : Counts) (es : List Event) (e : Event) → judged_in s t (es ++ e ∷ []) ≡ counts_after (judged_in s t es) (machine_step (state_after s es) e).answer
judged_more s t [] e = refl
judged_more s t (x ∷ es) e = judged_more (machine_step s x).after (counts_after t (machine_step s x).answer) es e

lines_more : (w : Style) (s : MachineState) (t : Counts) (es : List Event) (e : Event)
    → lines_of w s t (es ++ e ∷ []) ≡ lines_of w s t es ++ answer_text w (judged_in s t es) (begin_of e) (is_settle e) (machine_step (state_after s es) e).answer
lines_more w s t [] e = append-nil (answer_text w t (begin_of e) (is_settle e) (machine_step s e).answer)
lines_more w s t (x ∷ es) e =
    let a : List ℕ = answer_text w t (begin_of x) (is_settle x) (machine_step s x).answer in
    let next : MachineState = (machine_step s x).after in
    let u : Counts = counts_after t (machine_step s x).answer in
    ap (λ more. a ++ more) (lines_more w next u es e)
    ∙ sym (append_assoc a (lines_of w next u es) (answer_text w (judged_in next u es) (begin_of e) (is_settle e) (machine_step (state_after next es) e).answer))

spelled_more : (es : List Event) (e : Event) → spelling_of_all (es ++ e ∷ []) ≡ spelling_of_all es ++ spelling_of e
spelled_more [] e = append-nil (spelling_of e)
spelled_more (x ∷ es) e =
    ap (λ more. spelling_of x ++ more) (spelled_more es e) ∙ sym (append_assoc (spelling_of x) (spelling_of_all es) (spelling_of e))

all_one : (P : Event → Type 0) (e : Event) → P e → All P (e ∷ [])
all_one P e p zero d low = p
all_one P e p (suc k) d low = absurd (omega (arith, low))

pub all_after : (es : List Event) (e : Event) → All IsSpelled es → IsSpelled e → All IsSpelled (es ++ e ∷ [])
all_after es e all one = All-append IsSpelled es (e ∷ []) all (all_one IsSpelled e one)

-- what was taken with so many whole records: nothing before the header is read
abbrev pub gone_of : Bool → List Event → List ℕ
gone_of true done = []
gone_of false done = header_bytes ++ spelling_of_all done

gone_by : (s p r : List ℕ) → (header_bytes ++ s) ++ (p ++ r) ≡ (header_bytes ++ (s ++ p)) ++ r
gone_by s p r =
    append_assoc header_bytes s (p ++ r) ∙ ap (λ x. header_bytes ++ x) (sym (append_assoc s p r)) ∙ sym (append_assoc header_bytes (s ++ p) r)

gone_first : (p r : List ℕ) → header_bytes ++ (p ++ r) ≡ (header_bytes ++ (p ++ [])) ++ r
gone_first p r = sym (append_assoc header_bytes p r) ∙ ap (λ x. (header_bytes ++ x) ++ r) (sym (append-nil p))

pub gone_more : (b : Bool) (done : List Event) (e : Event) (r : List ℕ) → (b ≡ true → done ≡ [])
    → gone_of b done ++ ((cond b header_bytes []) ++ (spelling_of e ++ r)) ≡ gone_of false (done ++ e ∷ []) ++ r
gone_more true done e r fresh =
    subst (λ d. header_bytes ++ (spelling_of e ++ r) ≡ gone_of false (d ++ e ∷ []) ++ r) (sym (fresh refl)) (gone_first (spelling_of e) r)
gone_more false done e r fresh =
    gone_by (spelling_of_all done) (spelling_of e) r ∙ ap (λ x. (header_bytes ++ x) ++ r) (sym (spelled_more done e))

-- how far a trace was taken: the events that were taken, the state and the counts after them, and what is left
pub record Took {L : Type 0} (first : MachineState) (bytes : List ℕ) (rs : ReaderState) (t : Counts) (checker : Checker L) (disk left : Option (List ℕ)) : Type 0 where
  pub done : List Event
  pub rest : List ℕ
  pub stands : StandsFor checker (state_after first done)
  pub image : HoldsAfter first done disk
  pub left_is : left ≡ Some rest
  pub counts : t ≡ judged_in first no_counts done
  pub parts : bytes ≡ gone_of rs.at_header done ++ rest
  pub lawful : All IsSpelled done
  pub size : length done ≡ rs.whole
  pub limit : rs.limit ≡ record_limit
  pub few : rs.whole ≤ rs.limit
  pub fresh : rs.at_header ≡ true → done ≡ []

-- how far a replay has come: what was taken, and the lines of it
pub record Far {L : Type 0} (w : Style) (first : MachineState) (bytes kept : List ℕ) (rs : ReaderState) (t : Counts) (checker : Checker L) (disk left sink : Option (List ℕ)) : Type 0 where
  pub took : Took first bytes rs t checker disk left
  pub printed : sink ≡ Some (kept ++ lines_of w first no_counts took.done)

pub none_spelled : All IsSpelled []
none_spelled k d low = absurd (omega (arith, low))

abbrev pub took_start : {L : Type 0} (first : MachineState) (bytes : List ℕ) (checker : Checker L) (disk left : Option (List ℕ)) → StandsFor checker first → disk ≡ Some first.image
    → left ≡ Some bytes → Took first bytes (reader_start record_limit) no_counts checker disk left
took_start first bytes checker disk left stands image left_is = record {
  done = [];
  rest = bytes;
  stands = stands;
  image = image;
  left_is = left_is;
  counts = refl;
  parts = refl;
  lawful = none_spelled;
  size = refl;
  limit = refl;
  few = omega arith;
  fresh = λ h. refl;
}

pub far_start : {L : Type 0} (w : Style) (first : MachineState) (bytes kept : List ℕ) (checker : Checker L) (disk left sink : Option (List ℕ)) → StandsFor checker first → disk ≡ Some first.image
    → left ≡ Some bytes → sink ≡ Some kept → Far w first bytes kept (reader_start record_limit) no_counts checker disk left sink
far_start w first bytes kept checker disk left sink stands image left_is printed = record {
  took = took_start first bytes checker disk left stands image left_is;
  printed = printed ∙ ap Some (sym (append-nil kept));
}

pub behind_header : false ≡ true → ⊥
behind_header h = cc

-- one event more was taken
abbrev pub took_event : {L : Type 0} (first : MachineState) (bytes : List ℕ) (rs new : ReaderState) (t t' : Counts) (checker checker' : Checker L) (disk disk' left left' : Option (List ℕ)) (e : Event)
    → (took : Took first bytes rs t checker disk left)
    → IfSome left (λ b. Tells rs b (Ok (an_event e)) new left')
    → StepsOn (state_after first took.done) t e checker' t' disk'
    → Took first bytes (after_event rs) t' checker' disk' left'
took_event first bytes rs new t t' checker checker' disk disk' left left' e took told step =
    let takes : TakesEvent rs took.rest e left' = told_at rs new left left' took.rest (Ok (an_event e)) took.left_is told in
    let s : MachineState = state_after first took.done in
    record {
      done = took.done ++ e ∷ [];
      rest = takes.rest;
      stands = subst (StandsFor checker') (sym (state_more first took.done e)) step.stands;
      image = step.image ∙ ap (λ k. Some k.image) (sym (state_more first took.done e));
      left_is = takes.left;
      counts = step.counts ∙ ap (λ u. counts_after u (machine_step s e).answer) took.counts ∙ sym (judged_more first no_counts took.done e);
      parts = took.parts ∙ ap (λ x. gone_of rs.at_header took.done ++ x) takes.taken ∙ gone_more rs.at_header took.done e takes.rest took.fresh;
      lawful = all_after took.done e took.lawful takes.lawful;
      size = length-append took.done (e ∷ []) ∙ ap (λ k. k + 1) took.size;
      limit = took.limit;
      few = omega (arith, takes.room);
      fresh = λ h. absurd (behind_header h);
    }

pub far_event : {L : Type 0} (w : Style) (first : MachineState) (bytes kept : List ℕ) (rs new : ReaderState) (t t' : Counts) (checker checker' : Checker L) (disk disk' left left' sink sink' : Option (List ℕ)) (e : Event)
    → (far : Far w first bytes kept rs t checker disk left sink)
    → IfSome left (λ b. Tells rs b (Ok (an_event e)) new left') → new ≡ after_event rs
    → GoesOn w (state_after first far.took.done) t e (kept ++ lines_of w first no_counts far.took.done) checker' t' disk' sink'
    → Far w first bytes kept new t' checker' disk' left' sink'
far_event w first bytes kept rs new t t' checker checker' disk disk' left left' sink sink' e far told is turn =
    let done : List Event = far.took.done in
    let s : MachineState = state_after first done in
    let words : List ℕ = answer_text w t (begin_of e) (is_settle e) (machine_step s e).answer in
    let same : words ≡ answer_text w (judged_in first no_counts done) (begin_of e) (is_settle e) (machine_step s e).answer =
    ap (λ u. answer_text w u (begin_of e) (is_settle e) (machine_step s e).answer) far.took.counts in
    subst (λ k. Far w first bytes kept k t' checker' disk' left' sink') (sym is) (record {
      took = took_event first bytes rs new t t' checker checker' disk disk' left left' e far.took told turn.step;
      printed = turn.printed ∙ ap Some (append_assoc kept (lines_of w first no_counts done) words
          ∙ ap (λ x. kept ++ x) (ap (λ x. lines_of w first no_counts done ++ x) same ∙ sym (lines_more w first no_counts done e)));
    })

-- what was taken in all, and how it ends

trace_by : (b : Bool) (limit whole : ℕ) (done : List Event) (piece : List ℕ) (ending : Ending) → (b ≡ true → done ≡ []) → length done ≡ whole → whole ≤ limit → All IsSpelled done
    → ((b ≡ true) × HeaderEnds piece ending) ⊎ ((left : List ℕ) × (piece ≡ (cond b header_bytes []) ++ left) × EndsAs limit whole left ending)
    → IsTrace limit (gone_of b done ++ piece) done ending
trace_by true limit whole done piece ending fresh size few lawful (inl h) = inl (h.1, fresh refl)
trace_by true limit whole done piece ending fresh size few lawful (inr h) =
    inr (
      ap (take 16) h.1,
      record {
        rest = h.0;
        spelled = subst (λ d. drop 16 piece ≡ spelling_of_all d ++ h.0) (sym (fresh refl)) (ap (drop 16) h.1);
        lawful = lawful;
        few = omega (arith, size, few);
        ends = subst (λ n. EndsAs limit n h.0 ending) (sym (zero-add (length done) ∙ size)) h.2;
      },
    )
trace_by false limit whole done piece ending fresh size few lawful (inl h) = absurd (let k : false ≡ true = h.0 in cc)
trace_by false limit whole done piece ending fresh size few lawful (inr h) =
    let e : (header_bytes ++ spelling_of_all done) ++ piece ≡ header_bytes ++ (spelling_of_all done ++ piece) = append_assoc header_bytes (spelling_of_all done) piece in
    inr (
      ap (take 16) e,
      record {
        rest = h.0;
        spelled = ap (drop 16) e ∙ ap (λ x. spelling_of_all done ++ x) h.1;
        lawful = lawful;
        few = omega (arith, size, few);
        ends = subst (λ n. EndsAs limit n h.0 ending) (sym (zero-add (length done) ∙ size)) h.2;
      },
    )

pub took_trace : {L : Type 0} (first : MachineState) (bytes : List ℕ) (rs : ReaderState) (t : Counts) (checker : Checker L) (disk left : Option (List ℕ)) (piece : List ℕ) (ending : Ending)
    → (took : Took first bytes rs t checker disk left) → MeetsEnding rs piece ending
    → IsTrace record_limit (gone_of rs.at_header took.done ++ piece) took.done ending
took_trace first bytes rs t checker disk left piece ending took ends =
    subst (λ l. IsTrace l (gone_of rs.at_header took.done ++ piece) took.done ending) took.limit
    (trace_by rs.at_header rs.limit rs.whole took.done piece ending took.fresh took.size took.few took.lawful ends)

-- all that the trace holds was taken
pub took_all : {L : Type 0} (first : MachineState) (bytes : List ℕ) (rs : ReaderState) (t : Counts) (checker : Checker L) (disk left : Option (List ℕ)) (ending : Ending)
    → (took : Took first bytes rs t checker disk left) → MeetsEnding rs took.rest ending → IsTrace record_limit bytes took.done ending
took_all first bytes rs t checker disk left ending took ends =
    subst (λ b. IsTrace record_limit b took.done ending) (sym took.parts) (took_trace first bytes rs t checker disk left took.rest ending took ends)

-- a read that failed, or memory that was out for a record
far_less : {L : Type 0} (w : Style) (first : MachineState) (bytes kept : List ℕ) (rs : ReaderState) (t : Counts) (checker : Checker L) (disk left left' sink : Option (List ℕ)) (k : ℕ)
    → (far : Far w first bytes kept rs t checker disk left sink) → TakesLess rs far.took.rest k left' → StopsBetween w first bytes kept disk left' sink
far_less w first bytes kept rs t checker disk left left' sink k far less = record {
  events = far.took.done;
  taken = record {
    taken = gone_of rs.at_header far.took.done ++ less.taken;
    rest = less.rest;
    parts = far.took.parts ∙ ap (λ x. gone_of rs.at_header far.took.done ++ x) less.parts ∙ sym (append_assoc (gone_of rs.at_header far.took.done) less.taken less.rest);
    left_is = less.left;
    ending = Fault Truncated k;
    spelled = took_trace first bytes rs t checker disk left less.taken (Fault Truncated k) far.took less.cut;
  };
  lines = far.printed;
  device = far.took.image;
}

-- no record more, and how the trace ends
far_ended : {L : Type 0} (w : Style) (first : MachineState) (bytes kept : List ℕ) (rs : ReaderState) (t : Counts) (checker : Checker L) (disk left left' sink : Option (List ℕ)) (ending : Ending)
    → (far : Far w first bytes kept rs t checker disk left sink) → TakesWith (λ b. MeetsEnding rs b ending) far.took.rest left' → HasTaken bytes left' far.took.done
far_ended w first bytes kept rs t checker disk left left' sink ending far takes = record {
  taken = gone_of rs.at_header far.took.done ++ takes.taken;
  rest = takes.rest;
  parts = far.took.parts ∙ ap (λ x. gone_of rs.at_header far.took.done ++ x) takes.parts ∙ sym (append_assoc (gone_of rs.at_header far.took.done) takes.taken takes.rest);
  left_is = takes.left;
  ending = ending;
  spelled = took_trace first bytes rs t checker disk left takes.taken ending far.took takes.of_taken;
}

-- one record more, whole
far_taken : {L : Type 0} (w : Style) (first : MachineState) (bytes kept : List ℕ) (rs : ReaderState) (t : Counts) (checker : Checker L) (disk left left' sink : Option (List ℕ)) (e : Event)
    → (far : Far w first bytes kept rs t checker disk left sink) → TakesEvent rs far.took.rest e left' → HasTaken bytes left' (far.took.done ++ e ∷ [])
far_taken w first bytes kept rs t checker disk left left' sink e far takes =
    let events : List Event = far.took.done ++ e ∷ [] in
    let size : length events ≡ rs.whole + 1 = length-append far.took.done (e ∷ []) ∙ ap (λ k. k + 1) far.took.size in
    let gone : List ℕ = gone_of false events in
    record {
      taken = gone ++ [];
      rest = takes.rest;
      parts = far.took.parts ∙ ap (λ x. gone_of rs.at_header far.took.done ++ x) takes.taken ∙ gone_more rs.at_header far.took.done e takes.rest far.took.fresh
          ∙ ap (λ x. x ++ takes.rest) (sym (append-nil gone));
      left_is = takes.left;
      ending = Fault Truncated (rs.whole + 1 + 1);
      spelled = subst (λ l. IsTrace l (gone ++ []) events (Fault Truncated (rs.whole + 1 + 1))) far.took.limit
          (trace_by false rs.limit (rs.whole + 1) events [] (Fault Truncated (rs.whole + 1 + 1)) (λ h. absurd (let k : false ≡ true = h in cc)) size (omega (arith, takes.room))
          (all_after far.took.done e far.took.lawful takes.lawful) (inr ([], refl, (refl, inl refl))));
    }

by_bool : (b : Bool) {A A' B B' : Type 0} → (A → A') → (B → B') → MatchBool b A B → MatchBool b A' B'
by_bool true f g h = f h
by_bool false f g h = g h

-- the replay stops in an event
turn_stops : (w : Style) (first : MachineState) (bytes kept : List ℕ) (done : List Event) (place : ℕ) (e : Event) (cause : RunFault) (disk left sink : Option (List ℕ)) → place ≡ length done + 1
    → HasTaken bytes left (done ++ e ∷ [])
    → TurnStops w (state_after first done) place (judged_in first no_counts done) e (kept ++ lines_of w first no_counts done) cause disk sink
    → StopsFrom w first bytes kept cause disk left sink
turn_stops w first bytes kept done place e Device disk left sink at taken stops = record { before = done; event = e; taken = taken; lines = stops.1; device = stops.0 }
turn_stops w first bytes kept done place e Trace disk left sink at taken stops = absurd stops
turn_stops w first bytes kept done place e Lines disk left sink at taken stops =
    let s : MachineState = state_after first done in
    inl (record {
      before = done;
      event = e;
      taken = taken;
      line = by_bool (nat_lt (length s.image) (end_of e))
          (λ h. (h.0, subst (λ n. HasFront (kept ++ lines_of w first no_counts done) (past_end w s n e).text sink) at h.1))
          (λ h. (h.0 ∙ ap (λ k. Some k.image) (sym (state_more first done e)), h.1)) stops;
    })
turn_stops w first bytes kept done place e Memory disk left sink at taken stops =
    inr (inl (record { before = done; event = e; taken = taken; lines = stops.0; device = left_by stops.1 }))
  where
    left_by : (disk ≡ Some (state_after first done).image) ⊎ (disk ≡ Some (machine_step (state_after first done) e).after.image)
        → HoldsAfter first done disk ⊎ HoldsAfter first (done ++ e ∷ []) disk
    left_by (inl h) = inl h
    left_by (inr h) = inr (h ∙ ap (λ k. Some k.image) (sym (state_more first done e)))

pub far_turn : {L : Type 0} (w : Style) (first : MachineState) (bytes kept : List ℕ) (rs new : ReaderState) (t : Counts) (checker : Checker L) (disk disk' left left' sink sink' : Option (List ℕ)) (place : ℕ) (e : Event) (cause : RunFault)
    → (far : Far w first bytes kept rs t checker disk left sink)
    → IfSome left (λ b. Tells rs b (Ok (an_event e)) new left') → place ≡ rs.whole + 1
    → TurnStops w (state_after first far.took.done) place t e (kept ++ lines_of w first no_counts far.took.done) cause disk' sink'
    → StopsFrom w first bytes kept cause disk' left' sink'
far_turn w first bytes kept rs new t checker disk disk' left left' sink sink' place e cause far told at stops =
    turn_stops w first bytes kept far.took.done place e cause disk' left' sink' (at ∙ ap (λ k. k + 1) (sym far.took.size))
    (far_taken w first bytes kept rs t checker disk left left' sink e far (told_at rs new left left' far.took.rest (Ok (an_event e)) far.took.left_is told))
    (subst (λ u. TurnStops w (state_after first far.took.done) place u e (kept ++ lines_of w first no_counts far.took.done) cause disk' sink') far.took.counts stops)

-- the last line was not printed
last_stops : (w : Style) (first : MachineState) (bytes kept : List ℕ) (done : List Event) (ending : Ending) (cause : RunFault) (disk left sink sink' : Option (List ℕ))
    → HasTaken bytes left done → IsTrace record_limit bytes done ending → HoldsAfter first done disk → sink ≡ Some (kept ++ lines_of w first no_counts done)
    → IsCutPrint sink (ended w (state_after first done) (judged_in first no_counts done) ending).text cause sink'
    → StopsFrom w first bytes kept cause disk left sink'
last_stops w first bytes kept done ending Device disk left sink sink' taken spelled device printed cut = absurd cut
last_stops w first bytes kept done ending Trace disk left sink sink' taken spelled device printed cut = absurd cut
last_stops w first bytes kept done ending Lines disk left sink sink' taken spelled device printed cut =
    inr (record {
      events = done;
      ending = ending;
      taken = taken;
      spelled = spelled;
      device = device;
      line = subst (λ o. MayBeAppended o (ended w (state_after first done) (judged_in first no_counts done) ending).text sink') printed cut;
    })
last_stops w first bytes kept done ending Memory disk left sink sink' taken spelled device printed cut =
    inr (inr (record { events = done; ending = ending; taken = taken; spelled = spelled; lines = cut ∙ printed; device = device }))

far_last : {L : Type 0} (w : Style) (first : MachineState) (bytes kept : List ℕ) (rs : ReaderState) (t : Counts) (checker : Checker L) (disk left left' sink sink' : Option (List ℕ)) (ending : Ending) (cause : RunFault)
    → (far : Far w first bytes kept rs t checker disk left sink) → TakesWith (λ b. MeetsEnding rs b ending) far.took.rest left'
    → IsCutPrint sink (ended w (state_after first far.took.done) t ending).text cause sink'
    → StopsFrom w first bytes kept cause disk left' sink'
far_last w first bytes kept rs t checker disk left left' sink sink' ending cause far takes cut =
    last_stops w first bytes kept far.took.done ending cause disk left' sink sink'
    (far_ended w first bytes kept rs t checker disk left left' sink ending far takes)
    (took_all first bytes rs t checker disk left ending far.took takes.of_all)
    far.took.image far.printed (subst (λ u. IsCutPrint sink (ended w (state_after first far.took.done) u ending).text cause sink') far.took.counts cut)

-- at the end tag
pub far_end : {L : Type 0} (w : Style) (first : MachineState) (bytes kept : List ℕ) (rs new : ReaderState) (t : Counts) (checker : Checker L) (disk left left' sink sink' : Option (List ℕ)) (cause : RunFault)
    → (far : Far w first bytes kept rs t checker disk left sink)
    → IfSome left (λ b. Tells rs b (Ok the_end) new left')
    → IsCutPrint sink (ended w (state_after first far.took.done) t End).text cause sink'
    → StopsFrom w first bytes kept cause disk left' sink'
far_end w first bytes kept rs new t checker disk left left' sink sink' cause far told cut =
    let takes : TakesEnd rs far.took.rest left' = told_at rs new left left' far.took.rest (Ok the_end) far.took.left_is told in
    far_last w first bytes kept rs t checker disk left left' sink sink' End cause far (tag_taken takes) cut
  where
    tag_taken : TakesEnd rs far.took.rest left' → TakesWith (λ b. MeetsEnding rs b End) far.took.rest left'
    tag_taken takes = record {
      taken = front_of rs ++ 255 ∷ [];
      rest = takes.rest;
      parts = takes.taken ∙ sym (append_assoc (front_of rs) (255 ∷ []) takes.rest);
      left = takes.left;
      of_all = inr (255 ∷ takes.rest, takes.taken, refl);
      of_taken = inr (255 ∷ [], refl, refl);
    }

-- at a fault of the trace
pub far_fault : {L : Type 0} (w : Style) (first : MachineState) (bytes kept : List ℕ) (rs new : ReaderState) (t : Counts) (checker : Checker L) (disk left left' sink sink' : Option (List ℕ)) (place : ℕ) (f : TraceFault) (cause : RunFault)
    → (far : Far w first bytes kept rs t checker disk left sink)
    → IfSome left (λ b. Tells rs b (Err f) new left') → place ≡ new.number
    → FaultStops f sink (ended w (state_after first far.took.done) t (Fault f place)).text cause sink'
    → StopsFrom w first bytes kept cause disk left' sink'
far_fault w first bytes kept rs new t checker disk left left' sink sink' place f cause far told at stops = by f (told_at rs new left left' far.took.rest (Err f) far.took.left_is told) stops
  where
    between : (sink' ≡ sink) → TakesLess rs far.took.rest new.number left' → StopsBetween w first bytes kept disk left' sink'
    between same less = subst (StopsBetween w first bytes kept disk left') (sym same) (far_less w first bytes kept rs t checker disk left left' sink new.number far less)

    bytes_fault : (g : TraceFault) → TakesWith (λ b. MeetsEnding rs b (Fault g new.number)) far.took.rest left' → IsCutPrint sink (ended w (state_after first far.took.done) t (Fault g place)).text cause sink'
        → StopsFrom w first bytes kept cause disk left' sink'
    bytes_fault g said cut =
        far_last w first bytes kept rs t checker disk left left' sink sink' (Fault g place) cause far
        (subst (λ k. TakesWith (λ b. MeetsEnding rs b (Fault g k)) far.took.rest left') (sym at) said) cut

    by : (g : TraceFault) → Tells rs far.took.rest (Err g) new left' → FaultStops g sink (ended w (state_after first far.took.done) t (Fault g place)).text cause sink'
        → StopsFrom w first bytes kept cause disk left' sink'
    by BadHeader said h = bytes_fault BadHeader said h
    by BadTag said h = bytes_fault BadTag said h
    by BadLength said h = bytes_fault BadLength said h
    by Truncated said h = bytes_fault Truncated said h
    by TooMany said h = bytes_fault TooMany said h
    by ReadFault said h = subst (λ c. StopsFrom w first bytes kept c disk left' sink') (sym h.0) (between h.1 said)
    by NoMemory said h = subst (λ c. StopsFrom w first bytes kept c disk left' sink') (sym h.0) (inl (between h.1 said.0))

pub each_err : {T E : Type 0} {P Q : E → Type 0} (r : Result T E) → ((e : E) → P e → Q e) → IfErr r P → IfErr r Q
each_err (Ok x) f p = tt
each_err (Err e) f p = f e p
