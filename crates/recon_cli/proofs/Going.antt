-- How a replay goes on, record by record.
use Rattle.std.proofs.Common.{◌≡◌, ℕ, ◌+◌, ◌-◌, ◌^◌, ◌<◌, ◌≤◌, inl, inr, min, Bool, true, false, cond, List, [], ◌∷◌, ◌++◌, length, take, drop, get_or, Option, Some, None, IfSome, option_map, Result, Ok, Err, IfOk, OnOk, refl, sym, ap, ◌∙◌, arith, subst, append_assoc, append-nil, zero-add, add_assoc, length-append, rules}
use Rattle.std.specs.Prelude.{nat_lt}
use Rattle.std.specs.Bool.{MatchBool}
use Rattle.std.proofs.lemmas.List.{drop-drop, drop_at, get_or-append-add}
use Rattle.verdict.specs.declared.machine.Event.{Event}
use Rattle.recon_core.specs.declared.checker.Checker.{Checker}
use Rattle.verdict.specs.Events.{end_of, begin_of}
use Rattle.recon_core.specs.Machine.{MachineState, machine_step}
use Rattle.recon_core.specs.Standing.{StandsFor}
use Rattle.trace_reader.specs.declared.fault.TraceFault.{TraceFault}
use Rattle.trace_reader.specs.declared.fault.TraceFault.TheVariants.{BadHeader, BadTag, BadLength, Truncated, ReadFault, NoMemory, TooMany}
use Rattle.trace_reader.specs.declared.reader.Item.{Item}
use Rattle.trace_reader.specs.declared.reader.Item.TheVariants.{Event as an_event, End as the_end}
use Rattle.recon_disk.specs.Keeping.{IsCounted}
use Rattle.trace_reader.specs.Reader.{ReaderState}
use Rattle.trace_reader.specs.Reading.{HasReadCause, IsAfter, first_state as reader_start, front_of, after_event, TakesEvent, TakesEnd, MeetsEnding, Tells}
use Rattle.trace_reader.specs.Trace.{IsBytes, IsTrace, IsRecords, HeaderEnds, Ending, End, Fault, header_bytes, spelling_of}
use Rattle.trace_reader.proofs.Records.{records_end, records_more, records_exist}
use Rattle.recon_cli.specs.declared.run_fault.RunFault.{RunFault}
use Rattle.recon_cli.specs.declared.run_fault.RunFault.TheVariants.{Device, Trace, Lines, Memory}
use Rattle.recon_cli.specs.declared.lines.Style.{Style}
use Rattle.recon_cli.specs.declared.counts.Counts.{Counts}
use Rattle.recon_cli.specs.Outcome.{Outcome, after_text, answer_text, ended, is_settle, no_counts, outcome_from, past_end, counts_after}
use Rattle.recon_cli.specs.Run.{ComesOut, HasFaultPrintCause, HasFaultCause, faults_are, IsNoRead, IsOfBytes, IsOutcomeStatus, Replays, record_limit}
use Rattle.recon_cli.specs.Turns.{EndsPast, GoesOn}

-- the events and the ending of what is left at the reader
abbrev pub FromHere : ReaderState → List ℕ → List Event → Ending → Type 0
FromHere rs rest events ending = MatchBool rs.at_header (IsTrace rs.limit rest events ending) (IsRecords rs.limit rs.whole rest events ending)

-- what is left behind the header
abbrev pub behind : ReaderState → List ℕ → List ℕ
behind rs rest = cond rs.at_header (drop 16 rest) rest

-- how far a replay has come: the state, what is left, what was printed, how many bytes behind the header
-- are taken, and how it goes on
pub record Going {L : Type 0} (w : Style) (first : MachineState) (bytes kept : List ℕ) (rs : ReaderState) (t : Counts) (checker : Checker L) (disk left sink : Option (List ℕ)) : Type 0 where
  pub state : MachineState
  pub rest : List ℕ
  pub text : List ℕ
  pub n : ℕ
  pub stands : StandsFor checker state
  pub image : disk ≡ Some state.image
  pub left_is : left ≡ Some rest
  pub printed : sink ≡ Some (kept ++ text)
  pub lawful : IsBytes rest
  pub limit : rs.limit ≡ record_limit
  pub fresh : rs.at_header ≡ true → rs.whole ≡ 0
  pub few : rs.whole ≤ rs.limit
  pub gone : behind rs rest ≡ drop (16 + n) bytes
  pub goes_on : (events : List Event) (ending : Ending) → FromHere rs rest events ending
      → (all : List Event) × IsTrace record_limit bytes all ending × (outcome_from w first 0 no_counts all ending ≡ after_text text n (outcome_from w state rs.whole t events ending))

-- nothing printed and nothing taken before
taken_none : (o : Option ℕ) → option_map (λ n. 0 + n) o ≡ o
taken_none None = refl
taken_none (Some n) = ap Some (zero-add n)

after_none : (o : Outcome) → after_text [] 0 o ≡ o
after_none o = ap (λ k. record { text = o.text; status = o.status; device = o.device; taken = k }) (taken_none o.taken)

taken_twice : (m n : ℕ) (o : Option ℕ) → option_map (λ k. m + k) (option_map (λ k. n + k) o) ≡ option_map (λ k. m + n + k) o
taken_twice m n None = refl
taken_twice m n (Some k) = ap Some (sym (add_assoc m n k))

-- printed and taken before, twice
after_twice : (a b : List ℕ) (m n : ℕ) (o : Outcome) → after_text a m (after_text b n o) ≡ after_text (a ++ b) (m + n) o
after_twice a b m n o =
    ap (λ k. record { text = a ++ (b ++ o.text); status = o.status; device = o.device; taken = k }) (taken_twice m n o.taken)
    ∙ ap (λ x. record { text = x; status = o.status; device = o.device; taken = option_map (λ k. m + n + k) o.taken }) (sym (append_assoc a b o.text))

front_by : (b : Bool) (limit whole : ℕ) (rest after : List ℕ) (events : List Event) (ending : Ending) → (b ≡ true → whole ≡ 0) → rest ≡ (cond b header_bytes []) ++ after
    → IsRecords limit whole after events ending → MatchBool b (IsTrace limit rest events ending) (IsRecords limit whole rest events ending)
front_by true limit whole rest after events ending fresh parts more =
    inr (ap (take 16) parts, subst (λ r. IsRecords limit 0 r events ending) (sym (ap (drop 16) parts)) (subst (λ k. IsRecords limit k after events ending) (fresh refl) more))
front_by false limit whole rest after events ending fresh parts more = subst (λ r. IsRecords limit whole r events ending) (sym parts) more

behind_by : (b : Bool) (rest after : List ℕ) → rest ≡ (cond b header_bytes []) ++ after → cond b (drop 16 rest) rest ≡ after
behind_by true rest after parts = ap (drop 16) parts
behind_by false rest after parts = parts

-- the header stands in front where it is still to be read
in_front : (rs : ReaderState) (rest after : List ℕ) (events : List Event) (ending : Ending) → (rs.at_header ≡ true → rs.whole ≡ 0) → rest ≡ front_of rs ++ after
    → IsRecords rs.limit rs.whole after events ending → FromHere rs rest events ending
in_front rs rest after events ending fresh parts more = front_by rs.at_header rs.limit rs.whole rest after events ending fresh parts more

pub behind_is : (rs : ReaderState) (rest after : List ℕ) → rest ≡ front_of rs ++ after → behind rs rest ≡ after
behind_is rs rest after parts = behind_by rs.at_header rest after parts

-- the bytes behind a front are bytes
all_behind : (a b : List ℕ) → IsBytes (a ++ b) → IsBytes b
all_behind a b h k d low =
    let e : get_or (a ++ b) (length a + k) d ≡ get_or b k d = get_or-append-add a b k d in
    subst (λ x. x < 256) e (h (length a + k) d (omega (arith, length-append a b)))

lawful_rest : (rs : ReaderState) (rest : List ℕ) (front after : List ℕ) → IsBytes rest → rest ≡ front_of rs ++ (front ++ after) → IsBytes after
lawful_rest rs rest front after h parts =
    all_behind front after (all_behind (front_of rs) (front ++ after) (subst IsBytes parts h))

-- before the first record
pub going_start : {L : Type 0} (w : Style) (first : MachineState) (bytes kept : List ℕ) (checker : Checker L) (disk left sink : Option (List ℕ)) → StandsFor checker first → disk ≡ Some first.image
    → IsBytes bytes → left ≡ Some bytes → sink ≡ Some kept → Going w first bytes kept (reader_start record_limit) no_counts checker disk left sink
going_start w first bytes kept checker disk left sink stands image lawful left_is printed = record {
  state = first;
  rest = bytes;
  text = [];
  n = 0;
  stands = stands;
  image = image;
  left_is = left_is;
  printed = printed ∙ ap Some (sym (append-nil kept));
  lawful = lawful;
  limit = refl;
  fresh = λ h. refl;
  few = omega arith;
  gone = refl;
  goes_on = λ events ending here. (events, here, sym (after_none (outcome_from w first 0 no_counts events ending)));
}

-- an event that lies inside the image
outcome_inside : (w : Style) (s : MachineState) (k : ℕ) (t : Counts) (e : Event) (events : List Event) (ending : Ending) → nat_lt (length s.image) (end_of e) ≡ false
    → outcome_from w s k t (e ∷ events) ending ≡ after_text (answer_text w t (begin_of e) (is_settle e) (machine_step s e).answer) (length (spelling_of e))
    (outcome_from w (machine_step s e).after (k + 1) (counts_after t (machine_step s e).answer) events ending)
outcome_inside w s k t e events ending h =
    ap (λ b. cond b (past_end w s (k + 1) e) (after_text (answer_text w t (begin_of e) (is_settle e) (machine_step s e).answer) (length (spelling_of e))
    (outcome_from w (machine_step s e).after (k + 1) (counts_after t (machine_step s e).answer) events ending))) h

outcome_outside : (w : Style) (s : MachineState) (k : ℕ) (t : Counts) (e : Event) (events : List Event) (ending : Ending) → nat_lt (length s.image) (end_of e) ≡ true
    → outcome_from w s k t (e ∷ events) ending ≡ past_end w s (k + 1) e
outcome_outside w s k t e events ending h =
    ap (λ b. cond b (past_end w s (k + 1) e) (after_text (answer_text w t (begin_of e) (is_settle e) (machine_step s e).answer) (length (spelling_of e))
    (outcome_from w (machine_step s e).after (k + 1) (counts_after t (machine_step s e).answer) events ending))) h

-- what is told where the bytes are known
pub told_at : (rs new : ReaderState) (left after : Option (List ℕ)) (rest : List ℕ) (r : Result Item TraceFault) → left ≡ Some rest
    → IfSome left (λ b. Tells rs b r new after) → Tells rs rest r new after
told_at rs new left after rest r is told = subst (λ o. IfSome o (λ b. Tells rs b r new after)) is told

pub going_event : {L : Type 0} (w : Style) (first : MachineState) (bytes kept : List ℕ) (rs new : ReaderState) (t t' : Counts) (checker checker' : Checker L) (disk disk' left left' sink sink' : Option (List ℕ)) (e : Event)
    → (going : Going w first bytes kept rs t checker disk left sink)
    → IfSome left (λ b. Tells rs b (Ok (an_event e)) new left') → new ≡ after_event rs
    → GoesOn w going.state t e (kept ++ going.text) checker' t' disk' sink'
    → Going w first bytes kept new t' checker' disk' left' sink'
going_event w first bytes kept rs new t t' checker checker' disk disk' left left' sink sink' e going told is turn =
    let s : MachineState = going.state in
    let takes : TakesEvent rs going.rest e left' = told_at rs new left left' going.rest (Ok (an_event e)) going.left_is told in
    let words : List ℕ = answer_text w t (begin_of e) (is_settle e) (machine_step s e).answer in
    let size : ℕ = length (spelling_of e) in
    let front : behind rs going.rest ≡ spelling_of e ++ takes.rest = behind_is rs going.rest (spelling_of e ++ takes.rest) takes.taken in
    subst (λ k. Going w first bytes kept k t' checker' disk' left' sink') (sym is) (record {
      state = (machine_step s e).after;
      rest = takes.rest;
      text = going.text ++ words;
      n = going.n + size;
      stands = turn.step.stands;
      image = turn.step.image;
      left_is = takes.left;
      printed = turn.printed ∙ ap Some (append_assoc kept going.text words);
      lawful = lawful_rest rs going.rest (spelling_of e) takes.rest going.lawful takes.taken;
      limit = going.limit;
      fresh = λ h. absurd (let k : false ≡ true = h in cc);
      few = omega (arith, takes.room);
      gone = sym (drop_at (spelling_of e) takes.rest size refl) ∙ ap (drop size) (sym front ∙ going.gone) ∙ drop-drop size (16 + going.n) bytes
          ∙ ap (λ k. drop k bytes) (add_assoc 16 going.n size);
      goes_on = λ events ending here.
          let more : IsRecords rs.limit rs.whole (spelling_of e ++ takes.rest) (e ∷ events) ending =
          records_more rs.limit rs.whole e takes.rest events ending takes.lawful takes.room here in
          let all = going.goes_on (e ∷ events) ending (in_front rs going.rest (spelling_of e ++ takes.rest) (e ∷ events) ending going.fresh takes.taken more) in (
            all.0,
            all.1,
            all.2
                ∙ ap (after_text going.text going.n) (outcome_inside w s rs.whole t e events ending turn.step.inside)
                ∙ after_twice going.text words going.n size (outcome_from w (machine_step s e).after (rs.whole + 1) (counts_after t (machine_step s e).answer) events ending)
                ∙ ap (λ u. after_text (going.text ++ words) (going.n + size) (outcome_from w (machine_step s e).after (rs.whole + 1) u events ending)) (sym turn.step.counts),
          );
    })

taken_by : (n : ℕ) (o : Option ℕ) (bytes : List ℕ) (left : Option (List ℕ)) → IfSome o (λ k. left ≡ Some (drop (16 + n + k) bytes))
    → IfSome (option_map (λ k. 16 + k) (option_map (λ k. n + k) o)) (λ k. left ≡ Some (drop k bytes))
taken_by n None bytes left h = tt
taken_by n (Some k) bytes left h = h ∙ ap (λ j. Some (drop j bytes)) (add_assoc 16 n k)

header_here : (b : Bool) (limit whole : ℕ) (rest : List ℕ) (ending : Ending) → b ≡ true → HeaderEnds rest ending → MatchBool b (IsTrace limit rest [] ending) (IsRecords limit whole rest [] ending)
header_here true limit whole rest ending e h = inl (h, refl)
header_here false limit whole rest ending e h = absurd (let k : false ≡ true = e in cc)

-- the outcome of all events, where the replay has come to its end with this outcome from the state on
comes_out : {L : Type 0} (w : Style) (first : MachineState) (bytes kept : List ℕ) (rs : ReaderState) (t : Counts) (checker : Checker L) (disk left sink disk' left' sink' : Option (List ℕ)) (status : ℕ)
    (going : Going w first bytes kept rs t checker disk left sink) (events : List Event) (ending : Ending) (o : Outcome)
    → FromHere rs going.rest events ending → outcome_from w going.state rs.whole t events ending ≡ o
    → sink' ≡ Some (kept ++ going.text ++ o.text) → status ≡ o.status → disk' ≡ Some o.device → IfSome o.taken (λ k. left' ≡ Some (drop (16 + going.n + k) bytes))
    → Replays w first bytes kept status disk' left' sink'
comes_out w first bytes kept rs t checker disk left sink disk' left' sink' status going events ending o here is printed st dev taken =
    let all = going.goes_on events ending here in
    let e : outcome_from w first 0 no_counts all.0 ending ≡ after_text going.text going.n o = all.2 ∙ ap (after_text going.text going.n) is in
    record {
      events = all.0;
      ending = ending;
      spelled = all.1;
      comes = subst (λ k. ComesOut (after_text [] 16 k) bytes kept status disk' left' sink') (sym e) (record {
        text = printed ∙ ap Some (append_assoc kept going.text o.text);
        status_is = st;
        device = dev;
        taken = taken_by going.n o.taken bytes left' taken;
      });
    }

-- at the end tag
pub going_end : {L : Type 0} (w : Style) (first : MachineState) (bytes kept : List ℕ) (rs new : ReaderState) (t : Counts) (checker : Checker L) (disk left left' sink sink' : Option (List ℕ)) (status : ℕ)
    (going : Going w first bytes kept rs t checker disk left sink)
    → IfSome left (λ b. Tells rs b (Ok the_end) new left')
    → status ≡ (ended w going.state t End).status → sink' ≡ option_map (λ k. k ++ (ended w going.state t End).text) sink
    → Replays w first bytes kept status disk left' sink'
going_end w first bytes kept rs new t checker disk left left' sink sink' status going told st printed =
    let takes : TakesEnd rs going.rest left' = told_at rs new left left' going.rest (Ok the_end) going.left_is told in
    let front : behind rs going.rest ≡ 255 ∷ takes.rest = behind_is rs going.rest (255 ∷ takes.rest) takes.taken in
    comes_out w first bytes kept rs t checker disk left sink disk left' sink' status going [] End (ended w going.state t End)
    (in_front rs going.rest (255 ∷ takes.rest) [] End going.fresh takes.taken (records_end rs.limit rs.whole (255 ∷ takes.rest) End refl going.few))
    refl (printed ∙ ap (option_map (λ k. k ++ (ended w going.state t End).text)) going.printed) st going.image
    (takes.left ∙ ap Some (ap (drop 1) (sym front ∙ going.gone) ∙ drop-drop 1 (16 + going.n) bytes))

fault_here : (rs : ReaderState) (rest : List ℕ) (f : TraceFault) (k : ℕ) → (rs.at_header ≡ true → rs.whole ≡ 0) → rs.whole ≤ rs.limit → MeetsEnding rs rest (Fault f k) → FromHere rs rest [] (Fault f k)
fault_here rs rest f k fresh few (inl h) = header_here rs.at_header rs.limit rs.whole rest (Fault f k) h.0 h.1
fault_here rs rest f k fresh few (inr h) =
    in_front rs rest h.0 [] (Fault f k) fresh h.1 (records_end rs.limit rs.whole h.0 (Fault f k) h.2 few)

pub meets : (rs new : ReaderState) (rest : List ℕ) (f : TraceFault) (after : Option (List ℕ)) → IsOfBytes f → Tells rs rest (Err f) new after → MeetsEnding rs rest (Fault f new.number)
meets rs new rest BadHeader after h told = told.of_all
meets rs new rest BadTag after h told = told.of_all
meets rs new rest BadLength after h told = told.of_all
meets rs new rest Truncated after h told = told.of_all
meets rs new rest ReadFault after h told = absurd h
meets rs new rest NoMemory after h told = absurd h
meets rs new rest TooMany after h told = told.of_all

-- at a fault of the trace's bytes
pub going_fault : {L : Type 0} (w : Style) (first : MachineState) (bytes kept : List ℕ) (rs new : ReaderState) (t : Counts) (checker : Checker L) (disk left left' sink sink' : Option (List ℕ)) (status place : ℕ) (f : TraceFault)
    (going : Going w first bytes kept rs t checker disk left sink)
    → IfSome left (λ b. Tells rs b (Err f) new left') → IsOfBytes f → place ≡ new.number
    → status ≡ 3 → sink' ≡ option_map (λ k. k ++ (ended w going.state t (Fault f place)).text) sink
    → Replays w first bytes kept status disk left' sink'
going_fault w first bytes kept rs new t checker disk left left' sink sink' status place f going told ofbytes at st printed =
    comes_out w first bytes kept rs t checker disk left sink disk left' sink' status going [] (Fault f place) (ended w going.state t (Fault f place))
    (fault_here rs going.rest f place going.fresh going.few (subst (λ k. MeetsEnding rs going.rest (Fault f k)) (sym at) (meets rs new going.rest f left' ofbytes (told_at rs new left left' going.rest (Err f) going.left_is told))))
    refl (printed ∙ ap (option_map (λ k. k ++ (ended w going.state t (Fault f place)).text)) going.printed) st going.image tt

-- at an event that passes the end of the device
pub going_past : {L : Type 0} (w : Style) (first : MachineState) (bytes kept : List ℕ) (rs new : ReaderState) (t : Counts) (checker : Checker L) (disk disk' left left' sink sink' : Option (List ℕ)) (status place : ℕ) (e : Event)
    (going : Going w first bytes kept rs t checker disk left sink)
    → IfSome left (λ b. Tells rs b (Ok (an_event e)) new left') → place ≡ rs.whole + 1
    → EndsPast w going.state place e (kept ++ going.text) status disk' sink'
    → Replays w first bytes kept status disk' left' sink'
going_past w first bytes kept rs new t checker disk disk' left left' sink sink' status place e going told at turn =
    let takes : TakesEvent rs going.rest e left' = told_at rs new left left' going.rest (Ok (an_event e)) going.left_is told in
    let front : behind rs going.rest ≡ spelling_of e ++ takes.rest = behind_is rs going.rest (spelling_of e ++ takes.rest) takes.taken in
    let lawful : IsBytes takes.rest = lawful_rest rs going.rest (spelling_of e) takes.rest going.lawful takes.taken in
    let more = records_exist rs.limit (rs.whole + 1) takes.rest lawful (omega (arith, takes.room)) in
    comes_out w first bytes kept rs t checker disk left sink disk' left' sink' status going (e ∷ more.0) more.1 (past_end w going.state place e)
    (in_front rs going.rest (spelling_of e ++ takes.rest) (e ∷ more.0) more.1 going.fresh takes.taken (records_more rs.limit rs.whole e takes.rest more.0 more.1 takes.lawful takes.room more.2))
    (outcome_outside w going.state rs.whole t e more.0 more.1 turn.outside ∙ ap (λ k. past_end w going.state k e) (sym at))
    turn.printed turn.status_is turn.image
    (takes.left ∙ ap Some (sym (drop_at (spelling_of e) takes.rest (length (spelling_of e)) refl) ∙ ap (drop (length (spelling_of e))) (sym front ∙ going.gone) ∙ drop-drop (length (spelling_of e)) (16 + going.n) bytes))

-- the number of the record that was begun
pub place_is : (rs new : ReaderState) (e : Event) (place : ℕ) → new ≡ after_event rs → place ≡ min new.number (2 ^ 64 - 1) → rs.whole ≤ rs.limit → rs.limit ≡ record_limit → place ≡ rs.whole + 1
place_is rs new e place is at few limit =
    let n : new.number ≡ rs.whole + 1 = ap (λ r. r.number) is in
    omega arith

pub place_fits : (n limit place : ℕ) → place ≡ min n (2 ^ 64 - 1) → n ≤ limit + 1 → limit ≡ record_limit → place ≡ n
place_fits n limit place at few is = omega arith

-- what an item's being an event says
pub at_event : (rs new : ReaderState) (left after : Option (List ℕ)) (item : Item) (e : Event) → item ≡ an_event e → IfSome left (λ b. Tells rs b (Ok item) new after)
    → IfSome left (λ b. Tells rs b (Ok (an_event e)) new after)
at_event rs new left after item e is told = subst (λ i. IfSome left (λ b. Tells rs b (Ok i) new after)) is told

pub at_end : (rs new : ReaderState) (left after : Option (List ℕ)) (item : Item) → item ≡ the_end → IfSome left (λ b. Tells rs b (Ok item) new after)
    → IfSome left (λ b. Tells rs b (Ok the_end) new after)
at_end rs new left after item is told = subst (λ i. IfSome left (λ b. Tells rs b (Ok i) new after)) is told

pub after_is : (rs new : ReaderState) (item : Item) (e : Event) → item ≡ an_event e → IsAfter rs (Ok item) new → new ≡ after_event rs
after_is rs new item e is h = subst (λ i. IsAfter rs (Ok i) new) is h

pub limit_after : (rs new : ReaderState) → new ≡ after_event rs → new.limit ≡ rs.limit
limit_after rs new is = ap (λ r. r.limit) is

pub limit_over : (rs new : ReaderState) (f : TraceFault) → IsAfter rs (Err f) new → new.limit ≡ rs.limit
limit_over rs new f h = h.limit

pub both_ok : {T E : Type 0} {P : T → Type 0} {O : Type 0} {Q : T → Type 0} (r : Result T E) → ((x : T) → P x → O → Q x) → IfOk r P → OnOk r O → IfOk r Q
both_ok (Ok x) f p o = f x p o
both_ok (Err e) f p o = tt

pub each_ok : {T E : Type 0} {P Q : T → Type 0} (r : Result T E) → ((x : T) → P x → Q x) → IfOk r P → IfOk r Q
each_ok (Ok x) f p = f x p
each_ok (Err e) f p = tt

no_read : (f : TraceFault) (s s' : ℕ) → IsNoRead f → HasReadCause {T = Item} s s' (Err f) → s' ≡ s
no_read BadHeader s s' h c = c
no_read BadTag s s' h c = c
no_read BadLength s s' h c = c
no_read Truncated s s' h c = c
no_read ReadFault s s' h c = absurd h
no_read NoMemory s s' h c = c
no_read TooMany s s' h c = c

same_faults : (d d' s s' k k' : ℕ) → d' ≡ d → s' ≡ s → k' ≡ k → faults_are d' s' k' ≡ faults_are d s k
same_faults d d' s s' k k' a b c = ap (λ x. faults_are x s' k') a ∙ ap (λ x. faults_are d x k') b ∙ ap (λ x. faults_are d s x) c

-- the cause of a run that stops at a fault of the trace
pub fault_cause : (f : TraceFault) (r : Result ℕ RunFault) (d d' s0 s s' k0 k k' : ℕ) → d' ≡ d → s ≡ s0 → k ≡ k0 → HasReadCause {T = Item} s s' (Err f) → HasFaultPrintCause f k k' r
    → HasFaultCause (faults_are d s0 k0) (faults_are d' s' k') r
fault_cause f (Ok status) d d' s0 s s' k0 k k' disk source sink read print = same_faults d d' s0 s' k0 k' disk (no_read f s s' print.0 read ∙ source) (print.1 ∙ sink)
fault_cause f (Err Device) d d' s0 s s' k0 k k' disk source sink read print = absurd print
fault_cause f (Err Trace) d d' s0 s s' k0 k k' disk source sink read print =
    (disk, subst (λ b. IsCounted true b s') source (subst (λ e. HasReadCause {T = Item} s s' (Err e)) print.0 read), print.1 ∙ sink)
fault_cause f (Err Lines) d d' s0 s s' k0 k k' disk source sink read print = (disk, no_read f s s' print.0 read ∙ source, subst (λ b. IsCounted true b k') sink print.1)
fault_cause f (Err Memory) d d' s0 s s' k0 k k' disk source sink read print = same_faults d d' s0 s' k0 k' disk (no_read f s s' print.0 read ∙ source) (print.1 ∙ sink)

pub three_is : (status : ℕ) → status ≡ 3 → IsOutcomeStatus status
three_is status h = subst IsOutcomeStatus (sym h) (search rules)

pub event_reads : (s s' : ℕ) (item : Item) → HasReadCause s s' (Ok item) → s' ≡ s
event_reads s s' item h = h
