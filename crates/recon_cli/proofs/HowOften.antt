-- How often a replay has read the disk and looked into the index, event by event.
use Rattle.std.proofs.Common.{◌≡◌, ℕ, ◌==◌, ◌+◌, ◌*◌, ◌≤◌, inl, inr, ◌⊎◌, true, false, cond, if◌then◌else◌, List, [], ◌∷◌, ◌++◌, length, Option, Some, None, IfSome, Result, Ok, Err, refl, sym, ap, ◌∙◌, arith, subst}
use Rattle.std.proofs.lemmas.Bool.Decides.{eqb_tells}
use Rattle.verdict.specs.declared.finding.Finding.{Finding}
use Rattle.verdict.specs.declared.machine.Event.{Event}
use Rattle.verdict.specs.declared.machine.Answer.{Answer}
use Rattle.verdict.specs.declared.machine.Answer.TheVariants.{Held, Fetched, Passed, Rejected}
use Rattle.tree_laws.specs.LivePairs.{Walked, live_in}
use Rattle.recon_core.specs.declared.checker.Checker.{Checker}
use Rattle.recon_core.specs.Machine.{MachineState, first_state, machine_step}
use Rattle.lookup_bounds.specs.Work.{starting_work}
use Rattle.recon_core.specs.Looks.{BeginsByWork, HasLooks, work_at}
use Rattle.recon_core.specs.Reads.{HasBegun, HasReadTrees, HasReads, reads_of}
use Rattle.recon_core.specs.Standing.{StandsFor}
use Rattle.trace_reader.specs.declared.reader.Item.TheVariants.{Event as an_event, End as the_end}
use Rattle.trace_reader.specs.Reader.{ReaderState}
use Rattle.trace_reader.specs.Reading.{first_state as reader_start, after_event, TakesEnd, Tells}
use Rattle.trace_reader.specs.Trace.{End, Ending, IsBytes, IsTrace}
use Rattle.trace_reader.proofs.Records.{one}
use Rattle.recon_cli.specs.declared.counts.Counts.{Counts}
use Rattle.recon_cli.specs.Outcome.{counts_after, no_counts}
use Rattle.recon_cli.specs.Run.{record_limit}
use Rattle.recon_cli.specs.Turns.{MayStep}
use Rattle.recon_cli.specs.Looks.{LooksAtMost, LooksEvents, works_from}
use Rattle.recon_cli.specs.Reads.{ReadsAtMost, ReadsEvents, reads_from}
use Rattle.recon_cli.specs.Stopped.{state_after}
use Rattle.recon_cli.proofs.Going.{told_at}
use Rattle.recon_cli.proofs.Reaching.{Took, took_all, took_event, took_start}

-- how far a trace was taken, and the reads and the looks before and now where nothing was rejected
pub record ReadSoFar {L : Type 0} (first : MachineState) (bytes : List ℕ) (rs : ReaderState) (t : Counts) (checker : Checker L) (disk left : Option (List ℕ)) (before now looked looks : ℕ) : Type 0 where
  pub took : Took first bytes rs t checker disk left
  pub reads : t.rejected ≡ 0 → now ≤ before + reads_from first took.done
  pub looking : t.rejected ≡ 0 → looks ≤ looked + 64 * works_from first took.done

pub read_start : {L : Type 0} (first : MachineState) (bytes : List ℕ) (checker : Checker L) (disk left : Option (List ℕ)) (before looked : ℕ) → StandsFor checker first → disk ≡ Some first.image
    → left ≡ Some bytes → ReadSoFar first bytes (reader_start record_limit) no_counts checker disk left before before looked looked
read_start first bytes checker disk left before looked stands image left_is = record {
  took = took_start first bytes checker disk left stands image left_is;
  reads = λ none. omega arith;
  looking = λ none. omega arith;
}

reads_more : (s : MachineState) (es : List Event) (e : Event) → reads_from s (es ++ e ∷ []) ≡ reads_from s es + reads_of (machine_step (state_after s es) e).answer
reads_more s [] e = omega arith
reads_more s (x ∷ es) e = omega (arith, reads_more (machine_step s x).after es e)

works_more : (s : MachineState) (es : List Event) (e : Event) → works_from s (es ++ e ∷ []) ≡ works_from s es + work_at (state_after s es) e
works_more s [] e = omega arith
works_more s (x ∷ es) e = omega (arith, works_more (machine_step s x).after es e)

-- an answer that does not reject was no rejection, and allows these reads
allowed : (answer : Answer) (t : Counts) (before now : ℕ) → (counts_after t answer).rejected ≡ 0 → HasReads answer before now
    → (t.rejected ≡ 0) × (now ≤ before + reads_of answer)
allowed Held t before now none reads = (none, reads)
allowed (Fetched bytes) t before now none reads = (none, reads)
allowed (Passed generation blocks hot) t before now none reads = (none, reads)
allowed (Rejected finding) t before now none reads = absurd (omega (arith, none))

allowed_looks : (answer : Answer) (t : Counts) (work before now : ℕ) → (counts_after t answer).rejected ≡ 0 → HasLooks answer work before now
    → now ≤ before + 64 * work
allowed_looks Held t work before now none looks = looks
allowed_looks (Fetched bytes) t work before now none looks = looks
allowed_looks (Passed generation blocks hot) t work before now none looks = looks
allowed_looks (Rejected finding) t work before now none looks = absurd (omega (arith, none))

pub read_event : {L : Type 0} (first : MachineState) (bytes : List ℕ) (rs new : ReaderState) (t t' : Counts) (checker checker' : Checker L) (disk disk' left left' : Option (List ℕ)) (before now now' looked looks looks' : ℕ) (e : Event)
    → (so : ReadSoFar first bytes rs t checker disk left before now looked looks)
    → IfSome left (λ b. Tells rs b (Ok (an_event e)) new left') → new ≡ after_event rs
    → MayStep (state_after first so.took.done) t e None checker' t' disk' now now' looks looks'
    → ReadSoFar first bytes new t' checker' disk' left' before now' looked looks'
read_event first bytes rs new t t' checker checker' disk disk' left left' before now now' looked looks looks' e so told is may =
    let s : MachineState = state_after first so.took.done in
    subst (λ k. ReadSoFar first bytes k t' checker' disk' left' before now' looked looks') (sym is) (record {
      took = took_event first bytes rs new t t' checker checker' disk disk' left left' e so.took told may.0;
      reads = λ none.
          let own : (t.rejected ≡ 0) × (now' ≤ now + reads_of (machine_step s e).answer) =
          allowed (machine_step s e).answer t now now' (sym (ap (λ u. u.rejected) may.0.counts) ∙ none) may.1 in
          omega (arith, so.reads own.0, own.1, reads_more first so.took.done e);
      looking = λ none.
          let none' = sym (ap (λ u. u.rejected) may.0.counts) ∙ none in
          let own : (t.rejected ≡ 0) × (now' ≤ now + reads_of (machine_step s e).answer) = allowed (machine_step s e).answer t now now' none' may.1 in
          let more : looks' ≤ looks + 64 * work_at s e = allowed_looks (machine_step s e).answer t (work_at s e) looks looks' none' may.2 in
          omega (arith, so.looking own.0, more, works_more first so.took.done e);
    })

none_rejected : (rejected status : ℕ) → status ≡ (if rejected == 0 then 0 else 1) → status ≡ 0 → rejected ≡ 0
none_rejected rejected status is none = by (eqb_tells rejected 0)
  where
    by : (((rejected == 0) ≡ true) × (rejected ≡ 0)) ⊎ (((rejected == 0) ≡ false) × (rejected ≡ 0 → ⊥)) → rejected ≡ 0
    by (inl h) = h.1
    by (inr h) = absurd (let k : 0 ≡ 1 = sym none ∙ is ∙ ap (λ b. cond b 0 1) h.0 in omega (arith, k))

-- at the end tag, where the status says that nothing was rejected
pub read_end : {L : Type 0} (first : MachineState) (bytes : List ℕ) (rs new : ReaderState) (t : Counts) (checker : Checker L) (disk left left' : Option (List ℕ)) (before now looked looks status : ℕ)
    → ReadSoFar first bytes rs t checker disk left before now looked looks → IsBytes bytes
    → IfSome left (λ b. Tells rs b (Ok the_end) new left')
    → status ≡ (if t.rejected == 0 then 0 else 1) → status ≡ 0 → (events : List Event) (ending : Ending) → IsTrace record_limit bytes events ending
    → (now ≤ before + reads_from first events) × (looks ≤ looked + 64 * works_from first events)
read_end first bytes rs new t checker disk left left' before now looked looks status so lawful told is none events ending spelled =
    let done : List Event = so.took.done in
    let takes : TakesEnd rs so.took.rest left' = told_at rs new left left' so.took.rest (Ok the_end) so.took.left_is told in
    let all : IsTrace record_limit bytes done End = took_all first bytes rs t checker disk left End so.took (inr (255 ∷ takes.rest, takes.taken, refl)) in
    let only = one record_limit bytes lawful in
    let same : done ≡ events = (only.3 done End all).0 ∙ sym (only.3 events ending spelled).0 in
    let nothing = none_rejected t.rejected status is none in (
      subst (λ es. now ≤ before + reads_from first es) same (so.reads nothing),
      subst (λ es. looks ≤ looked + 64 * works_from first es) same (so.looking nothing),
    )

-- the reads of the start over an image that is told
pub begun_reads : {L : Type 0} (told : Option (List ℕ)) (image : List ℕ) (before after : ℕ) (begun : Result (Checker L × ℕ) Finding) (checker : Checker L) (generation : ℕ) → told ≡ Some image
    → begun ≡ Ok (checker, generation) → IfSome told (λ i. HasBegun i before after begun) → HasReadTrees image before after
begun_reads told image before after begun checker generation is came reads =
    subst (λ b. HasBegun image before after b) came (subst (λ o. IfSome o (λ i. HasBegun i before after begun)) is reads)

-- the looks of the start over an image that is told
pub begun_looks : {L : Type 0} (told : Option (List ℕ)) (image : List ℕ) (before after : ℕ) (begun : Result (Checker L × ℕ) Finding) (checker : Checker L) (generation : ℕ) → told ≡ Some image
    → begun ≡ Ok (checker, generation) → IfSome told (λ i. BeginsByWork i before after begun) → after ≤ before + 64 * starting_work image
begun_looks told image before after begun checker generation is came looks =
    subst (λ b. BeginsByWork image before after b) came (subst (λ o. IfSome o (λ i. BeginsByWork i before after begun)) is looks)

-- the looks of the start before those of the events
pub looks_whole : (image bytes : List ℕ) (before begun after : ℕ) → begun ≤ before + 64 * starting_work image → LooksEvents (first_state image) bytes begun after → LooksAtMost image bytes before after
looks_whole image bytes before begun after start rest events ending spelled = omega (arith, start, rest events ending spelled)

-- how many blocks a walk saw
abbrev pairs_in : Result Walked Finding → ℕ
pairs_in (Ok trees) = length (live_in trees.seen)
pairs_in (Err finding) = 0

-- the reads of the start before them
pub reads_whole : (image bytes : List ℕ) (before begun after : ℕ) → HasReadTrees image before begun → ReadsEvents (first_state image) bytes begun after → ReadsAtMost image bytes before after
reads_whole image bytes before begun after start rest events ending spelled trees walks =
    let same : length (live_in start.trees.seen) ≡ length (live_in trees.seen) = ap pairs_in (sym start.walks ∙ walks) in
    omega (arith, start.reads, rest events ending spelled, same)
