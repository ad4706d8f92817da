-- What the machine's steps come to, by the cache of what waits.
use Rattle.std.proofs.Common.{◌≡◌, ℕ, ◌+◌, ◌*◌, ◌≤◌, inl, inr, Bool, true, false, List, [], ◌∷◌, ◌++◌, length, take, drop, Option, Some, None, IfSome, IsSome, Result, Ok, Err, OnOk, OnErr, IfOk, IfErr, IsErrOf, refl, sym, ap, ◌∙◌, arith, subst, cond, if◌then◌else◌, nat_lt}
use Rattle.std.specs.Ordering.{nat_cmp}
use Rattle.std.specs.FinMap.{FinMap, get, empty, get-empty}
use Rattle.std.proofs.lemmas.List.{take_at}
use Rattle.std.proofs.lemmas.Bool.{cases_lt, lt-ltb}
use Rattle.verdict.specs.declared.machine.Event.{Event}
use Rattle.verdict.specs.declared.machine.Event.TheVariants.{Write, Settle, Fetch}
use Rattle.verdict.specs.declared.machine.Stop.{Stop}
use Rattle.verdict.specs.declared.machine.Stop.TheVariants.{Closed, PastEnd}
use Rattle.verdict.specs.declared.machine.Answer.{Answer}
use Rattle.verdict.specs.declared.machine.Answer.TheVariants.{Held, Fetched, Passed, Rejected}
use Rattle.std.specs.Bool.{MatchBool}
use Rattle.std.specs.Option.{IsSomeAnd}
use Rattle.verdict.specs.Events.{begin_of, end_of, length_of, meets_superblock}
use Rattle.verdict.specs.Image.{range, applied}
use Rattle.verdict.specs.declared.machine.HeldWrite.{HeldWrite}
use Rattle.verdict.specs.declared.finding.Finding.{Finding}
use Rattle.write_cache.specs.Cache.{with_bytes, cache_of, overlaid}
use Rattle.write_cache.proofs.CacheLaws.{length-overlaid, overlaid-applied, cache_of-push, cache_of-none, AllInside-push, get-with_bytes_before, get-with_bytes_behind}
use Rattle.recon_disk.specs.Stops.{Moment}
use Rattle.records.specs.FullCheck.{full_check}
use Rattle.verdict.specs.declared.finding.Verdict.{Verdict}
use Rattle.verdict.specs.declared.finding.Verdict.TheVariants.{Accept, Found}
use Rattle.recon_core.specs.declared.checker.Checker.{Checker}
use Rattle.commit_judge.specs.Counts.{blocks_between, hot_between}
use Rattle.commit_judge.specs.Index.{IndexStands}
use Rattle.commit_judge.specs.Start.{IsBuilt, IsReady, LooksToBuild}
use Rattle.commit_judge.specs.declared.build.Built.{Built}
use Rattle.commit_judge.specs.declared.build.Built.TheVariants.{Ready, Refused}
use Rattle.commit_judge.specs.declared.index.Index.{Index}
use Rattle.lookup_bounds.specs.Work.{starting_work, work_between}
use Rattle.recon_core.specs.Looks.{HasLooks, work_at}
use Rattle.recon_core.specs.Reads.{HasFetched, HasReadTrees, HasReads}
use Rattle.recon_core.specs.Machine.{MachineState, answer_to, image_by, judged_image, settle_step, machine_step, with_pending}
use Rattle.recon_core.specs.Standing.{BeginsWith, IsJudgement, StandsFor, IsAccepted, IsBelow, AllMissPlace, Takes, refusal_of}
use Rattle.recon_core.specs.Safe.{StopsAreSafe, hot_at}
use Rattle.recon_core.specs.Stops.{IsLeftBy, IsJudgedStop, IsStopImage}
use Rattle.recon_core.specs.Judged.{IsSettled, IsLeftOf}
use Rattle.recon_core.specs.Moments.{IsFlushedAs, LeavesAfter}
use Rattle.recon_core.specs.Sent.{LeavesBy}
use Rattle.recon_core.proofs.Moments.{leaves_wider}

-- a range that was read into a vector of that length
pub fetched : (told : Option (List ℕ)) (m : FinMap nat_cmp ℕ) (at n k len : ℕ) (over items bytes : List ℕ)
    → length over ≡ k → n ≡ len → IfSome told (λ image. over ≡ range at n (overlaid m 0 image))
    → bytes ≡ take k (over ++ drop (length over) items)
    → IfSome told (λ image. bytes ≡ range at len (overlaid m 0 image))
fetched None m at n k len over items bytes size e o b = tt
fetched (Some image) m at n k len over items bytes size e o b =
    b ∙ take_at over (drop (length over) items) k size ∙ o ∙ ap (λ j. range at j (overlaid m 0 image)) e

-- what the start of an index says, by the disk as it was before it was asked for its length
pub built_from : {L : Type 0} (told now : Option (List ℕ)) (before begun after : ℕ) (built : Built L) → now ≡ told → begun ≡ before
    → IfSome now (λ image. IsBuilt image begun after built) → IfSome told (λ image. IsBuilt image before after built)
built_from told now before begun after built same reads says =
    subst (λ o. IfSome o (λ image. IsBuilt image before after built)) same (subst (λ n. IfSome now (λ image. IsBuilt image n after built)) reads says)

-- a checker begins where the image is accepted, with its generation
pub begins_ready : {L : Type 0} (told : Option (List ℕ)) (len before after generation : ℕ) (built : Built L) (checker : Checker L) → built ≡ Ready checker.index → IfSome told (λ image. length image ≡ len)
    → checker.cache ≡ empty → checker.closed ≡ false → checker.length ≡ len → generation ≡ checker.index.sup.generation
    → IfSome told (λ image. IsBuilt image before after built)
    → IfSome told (λ image. BeginsWith image (Ok (checker, generation)))
begins_ready None len before after generation built checker is size none open_ same its says = tt
begins_ready (Some image) len before after generation built checker is size none open_ same its says =
    let ready : IsReady image before after checker.index = subst (IsBuilt image before after) is says in (
      record {
        lawful = record { accepted = (checker.index.sup.generation, ready.accepted); inside = tt; apart = tt };
        cache = none ∙ sym cache_of-none;
        index = ready.stands;
        closed = open_;
        size = same ∙ sym size;
      },
      ready.accepted ∙ ap Accept (sym its),
    )

pub begins_refused : {L : Type 0} (told : Option (List ℕ)) (before after : ℕ) (built : Built L) (finding : Finding) → built ≡ Refused finding
    → IfSome told (λ image. IsBuilt image before after built)
    → IfSome told (λ image. full_check image ≡ Found finding)
begins_refused None before after built finding is says = tt
begins_refused (Some image) before after built finding is says = subst (IsBuilt image before after) is says

-- how often it was read
pub begins_reads : {L : Type 0} (told : Option (List ℕ)) (before after : ℕ) (built : Built L) (index : Index L) → built ≡ Ready index
    → IfSome told (λ image. IsBuilt image before after built)
    → IfSome told (λ image. HasReadTrees image before after)
begins_reads None before after built index is says = tt
begins_reads (Some image) before after built index is says =
    let ready : IsReady image before after index = subst (IsBuilt image before after) is says in
    record { trees = ready.trees; walks = ready.walks; reads = ready.reads }

-- how often the index was looked into
pub begins_looks : {L : Type 0} (told now : Option (List ℕ)) (before after : ℕ) (built : Built L) (index : Index L) → built ≡ Ready index → now ≡ told
    → IfSome now (λ image. LooksToBuild image before after built)
    → IfSome told (λ image. after ≤ before + 64 * starting_work image)
begins_looks None now before after built index is same looks = tt
begins_looks (Some image) now before after built index is same looks =
    subst (LooksToBuild image before after) is (subst (λ o. IfSome o (λ i. LooksToBuild i before after built)) same looks)

is_none_some : (o : Option ℕ) → o ≡ None → IsSome o → ⊥
is_none_some None e h = cc
is_none_some (Some x) e h = cc

-- offsets of the cache stay below the end
pub below_none : (end : ℕ) → IsBelow end empty
below_none end i some = absurd (is_none_some (get empty i) (get-empty nat_cmp i) some)

pub below_put : (end : ℕ) (m : FinMap nat_cmp ℕ) (at : ℕ) (bytes : List ℕ) → IsBelow end m → at + length bytes ≤ end → IsBelow end (with_bytes m at bytes)
below_put end m at bytes below fits i some = elim (cases_lt i at) [
  | inl low ↦ below i (subst IsSome (get-with_bytes_before m at bytes i low) some)
  | inr from ↦ elim (cases_lt i (at + length bytes)) [
    | inl high ↦ omega arith
    | inr behind ↦ below i (subst IsSome (get-with_bytes_behind m at bytes i behind) some)
  ]
]

-- what is judged, by the writes that wait and one more
pub judged_more : {L : Type 0} (checker : Checker L) (state : MachineState) (at : ℕ) (bytes : List ℕ) → StandsFor checker state → at + length bytes ≤ length state.image
    → overlaid (with_bytes checker.cache at bytes) 0 state.image ≡ applied state.image (state.pending ++ record { at = at; bytes = bytes } ∷ [])
judged_more checker state at bytes stands fits =
    let w : HeldWrite = record { at = at; bytes = bytes } in
    ap (λ m. overlaid (with_bytes m at bytes) 0 state.image) stands.cache
    ∙ ap (λ m. overlaid m 0 state.image) (sym (cache_of-push state.pending w))
    ∙ overlaid-applied (state.pending ++ w ∷ []) state.image (AllInside-push (length state.image) state.pending w stands.lawful.inside fits)

pub judged_all : {L : Type 0} (checker : Checker L) (state : MachineState) → StandsFor checker state → overlaid checker.cache 0 state.image ≡ applied state.image state.pending
judged_all checker state stands = ap (λ m. overlaid m 0 state.image) stands.cache ∙ overlaid-applied state.pending state.image stands.lawful.inside

accepted_by : (v : Verdict) (judged old : List ℕ) → full_check judged ≡ v → IsAccepted old → IsAccepted (image_by v judged old)
accepted_by (Accept generation) judged old is h = (generation, is)
accepted_by (Found finding) judged old is h = h

length_by : (v : Verdict) (judged old : List ℕ) → length judged ≡ length old → length (image_by v judged old) ≡ length old
length_by (Accept generation) judged old h = h
length_by (Found finding) judged old h = refl

-- a judged event
pub takes_judged : {L : Type 0} (checker new : Checker L) (s : MachineState) (m : FinMap nat_cmp ℕ) (said : Answer) (bytes : Option (List ℕ)) → IsAccepted s.image
    → m ≡ cache_of s.pending → overlaid m 0 s.image ≡ judged_image s → IsSettled m new.index said bytes s.image → new ≡ record checker { cache = empty; index = new.index }
    → checker.closed ≡ s.closed → checker.length ≡ length s.image → Takes (settle_step s) said new bytes
takes_judged checker new s m said bytes accepted waiting judged settled is open_ size =
    let n : length (judged_image s) ≡ length s.image = ap length (sym judged) ∙ length-overlaid m 0 s.image in
    record {
      answer = settled.says
          ∙ ap (λ i. answer_to (full_check i) (blocks_between s.image m) (hot_between s.image m)) judged
          ∙ ap (λ k. answer_to (full_check (judged_image s)) (blocks_between s.image k) (hot_between s.image k)) waiting;
      stands = record {
        lawful = record {
          accepted = accepted_by (full_check (judged_image s)) (judged_image s) s.image refl accepted;
          inside = tt;
          apart = tt;
        };
        cache = ap (λ k. k.cache) is ∙ sym cache_of-none;
        index = subst (λ i. IndexStands (image_by (full_check i) i s.image) new.index) judged settled.stands;
        closed = ap (λ k. k.closed) is ∙ open_;
        size = ap (λ k. k.length) is ∙ size ∙ sym (length_by (full_check (judged_image s)) (judged_image s) s.image n);
      };
      image = settled.holds ∙ ap (λ i. Some (image_by (full_check i) i s.image)) judged;
    }

-- what is said of the image that a disk tells, of which the index stands
at_image : (P Q : List ℕ → Type 0) (told : Option (List ℕ)) (image : List ℕ) → told ≡ Some image → P image → IfSome told (λ i. P i → Q i) → Q image
at_image P Q told image is p h = subst (λ o. IfSome o (λ i. P i → Q i)) is h p

-- what is left of an image where a call failed in a judged event
judged_stop : (s : MachineState) (m : FinMap nat_cmp ℕ) (left : List ℕ) → m ≡ cache_of s.pending → overlaid m 0 s.image ≡ judged_image s → IsLeftOf m s.image left → IsJudgedStop s left
judged_stop s m left waits judged h =
    subst (λ k. IsLeftBy (full_check (judged_image s)) k (judged_image s) s.image left) waits
    (subst (λ i. IsLeftBy (full_check i) m i s.image left) judged h)

-- the step of a write, by whether it meets the superblock place
pub commit_is : (s : MachineState) (submitter at : ℕ) (bytes : List ℕ) → meets_superblock at (length bytes) ≡ true
    → machine_step s (Write submitter at bytes) ≡ settle_step (with_pending s (record { at = at; bytes = bytes }))
commit_is s submitter at bytes h = ap (λ b. cond b (settle_step (with_pending s (record { at = at; bytes = bytes }))) (record { answer = Held; after = with_pending s (record { at = at; bytes = bytes }) })) h

pub held_is : (s : MachineState) (submitter at : ℕ) (bytes : List ℕ) → meets_superblock at (length bytes) ≡ false
    → machine_step s (Write submitter at bytes) ≡ record { answer = Held; after = with_pending s (record { at = at; bytes = bytes }) }
held_is s submitter at bytes h = ap (λ b. cond b (settle_step (with_pending s (record { at = at; bytes = bytes }))) (record { answer = Held; after = with_pending s (record { at = at; bytes = bytes }) })) h

-- what waits with a commit's own bytes
waits_more : {L : Type 0} (checker : Checker L) (s : MachineState) (at : ℕ) (bytes : List ℕ) → StandsFor checker s
    → with_bytes checker.cache at bytes ≡ cache_of (s.pending ++ record { at = at; bytes = bytes } ∷ [])
waits_more checker s at bytes stands = ap (λ k. with_bytes k at bytes) stands.cache ∙ sym (cache_of-push s.pending (record { at = at; bytes = bytes }))

pub takes_commit : {L : Type 0} (checker new : Checker L) (s : MachineState) (submitter at : ℕ) (data_ : List ℕ) (said : Answer) (before bytes : Option (List ℕ)) → StandsFor checker s
    → at + length data_ ≤ length s.image → meets_superblock at (length data_) ≡ true → before ≡ Some s.image
    → IfSome before (λ image. IndexStands image checker.index → IsSettled (with_bytes checker.cache at data_) new.index said bytes image)
    → new ≡ record checker { cache = empty; index = new.index } → Takes (machine_step s (Write submitter at data_)) said new bytes
takes_commit checker new s submitter at data_ said before bytes stands fits meets told settled is =
    let m : FinMap nat_cmp ℕ = with_bytes checker.cache at data_ in
    subst (λ t. Takes t said new bytes) (sym (commit_is s submitter at data_ meets))
    (takes_judged checker new (with_pending s (record { at = at; bytes = data_ })) m said bytes stands.lawful.accepted
    (waits_more checker s at data_ stands) (judged_more checker s at data_ stands fits)
    (at_image (λ image. IndexStands image checker.index) (λ image. IsSettled m new.index said bytes image) before s.image told stands.index settled)
    is stands.closed stands.size)

pub each_some : {P Q : List ℕ → Type 0} (o : Option (List ℕ)) → ((x : List ℕ) → P x → Q x) → IsSomeAnd o P → IsSomeAnd o Q
each_some None f h = h
each_some (Some x) f h = f x h

by_true : (b : Bool) (P Q : Type 0) → b ≡ true → P → MatchBool b P Q
by_true true P Q is p = p
by_true false P Q is p = absurd (cc)

pub stop_commit : {L : Type 0} (checker : Checker L) (s : MachineState) (submitter at : ℕ) (data_ : List ℕ) (before after : Option (List ℕ)) → StandsFor checker s
    → at + length data_ ≤ length s.image → meets_superblock at (length data_) ≡ true → before ≡ Some s.image
    → IfSome before (λ image. IndexStands image checker.index → IsSomeAnd after (IsLeftOf (with_bytes checker.cache at data_) image))
    → IsSomeAnd after (IsStopImage s (Write submitter at data_))
stop_commit checker s submitter at data_ before after stands fits meets told left =
    let w : HeldWrite = record { at = at; bytes = data_ } in
    let m : FinMap nat_cmp ℕ = with_bytes checker.cache at data_ in
    each_some {P = IsLeftOf m s.image} {Q = IsStopImage s (Write submitter at data_)} after
    (λ x h. by_true (meets_superblock at (length data_)) (IsJudgedStop (with_pending s w) x) (x ≡ s.image) meets
    (judged_stop (with_pending s w) m x (waits_more checker s at data_ stands) (judged_more checker s at data_ stands fits) h))
    (at_image (λ image. IndexStands image checker.index) (λ image. IsSomeAnd after (IsLeftOf m image)) before s.image told stands.index left)

pub stop_settle : {L : Type 0} (checker : Checker L) (s : MachineState) (before after : Option (List ℕ)) → StandsFor checker s → before ≡ Some s.image
    → IfSome before (λ image. IndexStands image checker.index → IsSomeAnd after (IsLeftOf checker.cache image))
    → IsSomeAnd after (IsStopImage s Settle)
stop_settle checker s before after stands told left =
    each_some {P = IsLeftOf checker.cache s.image} {Q = IsStopImage s Settle} after
    (λ x h. judged_stop s checker.cache x stands.cache (judged_all checker s stands) h)
    (at_image (λ image. IndexStands image checker.index) (λ image. IsSomeAnd after (IsLeftOf checker.cache image)) before s.image told stands.index left)

pub takes_settle : {L : Type 0} (checker new : Checker L) (s : MachineState) (said : Answer) (before bytes : Option (List ℕ)) → StandsFor checker s → before ≡ Some s.image
    → IfSome before (λ image. IndexStands image checker.index → IsSettled checker.cache new.index said bytes image)
    → new ≡ record checker { cache = empty; index = new.index } → Takes (machine_step s Settle) said new bytes
takes_settle checker new s said before bytes stands told settled is =
    takes_judged checker new s checker.cache said bytes stands.lawful.accepted stands.cache (judged_all checker s stands)
    (at_image (λ image. IndexStands image checker.index) (λ image. IsSettled checker.cache new.index said bytes image) before s.image told stands.index settled)
    is stands.closed stands.size

-- how often a judged event reads
pub reads_judged : {L : Type 0} (checker : Checker L) (s : MachineState) (said : Answer) (before : Option (List ℕ)) (first last : ℕ) → StandsFor checker s → before ≡ Some s.image
    → IfSome before (λ image. IndexStands image checker.index → HasReads said first last) → HasReads said first last
reads_judged checker s said before first last stands told reads =
    at_image (λ image. IndexStands image checker.index) (λ image. HasReads said first last) before s.image told stands.index reads

-- how often a judged event looks into the index
abbrev LooksOn : {L : Type 0} → Checker L → FinMap nat_cmp ℕ → Answer → Option (List ℕ) → ℕ → ℕ → Type 0
LooksOn checker pending said before first last =
    IfSome before (λ image. IndexStands image checker.index → HasLooks said (work_between image pending) first last)

pub looks_settle : {L : Type 0} (checker : Checker L) (s : MachineState) (said : Answer) (before : Option (List ℕ)) (first last : ℕ) → StandsFor checker s
    → before ≡ Some s.image → LooksOn checker checker.cache said before first last → HasLooks said (work_at s Settle) first last
looks_settle checker s said before first last stands told looks =
    subst (λ m. HasLooks said (work_between s.image m) first last) stands.cache
    (at_image (λ image. IndexStands image checker.index) (λ image. HasLooks said (work_between image checker.cache) first last) before s.image told
    stands.index looks)

pub looks_commit : {L : Type 0} (checker : Checker L) (s : MachineState) (submitter at : ℕ) (data_ : List ℕ) (said : Answer) (before : Option (List ℕ))
    (first last : ℕ) → StandsFor checker s → before ≡ Some s.image → meets_superblock at (length data_) ≡ true
    → LooksOn checker (with_bytes checker.cache at data_) said before first last → HasLooks said (work_at s (Write submitter at data_)) first last
looks_commit checker s submitter at data_ said before first last stands told meets looks =
    let m : FinMap nat_cmp ℕ = with_bytes checker.cache at data_ in
    let all : FinMap nat_cmp ℕ = cache_of (with_pending s (record { at = at; bytes = data_ })).pending in
    subst (λ n. HasLooks said n first last) (sym (ap (λ b. cond b (work_between s.image all) 0) meets))
    (subst (λ k. HasLooks said (work_between s.image k) first last) (waits_more checker s at data_ stands)
    (at_image (λ image. IndexStands image checker.index) (λ image. HasLooks said (work_between image m) first last) before s.image told stands.index looks))

-- an event without a look
pub looks_none : (said : Answer) (work looks : ℕ) → HasLooks said work looks looks
looks_none Held work looks = omega arith
looks_none (Fetched bytes) work looks = omega arith
looks_none (Passed generation blocks hot) work looks = omega arith
looks_none (Rejected finding) work looks = tt

AllMissPlace-push : (ws : List HeldWrite) (w : HeldWrite) → AllMissPlace ws → meets_superblock w.at (length w.bytes) ≡ false → AllMissPlace (ws ++ w ∷ [])
AllMissPlace-push [] w h g = (g, tt)
AllMissPlace-push (v ∷ ws) w h g = (h.0, AllMissPlace-push ws w h.1 g)

pub takes_held : {L : Type 0} (checker new : Checker L) (s : MachineState) (submitter at : ℕ) (data_ : List ℕ) (said : Answer) (bytes : Option (List ℕ)) → StandsFor checker s
    → at + length data_ ≤ length s.image → meets_superblock at (length data_) ≡ false → bytes ≡ Some s.image → said ≡ Held
    → new ≡ record checker { cache = with_bytes checker.cache at data_ } → Takes (machine_step s (Write submitter at data_)) said new bytes
takes_held checker new s submitter at data_ said bytes stands fits misses told is new_is =
    let w : HeldWrite = record { at = at; bytes = data_ } in
    subst (λ t. Takes t said new bytes) (sym (held_is s submitter at data_ misses)) (record {
      answer = is;
      stands = record {
        lawful = record { accepted = stands.lawful.accepted; inside = AllInside-push (length s.image) s.pending w stands.lawful.inside fits; apart = AllMissPlace-push s.pending w stands.lawful.apart misses };
        cache = ap (λ k. k.cache) new_is ∙ waits_more checker s at data_ stands;
        index = subst (λ k. IndexStands s.image k.index) (sym new_is) stands.index;
        closed = ap (λ k. k.closed) new_is ∙ stands.closed;
        size = ap (λ k. k.length) new_is ∙ stands.size;
      };
      image = told;
    })

pub takes_fetch : {L : Type 0} (checker new : Checker L) (s : MachineState) (at len : ℕ) (said : Answer) (before bytes : Option (List ℕ)) → StandsFor checker s
    → before ≡ Some s.image → bytes ≡ before → new ≡ checker
    → IfSome before (λ image. said ≡ Fetched (range at len (overlaid checker.cache 0 image)))
    → Takes (machine_step s (Fetch at len)) said new bytes
takes_fetch checker new s at len said before bytes stands told same is says = record {
  answer = subst (λ o. IfSome o (λ image. said ≡ Fetched (range at len (overlaid checker.cache 0 image)))) told says ∙ ap (λ i. Fetched (range at len i)) (judged_all checker s stands);
  stands = subst (λ k. StandsFor k s) (sym is) stands;
  image = same ∙ told;
}

-- after a judged event the cache is empty or as it was
pub below_after : {T E : Type 0} (end : ℕ) (r : Result T E) (old new : FinMap nat_cmp ℕ) → IsBelow end old → OnOk r (new ≡ empty) → OnErr r (new ≡ old) → IsBelow end new
below_after end (Ok x) old new below ok err = subst (IsBelow end) (sym ok) (below_none end)
below_after end (Err e) old new below ok err = subst (IsBelow end) (sym err) below

-- after a write that waits or finds no memory it has that write or is as it was
pub below_held : {T E L : Type 0} (end : ℕ) (r : Result T E) (old new : Checker L) (at : ℕ) (bytes : List ℕ) → IsBelow end old.cache → at + length bytes ≤ end
    → OnOk r (new ≡ record old { cache = with_bytes old.cache at bytes }) → OnErr r (new ≡ old) → IsBelow end new.cache
below_held end (Ok x) old new at bytes below fits ok err = subst (λ k. IsBelow end k.cache) (sym ok) (below_put end old.cache at bytes below fits)
below_held end (Err e) old new at bytes below fits ok err = subst (λ k. IsBelow end k.cache) (sym err) below

pub weaker : {T E : Type 0} {P : E → Type 0} {Q : Type 0} (r : Result T E) → ((e : E) → P e → Q) → IfErr r P → OnErr r Q
weaker (Ok x) f h = tt
weaker (Err e) f h = f e h

-- of an Ok with its value and what else an Ok says
pub with_ok : {T E : Type 0} {P Q : T → Type 0} {O : Type 0} (r : Result T E) → ((x : T) → P x → O → Q x) → IfOk r P → OnOk r O → IfOk r Q
with_ok (Ok x) f p o = f x p o
with_ok (Err e) f p o = tt

-- what an Err says, where it is this one
pub at_err : {T E P : Type 0} (r : Result T E) (e : E) → IsErrOf r e → OnErr r P → P
at_err (Ok x) e is h = absurd (cc)
at_err (Err x) e is h = h

-- what an Ok says, in other words
pub each_ok : {T E : Type 0} {P Q : T → Type 0} (r : Result T E) → ((x : T) → P x → Q x) → IfOk r P → IfOk r Q
each_ok (Ok x) f h = f x h
each_ok (Err e) f h = tt

-- a write that waits reads nothing
pub reads_held : (said : Answer) (reads : ℕ) → said ≡ Held → HasReads said reads reads
reads_held said reads is = subst (λ a. HasReads a reads reads) (sym is) (omega arith)

-- what a stop in an event may leave, by what one in its judging may
moments_wider : (Leaves Also : List ℕ → Type 0) (image : List ℕ) (before now : Option (List Moment)) → ((left : List ℕ) → Leaves left → Also left)
    → IfSome before (λ moments. IsFlushedAs image moments → LeavesAfter Leaves moments now)
    → IfSome before (λ moments. IsFlushedAs image moments → LeavesAfter Also moments now)
moments_wider Leaves Also image None now f h = tt
moments_wider Leaves Also image (Some moments) now f h = λ flushed. leaves_wider Leaves Also moments now f (h flushed)

pub stops_none : (Leaves : List ℕ → Type 0) (image : List ℕ) (before now : Option (List Moment)) → now ≡ before
    → IfSome before (λ moments. IsFlushedAs image moments → LeavesAfter Leaves moments now)
stops_none Leaves image None now same = tt
stops_none Leaves image (Some moments) now same = λ flushed. record { added = []; moments = same; each = tt }

pub stops_commit : {L : Type 0} (checker : Checker L) (s : MachineState) (submitter at : ℕ) (data_ : List ℕ) (bytes : Option (List ℕ)) (before now : Option (List Moment))
    → StandsFor checker s → at + length data_ ≤ length s.image → meets_superblock at (length data_) ≡ true → bytes ≡ Some s.image
    → LeavesBy (λ image. IndexStands image checker.index) (IsLeftOf (with_bytes checker.cache at data_)) bytes before now
    → IfSome before (λ moments. IsFlushedAs s.image moments → LeavesAfter (IsStopImage s (Write submitter at data_)) moments now)
stops_commit checker s submitter at data_ bytes before now stands fits meets told leaves =
    let w : HeldWrite = record { at = at; bytes = data_ } in
    let m : FinMap nat_cmp ℕ = with_bytes checker.cache at data_ in
    moments_wider (IsLeftOf m s.image) (IsStopImage s (Write submitter at data_)) s.image before now
    (λ x h. by_true (meets_superblock at (length data_)) (IsJudgedStop (with_pending s w) x) (x ≡ s.image) meets
    (judged_stop (with_pending s w) m x (waits_more checker s at data_ stands) (judged_more checker s at data_ stands fits) h))
    (at_image (λ image. IndexStands image checker.index)
    (λ image. IfSome before (λ moments. IsFlushedAs image moments → LeavesAfter (IsLeftOf m image) moments now)) bytes s.image told stands.index leaves)

pub stops_settle : {L : Type 0} (checker : Checker L) (s : MachineState) (bytes : Option (List ℕ)) (before now : Option (List Moment))
    → StandsFor checker s → bytes ≡ Some s.image
    → LeavesBy (λ image. IndexStands image checker.index) (IsLeftOf checker.cache) bytes before now
    → IfSome before (λ moments. IsFlushedAs s.image moments → LeavesAfter (IsStopImage s Settle) moments now)
stops_settle checker s bytes before now stands told leaves =
    moments_wider (IsLeftOf checker.cache s.image) (IsStopImage s Settle) s.image before now
    (λ x h. judged_stop s checker.cache x stands.cache (judged_all checker s stands) h)
    (at_image (λ image. IndexStands image checker.index)
    (λ image. IfSome before (λ moments. IsFlushedAs image moments → LeavesAfter (IsLeftOf checker.cache image) moments now)) bytes s.image told stands.index leaves)

-- an event that is not refused lies inside the image
some_none : (stop : Stop) → Some stop ≡ None → ⊥
some_none stop e = cc

inside_of : (closed : Bool) (long end : ℕ) (a b : Stop) → (if closed then Some a else if nat_lt long end then Some b else None) ≡ None → end ≤ long
inside_of true long end a b none = absurd (cc)
inside_of false long end a b none = elim (cases_lt long end) [
  | inl past ↦ absurd (some_none b (ap (λ t. if t then Some b else None) (sym (lt-ltb long end past)) ∙ none))
  | inr within ↦ within
]

-- where no live block is hot, each stop image is accepted
pub safe_by : {L : Type 0} (checker : Checker L) (event : Event) → StopsAreSafe → (s : MachineState) → StandsFor checker s → refusal_of checker event ≡ None
    → hot_at s event ≡ 0 → (left : List ℕ) → IsStopImage s event left → IsAccepted left
safe_by checker event law s stands none hot left stop =
    law s event left stands.lawful
    (subst (λ n. end_of event ≤ n) stands.size
    (inside_of checker.closed checker.length (end_of event) Closed (PastEnd (begin_of event) (length_of event) checker.length) none))
    hot stop

-- the reads of a fetch
pub fetched_by : (answer : Answer) (before after : ℕ) → HasReads answer before after → HasFetched answer before after
fetched_by Held before after reads = tt
fetched_by (Fetched bytes) before after reads = reads
fetched_by (Passed generation blocks hot) before after reads = tt
fetched_by (Rejected finding) before after reads = tt

-- another answer is of no fetch
pub judged_no_fetch : (answer : Answer) (before after : ℕ) → IsJudgement answer → HasFetched answer before after
judged_no_fetch Held before after judged = absurd judged
judged_no_fetch (Fetched bytes) before after judged = absurd judged
judged_no_fetch (Passed generation blocks hot) before after judged = tt
judged_no_fetch (Rejected finding) before after judged = tt

pub held_no_fetch : (answer : Answer) (before after : ℕ) → answer ≡ Held → HasFetched answer before after
held_no_fetch answer before after is = subst (λ a. HasFetched a before after) (sym is) tt
