-- A trace as it goes out.
use Rattle.std.proofs.Common.{◌≡◌, ℕ, ◌+◌, ◌-◌, ◌<◌, ◌≤◌, inr, List, [], ◌∷◌, ◌++◌, length, get_or, take, drop, Option, Some, None, Result, Ok, Err, OnOk, OnErr, refl, sym, ap, ◌∙◌, subst, append_assoc, append-nil, length-append, arith}
use Rattle.std.specs.List.{All, count_by}
use Rattle.std.proofs.lemmas.List.{take_all, length-take-le, take-append-drop, take_more}
use Rattle.std.proofs.lemmas.List.Elements.{All-nil, All-append}
use Rattle.verdict.specs.declared.machine.Event.{Event}
use Rattle.recon_disk.specs.Outside.{MayBeAppended}
use Rattle.trace_reader.specs.Trace.{IsSpelled, header_bytes, spelling_of, spelling_of_all}
use Rattle.trace_maker.specs.declared.operation.Operation.{Operation}
use Rattle.trace_maker.specs.Plan.{plan_of}
use Rattle.trace_maker.specs.Made.{most_records, Gained, IsFront, IsMade, IsCommitOf, AreCommits, is_commit, carried_out}
use Rattle.volume_maker.specs.Volume.{Standing, nothing_stands}
use Rattle.trace_maker.proofs.Commits.{standing_after, standing_more, counts_append, spelled_commit, one_commit, spelling_append, commits_more}
use Rattle.trace_maker.proofs.Sinking.{and_then, and_nothing, and_then_both, whole_appended, more_appended, later_appended, front_gained}

-- The header and the records of the commits of the first i operations are gained, and the trace has room for so many more.
pub record SoFar (ops : List Operation) (i : ℕ) (room : ℕ) (standing : Standing) (kept now : Option (List ℕ)) : Type 0 where
  pub events : List Event
  pub stands : standing ≡ standing_after 1 (take i ops) nothing_stands
  pub lawful : All IsSpelled events
  pub planned : AreCommits 1 nothing_stands (take i ops) events
  pub counted : count_by is_commit events ≡ i
  pub few : length events + room ≤ most_records
  pub gained : now ≡ and_then kept (header_bytes ++ spelling_of_all events)

pub more : (ops : List Operation) (i room left : ℕ) (op : Operation) (now : List Event) (standing later : Standing) (kept mid after : Option (List ℕ)) → SoFar ops i room standing kept mid
    → length now ≤ room → left ≡ room - length now
    → i < length ops → take (i + 1) ops ≡ take i ops ++ op ∷ [] → IsCommitOf (i + 1) standing op now → later ≡ carried_out (i + 1) op standing
    → after ≡ and_then mid (spelling_of_all now) → SoFar ops (i + 1) left later kept after
more ops i room left op now standing later kept mid after s fits rest h t c l e =
    let before = standing_after 1 (take i ops) nothing_stands in
    let size : length (take i ops) ≡ i = length-take-le i ops (omega arith) in
    let number : i + 1 ≡ 1 + length (take i ops) = omega arith in
    let P : ℕ → Type 0 = λ n. IsCommitOf n before op now in
    let R : Standing → Type 0 = λ x. IsCommitOf (i + 1) x op now in
    let Q : List Operation → Type 0 = λ l. AreCommits 1 nothing_stands l (s.events ++ now) in
    let one = one_commit (i + 1) standing op now c in
    record {
      events = s.events ++ now;
      stands = l ∙ ap (carried_out (i + 1) op) s.stands ∙ ap (λ n. carried_out n op before) number
          ∙ sym (standing_more 1 (take i ops) op nothing_stands) ∙ ap (λ l. standing_after 1 l nothing_stands) (sym t);
      lawful = All-append IsSpelled s.events now s.lawful (spelled_commit (i + 1) standing op now c);
      planned = subst Q (sym t) (commits_more 1 nothing_stands (take i ops) op s.events now s.planned (subst P number (subst R s.stands c)));
      counted = counts_append s.events now ∙ omega (arith, s.counted);
      few = omega (arith, s.few, length-append s.events now);
      gained =
          and_then_both kept mid after (header_bytes ++ spelling_of_all s.events) (spelling_of_all now) s.gained e
          ∙ ap (λ (b : List ℕ). and_then kept b) (append_assoc header_bytes (spelling_of_all s.events) (spelling_of_all now)
          ∙ ap (λ (b : List ℕ). header_bytes ++ b) (sym (spelling_append s.events now)));
    }

-- the sink failed, or memory was wanting, with a front of the records of this commit gained
pub failed : (ops : List Operation) (i room : ℕ) (op : Operation) (now : List Event) (standing : Standing) (kept mid after : Option (List ℕ)) → SoFar ops i room standing kept mid
    → IsCommitOf (i + 1) standing op now → MayBeAppended mid (spelling_of_all now) after → Gained IsFront kept after
failed ops i room op now standing kept mid after s c m =
    let all = header_bytes ++ spelling_of_all s.events in
    let P : List ℕ → Type 0 = λ b. MayBeAppended kept b after in
    front_gained kept after (s.events ++ now) (All-append IsSpelled s.events now s.lawful (spelled_commit (i + 1) standing op now c))
    (more_appended kept after (header_bytes ++ spelling_of_all (s.events ++ now)) (255 ∷ [])
    (subst P (append_assoc header_bytes (spelling_of_all s.events) (spelling_of_all now)
    ∙ ap (λ (b : List ℕ). header_bytes ++ b) (sym (spelling_append s.events now)))
    (later_appended kept mid after all (spelling_of_all now) s.gained m)))

-- memory was wanting before the next commit
pub stopped : (ops : List Operation) (i room : ℕ) (standing : Standing) (kept now : Option (List ℕ)) → SoFar ops i room standing kept now → Gained IsFront kept now
stopped ops i room standing kept now s =
    front_gained kept now s.events s.lawful (more_appended kept now (header_bytes ++ spelling_of_all s.events) (255 ∷ []) (whole_appended kept now (header_bytes ++ spelling_of_all s.events) s.gained))

-- the sink failed at the end tag
pub cut : (ops : List Operation) (i room : ℕ) (standing : Standing) (kept mid after : Option (List ℕ)) → SoFar ops i room standing kept mid → MayBeAppended mid (255 ∷ []) after → Gained IsFront kept after
cut ops i room standing kept mid after s m =
    front_gained kept after s.events s.lawful (later_appended kept mid after (header_bytes ++ spelling_of_all s.events) (255 ∷ []) s.gained m)

-- nothing is gained
pub nothing : (kept : Option (List ℕ)) → Gained IsFront kept kept
nothing kept =
    front_gained kept kept [] (All-nil IsSpelled) (more_appended kept kept [] (header_bytes ++ 255 ∷ []) (whole_appended kept kept [] (and_nothing kept)))

-- the sink failed at the header
pub header_cut : (kept after : Option (List ℕ)) → MayBeAppended kept header_bytes after → Gained IsFront kept after
header_cut kept after m =
    front_gained kept after [] (All-nil IsSpelled) (more_appended kept after header_bytes (255 ∷ []) m)

gains_made : (seed commits : ℕ) (events : List Event) (kept after : Option (List ℕ)) → All IsSpelled events
    → AreCommits 1 nothing_stands (plan_of seed commits) events → count_by is_commit events ≡ commits → length events ≤ most_records
    → after ≡ and_then kept (header_bytes ++ spelling_of_all events ++ 255 ∷ []) → Gained (IsMade seed commits) kept after
gains_made seed commits events None after lawful planned counted few e = e
gains_made seed commits events (Some k) after lawful planned counted few e = (
  header_bytes ++ spelling_of_all events ++ 255 ∷ [],
  e,
  record {
    events = events;
    trace = inr (refl, record { rest = 255 ∷ []; spelled = refl; lawful = lawful; few = omega (arith, few); ends = refl });
    spelled = refl;
    lawful = lawful;
    planned = planned;
    counted = counted;
  },
)

-- the whole trace is gained
pub ended : (seed commits : ℕ) (ops : List Operation) (i room : ℕ) (standing : Standing) (kept mid after : Option (List ℕ)) → SoFar ops i room standing kept mid
    → ops ≡ plan_of seed commits → length ops ≡ commits → i ≡ commits → after ≡ and_then mid (255 ∷ []) → Gained (IsMade seed commits) kept after
ended seed commits ops i room standing kept mid after s e n h f =
    let P : List Operation → Type 0 = λ l. AreCommits 1 nothing_stands l s.events in
    gains_made seed commits s.events kept after s.lawful
    (subst P (take_all i ops (omega arith) ∙ e) s.planned)
    (s.counted ∙ h) (omega (arith, s.few))
    (and_then_both kept mid after (header_bytes ++ spelling_of_all s.events) (255 ∷ []) s.gained f)

spelling_more : (es : List Event) (i : ℕ) (e : Event) → i < length es → e ≡ get_or es i e
    → spelling_of_all (take (i + 1) es) ≡ spelling_of_all (take i es) ++ spelling_of e
spelling_more es i e h is =
    ap (λ (l : List Event). spelling_of_all l) (take_more es i e h ∙ ap (λ (x : Event). take i es ++ x ∷ []) (sym is))
    ∙ spelling_append (take i es) (e ∷ []) ∙ ap (λ (b : List ℕ). spelling_of_all (take i es) ++ b) (append-nil (spelling_of e))

spelling_whole : (es : List Event) (i : ℕ) → spelling_of_all (take i es) ++ spelling_of_all (drop i es) ≡ spelling_of_all es
spelling_whole es i =
    sym (spelling_append (take i es) (drop i es)) ∙ ap (λ (l : List Event). spelling_of_all l) (take-append-drop i es)

-- the record of one more event is gained
pub record_more : (kept mid after : Option (List ℕ)) (es : List Event) (i : ℕ) (e : Event) → i < length es → e ≡ get_or es i e
    → mid ≡ and_then kept (spelling_of_all (take i es)) → after ≡ and_then mid (spelling_of e) → after ≡ and_then kept (spelling_of_all (take (i + 1) es))
record_more kept mid after es i e h is m f =
    and_then_both kept mid after (spelling_of_all (take i es)) (spelling_of e) m f
    ∙ ap (λ (b : List ℕ). and_then kept b) (sym (spelling_more es i e h is))

-- the sink failed in the record of an event
pub record_failed : (kept mid after : Option (List ℕ)) (es : List Event) (i : ℕ) (e : Event) → i < length es → e ≡ get_or es i e
    → mid ≡ and_then kept (spelling_of_all (take i es)) → MayBeAppended mid (spelling_of e) after → MayBeAppended kept (spelling_of_all es) after
record_failed kept mid after es i e h is m f =
    let P : List ℕ → Type 0 = λ b. MayBeAppended kept b after in
    subst P (ap (λ (b : List ℕ). b ++ spelling_of_all (drop (i + 1) es)) (sym (spelling_more es i e h is)) ∙ spelling_whole es (i + 1))
    (more_appended kept after (spelling_of_all (take i es) ++ spelling_of e) (spelling_of_all (drop (i + 1) es))
    (later_appended kept mid after (spelling_of_all (take i es)) (spelling_of e) m f))

-- memory was wanting before the record of the next event
pub records_stopped : (kept mid : Option (List ℕ)) (es : List Event) (i : ℕ) → mid ≡ and_then kept (spelling_of_all (take i es))
    → MayBeAppended kept (spelling_of_all es) mid
records_stopped kept mid es i m =
    let P : List ℕ → Type 0 = λ b. MayBeAppended kept b mid in
    subst P (spelling_whole es i) (more_appended kept mid (spelling_of_all (take i es)) (spelling_of_all (drop i es)) (whole_appended kept mid (spelling_of_all (take i es)) m))

-- what holds anyway holds where there is an error
pub any_err : {T E : Type 0} (P : Type 0) (r : Result T E) → P → OnErr r P
any_err P (Ok x) h = tt
any_err P (Err e) h = h

pub ok_then : {T E : Type 0} (P Q : Type 0) (r : Result T E) → OnOk r P → (P → Q) → OnOk r Q
ok_then P Q (Ok x) h f = f h
ok_then P Q (Err e) h f = tt

pub err_then : {T E : Type 0} (P Q : Type 0) (r : Result T E) → OnErr r P → (P → Q) → OnErr r Q
err_then P Q (Ok x) h f = tt
err_then P Q (Err e) h f = f h
