-- What a judged event comes to, by what the judge of a commit says and what went out to the disk.
use Rattle.std.proofs.Common.{◌≡◌, ℕ, ◌+◌, ◌*◌, ◌≤◌, inl, inr, Bool, IsErr, Result, Ok, Err, List, Option, Some, None, IfSome, refl, sym, ap, ◌∙◌, subst, length}
use Rattle.std.specs.Option.{IsSomeAnd}
use Rattle.std.specs.Ordering.{nat_cmp}
use Rattle.std.specs.FinMap.{FinMap}
use Rattle.verdict.specs.declared.finding.Finding.{Finding}
use Rattle.verdict.specs.declared.finding.Verdict.{Verdict}
use Rattle.verdict.specs.declared.finding.Verdict.TheVariants.{Accept, Found}
use Rattle.verdict.specs.declared.machine.Answer.{Answer}
use Rattle.verdict.specs.declared.machine.Answer.TheVariants.{Passed, Rejected}
use Rattle.recon_disk.specs.declared.disk.Disk.{Ghosts}
use Rattle.recon_disk.specs.Calls.{Sent}
use Rattle.recon_disk.specs.Keeping.{IsCounted}
use Rattle.recon_disk.specs.Stops.{Moment}
use Rattle.write_cache.specs.Cache.{overlaid}
use Rattle.records.specs.FullCheck.{full_check}
use Rattle.commit_judge.specs.Counts.{blocks_between, hot_between}
use Rattle.commit_judge.specs.Index.{HasPlaceOf, IndexStands}
use Rattle.commit_judge.specs.Judged.{HasRoom, IsJudgement, IsPassed, IsPlaceAfter, IsRejected, MovesPlace}
use Rattle.commit_judge.specs.declared.index.Index.{Index}
use Rattle.commit_judge.specs.declared.judge.Judged.{Judged}
use Rattle.commit_judge.specs.declared.judge.Judged.TheVariants.{Passed as passes, Rejected as rejects}
use Rattle.recon_core.specs.Judged.{IsLeftOf, IsSettled, Judges}
use Rattle.recon_core.specs.Machine.{answer_to, image_by}
use Rattle.recon_core.specs.Order.{HasSentBy, HasSentOut, HasSentPart}
use Rattle.commit_judge.specs.Work.{LooksByWork}
use Rattle.lookup_bounds.specs.Work.{work_between}
use Rattle.recon_core.specs.Looks.{HasLooks}
use Rattle.recon_core.specs.Reads.{HasReads}
use Rattle.recon_core.specs.Moments.{IsFlushedAs, LeavesAfter}
use Rattle.recon_core.specs.Sent.{IsAllOrPart, IsPlaceOf, LeavesBy}
use Rattle.recon_core.specs.Stops.{IsLeftBy}
use Rattle.recon_core.proofs.Moments.{leaves_wider}
use Rattle.recon_core.proofs.Steps.{each_some}
use Rattle.recon_core.proofs.Told.{nothing_sent}

-- of what is said under one premise, what follows from it
if_some_then : (P Q R : List ℕ → Type 0) (o : Option (List ℕ)) → ((x : List ℕ) → Q x → R x) → IfSome o (λ x. P x → Q x) → IfSome o (λ x. P x → R x)
if_some_then P Q R None f h = tt
if_some_then P Q R (Some x) f h = λ p. f x (h p)

-- what the judge says where the judged image is accepted, and what is sent by the superblock place that the index then has
pub record PassedAnd {L : Type 0} (m : FinMap nat_cmp ℕ) (after : Index L) (first second generation blocks hot : ℕ) (Q : List ℕ → Type 0)
    (image : List ℕ) : Type 0 where
  passed : IsPassed image m after first second generation blocks hot
  sent : Q image

pub passed_and : {L : Type 0} (Q : List ℕ → Type 0) (old mid : Option (List ℕ)) (m : FinMap nat_cmp ℕ) (before after : Index L) (judged : Judged)
    (place : List ℕ) (first second generation blocks hot : ℕ)
    → judged ≡ passes generation blocks hot → mid ≡ old → place ≡ after.raw
    → IfSome old (λ image. IndexStands image before → IsJudgement image m after first second judged)
    → IfSome mid (λ image. IsPlaceOf m place image → Q image)
    → IfSome old (λ image. IndexStands image before → PassedAnd m after first second generation blocks hot Q image)
passed_and Q None mid m before after judged place first second generation blocks hot is same place_is says sent = tt
passed_and Q (Some image) mid m before after judged place first second generation blocks hot is same place_is says sent = λ stands.
    let passed : IsPassed image m after first second generation blocks hot = subst (IsJudgement image m after first second) is (says stands) in
    let sends : IsPlaceOf m place image → Q image = subst (λ o. IfSome o (λ i. IsPlaceOf m place i → Q i)) same sent in
    record { passed = passed; sent = sends (place_is ∙ passed.stands.raw) }

-- the answer, the image and the index where it is accepted
passed_settled : {L : Type 0} (m : FinMap nat_cmp ℕ) (after : Index L) (last : Option (List ℕ)) (first second generation blocks hot : ℕ)
    (image : List ℕ)
    → IsPassed image m after first second generation blocks hot → last ≡ Some (overlaid m 0 image)
    → IsSettled m after (Passed generation blocks hot) last image
passed_settled m after last first second generation blocks hot image passed made =
    let over : List ℕ = overlaid m 0 image in
    record {
      says = ap (λ n. Passed generation n hot) passed.blocks_are
          ∙ ap (Passed generation (blocks_between image m)) passed.hot_are
          ∙ ap (λ v. answer_to v (blocks_between image m) (hot_between image m)) (sym passed.accepted);
      holds = made ∙ ap (λ v. Some (image_by v over image)) (sym passed.accepted);
      stands = subst (λ v. IndexStands (image_by v over image) after) (sym passed.accepted) passed.stands;
    }

pub settled_passed : {L : Type 0} (old last : Option (List ℕ)) (m : FinMap nat_cmp ℕ) (before after : Index L)
    (first second generation blocks hot : ℕ)
    → IfSome old (λ image. IndexStands image before → PassedAnd m after first second generation blocks hot (λ i. last ≡ Some (overlaid m 0 i)) image)
    → IfSome old (λ image. IndexStands image before → IsSettled m after (Passed generation blocks hot) last image)
settled_passed old last m before after first second generation blocks hot h =
    if_some_then (λ image. IndexStands image before) _ _ old
    (λ image both. passed_settled m after last first second generation blocks hot image both.passed both.sent) h

-- what is left where it is accepted and a call failed
pub left_passed : {L : Type 0} (old last : Option (List ℕ)) (m : FinMap nat_cmp ℕ) (before after : Index L) (first second generation blocks hot : ℕ)
    → IfSome old (λ image. IndexStands image before
    → PassedAnd m after first second generation blocks hot (λ i. IsSomeAnd last (IsAllOrPart m i)) image)
    → IfSome old (λ image. IndexStands image before → IsSomeAnd last (IsLeftOf m image))
left_passed old last m before after first second generation blocks hot h =
    if_some_then (λ image. IndexStands image before) _ _ old (λ image both. each_some {P = IsAllOrPart m image} {Q = IsLeftOf m image} last
    (λ left part. subst (λ v. IsLeftBy v m (overlaid m 0 image) image left) (sym both.passed.accepted) part) both.sent) h

-- what a stop may leave
pub stops_passed : {L : Type 0} (old : Option (List ℕ)) (m : FinMap nat_cmp ℕ) (before after : Index L) (first second generation blocks hot : ℕ)
    (begun now : Option (List Moment))
    → IfSome old (λ image. IndexStands image before → PassedAnd m after first second generation blocks hot
    (λ i. IfSome begun (λ moments. IsFlushedAs i moments → LeavesAfter (IsAllOrPart m i) moments now)) image)
    → LeavesBy (λ image. IndexStands image before) (IsLeftOf m) old begun now
stops_passed None m before after first second generation blocks hot begun now h = tt
stops_passed (Some image) m before after first second generation blocks hot None now h = λ stands. tt
stops_passed (Some image) m before after first second generation blocks hot (Some moments) now h = λ stands flushed.
    let both = h stands in
    leaves_wider (IsAllOrPart m image) (IsLeftOf m image) moments now
    (λ left part. subst (λ v. IsLeftBy v m (overlaid m 0 image) image left) (sym both.passed.accepted) part) (both.sent flushed)

-- how often the disk was read
pub reads_passed : {L : Type 0} (old : Option (List ℕ)) (m : FinMap nat_cmp ℕ) (before after : Index L) (judged : Judged)
    (first second last generation blocks hot : ℕ)
    → judged ≡ passes generation blocks hot → last ≡ second
    → IfSome old (λ image. IndexStands image before → IsJudgement image m after first second judged)
    → IfSome old (λ image. IndexStands image before → HasReads (Passed generation blocks hot) first last)
reads_passed None m before after judged first second last generation blocks hot is same says = tt
reads_passed (Some image) m before after judged first second last generation blocks hot is same says = λ stands.
    let passed : IsPassed image m after first second generation blocks hot = subst (IsJudgement image m after first second) is (says stands) in
    let few : second ≤ first + 2 * blocks = passed.reads in
    subst (λ n. n ≤ first + 2 * blocks) (sym same) few

-- what is sent by the superblock place that the index then has, where it had the bytes of the place of an image before
pub placed : {L : Type 0} (Q : List ℕ → Type 0) (old mid : Option (List ℕ)) (len : ℕ) (m : FinMap nat_cmp ℕ) (before after : Index L) (judged : Judged)
    (place : List ℕ) (generation blocks hot : ℕ)
    → judged ≡ passes generation blocks hot → mid ≡ old → place ≡ after.raw
    → IfSome old (λ image. length image ≡ len) → HasRoom len judged → MovesPlace before.raw m after.raw judged
    → IfSome mid (λ image. IsPlaceOf m place image → Q image)
    → IfSome old (λ image. HasPlaceOf before image → Q image)
placed Q None mid len m before after judged place generation blocks hot is same place_is size room moves sent = tt
placed Q (Some image) mid len m before after judged place generation blocks hot is same place_is size room moves sent = λ has.
    let sends : IsPlaceOf m place image → Q image = subst (λ o. IfSome o (λ i. IsPlaceOf m place i → Q i)) same sent in
    let fits : 69632 ≤ len = subst (HasRoom len) is room in
    let long : 69632 ≤ length image = subst (λ n. 69632 ≤ n) (sym size) fits in
    let moved : IsPlaceAfter before.raw m after.raw = subst (MovesPlace before.raw m after.raw) is moves in
    sends (place_is ∙ moved image long has)

-- the calls that went out
pub sent_passed : {L : Type 0} (old : Option (List ℕ)) (m : FinMap nat_cmp ℕ) (before : Index L) (generation blocks hot : ℕ) (begun last : Option (List Sent))
    → IfSome old (λ image. HasPlaceOf before image → HasSentOut m (overlaid m 0 image) begun last)
    → HasSentBy (HasPlaceOf before) (Passed generation blocks hot) m old begun last
unfolding HasSentBy
sent_passed old m before generation blocks hot begun last h = h

pub part_passed : {L : Type 0} (old mid : Option (List ℕ)) (len : ℕ) (m : FinMap nat_cmp ℕ) (before after : Index L) (judged : Judged) (place : List ℕ)
    (generation blocks hot : ℕ) (begun same last : Option (List Sent))
    → judged ≡ passes generation blocks hot → mid ≡ old → place ≡ after.raw → same ≡ begun
    → IfSome old (λ image. length image ≡ len) → HasRoom len judged → MovesPlace before.raw m after.raw judged
    → HasSentPart (IsPlaceOf m place) m mid same last → HasSentPart (HasPlaceOf before) m old begun last
unfolding HasSentPart
part_passed old mid len m before after judged place generation blocks hot begun same last is told place_is sent_is size room moves part =
    elim (subst (λ o. HasSentPart (IsPlaceOf m place) m mid o last) sent_is part) [
      | inl none ↦ inl none
      | inr some ↦ inr (placed _ old mid len m before after judged place generation blocks hot is told place_is size room moves some)
    ]

-- the same where it has a finding
rejected_settled : {L : Type 0} (m : FinMap nat_cmp ℕ) (after : Index L) (last : Option (List ℕ)) (finding : Finding) (image : List ℕ)
    → IsRejected image m after finding → last ≡ Some image → IsSettled m after (Rejected finding) last image
rejected_settled m after last finding image rejected same =
    let over : List ℕ = overlaid m 0 image in
    record {
      says = ap (λ v. answer_to v (blocks_between image m) (hot_between image m)) (sym rejected.found);
      holds = same ∙ ap (λ v. Some (image_by v over image)) (sym rejected.found);
      stands = subst (λ v. IndexStands (image_by v over image) after) (sym rejected.found) rejected.stands;
    }

pub settled_rejected : {L : Type 0} (old last : Option (List ℕ)) (m : FinMap nat_cmp ℕ) (before after : Index L) (judged : Judged)
    (first second : ℕ) (finding : Finding)
    → judged ≡ rejects finding → last ≡ old
    → IfSome old (λ image. IndexStands image before → IsJudgement image m after first second judged)
    → IfSome old (λ image. IndexStands image before → IsSettled m after (Rejected finding) last image)
settled_rejected None last m before after judged first second finding is same says = tt
settled_rejected (Some image) last m before after judged first second finding is same says = λ stands.
    rejected_settled m after last finding image (subst (IsJudgement image m after first second) is (says stands)) same

pub reads_rejected : {L : Type 0} (old : Option (List ℕ)) (before : Index L) (first last : ℕ) (finding : Finding)
    → IfSome old (λ image. IndexStands image before → HasReads (Rejected finding) first last)
reads_rejected None before first last finding = tt
reads_rejected (Some image) before first last finding = λ stands. tt

-- how often the index was looked into
pub looks_passed : {L : Type 0} (old : Option (List ℕ)) (m : FinMap nat_cmp ℕ) (before : Index L) (judged : Judged)
    (first last generation blocks hot : ℕ) → judged ≡ passes generation blocks hot
    → IfSome old (λ image. IndexStands image before → LooksByWork image m first last judged)
    → IfSome old (λ image. IndexStands image before → HasLooks (Passed generation blocks hot) (work_between image m) first last)
looks_passed None m before judged first last generation blocks hot is says = tt
looks_passed (Some image) m before judged first last generation blocks hot is says = λ stands.
    subst (LooksByWork image m first last) is (says stands)

pub looks_rejected : {L : Type 0} (old : Option (List ℕ)) (m : FinMap nat_cmp ℕ) (before : Index L) (first last : ℕ) (finding : Finding)
    → IfSome old (λ image. IndexStands image before → HasLooks (Rejected finding) (work_between image m) first last)
looks_rejected None m before first last finding = tt
looks_rejected (Some image) m before first last finding = λ stands. tt

-- an image that nothing reached is left by any judgement
left_as_it_was : (v : Verdict) (m : FinMap nat_cmp ℕ) (judged image : List ℕ) → IsLeftBy v m judged image image
left_as_it_was (Accept generation) m judged image = inr (nothing_sent m image)
left_as_it_was (Found finding) m judged image = refl

pub left_unsent : {L : Type 0} (old last : Option (List ℕ)) (m : FinMap nat_cmp ℕ) (before : Index L) → last ≡ old
    → IfSome old (λ image. IndexStands image before → IsSomeAnd last (IsLeftOf m image))
left_unsent None last m before same = tt
left_unsent (Some image) last m before same = λ stands.
    subst (λ o. IsSomeAnd o (IsLeftOf m image)) (sym same) (left_as_it_was (full_check (overlaid m 0 image)) m (overlaid m 0 image) image)

-- what the judging gives where there is no answer
pub judges_err : {D E L : Type 0} (disk : Ghosts D) (old new : D) (m : FinMap nat_cmp ℕ) (before after : Index L) (r : Result Answer E)
    (failed : Bool) → IsErr r
    → IfSome (disk.bytes old) (λ image. IndexStands image before → IsSomeAnd (disk.bytes new) (IsLeftOf m image)) → disk.len new ≡ disk.len old
    → IsCounted failed (disk.faults old) (disk.faults new) → Judges disk old new m before after r failed
judges_err disk old new m before after (Ok x) failed err left len faults = absurd (cc)
judges_err disk old new m before after (Err e) failed err left len faults =
    record { settled = tt; left = left; reads = tt; len = len; faults = faults }
