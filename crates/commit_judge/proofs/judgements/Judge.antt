-- The judgement of a commit.
use Rattle.std.proofs.Common.{◌≡◌, ℕ, ◌+◌, ◌*◌, ◌≤◌, List, length, refl, ap, sym, ◌∙◌, subst}
use Rattle.std.specs.Prelude.{Option, Some, None, Result, Ok, Err, IfOk, IfSome}
use Rattle.std.specs.List.{count_by}
use Rattle.std.specs.Ordering.{nat_cmp}
use Rattle.std.specs.FinMap.{FinMap}
use Rattle.verdict.specs.declared.finding.Finding.{Finding}
use Rattle.verdict.specs.declared.finding.Verdict.TheVariants.{Found as Refusal}
use Rattle.accounts.specs.Tally.{Sums}
use Rattle.block_source.specs.Gives.{told}
use Rattle.block_source.specs.declared.halt.Halt.{Halt}
use Rattle.block_source.specs.declared.halt.Halt.TheVariants.{Found, Disk, NoMemory}
use Rattle.records.specs.Contents.{contents}
use Rattle.records.specs.FullCheck.{checked_with, full_check}
use Rattle.span_index.specs.Spans.{Table}
use Rattle.write_cache.specs.Cache.{overlaid}
use Rattle.commit_laws.specs.Commit.{Commit, Known}
use Rattle.commit_judge.specs.Decided.{IsDecided}
use Rattle.commit_judge.specs.Index.{IndexStands, known}
use Rattle.commit_judge.specs.Judged.{IsRejected}
use Rattle.commit_judge.specs.Judging.{is_hot_by}
use Rattle.commit_judge.specs.declared.index.Index.{Index}
use Rattle.commit_judge.specs.Looks.{FewWherePassed}
use Rattle.commit_judge.specs.Plan.{IsPlanOf, commit_in}
use Rattle.commit_judge.specs.Work.{LeadsOn, LooksByWork, PlansByFew, WorkLaw}
use Rattle.commit_judge.specs.declared.judge.Judged.{Judged}
use Rattle.commit_judge.specs.declared.judge.Judged.TheVariants.{Passed, Rejected}
use Rattle.commit_judge.specs.declared.plan.Plan.{Plan}

-- what is known with these sums and spans is what was known where these are as they were
pub same_known : (k : Known) (sums : Sums) (spans : Table) → sums ≡ k.sums → spans ≡ k.spans
    → record { sup = k.sup; chunks = k.chunks; roots = k.roots; free = k.free; full = k.full; pairs = k.pairs; sums = sums; spans = spans } ≡ k
same_known k sums spans sums_are spans_are = λ i. record {
  sup = k.sup;
  chunks = k.chunks;
  roots = k.roots;
  free = k.free;
  full = k.full;
  pairs = k.pairs;
  sums = sums_are i;
  spans = spans_are i;
}

-- the count of hot blocks on a device of one length is that on a device of the same
pub hot_on : (k : Known) (c : Commit) (pending : FinMap nat_cmp ℕ) (size end hot all : ℕ) → size ≡ end
    → hot ≡ count_by (is_hot_by k c pending end) c.change.old_blocks.items → count_by (is_hot_by k c pending size) c.change.old_blocks.items ≡ all
    → hot ≡ all
hot_on k c pending size end hot all same is are =
    is ∙ (λ i. count_by (is_hot_by k c pending (sym same i)) c.change.old_blocks.items) ∙ are

-- the reads of so many blocks
pub reads_of : (before after count blocks : ℕ) → blocks ≡ count → after ≤ before + 2 * count → after ≤ before + 2 * blocks
reads_of before after count blocks same reads = subst (λ n. after ≤ before + 2 * n) (sym same) reads

-- what is said of a plan, where a disk tells its bytes
pub said_of : (bytes : Option (List ℕ)) (len end : ℕ) (IsOf Plans Says : List ℕ → Type 0)
    → IfSome bytes (λ image. length image ≡ len) → end ≡ len → IfSome bytes (λ image. IsOf image → Plans image)
    → ((image : List ℕ) → IsOf image → length image ≡ end → Plans image → Says image) → IfSome bytes (λ image. IsOf image → Says image)
said_of None len end IsOf Plans Says size same plan says = tt
said_of (Some image) len end IsOf Plans Says size same plan says = λ of. says image of (size ∙ sym same) (plan of)

-- a finding of what an image holds is the full check's
found_by : (image : List ℕ) (finding : Finding) → contents image ≡ Err finding → full_check image ≡ Refusal finding
unfolding checked_with
found_by image finding is = rw is refl

one_finding : {A : Type 0} (a b : Finding) → told {A = A} (Err (Found a)) ≡ Ok (Err b) → a ≡ b
one_finding a b is = cc

-- what holds of what a step gives, where it is told what that is
pub given : {A : Type 0} (P : A → Type 0) (result : Result A Halt) (a : A) → told result ≡ Ok (Ok a) → IfOk result P → P a
given P (Ok b) a is holds = let e : b ≡ a = cc in subst P e holds
given P (Err (Found finding)) a is holds = absurd (cc)
given P (Err Disk) a is holds = absurd (cc)
given P (Err NoMemory) a is holds = absurd (cc)

-- a finding of what the judged image holds rejects the commit
pub refused : {L : Type 0} (bytes : Option (List ℕ)) (pending : FinMap nat_cmp ℕ) (old new : Index L) (before after : ℕ) (result : Result Judged Halt)
    (finding : Finding) → told result ≡ Ok (Err finding)
    → IfSome bytes (λ image. IndexStands image old → IsDecided image pending old new before after result)
    → IfSome bytes (λ image. IndexStands image old → IsRejected image pending new finding)
refused None pending old new before after result finding is decided = tt
refused (Some image) pending old new before after (Ok judged) finding is decided = absurd (cc)
refused (Some image) pending old new before after (Err (Found other)) finding is decided = λ stands.
    let both = decided stands in record {
      found = found_by (overlaid pending 0 image) finding (both.0 ∙ ap Err (one_finding {A = Judged} other finding is));
      stands = subst (IndexStands image) (sym both.1) stands;
    }
refused (Some image) pending old new before after (Err Disk) finding is decided = absurd (cc)
refused (Some image) pending old new before after (Err NoMemory) finding is decided = absurd (cc)

-- a judgement that passes costs what its work allows, by the looks to make the plan and to judge it
pub looks_of : {L : Type 0} → WorkLaw → (bytes : Option (List ℕ)) (len end : ℕ) (pending : FinMap nat_cmp ℕ) (index : Index L) (plan : Plan)
    (judged : Judged) (reads now first middle last : ℕ) → IfSome bytes (λ image. length image ≡ len) → end ≡ len
    → IfSome bytes (λ image. IndexStands image index → IsPlanOf image pending (known index) reads now plan)
    → IfSome bytes (λ image. IndexStands image index → PlansByFew image pending (known index) (commit_in plan) first middle)
    → ((image : List ℕ) (before after : ℕ) → IndexStands image index → length image ≡ end → IsPlanOf image pending (known index) before after plan
    → LeadsOn (overlaid pending 0 image) (known index) (commit_in plan) judged)
    → FewWherePassed (known index) (commit_in plan) middle last judged
    → IfSome bytes (λ image. IndexStands image index → LooksByWork image pending first last judged)
looks_of work None len end pending index plan judged reads now first middle last size same is plans leads few = tt
looks_of work (Some image) len end pending index plan (Passed generation blocks hot) reads now first middle last size same is plans leads few = λ stands.
    let planned = is stands in
    work image pending (known index) (commit_in plan) first middle last stands.known planned.commit
    (leads image reads now stands (size ∙ sym same) planned) (plans stands) few
looks_of work (Some image) len end pending index plan (Rejected finding) reads now first middle last size same is plans leads few = λ stands. tt

-- of a rejected commit nothing is said
pub none_said : {L : Type 0} (bytes : Option (List ℕ)) (pending : FinMap nat_cmp ℕ) (index : Index L) (first last : ℕ) (finding : Finding)
    → IfSome bytes (λ image. IndexStands image index → LooksByWork image pending first last (Rejected finding))
none_said None pending index first last finding = tt
none_said (Some image) pending index first last finding = λ stands. tt
