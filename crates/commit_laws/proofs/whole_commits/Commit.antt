-- What is known of an accepted image, moved by what a commit changes, decides the full check of the next image.
use Rattle.std.proofs.Common.{◌≡◌, ℕ, ◌+◌, ◌-◌, ◌%◌, ◌==◌, Bool, true, false, List, refl, ap, sym, ◌∙◌, subst}
use Rattle.std.specs.Prelude.{Option, Some, None, Result, Ok, option_map}
use Rattle.std.specs.Ordering.{nat_cmp}
use Rattle.std.specs.FinMap.{FinMap}
use Rattle.std.proofs.Math.Path.{fun_ext}
use Rattle.commit_laws.proofs.accepted.Blocks.{none_broken, none_least, no_fault}
use Rattle.verdict.specs.Rules.{and_then, finding_or}
use Rattle.verdict.specs.declared.finding.Finding.{Finding}
use Rattle.verdict.specs.declared.finding.Verdict.{Verdict}
use Rattle.verdict.specs.declared.finding.Verdict.TheVariants.{Accept}
use Rattle.accounts.specs.Broken.{broken_finding, is_broken}
use Rattle.accounts.specs.Context.{Context, no_full}
use Rattle.accounts.specs.Kinds.{sector}
use Rattle.accounts.specs.Least.{IsLeastBroken, is_broken_by, least_broken}
use Rattle.accounts.specs.Sums.{total_of}
use Rattle.accounts.specs.declared.account.Account.{Account}
use Rattle.accounts.specs.declared.postings.Posting.{Posting}
use Rattle.accounts.proofs.First.{least_is_least, unposted}
use Rattle.change_records.specs.Affected.{context_with}
use Rattle.records.specs.Contents.{Contents, contents, superblock_in}
use Rattle.records.specs.Context.{context_of, has_sum_free}
use Rattle.records.specs.FullCheck.{checked_with, full_check, verdict_of}
use Rattle.records.specs.Part.{Located}
use Rattle.records.specs.Postings.{account_fault, all_postings}
use Rattle.tree_laws.specs.LivePairs.{Walked, live_in, table_of, walked}
use Rattle.tree_laws.proofs.Treed.{steps_of}
use Rattle.tree_change.proofs.Olds.{same_ok}
use Rattle.span_index.specs.Sectors.{IsFirstBad, is_bad, is_inside, times_of_span}
use Rattle.span_index.specs.declared.span.Run.{Run}
use Rattle.touched_accounts.proofs.LeastTouched.{touched}
use Rattle.touched_accounts.proofs.Moved.{moves}
use Rattle.write_cache.specs.Cache.{overlaid}
use Rattle.commit_laws.specs.Commit.{Commit, CommitLaw, Decides, IsCommit, IsJudged, IsKnown, IsMoved, Known, came_by, context_by, gone_by}
use Rattle.account_tally.specs.Kept.{chosen}
use Rattle.commit_laws.specs.Judged.{IsLeastBad}
use Rattle.commit_laws.specs.Same.{HoldsWalked, records_of}
use Rattle.commit_laws.specs.Sectors.{AreSound}
use Rattle.commit_laws.specs.Steps.{all_posts, spans_of, step_posts}
use Rattle.commit_laws.proofs.at_sectors.Judged.{none, others}
use Rattle.commit_laws.proofs.whole_commits.Named.{inside_found, sound_of}
use Rattle.commit_laws.proofs.whole_commits.Spans.{same_bad, times_moved, total_moved}
use Rattle.commit_laws.proofs.whole_commits.Step.{Between, Laws, Stepped, commit_at, context_at, flags_are, known_at, new_stand, old_stand, own, stepped}

-- ---- the full check by the finding of the accounts

abbrev told : ℕ → Option Finding → Verdict
told generation fault = verdict_of (and_then (finding_or fault (tt {0})) (λ _. Ok generation))

pub full_of : (image : List ℕ) (held : Contents) (fault : Option Finding) → contents image ≡ Ok held
    → account_fault (context_of held) held.records ≡ fault → full_check image ≡ told held.sup.generation fault
unfolding checked_with
full_of image held fault holds is =
    ap (λ (r : Result Contents Finding). verdict_of (and_then r (λ (h : Contents).
    and_then (finding_or (account_fault (context_of h) h.records) (tt {0})) (λ _. Ok h.sup.generation)))) holds
    ∙ ap (told held.sup.generation) is

pub same_fault : (image : List ℕ) (whole : Walked) (held : Contents) → HoldsWalked image whole held
    → account_fault (context_of held) held.records ≡ account_fault (context_at whole) (records_of whole)
same_fault image whole held is =
    λ i. account_fault (record { chunks = is.chunks i; nodesize = (is.sup i).nodesize; sum_free = has_sum_free (is.records i); full = no_full }) (is.records i)

-- nor is one by what is posted but to sectors
none_among : (context : Context) (records : List Located) → ((account : Account) → is_broken_by (all_postings context records) account ≡ false)
    → (account : Account) → is_broken account (total_of (all_posts context records) account) ≡ false
none_among context records sound account = by (account.kind == 5) refl
  where
    by : (b : Bool) → (account.kind == 5) ≡ b → is_broken account (total_of (all_posts context records) account) ≡ false
    by false is = ap (is_broken account) (fun_ext (λ field. sym (others context records account is field))) ∙ sound account
    by true is = ap (is_broken account) (fun_ext (λ field. none context records account is field)) ∙ unposted account

-- the first broken sector inside runs is the least where none is outside
least_bad : (p q : ℕ → Bool) (runs : List Run) (bad : Option ℕ) → ((address : ℕ) → p address ≡ q address)
    → ((address : ℕ) → is_inside runs address ≡ false → q address ≡ false) → IsFirstBad p runs bad → IsLeastBad q bad
least_bad p q runs None same outside is = λ address whole. by address whole (is_inside runs address) refl
  where
    by : (address : ℕ) → address % 4096 ≡ 0 → (b : Bool) → is_inside runs address ≡ b → q address ≡ false
    by address whole true inside = sym (same address) ∙ is address whole inside
    by address whole false out = outside address out
least_bad p q runs (Some least) same outside is = (
  is.0,
  sym (same least) ∙ is.2,
  λ address whole less.
      elim (is_inside runs address) as (λ b. is_inside runs address ≡ b → q address ≡ false)
      [ true ↦ λ inside. sym (same address) ∙ is.3 address whole inside less | false ↦ λ out. outside address out ] refl,
)

-- ---- a commit between two images by their walks

module _ (laws : Laws) (image : List ℕ) (pending : FinMap nat_cmp ℕ) (old new : Walked) (c : Commit)
    (between : Between image pending old new c.change c.changes) where
  abbrev judged_image : List ℕ
  judged_image = overlaid pending 0 image

  old_holds : (held : Contents) × (contents image ≡ Ok held) × HoldsWalked image old held
  old_holds = laws.held image old between.was

  new_holds : (held : Contents) × (contents judged_image ≡ Ok held) × HoldsWalked judged_image new held
  new_holds = laws.held judged_image new between.is

  module _ (before after : Contents) (holds_before : contents image ≡ Ok before) (holds_after : contents judged_image ≡ Ok after)
      (old_is : HoldsWalked image old before) (new_is : HoldsWalked judged_image new after) where
    abbrev k : Known
    k = known_at old before.roots

    abbrev next : Known
    next = known_at new after.roots

    abbrev now : Commit
    now = commit_at new.sup c

    old_sound : AreSound old.sup.nodesize (records_of old)
    old_sound = sound_of old (old_stand laws image pending old new before.roots c between)

    new_sound : AreSound new.sup.nodesize (records_of new)
    new_sound = sound_of new (new_stand laws image pending old new before.roots c between)

    -- no account of the old image is broken
    old_fine : (account : Account) → is_broken_by (all_postings (context_at old) (records_of old)) account ≡ false
    old_fine =
        none_broken (all_postings (context_at old) (records_of old))
        (sym (same_fault image old before old_is)
        ∙ no_fault before.sup.generation between.generation (account_fault (context_of before) before.records)
        (sym (full_of image before (account_fault (context_of before) before.records) holds_before refl) ∙ between.accepted))

    old_sectors : (address : ℕ) → is_bad (context_at old) (spans_of old.sup.nodesize (records_of old)) address ≡ false
    unfolding is_bad
    old_sectors address =
        ap (is_broken (sector address)) (fun_ext (λ field. sym (laws.sectors (context_at old) (records_of old) address field old_sound)))
        ∙ old_fine (sector address)

    module _ (by : Stepped laws image pending old new before.roots c between) where
      -- the next image is known by what is moved
      next_is : (moved : Known) → IsMoved k now moved → moved ≡ next
      next_is moved is =
          let sup : moved.sup ≡ new.sup = is.sup in
          let chunks : moved.chunks ≡ new.chunks = is.chunks ∙ between.change_is.map in
          let roots : moved.roots ≡ after.roots =
          is.roots ∙ same_ok c.change.roots.items after.roots (sym between.roots_are ∙ new_is.roots) in
          let free : moved.free ≡ has_sum_free (records_of new) =
          fun_ext (λ tree. fun_ext (λ ino. is.free tree ino ∙ sym (flags_are laws image pending old new before.roots c between tree ino))) in
          let full : moved.full ≡ no_full = fun_ext is.full in
          let pairs : moved.pairs ≡ table_of (live_in new.seen) =
          fun_ext (λ tree. fun_ext (λ address. is.pairs tree address
          ∙ laws.table_moved image pending old new c.change (table_of (live_in old.seen)) tree address between.was between.is between.change_is
          (λ t a. refl))) in
          let context : context_by moved ≡ context_at new = λ i. context_with (chunks i) ((sup i).nodesize) (free i) in
          let posts = laws.posts (context_at old) (context_at new) (records_of old) (records_of new) (gone_by k now) (came_by now) c.refs by.step in
          let shows = laws.spans (context_at old) (context_at new) (records_of old) (records_of new) (gone_by k now) (came_by now) c.refs by.step in
          let sums : moved.sums ≡ total_of (all_posts (context_at new) (records_of new)) =
          fun_ext (λ account. fun_ext (λ field. is.sums account field
          ∙ ap (λ (x : Context). (k.sums account field - total_of (step_posts (context_at old) (gone_by k now) c.refs) account field)
          + total_of (step_posts x (came_by now) c.refs) account field) context
          ∙ sym (total_moved (all_posts (context_at old) (records_of old)) (all_posts (context_at new) (records_of new))
          (step_posts (context_at old) (gone_by k now) c.refs) (step_posts (context_at new) (came_by now) c.refs) posts account field))) in
          let spans : moved.spans ≡ times_of_span (spans_of new.sup.nodesize (records_of new)) =
          fun_ext (λ span. is.spans span
          ∙ sym (times_moved (spans_of old.sup.nodesize (records_of old)) (spans_of new.sup.nodesize (records_of new))
          (spans_of old.sup.nodesize (gone_by k now)) (spans_of new.sup.nodesize (came_by now)) shows span)) in
          λ i. record { sup = sup i; chunks = chunks i; roots = roots i; free = free i; full = full i; pairs = pairs i; sums = sums i; spans = spans i }

      -- the finding of the accounts of the next image
      fault_is : (runs : List Run) (bad : Option ℕ) (least : Option Account) → IsJudged k now next runs bad least
          → account_fault (context_at new) (records_of new) ≡ option_map broken_finding (chosen bad least)
      fault_is runs bad least is =
          let step = by.step in
          let posts = laws.posts (context_at old) (context_at new) (records_of old) (records_of new) (gone_by k now) (came_by now) c.refs step in
          let inside =
          inside_found (table_of (live_in old.seen)) old c.refs (old_stand laws image pending old new before.roots c between)
          (own laws image pending old new before.roots c between) by.otherwise runs (gone_by k now) step.found step.staying step.old step.names
          is.found in
          let outside : (address : ℕ) → is_inside runs address ≡ false → is_bad (context_at new) (spans_of new.sup.nodesize (records_of new)) address ≡ false =
          λ address out.
          laws.runs (context_at old) (context_at new) (records_of old) (records_of new) (gone_by k now) (came_by now) c.refs runs step old_sound new_sound
          is.gone inside is.came address out
          ∙ old_sectors address in
          laws.judged (context_at new) (records_of new) bad least new_sound
          (least_bad (is_bad (context_at new) is.spans) (is_bad (context_at new) (spans_of new.sup.nodesize (records_of new))) runs bad
          (same_bad (context_at new) is.spans (spans_of new.sup.nodesize (records_of new)) is.times) outside is.bad_is)
          (touched (total_of (all_posts (context_at old) (records_of old))) (total_of (all_posts (context_at new) (records_of new)))
          (step_posts (context_at old) (gone_by k now) c.refs) (step_posts (context_at new) (came_by now) c.refs) least
          (moves (all_posts (context_at old) (records_of old)) (all_posts (context_at new) (records_of new))
          (step_posts (context_at old) (gone_by k now) c.refs) (step_posts (context_at new) (came_by now) c.refs) posts)
          (none_among (context_at old) (records_of old) old_fine) is.least_is)

      -- that finding is the verdict, and without one the next image is known
      decide : (chosen : Option Account) → account_fault (context_at new) (records_of new) ≡ option_map broken_finding chosen
          → Decides judged_image now next chosen
      decide (Some account) is =
          full_of judged_image after (Some (broken_finding account)) holds_after (same_fault judged_image new after new_is ∙ is)
      decide None is =
          let accepted : full_check judged_image ≡ Accept new.sup.generation =
          full_of judged_image after None holds_after (same_fault judged_image new after new_is ∙ is)
          ∙ (λ i. Accept ((new_is.sup i).generation)) in (
            accepted,
            record {
              bases = record {
                generation = new.sup.generation;
                accepted = accepted;
                held = after;
                holds = holds_after;
                super_is = sym new_is.sup;
                chunks_are = sym new_is.chunks;
                roots_are = refl;
                free_are = λ tree ino. ap (λ (rs : List Located). has_sum_free rs tree ino) (sym new_is.records);
                full_are = λ address. refl;
                trees = new;
                walks = between.is;
                pairs_are = λ tree address. refl;
              };
              sums = λ account field. ap (λ (rs : List Located). total_of (all_posts (context_at new) rs) account field) (sym new_is.records);
              spans = λ span. ap (λ (rs : List Located). times_of_span (spans_of new.sup.nodesize rs) span) (sym new_is.records);
            },
          )

      decided : (moved : Known) (runs : List Run) (bad : Option ℕ) (least : Option Account) → IsMoved k now moved → IsJudged k now moved runs bad least
          → Decides judged_image now moved (chosen bad least)
      decided moved runs bad least is judged =
          let same : moved ≡ next = next_is moved is in
          subst (λ (n : Known). Decides judged_image now n (chosen bad least)) (sym same)
          (decide (chosen bad least)
          (fault_is runs bad least (subst (λ (n : Known). IsJudged k now n runs bad least) same judged)))

-- ---- what is known and what changes, by the walks

pub ok_same : {X E : Type 0} (x : Result X E) (a b : X) → x ≡ Ok a → x ≡ Ok b → a ≡ b
ok_same x a b first second = cc

-- what is known of an image is what its walks come to
pub known_same : (image : List ℕ) (k : Known) (old : Walked) (held : Contents) → IsKnown image k → walked image ≡ Ok old → contents image ≡ Ok held
    → HoldsWalked image old held → k ≡ known_at old held.roots
known_same image k old held known was holds is =
    let bases = known.bases in
    let same : bases.held ≡ held = ok_same (contents image) bases.held held bases.holds holds in
    let tree : bases.trees ≡ old = ok_same (walked image) bases.trees old bases.walks was in
    let sup : k.sup ≡ old.sup = bases.super_is ∙ ap (λ (h : Contents). h.sup) same ∙ is.sup in
    let chunks : k.chunks ≡ old.chunks = bases.chunks_are ∙ ap (λ (h : Contents). h.chunks) same ∙ is.chunks in
    let roots : k.roots ≡ held.roots = bases.roots_are ∙ ap (λ (h : Contents). h.roots) same in
    let records : bases.held.records ≡ records_of old = ap (λ (h : Contents). h.records) same ∙ is.records in
    let free : k.free ≡ has_sum_free (records_of old) =
    fun_ext (λ tree. fun_ext (λ ino. bases.free_are tree ino ∙ ap (λ (rs : List Located). has_sum_free rs tree ino) records)) in
    let full : k.full ≡ no_full = fun_ext bases.full_are in
    let pairs : k.pairs ≡ table_of (live_in old.seen) =
    fun_ext (λ t. fun_ext (λ a. bases.pairs_are t a ∙ ap (λ (w : Walked). table_of (live_in w.seen) t a) tree)) in
    let sums : k.sums ≡ total_of (all_posts (context_at old) (records_of old)) =
    fun_ext (λ account. fun_ext (λ field. known.sums account field
    ∙ (λ i. total_of (all_posts (context_with (chunks i) ((sup i).nodesize) (free i)) (records i)) account field))) in
    let spans : k.spans ≡ times_of_span (spans_of old.sup.nodesize (records_of old)) =
    fun_ext (λ span. known.spans span ∙ (λ i. times_of_span (spans_of ((sup i).nodesize) (records i)) span)) in
    λ i. record { sup = sup i; chunks = chunks i; roots = roots i; free = free i; full = full i; pairs = pairs i; sums = sums i; spans = spans i }

-- a promise of what is known and what changes
abbrev IsDecided : List ℕ → FinMap nat_cmp ℕ → Known → Known → List Run → Option ℕ → Option Account → Commit → Type 0
IsDecided image pending k next runs bad least c =
    IsCommit image pending k c → IsMoved k c next → IsJudged k c next runs bad least → Decides (overlaid pending 0 image) c next (chosen bad least)

pub commit : Laws → CommitLaw
commit laws image pending k next c runs bad least known is moved judged =
    let judged_image = overlaid pending 0 image in
    let old = is.change_is.0 in
    let new = is.change_is.1 in
    let was = is.change_is.2 in
    let will = is.change_is.3 in
    let change_is = is.change_is.4 in
    let old_held = laws.held image old was in
    let new_held = laws.held judged_image new will in
    let same : k ≡ known_at old old_held.0.roots = known_same image k old old_held.0 known was old_held.1 old_held.2 in
    let fresh : c.fresh ≡ new.sup = ok_same (superblock_in judged_image) c.fresh new.sup is.super_is (steps_of judged_image new will).sup_is in
    let now : c ≡ commit_at new.sup c = λ i. record { fresh = fresh i; change = c.change; changes = c.changes; refs = c.refs } in
    let base : IsDecided image pending (known_at old old_held.0.roots) next runs bad least (commit_at new.sup c) =
    λ is' moved' judged'.
    let between : Between image pending old new c.change c.changes = record {
      generation = known.bases.generation;
      accepted = known.bases.accepted;
      was = was;
      is = will;
      change_is = change_is;
      roots_are = is.change_is.5;
      says = is'.changes_are;
    } in
    decided laws image pending old new c between old_held.0 new_held.0 old_held.1 new_held.1 old_held.2 new_held.2
    (stepped laws image pending old new old_held.0.roots c between is'.refs_are) next runs bad least moved' judged' in
    (subst (λ (n : Known). IsDecided image pending n next runs bad least c) (sym same)
    (subst (λ (n : Commit). IsDecided image pending (known_at old old_held.0.roots) next runs bad least n) (sym now) base))
    is moved judged
