-- What a commit takes away and brings is sound, and what it takes away is among what stands.
use Rattle.std.proofs.Common.{◌≡◌, ℕ, ◌+◌, List, ◌++◌, cond, sym, ◌∙◌, subst, arith}
use Rattle.std.specs.Prelude.{◌≤◌}
use Rattle.std.specs.List.{sum_by}
use Rattle.std.specs.List.Sorted.{IsPermutation}
use Rattle.std.specs.Ordering.{nat_cmp}
use Rattle.std.specs.FinMap.{FinMap}
use Rattle.std.proofs.lemmas.List.Elements.{All-contains, Contains-append_left}
use Rattle.std.proofs.lemmas.List.Sorted.{Contains-permutation, IsPermutation-sym, sum_by-IsPermutation}
use Rattle.std.proofs.lemmas.List.Sums.{sum_by-append}
use Rattle.commit_laws.proofs.named_items.Found.{all_of as each_of}
use Rattle.touched_accounts.proofs.Moved.{total_permuted}
use Rattle.accounts.specs.Sums.{total_of}
use Rattle.accounts.specs.declared.account.Account.{Account}
use Rattle.accounts.specs.declared.postings.Posting.{Posting}
use Rattle.accounts.proofs.Kept.{total_joined}
use Rattle.change_records.specs.Spans.{IsLawfulIn}
use Rattle.records.specs.Contents.{superblock_in}
use Rattle.records.specs.Part.{IsLawful, Located}
use Rattle.tree_laws.specs.LivePairs.{Walked}
use Rattle.tree_laws.proofs.Treed.{steps_of}
use Rattle.span_index.specs.Order.{is_same}
use Rattle.span_index.specs.Sectors.{times_of_span}
use Rattle.span_index.specs.declared.span.Span.{Span}
use Rattle.touched_accounts.specs.Sums.{PostTheSame}
use Rattle.write_cache.specs.Cache.{overlaid}
use Rattle.commit_laws.specs.Commit.{Commit, IsCommit, Known, came_by, gone_by}
use Rattle.commit_laws.specs.Same.{records_of}
use Rattle.commit_laws.specs.Sectors.{AreSound}
use Rattle.commit_laws.specs.Sound.{IsSound, SoundLaw}
use Rattle.commit_laws.specs.Steps.{ShowTheSame, all_posts, spans_of, step_posts}
use Rattle.commit_laws.proofs.whole_commits.Commit.{known_same, ok_same}
use Rattle.commit_laws.proofs.whole_commits.Named.{sound_of}
use Rattle.commit_laws.proofs.whole_commits.Step.{Between, Laws, Stepped, commit_at, context_at, known_at, new_stand, old_stand, stepped}
use Rattle.volume_items.specs.declared.root_at.RootAt.{RootAt}

-- ---- what is taken away

within : (b g s : ℕ) → b ≡ g + s → g ≤ b
within b g s is = omega (arith, is)

times_within : (before after gone came : List Span) → ShowTheSame before after gone came → (span : Span)
    → times_of_span gone span ≤ times_of_span before span
unfolding times_of_span
times_within before after gone came is span =
    let once : Span → ℕ = λ z. cond (is_same span z) 1 0 in
    within (sum_by once before) (sum_by once gone) (sum_by once is.same)
    (sym (sum_by-IsPermutation once before (gone ++ is.same) is.old) ∙ sum_by-append once gone is.same)

total_within : (before after gone came : List Posting) → PostTheSame before after gone came → (account : Account) (field : ℕ)
    → total_of gone account field ≤ total_of before account field
total_within before after gone came is account field =
    within (total_of before account field) (total_of gone account field) (total_of is.same account field)
    (total_permuted before (gone ++ is.same) account field is.old ∙ total_joined gone is.same account field)

-- what is among sound records is sound
sound_among : (n : ℕ) (all some rest : List Located) → AreSound n all → IsPermutation all (some ++ rest) → AreSound n some
sound_among n all some rest sound perm =
    each_of (λ (one : Located). IsLawfulIn n one one.part × IsLawful one.part) some
    (λ one has. All-contains (λ (x : Located). IsLawfulIn n x x.part × IsLawful x.part) all one sound
    (Contains-permutation (some ++ rest) all one (IsPermutation-sym all (some ++ rest) perm) (Contains-append_left some rest one has)))

-- ---- a commit between two images by their walks

sound_by : (laws : Laws) (image : List ℕ) (pending : FinMap nat_cmp ℕ) (old new : Walked) (olds : List RootAt) (c : Commit)
    (between : Between image pending old new c.change c.changes) → Stepped laws image pending old new olds c between
    → IsSound (known_at old olds) (commit_at new.sup c)
sound_by laws image pending old new olds c between by =
    let step = by.step in
    let gone = gone_by (known_at old olds) (commit_at new.sup c) in
    let came = came_by (commit_at new.sup c) in
    let n = old.sup.nodesize in
    let m = new.sup.nodesize in
    let posts = laws.posts (context_at old) (context_at new) (records_of old) (records_of new) gone came c.refs step in
    let shows = laws.spans (context_at old) (context_at new) (records_of old) (records_of new) gone came c.refs step in
    record {
      gone = sound_among n (records_of old) gone (step.found ++ step.staying) (sound_of old (old_stand laws image pending old new olds c between))
          step.old;
      came = sound_among m (records_of new) came step.others (sound_of new (new_stand laws image pending old new olds c between)) step.new;
      sums = λ account field.
          total_within (all_posts (context_at old) (records_of old)) (all_posts (context_at new) (records_of new))
          (step_posts (context_at old) gone c.refs) (step_posts (context_at new) came c.refs) posts account field;
      spans = λ span.
          times_within (spans_of n (records_of old)) (spans_of m (records_of new)) (spans_of n gone) (spans_of m came) shows span;
    }

-- a promise of what is known and what changes
abbrev IsFit : List ℕ → FinMap nat_cmp ℕ → Known → Commit → Type 0
IsFit image pending k c = IsCommit image pending k c → IsSound k c

pub sound : Laws → SoundLaw
sound laws image pending k c known is =
    let judged_image = overlaid pending 0 image in
    let old = is.change_is.0 in
    let new = is.change_is.1 in
    let was = is.change_is.2 in
    let will = is.change_is.3 in
    let held = laws.held image old was in
    let same : k ≡ known_at old held.0.roots = known_same image k old held.0 known was held.1 held.2 in
    let fresh : c.fresh ≡ new.sup = ok_same (superblock_in judged_image) c.fresh new.sup is.super_is (steps_of judged_image new will).sup_is in
    let now : c ≡ commit_at new.sup c = λ i. record { fresh = fresh i; change = c.change; changes = c.changes; refs = c.refs } in
    let base : IsFit image pending (known_at old held.0.roots) (commit_at new.sup c) =
    λ is'.
    let between : Between image pending old new c.change c.changes = record {
      generation = known.bases.generation;
      accepted = known.bases.accepted;
      was = was;
      is = will;
      change_is = is.change_is.4;
      roots_are = is.change_is.5;
      says = is'.changes_are;
    } in
    sound_by laws image pending old new held.0.roots c between (stepped laws image pending old new held.0.roots c between is'.refs_are) in
    (subst (λ (n : Known). IsFit image pending n c) (sym same)
    (subst (λ (n : Commit). IsFit image pending (known_at old held.0.roots) n) (sym now) base)) is
