-- A commit that is tried is decided.
use Rattle.std.proofs.Common.{◌≡◌, ℕ, ◌+◌, ◌-◌, ◌≤◌, List, ◌++◌, refl, ap, sym, ◌∙◌, subst, arith}
use Rattle.std.specs.Prelude.{Option, Some, None, Ok, option_map}
use Rattle.std.specs.Ordering.{nat_cmp}
use Rattle.std.specs.FinMap.{FinMap}
use Rattle.std.proofs.Math.Path.{fun_ext}
use Rattle.commit_laws.proofs.other_images.Frame.{same_held}
use Rattle.verdict.specs.declared.finding.Finding.{Finding}
use Rattle.accounts.specs.Broken.{broken_finding}
use Rattle.accounts.specs.Sums.{total_of}
use Rattle.accounts.specs.Tally.{Sums}
use Rattle.accounts.specs.declared.account.Account.{Account}
use Rattle.accounts.specs.declared.postings.Posting.{Posting}
use Rattle.chunk_map.specs.Roots.{KeysAscend}
use Rattle.records.specs.Contents.{Contents, contents}
use Rattle.span_index.specs.Sectors.{times_of_span}
use Rattle.span_index.specs.Spans.{Table}
use Rattle.span_index.specs.declared.span.Span.{Span}
use Rattle.touched_accounts.specs.Least.{IsLeastTouched}
use Rattle.touched_accounts.specs.Sums.{less_all, with_all}
use Rattle.write_cache.specs.Cache.{overlaid}
use Rattle.commit_laws.specs.Commit.{Commit, CommitLaw, Decides, IsCommit, IsJudged, IsKnown, IsMoved, Known, came_by, context_by, gone_by}
use Rattle.account_tally.specs.Kept.{chosen}
use Rattle.commit_laws.specs.Same.{HeldLaw}
use Rattle.commit_laws.specs.Sectors.{CountedInside}
use Rattle.commit_laws.specs.Sound.{AscendLaw, IsSound, KnownSpansLaw, SoundLaw}
use Rattle.commit_laws.specs.Steps.{spans_of, step_posts}
use Rattle.commit_judge.specs.Judging.{IsTried, TriedLaw, TriedSays, next_of}
use Rattle.commit_judge.specs.Moves.{AreSpansMoved}
use Rattle.commit_judge.specs.Tables.{with_spans, without_spans}
use Rattle.commit_judge.specs.declared.moves.Moves.{Moves}

-- the laws that it rests on
pub record Laws : Type 0 where
  pub commit : CommitLaw
  pub sound : SoundLaw
  pub spans : KnownSpansLaw
  pub ascend : AscendLaw
  pub held : HeldLaw

-- what is taken and put is undone by taking and putting
back : (k g c : ℕ) → g ≤ k → (((k - g) + c) - c) + g ≡ k
back k g c less = omega (arith, less)

-- the root items that are known of an accepted image ascend
known_ascend : Laws → (image : List ℕ) (k : Known) → IsKnown image k → KeysAscend k.roots
known_ascend laws image k known =
    let b = known.bases in
    let held = laws.held image b.trees b.walks in
    subst KeysAscend (sym (b.roots_are ∙ ap (λ (h : Contents). h.roots) (same_held image b.held held.0 b.holds held.1)))
    (laws.ascend image b.trees held.0.roots b.walks held.2.roots)

module _ (laws : Laws) (image : List ℕ) (pending : FinMap nat_cmp ℕ) (k : Known) (c : Commit) (moves : Moves) (sums : Sums)
    (table : Table) (finding : Option Finding) (known : IsKnown image k) (commit : IsCommit image pending k c)
    (t : IsTried k c moves sums table finding) where
  abbrev next : Known
  next = next_of k c sums table

  sound : IsSound k c
  sound = laws.sound image pending k c known commit

  shown : AreSpansMoved k c moves.gone_spans.items moves.came_spans.items moves.runs.items
  shown = t.moves_are.spans (laws.spans image k known) sound

  sums_moved : (account : Account) (field : ℕ) → sums account field
      ≡ (k.sums account field - total_of (step_posts (context_by k) (gone_by k c) c.refs) account field)
      + total_of (step_posts (context_by next) (came_by c) c.refs) account field
  unfolding with_all less_all
  sums_moved account field =
      ap (λ (s : Sums). s account field) t.sums_are
      ∙ (λ i. (k.sums account field - total_of (t.moves_are.gone i) account field) + total_of (t.moves_are.came i) account field)

  spans_moved : (span : Span) → table span
      ≡ (k.spans span - times_of_span (spans_of k.sup.nodesize (gone_by k c)) span) + times_of_span (spans_of c.fresh.nodesize (came_by c)) span
  unfolding with_spans without_spans
  spans_moved span =
      ap (λ (s : Table). s span) t.spans_are
      ∙ (λ i. (k.spans span - times_of_span (shown.gone_is i) span) + times_of_span (shown.came_is i) span)

  moved : IsMoved k c next
  moved = record {
    sup = refl;
    chunks = refl;
    roots = refl;
    free = λ tree ino. refl;
    full = λ address. refl;
    pairs = λ tree address. refl;
    sums = sums_moved;
    spans = spans_moved;
  }

  judged : IsJudged k c next moves.runs.items t.found.bad t.found.least
  judged = record {
    gone = subst (λ (s : List Span). CountedInside (context_by k) moves.runs.items s) shown.gone_is shown.gone_inside;
    came = subst (λ (s : List Span). CountedInside (context_by next) moves.runs.items s) shown.came_is shown.came_inside;
    found = shown.found_inside;
    spans = t.found.spans;
    times = t.found.times;
    bad_is = t.found.bad_is;
    least_is =
        subst (λ (p : List Posting). IsLeastTouched sums (p ++ step_posts (context_by next) (came_by c) c.refs) t.found.least) t.moves_are.gone
        (subst (λ (p : List Posting). IsLeastTouched sums (moves.gone ++ p) t.found.least) t.moves_are.came t.found.least_is);
  }

  decided : Decides (overlaid pending 0 image) c next (chosen t.found.bad t.found.least)
  decided = laws.commit image pending k next c moves.runs.items t.found.bad t.found.least known commit moved judged

  sums_back : with_all (less_all sums moves.came) moves.gone ≡ k.sums
  unfolding with_all less_all
  sums_back = fun_ext (λ account. fun_ext (λ field.
      ap (λ (s : Sums). (s account field - total_of moves.came account field) + total_of moves.gone account field) t.sums_are
      ∙ back (k.sums account field) (total_of moves.gone account field) (total_of moves.came account field)
      (subst (λ (p : List Posting). total_of p account field ≤ k.sums account field) (sym t.moves_are.gone) (sound.sums account field))))

  spans_back : with_spans (without_spans table moves.came_spans.items) moves.gone_spans.items ≡ k.spans
  unfolding with_spans without_spans
  spans_back = fun_ext (λ span.
      ap (λ (s : Table). (s span - times_of_span moves.came_spans.items span) + times_of_span moves.gone_spans.items span) t.spans_are
      ∙ back (k.spans span) (times_of_span moves.gone_spans.items span) (times_of_span moves.came_spans.items span)
      (subst (λ (p : List Span). times_of_span p span ≤ k.spans span) (sym shown.gone_is) (sound.spans span)))

  by : (chosen : Option Account) → Decides (overlaid pending 0 image) c next chosen
      → TriedSays (overlaid pending 0 image) k c moves sums table (option_map broken_finding chosen)
  by None is = (is.0, is.1, known_ascend laws (overlaid pending 0 image) next is.1, moved)
  by (Some account) is = (is, sums_back, spans_back)

  says : TriedSays (overlaid pending 0 image) k c moves sums table finding
  says =
      subst (λ (f : Option Finding). TriedSays (overlaid pending 0 image) k c moves sums table f) (sym t.found.found)
      (by (chosen t.found.bad t.found.least) decided)

pub tried : Laws → TriedLaw
tried laws image pending k c moves sums table finding known commit t = says laws image pending k c moves sums table finding known commit t
