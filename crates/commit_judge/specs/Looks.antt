-- How many looks it costs to judge what a commit changes, once that is found.
use Rattle.std.specs.Prelude.{◌≡◌, ℕ, ◌+◌, ◌*◌, ◌<◌, ◌≤◌, Bool, ◌&&◌, nat_lt, List, length}
use Rattle.std.specs.List.{Contains, count_by}
use Rattle.span_index.specs.Sectors.{meets, times_of_span}
use Rattle.span_index.specs.Spans.{Table, end_of}
use Rattle.span_index.specs.declared.span.Span.{Span}
use Rattle.tree_change.specs.declared.change.Change.{Change}
use Rattle.commit_laws.specs.Commit.{Commit, Known, came_by, context_by, gone_by}
use Rattle.commit_laws.specs.Sound.{IsSound, SpansStand}
use Rattle.commit_laws.specs.Steps.{spans_of, step_posts}
use Rattle.commit_judge.specs.Moves.{AreMovesOf, HaveNames, NameSpans, any_changed, context_after}
use Rattle.commit_judge.specs.Tables.{with_spans, without_spans}
use Rattle.commit_judge.specs.declared.judge.Judged.{Judged}
use Rattle.commit_judge.specs.declared.judge.Judged.TheVariants.{Passed, Rejected}
use Rattle.commit_judge.specs.declared.moves.Moves.{Moves}

-- to apply moves to the tables, or to undo them: one for each posting and each span
abbrev pub looks_to_apply : Moves → ℕ
looks_to_apply moves = length moves.gone + length moves.came + length moves.gone_spans.items + length moves.came_spans.items

-- To find the least broken account behind the moves: one for each posting, one for each span that meets one of the runs of sectors, and three
-- for each run and three more. The spans are those of a table, each as often as it stands.
pub record FewToFind (table : Table) (moves : Moves) (before now : ℕ) : Type 0 where
  pub spans : List Span
  pub times : (span : Span) → times_of_span spans span ≡ table span
  pub few : now ≤ before + length moves.gone + length moves.came + count_by (meets moves.runs.items) spans + 3 * length moves.runs.items + 3

-- to move the table of live pairs: one for each pair that is not shared, and each shared one that is shifted
abbrev pub looks_to_pass : Change → ℕ
looks_to_pass change = length change.old_blocks.items + length change.new_blocks.items + length change.moved.items

-- To judge a plan that passes: one for each kept item that posts otherwise, and those to apply the moves, to find the least broken account,
-- and to move the pairs. The table is that of the spans once the moves are applied.
pub record FewToJudge (k : Known) (c : Commit) (before now : ℕ) : Type 0 where
  pub moves : Moves
  pub are : AreMovesOf k c moves
  pub table : Table
  pub table_is : table ≡ with_spans (without_spans k.spans moves.gone_spans.items) moves.came_spans.items
  pub found : ℕ
  pub few : FewToFind table moves (before + length c.refs + looks_to_apply moves) found
  pub rest : now ≤ found + looks_to_pass c.change

-- a judgement that passes costs no more
abbrev pub FewWherePassed : Known → Commit → ℕ → ℕ → Judged → Type 0
FewWherePassed k c before now (Passed generation blocks hot) = FewToJudge k c before now
FewWherePassed k c before now (Rejected finding) = Unit {0}

-- how many postings a commit takes away and brings, and how many spans
abbrev pub changed_posts : Known → Commit → ℕ
changed_posts k c = length (step_posts (context_by k) (gone_by k c) c.refs) + length (step_posts (context_after k c) (came_by c) c.refs)

abbrev pub changed_spans : Known → Commit → ℕ
changed_spans k c = length (spans_of k.sup.nodesize (gone_by k c)) + length (spans_of c.fresh.nodesize (came_by c))

-- the spans that are known, moved by a commit
abbrev pub table_after : Known → Commit → Table
table_after k c = with_spans (without_spans k.spans (spans_of k.sup.nodesize (gone_by k c))) (spans_of c.fresh.nodesize (came_by c))

-- whether two spans have a sector in common, where both begin at one: each begins before the other ends, and neither is empty
abbrev pub have_common : Span → Span → Bool
have_common one other = nat_lt one.first (end_of other) && (nat_lt other.first (end_of one) && (nat_lt 0 one.sectors && nat_lt 0 other.sectors))

-- whether a span has a sector in common with one that a commit changes: one that is gone or came and counts, or that was found
abbrev pub meets_changed : Known → Commit → List Span → Span → Bool
meets_changed k c found span =
    any_changed (context_by k) (context_after k c) (spans_of k.sup.nodesize (gone_by k c)) (spans_of c.fresh.nodesize (came_by c)) found
    (have_common span)

-- To judge a plan that passes there are no more looks than four for each kept item that posts otherwise, two for each posting that is gone
-- or came, four for each span that is gone or came, one for each live pair that is put or taken, and three more; and one for each span that
-- stands behind the moves and has a sector in common with one that the commit changes. One span at most is found for each of those items, and
-- stands before the moves.
pub record AreFewLooks (k : Known) (c : Commit) (before now : ℕ) : Type 0 where
  pub found : List Span
  pub found_stand : (span : Span) → Contains found span → 0 < k.spans span
  pub found_named : NameSpans k.spans k.pairs c.refs → HaveNames k.pairs c.refs found
  pub few_found : length found ≤ length c.refs
  pub spans : List Span
  pub times : (span : Span) → times_of_span spans span ≡ table_after k c span
  pub few : now
      ≤ before + 4 * length c.refs + 2 * changed_posts k c + 4 * changed_spans k c + count_by (meets_changed k c found) spans + 3 + looks_to_pass c.change

-- what it costs to judge what a commit changes of a sound table is bounded by what the commit changes
abbrev pub FewLooksLaw : Type 0
FewLooksLaw = (k : Known) (c : Commit) (before now : ℕ) → SpansStand k → IsSound k c → FewToJudge k c before now → AreFewLooks k c before now
