-- A commit that is tried: what its moves make of sums and spans, the finding then, and that it is the verdict.
use Rattle.std.specs.Prelude.{◌≡◌, ℕ, ◌+◌, ◌||◌, Bool, not, List, ◌++◌, length, Option, Some, None, option_map}
use Rattle.std.specs.List.{count_by}
use Rattle.std.specs.Ordering.{nat_cmp}
use Rattle.std.specs.FinMap.{FinMap}
use Rattle.verdict.specs.declared.finding.Finding.{Finding}
use Rattle.verdict.specs.declared.finding.Verdict.TheVariants.{Accept, Found}
use Rattle.accounts.specs.Broken.{broken_finding}
use Rattle.accounts.specs.Context.{Context}
use Rattle.accounts.specs.Tally.{Sums}
use Rattle.accounts.specs.declared.account.Account.{Account}
use Rattle.change_records.specs.SumFree.{flags_after}
use Rattle.chunk_map.specs.Roots.{KeysAscend}
use Rattle.live_index.specs.declared.live.Live.{Live}
use Rattle.live_maker.specs.Tables.{with_pairs, without_pairs}
use Rattle.records.specs.FullCheck.{full_check}
use Rattle.span_index.specs.Sectors.{IsFirstBad, is_bad, times_of_span}
use Rattle.span_index.specs.Spans.{Table}
use Rattle.span_index.specs.declared.span.Span.{Span}
use Rattle.touched_accounts.specs.Least.{IsLeastTouched}
use Rattle.touched_accounts.specs.Sums.{less_all, with_all}
use Rattle.touched_blocks.specs.Touched.{stays_in_place, touches_block, written_in}
use Rattle.write_cache.specs.Cache.{overlaid}
use Rattle.commit_laws.specs.Commit.{Commit, IsCommit, IsKnown, IsMoved, Known}
use Rattle.account_tally.specs.Kept.{chosen}
use Rattle.commit_judge.specs.Counts.{blocks_between, hot_between}
use Rattle.commit_judge.specs.Moves.{AreMovesOf, context_after}
use Rattle.commit_judge.specs.Tables.{with_spans, without_spans}
use Rattle.commit_judge.specs.declared.moves.Moves.{Moves}

-- what is known, moved by a commit, with these sums and spans
abbrev pub next_of : Known → Commit → Sums → Table → Known
next_of k c sums spans = record {
  sup = c.fresh;
  chunks = c.change.map;
  roots = c.change.roots.items;
  free = flags_after c.change.old_items.items c.change.new_items.items c.changes k.free;
  full = k.full;
  pairs = with_pairs (with_pairs (without_pairs k.pairs c.change.old_blocks.items) c.change.new_blocks.items) c.change.moved.items;
  sums = sums;
  spans = spans;
}

-- the finding of the lesser of the least broken sector inside the runs, and of the least broken account to which the moves post
pub record IsLeastOf (sums : Sums) (table : Table) (context : Context) (moves : Moves) (finding : Option Finding) : Type 0 where
  pub bad : Option ℕ
  pub least : Option Account
  pub spans : List Span
  pub times : (span : Span) → times_of_span spans span ≡ table span
  pub bad_is : IsFirstBad (is_bad context spans) moves.runs.items bad
  pub least_is : IsLeastTouched sums (moves.gone ++ moves.came) least
  pub found : finding ≡ option_map broken_finding (chosen bad least)

-- the moves of a commit, what they make of sums and spans, and the finding then
pub record IsTried (k : Known) (c : Commit) (moves : Moves) (sums : Sums) (table : Table) (finding : Option Finding) : Type 0 where
  pub moves_are : AreMovesOf k c moves
  pub sums_are : sums ≡ with_all (less_all k.sums moves.gone) moves.came
  pub spans_are : table ≡ with_spans (without_spans k.spans moves.gone_spans.items) moves.came_spans.items
  pub found : IsLeastOf sums table (context_after k c) moves finding

-- with a finding it is the full check's, and the moves can be undone; without one the full check accepts, and what is known is moved
abbrev pub TriedSays : List ℕ → Known → Commit → Moves → Sums → Table → Option Finding → Type 0
TriedSays judged k c moves sums table (Some finding) =
    (full_check judged ≡ Found finding) × (with_all (less_all sums moves.came) moves.gone ≡ k.sums)
    × (with_spans (without_spans table moves.came_spans.items) moves.gone_spans.items ≡ k.spans)
TriedSays judged k c moves sums table None =
    (full_check judged ≡ Accept c.fresh.generation) × IsKnown judged (next_of k c sums table) × KeysAscend c.change.roots.items
    × IsMoved k c (next_of k c sums table)

-- a commit that is tried is decided
abbrev pub TriedLaw : Type 0
TriedLaw = (image : List ℕ) (pending : FinMap nat_cmp ℕ) (k : Known) (c : Commit) (moves : Moves) (sums : Sums) (table : Table)
    (finding : Option Finding) → IsKnown image k → IsCommit image pending k c
    → IsTried k c moves sums table finding → TriedSays (overlaid pending 0 image) k c moves sums table finding

-- whether a stop may harm the block of a live pair: a pending write touches a byte of a copy, or the new chunks have it elsewhere
abbrev pub is_hot_by : Known → Commit → FinMap nat_cmp ℕ → ℕ → Live → Bool
is_hot_by k c pending end live =
    touches_block (written_in pending) k.chunks k.sup.nodesize end live.address
    || not (stays_in_place k.chunks c.change.map k.sup.nodesize end live.address)

-- the blocks that a commit changes are those that are not shared, and the hot ones among the old of them are all that are
abbrev pub CountsLaw : Type 0
CountsLaw = (image : List ℕ) (pending : FinMap nat_cmp ℕ) (k : Known) (c : Commit) → IsKnown image k → IsCommit image pending k c
    → (length c.change.old_blocks.items + length c.change.new_blocks.items ≡ blocks_between image pending)
    × (count_by (is_hot_by k c pending (length image)) c.change.old_blocks.items ≡ hot_between image pending)
