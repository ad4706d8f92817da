-- What a commit does to accounts and to spans.
use Rattle.std.specs.Prelude.{◌≡◌, ℕ, ◌+◌, ◌%◌, ◌<◌, ◌≤◌, Bool, true, ◌&&◌, ◌||◌, List, length}
use Rattle.std.specs.List.{Contains, list_any}
use Rattle.accounts.specs.Context.{Context}
use Rattle.change_records.specs.Affected.{context_with}
use Rattle.change_records.specs.Search.{SpanNames}
use Rattle.change_records.specs.SumFree.{flags_after}
use Rattle.change_records.specs.declared.item_ref.ItemRef.{ItemRef}
use Rattle.live_index.specs.Pairs.{Pairs}
use Rattle.span_index.specs.Sectors.{AreRunsFrom, counts, has_sector, is_inside}
use Rattle.span_index.specs.Spans.{Table}
use Rattle.span_index.specs.declared.span.Run.{Run}
use Rattle.span_index.specs.declared.span.Span.{Span}
use Rattle.commit_laws.specs.Commit.{AreNamedInside, Commit, Known, came_by, context_by, gone_by}
use Rattle.commit_laws.specs.Sectors.{CountedInside}
use Rattle.commit_laws.specs.Sound.{IsSound, SpansStand}
use Rattle.commit_laws.specs.Steps.{spans_of, step_posts}
use Rattle.commit_judge.specs.declared.moves.Moves.{Moves}

-- the context of the judged image
abbrev pub context_after : Known → Commit → Context
context_after k c =
    context_with c.change.map c.fresh.nodesize (flags_after c.change.old_items.items c.change.new_items.items c.changes k.free)

-- whether one of some spans counts in a context and passes a test
abbrev pub any_counted : Context → (Span → Bool) → List Span → Bool
any_counted context test spans = list_any (λ span. counts context span span.sort && test span) spans

-- whether one of the spans that a commit changes passes a test: one that is gone and counted, one that came and counts, or one that was found
abbrev pub any_changed : Context → Context → List Span → List Span → List Span → (Span → Bool) → Bool
any_changed before after gone came found test =
    any_counted before test gone || (any_counted after test came || list_any test found)

-- each sector inside runs is one of a span that a commit changes, where these are gone, came and were found
abbrev pub AreOfChanged : Context → Context → List Span → List Span → List Span → List Run → Type 0
AreOfChanged before after gone came found runs =
    (address : ℕ) → is_inside runs address ≡ true → address % 4096 ≡ 0
    → any_changed before after gone came found (λ span. has_sector span address) ≡ true

-- each of some names is that of a span of a table
abbrev pub NameSpans : Table → Pairs → List ItemRef → Type 0
NameSpans table pairs refs = (at : ItemRef) → Contains refs at → (span : Span) × (0 < table span) × SpanNames pairs span at

-- each of some spans has one of some names
abbrev pub HaveNames : Pairs → List ItemRef → List Span → Type 0
HaveNames pairs refs spans = (span : Span) → Contains spans span → (at : ItemRef) × Contains refs at × SpanNames pairs span at

-- The spans that a commit takes away and brings, and runs with all sectors of those that count, and of the kept items that post otherwise.
-- One span at most is found for each such item, and stands. The runs have no other sectors, and are no more than the spans and the items.
pub record AreSpansMoved (k : Known) (c : Commit) (gone came : List Span) (runs : List Run) : Type 0 where
  pub gone_is : gone ≡ spans_of k.sup.nodesize (gone_by k c)
  pub came_is : came ≡ spans_of c.fresh.nodesize (came_by c)
  pub gone_inside : CountedInside (context_by k) runs gone
  pub came_inside : CountedInside (context_after k c) runs came
  pub found_inside : AreNamedInside runs k c.refs
  pub found : List Span
  pub found_stand : (span : Span) → Contains found span → 0 < k.spans span
  pub found_named : NameSpans k.spans k.pairs c.refs → HaveNames k.pairs c.refs found
  pub few_found : length found ≤ length c.refs
  pub few_runs : length runs ≤ length gone + length came + length c.refs
  pub only_named : AreOfChanged (context_by k) (context_after k c) gone came found runs

-- These are the moves of a commit: what is gone posts by the old context, what came by the new one.
pub record AreMovesOf (k : Known) (c : Commit) (moves : Moves) : Type 0 where
  pub gone : moves.gone ≡ step_posts (context_by k) (gone_by k c) c.refs
  pub came : moves.came ≡ step_posts (context_after k c) (came_by c) c.refs
  pub spans : SpansStand k → IsSound k c → AreSpansMoved k c moves.gone_spans.items moves.came_spans.items moves.runs.items
  pub ascend : AreRunsFrom 0 moves.runs.items
