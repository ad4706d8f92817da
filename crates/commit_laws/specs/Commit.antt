-- The judgement of the next image, by what is known of an accepted one and by what changes.
use Rattle.std.specs.Prelude.{◌≡◌, ℕ, ◌+◌, ◌-◌, ◌<◌, Bool, true, false, List, [], ◌∷◌, ◌++◌, Option, Some, None, Ok}
use Rattle.std.specs.List.{Contains}
use Rattle.std.specs.Ordering.{nat_cmp}
use Rattle.std.specs.FinMap.{FinMap}
use Rattle.verdict.specs.declared.finding.Verdict.TheVariants.{Accept, Found}
use Rattle.verdict.specs.declared.place.Chunk.{Chunk}
use Rattle.accounts.specs.Broken.{broken_finding}
use Rattle.accounts.specs.Context.{Context}
use Rattle.accounts.specs.Sums.{total_of}
use Rattle.accounts.specs.Tally.{Sums}
use Rattle.accounts.specs.declared.account.Account.{Account}
use Rattle.change_records.specs.Affected.{AreAffected, context_with}
use Rattle.change_records.specs.Refs.{is_named}
use Rattle.change_records.specs.Search.{SpanNames}
use Rattle.change_records.specs.Spans.{AreItemsOf}
use Rattle.change_records.specs.SumFree.{flags_after}
use Rattle.change_records.specs.declared.changes.ItemChange.{ItemChange}
use Rattle.change_records.specs.declared.item_ref.ItemRef.{ItemRef}
use Rattle.live_index.specs.Pairs.{Pairs}
use Rattle.live_maker.specs.Tables.{with_pairs, without_pairs}
use Rattle.records.specs.Contents.{superblock_in}
use Rattle.records.specs.FullCheck.{full_check}
use Rattle.records.specs.Part.{Located}
use Rattle.tree_laws.specs.Shared.{are_read_alike}
use Rattle.span_index.specs.Sectors.{IsFirstBad, is_bad, times_of_span}
use Rattle.span_index.specs.Spans.{Table}
use Rattle.span_index.specs.declared.span.Run.{Run}
use Rattle.span_index.specs.declared.span.Span.{Span}
use Rattle.super_reader.specs.declared.Super.{Super}
use Rattle.touched_accounts.specs.Least.{IsLeastTouched}
use Rattle.touched_blocks.specs.Touched.{written_in}
use Rattle.tree_change.specs.Change.{BasesStand, IsDifference}
use Rattle.tree_change.specs.declared.change.Change.{Change}
use Rattle.tree_change.specs.declared.change.Diff.TheVariants.{Change as Changed}
use Rattle.volume_items.specs.declared.root_at.RootAt.{RootAt}
use Rattle.write_cache.specs.Cache.{overlaid}
use Rattle.account_tally.specs.Kept.{chosen}
use Rattle.commit_laws.specs.Paired.{SayChanges, came_items, gone_items}
use Rattle.commit_laws.specs.Sectors.{AreInside, CountedInside}
use Rattle.commit_laws.specs.Steps.{all_posts, change_records, spans_of, step_posts}

-- what is known of an image, as an index has it
pub record Known : Type 0 where
  pub sup : Super
  pub chunks : List Chunk
  pub roots : List RootAt
  pub free : ℕ → ℕ → Bool
  pub full : ℕ → Bool
  pub pairs : Pairs
  pub sums : Sums
  pub spans : Table

-- the context of an image of which this is known
abbrev pub context_by : Known → Context
context_by k = context_with k.chunks k.sup.nodesize k.free

-- This is known of an accepted image: its superblock, chunks, root items, sum-free inodes, full blocks and live pairs; of each account but sectors its
-- sums; and each span as often as the image's items have it.
pub record IsKnown (image : List ℕ) (k : Known) : Type 0 where
  pub bases : BasesStand image k.sup k.chunks k.roots k.free k.full k.pairs
  pub sums : (account : Account) (field : ℕ) → k.sums account field ≡ total_of (all_posts (context_by k) bases.held.records) account field
  pub spans : (span : Span) → k.spans span ≡ times_of_span (spans_of k.sup.nodesize bases.held.records) span

-- what a commit changes: between the trees, between the items, and of kept items
pub record Commit : Type 0 where
  pub fresh : Super
  pub change : Change
  pub changes : List ItemChange
  pub refs : List ItemRef

-- the records that a commit takes away, and those that it brings
abbrev pub gone_by : Known → Commit → List Located
gone_by k c = change_records k.sup c.change.old_blocks.items (gone_items c.change.old_items.items c.changes)

abbrev pub came_by : Commit → List Located
came_by c = change_records c.fresh c.change.new_blocks.items (came_items c.change.new_items.items c.changes)

-- the names of the kept items that post otherwise: those of all of them between images that are read alike, and else none
abbrev pub AreTheAffected : Bool → Known → Commit → Type 0
AreTheAffected true k c = (items : List Located) → AreItemsOf k.sup.nodesize k.spans items
    → AreAffected k.pairs (context_by k)
    (context_with c.change.map k.sup.nodesize (flags_after c.change.old_items.items c.change.new_items.items c.changes k.free))
    (is_named c.change.old_items.items c.change.new_items.items c.changes) items c.refs
AreTheAffected false k c = c.refs ≡ []

-- this is what a commit changes of an image of which this is known
pub record IsCommit (image : List ℕ) (pending : FinMap nat_cmp ℕ) (k : Known) (c : Commit) : Type 0 where
  pub super_is : superblock_in (overlaid pending 0 image) ≡ Ok c.fresh
  pub change_is : IsDifference image (overlaid pending 0 image) (written_in pending) (Changed c.change)
  pub changes_are : SayChanges (are_read_alike k.sup c.fresh) c.change.old_items.items c.change.new_items.items c.changes
  pub refs_are : AreTheAffected (are_read_alike k.sup c.fresh) k c

-- What is known is moved by a commit: chunks, root items, sum-free inodes, live pairs, sums and spans. Blocks stay as full as they were.
pub record IsMoved (k : Known) (c : Commit) (next : Known) : Type 0 where
  pub sup : next.sup ≡ c.fresh
  pub chunks : next.chunks ≡ c.change.map
  pub roots : next.roots ≡ c.change.roots.items
  pub free : (tree ino : ℕ) → next.free tree ino ≡ flags_after c.change.old_items.items c.change.new_items.items c.changes k.free tree ino
  pub full : (address : ℕ) → next.full address ≡ k.full address
  pub pairs : (tree address : ℕ) → next.pairs tree address
      ≡ with_pairs (with_pairs (without_pairs k.pairs c.change.old_blocks.items) c.change.new_blocks.items) c.change.moved.items tree address
  pub sums : (account : Account) (field : ℕ) → next.sums account field
      ≡ (k.sums account field - total_of (step_posts (context_by k) (gone_by k c) c.refs) account field)
      + total_of (step_posts (context_by next) (came_by c) c.refs) account field
  pub spans : (span : Span) → next.spans span
      ≡ (k.spans span - times_of_span (spans_of k.sup.nodesize (gone_by k c)) span)
      + times_of_span (spans_of c.fresh.nodesize (came_by c)) span

-- the spans of a table that have one of some names
abbrev pub AreNamedInside : List Run → Known → List ItemRef → Type 0
AreNamedInside runs k refs = (span : Span) (at : ItemRef) → 0 < k.spans span → SpanNames k.pairs span at → Contains refs at → AreInside runs (span ∷ [])

-- The least broken account by what is known of the next image: among the accounts that a commit touches, and among the sectors inside runs
-- that have all sectors of what is gone and counted, of what came and counts, and of the kept items that post otherwise.
pub record IsJudged (k : Known) (c : Commit) (next : Known) (runs : List Run) (bad : Option ℕ) (least : Option Account) : Type 0 where
  pub gone : CountedInside (context_by k) runs (spans_of k.sup.nodesize (gone_by k c))
  pub came : CountedInside (context_by next) runs (spans_of c.fresh.nodesize (came_by c))
  pub found : AreNamedInside runs k c.refs
  pub spans : List Span
  pub times : (span : Span) → times_of_span spans span ≡ next.spans span
  pub bad_is : IsFirstBad (is_bad (context_by next) spans) runs bad
  pub least_is : IsLeastTouched next.sums
      (step_posts (context_by k) (gone_by k c) c.refs ++ step_posts (context_by next) (came_by c) c.refs) least

-- the verdict of a commit: the finding of the least broken account; or the image is accepted, and this is known of it
abbrev pub Decides : List ℕ → Commit → Known → Option Account → Type 0
Decides judged c next (Some account) = full_check judged ≡ Found (broken_finding account)
Decides judged c next None = (full_check judged ≡ Accept c.fresh.generation) × IsKnown judged next

-- what is known of an accepted image, moved by a commit, decides the full check of the next image
abbrev pub CommitLaw : Type 0
CommitLaw = (image : List ℕ) (pending : FinMap nat_cmp ℕ) (k next : Known) (c : Commit) (runs : List Run) (bad : Option ℕ) (least : Option Account)
    → IsKnown image k → IsCommit image pending k c → IsMoved k c next → IsJudged k c next runs bad least
    → Decides (overlaid pending 0 image) c next (chosen bad least)
