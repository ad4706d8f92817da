-- How many looks a commit that passes costs: by its work.
use Rattle.std.specs.Prelude.{◌≡◌, ℕ, ◌+◌, ◌*◌, ◌≤◌, List, length, Result, Ok, Err}
use Rattle.std.specs.Ordering.{nat_cmp}
use Rattle.std.specs.FinMap.{FinMap}
use Rattle.verdict.specs.declared.place.Chunk.{Chunk}
use Rattle.write_cache.specs.Cache.{overlaid}
use Rattle.write_cache.specs.Pieces.{ArePiecesOf, Piece}
use Rattle.records.specs.Part.{Located}
use Rattle.span_index.specs.declared.span.Span.{Span}
use Rattle.block_source.specs.declared.halt.Halt.{Halt}
use Rattle.change_records.specs.Homes.{StandApart}
use Rattle.change_records.specs.Looks.{AreHoused, HaveStops, most_looks, spans_of}
use Rattle.change_records.specs.Spans.{AreItemsOf}
use Rattle.change_records.specs.SumFree.{flags_after}
use Rattle.tree_laws.specs.LivePairs.{Walked, walked}
use Rattle.tree_change.specs.FewLooks.{few_looks}
use Rattle.tree_change.specs.LooksLaw.{entries_of}
use Rattle.tree_change.specs.OneTree.{side_of}
use Rattle.tree_change.specs.declared.change.Change.{Change}
use Rattle.commit_laws.specs.Commit.{Commit, IsCommit, IsKnown, IsMoved, Known}
use Rattle.lookup_bounds.specs.Work.{work_between}
use Rattle.commit_judge.specs.Looks.{FewToJudge}
use Rattle.commit_judge.specs.Plan.{commit_in}
use Rattle.commit_judge.specs.declared.judge.Judged.{Judged}
use Rattle.commit_judge.specs.declared.judge.Judged.TheVariants.{Passed, Rejected}
use Rattle.commit_judge.specs.declared.plan.Plan.{Plan}

-- The looks for the kept items that post otherwise are few where the spans are those of some items, those that stand for all have their extents
-- in chunks, and the chunks of each image stand apart.
abbrev pub FindsByFew : Known → Commit → ℕ → ℕ → Type 0
FindsByFew k c before after =
    (items : List Located) → AreItemsOf k.sup.nodesize k.spans items
    → (stops : List Span) → HaveStops (spans_of k.sup.nodesize items) stops
    → StandApart k.chunks → StandApart c.change.map → AreHoused k.chunks stops
    → after ≤ before + most_looks k.chunks c.change.map k.free (flags_after c.change.old_items.items c.change.new_items.items c.changes k.free)
    (spans_of k.sup.nodesize items) stops (length c.changes)

-- The looks to make a plan are few, and so are the shared pairs that are shifted.
pub record PlansByFew (image : List ℕ) (pending : FinMap nat_cmp ℕ) (k : Known) (c : Commit) (before after : ℕ) : Type 0 where
  pub middle : ℕ
  pub differs : (old new : Walked) → walked image ≡ Ok old → walked (overlaid pending 0 image) ≡ Ok new
      → (pieces : List Piece) → ArePiecesOf pending pieces
      → middle ≤ before + few_looks image (overlaid pending 0 image) old new pieces c.change
  pub moved : (old new : Walked) → walked image ≡ Ok old → walked (overlaid pending 0 image) ≡ Ok new
      → length c.change.moved.items
      ≤ 2 + (entries_of (side_of (overlaid pending 0 image) new) c.change.new_blocks.items + 8 * length c.change.new_blocks.items
      + length c.change.old_blocks.items)
  pub finds : FindsByFew k c middle after

-- so it is with a plan; where there is none nothing is said
abbrev pub PlansFew : List ℕ → FinMap nat_cmp ℕ → Known → ℕ → ℕ → Result Plan Halt → Type 0
PlansFew image pending k before after (Ok plan) = PlansByFew image pending k (commit_in plan) before after
PlansFew image pending k before after (Err halt) = Unit {0}

-- a commit that passes leads on to an image of which this is known
pub record LeadsTo (judged : List ℕ) (k : Known) (c : Commit) : Type 0 where
  pub next : Known
  pub moved : IsMoved k c next
  pub known : IsKnown judged next

abbrev pub LeadsOn : List ℕ → Known → Commit → Judged → Type 0
LeadsOn judged k c (Passed generation blocks hot) = LeadsTo judged k c
LeadsOn judged k c (Rejected finding) = Unit {0}

-- a judgement that passes costs no more looks than 64 for each unit of its work; of another nothing is said
abbrev pub LooksByWork : List ℕ → FinMap nat_cmp ℕ → ℕ → ℕ → Judged → Type 0
LooksByWork image pending before after (Passed generation blocks hot) = after ≤ before + 64 * work_between image pending
LooksByWork image pending before after (Rejected finding) = Unit {0}

-- to plan and to judge a commit from an accepted image to another costs no more looks than 64 for each unit of its work
abbrev pub WorkLaw : Type 0
WorkLaw = (image : List ℕ) (pending : FinMap nat_cmp ℕ) (k : Known) (c : Commit) (first middle last : ℕ)
    → IsKnown image k → IsCommit image pending k c → LeadsTo (overlaid pending 0 image) k c
    → PlansByFew image pending k c first middle → FewToJudge k c middle last → last ≤ first + 64 * work_between image pending
