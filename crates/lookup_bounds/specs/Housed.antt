-- Where the spans of an accepted image lie, and which of them the work reaches where chunks change.
use Rattle.std.specs.Prelude.{ℕ, ◌+◌, ◌*◌, ◌<◌, ◌≤◌, List, length}
use Rattle.std.specs.List.{count_by}
use Rattle.std.specs.Ordering.{nat_cmp}
use Rattle.std.specs.FinMap.{FinMap}
use Rattle.span_index.specs.declared.span.Span.{Span}
use Rattle.change_records.specs.Homes.{StandApart}
use Rattle.change_records.specs.Looks.{AreHoused, HaveStops, is_reached}
use Rattle.change_records.specs.Spans.{AreItemsOf}
use Rattle.tree_laws.specs.LivePairs.{Walked}
use Rattle.commit_laws.specs.Commit.{Commit, Known}
use Rattle.commit_laws.specs.Items.{items_of}
use Rattle.lookup_bounds.specs.Postings.{IsPassage}
use Rattle.lookup_bounds.specs.Work.{is_met, old_postings, spans_in}

-- The table of spans is that of the image's items. The chunks of each image stand apart, and the old one has some. Some spans stand for all of
-- the old image, of which each extent lies whole in a chunk. Of those whose chunk the new image does not keep there are no more than spans that
-- are met, and two for each posting that counts in the old image.
pub record AreSpansHoused (image : List ℕ) (pending : FinMap nat_cmp ℕ) (k : Known) (c : Commit) (old new : Walked) : Type 0 where
  pub items : AreItemsOf k.sup.nodesize k.spans (items_of old)
  pub old_apart : StandApart k.chunks
  pub new_apart : StandApart c.change.map
  pub some : 0 < length k.chunks
  pub stops : List Span
  pub stand : HaveStops (spans_in old) stops
  pub housed : AreHoused k.chunks stops
  pub few : count_by (is_reached k.chunks c.change.map) stops
      ≤ count_by (is_met image pending old new) (spans_in old) + 2 * length (old_postings image pending old new)

-- so it is with each commit from an accepted image to another
abbrev pub HousedLaw : Type 0
HousedLaw = (image : List ℕ) (pending : FinMap nat_cmp ℕ) (k next : Known) (c : Commit) (old new : Walked)
    → IsPassage image pending k next c old new → AreSpansHoused image pending k c old new
