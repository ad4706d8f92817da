-- How often the search for the kept items that post otherwise looks into the tables of the old image, at most.
use Rattle.std.specs.Prelude.{◌≡◌, ◌==◌, ℕ, ◌+◌, ◌*◌, ◌≤◌, Bool, true, false, not, ◌&&◌, ◌||◌, List, length, IsSome, Option, Some, None}
use Rattle.std.specs.Bool.{beq}
use Rattle.std.specs.List.{All, count_by, filter_map, list_any}
use Rattle.verdict.specs.Chunks.{home}
use Rattle.verdict.specs.declared.place.Chunk.{Chunk}
use Rattle.records.specs.Part.{Located}
use Rattle.span_index.specs.Order.{is_same}
use Rattle.span_index.specs.Spans.{is_sort}
use Rattle.span_index.specs.declared.span.Span.{Span}
use Rattle.span_index.specs.declared.span.SortName.TheVariants.{Owned as OwnedName, Shown as ShownName}
use Rattle.span_index.specs.declared.span.SpanSort.{SpanSort}
use Rattle.span_index.specs.declared.span.SpanSort.TheVariants.{Shown}
use Rattle.change_records.specs.Homes.{is_kept}
use Rattle.change_records.specs.Spans.{span_of}

-- the spans of some items, each as often as it occurs
abbrev pub spans_of : ℕ → List Located → List Span
spans_of nodesize items = filter_map (span_of nodesize) items

-- whether a span is one that an extent owns or that a file shows
abbrev pub is_of_extent : SpanSort → Bool
is_of_extent sort = is_sort OwnedName sort || is_sort ShownName sort

-- the chunk that holds whole what a span is of: the bytes that an extent owns, or the extent of which a file shows some
abbrev pub home_of_sort : List Chunk → ℕ → ℕ → SpanSort → Option Chunk
home_of_sort chunks first sectors (Shown tree ino file_offset extent bytes) = home chunks extent bytes
home_of_sort chunks first sectors sort = home chunks first (sectors * 4096)

abbrev pub home_of_span : List Chunk → Span → Option Chunk
home_of_span chunks span = home_of_sort chunks span.first span.sectors span.sort

-- what a file shows lies in its extent
abbrev pub LiesInExtent : ℕ → ℕ → SpanSort → Type 0
LiesInExtent first sectors (Shown tree ino file_offset extent bytes) = (extent ≤ first) × (first + sectors * 4096 ≤ extent + bytes)
LiesInExtent first sectors sort = Unit {0}

-- each span that an extent owns lies whole in a chunk, and so does the extent of each that a file shows
abbrev pub IsHoused : List Chunk → Span → Type 0
IsHoused chunks span = LiesInExtent span.first span.sectors span.sort × IsSome (home_of_span chunks span)

abbrev pub AreHoused : List Chunk → List Span → Type 0
AreHoused chunks spans = All (λ span. is_of_extent span.sort ≡ true → IsHoused chunks span) spans

-- whether a file shows a span of no sector, as of a range of no bytes
abbrev pub is_empty_shown : Span → Bool
is_empty_shown span = is_sort ShownName span.sort && span.sectors == 0

-- whether one span stands for another: they are the same, or files show both, at one address and of no sector
unfoldable pub stands_for : Span → Span → Bool
stands_for span other = is_same span other || (is_empty_shown span && (is_empty_shown other && span.first == other.first))

-- Some spans stand for all of a list: each is among them, but of those that files show at one address and of no sector one is enough.
abbrev pub HaveStops : List Span → List Span → Type 0
HaveStops spans stops = All (λ span. list_any (stands_for span) stops ≡ true) spans

-- whether there is an old chunk, and the new list does not keep it
abbrev pub is_gone : List Chunk → Option Chunk → Bool
is_gone news None = false
is_gone news (Some chunk) = not (is_kept news chunk)

-- whether an extent owns a span or a file shows it, and the new list does not keep the old chunk of that extent
unfoldable pub is_reached : List Chunk → List Chunk → Span → Bool
is_reached olds news span = is_of_extent span.sort && is_gone news (home_of_span olds span)

-- whether an inode shows what a span is of, and the flag `NODATASUM` of that inode changes
abbrev pub turns : (ℕ → ℕ → Bool) → (ℕ → ℕ → Bool) → SpanSort → Bool
turns before after (Shown tree ino file_offset extent bytes) = not (beq (after tree ino) (before tree ino))
turns before after sort = false

-- the same of a span
unfoldable pub is_turned : (ℕ → ℕ → Bool) → (ℕ → ℕ → Bool) → Span → Bool
is_turned before after span = turns before after span.sort

-- Six looks for each span that stands for others and whose extent's chunk is not kept, two for each span whose inode's flag changes, two for
-- each chunk of both lists, and two for each change.
unfoldable pub most_looks : List Chunk → List Chunk → (ℕ → ℕ → Bool) → (ℕ → ℕ → Bool) → List Span → List Span → ℕ → ℕ
most_looks olds news before after spans stops changes =
    6 * count_by (is_reached olds news) stops + 2 * count_by (is_turned before after) spans
    + 2 * (length olds + length news)
    + 2 * changes
