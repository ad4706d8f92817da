-- The spans of items: the sectors that an extent owns, that checksums cover, or that a file shows.
use Rattle.std.specs.Prelude.{◌≡◌, ℕ, ◌+◌, ◌/◌, ◌%◌, ◌^◌, ◌<◌, ◌≤◌, Bool, true, not, ◌&&◌, ◌==◌, List, length, Option, Some, None, if◌then◌else◌}
use Rattle.std.specs.List.{All, AllPairs, count_by, filter_map}
use Rattle.verdict.specs.declared.kinds.TheConstants.{EXTENT_DATA}
use Rattle.extent_items.specs.ExtentRow.{ExtentFields}
use Rattle.fs_items.specs.declared.file_extent.FileExtent.{FileExtent}
use Rattle.fs_items.specs.SumsRow.{SumFields}
use Rattle.records.specs.Part.{Located, Part}
use Rattle.records.specs.Part.Part.{ExtentPart, FileExtentPart, SumsPart}
use Rattle.records.specs.SpacePostings.{is_data, sector_size}
use Rattle.span_index.specs.declared.span.Span.{Span}
use Rattle.span_index.specs.declared.span.SpanSort.TheVariants.{Owned, Summed, Shown}
use Rattle.span_index.specs.Order.{is_same}
use Rattle.span_index.specs.Spans.{Table}

-- the bytes of an extent: those that its key says, or a tree block
abbrev pub extent_bytes : ℕ → ExtentFields → ℕ
extent_bytes nodesize item = if is_data item then item.key.offset else nodesize

-- the range of an extent
abbrev pub extent_span : ℕ → ExtentFields → Span
extent_span nodesize item = record { first = item.key.objectid; sectors = extent_bytes nodesize item / sector_size; sort = Owned (is_data item) }

-- what checksums cover, four bytes a sector
abbrev pub sums_span : SumFields → Span
sums_span item = record { first = item.key.offset; sectors = length item.sums / 4; sort = Summed }

-- whether a range of a file has an extent that was written: it is of type 1, and no hole
abbrev pub is_written : FileExtent → Bool
is_written range = range.sort == 1 && not (range.extent == 0)

-- what a file of a tree shows of an extent
abbrev pub shown_span : ℕ → FileExtent → Span
shown_span tree range = record {
  first = range.extent + range.offset;
  sectors = range.length / sector_size;
  sort = Shown tree range.key.objectid range.key.offset range.extent range.extent_length;
}

-- the span of an item of a tree, where it has one
abbrev pub span_in : ℕ → ℕ → Part → Option Span
span_in nodesize tree (ExtentPart item) = Some (extent_span nodesize item)
span_in nodesize tree (FileExtentPart range) = if is_written range then Some (shown_span tree range) else None
span_in nodesize tree (SumsPart item) = Some (sums_span item)
span_in nodesize tree other = None

abbrev pub span_of : ℕ → Located → Option Span
span_of nodesize one = span_in nodesize one.tree one.part

-- what its row asks of the item of an extent, as far as it counts here: it stands in the extent tree under its own key; its bytes are
-- whole sectors, at least one, and end at an address of 64 bits
pub record IsLawfulExtent (nodesize : ℕ) (one : Located) (item : ExtentFields) : Type 0 where
  pub tree : one.tree ≡ 2
  pub key : one.key ≡ item.key
  pub whole : extent_bytes nodesize item % sector_size ≡ 0
  pub some : 0 < extent_bytes nodesize item
  pub fits : item.key.objectid + extent_bytes nodesize item < 2 ^ 64

-- the same of a range of a file: it stands under its own key; its extent ends at an address of 64 bits, and has what is shown of it
pub record IsLawfulRange (one : Located) (range : FileExtent) : Type 0 where
  pub key : one.key ≡ range.key
  pub kind : range.key.kind ≡ EXTENT_DATA
  pub fits : range.extent + range.extent_length < 2 ^ 64
  pub inside : range.offset + range.length ≤ range.extent_length

abbrev pub IsLawfulIn : ℕ → Located → Part → Type 0
IsLawfulIn nodesize one (ExtentPart item) = IsLawfulExtent nodesize one item
IsLawfulIn nodesize one (FileExtentPart range) = is_written range ≡ true → IsLawfulRange one range
IsLawfulIn nodesize one other = Unit {0}

-- two records stand under different trees or keys
abbrev pub StandApart : Located → Located → Type 0
StandApart one other = one.tree ≡ other.tree → one.key ≡ other.key → ⊥

-- Items of different trees and keys, each lawful, of which a table has the spans, each as often as it occurs.
pub record AreItemsOf (nodesize : ℕ) (table : Table) (items : List Located) : Type 0 where
  pub distinct : AllPairs StandApart items
  pub lawful : All (λ one. IsLawfulIn nodesize one one.part) items
  pub spans : (span : Span) → table span ≡ count_by (is_same span) (filter_map (span_of nodesize) items)
