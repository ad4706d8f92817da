-- Which spans are those of affected items. It serves to state what private functions keep.
use Rattle.std.specs.Prelude.{◌≡◌, ℕ, ◌+◌, ◌-◌, ◌*◌, ◌^◌, min, slice_get, ◌<◌, ◌≤◌, Bool, true, false, not, ◌&&◌, ◌⊎◌, List, is_some, Option, Some, None, if◌then◌else◌}
use Rattle.std.specs.BTreeSet as set
use Rattle.verdict.specs.declared.place.Chunk.{Chunk}
use Rattle.verdict.specs.declared.kinds.TheConstants.{EXTENT_DATA, EXTENT_ITEM}
use Rattle.accounts.specs.Context.{Context, home_of}
use Rattle.live_index.specs.Pairs.{Pairs}
use Rattle.span_index.specs.Spans.{Table, end_of, is_sort, offset_of, shows_behind}
use Rattle.span_index.specs.declared.span.SortName.{SortName}
use Rattle.span_index.specs.declared.span.SortName.TheVariants.{Owned as OwnedName, Shown as ShownName}
use Rattle.change_records.specs.declared.kept.Inode.{Inode}
use Rattle.span_index.specs.declared.span.Span.{Span}
use Rattle.span_index.specs.declared.span.SpanSort.{SpanSort}
use Rattle.span_index.specs.declared.span.SpanSort.TheVariants.{Owned, Summed, Shown}
use Rattle.change_records.specs.declared.item_ref.ItemRef.{ItemRef}
use Rattle.change_records.specs.declared.kept.Made.{Made}
use Rattle.change_records.specs.Made.{flag_by, has_name}
use Rattle.change_records.specs.Refs.{ref_cmp, ref_to}
use Rattle.change_records.specs.Affected.{NamesBlock, context_with}

-- the bytes of an extent by its sectors, or those of a tree block
abbrev pub owned_bytes : ℕ → Bool → ℕ → ℕ
owned_bytes nodesize of_data sectors = if of_data then sectors * 4096 else nodesize

-- whether what an inode shows of an extent counts: its data has checksums, and the extent has a home
abbrev pub counts : Context → ℕ → ℕ → ℕ → ℕ → Bool
counts context tree ino extent bytes = not (context.sum_free tree ino) && is_some (home_of context extent bytes)

-- the item of a span posts otherwise in another context
abbrev pub SortDiffers : Context → Context → ℕ → ℕ → SpanSort → Type 0
SortDiffers before after first sectors (Owned of_data) =
    home_of before first (owned_bytes before.nodesize of_data sectors) ≡ home_of after first (owned_bytes after.nodesize of_data sectors) → ⊥
SortDiffers before after first sectors Summed = ⊥
SortDiffers before after first sectors (Shown tree ino file_offset extent bytes) =
    (0 < sectors) × (counts before tree ino extent bytes ≡ counts after tree ino extent bytes → ⊥)

abbrev pub SpanDiffers : Context → Context → Span → Type 0
SpanDiffers before after span = SortDiffers before after span.first span.sectors span.sort

-- the name of a span's item
abbrev pub SortNames : Pairs → ℕ → ℕ → SpanSort → ItemRef → Type 0
SortNames pairs first sectors (Owned true) at = at ≡ ref_to 2 (record { objectid = first; kind = EXTENT_ITEM; offset = sectors * 4096 })
SortNames pairs first sectors (Owned false) at = NamesBlock pairs first at
SortNames pairs first sectors Summed at = ⊥
SortNames pairs first sectors (Shown tree ino file_offset extent bytes) at = at ≡ ref_to tree (record { objectid = ino; kind = EXTENT_DATA; offset = file_offset })

abbrev pub SpanNames : Pairs → Span → ItemRef → Type 0
SpanNames pairs span at = SortNames pairs span.first span.sectors span.sort at

-- what the row of its item asks of a span
abbrev pub IsLawfulSort : ℕ → ℕ → ℕ → SpanSort → Type 0
IsLawfulSort nodesize first sectors (Owned of_data) =
    (0 < sectors) × (owned_bytes nodesize of_data sectors ≡ sectors * 4096) × (first + sectors * 4096 < 2 ^ 64)
IsLawfulSort nodesize first sectors Summed = Unit {0}
IsLawfulSort nodesize first sectors (Shown tree ino file_offset extent bytes) =
    (extent ≤ first) × (first + sectors * 4096 ≤ extent + bytes) × (extent + bytes < 2 ^ 64)

abbrev pub IsLawfulSpan : ℕ → Span → Type 0
IsLawfulSpan nodesize span = IsLawfulSort nodesize span.first span.sectors span.sort

-- the flags of inodes by what changes make of those that were
abbrev pub new_flags : Made → (ℕ → ℕ → Bool) → ℕ → ℕ → Bool
new_flags made free tree ino = flag_by made tree ino (free tree ino)

-- the one name of a span's item, or that it has none
abbrev pub IsNameOf : Pairs → Span → Option ItemRef → Type 0
IsNameOf pairs span None = (at : ItemRef) → SpanNames pairs span at → ⊥
IsNameOf pairs span (Some name) = SpanNames pairs span name × ((at : ItemRef) → SpanNames pairs span at → at ≡ name)

-- what a search of spans goes by: the two contexts, the live pairs, and what is kept of the changes
pub record Known : Type 0 where
  pub before : Context
  pub after : Context
  pub pairs : Pairs
  pub made : Made

abbrev pub known : List Chunk → ℕ → (ℕ → ℕ → Bool) → Pairs → List Chunk → Made → Known
known chunks nodesize free pairs fresh made = record {
  before = context_with chunks nodesize free;
  after = context_with fresh nodesize (new_flags made free);
  pairs = pairs;
  made = made;
}

-- a span's item has this name, which no change names, and posts otherwise
pub record IsHit (k : Known) (span : Span) (at : ItemRef) : Type 0 where
  pub name : SpanNames k.pairs span at
  pub kept : has_name k.made at ≡ false
  pub differs : SpanDiffers k.before k.after span

-- an item is among some
abbrev pub Has : set.BTreeSet ItemRef → ItemRef → Type 0
Has refs at = set.contains ref_cmp refs at ≡ true

-- some items have one more, where it is that of a span that differs
pub record Takes (k : Known) (span : Span) (old new : set.BTreeSet ItemRef) : Type 0 where
  pub stay : (at : ItemRef) → Has old at → Has new at
  pub hold : (at : ItemRef) → Has new at → Has old at ⊎ IsHit k span at
  pub all : (at : ItemRef) → IsHit k span at → Has new at

-- each span that stands is lawful
abbrev pub AreLawful : ℕ → Table → Type 0
AreLawful nodesize table = (span : Span) → 0 < table span → IsLawfulSpan nodesize span

-- a span is shown by an inode of a tree at an offset of its file
abbrev pub IsShownAt : ℕ → ℕ → ℕ → Span → Type 0
IsShownAt tree ino offset span = (shows_behind tree ino None span.sort ≡ true) × (offset_of span.sort ≡ offset)

-- at each offset of its file an inode shows one span at most
abbrev pub AreAlone : Table → Type 0
AreAlone table =
    (tree ino offset : ℕ) (span other : Span) → 0 < table span → 0 < table other → IsShownAt tree ino offset span → IsShownAt tree ino offset other
    → span ≡ other

-- some items have those more of all spans that a search reaches
pub record Searched (k : Known) (table : Table) (Reached : Span → Type 0) (old new : set.BTreeSet ItemRef) : Type 0 where
  pub stay : (at : ItemRef) → Has old at → Has new at
  pub hold : (at : ItemRef) → Has new at → Has old at ⊎ ((span : Span) × (0 < table span) × IsHit k span at)
  pub all : (span : Span) (at : ItemRef) → 0 < table span → Reached span → IsHit k span at → Has new at

-- a span of a sort ends after one address and begins before another
abbrev pub Overlaps : SortName → ℕ → ℕ → Span → Type 0
Overlaps sort from until span = (is_sort sort span.sort ≡ true) × (from < end_of span) × (span.first < until)

-- a span is shown by an inode of a tree
abbrev pub IsShownBy : ℕ → ℕ → Span → Type 0
IsShownBy tree ino span = shows_behind tree ino None span.sort ≡ true

-- a span that an extent owns or that a file shows meets a chunk
pub record MeetsChunk (chunk : Chunk) (span : Span) : Type 0 where
  pub sort : (is_sort OwnedName span.sort ≡ true) ⊎ (is_sort ShownName span.sort ≡ true)
  pub ends : chunk.start < end_of span
  pub begins : span.first < min (chunk.start + chunk.length) (2 ^ 64 - 1)

-- of the first chunks of a list one is searched, and meets a span
pub record MeetsChanged (chunks : List Chunk) (searched : Chunk → Bool) (count : ℕ) (span : Span) : Type 0 where
  pub chunk : Chunk
  pub at : ℕ
  pub small : at < count
  pub among : slice_get chunks at ≡ Some chunk
  pub gone : searched chunk ≡ true
  pub meets : MeetsChunk chunk span

-- of the first inodes of a list one shows a span, and has another flag
pub record ShowsChanged (inodes : List Inode) (before after : ℕ → ℕ → Bool) (count : ℕ) (span : Span) : Type 0 where
  pub inode : Inode
  pub at : ℕ
  pub small : at < count
  pub among : slice_get inodes at ≡ Some inode
  pub other : after inode.tree inode.ino ≡ before inode.tree inode.ino → ⊥
  pub shown : IsShownBy inode.tree inode.ino span

-- Some items are those of all spans of a table that differ.
pub record IsFound (k : Known) (table : Table) (refs : set.BTreeSet ItemRef) : Type 0 where
  pub hold : (at : ItemRef) → Has refs at → (span : Span) × (0 < table span) × IsHit k span at
  pub all : (span : Span) (at : ItemRef) → 0 < table span → IsHit k span at → Has refs at
