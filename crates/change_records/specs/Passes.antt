-- How often each pass of a search of spans looks into the tables, at most. It serves to state what private functions keep.
use Rattle.std.specs.Prelude.{◌≡◌, ℕ, ◌+◌, ◌*◌, ◌<◌, Bool, true, false, not, ◌&&◌, ◌||◌, List, None, is_none, nat_lt, if◌then◌else◌}
use Rattle.verdict.specs.Chunks.{home}
use Rattle.std.specs.Bool.{beq}
use Rattle.std.specs.List.{count_by, list_any, sum_by}
use Rattle.verdict.specs.declared.place.Chunk.{Chunk}
use Rattle.span_index.specs.Order.{is_same}
use Rattle.span_index.specs.Spans.{Table, end_of, is_sort, shows_behind}
use Rattle.span_index.specs.declared.span.Span.{Span}
use Rattle.span_index.specs.declared.span.SortName.{SortName}
use Rattle.change_records.specs.declared.kept.Inode.{Inode}
use Rattle.change_records.specs.Homes.{is_kept}
use Rattle.change_records.specs.Looks.{is_of_extent, stands_for}

-- whether a chunk is changed: the old list has no home of the range of a new chunk; the new list does not keep an old chunk
abbrev pub is_changed : List Chunk → Bool → Chunk → Bool
is_changed others true chunk = is_none (home others chunk.start chunk.length)
is_changed others false chunk = not (is_kept others chunk)

-- whether the spans that meet a chunk are looked for: where the new chunks stand apart it is each changed chunk, and else each chunk
unfoldable pub is_searched : List Chunk → Bool → Bool → Chunk → Bool
is_searched others apart is_new chunk = not apart || is_changed others is_new chunk

-- these are the spans of a table, each as often as it stands
abbrev pub AreSpansOf : Table → List Span → Type 0
AreSpansOf table spans = (span : Span) → table span ≡ count_by (is_same span) spans

-- one of some spans stands for each that is in a table
abbrev pub AreStopsOf : Table → List Span → Type 0
AreStopsOf table stops = (span : Span) → 0 < table span → list_any (stands_for span) stops ≡ true

-- whether a span of a sort ends after one address and begins before another
unfoldable pub overlaps : SortName → ℕ → ℕ → Span → Bool
overlaps sort from until span = is_sort sort span.sort && (nat_lt from (end_of span) && nat_lt span.first until)

-- whether a span that an extent owns or that a file shows meets a chunk
unfoldable pub meets : Chunk → Span → Bool
meets chunk span = is_of_extent span.sort && (nat_lt chunk.start (end_of span) && nat_lt span.first (chunk.start + chunk.length))

-- whether a span is shown by an inode
unfoldable pub is_shown : Inode → Span → Bool
is_shown inode span = shows_behind inode.tree inode.ino None span.sort

-- two looks for each span that stands for others and meets a chunk, and one at the end of either sort
abbrev pub chunk_looks : List Span → Chunk → ℕ
chunk_looks stops chunk = 2 + 2 * count_by (meets chunk) stops

-- the same of some chunks, where they are searched
unfoldable pub chunks_looks : (Chunk → Bool) → List Span → List Chunk → ℕ
chunks_looks searched stops chunks = sum_by (λ chunk. if searched chunk then chunk_looks stops chunk else 0) chunks

-- two looks for each span that an inode shows, and one at the end
abbrev pub inode_looks : List Span → Inode → ℕ
inode_looks spans inode = 1 + 2 * count_by (is_shown inode) spans

-- whether the flag of an inode changes
abbrev pub is_other : (ℕ → ℕ → Bool) → (ℕ → ℕ → Bool) → Inode → Bool
is_other before after inode = not (beq (after inode.tree inode.ino) (before inode.tree inode.ino))

-- the same of some inodes, where their flags change
unfoldable pub inodes_looks : (ℕ → ℕ → Bool) → (ℕ → ℕ → Bool) → List Span → List Inode → ℕ
inodes_looks before after spans inodes = sum_by (λ inode. if is_other before after inode then inode_looks spans inode else 0) inodes

-- the looks of a search where the new chunks stand apart
abbrev pub search_looks : List Chunk → List Chunk → (ℕ → ℕ → Bool) → (ℕ → ℕ → Bool) → List Span → List Span → List Inode → ℕ
search_looks olds news before after spans stops inodes =
    chunks_looks (is_searched news true false) stops olds + chunks_looks (is_searched olds true true) stops news
    + inodes_looks before after spans inodes
