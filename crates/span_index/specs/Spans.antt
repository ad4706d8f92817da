-- Spans that stand in a table, each as often as it was put in.
use Rattle.std.specs.Prelude.{◌≡◌, ℕ, ◌+◌, ◌-◌, ◌*◌, ◌<◌, Bool, true, false, ◌&&◌, ◌||◌, ◌==◌, nat_lt, Option, Some, None, if◌then◌else◌}
use Rattle.span_index.specs.declared.span.Span.{Span}
use Rattle.span_index.specs.declared.span.SpanSort.{SpanSort}
use Rattle.span_index.specs.declared.span.SpanSort.TheVariants.{Owned, Summed, Shown}
use Rattle.span_index.specs.declared.span.SortName.{SortName}
use Rattle.span_index.specs.declared.span.SortName.TheVariants.{Owned as OwnedName, Summed as SummedName, Shown as ShownName}
use Rattle.span_index.specs.Order.{is_same, is_below}

-- a table of spans: how often each stands
abbrev pub Table : Type 0
Table = Span → ℕ

-- the table with no span
abbrev pub no_spans : Table
no_spans span = 0

-- the table with a span once more
abbrev pub with_span : Table → Span → Table
with_span table more span = if is_same more span then table span + 1 else table span

-- the table with a span once less, where it stands
abbrev pub without_span : Table → Span → Table
without_span table less span = if is_same less span then table span - 1 else table span

-- the address behind the last byte of a span: a sector has 4096 bytes
abbrev pub end_of : Span → ℕ
end_of span = span.first + span.sectors * 4096

-- whether a span is of a sort
abbrev pub is_sort : SortName → SpanSort → Bool
is_sort OwnedName (Owned of_data) = true
is_sort SummedName Summed = true
is_sort ShownName (Shown tree ino file_offset extent length) = true
is_sort name sort = false

-- whether a span is above another, where one is given
abbrev pub is_above : Option Span → Span → Bool
is_above None span = true
is_above (Some after) span = is_below after span

-- whether a span is of a sort, ends after an address, and is above another where one is given
unfoldable pub is_met : SortName → ℕ → Option Span → Span → Bool
is_met sort address after span = is_sort sort span.sort && (nat_lt address (end_of span) && is_above after span)

-- the least span that stands of those of a sort that end after an address and are above another where one is given, or none where none stands
abbrev pub IsMeeting : Table → SortName → ℕ → Option Span → Option Span → Type 0
IsMeeting table sort address after None = (span : Span) → is_met sort address after span ≡ true → table span ≡ 0
IsMeeting table sort address after (Some least) =
    (0 < table least)
    × (is_met sort address after least ≡ true)
    × ((span : Span) → is_met sort address after span ≡ true → is_below span least ≡ true → table span ≡ 0)

-- whether an offset in a file is above another, where one is given
abbrev pub is_behind : Option ℕ → ℕ → Bool
is_behind None offset = true
is_behind (Some after) offset = nat_lt after offset

-- whether what a span is of is shown by an inode of a tree, behind an offset of the file where one is given
abbrev pub shows_behind : ℕ → ℕ → Option ℕ → SpanSort → Bool
shows_behind tree ino after (Shown t i offset extent length) = t == tree && (i == ino && is_behind after offset)
shows_behind tree ino after sort = false

-- the offset in the file of what a span shows
abbrev pub offset_of : SpanSort → ℕ
offset_of (Shown tree ino offset extent length) = offset
offset_of sort = 0

-- whether a span comes before another in a file: by the offset, and at one offset by the order of spans
abbrev pub is_sooner : Span → Span → Bool
is_sooner x y = nat_lt (offset_of x.sort) (offset_of y.sort) || (offset_of x.sort == offset_of y.sort && is_below x y)

-- the span that an inode shows soonest in its file, behind an offset where one is given, or none where none stands
abbrev pub IsNextShown : Table → ℕ → ℕ → Option ℕ → Option Span → Type 0
IsNextShown table tree ino after None = (span : Span) → shows_behind tree ino after span.sort ≡ true → table span ≡ 0
IsNextShown table tree ino after (Some next) =
    (0 < table next)
    × (shows_behind tree ino after next.sort ≡ true)
    × ((span : Span) → shows_behind tree ino after span.sort ≡ true → is_sooner span next ≡ true → table span ≡ 0)
