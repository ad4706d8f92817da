-- Where spans stand in the two orders that are kept of them. It serves to state what private functions keep.
use Rattle.std.specs.Prelude.{◌≡◌, ℕ, zero, suc, ◌<◌, ◌≤◌, ◌^◌, Bool, true, false, not, ◌&&◌, ◌||◌, ◌==◌, nat_lt, nat_le, Option, Some, None, IsSome, if◌then◌else◌}
use Rattle.std.specs.Option.{unwrap_or}
use Rattle.std.specs.Ordering.{nat_cmp, ordering_then, is_gt}
use Rattle.std.specs.declared.cmp.Ordering.{Ordering}
use Rattle.std.specs.declared.ops.Bound.{Bound}
use Rattle.std.specs.declared.ops.Bound.TheVariants.{Included, Excluded, Unbounded}
use Rattle.std.specs.BTreeMap as map
use Rattle.std.specs.BTreeMap.Range.{is_from_start}
use Rattle.std.specs.BTreeSet as set
use Rattle.span_index.specs.declared.span.Span.{Span}
use Rattle.span_index.specs.declared.span.SpanSort.{SpanSort}
use Rattle.span_index.specs.declared.span.SpanSort.TheVariants.{Shown}
use Rattle.span_index.specs.declared.span.SortName.{SortName}
use Rattle.span_index.specs.declared.places.Place.{Place}
use Rattle.span_index.specs.declared.places.ByFile.{ByFile}
use Rattle.span_index.specs.declared.files.Files.{Files}
use Rattle.span_index.specs.Order.{name_cmp, name_of, rank, span_cmp, is_same, is_below}
use Rattle.span_index.specs.Spans.{Table, end_of, is_met, is_sort, is_above, is_behind}

-- the class of a length in sectors, at most a greatest class: class 0 has no sector, and class k + 1 has 2 ^ k and more, but fewer than
-- twice as many
unfoldable pub class_upto : ℕ → ℕ → ℕ
class_upto zero sectors = 0
class_upto (suc k) sectors = if nat_le (2 ^ k) sectors then suc k else class_upto k sectors

unfoldable pub class_of : ℕ → ℕ
class_of sectors = class_upto 64 sectors

-- where a span stands among those of its sort and class
abbrev pub place_of : Span → Place
place_of span = record { sort = name_of span.sort; class = class_of span.sectors; span = span }

-- the two orders
abbrev pub place_cmp : Place → Place → Ordering
place_cmp x y = ordering_then (name_cmp x.sort y.sort) (ordering_then (nat_cmp x.class y.class) (span_cmp x.span y.span))

abbrev pub file_cmp : ByFile → ByFile → Ordering
file_cmp x y =
    ordering_then (nat_cmp x.tree y.tree)
    (ordering_then (nat_cmp x.ino y.ino) (ordering_then (nat_cmp x.file_offset y.file_offset) (span_cmp x.span y.span)))

-- how often the map has each span
unfoldable pub times_in : map.BTreeMap Place ℕ → Table
times_in spans span = unwrap_or (map.get place_cmp spans (place_of span)) 0

-- Each span stands at its own place, at least once.
pub record AreOwn (spans : map.BTreeMap Place ℕ) : Type 0 where
  pub sort : (place : Place) → IsSome (map.get place_cmp spans place) → place.sort ≡ name_of place.span.sort
  pub class : (place : Place) → IsSome (map.get place_cmp spans place) → place.class ≡ class_of place.span.sectors
  pub some : (place : Place) → map.get place_cmp spans place ≡ Some 0 → ⊥

-- whether a place is of a sort and a class
abbrev pub is_of : SortName → ℕ → Place → Bool
is_of sort class place = rank place.sort == rank sort && place.class == class

-- whether a place is of another sort or class, or its span ends after an address
abbrev pub is_stop : SortName → ℕ → ℕ → Place → Bool
is_stop sort class address place = not (is_of sort class place) || nat_lt address (end_of place.span)

-- whether a place by file is of another inode, or behind an offset where one is given
abbrev pub is_file_stop : ℕ → ℕ → Option ℕ → ByFile → Bool
is_file_stop tree ino after place = not (place.tree == tree && place.ino == ino) || is_behind after place.file_offset

-- as `IsMeeting`, of the spans of some classes
abbrev pub IsMetWhere : (ℕ → Bool) → Table → SortName → ℕ → Option Span → Option Span → Type 0
IsMetWhere in_class table sort address after None =
    (span : Span) → in_class (class_of span.sectors) ≡ true → is_met sort address after span ≡ true → table span ≡ 0
IsMetWhere in_class table sort address after (Some least) =
    (0 < table least)
    × (is_met sort address after least ≡ true)
    × ((span : Span) → in_class (class_of span.sectors) ≡ true → is_met sort address after span ≡ true → is_below span least ≡ true → table span ≡ 0)
    × (in_class (class_of least.sectors) ≡ true)

-- the first class from one on of which spans of a sort stand, or none
abbrev pub IsClassFrom : Table → SortName → ℕ → Option ℕ → Type 0
IsClassFrom table sort class None = (span : Span) → is_sort sort span.sort ≡ true → class ≤ class_of span.sectors → table span ≡ 0
IsClassFrom table sort class (Some next) =
    (class ≤ next)
    × (next < 65)
    × ((span : Span) → is_sort sort span.sort ≡ true → class ≤ class_of span.sectors → class_of span.sectors < next → table span ≡ 0)

-- the lesser of two spans that are there, each with how often it stands
abbrev pub lesser : Option (Span × ℕ) → Option (Span × ℕ) → Option (Span × ℕ)
lesser None other = other
lesser (Some first) None = Some first
lesser (Some first) (Some second) = if is_below second.0 first.0 then Some second else Some first

-- where a bound begins: in a sort and a class
abbrev pub BeginsIn : SortName → ℕ → Bound Place → Type 0
BeginsIn sort class (Included place) = (place.sort ≡ sort) × (place.class ≡ class)
BeginsIn sort class (Excluded place) = (place.sort ≡ sort) × (place.class ≡ class)
BeginsIn sort class Unbounded = ⊥

-- From a bound on there are all spans of a sort and a class that end after an address and are above another where one is given, and of
-- this sort and class only spans that are above it.
pub record StartsClass (sort : SortName) (class : ℕ) (address : ℕ) (after : Option Span) (start : Bound Place) : Type 0 where
  pub begins : BeginsIn sort class start
  pub all : (span : Span) → class_of span.sectors ≡ class → is_met sort address after span ≡ true → is_from_start place_cmp start (place_of span) ≡ true
  pub above : (place : Place) → place.sort ≡ sort → place.class ≡ class → is_from_start place_cmp start place ≡ true → is_above after place.span ≡ true

-- whether the order by file has a place
unfoldable pub has_file : Files → ByFile → Bool
has_file files place = set.contains file_cmp files.places place

-- whether a place by file is where what its span is of stands
abbrev pub is_shown_at : SpanSort → ByFile → Bool
is_shown_at (Shown tree ino file_offset extent length) place = tree == place.tree && (ino == place.ino && file_offset == place.file_offset)
is_shown_at sort place = false

-- where a span stands by file, where it is shown
abbrev pub file_in : SpanSort → Span → Option ByFile
file_in (Shown tree ino file_offset extent length) span = Some (record { tree = tree; ino = ino; file_offset = file_offset; span = span })
file_in sort span = None

-- whether a place by file is that of a span
unfoldable pub is_file_of : Span → ByFile → Bool
is_file_of span place = is_shown_at place.span.sort place && is_same span place.span

-- The order by file has the places of the spans that stand and are shown.
abbrev pub AreAlike : Table → Files → Type 0
AreAlike table files = (place : ByFile) → has_file files place ≡ (is_shown_at place.span.sort place && nat_lt 0 (table place.span))

-- the first place in the order by file of an inode, behind an offset where one is given
abbrev pub IsNextFile : Files → ℕ → ℕ → Option ℕ → Option ByFile → Type 0
IsNextFile files tree ino after None =
    (place : ByFile) → place.tree ≡ tree → place.ino ≡ ino → is_behind after place.file_offset ≡ true → has_file files place ≡ false
IsNextFile files tree ino after (Some next) =
    (has_file files next ≡ true)
    × (next.tree ≡ tree)
    × (next.ino ≡ ino)
    × (is_behind after next.file_offset ≡ true)
    × ((place : ByFile) → place.tree ≡ tree → place.ino ≡ ino → is_behind after place.file_offset ≡ true
    → is_gt (file_cmp next place) ≡ true → has_file files place ≡ false)
