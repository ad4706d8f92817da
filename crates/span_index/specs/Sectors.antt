-- What spans come to at a sector: the sums of its account, and the least sector whose account is broken.
use Rattle.std.specs.Prelude.{◌≡◌, ℕ, ◌+◌, ◌*◌, ◌%◌, ◌<◌, ◌≤◌, Bool, true, false, not, ◌&&◌, ◌||◌, ◌==◌, ◌^◌, nat_lt, nat_le, List, [], ◌∷◌, length, Option, Some, None, is_some, if◌then◌else◌}
use Rattle.std.specs.List.{sum_by, count_by, list_any}
use Rattle.accounts.specs.Context.{Context, home_of}
use Rattle.accounts.specs.Broken.{is_broken}
use Rattle.accounts.specs.Kinds.{sector}
use Rattle.span_index.specs.declared.span.Span.{Span}
use Rattle.span_index.specs.declared.span.Run.{Run}
use Rattle.span_index.specs.declared.span.SpanSort.{SpanSort}
use Rattle.span_index.specs.declared.span.SpanSort.TheVariants.{Owned, Summed, Shown}
use Rattle.span_index.specs.Order.{is_same}
use Rattle.span_index.specs.Spans.{Table, end_of}

-- whether a span has the sector at an address: its sectors follow each other from its first byte on
abbrev pub has_sector : Span → ℕ → Bool
has_sector span address = nat_le span.first address && (nat_lt address (end_of span) && span.first % 4096 == address % 4096)

-- whether what a span is of counts: an extent that has a home; checksums; and what an inode shows whose data has checksums, of an
-- extent that has a home. No chunk passes the end of 64 bits, so that 2 ^ 64 bytes and more have no home.
abbrev pub counts : Context → Span → SpanSort → Bool
counts context span (Owned of_data) =
    nat_lt (span.sectors * 4096) (2 ^ 64) && is_some (home_of context span.first (span.sectors * 4096))
counts context span Summed = true
counts context span (Shown tree ino file_offset extent bytes) =
    not (context.sum_free tree ino) && is_some (home_of context extent bytes)

-- whether it adds to a sum of each of its sectors: an extent to sum 0, and to sum 1 where it is of data; checksums to sum 2; what a
-- file shows to sum 3
abbrev pub adds_to : SpanSort → ℕ → Bool
adds_to (Owned of_data) field = field == 0 || (of_data && field == 1)
adds_to Summed field = field == 2
adds_to (Shown tree ino file_offset extent bytes) field = field == 3

-- what a span adds to a sum of the sector at an address
unfoldable pub adds : Context → ℕ → ℕ → Span → ℕ
adds context address field span =
    if has_sector span address && (counts context span span.sort && adds_to span.sort field) then 1 else 0

-- a sum of the sector at an address: what all spans of a list add
unfoldable pub sector_sum : Context → List Span → ℕ → ℕ → ℕ
sector_sum context spans address field = sum_by (adds context address field) spans

-- whether the account of the sector at an address is broken
unfoldable pub is_bad : Context → List Span → ℕ → Bool
is_bad context spans address = is_broken (sector address) (sector_sum context spans address)

-- how often a span stands in a list
unfoldable pub times_of_span : List Span → Span → ℕ
times_of_span spans span = count_by (is_same span) spans

-- Runs ascend and do not meet; each begins and ends at a sector, and is not empty.
abbrev pub IsRun : Run → Type 0
IsRun run = (run.from % 4096 ≡ 0) × (run.until % 4096 ≡ 0) × (run.from < run.until)

abbrev pub AreRunsFrom : ℕ → List Run → Type 0
AreRunsFrom start [] = Unit {0}
AreRunsFrom start (run ∷ runs) = (start ≤ run.from) × IsRun run × AreRunsFrom run.until runs

-- whether an address is inside one of some runs
abbrev pub is_inside : List Run → ℕ → Bool
is_inside runs address = list_any (λ run. nat_le run.from address && nat_lt address run.until) runs

-- the least sector inside one of some runs whose account is broken, or none where there is none
abbrev pub IsFirstBad : (ℕ → Bool) → List Run → Option ℕ → Type 0
IsFirstBad bad runs None = (address : ℕ) → address % 4096 ≡ 0 → is_inside runs address ≡ true → bad address ≡ false
IsFirstBad bad runs (Some least) =
    (least % 4096 ≡ 0)
    × (is_inside runs least ≡ true)
    × (bad least ≡ true)
    × ((address : ℕ) → address % 4096 ≡ 0 → is_inside runs address ≡ true → address < least → bad address ≡ false)

-- whether a span has a byte of one of some runs
abbrev pub meets : List Run → Span → Bool
meets runs span = list_any (λ run. nat_lt span.first run.until && (nat_lt run.from (end_of span) && nat_lt 0 span.sectors)) runs

-- each span of a table stands in a list, be it once or more
abbrev pub HasEach : Table → List Span → Type 0
HasEach table spans = (span : Span) → 0 < table span → 0 < times_of_span spans span

-- Of some list with the spans of a table, each as often as it stands: the answer is the least broken sector inside the runs. Of any list
-- that has each span, as that of the spans without their repeats: there are no more looks than spans of it that meet one of the runs, and
-- three for each run and three more.
pub record Judges (table : Table) (context : Context) (runs : List Run) (answer : Option ℕ) (before after : ℕ) : Type 0 where
  pub spans : List Span
  pub all : (span : Span) → times_of_span spans span ≡ table span
  pub first : IsFirstBad (is_bad context spans) runs answer
  pub looks : (each : List Span) → HasEach table each → after ≤ before + count_by (meets runs) each + 3 * length runs + 3
