-- One walk over each sort of spans, side by side. It serves to state what private functions keep.
use Rattle.std.specs.Prelude.{◌≡◌, ℕ, ◌<◌, ◌≤◌, ◌+◌, true, ◌&&◌, min, List, if◌then◌else◌, nat_lt, None}
use Rattle.accounts.specs.Context.{Context}
use Rattle.span_index.specs.declared.judge.Walks.{Walks}
use Rattle.span_index.specs.declared.span.Run.{Run}
use Rattle.span_index.specs.declared.span.Span.{Span}
use Rattle.span_index.specs.declared.span.SortName.{SortName}
use Rattle.span_index.specs.declared.span.SortName.TheVariants.{Owned, Summed, Shown}
use Rattle.span_index.specs.Reach.{reaching}
use Rattle.span_index.specs.Sectors.{HasEach, meets}
use Rattle.span_index.specs.Spans.{Table, end_of, is_sort}
use Rattle.span_index.specs.Sweep.{IsBegun, passed_sum}
use Rattle.span_index.specs.Walks.{IsBeyond, IsWalked, due}

-- Each walk knows of each sector from an address on what the spans come to that it has passed.
pub record AreWalked (context : Context) (table : Table) (spans : List Span) (low address : ℕ) (walks : Walks) : Type 0 where
  pub owned : IsWalked context table spans low address walks.owned
  pub summed : IsWalked context table spans low address walks.summed
  pub shown : IsWalked context table spans low address walks.shown
  pub owned_sort : walks.owned.sort ≡ Owned
  pub summed_sort : walks.summed.sort ≡ Summed
  pub shown_sort : walks.shown.sort ≡ Shown

-- No walk is before all spans.
pub record AreBegun (walks : Walks) : Type 0 where
  pub owned : IsBegun walks.owned.head
  pub summed : IsBegun walks.summed.head
  pub shown : IsBegun walks.shown.head

-- No walk stands at a span that begins at an address or before it.
pub record ArePast (address : ℕ) (walks : Walks) : Type 0 where
  pub owned : due address walks.owned.head ≡ None
  pub summed : due address walks.summed.head ≡ None
  pub shown : due address walks.shown.head ≡ None

-- No walk stands at a span that begins before an address.
pub record AreBeyond (address : ℕ) (walks : Walks) : Type 0 where
  pub owned : IsBeyond address walks.owned.head
  pub summed : IsBeyond address walks.summed.head
  pub shown : IsBeyond address walks.shown.head

-- How far the spans reach says what sums come to, counted up to two.
pub record AreReached (address : ℕ) (walks : Walks) (sums : ℕ → ℕ) : Type 0 where
  pub owned : reaching walks.owned.all address ≡ min (sums 0) 2
  pub of_data : reaching walks.owned.of_data address ≡ min (sums 1) 2
  pub summed : reaching walks.summed.all address ≡ min (sums 2) 2
  pub shown : reaching walks.shown.all address ≡ min (sums 3) 2

-- Between an address and a later one no sum changes, and no walk stands at a span that begins there.
pub record AreStill (address later : ℕ) (walks : Walks) : Type 0 where
  pub beyond : AreBeyond (later + 1) walks
  pub owned : reaching walks.owned.all later ≡ reaching walks.owned.all address
  pub of_data : reaching walks.owned.of_data later ≡ reaching walks.owned.of_data address
  pub summed : reaching walks.summed.all later ≡ reaching walks.summed.all address
  pub shown : reaching walks.shown.all later ≡ reaching walks.shown.all address

-- one for a span of a sort that meets one of some runs
unfoldable pub worth : List Run → SortName → Span → ℕ
worth runs sort span = if is_sort sort span.sort && meets runs span then 1 else 0

-- how many spans that meet one of some runs have been passed
unfoldable pub passed : List Run → Walks → List Span → ℕ
passed runs walks spans =
    passed_sum (worth runs Owned) walks.owned.head spans
    + (passed_sum (worth runs Summed) walks.summed.head spans + passed_sum (worth runs Shown) walks.shown.head spans)

-- The walks go on from an address, with three looks at most.
pub record AreBeginning (context : Context) (table : Table) (spans : List Span) (address : ℕ) (old new : Walks) (before after : ℕ) : Type 0 where
  pub walked : AreWalked context table spans address address new
  pub begun : AreBegun new
  pub looks : (each : List Span) (runs : List Run) → after + passed runs old each ≤ before + 3 + passed runs new each

-- All that is between two addresses meets one of some runs.
abbrev pub AreCovered : List Run → ℕ → ℕ → Type 0
AreCovered runs low until =
    (span : Span) → nat_lt 0 span.sectors ≡ true → nat_lt low (end_of span) ≡ true → nat_lt span.first until ≡ true → meets runs span ≡ true

-- The walks went on over spans that begin at an address or before it, and each was worth a look, be it there once or more.
pub record ArePassing (context : Context) (table : Table) (spans : List Span) (low address : ℕ) (old new : Walks) (before after : ℕ) : Type 0 where
  pub walked : AreWalked context table spans low address new
  pub begun : AreBegun new
  pub past : ArePast address new
  pub looks : (each : List Span) → HasEach table each → (runs : List Run) (until : ℕ) → address < until → AreCovered runs low until
      → after + passed runs old each ≤ before + passed runs new each
