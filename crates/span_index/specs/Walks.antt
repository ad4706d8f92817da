-- How far the spans reach that a walk has passed. It serves to state what private functions keep.
use Rattle.std.specs.Prelude.{◌≡◌, ℕ, ◌%◌, ◌≤◌, Bool, true, false, ◌||◌, ◌==◌, ◌+◌, min, nat_le, nat_lt, List, Option, Some, None, if◌then◌else◌}
use Rattle.accounts.specs.Context.{Context}
use Rattle.span_index.specs.declared.cursor.Head.{Head}
use Rattle.span_index.specs.declared.cursor.Head.TheVariants.{Start, At, End}
use Rattle.span_index.specs.declared.cursor.Walk.{Walk}
use Rattle.span_index.specs.declared.reach.Reach.{Reach}
use Rattle.span_index.specs.declared.span.Span.{Span}
use Rattle.span_index.specs.declared.span.SortName.{SortName}
use Rattle.span_index.specs.declared.span.SortName.TheVariants.{Owned as OwnedName, Summed as SummedName, Shown as ShownName}
use Rattle.span_index.specs.declared.span.SpanSort.{SpanSort}
use Rattle.span_index.specs.declared.span.SpanSort.TheVariants.{Owned, Summed, Shown}
use Rattle.span_index.specs.Reach.{reaching}
use Rattle.span_index.specs.Sectors.{HasEach, adds}
use Rattle.span_index.specs.Spans.{Table, end_of}
use Rattle.span_index.specs.Sweep.{IsBegun, IsHead, is_reaching, passed_sum}

-- whether spans of a sort add to a sum
abbrev pub is_field : SortName → ℕ → Bool
is_field OwnedName field = field == 0 || field == 1
is_field SummedName field = field == 2
is_field ShownName field = field == 3

-- whether what a span is of is file data
abbrev pub is_data : SpanSort → Bool
is_data (Owned of_data) = of_data
is_data Summed = false
is_data (Shown tree ino file_offset extent length) = false

-- how far those reach that add to a sum
abbrev pub reach_in : Walk → ℕ → Reach
reach_in walk field = if field == 1 then walk.of_data else walk.all

-- A walk knows of each sector from an address on whether none, one or more of the spans that it has passed add to a sum of it; and it
-- stands at a span that ends after some lower address.
pub record IsWalked (context : Context) (table : Table) (spans : List Span) (low address : ℕ) (walk : Walk) : Type 0 where
  pub order : walk.all.near ≤ walk.all.far
  pub data_order : walk.of_data.near ≤ walk.of_data.far
  pub head : IsHead table walk.sort low walk.head
  pub sums : (field later : ℕ) → is_field walk.sort field ≡ true → later % 4096 ≡ 0 → address ≤ later
      → reaching (reach_in walk field) later ≡ min (passed_sum (adds context later field) walk.head spans) 2

-- the span that a walk stands at, with how often it stands, where it begins at an address or before it
abbrev pub due : ℕ → Head → Option (Span × ℕ)
due address Start = None
due address (At span times) = if nat_le span.first address then Some (span, times) else None
due address End = None

-- A walk went on over spans that begin at an address or before it, and each was worth a look, be it there once or more.
pub record IsPassing (context : Context) (table : Table) (spans : List Span) (low address : ℕ) (old new : Walk) (before after : ℕ) : Type 0 where
  pub walked : IsWalked context table spans low address new
  pub sort : new.sort ≡ old.sort
  pub begun : IsBegun new.head
  pub looks : (each : List Span) → HasEach table each
      → (worth : Span → ℕ) → ((span : Span) → is_reaching old.sort low span ≡ true → span.first ≤ address → 1 ≤ worth span)
      → after + passed_sum worth old.head each ≤ before + passed_sum worth new.head each

-- whether a walk needs no look to go on from an address: it is behind all spans, or stands at one that ends after the address
abbrev pub is_settled : ℕ → Head → Bool
is_settled address Start = false
is_settled address (At span times) = nat_lt address (end_of span)
is_settled address End = true

-- A walk goes on from an address, with one look at most.
pub record IsBeginning (context : Context) (table : Table) (spans : List Span) (address : ℕ) (old new : Walk) (before after : ℕ) : Type 0 where
  pub walked : IsWalked context table spans address address new
  pub sort : new.sort ≡ old.sort
  pub begun : IsBegun new.head
  pub looks : (each : List Span) (worth : Span → ℕ) → after + passed_sum worth old.head each ≤ before + 1 + passed_sum worth new.head each

-- whether a walk stands at no span that begins before an address
abbrev pub IsBeyond : ℕ → Head → Type 0
IsBeyond address Start = Unit {0}
IsBeyond address (At span times) = address ≤ span.first
IsBeyond address End = Unit {0}
