-- A walk over the spans of a sort, from address to address. It serves to state what private functions keep.
use Rattle.std.specs.Prelude.{◌≡◌, ℕ, ◌*◌, ◌<◌, Bool, true, false, ◌&&◌, nat_lt, List, [], ◌∷◌, ◌++◌, replicate, Option, Some, None, if◌then◌else◌}
use Rattle.std.specs.List.{sum_by}
use Rattle.span_index.specs.declared.cursor.Head.{Head}
use Rattle.span_index.specs.declared.cursor.Head.TheVariants.{Start, At, End}
use Rattle.span_index.specs.declared.kept.SpanIndex.{SpanIndex}
use Rattle.span_index.specs.declared.places.Place.{Place}
use Rattle.span_index.specs.declared.span.Span.{Span}
use Rattle.span_index.specs.declared.span.SortName.{SortName}
use Rattle.span_index.specs.Order.{is_below, is_same}
use Rattle.span_index.specs.Spans.{Table, end_of, is_sort}

-- whether a walk is not behind all spans
abbrev pub IsOpen : Head → Type 0
IsOpen Start = Unit {0}
IsOpen (At span times) = Unit {0}
IsOpen End = ⊥

-- whether a walk is not before all spans
abbrev pub IsBegun : Head → Type 0
IsBegun Start = ⊥
IsBegun (At span times) = Unit {0}
IsBegun End = Unit {0}

-- whether a walk has passed a span of its sort: it stands at one above it
abbrev pub is_passed : Head → Span → Bool
is_passed Start span = false
is_passed (At here times) span = is_below span here
is_passed End span = true

-- whether a span is of a sort, has a sector, and ends after an address
unfoldable pub is_reaching : SortName → ℕ → Span → Bool
is_reaching sort address span = is_sort sort span.sort && (nat_lt 0 span.sectors && nat_lt address (end_of span))

-- A walk stands at a span that ends after an address, as often as the table has it.
abbrev pub IsHead : Table → SortName → ℕ → Head → Type 0
IsHead table sort address Start = Unit {0}
IsHead table sort address (At span times) = (0 < times) × (times ≡ table span) × (is_reaching sort address span ≡ true)
IsHead table sort address End = Unit {0}

-- whether a walk stands at a span
abbrev pub is_at : Head → Span → Bool
is_at Start span = false
is_at (At here times) span = is_same here span
is_at End span = false

-- A walk goes on over what it stood at, and over no other span that stands and that ends after an address.
pub record IsStep (table : Table) (sort : SortName) (address : ℕ) (old new : Head) : Type 0 where
  pub over : (span : Span) → is_passed old span ≡ true → is_passed new span ≡ true
  pub here : (span : Span) → is_at old span ≡ true → is_passed new span ≡ true
  pub none : (span : Span) → is_passed new span ≡ true → is_passed old span ≡ false → is_at old span ≡ false
      → is_reaching sort address span ≡ true → table span ≡ 0

-- the span that a walk stands at
abbrev pub above_of : Head → Option Span
above_of Start = None
above_of (At span times) = Some span
above_of End = None

-- the sum over the spans of a list that a walk has passed
unfoldable pub passed_sum : (Span → ℕ) → Head → List Span → ℕ
passed_sum value head spans = sum_by (λ span. if is_passed head span then value span else 0) spans

-- what the span that a walk stands at comes to, as often as it stands
abbrev pub at_sum : (Span → ℕ) → Head → ℕ
at_sum value Start = 0
at_sum value (At span times) = times * value span
at_sum value End = 0

-- the spans of some entries, each as often as it stands
unfoldable pub spans_in : List (Place × ℕ) → List Span
spans_in [] = []
spans_in (entry ∷ entries) = replicate entry.1 entry.0.span ++ spans_in entries

-- the spans of an index
abbrev pub spans_of : {L : Type 0} → SpanIndex L → List Span
spans_of index = spans_in index.spans.entries
