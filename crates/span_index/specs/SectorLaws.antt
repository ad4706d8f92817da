-- Which lists have each span of a table.
use Rattle.std.proofs.Common.{◌≡◌, List, arith}
use Rattle.span_index.specs.declared.span.Span.{Span}
use Rattle.span_index.specs.Sectors.{HasEach, times_of_span}
use Rattle.span_index.specs.Spans.{Table}

-- that with each span as often as it stands has each
pub all_each : (spans : List Span) (table : Table) → ((span : Span) → times_of_span spans span ≡ table span) → HasEach table spans
all_each spans table all = λ span some. let is = all span in omega (arith, is, some)
