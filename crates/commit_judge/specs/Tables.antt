-- Tables of spans that lists of spans change.
use Rattle.std.specs.Prelude.{◌+◌, ◌-◌, List}
use Rattle.span_index.specs.Sectors.{times_of_span}
use Rattle.span_index.specs.Spans.{Table}
use Rattle.span_index.specs.declared.span.Span.{Span}

-- a table with some spans more, and without some, or without all that stand where that is more
unfoldable pub with_spans : Table → List Span → Table
with_spans table spans span = table span + times_of_span spans span

unfoldable pub without_spans : Table → List Span → Table
without_spans table spans span = table span - times_of_span spans span
