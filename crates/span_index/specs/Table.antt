-- The table that an index is.
use Rattle.span_index.specs.declared.kept.SpanIndex.{SpanIndex}
use Rattle.span_index.specs.Places.{times_in}
use Rattle.span_index.specs.Spans.{Table}

-- how often each span stands in an index
abbrev pub times_of : {L : Type 0} → SpanIndex L → Table
times_of index = times_in index.spans
