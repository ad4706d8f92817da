use Rattle.span_index.proofs.TableLaws.{alike_none, own_none, times_none}
use Rattle.span_index.proofs.kept.SpanIndex.new.Goals as goal

pub invariant_of-result : goal.invariant_of-result
invariant_of-result g c = record {
  own = own_none c.new.result c.new.ensures.empty;
  alike = alike_none _ c.new-2.result (times_none c.new.result c.new.ensures.empty) c.new-2.ensures;
}

pub returns : goal.returns
returns g c = times_none c.new.result c.new.ensures.empty
