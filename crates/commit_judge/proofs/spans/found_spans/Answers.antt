use Rattle.std.proofs.Common.{subst, sym, take_all, arith}
use Rattle.std.specs.List.{Contains}
use Rattle.span_index.specs.Table.{times_of}
use Rattle.commit_judge.proofs.span_tables.Found.{found_more, named_more, stand_more}
use Rattle.commit_judge.proofs.span_tables.Runs.{few_more}
use Rattle.commit_judge.proofs.spans.found_spans.Goals as goal

pub loop-at-preserved : goal.loop-at-preserved
loop-at-preserved g c = record {
  found = found_more c.args.nodesize (times_of c.args.table.now) c.args.refs.now c.loop-at.at-index _ c.loop-at.found.items c.push_some.new.into.items
      c.named_span.result c.loop-at-test.true c.loop-at.invariant.found c.named_span.ensures.found c.in_ok-push_some.ensures;
  stand = stand_more (times_of c.args.table.now) c.loop-at.found.items c.push_some.new.into.items c.named_span.result c.loop-at.invariant.stand
      c.named_span.ensures.stands c.in_ok-push_some.ensures;
  named = named_more c.args.nodesize (times_of c.args.table.now) c.args.refs.now c.loop-at.at-index _ c.loop-at.found.items c.push_some.new.into.items
      c.named_span.result c.loop-at-test.true c.loop-at.invariant.named c.named_span.ensures.found c.in_ok-push_some.ensures;
  few = omega (
    arith,
    few_more c.loop-at.found.items c.push_some.new.into.items c.named_span.result 0 c.loop-at.at-index
        (omega (arith, c.loop-at.invariant.few)) c.in_ok-push_some.ensures,
  );
  looks = omega (arith, c.named_span.ensures.looks, c.loop-at.invariant.looks);
}

pub returns-clause-found : goal.returns-clause-found
returns-clause-found g c = λ lawful alone pairs span at stands names among.
    c.loop-at.invariant.found lawful alone pairs span at stands names
    (subst (λ l. Contains l at) (sym (take_all c.loop-at.at-index c.args.refs.now c.loop-at-test.false)) among)
