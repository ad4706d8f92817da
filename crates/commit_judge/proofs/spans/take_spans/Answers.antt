use Rattle.std.proofs.Common.{arith}
use Rattle.span_index.specs.Table.{times_of}
use Rattle.commit_judge.proofs.span_tables.Tables.{take_more, take_none}
use Rattle.commit_judge.proofs.spans.take_spans.Goals as goal

pub loop-span-init : goal.loop-span-init
loop-span-init g c = record { spans = take_none (times_of c.args.table.now); looks = omega arith }

pub loop-span-preserved : goal.loop-span-preserved
loop-span-preserved g c = record {
  spans = take_more (times_of c.args.table.now) (times_of c.loop-span.table) (times_of c.remove.new.self) c.args.spans.now c.loop-span.span-index _
      c.loop-span-test.true c.loop-span.invariant.spans c.remove.ensures.left;
  looks = omega (arith, c.remove.ensures.looks, c.loop-span.invariant.looks);
}
