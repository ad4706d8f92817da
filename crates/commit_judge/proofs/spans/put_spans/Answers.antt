use Rattle.std.proofs.Common.{arith}
use Rattle.span_index.specs.Table.{times_of}
use Rattle.commit_judge.proofs.span_tables.Tables.{put_more, put_none}
use Rattle.commit_judge.proofs.spans.put_spans.Goals as goal

pub loop-span-init : goal.loop-span-init
loop-span-init g c = record { spans = put_none (times_of c.args.table.now); looks = omega arith }

pub loop-span-preserved : goal.loop-span-preserved
loop-span-preserved g c = record {
  spans = put_more (times_of c.args.table.now) (times_of c.loop-span.table) (times_of c.insert.new.self) c.args.spans.now c.loop-span.span-index _
      c.loop-span-test.true c.loop-span.invariant.spans c.in_ok-insert.ensures.ok;
  looks = omega (arith, c.insert.ensures.looks, c.loop-span.invariant.looks);
}
