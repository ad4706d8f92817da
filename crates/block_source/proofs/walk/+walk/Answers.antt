use Rattle.std.proofs.Common.{rules, arith}
use Rattle.records.specs.Walk.{walk_in}
use Rattle.block_source.proofs.Walking.{steps}
use Rattle.block_source.proofs.Counting.{leaf_counted, node_counted}
use Rattle.block_source.proofs.walk.+walk.Goals as goal

pub returns-then-e-eq0-clause-reads : goal.returns-then-e-eq0-clause-reads
returns-then-e-eq0-clause-reads g t c =
    leaf_counted (g.D.Disk.bytes c.args.disk.now) c.args.source.now (g.D.Disk.reads c.args.disk.now) _ c.args.e.now c.in_ok-block.block g.T.Taker.with _ _
    (omega arith) c.in_ok-block.ensures.gives c.in_ok-take_own.ensures c.in_ok-block.ensures.reads

pub loop-i-init : goal.loop-i-init
unfolding walk_in
loop-i-init g t c = record {
  taken = search (rules, steps);
  counted = record {
    reads = node_counted (g.D.Disk.bytes c.args.disk.now) c.args.source.now (g.D.Disk.reads c.args.disk.now) _ c.args.e.now c.in_ok-block.block g.T.Taker.with _ _
        c.if-e-eq0.false c.in_ok-block.ensures.gives c.in_ok-take_own.ensures c.in_ok-block.ensures.reads;
  };
}
