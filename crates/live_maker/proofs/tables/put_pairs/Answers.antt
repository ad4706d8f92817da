use Rattle.std.proofs.Common.{arith, refl}
use Rattle.live_index.specs.Table.{pairs_of}
use Rattle.live_maker.specs.Tables.{with_pairs}
use Rattle.live_maker.proofs.Changing.{put_more}
use Rattle.live_maker.proofs.tables.put_pairs.Goals as goal

pub loop-live-init : goal.loop-live-init
unfolding with_pairs
loop-live-init g c = record { pairs = refl; looks = omega arith }

pub loop-live-preserved : goal.loop-live-preserved
loop-live-preserved g c = record {
  pairs = put_more (pairs_of c.args.table.now) (pairs_of c.loop-live.table) (pairs_of c.insert.new.self) c.args.lives.now c.loop-live.live-index _
      c.loop-live-test.true c.loop-live.invariant.pairs c.in_ok-insert.ensures.ok;
  looks = omega (arith, c.insert.ensures.looks);
}
