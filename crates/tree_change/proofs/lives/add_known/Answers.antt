use Rattle.std.proofs.Common.{arith}
use Rattle.live_index.specs.Table.{pairs_of}
use Rattle.records.specs.declared.rec.WalkedBlock.{WalkedBlock}
use Rattle.tree_change.proofs.Leaving.{some_more}
use Rattle.tree_change.proofs.lives.add_known.Goals as goal

-- src/lives.rt:132:5
pub loop-block-preserved : goal.loop-block-preserved
loop-block-preserved g c = record {
  puts = some_more (λ (block : WalkedBlock). pairs_of c.args.table.now block.tree block.address)
      c.args.into.now.items c.loop-block.into.items c.push_some.new.into.items _ c.args.blocks.now c.loop-block.block-index _ c.loop-block-test.true
      c.loop-block.invariant.puts c.get.ensures.value c.in_ok-push_some.ensures;
  looks = omega (arith, c.loop-block.invariant.looks, c.get.ensures.looks);
}
