use Rattle.std.proofs.Common.{rules, ◌+◌, drop, get_or, Ok}
use Rattle.std.proofs.lemmas.List.{drop_more}
use Rattle.records.specs.Contents.{named_root, tree_records}
use Rattle.records.specs.Walk.{walk_in}
use Rattle.block_source.specs.Counts.{with_read}
use Rattle.block_source.proofs.Walking.{then_held, then_same}
use Rattle.plain_check.proofs.Counting.{trees_few}
use Rattle.volume_items.specs.declared.root_at.RootAt.{RootAt}
use Rattle.plain_check.proofs.volume.walk_trees.Goals as goal

pub loop-root-preserved : goal.loop-root-preserved
loop-root-preserved g c =
    let sup = c.args.volume.now.sup.now in
    let chunks = c.args.volume.now.map.now in
    let i = c.loop-root.root-index in
    let none : RootAt = record { key = record { objectid = 0; kind = 0; offset = 0 }; address = 0; generation = 0; level = 0 } in
    record {
      taken = record {
        kept = search (rules, then_held);
        same = then_same (g.D.Disk.bytes c.args.disk.now) c.args.volume.now.cache.now g.T.Taker.with (g.T.Taker.held c.args.into.now) (g.T.Taker.held c.loop-root.into) (g.T.Taker.held c.walk_into.new.into)
            (walk_in sup chunks (named_root (get_or c.args.roots.now i none))) (tree_records sup chunks (drop (i + 1) c.args.roots.now)) (tree_records sup chunks c.args.roots.now)
            (rw (drop_more c.args.roots.now i none c.loop-root-test.true) at c.loop-root.invariant.taken.same)
            (rw (← c.named_root.ensures, ← c.loop-root.invariant.taken.kept.bytes) c.in_ok-walk_into.ensures.taken);
      };
      counted = record {
        reads = then_same (g.D.Disk.bytes c.args.disk.now) c.args.volume.now.cache.now (with_read c.args.volume.now) (g.D.Disk.reads c.args.disk.now) (g.D.Disk.reads c.loop-root.disk) (g.D.Disk.reads c.walk_into.new.disk)
            (walk_in sup chunks (named_root (get_or c.args.roots.now i none))) (tree_records sup chunks (drop (i + 1) c.args.roots.now)) (tree_records sup chunks c.args.roots.now)
            (rw (drop_more c.args.roots.now i none c.loop-root-test.true) at c.loop-root.invariant.counted.reads)
            (rw (← c.named_root.ensures, ← c.loop-root.invariant.taken.kept.bytes) c.in_ok-walk_into.ensures.reads);
      };
    }

pub returns-clause-reads : goal.returns-clause-reads
returns-clause-reads g c =
    let volume = c.args.volume.now in
    trees_few g.D.Disk volume c.args.disk.now c.loop-root.disk (Ok (tt {0})) volume.sup.now volume.map.now c.args.roots.now c.loop-root.root-index
    c.loop-root-test.false c.loop-root.invariant.counted.reads
