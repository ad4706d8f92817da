use Rattle.live_index.specs.Table.{pairs_of}
use Rattle.block_source.specs.Takes.{handing}
use Rattle.touched_blocks.specs.Marks.{marked_by}
use Rattle.shared_trees.specs.Under.{under_of}
use Rattle.tree_change.proofs.ByMap.{rest_told}
use Rattle.tree_change.proofs.Changing.{listed_either}
use Rattle.tree_change.proofs.ComparedLooks.{rest_few}
use Rattle.tree_change.proofs.compared.change_rest.Goals as goal

pub returns-clause-tells : goal.returns-clause-tells
returns-clause-tells g c =
    rest_told c.args.both.now c.args.map _ _ _ _ g.D.Disk c.args.disk.now c.change_others.new.disk c.args.all.now c.change_others.new.all
    c.in_ok-changing.changing c.join.new.self _ (handing (λ roots. roots.items) c.change_others.result) c.requires.fit
    (record { before = c.new-moves.ensures.old; after = c.new-moves.ensures.new; size = c.new-moves.ensures.nodesize; until = c.new-moves.ensures.end })
    c.in_ok-changing.ensures.ok c.in_ok-join.ensures.ok c.in_ok-starts.ensures.ok
    c.change_others.ensures.tells

pub returns-clause-looks : goal.returns-clause-looks
returns-clause-looks g c =
    rest_few c.args.both.now c.args.map _ _ _ _ _ (g.D.Disk.bytes c.args.disk.now) c.change_others.result c.in_ok-changing.changing c.join.new.self
    c.args.steps.now c.moved_pairs.new.steps c.listed.new.steps c.change_others.new.steps
    (record { before = c.new-moves.ensures.old; after = c.new-moves.ensures.new; size = c.new-moves.ensures.nodesize; until = c.new-moves.ensures.end })
    (record {
      moved = c.in_ok-changing.ensures.ok;
      listed = listed_either (pairs_of c.args.both.now.kept.now) (marked_by c.join.new.self) (marked_by c.in_ok-changing.changing)
          (marked_by c.args.both.now.marks.now) (under_of c.in_ok-starts.starts) c.in_ok-join.ensures.ok c.in_ok-starts.ensures.ok;
      few = c.in_ok-changing.ensures.few_marks;
      more = c.in_ok-join.ensures.few;
    })
    c.in_ok-changing.ensures.looks c.in_ok-starts.ensures.looks c.change_others.ensures.looks
