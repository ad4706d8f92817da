use Rattle.std.proofs.Common.{refl, rules}
use Rattle.tree_change.proofs.ByMap.{size_some}
use Rattle.live_index.specs.Table.{pairs_of}
use Rattle.touched_blocks.specs.Marks.{marked_by}
use Rattle.shared_trees.specs.Under.{under_of}
use Rattle.tree_change.proofs.ByArray.{array_known, known_array, known_as, map_told, refused}
use Rattle.tree_change.proofs.Changing.{listed_either}
use Rattle.tree_change.proofs.ComparedLooks.{map_few}
use Rattle.tree_change.proofs.compared.change_map.Goals as goal

pub returns-then-not-lie_apart-clause-tells : goal.returns-then-not-lie_apart-clause-tells
returns-then-not-lie_apart-clause-tells g c =
    refused g.D.Disk c.args.disk.now c.refuse_map.new.disk c.args.all.now c.args.all.now c.args.both.now c.args.array.now c.refuse_map.result
    c.refuse_map.ensures.none c.refuse_map.ensures.gives

pub returns-clause-tells : goal.returns-clause-tells
returns-clause-tells g c =
    let both = c.args.both.now in
    let array = c.args.array.now in
    let old_array = c.in_ok-old_array.old_array in
    let olds = c.in_ok-olds.olds in
    let some = c.in_ok-some.some in
    let moving = marked_by c.in_ok-changing.changing in
    let marked = marked_by both.marks.now in
    let under = under_of c.in_ok-starts.starts in
    let sound = c.lie_apart.ensures (search rules) in
    let distinct = c.in_ok-some.ensures.apart sound.0 sound.1 in
    map_told g.D.Disk c.args.disk.now c.change_chunks.new.disk c.args.all.now c.change_chunks.new.all both array _
    (known_array both array old_array olds some moving under (g.D.Disk.len c.args.disk.now)) (λ image. refl) (λ image. refl)
    (known_as (pairs_of both.kept.now) (marked_by both.touched.now) under _ _ _ _ _ c.new-moves.ensures.old c.new-moves.ensures.new
    c.new-moves.ensures.nodesize c.new-moves.ensures.end) refl refl refl refl refl refl
    (λ image is. array_known both array old_array olds some moving under (g.D.Disk.len c.args.disk.now) c.requires.fit image is
    c.in_ok-old_array.ensures c.in_ok-olds.ensures.homes distinct.1
    (c.in_ok-changing.ensures.ok distinct.0 (size_some _ c.requires.fit.was_size))
    (listed_either (pairs_of both.kept.now) (marked_by c.join.new.self) moving marked under c.in_ok-join.ensures.ok c.in_ok-starts.ensures.ok))
    c.change_chunks.result c.change_chunks.ensures.tells

pub returns-clause-looks : goal.returns-clause-looks
returns-clause-looks g c =
    let sound = c.lie_apart.ensures (search rules) in
    let distinct = c.in_ok-some.ensures.apart sound.0 sound.1 in
    map_few c.args.both.now c.args.array (record { ref_ptr = c.args.both.ref_ptr; now = c.new-moves.result })
    (record { ref_ptr = c.args.both.ref_ptr; now = c.in_ok-starts.starts }) c.args.both.now.same c.args.both.now.once _ (g.D.Disk.bytes c.args.disk.now)
    c.change_chunks.result c.in_ok-old_array.old_array c.in_ok-olds.olds c.in_ok-some.some
    c.in_ok-changing.changing c.join.new.self c.args.steps.now c.moved_pairs_of.new.steps c.listed.new.steps c.change_chunks.new.steps
    (record { before = c.new-moves.ensures.old; after = c.new-moves.ensures.new; size = c.new-moves.ensures.nodesize; until = c.new-moves.ensures.end })
    c.in_ok-old_array.ensures c.in_ok-olds.ensures.apart c.in_ok-olds.ensures.homes c.in_ok-olds.ensures.few c.in_ok-some.ensures.few distinct.0 distinct.1
    (record {
      moved = c.in_ok-changing.ensures.ok;
      listed = listed_either (pairs_of c.args.both.now.kept.now) (marked_by c.join.new.self) (marked_by c.in_ok-changing.changing)
          (marked_by c.args.both.now.marks.now) (under_of c.in_ok-starts.starts) c.in_ok-join.ensures.ok c.in_ok-starts.ensures.ok;
      few = c.in_ok-changing.ensures.few_marks;
      more = c.in_ok-join.ensures.few;
    })
    c.in_ok-changing.ensures.looks c.in_ok-starts.ensures.looks c.change_chunks.ensures.looks
