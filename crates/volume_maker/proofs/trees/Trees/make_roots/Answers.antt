use Rattle.volume_maker.specs.Live.{all_blocks}
use Rattle.volume_maker.proofs.Remaking.{and_then, with_roots, with_extents}
use Rattle.volume_maker.proofs.trees.Trees.make_roots.Goals as goal

pub returns : goal.returns
returns c =
    let generation = c.args.generation in
    let before = c.args.self.now in
    let mid = record before { extents = c.in_ok-self.field-0 } in
    let after = record mid { roots = c.in_ok-self-2.field-0 } in
    let space = c.args.space.now in
    let then = c.tree_of.new.space in
    let end = c.tree_of-2.new.space in
    and_then generation (all_blocks before) (all_blocks mid) (all_blocks after) space then end
    (with_extents generation before c.in_ok-self.field-0 space then c.in_ok-self.ensures)
    (with_roots generation mid c.in_ok-self-2.field-0 then end c.in_ok-self-2.ensures)
