use Rattle.volume_maker.specs.Live.{all_blocks}
use Rattle.volume_maker.proofs.Remaking.{and_then, with_files, with_sums}
use Rattle.volume_maker.proofs.trees.Trees.make_files.Goals as goal

pub returns : goal.returns
returns c =
    let generation = c.args.generation in
    let before = c.args.self.now in
    let mid = record before { files = c.in_ok-self.field-0 } in
    let late = record mid { sums = c.in_ok-self-2.field-0 } in
    let after = c.make_subvolumes.new.self in
    let space = c.args.space.now in
    let then = c.tree_of.new.space in
    let last = c.tree_of-2.new.space in
    let end = c.make_subvolumes.new.space in
    and_then generation (all_blocks before) (all_blocks mid) (all_blocks after) space then end
    (with_files generation before c.in_ok-self.field-0 space then c.in_ok-self.ensures)
    (and_then generation (all_blocks mid) (all_blocks late) (all_blocks after) then last end
    (with_sums generation mid c.in_ok-self-2.field-0 then last c.in_ok-self-2.ensures) c.in_ok-make_subvolumes.ensures)
