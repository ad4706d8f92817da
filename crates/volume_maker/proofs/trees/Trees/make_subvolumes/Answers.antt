use Rattle.std.proofs.Common.{◌≡◌, [], ◌∷◌, ◌++◌, arith}
use Rattle.std.proofs.lemmas.Grind.{common_steps}
use Rattle.volume_maker.specs.Live.{all_blocks}
use Rattle.volume_maker.proofs.Remaking.{kept, and_then, with_subvolume}
use Rattle.volume_maker.proofs.trees.Trees.make_subvolumes.Goals as goal

pub loop-subvolume-init : goal.loop-subvolume-init
loop-subvolume-init c =
    kept c.args.generation (all_blocks c.args.self.now) c.args.space.now c.args.space.now (λ number free. free)

pub loop-subvolume-preserved : goal.loop-subvolume-preserved
loop-subvolume-preserved c =
    let before = c.loop-subvolume.self in
    let after = record before { subvolumes = c.push.new.self } in
    let pushed : c.push.new.self.items ≡ before.subvolumes.items ++ c.in_ok-tree.tree ∷ [] = grind (arith, common_steps) in
    and_then c.args.generation (all_blocks c.args.self.now) (all_blocks before) (all_blocks after)
    c.args.space.now c.loop-subvolume.space c.tree_of.new.space c.loop-subvolume.invariant
    (with_subvolume c.args.generation before c.push.new.self c.in_ok-tree.tree c.loop-subvolume.space c.tree_of.new.space c.in_ok-tree.ensures pushed)
