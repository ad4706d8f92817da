use Rattle.std.proofs.Common.{ℕ, ◌<◌, map, sym, subst}
use Rattle.std.specs.Option.{option_copied}
use Rattle.volume_maker.specs.declared.block.Block.{Block}
use Rattle.volume_maker.specs.declared.block.BlockAt.{BlockAt}
use Rattle.volume_maker.specs.Remade.{IsFree, old_blocks}
use Rattle.volume_maker.proofs.Remaking.{one_more}
use Rattle.volume_maker.proofs.tree.tree_of.Goals as goal

pub returns : goal.returns
returns c =
    let new = c.in_ok-root.root in
    let same = c.in_ok-root.ensures.number in
    let at_of : Block → BlockAt = λ b. b.at in
    let P : ℕ → Type 0 = λ n. IsFree c.leaves_of.new.space n in
    let Q : ℕ → Type 0 = λ n. n < 512 in
    one_more c.args.generation (old_blocks (option_copied c.args.old)) (map at_of c.in_ok-leaves.leaves.items)
    c.args.space.now c.leaves_of.new.space c.kept_or_new.new.space c.in_ok-root-2.root.at new.at c.in_ok-leaves.ensures
    c.in_ok-root.ensures.generation (subst Q (sym same) c.in_ok-number.ensures.within) (subst P (sym same) c.in_ok-number.ensures.free)
    c.in_ok-root-2.ensures.made c.in_ok-root-2.ensures.taken
