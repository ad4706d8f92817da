use Rattle.volume_maker.specs.declared.block.BlockAt.{BlockAt}
use Rattle.std.proofs.Common.{◌≡◌, ℕ, ◌<◌, sym, ap, subst}
use Rattle.std.proofs.lemmas.Grind.{common_steps}
use Rattle.std.proofs.Common.{arith}
use Rattle.std.specs.Option.{option_copied}
use Rattle.volume_maker.specs.Remade.{IsFree, old_blocks}
use Rattle.volume_maker.proofs.Remaking.{one_more_leaf}
use Rattle.volume_maker.proofs.tree.leaves_of.Goals as goal

pub loop-from-preserved : goal.loop-from-preserved
loop-from-preserved c =
    let new = c.in_ok-new.new in
    let number = c.in_ok-number.number in
    let same : new.at.number ≡ number = ap (λ (b : BlockAt). b.number) c.in_ok-new.ensures in
    let P : ℕ → Type 0 = λ n. IsFree c.loop-from.space n in
    let Q : ℕ → Type 0 = λ n. n < 512 in
    one_more_leaf c.args.generation (old_blocks (option_copied c.args.old)) c.loop-from.leaves.items c.push.new.self.items
    c.args.space.now c.loop-from.space c.kept_or_new.new.space c.in_ok-kept_or_new.field-0 new c.loop-from.invariant
    (grind (arith, common_steps)) (ap (λ (b : BlockAt). b.generation) c.in_ok-new.ensures)
    (subst Q (sym same) c.in_ok-number.ensures.within) (subst P (sym same) c.in_ok-number.ensures.free)
    c.in_ok-kept_or_new.ensures.made c.in_ok-kept_or_new.ensures.taken
