use Rattle.std.proofs.Common.{◌≡◌, List, ◌∙◌, subst, arith}
use Rattle.std.proofs.lemmas.Grind.{common_steps}
use Rattle.std.proofs.lemmas.List.{take_all}
use Rattle.std.specs.List.{All}
use Rattle.volume_maker.specs.declared.block.BlockAt.{BlockAt}
use Rattle.volume_maker.specs.Live.{all_blocks}
use Rattle.volume_maker.specs.Remade.{IsBusy}
use Rattle.volume_maker.proofs.Places.{one_more_busy}
use Rattle.volume_maker.proofs.trees.Trees.space.Goals as goal

pub loop-block-preserved : goal.loop-block-preserved
loop-block-preserved c =
    let none : BlockAt = record { number = 0; tree = 0; level = 0; generation = 0 } in
    one_more_busy c.loop-block.space c.take.new.self c.deref-block-items.result.now c.loop-block.block-index none
    c.loop-block-test.true c.take.ensures c.loop-block.invariant

pub returns : goal.returns
returns c =
    let items = c.deref-block-items.result.now in
    let P : List BlockAt → Type 0 = λ l. All (λ b. IsBusy c.loop-block.space b.number) l in
    let same : items ≡ all_blocks c.args.self.now = c.deref-block-items.ensures.value ∙ c.in_ok-blocks.ensures in
    let whole = take_all c.loop-block.block-index items (grind (arith, common_steps)) in
    subst P (whole ∙ same) c.loop-block.invariant
