use Rattle.std.proofs.Common.{◌≡◌, ◌-◌, ◌≤◌, length, arith, ◌∙◌}
use Rattle.std.proofs.lemmas.Grind.{common_steps}
use Rattle.trace_reader.proofs.Filling.{fill_more, untold_more, are_bytes}
use Rattle.trace_reader.proofs.pieces.fill.Goals as goal

pub loop-done-preserved : goal.loop-done-preserved
loop-done-preserved g c =
    let count = c.in-Ok.ensures.count in
    let size : length c.read.new.into ≡ length c.loop-done.piece - c.loop-done.done =
    grind (arith, common_steps, c.read.auto.into) in
    let few : c.in-Ok.n ≤ length c.read.new.into = grind (arith, common_steps, c.read.auto.into, count) in
    record {
      lawful = are_bytes _ (λ i. let f = c.type_inv.piece i in omega arith);
      inside = grind (arith, common_steps);
      told = fill_more _ _ _ c.loop-done.done c.in-Ok.n c.loop-done.piece c.read.new.into c.loop-done.invariant.inside size few c.loop-done.invariant.told c.in-Ok.ensures.given;
      untold = untold_more _ _ _ c.in-Ok.n c.read.new.into c.loop-done.invariant.untold c.in-Ok.ensures.given;
      cause = c.in-Ok.ensures.cause.fine ∙ c.loop-done.invariant.cause;
    }
