use Rattle.std.proofs.Common.{◌+◌, ◌∙◌, refl, arith}
use Rattle.std.proofs.lemmas.Grind.{common_steps}
use Rattle.verdict.proofs.Lists.{all_behind}
use Rattle.extent_items.proofs.Behind.{rows_found, rows_kept}
use Rattle.extent_items.proofs.extent.references_fault.Goals as goal

pub returns-in-Some : goal.returns-in-Some
returns-in-Some c = rows_found _ _ _ _ _ _ _ (omega arith) refl (all_behind (c.loop-offset.offset + 1) c.args.bytes.now) c.in-Some.ensures.found ∙ c.loop-offset.invariant.decides

pub loop-offset-preserved : goal.loop-offset-preserved
loop-offset-preserved c = record {
  decides = rows_kept _ _ _ _ _ _ _ _ (omega arith) refl (all_behind (c.loop-offset.offset + 1) c.args.bytes.now) (grind (arith, common_steps)) c.reference_fault.ensures.found c.in_default.is ∙ c.loop-offset.invariant.decides;
  inside = grind (arith, common_steps);
}
