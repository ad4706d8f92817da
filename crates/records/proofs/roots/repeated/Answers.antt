use Rattle.std.proofs.Common.{◌∙◌, ap, sym, arith, Some}
use Rattle.std.proofs.lemmas.Grind.{common_steps}
use Rattle.records.proofs.RootList.{repeated_here, repeated_past, repeated_done, seen_more}
use Rattle.records.proofs.roots.repeated.Goals as goal

pub returns-then-contains : goal.returns-then-contains
returns-then-contains c =
    sym (repeated_here c.args.roots.now c.loop-root.root-index _ _ c.loop-root-test.true (sym (c.loop-root.invariant.seen _) ∙ sym c.contains.ensures ∙ c.if-contains.true) c.loop-root.invariant.left
    ∙ ap Some (sym c.finding.ensures))

pub loop-root-preserved : goal.loop-root-preserved
loop-root-preserved c = record {
  seen = λ q. grind (arith, common_steps, c.loop-root.invariant.seen q, seen_more c.args.roots.now c.loop-root.root-index (record { key = record { objectid = 0; kind = 0; offset = 0 }; address = 0; generation = 0; level = 0 }) q c.loop-root-test.true);
  left = repeated_past c.args.roots.now c.loop-root.root-index _ _ c.loop-root-test.true (sym (c.loop-root.invariant.seen _) ∙ sym c.contains.ensures ∙ c.if-contains.false) c.loop-root.invariant.left;
}

pub returns : goal.returns
returns c = sym (repeated_done c.args.roots.now c.loop-root.root-index _ c.loop-root-test.false c.loop-root.invariant.left)
