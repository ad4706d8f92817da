use Rattle.std.proofs.Common.{rules}
use Rattle.accounts.proofs.Behind.{leaves_all, leaves_cut, leaves_none, leaves_rest}
use Rattle.extent_rules.proofs.rows.post_references.Goals as goal

pub loop-reference-init : goal.loop-reference-init
loop-reference-init g c = leaves_all (cc)

pub loop-reference-preserved : goal.loop-reference-preserved
loop-reference-preserved g c =
    leaves_rest g.met.P.Poster.passes c.loop-reference.invariant c.in-Some.ensures.steps c.post_reference.ensures (search rules)

pub returns-in_err-post_reference : goal.returns-in_err-post_reference
returns-in_err-post_reference g c =
    leaves_cut g.met.P.Poster.passes c.loop-reference.invariant c.in-Some.ensures.steps c.post_reference.ensures (search rules) c.from_residual.ensures.0

pub returns : goal.returns
returns g c = leaves_none g.met.P.Poster.passes c.loop-reference.invariant c.in-None.ensures.steps.0
