use Rattle.std.proofs.Common.{rules}
use Rattle.accounts.proofs.Behind.{leaves_all, leaves_cut, leaves_none, leaves_rest}
use Rattle.dir_rules.proofs.entries.post_links.Goals as goal

pub loop-name-init : goal.loop-name-init
loop-name-init g c = leaves_all (cc)

pub loop-name-preserved : goal.loop-name-preserved
loop-name-preserved g c = leaves_rest g.met.P.Poster.passes c.loop-name.invariant c.in-Some.ensures.steps c.put_link.ensures (search rules)

pub returns-in_err-put_link : goal.returns-in_err-put_link
returns-in_err-put_link g c =
    leaves_cut g.met.P.Poster.passes c.loop-name.invariant c.in-Some.ensures.steps c.put_link.ensures (search rules) c.from_residual.ensures.0

pub returns : goal.returns
returns g c = leaves_none g.met.P.Poster.passes c.loop-name.invariant c.in-None.ensures.steps.0
