use Rattle.std.proofs.Common.{rules}
use Rattle.accounts.proofs.Behind.{leaves_all, leaves_cut, leaves_none, leaves_rest}
use Rattle.dir_rules.proofs.entries.post_entries.Goals as goal

pub loop-entry-init : goal.loop-entry-init
loop-entry-init g c = leaves_all (cc)

pub loop-entry-preserved : goal.loop-entry-preserved
loop-entry-preserved g c = leaves_rest g.met.P.Poster.passes c.loop-entry.invariant c.in-Some.ensures.steps c.put_entry.ensures (search rules)

pub returns-in_err-put_entry : goal.returns-in_err-put_entry
returns-in_err-put_entry g c =
    leaves_cut g.met.P.Poster.passes c.loop-entry.invariant c.in-Some.ensures.steps c.put_entry.ensures (search rules) c.from_residual.ensures.0

pub returns : goal.returns
returns g c = leaves_none g.met.P.Poster.passes c.loop-entry.invariant c.in-None.ensures.steps.0
