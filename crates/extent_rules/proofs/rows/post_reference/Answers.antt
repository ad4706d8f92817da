use Rattle.extent_rules.proofs.rows.post_reference.Goals as goal

pub returns : goal.returns
returns g c = rw (← c.user_of-user.ensures c.args.address) (rw c.from.ensures at c.put_reference.ensures)
