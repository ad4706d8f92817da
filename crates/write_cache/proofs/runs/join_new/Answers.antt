use Rattle.std.proofs.Common.{◌∙◌, ap}
use Rattle.std.specs.Prelude.{Some}
use Rattle.write_cache.proofs.PutLaws.{meet_new, new_hold, new_same, here_now, others_stay, ok_so, err_so}
use Rattle.write_cache.proofs.runs.join_new.Goals as goal

pub join_at-joined-requires : goal.join_at-joined-requires
join_at-joined-requires c =
    meet_new c.args.runs.now.entries c.insert.new.self.entries c.args.last c.args.at _ c.requires.kept c.requires.last c.requires.behind c.requires.fits
    (here_now _ c.args.at _ c.in_ok-insert.ensures.updates.1 ∙ ap Some (c.of.ensures ∙ c.new.ensures.items))
    (others_stay _ _ c.args.at c.in_ok-insert.ensures.updates.2)

pub returns-then-is_err-clause-err : goal.returns-then-is_err-clause-err
returns-then-is_err-clause-err c =
    err_so c.join_at-joined.result (λ same. new_same c.args.runs.now.entries c.insert.new.self.entries c.join_at-joined.new.runs.entries c.remove.new.self.entries c.args.at
    c.requires.kept c.requires.apart (others_stay _ _ c.args.at c.in_ok-insert.ensures.updates.2) same
    (here_now _ c.args.at _ c.remove.ensures.updates.1) (others_stay _ _ c.args.at c.remove.ensures.updates.2) c.remove.ensures.ordered)
    c.join_at-joined.ensures.err

pub returns-else-is_err-clause-ok : goal.returns-else-is_err-clause-ok
returns-else-is_err-clause-ok c =
    ok_so c.join_at-joined.result (λ joined. new_hold c.args.runs.now.entries c.insert.new.self.entries c.join_at-joined.new.runs.entries c.args.last c.args.at c.args.bytes.now
    c.requires.kept c.requires.apart c.requires.behind c.requires.some c.requires.fits
    (here_now _ c.args.at _ c.in_ok-insert.ensures.updates.1 ∙ ap Some (c.of.ensures ∙ c.new.ensures.items))
    (others_stay _ _ c.args.at c.in_ok-insert.ensures.updates.2) joined c.join_at-joined.ensures.ordered)
    c.join_at-joined.ensures.ok
