use Rattle.write_cache.proofs.JoinLaws.{appended}
use Rattle.write_cache.proofs.PutLaws.{ok_so, here_now, others_stay}
use Rattle.write_cache.proofs.runs.append_next.Goals as goal

pub returns-clause-ok : goal.returns-clause-ok
returns-clause-ok c =
    ok_so c.append_at-appended.result (λ puts. appended c.args.runs.now.entries c.take_out-next.new.runs.entries c.append_at-appended.new.runs.entries c.remove.new.self.entries c.args.begin c.args.end c.take_out-next.result c.as_slice.result.now
    c.requires.order c.take_out-next.ensures.taken c.take_out-next.ensures.others c.as_slice.ensures puts
    (here_now _ c.args.end _ c.remove.ensures.updates.1) (others_stay _ _ c.args.end c.remove.ensures.updates.2))
    c.append_at-appended.ensures.ok
