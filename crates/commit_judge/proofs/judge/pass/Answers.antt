use Rattle.std.proofs.Common.{◌∙◌}
use Rattle.commit_judge.specs.Index.{known}
use Rattle.commit_judge.specs.Plan.{commit_in}
use Rattle.commit_judge.proofs.judgements.Passed.{pairs_moved, passed}
use Rattle.commit_judge.proofs.judge.pass.Goals as goal

pub returns-clause-known : goal.returns-clause-known
returns-clause-known g c = λ ascends.
    passed (known c.args.index.now) (commit_in c.args.plan) _ _ _ _ _ (rw c.deref.ensures.value at c.in_ok-index.ensures.same ascends)
    (λ tree ino. c.in_ok-turn.ensures tree ino ∙ c.requires.flags tree ino _)
    (pairs_moved _ _ _ _ _ _ _ _ _ _ c.as_slice.ensures.value c.as_slice-2.ensures.value c.as_slice-3.ensures.value c.take_pairs.ensures.pairs
    c.in_ok-put_pairs.ensures.ok c.in_ok-put_pairs-2.ensures.ok)
