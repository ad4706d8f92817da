use Rattle.verdict.proofs.Answers.{ok_follows as on_ok}
use Rattle.live_index.specs.Table.{pairs_of}
use Rattle.shared_trees.specs.Under.{under_of}
use Rattle.shared_trees.proofs.Listed.{add_some}
use Rattle.shared_trees.proofs.starts.Starts.add.Goals as goal

pub returns-in-Some-clause-ok : goal.returns-in-Some-clause-ok
returns-in-Some-clause-ok g c =
    on_ok c.put.result
    (λ puts marked is. add_some (pairs_of c.args.table.now) marked (under_of c.args.self.now) c.args.place.now.tree c.args.place.now.address
    (under_of c.put.new.self) c.in-Some.parent c.in-Some.start c.in-Some.ensures.child puts is) c.put.ensures
