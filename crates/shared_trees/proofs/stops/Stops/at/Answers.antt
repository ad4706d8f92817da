use Rattle.std.proofs.Common.{◌∙◌}
use Rattle.tree_laws.proofs.Stopping.{stop_at}
use Rattle.shared_trees.proofs.stops.Stops.at.Goals as goal

pub returns-then-number-self-clause-stop : goal.returns-then-number-self-clause-stop
returns-then-number-self-clause-stop c =
    c.args.self.now.same _ ∙ stop_at c.args.self.now.met.now c.args.number _ c.if-number-self.true

pub returns-then-number-self-clause-known : goal.returns-then-number-self-clause-known
returns-then-number-self-clause-known c = λ pairs are.
    are c.args.number _ c.if-number-self.true
