use Rattle.records.proofs.Alike.{walk_alike}
use Rattle.records.proofs.law.visits_decide.Goals as goal

pub returns : goal.returns
returns c = λ sup stored other e alike. walk_alike e.level sup stored other e alike
