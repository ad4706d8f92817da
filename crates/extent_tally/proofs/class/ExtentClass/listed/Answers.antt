use Rattle.std.proofs.Common.{arith}
use Rattle.extent_tally.proofs.Parts.{gains_listed}
use Rattle.extent_tally.proofs.class.ExtentClass.listed.Goals as goal

pub returns-then-count-eq0 : goal.returns-then-count-eq0
returns-then-count-eq0 c =
    gains_listed c.args.self c.args.self.linked c.in_ok-lacks.lacks c.args.count
    (omega (arith, c.in-Ok.ensures, c.in_ok-lacks.ensures)) (omega (arith, c.in-Ok.ensures, c.in_ok-lacks.ensures))

pub returns-else-count-eq0 : goal.returns-else-count-eq0
returns-else-count-eq0 c =
    gains_listed c.args.self 1 c.in_ok-lacks.lacks c.args.count
    (omega (arith, c.in-Ok.ensures, c.in_ok-lacks.ensures)) (omega (arith, c.in-Ok.ensures, c.in_ok-lacks.ensures))
