use Rattle.std.proofs.Common.{ℕ, sym, subst}
use Rattle.extent_tally.specs.Gains.{IsOfUser, with_user}
use Rattle.extent_tally.proofs.Parts.{of_no_user}
use Rattle.extent_tally.proofs.class.ExtentClass.of_user.Goals as goal

pub returns-then-self-eq0-2 : goal.returns-then-self-eq0-2
returns-then-self-eq0-2 c =
    subst (λ (root : ℕ). IsOfUser c.args.self (with_user c.args.self root c.args.who.ino c.args.who.origin) c.args.who.root c.args.who.ino c.args.who.origin) (sym c.in-Ok.ensures.1)
    (of_no_user c.args.self c.args.who.root c.args.who.ino c.args.who.origin c.if-self-eq0.true c.if-self-eq0-2.true)
