use Rattle.std.proofs.Common.{◌∷◌, [], ap, sym, subst}
use Rattle.std.specs.Prelude.{List}
use Rattle.accounts.specs.declared.postings.Posting.{Posting}
use Rattle.accounts.specs.Lent.{to}
use Rattle.extent_tally.specs.Gains.{Gains}
use Rattle.extent_tally.specs.declared.class.ExtentClass.{ExtentClass}
use Rattle.extent_tally.proofs.Lists.{if_some}
use Rattle.extent_tally.proofs.tally.given.Goals as goal

pub returns : goal.returns
returns c =
    if_some c.given.result c.given.ensures (λ (more : ExtentClass). λ gains.
    subst (λ (ps : List Posting). Gains c.args.class more ps) (ap (λ x. to x 0 c.args.count ∷ []) (sym (c.in_ok-who.ensures c.args.class.address))) gains)
