use Rattle.std.proofs.Common.{◌∙◌, ◌++◌, ◌∷◌, [], ap}
use Rattle.accounts.specs.Kinds.{extent}
use Rattle.accounts.specs.Lent.{to}
use Rattle.accounts.proofs.Apart.{adds_listed}
use Rattle.extent_tally.specs.Held.{class_sums}
use Rattle.extent_tally.proofs.Lists.{adds_more}
use Rattle.extent_tally.proofs.tally.list_reference.Goals as goal

pub returns-in-Some-clause-sums : goal.returns-in-Some-clause-sums
returns-in-Some-clause-sums c =
    adds_more (class_sums c.args.class) (class_sums c.in-Some.more) c.args.into.now (to (extent c.args.class.address) 2 c.args.count ∷ []) c.in-Some.ensures.sums

pub returns-clause-sums : goal.returns-clause-sums
returns-clause-sums c =
    adds_listed (class_sums c.args.class) c.args.into.now c.push.new.self (to (extent c.args.class.address) 2 c.args.count ∷ [])
    (c.in_ok-push.ensures.ok ∙ ap (λ p. c.args.into.now ++ p ∷ []) (c.to.ensures ∙ ap (λ x. to x 2 c.args.count) c.extent-extent.ensures))
