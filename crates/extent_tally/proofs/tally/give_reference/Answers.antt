use Rattle.std.proofs.Common.{◌∙◌, ◌++◌, ◌∷◌, [], ap}
use Rattle.accounts.proofs.Apart.{adds_listed}
use Rattle.accounts.specs.Lent.{to, user_account}
use Rattle.extent_tally.specs.Held.{class_sums}
use Rattle.extent_tally.proofs.Lists.{adds_more}
use Rattle.extent_tally.proofs.tally.give_reference.Goals as goal

pub returns-in-Some-clause-sums : goal.returns-in-Some-clause-sums
returns-in-Some-clause-sums c =
    adds_more (class_sums c.args.class) (class_sums c.in-Some.more) c.args.into.now (to (user_account c.args.class.address c.args.user.now) 0 c.args.count ∷ []) c.in-Some.ensures.sums

pub returns-clause-sums : goal.returns-clause-sums
returns-clause-sums c =
    adds_listed (class_sums c.args.class) c.args.into.now c.push.new.self (to (user_account c.args.class.address c.args.user.now) 0 c.args.count ∷ [])
    (c.in_ok-push.ensures.ok ∙ ap (λ p. c.args.into.now ++ p ∷ []) (c.to.ensures ∙ ap (λ x. to x 0 c.args.count) c.account-account.ensures))
