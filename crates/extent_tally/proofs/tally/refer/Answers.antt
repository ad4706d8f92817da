use Rattle.std.proofs.Common.{ℕ, ◌∷◌, [], subst}
use Rattle.accounts.specs.Apart.{AddsUp}
use Rattle.accounts.proofs.Apart.{adds_then}
use Rattle.accounts.specs.Kinds.{extent}
use Rattle.accounts.specs.Lent.{to, user_account}
use Rattle.extent_tally.specs.declared.class.ExtentClass.{ExtentClass}
use Rattle.extent_tally.specs.Held.{class_sums}
use Rattle.extent_tally.proofs.Lists.{if_ok}
use Rattle.extent_tally.proofs.tally.refer.Goals as goal

pub returns-clause-sums : goal.returns-clause-sums
returns-clause-sums c =
    let user = c.args.user.now in
    let count = c.args.count in
    let class = c.args.class in
    let listed = c.in_ok-listed.listed in
    if_ok c.give_reference.result c.give_reference.ensures.sums (λ (more : ExtentClass). λ adds.
    adds_then (class_sums class) (class_sums listed) (class_sums more) c.args.into.now c.list_reference.new.into c.give_reference.new.into
    (to (extent class.address) 2 count ∷ []) (to (user_account class.address user) 0 count ∷ [])
    c.in_ok-listed.ensures.sums
    (subst (λ (address : ℕ). AddsUp (class_sums listed) (class_sums more) c.list_reference.new.into c.give_reference.new.into (to (user_account address user) 0 count ∷ [])) c.in_ok-listed.ensures.address adds))
