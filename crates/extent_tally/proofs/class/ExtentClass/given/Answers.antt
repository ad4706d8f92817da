use Rattle.std.proofs.Common.{◌≡◌, ◌-◌, ◌∷◌, [], arith, subst}
use Rattle.std.specs.Prelude.{List}
use Rattle.accounts.specs.declared.postings.Posting.{Posting}
use Rattle.accounts.specs.Lent.{to}
use Rattle.extent_tally.specs.Gains.{Gains}
use Rattle.extent_tally.specs.Held.{user, user_account}
use Rattle.extent_tally.proofs.Parts.{gains_as, gains_user, with_uses}
use Rattle.extent_tally.proofs.class.ExtentClass.given.Goals as goal

pub returns : goal.returns
returns c =
    let self = c.args.self in
    let r = c.args.who in
    let class = c.in_ok-class.class in
    let is = c.in_ok-class.ensures.is in
    let both = c.min-both.result in
    let new = with_uses class class.shown (c.in_ok-given.given - both) (class.used - both) in
    let e = c.in_ok-given.ensures in
    let n = c.in-Ok.ensures.1 in
    let who : user_account class ≡ user self.sort self.address r.root r.ino r.origin =
    (λ i. user (is i).sort (is i).address (is i).root (is i).ino (is i).origin) in
    subst (λ (ps : List Posting). Gains self new ps) (λ i. to (who i) 0 (n i) ∷ [])
    (gains_as self class new r.root r.ino r.origin _ c.in_ok-class.ensures
    (gains_user class (c.in_ok-given.given - both) (class.used - both) 0 c.in-Ok.count (omega (arith, e, c.min-both.ensures), omega (arith, e, c.min-both.ensures))))
