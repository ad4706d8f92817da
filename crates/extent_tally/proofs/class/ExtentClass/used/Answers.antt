use Rattle.std.proofs.Common.{◌≡◌, ◌∙◌, ◌-◌, arith, ap, subst}
use Rattle.accounts.specs.declared.postings.Posting.{Posting}
use Rattle.std.specs.Prelude.{List}
use Rattle.extent_tally.specs.declared.class.ExtentClass.{ExtentClass}
use Rattle.extent_tally.specs.Gains.{Gains, use_postings}
use Rattle.extent_tally.proofs.Parts.{gains_as, gains_use, with_uses}
use Rattle.extent_tally.proofs.class.ExtentClass.used.Goals as goal

pub returns : goal.returns
returns c =
    let self = c.args.self in
    let class = c.in_ok-class.class in
    let is = c.in_ok-class.ensures.is in
    let both = c.min-both.result in
    let new = with_uses class 1 (class.given - both) (c.in_ok-used.used - both) in
    let e = c.in_ok-used.ensures in
    let sort = ap (λ (k : ExtentClass). k.sort) is ∙ c.if-self-sort.false in
    let form = ap (λ (k : ExtentClass). k.form) is ∙ c.if-self-form.false in
    let uses : use_postings class.address class.sort class.form class.root class.ino class.origin ≡ use_postings self.address c.args.sort c.args.form c.args.who.root c.args.who.ino c.args.who.origin =
    (λ i. use_postings (is i).address (sort i) (form i) (is i).root (is i).ino (is i).origin) in
    subst (λ (ps : List Posting). Gains self new ps) uses
    (gains_as self class new c.args.who.root c.args.who.ino c.args.who.origin _ c.in_ok-class.ensures
    (gains_use class (class.given - both) (c.in_ok-used.used - both) (omega (arith, e, c.min-both.ensures), omega (arith, e, c.min-both.ensures))))
