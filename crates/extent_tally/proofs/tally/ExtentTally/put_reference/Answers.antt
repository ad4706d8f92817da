use Rattle.std.proofs.Common.{ℕ, ◌<◌, arith, length, refl, subst}
use Rattle.accounts.specs.Apart.{AddsUp}
use Rattle.accounts.specs.Lent.{reference_pair}
use Rattle.extent_tally.specs.declared.class.ExtentClass.{ExtentClass}
use Rattle.extent_tally.specs.Held.{class_sums, extents_apart}
use Rattle.extent_tally.proofs.Lists.{adds_posted, set_adds}
use Rattle.extent_tally.proofs.tally.ExtentTally.put_reference.Goals as goal

pub returns-then-place-len : goal.returns-then-place-len
returns-then-place-len c =
    adds_posted (extents_apart c.args.self.now) (extents_apart c.args.self.now) c.args.into.now c.put_reference.new.self c.put_reference.result _ refl c.put_reference.ensures

pub returns-then-class-address : goal.returns-then-class-address
returns-then-class-address c =
    adds_posted (extents_apart c.args.self.now) (extents_apart c.args.self.now) c.args.into.now c.put_reference-then-class-address.new.self
    c.put_reference-then-class-address.result _ refl c.put_reference-then-class-address.ensures

pub returns : goal.returns
unfolding extents_apart
returns c =
    let list = c.args.self.now.list in
    let place = c.place_of-place.result in
    let class = c.index-class.result.now in
    let more = c.in_ok-more.more in
    let user = c.args.user.now in
    let within : place < length list.items = omega (arith, list.ok.0, c.len-2.ensures, c.if-place-len.false) in
    set_adds list.items place more class within c.args.into.now c.refer.new.into (reference_pair c.args.address user c.args.count)
    (subst (λ (e : ExtentClass). AddsUp (class_sums e) (class_sums more) c.args.into.now c.refer.new.into (reference_pair c.args.address user c.args.count)) c.index-class.ensures
    (subst (λ (address : ℕ). AddsUp (class_sums class) (class_sums more) c.args.into.now c.refer.new.into (reference_pair address user c.args.count)) c.if-class-address.false c.in_ok-more.ensures.sums))
