use Rattle.std.proofs.Common.{[], refl, sym, subst}
use Rattle.std.specs.Prelude.{List}
use Rattle.accounts.specs.Apart.{AddsUp}
use Rattle.accounts.specs.Lent.{extent_triple}
use Rattle.accounts.proofs.Apart.{adds_nothing}
use Rattle.extent_tally.specs.declared.class.ExtentClass.{ExtentClass}
use Rattle.extent_tally.specs.Held.{class_sums, extents_apart, sums_of}
use Rattle.extent_tally.proofs.Lists.{adds_posted, push_adds}
use Rattle.extent_tally.proofs.tally.ExtentTally.put_extent.Goals as goal

pub returns-then-not-is_behind : goal.returns-then-not-is_behind
returns-then-not-is_behind c =
    adds_posted (extents_apart c.args.self.now) (extents_apart c.args.self.now) c.args.into.now c.put_extent.new.self c.put_extent.result _ refl c.put_extent.ensures

pub returns-in_default : goal.returns-in_default
returns-in_default c =
    adds_posted (extents_apart c.args.self.now) (extents_apart c.args.self.now) c.args.into.now c.put_extent-in_default.new.self c.put_extent-in_default.result _ refl
    c.put_extent-in_default.ensures

pub returns : goal.returns
unfolding extents_apart
returns c =
    let es = c.args.self.now.list.items in
    let class = c.in-Some.class in
    let into = c.args.into.now in
    subst (λ (l : List ExtentClass). AddsUp (sums_of es) (sums_of l) into into (extent_triple c.args.key c.args.refs)) (sym c.in_ok-push.ensures.items)
    (push_adds es c.args.key c.args.refs class class into into [] c.in-Some.ensures (adds_nothing (class_sums class) into))
