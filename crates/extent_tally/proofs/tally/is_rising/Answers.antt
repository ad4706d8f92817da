use Rattle.std.proofs.Common.{◌+◌, ◌≤◌, drop, get_or, sym, subst}
use Rattle.std.specs.Prelude.{List}
use Rattle.std.proofs.lemmas.List.{drop_all}
use Rattle.extent_tally.specs.declared.class.ExtentClass.{ExtentClass}
use Rattle.extent_tally.proofs.Settled.{Rises, first_left, no_class, rises_apart}
use Rattle.extent_tally.proofs.tally.is_rising.Goals as goal

pub loop-class-init : goal.loop-class-init
loop-class-init c = λ all. all

pub loop-class-preserved : goal.loop-class-preserved
loop-class-preserved c = λ left.
    let class = get_or c.args.list.now c.loop-class.class-index no_class in
    c.loop-class.invariant
    (subst (λ (es : List ExtentClass). Rises c.loop-class.low es) (sym (first_left c.args.list.now c.loop-class.class-index c.loop-class-test.true)) (
      subst (λ n. c.loop-class.low ≤ n) c.from.ensures c.if-from-low.false,
      subst (λ n. Rises (n + 1) (drop (c.loop-class.class-index + 1) c.args.list.now)) c.from-low.ensures left,
    ))

pub returns : goal.returns
returns c = λ is.
    rises_apart 0 c.args.list.now (c.loop-class.invariant
    (subst (λ (es : List ExtentClass). Rises c.loop-class.low es) (sym (drop_all c.loop-class.class-index c.args.list.now c.loop-class-test.false)) tt))
