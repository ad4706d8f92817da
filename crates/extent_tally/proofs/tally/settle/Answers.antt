use Rattle.std.proofs.Common.{◌+◌, ◌∙◌, drop, get_or, ap, sym, subst}
use Rattle.std.specs.Prelude.{List}
use Rattle.accounts.specs.Broken.{is_broken}
use Rattle.accounts.specs.Tally.{sums_in}
use Rattle.extent_tally.specs.declared.class.ExtentClass.{ExtentClass}
use Rattle.extent_tally.specs.Gains.{AreApart}
use Rattle.extent_tally.specs.Held.{sums_of}
use Rattle.extent_tally.proofs.Settled.{all_settled, first_left, no_class, others_stay, posted_class, skipped_class}
use Rattle.extent_tally.proofs.tally.settle.Goals as goal

pub loop-class-preserved-then-stays_out : goal.loop-class-preserved-then-stays_out
loop-class-preserved-then-stays_out c =
    let es = c.args.list.now in
    let i = c.loop-class.class-index in
    let class = get_or es i no_class in
    let step = first_left es i c.loop-class-test.true in
    let apart = subst (λ (l : List ExtentClass). AreApart l) step (c.loop-class.invariant.apart c.if-rising.true) in
    record {
      apart = λ _. apart.1;
      broken = λ a.
          skipped_class class (drop (i + 1) es) (sums_in c.loop-class.rest) apart (c.stays_out.ensures c.if-stays_out.true) a
          ∙ ap (λ (l : List ExtentClass). is_broken a (λ n. sums_in c.loop-class.rest a n + sums_of l a n)) (sym step)
          ∙ c.loop-class.invariant.broken a;
      others = c.loop-class.invariant.others;
    }

pub loop-class-preserved : goal.loop-class-preserved
loop-class-preserved c =
    let es = c.args.list.now in
    let i = c.loop-class.class-index in
    let class = get_or es i no_class in
    let step = first_left es i c.loop-class-test.true in
    record {
      apart = λ is. (subst (λ (l : List ExtentClass). AreApart l) step (c.loop-class.invariant.apart is)).1;
      broken = λ a.
          posted_class class (drop (i + 1) es) (sums_in c.loop-class.rest) (sums_in c.post.new.rest) c.in_ok-post.ensures a
          ∙ ap (λ (l : List ExtentClass). is_broken a (λ n. sums_in c.loop-class.rest a n + sums_of l a n)) (sym step)
          ∙ c.loop-class.invariant.broken a;
      others = λ a other. others_stay class c.loop-class.rest c.post.new.rest c.in_ok-post.ensures a other ∙ c.loop-class.invariant.others a other;
    }

pub returns : goal.returns
returns c = all_settled c.args.list.now c.loop-class.class-index c.args.rest.now c.loop-class.rest c.loop-class-test.false c.loop-class.invariant.broken c.loop-class.invariant.others
