use Rattle.std.proofs.Common.{◌≡◌, ◌+◌, ◌<◌, length, true, false, arith, refl, sym, subst}
use Rattle.std.specs.Prelude.{IsSome}
use Rattle.std.specs.FinMap.{get}
use Rattle.write_cache.proofs.RunLaws.{last_fits, held_on, not_held, none_held, AreHeld}
use Rattle.write_cache.proofs.cache.WriteCache.covers.Goals as goal

pub returns-in_default : goal.returns-in_default
returns-in_default c = (
  λ t. absurd (let f : false ≡ true = t in cc),
  λ all. absurd (none_held c.self.inside.runs.entries c.loop-left.from c.self.invariant.0 c.in_default.ensures.found
      (subst (λ m. IsSome (get m c.loop-left.from)) (sym c.self.view_is) (all c.loop-left.from c.loop-left.invariant.1 (omega arith)))),
)

pub overflow_add-end : goal.overflow_add-end
overflow_add-end c =
    let fits : c.in-Some.begin + length c.in-Some.bytes.now < 18446744073709551616 = last_fits c.self.inside.runs.entries c.loop-left.from c.in-Some.begin c.in-Some.bytes.now c.self.invariant.0 c.in-Some.ensures.found in
    omega arith

pub returns-then-end-from : goal.returns-then-end-from
returns-then-end-from c = (
  λ t. absurd (let f : false ≡ true = t in cc),
  λ all. absurd (not_held c.self.inside.runs.entries c.in-Some.begin c.loop-left.from c.in-Some.bytes.now c.self.invariant.0 c.in-Some.ensures.found c.if-end-from.true
      (subst (λ m. IsSome (get m c.loop-left.from)) (sym c.self.view_is) (all c.loop-left.from c.loop-left.invariant.1 (omega arith)))),
)

pub returns-then-left-end : goal.returns-then-left-end
returns-then-left-end c = (
  λ t i low high. subst (λ m. IsSome (get m i)) c.self.view_is
      (held_on c.self.inside.runs.entries c.in-Some.begin c.args.at c.loop-left.from (c.in-Some.begin + length c.in-Some.bytes.now) c.in-Some.bytes.now c.self.invariant.0 c.in-Some.ensures.found (omega arith)
      (subst (λ m. AreHeld m c.args.at c.loop-left.from) (sym c.self.view_is) c.loop-left.invariant.0) i low (omega arith)),
  λ all. refl,
)

pub loop-left-preserved : goal.loop-left-preserved
loop-left-preserved c =
    let held : AreHeld c.args.self.now c.args.at (c.in-Some.begin + length c.in-Some.bytes.now) = subst (λ m. AreHeld m c.args.at (c.in-Some.begin + length c.in-Some.bytes.now)) c.self.view_is
    (held_on c.self.inside.runs.entries c.in-Some.begin c.args.at c.loop-left.from (c.in-Some.begin + length c.in-Some.bytes.now) c.in-Some.bytes.now c.self.invariant.0 c.in-Some.ensures.found (omega arith)
    (subst (λ m. AreHeld m c.args.at c.loop-left.from) (sym c.self.view_is) c.loop-left.invariant.0)) in
    (held, omega arith, omega arith)
