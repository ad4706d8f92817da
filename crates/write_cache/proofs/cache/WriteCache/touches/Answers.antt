use Rattle.std.proofs.Common.{◌≡◌, ◌+◌, ◌<◌, length, true, false, arith, sym, subst}
use Rattle.std.specs.Prelude.{IsSome}
use Rattle.std.specs.FinMap.{get}
use Rattle.write_cache.proofs.RunLaws.{last_fits, touches_here, touches_only, touches_none, ltb-is, ltb-so}
use Rattle.write_cache.proofs.cache.WriteCache.touches.Goals as goal

pub overflow_add-result : goal.overflow_add-result
overflow_add-result c =
    let fits : c.in-Some.begin + length c.in-Some.bytes.now < 18446744073709551616 = last_fits c.self.inside.runs.entries c.saturating_add.result c.in-Some.begin c.in-Some.bytes.now c.self.invariant.0 c.in-Some.ensures.found in
    omega arith

pub returns-in-Some : goal.returns-in-Some
returns-in-Some c = (
  λ t. let found = touches_here c.self.inside.runs.entries c.saturating_add.result c.in-Some.begin c.args.at c.args.len c.in-Some.bytes.now c.self.invariant.0 c.in-Some.ensures.found (omega arith) (ltb-is _ _ t) (omega arith) in
      (found.0, found.1, found.2, subst (λ m. IsSome (get m found.0)) c.self.view_is found.3),
  λ f. ltb-so _ _ (touches_only c.self.inside.runs.entries c.saturating_add.result c.in-Some.begin c.args.at c.args.len f.0 c.in-Some.bytes.now c.self.invariant.0 c.in-Some.ensures.found (omega arith) f.1 f.2 (subst (λ m. IsSome (get m f.0)) (sym c.self.view_is) f.3)),
)

pub returns-in-None : goal.returns-in-None
returns-in-None c = (
  λ t. absurd (let f : false ≡ true = t in cc),
  λ f. absurd (touches_none c.self.inside.runs.entries c.saturating_add.result c.args.at c.args.len f.0 c.self.invariant.0 c.in-None.ensures.found (omega arith) f.1 f.2 (subst (λ m. IsSome (get m f.0)) (sym c.self.view_is) f.3)),
)
