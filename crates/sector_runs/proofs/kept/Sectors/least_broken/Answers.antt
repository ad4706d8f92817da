use Rattle.std.proofs.Common.{◌≡◌, ◌<◌, ◌^◌, true, false, ◌∷◌, ap, arith, subst, sym, ◌∙◌}
use Rattle.std.proofs.Math.Path.{fun_ext}
use Rattle.std.proofs.lemmas.Grind.{common_steps}
use Rattle.accounts.specs.Sums.{sum_in}
use Rattle.sector_runs.specs.Edges.{sums_of}
use Rattle.sector_runs.specs.Runs.{IsLeastBroken}
use Rattle.sector_runs.proofs.Sweep.{HaveRoom, IsSwept, all_room, all_swept, first_begun, first_room, room_more, sweep, sweep_here, sweep_on, swept_least, swept_more, zero_sums}
use Rattle.accounts.specs.Kinds.{sector_keeps}
use Rattle.sector_runs.proofs.kept.Sectors.least_broken.Goals as goal

pub loop-address-init : goal.loop-address-init
loop-address-init c =
    let all = c.into_iter-address-iterator.ensures.into_iter_gives in
    let none : sum_in c.zero-totals.result ≡ zero_sums = fun_ext c.zero-totals.ensures in (
      ap (λ g. sweep g c.into_iter-address-iterator.result) none ∙ ap (sweep zero_sums) all.0,
      subst (λ g. IsSwept g c.into_iter-address-iterator.result) (sym none) (subst (IsSwept zero_sums) (sym all.0) (all_swept c.args.self.now all.5)),
      subst (λ g. HaveRoom g c.into_iter-address-iterator.result) (sym none) (all_room c.into_iter-address-iterator.result),
    )

pub pass-requires-clause-ends : goal.pass-requires-clause-ends
pass-requires-clause-ends c =
    first_begun (sum_in c.loop-address.totals) (c.in-Some.address.now, c.in-Some.edges.now) c.next.new.self (subst (IsSwept (sum_in c.loop-address.totals)) c.in-Some.ensures.steps c.loop-address.invariant.1)

pub pass-requires-clause-room : goal.pass-requires-clause-room
pass-requires-clause-room c =
    let small : c.in-Some.address.now < 2 ^ 64 = omega arith in
    first_room (sum_in c.loop-address.totals) (c.in-Some.address.now, c.in-Some.edges.now) c.next.new.self (subst (HaveRoom (sum_in c.loop-address.totals)) c.in-Some.ensures.steps c.loop-address.invariant.2) small

pub returns-then-not-pass : goal.returns-then-not-pass
returns-then-not-pass c =
    let breaks : sector_keeps (sum_in c.pass.new.totals) ≡ false = grind (arith, common_steps) in
    let here = sweep_here (sum_in c.loop-address.totals) (sum_in c.pass.new.totals) (c.in-Some.address.now, c.in-Some.edges.now) c.next.new.self (fun_ext c.pass.ensures.sums) breaks in
    subst (IsLeastBroken (sums_of c.args.self.now)) (sym c.loop-address.invariant.0 ∙ ap (sweep (sum_in c.loop-address.totals)) c.in-Some.ensures.steps ∙ here)
    (swept_least c.args.self.now c.into_iter-address-iterator.ensures.into_iter_gives.5)

pub loop-address-preserved : goal.loop-address-preserved
loop-address-preserved c =
    let keeps : sector_keeps (sum_in c.pass.new.totals) ≡ true = grind (arith, common_steps) in
    let swept : IsSwept (sum_in c.loop-address.totals) ((c.in-Some.address.now, c.in-Some.edges.now) ∷ c.next.new.self) = subst (IsSwept (sum_in c.loop-address.totals)) c.in-Some.ensures.steps c.loop-address.invariant.1 in
    let room : HaveRoom (sum_in c.loop-address.totals) ((c.in-Some.address.now, c.in-Some.edges.now) ∷ c.next.new.self) = subst (HaveRoom (sum_in c.loop-address.totals)) c.in-Some.ensures.steps c.loop-address.invariant.2 in (
      sweep_on (sum_in c.loop-address.totals) (sum_in c.pass.new.totals) (c.in-Some.address.now, c.in-Some.edges.now) c.next.new.self (fun_ext c.pass.ensures.sums) keeps
          ∙ ap (sweep (sum_in c.loop-address.totals)) (sym c.in-Some.ensures.steps)
          ∙ c.loop-address.invariant.0,
      swept_more (sum_in c.loop-address.totals) (sum_in c.pass.new.totals) (c.in-Some.address.now, c.in-Some.edges.now) c.next.new.self swept c.pass.ensures.sums,
      room_more (sum_in c.loop-address.totals) (sum_in c.pass.new.totals) (c.in-Some.address.now, c.in-Some.edges.now) c.next.new.self swept room c.pass.ensures.most,
    )

pub returns : goal.returns
returns c =
    subst (IsLeastBroken (sums_of c.args.self.now)) (sym c.loop-address.invariant.0 ∙ ap (sweep (sum_in c.loop-address.totals)) c.in-None.ensures.steps.0)
    (swept_least c.args.self.now c.into_iter-address-iterator.ensures.into_iter_gives.5)
