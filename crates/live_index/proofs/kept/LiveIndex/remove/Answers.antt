use Rattle.std.proofs.lemmas.Grind.{common_steps}
use Rattle.std.proofs.Common.{arith, ◌≡◌, ◌∙◌, sym, subst}
use Rattle.std.specs.Prelude.{Some}
use Rattle.live_index.specs.InOrder.{pairs_in}
use Rattle.live_index.specs.Orders.{AreAlike}
use Rattle.live_index.specs.Pairs.{AreNarrow, without_pair}
use Rattle.live_index.proofs.AlikeLaws.{alike_taken, own_found}
use Rattle.live_index.proofs.IndexLaws.{pairs_same, pairs_taken, pairs_there}
use Rattle.live_index.proofs.NarrowLaws.{narrow_without}
use Rattle.live_index.proofs.kept.LiveIndex.remove.Goals as goal

pub invariant_of-self : goal.invariant_of-self
invariant_of-self g c = record {
  alike = subst (λ p. AreAlike p c.args.self.now.orders) (sym (pairs_same c.args.self.now.pairs c.remove.new.self c.in_err-live.ensures.unchanged)) c.args.self.now.alike;
  narrow = subst AreNarrow (sym (pairs_same c.args.self.now.pairs c.remove.new.self c.in_err-live.ensures.unchanged)) c.args.self.now.narrow;
}

pub returns-in_err-live-clause-value : goal.returns-in_err-live-clause-value
returns-in_err-live-clause-value g c =
    c.from_residual.ensures ∙ c.in_err-live.ensures.value ∙ pairs_there c.args.self.now.pairs c.place_of.result c.args.tree c.args.address (grind (arith, common_steps))

pub returns-in_err-live-clause-left : goal.returns-in_err-live-clause-left
returns-in_err-live-clause-left g c =
    pairs_taken c.args.self.now.pairs c.remove.new.self c.place_of.result c.args.tree c.args.address (grind (arith, common_steps)) c.remove.ensures.updates

pub invariant_of-self-2 : goal.invariant_of-self-2
invariant_of-self-2 g c =
    let there : pairs_in c.args.self.now.pairs c.args.tree c.args.address ≡ Some c.in_ok-live.live =
    sym (c.in_ok-live.ensures.value ∙ pairs_there c.args.self.now.pairs c.place_of.result c.args.tree c.args.address (grind (arith, common_steps))) in
    let now : pairs_in c.remove.new.self ≡ without_pair (pairs_in c.args.self.now.pairs) c.args.tree c.args.address =
    pairs_taken c.args.self.now.pairs c.remove.new.self c.place_of.result c.args.tree c.args.address (grind (arith, common_steps)) c.remove.ensures.updates in
    record {
      alike = subst (λ p. AreAlike p c.take.new.self) (sym now)
          (alike_taken (pairs_in c.args.self.now.pairs) c.args.self.now.orders c.take.new.self c.args.tree c.args.address c.in_ok-live.live c.args.self.now.alike there c.take.ensures);
      narrow = subst AreNarrow (sym now) (narrow_without (pairs_in c.args.self.now.pairs) c.args.tree c.args.address c.args.self.now.narrow);
    }

pub returns-clause-value : goal.returns-clause-value
returns-clause-value g c =
    c.in_ok-live.ensures.value ∙ pairs_there c.args.self.now.pairs c.place_of.result c.args.tree c.args.address (grind (arith, common_steps))

pub returns-clause-left : goal.returns-clause-left
returns-clause-left g c =
    pairs_taken c.args.self.now.pairs c.remove.new.self c.place_of.result c.args.tree c.args.address (grind (arith, common_steps)) c.remove.ensures.updates

pub returns-in_err-live-clause-own : goal.returns-in_err-live-clause-own
returns-in_err-live-clause-own g c = rw c.from_residual.ensures tt

pub returns-clause-own : goal.returns-clause-own
returns-clause-own g c = own_found _ c.args.self.now.orders c.args.tree c.args.address (Some c.in_ok-live.live) c.args.self.now.alike
    (c.in_ok-live.ensures.value ∙ pairs_there c.args.self.now.pairs c.place_of.result c.args.tree c.args.address (grind (arith, common_steps)))
