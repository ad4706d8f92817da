use Rattle.std.proofs.lemmas.Grind.{common_steps}
use Rattle.std.proofs.Common.{arith, ◌≡◌, ◌∙◌, refl, ap, sym, subst}
use Rattle.std.specs.Prelude.{None, Some, is_some}
use Rattle.live_index.specs.InOrder.{pairs_in}
use Rattle.live_index.specs.Orders.{AreAlike}
use Rattle.live_index.specs.Pairs.{AreNarrow, with_pair}
use Rattle.verdict.proofs.Answers.{on_err}
use Rattle.live_index.proofs.AlikeLaws.{alike_added, alike_kept, alike_moved}
use Rattle.live_index.proofs.IndexLaws.{pairs_back, pairs_put, pairs_restored, pairs_same, pairs_there}
use Rattle.live_index.proofs.NarrowLaws.{narrow_with}
use Rattle.live_index.proofs.kept.LiveIndex.insert.Goals as goal

-- src/index.rt:42:31
pub add-requires : goal.add-requires
add-requires g c =
    let none : pairs_in c.args.self.now.pairs c.args.live.tree c.args.live.address ≡ None =
    sym (pairs_there c.args.self.now.pairs c.place_of-place.result c.args.live.tree c.args.live.address c.place_of-place.ensures) ∙ sym c.in_ok-insert.ensures.old ∙ c.in-None.is in
    c.args.self.now.alike.addresses _ ∙ ap is_some none

-- src/index.rt:42:31
pub invariant_of-self-in-Ok : goal.invariant_of-self-in-Ok
invariant_of-self-in-Ok g c =
    let none : pairs_in c.args.self.now.pairs c.args.live.tree c.args.live.address ≡ None =
    sym (pairs_there c.args.self.now.pairs c.place_of-place.result c.args.live.tree c.args.live.address c.place_of-place.ensures) ∙ sym c.in_ok-insert.ensures.old ∙ c.in-None.is in
    let now : pairs_in c.insert.new.self ≡ with_pair (pairs_in c.args.self.now.pairs) c.args.live =
    pairs_put c.args.self.now.pairs c.insert.new.self c.place_of-place.result _ _ c.args.live c.place_of-place.ensures refl refl c.in_ok-insert.ensures.updates in
    record {
      alike = subst (λ p. AreAlike p c.add.new.self) (sym now)
          (alike_added (pairs_in c.args.self.now.pairs) c.args.self.now.orders c.add.new.self c.args.live c.args.self.now.alike none c.in-Ok.ensures.ok);
      narrow = subst AreNarrow (sym now)
          (narrow_with (pairs_in c.args.self.now.pairs) c.args.live (omega arith) (omega arith) c.args.self.now.narrow);
    }

-- src/index.rt:45:21
pub invariant_of-self-in-Err : goal.invariant_of-self-in-Err
invariant_of-self-in-Err g c =
    let none : pairs_in c.args.self.now.pairs c.args.live.tree c.args.live.address ≡ None =
    sym (pairs_there c.args.self.now.pairs c.place_of-place.result c.args.live.tree c.args.live.address c.place_of-place.ensures) ∙ sym c.in_ok-insert.ensures.old ∙ c.in-None.is in
    let now : pairs_in c.remove.new.self ≡ pairs_in c.args.self.now.pairs =
    pairs_back c.args.self.now.pairs c.insert.new.self c.remove.new.self c.place_of-place.result _ c.args.live c.place_of-place.ensures (grind (arith, common_steps)) none c.in_ok-insert.ensures.updates c.remove.ensures.updates in
    record {
      alike = subst (λ p. AreAlike p c.add.new.self) (sym now)
          (alike_kept (pairs_in c.args.self.now.pairs) c.args.self.now.orders c.add.new.self c.args.self.now.alike c.in-Err.ensures.err);
      narrow = subst AreNarrow (sym now) c.args.self.now.narrow;
    }

-- src/index.rt:49:36
pub invariant_of-self-in-Ok-exchange : goal.invariant_of-self-in-Ok-exchange
invariant_of-self-in-Ok-exchange g c =
    let there : pairs_in c.args.self.now.pairs c.args.live.tree c.args.live.address ≡ Some c.in-Some.old =
    sym (pairs_there c.args.self.now.pairs c.place_of-place.result c.args.live.tree c.args.live.address c.place_of-place.ensures) ∙ sym c.in_ok-insert.ensures.old ∙ c.in-Some.is in
    let now : pairs_in c.insert.new.self ≡ with_pair (pairs_in c.args.self.now.pairs) c.args.live =
    pairs_put c.args.self.now.pairs c.insert.new.self c.place_of-place.result _ _ c.args.live c.place_of-place.ensures refl refl c.in_ok-insert.ensures.updates in
    record {
      alike = subst (λ p. AreAlike p c.exchange.new.self) (sym now)
          (alike_moved (pairs_in c.args.self.now.pairs) c.args.self.now.orders c.exchange.new.self c.in-Some.old c.args.live c.args.self.now.alike there c.in-Ok-exchange.ensures.ok);
      narrow = subst AreNarrow (sym now)
          (narrow_with (pairs_in c.args.self.now.pairs) c.args.live (omega arith) (omega arith) c.args.self.now.narrow);
    }

-- src/index.rt:53:29
pub invariant_of-self-in-Err-exchange : goal.invariant_of-self-in-Err-exchange
invariant_of-self-in-Err-exchange g c =
    let there : pairs_in c.args.self.now.pairs c.args.live.tree c.args.live.address ≡ Some c.in-Some.old =
    sym (pairs_there c.args.self.now.pairs c.place_of-place.result c.args.live.tree c.args.live.address c.place_of-place.ensures) ∙ sym c.in_ok-insert.ensures.old ∙ c.in-Some.is in
    let now : pairs_in c.insert-in-Err-exchange.new.self ≡ pairs_in c.args.self.now.pairs =
    pairs_restored c.args.self.now.pairs c.insert.new.self c.insert-in-Err-exchange.new.self c.place_of-place.result c.in-Some.old c.args.live c.insert-in-Err-exchange.result
    c.place_of-place.ensures there c.args.self.now.alike.own c.in_ok-insert.ensures.updates c.insert-in-Err-exchange.ensures.updates c.insert-in-Err-exchange.ensures.absent in
    record {
      alike = subst (λ p. AreAlike p c.exchange.new.self) (sym now)
          (alike_kept (pairs_in c.args.self.now.pairs) c.args.self.now.orders c.exchange.new.self c.args.self.now.alike c.in-Err-exchange.ensures.err);
      narrow = subst AreNarrow (sym now) c.args.self.now.narrow;
    }

-- src/index.rt:41:15
pub invariant_of-self : goal.invariant_of-self
invariant_of-self g c = record {
  alike = subst (λ p. AreAlike p c.args.self.now.orders) (sym (pairs_same c.args.self.now.pairs c.insert.new.self c.in_err-insert.ensures.err)) c.args.self.now.alike;
  narrow = subst AreNarrow (sym (pairs_same c.args.self.now.pairs c.insert.new.self c.in_err-insert.ensures.err)) c.args.self.now.narrow;
}

pub returns-in-Ok-clause-ok : goal.returns-in-Ok-clause-ok
returns-in-Ok-clause-ok g c =
    pairs_put c.args.self.now.pairs c.insert.new.self c.place_of-place.result _ _ c.args.live c.place_of-place.ensures refl refl c.in_ok-insert.ensures.updates

pub returns-in-Err-clause-err : goal.returns-in-Err-clause-err
returns-in-Err-clause-err g c =
    let none : pairs_in c.args.self.now.pairs c.args.live.tree c.args.live.address ≡ None =
    sym (pairs_there c.args.self.now.pairs c.place_of-place.result c.args.live.tree c.args.live.address c.place_of-place.ensures) ∙ sym c.in_ok-insert.ensures.old ∙ c.in-None.is in
    pairs_back c.args.self.now.pairs c.insert.new.self c.remove.new.self c.place_of-place.result _ c.args.live c.place_of-place.ensures (grind (arith, common_steps)) none c.in_ok-insert.ensures.updates c.remove.ensures.updates

pub returns-in-Ok-exchange-clause-ok : goal.returns-in-Ok-exchange-clause-ok
returns-in-Ok-exchange-clause-ok g c =
    pairs_put c.args.self.now.pairs c.insert.new.self c.place_of-place.result _ _ c.args.live c.place_of-place.ensures refl refl c.in_ok-insert.ensures.updates

pub returns-in-Err-exchange-clause-err : goal.returns-in-Err-exchange-clause-err
returns-in-Err-exchange-clause-err g c =
    let there : pairs_in c.args.self.now.pairs c.args.live.tree c.args.live.address ≡ Some c.in-Some.old =
    sym (pairs_there c.args.self.now.pairs c.place_of-place.result c.args.live.tree c.args.live.address c.place_of-place.ensures) ∙ sym c.in_ok-insert.ensures.old ∙ c.in-Some.is in
    pairs_restored c.args.self.now.pairs c.insert.new.self c.insert-in-Err-exchange.new.self c.place_of-place.result c.in-Some.old c.args.live c.insert-in-Err-exchange.result
    c.place_of-place.ensures there c.args.self.now.alike.own c.in_ok-insert.ensures.updates c.insert-in-Err-exchange.ensures.updates c.insert-in-Err-exchange.ensures.absent

pub returns-in_err-insert-clause-err : goal.returns-in_err-insert-clause-err
returns-in_err-insert-clause-err g c = on_err _ (pairs_same c.args.self.now.pairs c.insert.new.self c.in_err-insert.ensures.err)
