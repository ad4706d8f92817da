use Rattle.std.proofs.Common.{arith, refl, subst, sym, ap, ◌∙◌}
use Rattle.ledger_index.specs.Added.{IsAdded}
use Rattle.ledger_maps.specs.Names.{names_in}
use Rattle.ledger_index.specs.Unpaged.{entries_of}
use Rattle.ledger_keys.specs.Sums.{changed, raise}
use Rattle.verdict.proofs.Answers.{ok_follows}
use Rattle.ledger_keys.proofs.SumLaws.{raise_none}
use Rattle.ledger_maps.proofs.EntryLaws.{on_err}
use Rattle.ledger_index.proofs.UnpagedLaws.{all_stay, full_single, named_made, once_made, to_single}
use Rattle.ledger_index.proofs.unpaged.Unpaged.add_saturating.Goals as goal

-- the account has an entry of its own
pub invariant_of-self : goal.invariant_of-self
invariant_of-self g c =
    let mid = c.add_named.new.self in
    let added = subst (IsAdded c.args.self.now mid c.args.account.now c.args.field c.args.amount) c.in-None.is c.in_ok-full.ensures.ok in record {
      counted = mid.counted;
      once = once_made c.add_saturating.result (names_in mid.names.parts.items) _ _ c.args.account.now c.args.field c.args.amount c.add_saturating.ensures.ok c.add_saturating.ensures.err
          added.1.none mid.once;
      named = λ is. named_made c.add_saturating.result _ _ c.args.account.now c.args.field c.args.amount c.add_saturating.ensures.ok c.add_saturating.ensures.err
          (λ t at. absurd (cc (sym (added.1.apart t at), is))) (mid.named is);
    }

pub returns-in-None-clause-ok : goal.returns-in-None-clause-ok
returns-in-None-clause-ok g c =
    let mid = c.add_named.new.self in
    let added = subst (IsAdded c.args.self.now mid c.args.account.now c.args.field c.args.amount) c.in-None.is c.in_ok-full.ensures.ok in
    ok_follows c.add_saturating.result
    (λ is. to_single mid _ raise raise_none c.args.account.now c.args.field c.args.amount added.1.none (λ t n. refl) is
    ∙ ap (λ s. changed raise s c.args.account.now c.args.field c.args.amount) added.0) c.add_saturating.ensures.ok

pub returns-in-None-clause-full : goal.returns-in-None-clause-full
returns-in-None-clause-full g c =
    let mid = c.add_named.new.self in
    let added = subst (IsAdded c.args.self.now mid c.args.account.now c.args.field c.args.amount) c.in-None.is c.in_ok-full.ensures.ok in
    full_single mid _ c.args.account.now c.args.field c.add_saturating.result added.1.none (λ t n. refl) c.add_saturating.ensures.full

pub returns-in-None-clause-err : goal.returns-in-None-clause-err
returns-in-None-clause-err g c =
    let mid = c.add_named.new.self in
    let added = subst (IsAdded c.args.self.now mid c.args.account.now c.args.field c.args.amount) c.in-None.is c.in_ok-full.ensures.ok in
    on_err c.add_saturating.result (λ is. all_stay mid _ (λ t n. refl) is ∙ added.0) c.add_saturating.ensures.err

pub returns-in-None-clause-few : goal.returns-in-None-clause-few
unfolding entries_of
returns-in-None-clause-few g c = omega (arith, c.add_saturating.ensures.few, c.in_ok-full.ensures.none c.in-None.is)
