use Rattle.std.proofs.Common.{◌≡◌, ◌++◌, ◌∙◌, ap, arith, length, subst, sym}
use Rattle.ledger_maps.specs.Entries.{by_key}
use Rattle.ledger_index.specs.Looks.{counted_times}
use Rattle.ledger_index.proofs.LooksLaws.{look_end, look_one}
use Rattle.ledger_index.proofs.JudgedLaws.{Found, found_all, found_within}
use Rattle.ledger_index.proofs.judge.least_of_part.Goals as goal

pub loop-key-init : goal.loop-key-init
loop-key-init g c =
    let judge = c.args.judge.now in
    let part = c.args.part.now in
    let e : c.into_iter-key-iterator.result ≡ part.entries = c.into_iter-key-iterator.ensures.into_iter_gives.0 in
    record {
      least = λ rest is. subst (λ es. g.J.Judge.IsLeast judge (es ++ rest) c.args.first) (sym e) is;
      found = subst (Found (g.J.Judge.entry judge)) (sym e) (found_within (by_key g.K.PartialEq.eq part) (g.J.Judge.entry judge) c.requires part.entries
          (found_all g.K.PartialEq.eq g.met.K.Eq.laws part.entries c.into_iter-key-iterator.ensures.into_iter_gives.4));
      counts = ap (λ es. counted_times (length es) c.args.steps.now) e;
      looks = omega (arith, ap length e);
    }

pub look_at-requires : goal.look_at-requires
look_at-requires g c = (subst (Found (g.J.Judge.entry c.args.judge.now)) c.in-Some.ensures.steps c.loop-key.invariant.found).0

pub returns-in_err-least-clause-looks : goal.returns-in_err-least-clause-looks
returns-in_err-least-clause-looks g c = omega (arith, c.look_at.ensures.looks, c.loop-key.invariant.looks, ap length c.in-Some.ensures.steps)

-- an entry is judged
pub loop-key-preserved : goal.loop-key-preserved
loop-key-preserved g c =
    let judge = c.args.judge.now in
    let e = c.in-Some.ensures.steps in
    record {
      least = λ rest is. c.in_ok-least.ensures.least (c.next.new.self ++ rest)
          (subst (λ es. g.J.Judge.IsLeast judge (es ++ rest) c.loop-key.least) e (c.loop-key.invariant.least rest is));
      found = (subst (Found (g.J.Judge.entry judge)) e c.loop-key.invariant.found).1;
      counts = look_one (length c.next.new.self) (length c.loop-key.key-iterator) c.loop-key.steps c.look_at.new.steps
          (let more = ap length e in omega (arith, more)) c.look_at.ensures.looks ∙ c.loop-key.invariant.counts;
      looks = omega (arith, c.look_at.ensures.looks, c.loop-key.invariant.looks, ap length e);
    }

pub returns-clause-least : goal.returns-clause-least
returns-clause-least g c =
    let judge = c.args.judge.now in
    λ rest is. subst (λ es. g.J.Judge.IsLeast judge (es ++ rest) c.loop-key.least) c.in-None.ensures.steps.0 (c.loop-key.invariant.least rest is)

pub returns-clause-counts : goal.returns-clause-counts
returns-clause-counts g c = look_end _ c.loop-key.steps _ (ap length c.in-None.ensures.steps.0) c.loop-key.invariant.counts

pub returns-clause-looks : goal.returns-clause-looks
returns-clause-looks g c = omega (arith, c.loop-key.invariant.looks)
