use Rattle.std.proofs.Common.{◌+◌, ◌∙◌, ap, arith, drop, subst, sym}
use Rattle.std.specs.List.{AllByRecursion}
use Rattle.std.proofs.lemmas.List.{drop_all}
use Rattle.ledger_maps.specs.Entries.{Within, by_key, count_in, entries_in}
use Rattle.ledger_index.specs.Looks.{counted_times}
use Rattle.ledger_index.proofs.LooksLaws.{look_end, look_part}
use Rattle.ledger_maps.proofs.PartLaws.{drop_step, within_parts}
use Rattle.ledger_index.proofs.table.Table.least.Goals as goal

pub loop-part-init : goal.loop-part-init
loop-part-init g c =
    let self = c.args.self.now in
    let judge = c.args.judge.now in
    let within = within_parts g.K.PartialEq.eq g.K.Exact.part_of self.parts.items self.fit in record {
      least = λ is. subst (λ ps. g.J.Judge.IsLeast judge (entries_in ps) c.args.first) (sym c.parts-part-items.ensures) is;
      within = subst (λ ps. AllByRecursion (λ part. Within (by_key g.K.PartialEq.eq part) (g.J.Judge.entry judge)) ps) (sym c.parts-part-items.ensures)
          (subst (λ table. AllByRecursion (λ part. Within (by_key g.K.PartialEq.eq part) table) self.parts.items) (sym c.requires) within);
      counts = ap (λ ps. counted_times (count_in ps) c.args.steps.now) c.parts-part-items.ensures;
      looks = omega (arith, ap count_in c.parts-part-items.ensures);
    }

-- a part is judged
pub loop-part-preserved : goal.loop-part-preserved
unfolding count_in entries_in
loop-part-preserved g c =
    let judge = c.args.judge.now in
    let items = c.parts-part-items.result.now in
    let e = drop_step items c.loop-part.part-index c.part-item.result c.loop-part-test.true c.part-item.is in
    record {
      least = λ is. c.in_ok-least.ensures.least (entries_in (drop (c.loop-part.part-index + 1) items))
          (subst (λ ps. g.J.Judge.IsLeast judge (entries_in ps) c.loop-part.least) e (c.loop-part.invariant.least is));
      within = (subst (AllByRecursion (λ part. Within (by_key g.K.PartialEq.eq part) (g.J.Judge.entry judge))) e c.loop-part.invariant.within).1;
      counts = look_part _ _ _ c.loop-part.steps c.least_of_part.new.steps (ap count_in e) c.in_ok-least.ensures.counts ∙ c.loop-part.invariant.counts;
      looks = omega (arith, ap count_in e, c.loop-part.invariant.looks, c.least_of_part.ensures.looks);
    }

pub returns-in_err-least-clause-looks : goal.returns-in_err-least-clause-looks
unfolding count_in
returns-in_err-least-clause-looks g c =
    let items = c.parts-part-items.result.now in
    let e = drop_step items c.loop-part.part-index c.part-item.result c.loop-part-test.true c.part-item.is in
    omega (arith, ap count_in e, c.loop-part.invariant.looks, c.least_of_part.ensures.looks)

pub returns-clause-counts : goal.returns-clause-counts
unfolding count_in
returns-clause-counts g c =
    look_end _ c.loop-part.steps _ (ap count_in (drop_all c.loop-part.part-index c.parts-part-items.result.now c.loop-part-test.false))
    c.loop-part.invariant.counts

pub returns-clause-least : goal.returns-clause-least
unfolding entries_in
returns-clause-least g c =
    let judge = c.args.judge.now in
    λ is. subst (λ ps. g.J.Judge.IsLeast judge (entries_in ps) c.loop-part.least)
    (drop_all c.loop-part.part-index c.parts-part-items.result.now c.loop-part-test.false) (c.loop-part.invariant.least is)
