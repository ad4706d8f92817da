use Rattle.std.proofs.Common.{◌≡◌, subst, sym, arith, option_map, ◌+◌, ◌<◌, ◌≤◌}
use Rattle.std.specs.Prelude.{IfSome, Some}
use Rattle.span_index.specs.Places.{IsClassFrom, IsMetWhere}
use Rattle.span_index.specs.Table.{times_of}
use Rattle.span_index.proofs.MeetingLaws.{all_skipped, lesser_times, none_below, one_more, skipped, in_classes}
use Rattle.span_index.proofs.kept.SpanIndex.next_meeting.Goals as goal

pub loop-next-init : goal.loop-next-init
loop-next-init g c = record { within = omega arith; from = omega arith; least = none_below c.args.lowest (times_of c.args.self.now) c.args.sort c.args.address c.args.after; times = tt }

-- src/meeting.rt:31:9
pub loop-next-preserved : goal.loop-next-preserved
loop-next-preserved g c =
    let found : IsClassFrom (times_of c.args.self.now) c.args.sort c.loop-next.class (Some c.in-Some.next) = subst (IsClassFrom (times_of c.args.self.now) c.args.sort c.loop-next.class) c.in-Some.is c.class_from.ensures in
    let on : c.loop-next.class ≤ c.in-Some.next = found.0 in
    let up : c.args.lowest ≤ c.in-Some.next + 1 = let so : c.args.lowest ≤ c.loop-next.class = c.loop-next.invariant.from in omega arith in
    let begun : c.args.lowest ≤ c.in-Some.next = let so : c.args.lowest ≤ c.loop-next.class = c.loop-next.invariant.from in omega arith in
    record {
      within = let low : c.in-Some.next < 65 = found.1 in omega arith;
      from = up;
      least = subst (λ r. IsMetWhere (in_classes c.args.lowest (c.in-Some.next + 1)) (times_of c.args.self.now) c.args.sort c.args.address c.args.after (option_map (λ p. p.0) r)) (sym c.lesser-least.ensures)
          (one_more c.args.lowest (times_of c.args.self.now) c.args.sort c.args.address c.args.after c.in-Some.next begun c.loop-next.least c.met_in.result
          (skipped c.args.lowest (times_of c.args.self.now) c.args.sort c.args.address c.args.after c.loop-next.class c.in-Some.next on c.loop-next.least c.loop-next.invariant.least found.2) c.met_in.ensures.value);
      times = subst (λ r. IfSome r (λ p. p.1 ≡ times_of c.args.self.now p.0)) (sym c.lesser-least.ensures)
          (lesser_times c.args.lowest (times_of c.args.self.now) c.args.sort c.args.address c.args.after c.loop-next.least c.met_in.result c.loop-next.invariant.times c.met_in.ensures.times);
    }

-- src/meeting.rt:20:5
pub returns-clause-value : goal.returns-clause-value
returns-clause-value g c =
    all_skipped c.args.lowest (times_of c.args.self.now) c.args.sort c.args.address c.args.after c.loop-next.class c.loop-next.least c.loop-next.invariant.least
    c.in_default.ensures
