use Rattle.std.proofs.Common.{◌≡◌, ◌-◌, ◌≤◌, option_map}
use Rattle.std.specs.Prelude.{IfSome}
use Rattle.span_index.specs.Places.{IsMetWhere}
use Rattle.span_index.specs.Table.{times_of}
use Rattle.span_index.proofs.MeetingLaws.{in_classes}
use Rattle.span_index.proofs.kept.SpanIndex.next_meeting.Given as goal

abbrev pub invariant-loop-next : goal.invariant-loop-next
invariant-loop-next g l = record {
  within : l.class ≤ 65;
  from : l.lowest ≤ l.class;
  least : IsMetWhere (in_classes l.lowest l.class) (times_of l.self) l.sort l.address l.after (option_map (λ p. p.0) l.least);
  times : IfSome l.least (λ p. p.1 ≡ times_of l.self p.0);
}

abbrev pub decreases-loop-next : goal.decreases-loop-next
decreases-loop-next g l = 65 - l.class
