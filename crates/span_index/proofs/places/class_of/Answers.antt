use Rattle.std.proofs.Common.{sym, arith}
use Rattle.span_index.specs.Places.{class_of}
use Rattle.span_index.proofs.ClassLaws.{class_is, class_none}
use Rattle.span_index.proofs.places.class_of.Goals as goal

pub returns-then-sectors-eq0 : goal.returns-then-sectors-eq0
unfolding class_of
returns-then-sectors-eq0 c = sym (class_none 64 c.args.sectors (omega arith))

pub returns-else-sectors-eq0 : goal.returns-else-sectors-eq0
unfolding class_of
returns-else-sectors-eq0 c = sym (class_is 64 _ c.args.sectors (omega arith) c.ilog2.ensures.power_le c.ilog2.ensures.next_power_gt)
