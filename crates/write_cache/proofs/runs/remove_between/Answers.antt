use Rattle.std.proofs.Common.{length}
use Rattle.write_cache.proofs.PutLaws.{stay_removed, fewer_left}
use Rattle.write_cache.proofs.runs.remove_between.Goals as goal

pub loop-begin-preserved-else-begin-after : goal.loop-begin-preserved-else-begin-after
loop-begin-preserved-else-begin-after c = stay_removed c.loop-begin.runs.entries c.remove.new.self.entries c.args.runs.now.entries c.args.after c.args.to c.in-Some.begin c.in-Some.field-0-1.now c.in-Some.ensures.found c.if-begin-after.false c.remove.ensures.updates.2 c.loop-begin.invariant

pub loop-begin-smaller : goal.loop-begin-smaller
loop-begin-smaller c = fewer_left c.loop-begin.runs.entries (length c.remove.new.self.entries) (length c.loop-begin.runs.entries) c.in-Some.begin c.remove.result c.in-Some.field-0-1.now c.remove.ensures.len c.remove.ensures.value c.in-Some.ensures.found.here
