use Rattle.std.proofs.Common.{arith}
use Rattle.span_index.specs.SectorLaws.{all_each}
use Rattle.commit_judge.proofs.judge.finding_by.Goals as goal

pub returns-clause-looks : goal.returns-clause-looks
returns-clause-looks g c =
    let bad = c.first_bad-bad.ensures in
    let looks = rw c.as_slice.ensures.value at (bad.looks bad.spans (all_each bad.spans _ bad.all)) in
    record { spans = bad.spans; times = bad.all; few = omega (arith, looks, c.judge_touched-least.ensures.looks) }
