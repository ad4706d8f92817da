use Rattle.std.proofs.Common.{arith}
use Rattle.std.proofs.lemmas.List.Sums.{count_by-le-length}
use Rattle.span_index.specs.Sectors.{meets}
use Rattle.span_index.specs.SectorLaws.{all_each}
use Rattle.commit_judge.specs.Filling.{all_sectors}
use Rattle.commit_judge.proofs.finding.finding_of.Goals as goal

pub returns-clause-looks : goal.returns-clause-looks
returns-clause-looks g c =
    let bad = c.first_bad-bad.ensures in
    let met = count_by-le-length (meets all_sectors) bad.spans in
    let looks = bad.looks bad.spans (all_each bad.spans _ bad.all) in
    record { spans = bad.spans; times = bad.all; few = omega (arith, looks, met, c.in_ok-least.ensures.looks); small = omega (arith, c.looks.ensures, c.looks.type_inv) }
