use Rattle.records.proofs.Lawful.{sums_sectors}
use Rattle.records.proofs.rec.in_sums_tree.Goals as goal

pub returns-in_ok-read_sums-in-128-clause-lawful : goal.returns-in_ok-read_sums-in-128-clause-lawful
returns-in_ok-read_sums-in-128-clause-lawful c =
    sums_sectors c.args.at.now c.args.key c.args.bytes.now _ c.in_ok-read_sums-in-128.ensures
