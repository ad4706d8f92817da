use Rattle.records.proofs.Lawful.{extent_begins_sector}
use Rattle.records.proofs.rec.in_extent_tree.Goals as goal

pub returns-in_ok-read_extent-in-168-clause-lawful :
    goal.returns-in_ok-read_extent-in-168-clause-lawful
returns-in_ok-read_extent-in-168-clause-lawful c =
    extent_begins_sector c.args.at.now c.args.key c.args.bytes.now _ c.in_ok-read_extent-in-168.ensures
