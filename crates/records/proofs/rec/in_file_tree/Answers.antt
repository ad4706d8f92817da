use Rattle.std.proofs.Common.{sym, ◌∙◌}
use Rattle.records.proofs.Lawful.{range_sectors}
use Rattle.records.proofs.rec.in_file_tree.Goals as goal

pub returns-in_ok-read_file_extent-in-108-clause-lawful :
    goal.returns-in_ok-read_file_extent-in-108-clause-lawful
returns-in_ok-read_file_extent-in-108-clause-lawful c =
    range_sectors c.args.at.now c.args.key c.args.bytes.now _ (sym c.read_file_extent.ensures ∙ c.in_ok-read_file_extent-in-108.was)
