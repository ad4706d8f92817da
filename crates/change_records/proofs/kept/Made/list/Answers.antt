use Rattle.std.proofs.Common.{sym, ◌∙◌}
use Rattle.change_records.proofs.kept.Made.list.Goals as goal

pub returns-then-contains_key-clause-there : goal.returns-then-contains_key-clause-there
returns-then-contains_key-clause-there c = c.args.self.now.listed c.args.inode (sym c.contains_key.ensures ∙ c.if-contains_key.true)
