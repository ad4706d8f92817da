use Rattle.std.proofs.Common.{rules, sym, ◌∙◌}
use Rattle.ledger_maps.proofs.PartLaws.{empty_count, none_count}
use Rattle.ledger_index.proofs.table.Table.seed.Goals as goal

pub returns-in_ok-self-clause-count : goal.returns-in_ok-self-clause-count
returns-in_ok-self-clause-count g c = empty_count c.in_ok-self.field-0.items c.in_ok-self.ensures ∙ sym (none_count c.args.self.now.parts.items (search rules))
