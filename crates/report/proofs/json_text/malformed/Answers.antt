use Rattle.std.proofs.Common.{rules}
use Rattle.serde_json.specs.declared.value.Value.{the_lemmas}
use Rattle.report.proofs.Objects.{fault_written}
use Rattle.report.proofs.json_text.malformed.Goals as goal

pub returns-in-Ok-json-8 : goal.returns-in-Ok-json-8
returns-in-Ok-json-8 c = fault_written _ c.args.number c.args.place c.name_of-name.result.now c.name_of-name.ensures c.requires.least c.requires.greatest (search (rules, the_lemmas))
