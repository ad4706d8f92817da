use Rattle.std.proofs.Common.{rules}
use Rattle.serde_json.specs.declared.value.Value.{the_lemmas}
use Rattle.report.proofs.Objects.{past_written}
use Rattle.report.proofs.json_text.past_end.Goals as goal

pub returns-in-Ok-json-10 : goal.returns-in-Ok-json-10
returns-in-Ok-json-10 c = past_written _ c.args.place c.args.at c.args.len c.args.end (search (rules, the_lemmas))
