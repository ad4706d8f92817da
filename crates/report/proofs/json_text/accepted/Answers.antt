use Rattle.std.proofs.Common.{rules}
use Rattle.serde_json.specs.declared.value.Value.{the_lemmas}
use Rattle.report.proofs.Objects.{image_written}
use Rattle.report.proofs.json_text.accepted.Goals as goal

pub returns-in-Ok-json-6 : goal.returns-in-Ok-json-6
returns-in-Ok-json-6 c = image_written _ c.args.generation (search (rules, the_lemmas))
