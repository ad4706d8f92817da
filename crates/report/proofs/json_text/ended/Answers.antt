use Rattle.std.proofs.Common.{rules}
use Rattle.serde_json.specs.declared.value.Value.{the_lemmas}
use Rattle.report.proofs.Objects.{end_written}
use Rattle.report.proofs.json_text.ended.Goals as goal

pub returns-in-Ok-json-6 : goal.returns-in-Ok-json-6
returns-in-Ok-json-6 c = end_written _ c.args.passed c.args.rejected (search (rules, the_lemmas))
