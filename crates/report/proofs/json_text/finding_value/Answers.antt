use Rattle.std.proofs.Common.{string_bytes, rules}
use Rattle.serde_json.specs.declared.value.Value.{the_lemmas}
use Rattle.report.proofs.Objects.{finding_written}
use Rattle.report.proofs.json_text.finding_value.Goals as goal

pub returns-in-Ok-json-15 : goal.returns-in-Ok-json-15
returns-in-Ok-json-15 c =
    finding_written _ c.args.finding.now (string_bytes c.in_ok-rule.rule) c.in_ok-rule.ensures.text c.in_ok-rule.ensures.plain (search (rules, the_lemmas))
