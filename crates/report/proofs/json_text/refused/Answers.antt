use Rattle.std.proofs.Common.{rules}
use Rattle.serde_json.specs.declared.value.Value.{the_lemmas}
use Rattle.report.proofs.Objects.{refused_written}
use Rattle.report.proofs.json_text.refused.Goals as goal

pub returns-in-Ok-json-6 : goal.returns-in-Ok-json-6
returns-in-Ok-json-6 c = refused_written _ c.args.finding.now c.in_ok-finding.finding c.in_ok-finding.ensures (search (rules, the_lemmas))
