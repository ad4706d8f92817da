use Rattle.std.proofs.Common.{rules}
use Rattle.serde_json.specs.declared.value.Value.{the_lemmas}
use Rattle.report.proofs.Objects.{rejected_written}
use Rattle.report.proofs.json_text.rejected.Goals as goal

pub returns-in-Ok-json-8 : goal.returns-in-Ok-json-8
returns-in-Ok-json-8 c = rejected_written _ c.args.settle c.args.number c.args.finding.now c.event_of-event.result.now c.in_ok-finding.finding c.event_of-event.ensures c.in_ok-finding.ensures (search (rules, the_lemmas))
