use Rattle.std.proofs.Common.{rules}
use Rattle.serde_json.specs.declared.value.Value.{the_lemmas}
use Rattle.report.proofs.Objects.{passed_written}
use Rattle.report.proofs.json_text.passed.Goals as goal

pub returns-in-Ok-json-12 : goal.returns-in-Ok-json-12
returns-in-Ok-json-12 c = passed_written _ c.args.settle c.args.number c.args.generation c.args.blocks c.args.hot c.event_of-event.result.now c.event_of-event.ensures (search (rules, the_lemmas))
