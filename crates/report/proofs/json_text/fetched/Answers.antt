use Rattle.std.proofs.Common.{rules, ◌∙◌, ap, length, string_bytes}
use Rattle.hex.specs.Hex.{encode_lower}
use Rattle.serde_json.specs.declared.value.Value.{the_lemmas}
use Rattle.report.proofs.Objects.{fetched_written}
use Rattle.report.proofs.json_text.fetched.Goals as goal

pub returns-in-Ok-json-8 : goal.returns-in-Ok-json-8
returns-in-Ok-json-8 c = fetched_written _ c.args.at c.args.bytes.now _ (string_bytes c.in_ok-digits.digits) (c.in_ok-digits.ensures.digits ∙ ap encode_lower c.as_slice-bytes.ensures) (rw c.as_slice-bytes.ensures at c.in_ok-digits.ensures.plain) (ap length c.as_slice-bytes.ensures) (search (rules, the_lemmas))
