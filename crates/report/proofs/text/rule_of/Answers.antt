use Rattle.std.proofs.Common.{append_assoc, string_bytes, arith}
use Rattle.report.proofs.Said.{said, letter_printed}
use Rattle.report.proofs.Plain.{rule_plain, whatever}
use Rattle.report.proofs.text.rule_of.Goals as goal

pub returns-clause-text : goal.returns-clause-text
returns-clause-text c =
    said string_bytes _ _ _ c.format.ensures.ok (simp (c.from-letter.ensures, c.letter.ensures, letter_printed c.args.rule.now.family, append_assoc))

pub returns-clause-plain : goal.returns-clause-plain
returns-clause-plain c = whatever c.format.result (rule_plain c.args.rule.now (omega arith))
