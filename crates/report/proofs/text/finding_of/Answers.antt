use Rattle.std.proofs.Common.{append_assoc, string_bytes}
use Rattle.report.proofs.Said.{said}
use Rattle.report.proofs.text.finding_of.Goals as goal

pub returns : goal.returns
returns c = said string_bytes _ _ _ c.format.ensures.ok (simp (c.in_ok-rule.ensures.text, append_assoc))
