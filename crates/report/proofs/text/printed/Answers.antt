use Rattle.std.proofs.Common.{append_assoc, string_bytes}
use Rattle.report.specs.Lines.{text_line}
use Rattle.report.proofs.Said.{said}
use Rattle.report.proofs.text.printed.Goals as goal

pub returns-in-End : goal.returns-in-End
unfolding text_line
returns-in-End c = rw c.in-End.is (said string_bytes _ _ _ c.format-in-End.ensures.ok (simp append_assoc))

pub returns-in-Past : goal.returns-in-Past
unfolding text_line
returns-in-Past c = rw c.in-Past.is (said string_bytes _ _ _ c.format-in-Past.ensures.ok (simp append_assoc))

pub returns-in-Passed : goal.returns-in-Passed
unfolding text_line
returns-in-Passed c =
    rw c.in-Passed.is (said string_bytes _ _ _ c.format-in-Passed.ensures.ok (simp (c.event_of-event.ensures, append_assoc)))

pub returns-in_ok-finding-in-Rejected : goal.returns-in_ok-finding-in-Rejected
unfolding text_line
returns-in_ok-finding-in-Rejected c =
    rw c.in-Rejected.is (said string_bytes _ _ _ c.format-in-Rejected.ensures.ok (simp (c.event_of-event-in-Rejected.ensures, c.in_ok-finding-in-Rejected.ensures, append_assoc)))

pub returns-in_ok-digits-in-Fetched : goal.returns-in_ok-digits-in-Fetched
unfolding text_line
returns-in_ok-digits-in-Fetched c =
    rw c.in-Fetched.is (said string_bytes _ _ _ c.format-in-Fetched.ensures.ok (simp (c.in_ok-digits-in-Fetched.ensures.digits, c.as_slice.ensures, c.as_slice-in-Fetched.ensures, append_assoc)))

pub returns-in-BadTrace : goal.returns-in-BadTrace
unfolding text_line
returns-in-BadTrace c =
    rw c.in-BadTrace.is (said string_bytes _ _ _ c.format-in-BadTrace.ensures.ok (simp (c.name_of-name.ensures, append_assoc)))
