use Rattle.std.proofs.Common.{sym, subst}
use Rattle.span_index.specs.Places.{IsNextFile}
use Rattle.span_index.specs.Spans.{IsNextShown}
use Rattle.span_index.specs.Table.{times_of}
use Rattle.span_index.proofs.NextLaws.{none_shown, some_shown}
use Rattle.span_index.proofs.kept.SpanIndex.shown_of.Goals as goal

pub returns-in_err-place-clause-value : goal.returns-in_err-place-clause-value
returns-in_err-place-clause-value g c =
    subst (IsNextShown (times_of c.args.self.now) c.args.tree c.args.ino c.args.after) (sym c.from_residual.ensures)
    (none_shown (times_of c.args.self.now) c.args.self.now.files c.args.self.now.alike c.args.tree c.args.ino c.args.after (subst (IsNextFile c.args.self.now.files c.args.tree c.args.ino c.args.after) c.in_err-place.was c.next_of.ensures))

pub returns-clause-value : goal.returns-clause-value
returns-clause-value g c =
    some_shown (times_of c.args.self.now) c.args.self.now.files c.args.self.now.alike c.args.tree c.args.ino c.args.after c.in_ok-place.place (subst (IsNextFile c.args.self.now.files c.args.tree c.args.ino c.args.after) c.in_ok-place.was c.next_of.ensures)
