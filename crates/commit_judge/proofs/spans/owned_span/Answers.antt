use Rattle.std.proofs.Common.{sym, ◌∙◌}
use Rattle.span_index.specs.Table.{times_of}
use Rattle.commit_judge.proofs.span_tables.Found.{owned_found, owned_parts}
use Rattle.commit_judge.proofs.spans.owned_span.Goals as goal
use Rattle.commit_judge.proofs.spans.owned_span.Goals.{else-span-first-via-then-span-first+else-span-sectors, else-span-first-via-else-span-first}

pub returns-in_err-span-clause-found : goal.returns-in_err-span-clause-found
returns-in_err-span-clause-found g c = λ more stands.
    let found = owned_found (times_of c.args.table.now) c.args.first c.args.sectors c.args.of_data c.span_below-below.result c.meeting.result
    c.span_below-below.ensures c.meeting.ensures.value more stands in
    absurd (cc (found, c.in_err-span.was))

pub returns-then-span-sectors-clause-found : goal.returns-then-span-sectors-clause-found
returns-then-span-sectors-clause-found g c = λ more stands.
    sym c.in_ok-span.was
    ∙ owned_found (times_of c.args.table.now) c.args.first c.args.sectors c.args.of_data c.span_below-below.result c.meeting.result
    c.span_below-below.ensures c.meeting.ensures.value more stands

pub returns-else-span-first-clause-found : goal.returns-else-span-first-clause-found
returns-else-span-first-clause-found g c = λ more stands.
    let parts = owned_parts c.args.first c.args.sectors c.args.of_data c.in_ok-span.span (sym c.in_ok-span.was
    ∙ owned_found (times_of c.args.table.now) c.args.first c.args.sectors c.args.of_data c.span_below-below.result c.meeting.result
    c.span_below-below.ensures c.meeting.ensures.value more stands) in
    absurd (elim c.else-span-first.branch [
      | else-span-first-via-then-span-first+else-span-sectors w ↦ w.if-span-sectors.false parts.1
      | else-span-first-via-else-span-first w ↦ w.if-span-first.false parts.0
    ])
