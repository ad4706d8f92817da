use Rattle.std.proofs.Common.{◌≡◌, ℕ, ◌+◌, ◌*◌, ◌≤◌, max, subst, sym, arith}
use Rattle.std.specs.Prelude.{Some, None}
use Rattle.std.specs.List.{count_by}
use Rattle.live_index.specs.Table.{pairs_of}
use Rattle.span_index.specs.Spans.{IsMeeting}
use Rattle.span_index.specs.Table.{times_of}
use Rattle.change_records.specs.Search.{Searched, known}
use Rattle.change_records.proofs.LookLaws.{is_passed, passed_more, passed_most}
use Rattle.change_records.proofs.SearchLaws.{IsWalked, walk_all, walk_behind, walk_more}
use Rattle.change_records.proofs.search.take_range.Goals as goal

pub returns-in_default-clause-searched : goal.returns-in_default-clause-searched
returns-in_default-clause-searched g c lawful =
    walk_all (known (g.B.Bases.chunks c.args.sides.now.bases.now) (g.B.Bases.superblock c.args.sides.now.bases.now).nodesize (g.B.Bases.is_sum_free c.args.sides.now.bases.now)
    (pairs_of (g.B.Bases.table c.args.sides.now.bases.now)) c.args.sides.now.fresh.now c.args.sides.now.made.now)
    (times_of c.args.spans.now) c.args.range.now.sort c.args.range.now.from c.args.range.now.until c.spans.from c.spans.after c.args.refs.now c.spans.refs
    (subst (λ o. IsMeeting (times_of c.args.spans.now) c.args.range.now.sort c.spans.from o None) c.as_ref.ensures.value c.in_default.ensures.value)
    (c.spans.invariant.searched lawful)

pub returns-then-span-range-clause-searched : goal.returns-then-span-range-clause-searched
returns-then-span-range-clause-searched g c lawful =
    walk_behind (known (g.B.Bases.chunks c.args.sides.now.bases.now) (g.B.Bases.superblock c.args.sides.now.bases.now).nodesize (g.B.Bases.is_sum_free c.args.sides.now.bases.now)
    (pairs_of (g.B.Bases.table c.args.sides.now.bases.now)) c.args.sides.now.fresh.now c.args.sides.now.made.now)
    (times_of c.args.spans.now) c.args.range.now.sort c.args.range.now.from c.args.range.now.until c.spans.from c.spans.after c.in-Some.span c.args.refs.now c.spans.refs
    (subst (λ o. IsMeeting (times_of c.args.spans.now) c.args.range.now.sort c.spans.from o (Some c.in-Some.span)) c.as_ref.ensures.value c.in-Some.ensures.value)
    c.if-span-range.true (c.spans.invariant.searched lawful)

pub returns-in_default-clause-looks : goal.returns-in_default-clause-looks
returns-in_default-clause-looks g c stops are =
    let had = c.spans.invariant.looks stops are in
    let most = passed_most (times_of c.args.spans.now) stops are c.args.range.now.sort c.args.range.now.from c.args.range.now.until c.spans.from c.spans.after in
    let look = c.meeting.ensures.looks in
    omega (arith, had, most, look)

pub returns-then-span-range-clause-looks : goal.returns-then-span-range-clause-looks
returns-then-span-range-clause-looks g c stops are =
    let had = c.spans.invariant.looks stops are in
    let most = passed_most (times_of c.args.spans.now) stops are c.args.range.now.sort c.args.range.now.from c.args.range.now.until c.spans.from c.spans.after in
    let look = c.meeting.ensures.looks in
    omega (arith, had, most, look)

pub spans-preserved : goal.spans-preserved
spans-preserved g c =
    let least = subst (λ o. IsMeeting (times_of c.args.spans.now) c.args.range.now.sort c.spans.from o (Some c.in-Some.span)) c.as_ref.ensures.value c.in-Some.ensures.value in
    let is : c.max-from.result ≡ max c.spans.from c.in-Some.span.first = (let greater = c.max-from.ensures in omega (arith, greater)) in
    record {
      searched = λ lawful.
          subst (λ (now : ℕ). Searched (known (g.B.Bases.chunks c.args.sides.now.bases.now) (g.B.Bases.superblock c.args.sides.now.bases.now).nodesize (g.B.Bases.is_sum_free c.args.sides.now.bases.now)
          (pairs_of (g.B.Bases.table c.args.sides.now.bases.now)) c.args.sides.now.fresh.now c.args.sides.now.made.now)
          (times_of c.args.spans.now) (IsWalked c.args.range.now.sort c.args.range.now.from c.args.range.now.until now (Some c.in-Some.span)) c.args.refs.now c.take.new.refs) (sym is)
          (walk_more (known (g.B.Bases.chunks c.args.sides.now.bases.now) (g.B.Bases.superblock c.args.sides.now.bases.now).nodesize (g.B.Bases.is_sum_free c.args.sides.now.bases.now)
          (pairs_of (g.B.Bases.table c.args.sides.now.bases.now)) c.args.sides.now.fresh.now c.args.sides.now.made.now) (g.B.Bases.superblock c.args.sides.now.bases.now).nodesize
          (times_of c.args.spans.now) c.args.range.now.sort c.args.range.now.from c.args.range.now.until c.spans.from c.spans.after c.in-Some.span c.args.refs.now c.spans.refs c.take.new.refs lawful least
          (c.spans.invariant.searched lawful) (c.in_ok-take.ensures.takes (lawful c.in-Some.span least.0)));
      looks = λ stops are.
          (let had = c.spans.invariant.looks stops are in
          let more = passed_more (times_of c.args.spans.now) stops are c.args.range.now.sort c.args.range.now.from c.args.range.now.until c.spans.from c.spans.after c.in-Some.span least
          c.if-span-range.false c.spans.invariant.onward c.spans.invariant.behind in
          let look = c.meeting.ensures.looks in
          let took = c.take.ensures.looks in
          subst (λ (now : ℕ). c.take.new.steps ≤ c.args.steps.now
          + 2 * count_by (is_passed c.args.range.now.sort c.args.range.now.from c.args.range.now.until now (Some c.in-Some.span)) stops) (sym is)
          (omega (arith, had, more, look, took)));
      onward = (let low = c.spans.invariant.onward in omega (arith, low, is));
      behind = omega (arith, is);
    }

pub returns-in_err-take-clause-looks : goal.returns-in_err-take-clause-looks
returns-in_err-take-clause-looks g c stops are =
    let least = subst (λ o. IsMeeting (times_of c.args.spans.now) c.args.range.now.sort c.spans.from o (Some c.in-Some.span)) c.as_ref.ensures.value c.in-Some.ensures.value in
    let had = c.spans.invariant.looks stops are in
    let more = passed_more (times_of c.args.spans.now) stops are c.args.range.now.sort c.args.range.now.from c.args.range.now.until c.spans.from c.spans.after c.in-Some.span least c.if-span-range.false
    c.spans.invariant.onward c.spans.invariant.behind in
    let most = passed_most (times_of c.args.spans.now) stops are c.args.range.now.sort c.args.range.now.from c.args.range.now.until (max c.spans.from c.in-Some.span.first) (Some c.in-Some.span) in
    let look = c.meeting.ensures.looks in
    let took = c.take.ensures.looks in
    omega (arith, had, more, most, look, took)

pub returns-clause-looks : goal.returns-clause-looks
returns-clause-looks g c stops are =
    let had = c.spans.invariant.looks stops are in
    let most = passed_most (times_of c.args.spans.now) stops are c.args.range.now.sort c.args.range.now.from c.args.range.now.until c.spans.from c.spans.after in
    omega (arith, had, most)
