use Rattle.std.proofs.Common.{arith, subst, sym}
use Rattle.std.specs.Prelude.{Some}
use Rattle.std.specs.List.{count_by}
use Rattle.std.proofs.Common.{◌+◌, ◌*◌, ◌≤◌}
use Rattle.live_index.specs.Table.{pairs_of}
use Rattle.span_index.specs.Spans.{offset_of}
use Rattle.span_index.specs.Table.{times_of}
use Rattle.change_records.specs.Search.{Searched, known}
use Rattle.change_records.proofs.LookLaws.{is_read, read_more, read_most}
use Rattle.change_records.proofs.SearchLaws.{IsRead, file_more}
use Rattle.change_records.proofs.search.take_file.Goals as goal

pub returns-in_default-clause-looks : goal.returns-in_default-clause-looks
returns-in_default-clause-looks g c all are =
    let had = c.spans.invariant.looks all are in
    let most = read_most (times_of c.args.spans.now) all are c.args.inode.now c.spans.after in
    let look = c.shown_of.ensures.looks in
    omega (arith, had, most, look)

pub returns-in_err-take-clause-looks : goal.returns-in_err-take-clause-looks
returns-in_err-take-clause-looks g c all are =
    let had = c.spans.invariant.looks all are in
    let more = read_more (times_of c.args.spans.now) all are c.args.inode.now c.spans.after c.in-Some.span c.in-Some.ensures.value in
    let most = read_most (times_of c.args.spans.now) all are c.args.inode.now (Some (offset_of c.in-Some.span.sort)) in
    let look = c.shown_of.ensures.looks in
    let took = c.take.ensures.looks in
    omega (arith, had, more, most, look, took)

pub returns-clause-looks : goal.returns-clause-looks
returns-clause-looks g c all are =
    let had = c.spans.invariant.looks all are in
    let most = read_most (times_of c.args.spans.now) all are c.args.inode.now c.spans.after in
    omega (arith, had, most)

pub spans-preserved : goal.spans-preserved
spans-preserved g c = record {
  searched = λ lawful alone.
      subst (λ o. Searched (known (g.B.Bases.chunks c.args.sides.now.bases.now) (g.B.Bases.superblock c.args.sides.now.bases.now).nodesize (g.B.Bases.is_sum_free c.args.sides.now.bases.now)
      (pairs_of (g.B.Bases.table c.args.sides.now.bases.now)) c.args.sides.now.fresh.now c.args.sides.now.made.now)
      (times_of c.args.spans.now) (IsRead c.args.inode.now.tree c.args.inode.now.ino (Some o)) c.args.refs.now c.take.new.refs) (sym c.offset_of.ensures)
      (file_more (known (g.B.Bases.chunks c.args.sides.now.bases.now) (g.B.Bases.superblock c.args.sides.now.bases.now).nodesize (g.B.Bases.is_sum_free c.args.sides.now.bases.now)
      (pairs_of (g.B.Bases.table c.args.sides.now.bases.now)) c.args.sides.now.fresh.now c.args.sides.now.made.now)
      (times_of c.args.spans.now) c.args.inode.now.tree c.args.inode.now.ino c.spans.after c.in-Some.span c.args.refs.now c.spans.refs c.take.new.refs alone c.in-Some.ensures.value
      (c.spans.invariant.searched lawful alone) (c.in_ok-take.ensures.takes (lawful c.in-Some.span c.in-Some.ensures.value.0)));
  looks = λ all are.
      subst (λ o. c.take.new.steps ≤ c.args.steps.now + 2 * count_by (is_read c.args.inode.now (Some o)) all) (sym c.offset_of.ensures)
      (let had = c.spans.invariant.looks all are in
      let more = read_more (times_of c.args.spans.now) all are c.args.inode.now c.spans.after c.in-Some.span c.in-Some.ensures.value in
      let look = c.shown_of.ensures.looks in
      let took = c.take.ensures.looks in
      omega (arith, had, more, look, took));
}
