use Rattle.std.proofs.Common.{arith}
use Rattle.change_records.proofs.LookLaws.{both_sorts}
use Rattle.change_records.proofs.reached.take_chunk.Goals as goal

pub returns-in_err-take_range-clause-looks : goal.returns-in_err-take_range-clause-looks
returns-in_err-take_range-clause-looks g c all are =
    let until = c.saturating_add-until.ensures in
    let both = both_sorts all c.args.chunk.now c.saturating_add-until.result (omega (arith, until)) in
    let first = c.take_range.ensures.looks all are in
    omega (arith, both, first)

pub returns-in_err-take_range-2-clause-looks : goal.returns-in_err-take_range-2-clause-looks
returns-in_err-take_range-2-clause-looks g c all are =
    let until = c.saturating_add-until.ensures in
    let both = both_sorts all c.args.chunk.now c.saturating_add-until.result (omega (arith, until)) in
    let first = c.take_range.ensures.looks all are in
    let second = c.take_range-2.ensures.looks all are in
    omega (arith, both, first, second)

pub returns-clause-looks : goal.returns-clause-looks
returns-clause-looks g c all are =
    let until = c.saturating_add-until.ensures in
    let both = both_sorts all c.args.chunk.now c.saturating_add-until.result (omega (arith, until)) in
    let first = c.take_range.ensures.looks all are in
    let second = c.take_range-2.ensures.looks all are in
    omega (arith, both, first, second)
