use Rattle.std.proofs.Common.{◌<◌, ◌≤◌, arith}
use Rattle.write_cache.proofs.JoinLaws.{key_there, grow_order, grow_on, grow_err, grow_end, end_behind}
use Rattle.write_cache.proofs.PutLaws.{on_err}
use Rattle.write_cache.proofs.runs.join_run.Goals as goal

pub end_of-next_end-requires-clause-here : goal.end_of-next_end-requires-clause-here
end_of-next_end-requires-clause-here c = key_there c.loop-alloc.runs.entries c.loop-alloc.end _ c.contains_key.ensures c.loop-alloc-test.true

pub append_next-requires-clause-second : goal.append_next-requires-clause-second
append_next-requires-clause-second c = key_there c.loop-alloc.runs.entries c.loop-alloc.end _ c.contains_key.ensures c.loop-alloc-test.true

pub append_next-requires-clause-order : goal.append_next-requires-clause-order
append_next-requires-clause-order c = grow_order c.args.runs.now.entries c.loop-alloc.runs.entries c.args.begin c.loop-alloc.end c.loop-alloc.invariant

pub returns-in_err-append_next-clause-err : goal.returns-in_err-append_next-clause-err
returns-in_err-append_next-clause-err c = on_err c.from_residual.result (grow_err c.args.runs.now.entries c.loop-alloc.runs.entries c.append_next.new.runs.entries c.args.begin c.loop-alloc.end c.loop-alloc.invariant c.in_err-append_next.ensures.err c.append_next.ensures.ordered)

pub loop-alloc-smaller : goal.loop-alloc-smaller
loop-alloc-smaller c =
    let there = key_there c.loop-alloc.runs.entries c.loop-alloc.end _ c.contains_key.ensures c.loop-alloc-test.true in
    let far : (c.loop-alloc.end < c.end_of-next_end.result) × (c.end_of-next_end.result ≤ 18446744073709551615) = end_behind c.loop-alloc.runs.entries c.loop-alloc.end c.end_of-next_end.result c.loop-alloc.invariant.still.kept there c.end_of-next_end.ensures in
    omega arith

pub loop-alloc-preserved : goal.loop-alloc-preserved
loop-alloc-preserved c =
    grow_on c.args.runs.now.entries c.loop-alloc.runs.entries c.append_next.new.runs.entries c.args.begin c.loop-alloc.end c.end_of-next_end.result c.loop-alloc.invariant
    (key_there c.loop-alloc.runs.entries c.loop-alloc.end _ c.contains_key.ensures c.loop-alloc-test.true)
    c.end_of-next_end.ensures c.in_ok-append_next.ensures.ok c.append_next.ensures.ordered

pub returns-clause-ok : goal.returns-clause-ok
returns-clause-ok c = grow_end c.args.runs.now.entries c.loop-alloc.runs.entries c.args.begin c.loop-alloc.end _ c.loop-alloc.invariant c.contains_key.ensures c.loop-alloc-test.false
