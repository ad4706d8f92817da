use Rattle.std.proofs.Common.{rules}
use Rattle.live_index.specs.declared.live.Live.{Live}
use Rattle.tree_change.specs.Change.{is_before}
use Rattle.tree_change.proofs.Merges.{pair_before, sorted_in, sorted_of, two_total}
use Rattle.tree_change.proofs.merge.sort_lives.Goals as goal

pub returns-in-Ok : goal.returns-in-Ok
returns-in-Ok c =
    sorted_in is_before c.args.lives.now.items c.as_mut_slice.result.now c.sort_by_key.new.self c.args.lives.now.len
    c.as_mut_slice.ensures.value c.sort_by_key.ensures.len c.as_mut_slice.ensures.len
    (sorted_of (λ (live : Live). (live.address, live.tree)) two_total is_before (λ a b. pair_before a.address b.address a.tree b.tree) _ _
    c.in-Ok.ensures.permutation c.in-Ok.ensures.sorted (λ a r q k. search rules))
