use Rattle.std.proofs.Common.{sym, ◌∙◌}
use Rattle.tree_change.specs.Leaves.{last_in}
use Rattle.tree_change.proofs.LastKeys.{found_none, found_one, found_other}
use Rattle.tree_change.proofs.lasts.Lasts.of.Goals as goal

pub returns-then-count-eq0 : goal.returns-then-count-eq0
unfolding last_in
returns-then-count-eq0 c =
    c.none.ensures
    ∙ sym (found_none c.args.address c.args.self.now.keys.items c.count_up_to-count.result c.count_up_to-count.ensures.count c.count_up_to-count.ensures.parted c.if-count-eq0.true)

pub returns-then-one-address : goal.returns-then-one-address
unfolding last_in
returns-then-one-address c =
    sym (found_one c.args.address c.args.self.now.keys.items c.count_up_to-count.result c.count_up_to-count.ensures.count c.count_up_to-count.ensures.parted
    _ c.index-one.result.now c.if-count-eq0.false c.index-one.ensures c.if-one-address.true)

pub returns-else-one-address : goal.returns-else-one-address
unfolding last_in
returns-else-one-address c =
    c.none-else-one-address.ensures
    ∙ sym (found_other c.args.address c.args.self.now.keys.items c.count_up_to-count.result c.count_up_to-count.ensures.count c.count_up_to-count.ensures.parted
    _ c.index-one.result.now c.args.self.now.order c.if-count-eq0.false c.index-one.ensures c.if-one-address.false)
