use Rattle.std.proofs.Common.{refl}
use Rattle.accounts.specs.Tally.{sums_in}
use Rattle.account_tally.specs.Apart.{sums_apart}
use Rattle.account_tally.proofs.Decided.{none_taken}
use Rattle.account_tally.proofs.summing.Accounts.new.Goals as goal

pub returns : goal.returns
returns c =
    none_taken _ c.args.map.now c.args.nodesize (sums_in c.new-2.result) (sums_apart c.new.result) c.new.result.waiting refl refl refl
    c.new-2.ensures c.new.ensures.sums c.new.ensures.waiting c.new-3.ensures.sums c.new-3.ensures.free
