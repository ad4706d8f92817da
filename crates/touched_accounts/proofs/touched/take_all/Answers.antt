use Rattle.std.proofs.Common.{sym, arith}
use Rattle.ledger_index.specs.Ledger.{sums_of}
use Rattle.touched_accounts.proofs.Changed.{less_none, take_next}
use Rattle.touched_accounts.proofs.touched.take_all.Goals as goal

pub loop-posting-init : goal.loop-posting-init
loop-posting-init g c = record { sums = sym (less_none (sums_of c.args.ledger.now)); entries = λ tidy. tidy; looks = omega arith }

pub loop-posting-preserved : goal.loop-posting-preserved
loop-posting-preserved g c =
    let p = c.posting-item.result in
    record {
      sums = take_next (sums_of c.args.ledger.now) (sums_of c.loop-posting.ledger) (sums_of c.take.new.self) c.as_slice-posting-items.result.now
          c.loop-posting.posting-index p p c.loop-posting-test.true c.posting-item.is c.loop-posting.invariant.sums c.take.ensures.sums;
      entries = λ _. c.take.ensures.entries;
      looks = omega (arith, c.take.ensures.looks, c.loop-posting.invariant.looks);
    }
