use Rattle.std.proofs.Common.{sym, arith, rules}
use Rattle.ledger_index.specs.Ledger.{entries_of, sums_of}
use Rattle.ledger_index.specs.LooksLaws.{counted_none}
use Rattle.touched_accounts.specs.AddingLaws.{with_none}
use Rattle.touched_accounts.proofs.Changed.{put_next}
use Rattle.touched_accounts.proofs.Counted.{counted_next, looks_more}
use Rattle.touched_accounts.proofs.touched.put_all.Goals as goal

pub loop-posting-init : goal.loop-posting-init
loop-posting-init g c = record { sums = sym (with_none (sums_of c.args.ledger.now)); entries = λ tidy. tidy; looks = omega arith; counts = sym (counted_none c.args.steps.now); few = λ begun have. have }

pub loop-posting-preserved : goal.loop-posting-preserved
loop-posting-preserved g c =
    let p = c.posting-item.result in
    record {
      sums = put_next (sums_of c.args.ledger.now) (sums_of c.loop-posting.ledger) (sums_of c.add_saturating.new.self) c.as_slice-posting-items.result.now
          c.loop-posting.posting-index p p c.loop-posting-test.true c.posting-item.is c.loop-posting.invariant.sums
          c.in_ok-full.ensures.ok (c.in_ok-full.ensures.full (search rules));
      entries = λ _. c.add_saturating.ensures.entries;
      looks = omega (arith, c.add_saturating.ensures.looks, c.loop-posting.invariant.looks);
      counts = counted_next c.loop-posting.posting-index _ _ _ c.loop-posting.invariant.counts c.add_saturating.ensures.looks;
      few = λ begun have. looks_more begun (entries_of c.loop-posting.ledger) (entries_of c.add_saturating.new.self) c.loop-posting.steps c.add_saturating.new.steps
          c.add_saturating.ensures.few c.add_saturating.ensures.looks (c.loop-posting.invariant.few begun have);
    }
