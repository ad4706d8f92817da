use Rattle.std.proofs.Common.{sym}
use Rattle.accounts.specs.Lent.{posting_lent}
use Rattle.ledger_index.specs.Ledger.{entries_of, sums_of}
use Rattle.verdict.proofs.Answers.{ok_follows}
use Rattle.ledger_index.specs.LooksLaws.{counted_none}
use Rattle.touched_accounts.proofs.Changed.{put_last}
use Rattle.touched_accounts.proofs.Counted.{counted_next, looks_more}
use Rattle.touched_accounts.proofs.adding.AddingPoster.put_name.Goals as goal

pub returns : goal.returns
returns g c =
    let old = c.args.self.now in
    let posting = posting_lent c.args.name.now c.args.field c.args.amount in
    record {
      sums = ok_follows c.whole.result
          (λ whole. put_last (sums_of old.ledger) (sums_of c.add_name.new.self) posting c.in_ok-add_name.ensures.ok (c.in_ok-add_name.ensures.full whole))
          c.whole.ensures;
      looks = ok_follows c.whole.result (λ whole. counted_next 0 _ _ _ (sym (counted_none old.steps.now)) c.add_name.ensures.looks) c.whole.ensures;
      few = λ begun have. looks_more begun (entries_of old.ledger) (entries_of c.add_name.new.self) old.steps.now c.add_name.new.steps
          c.add_name.ensures.few c.add_name.ensures.looks have;
    }
