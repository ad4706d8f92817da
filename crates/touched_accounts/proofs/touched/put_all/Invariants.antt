use Rattle.std.proofs.Common.{◌≡◌, ℕ, ◌+◌, ◌≤◌, take}
use Rattle.ledger_index.specs.Ledger.{IsTidy, entries_of, sums_of}
use Rattle.ledger_index.specs.Looks.{counted_times}
use Rattle.touched_accounts.specs.Looks.{HaveLooks}
use Rattle.touched_accounts.specs.Sums.{with_all}
use Rattle.touched_accounts.proofs.touched.put_all.Given as goal

-- the postings so far are added, with a look each
abbrev pub invariant-loop-posting : goal.invariant-loop-posting
invariant-loop-posting g l = record {
  sums : sums_of l.ledger ≡ with_all (sums_of l.fn.ledger) (take l.posting-index l.posting-items);
  entries : IsTidy l.fn.ledger → IsTidy l.ledger;
  looks : l.steps ≤ l.fn.steps + l.posting-index;
  counts : l.steps ≡ counted_times l.posting-index l.fn.steps;
  few : (begun : ℕ) → HaveLooks begun (entries_of l.fn.ledger) l.fn.steps → HaveLooks begun (entries_of l.ledger) l.steps;
}
