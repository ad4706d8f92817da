use Rattle.std.proofs.Common.{◌+◌, ◌≤◌, ◌++◌, List, take}
use Rattle.std.specs.Option.{option_copied}
use Rattle.accounts.specs.declared.postings.Posting.{Posting}
use Rattle.ledger_index.specs.Ledger.{sums_of}
use Rattle.touched_accounts.specs.Least.{IsLeastTouched}
use Rattle.touched_accounts.proofs.touched.judge_more.Given as goal

-- the least of the earlier ones and those so far, with a look each
abbrev pub invariant-loop-posting : goal.invariant-loop-posting
invariant-loop-posting g l = record {
  least : (earlier : List Posting) → IsLeastTouched (sums_of l.ledger) earlier (option_copied l.fn.least)
      → IsLeastTouched (sums_of l.ledger) (earlier ++ take l.posting-index l.posting-items) (option_copied l.found);
  looks : l.steps ≤ l.fn.steps + l.posting-index;
}
