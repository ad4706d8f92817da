-- What a ledger, to which postings are added as they come, is then.
use Rattle.std.specs.Prelude.{◌≡◌, ℕ, List, length, OnOk}
use Rattle.accounts.specs.declared.postings.Posting.{Posting}
use Rattle.accounts.specs.Posts.{Done}
use Rattle.ledger_index.specs.Ledger.{entries_of, sums_of}
use Rattle.ledger_index.specs.Looks.{counted_times}
use Rattle.touched_accounts.specs.Looks.{HaveLooks}
use Rattle.touched_accounts.specs.Sums.{with_all}
use Rattle.touched_accounts.specs.declared.adding.Adding.{Adding}

-- These postings were added, each by a look. Out of memory, also where a sum would pass 128 bits, any part of them may be. Each entry more came
-- by a look.
pub record Adds {L : Type 0} (old new : Adding L) (result : Done) (postings : List Posting) : Type 0 where
  pub sums : OnOk result (sums_of new.ledger ≡ with_all (sums_of old.ledger) postings)
  pub looks : OnOk result (new.steps.now ≡ counted_times (length postings) old.steps.now)
  pub few : (begun : ℕ) → HaveLooks begun (entries_of old.ledger) old.steps.now → HaveLooks begun (entries_of new.ledger) new.steps.now
