-- What is added to what is kept apart goes together.
use Rattle.std.proofs.Common.{List, ◌++◌}
use Rattle.std.specs.Prelude.{Ok, Err}
use Rattle.accounts.specs.declared.postings.Posting.{Posting}
use Rattle.accounts.specs.Posts.{Done, Passes}
use Rattle.accounts.proofs.Apart.{adds_nothing, adds_then}
use Rattle.account_tally.specs.Apart.{Adds, sums_apart}
use Rattle.account_tally.specs.declared.apart.Apart.{Apart}

more : (old mid new : Apart) (result : Done) (first later : List Posting)
    → Adds old mid (Ok tt) first → Adds mid new result later → Adds old new result (first ++ later)
more old mid new (Err e) first later adds rest = record { sums = tt }
more old mid new (Ok u) first later adds rest = record {
  sums = adds_then (sums_apart old) (sums_apart mid) (sums_apart new) old.waiting mid.waiting new.waiting first later adds.sums rest.sums;
}

pub adds_pass : Passes (λ (old new : Apart) (result : Done) (postings : List Posting). Adds old new result postings)
adds_pass = record {
  none = λ now. record { sums = adds_nothing (sums_apart now) now.waiting };
  more = more;
  cut = λ old new before fault first later adds. record { sums = tt };
  missed = λ now fault first later. record { sums = tt };
}
