-- Sums that are kept apart from a tally, each account's in a form of its own, with a list of postings for what has no such form.
use Rattle.std.specs.Prelude.{◌≡◌, ℕ, ◌+◌, Bool, false, List}
use Rattle.accounts.specs.declared.account.Account.{Account}
use Rattle.accounts.specs.declared.postings.Posting.{Posting}
use Rattle.accounts.specs.declared.tally.Tally.{Tally}
use Rattle.accounts.specs.Broken.{is_broken}
use Rattle.accounts.specs.Sums.{total_of}
use Rattle.accounts.specs.Tally.{Sums, kept, sums_in}

-- What is kept apart and a list come to what another list was put into: the new sums and the list behind are the old ones and the list
-- before, with what was given.
abbrev pub AddsUp : Sums → Sums → List Posting → List Posting → List Posting → Type 0
AddsUp old new before after given =
    (account : Account)
    → kept account.kind (λ n. new account n + total_of after account n)
    ≡ kept account.kind (λ n. (old account n + total_of before account n) + total_of given account n)

-- What was kept apart, of accounts of some kinds, went to a tally, but for what breaks no rule: an account is broken by the tally where it
-- was by both, and the tally has of other kinds what it had.
pub record IsSettled (apart : Sums) (is_own : ℕ → Bool) (old new : Tally) : Type 0 where
  pub broken : (account : Account) → is_broken account (sums_in new account) ≡ is_broken account (λ n. sums_in old account n + apart account n)
  pub others : (account : Account) → is_own account.kind ≡ false → sums_in new account ≡ sums_in old account
