-- Sums of accounts once all of some postings are added to them, or taken from them.
use Rattle.std.specs.Prelude.{◌≡◌, ℕ, ◌+◌, ◌-◌, List, ◌++◌}
use Rattle.std.specs.List.Sorted.{IsPermutation}
use Rattle.accounts.specs.declared.account.Account.{Account}
use Rattle.accounts.specs.declared.postings.Posting.{Posting}
use Rattle.accounts.specs.Sums.{total_of}
use Rattle.accounts.specs.Tally.{Sums}

-- sums, and what some postings come to
unfoldable pub with_all : Sums → List Posting → Sums
with_all sums postings account field = sums account field + total_of postings account field

-- sums without what some postings come to, or nothing where that is more
unfoldable pub less_all : Sums → List Posting → Sums
less_all sums postings account field = sums account field - total_of postings account field

-- of some sums, what the postings that are gone came to was taken away, and what those that came come to was added
abbrev pub AreMoved : Sums → Sums → List Posting → List Posting → Type 0
AreMoved old new gone came =
    (account : Account) (field : ℕ) → new account field + total_of gone account field ≡ old account field + total_of came account field

-- Two lists of postings have the same ones, but for those that are gone from the first and those that came in the second.
pub record PostTheSame (before after gone came : List Posting) : Type 0 where
  pub same : List Posting
  pub old : IsPermutation before (gone ++ same)
  pub new : IsPermutation after (came ++ same)
