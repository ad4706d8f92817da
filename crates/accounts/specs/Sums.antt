-- What postings come to: an account has nine sums, fields 0 to 8.
use Rattle.std.specs.Prelude.{ℕ, ◌+◌, Bool, ◌&&◌, ◌==◌, nat_lt, List, [], ◌∷◌, slice_index, if◌then◌else◌}
use Rattle.std.specs.Ordering.{eq_by_cmp}
use Rattle.accounts.specs.declared.account.Account.{Account}
use Rattle.accounts.specs.declared.postings.Posting.{Posting}
use Rattle.accounts.specs.declared.totals.Totals.{Totals}
use Rattle.accounts.specs.Order.{account_cmp}

-- whether two accounts are one
abbrev pub is_same : Account → Account → Bool
is_same = eq_by_cmp account_cmp

-- what a posting adds to one sum of an account; one to a field above 8 adds to none
unfoldable pub added : Posting → Account → ℕ → ℕ
added posting account field =
    if is_same posting.account account && (posting.field == field && nat_lt field 9) then posting.amount else 0

-- the total of one sum of an account: all that was posted there
unfoldable pub total_of : List Posting → Account → ℕ → ℕ
total_of [] account field = 0
total_of (posting ∷ postings) account field = added posting account field + total_of postings account field

-- one of the nine sums
abbrev pub sum_in : Totals → ℕ → ℕ
sum_in totals field = slice_index totals.f field
