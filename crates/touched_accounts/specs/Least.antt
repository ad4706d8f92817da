-- The least broken one of the accounts to which some postings go.
use Rattle.std.specs.Prelude.{◌≡◌, Bool, true, false, List, Option, Some, None}
use Rattle.std.specs.List.{list_any}
use Rattle.std.specs.Ordering.{is_lt}
use Rattle.std.specs.declared.cmp.Ordering.TheVariants.{Less}
use Rattle.accounts.specs.Broken.{is_broken}
use Rattle.accounts.specs.Order.{account_cmp}
use Rattle.accounts.specs.Sums.{is_same}
use Rattle.accounts.specs.Tally.{Sums}
use Rattle.accounts.specs.declared.account.Account.{Account}
use Rattle.accounts.specs.declared.postings.Posting.{Posting}

-- whether one of some postings goes to an account
unfoldable pub is_touched : List Posting → Account → Bool
is_touched postings account = list_any (λ (one : Posting). is_same one.account account) postings

-- An account to which one of some postings goes is broken by some sums, and no lesser one is to which one goes; or none is.
abbrev pub IsLeastTouched : Sums → List Posting → Option Account → Type 0
IsLeastTouched sums postings None = (account : Account) → is_touched postings account ≡ true → is_broken account (sums account) ≡ false
IsLeastTouched sums postings (Some least) =
    (is_broken least (sums least) ≡ true) × (is_touched postings least ≡ true)
    × ((account : Account) → is_touched postings account ≡ true → account_cmp account least ≡ Less → is_broken account (sums account) ≡ false)

-- whether an account stands before another, if there is another
abbrev pub stands_before : Account → Option Account → Bool
stands_before account None = true
stands_before account (Some other) = is_lt (account_cmp account other)
