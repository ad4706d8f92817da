-- The least of the accounts that are broken.
use Rattle.std.specs.Prelude.{◌≡◌, Bool, true, false, List, [], ◌∷◌, Option, Some, None, if◌then◌else◌}
use Rattle.std.specs.Ordering.{is_gt}
use Rattle.std.specs.declared.cmp.Ordering.TheVariants.{Less}
use Rattle.accounts.specs.declared.account.Account.{Account}
use Rattle.accounts.specs.declared.postings.Posting.{Posting}
use Rattle.accounts.specs.Order.{account_cmp}
use Rattle.accounts.specs.Sums.{total_of}
use Rattle.accounts.specs.Broken.{is_broken}

-- An account is broken and no lesser account is; or none is broken.
abbrev pub IsLeastBroken : (Account → Bool) → Option Account → Type 0
IsLeastBroken broken None = (account : Account) → broken account ≡ false
IsLeastBroken broken (Some least) =
    (broken least ≡ true) × ((account : Account) → account_cmp account least ≡ Less → broken account ≡ false)

-- whether an account is broken by what these postings come to
abbrev pub is_broken_by : List Posting → Account → Bool
is_broken_by postings account = is_broken account (total_of postings account)

-- the lesser of an account and another, if there is one
abbrev pub lesser : Account → Option Account → Account
lesser account None = account
lesser account (Some other) = if is_gt (account_cmp account other) then other else account

-- the least of the accounts of these postings that are broken
abbrev pub least_posted : (Account → Bool) → List Posting → Option Account
least_posted broken [] = None
least_posted broken (posting ∷ postings) =
    if broken posting.account then Some (lesser posting.account (least_posted broken postings)) else least_posted broken postings

-- the least account that is broken by what these postings come to
unfoldable pub least_broken : List Posting → Option Account
least_broken postings = least_posted (is_broken_by postings) postings

-- the least broken account of some postings is what the relation holds of, and nothing else is
abbrev pub LeastBrokenIsOne : Type 0
LeastBrokenIsOne =
    (postings : List Posting)
    → IsLeastBroken (is_broken_by postings) (least_broken postings)
    × ((other : Option Account) → IsLeastBroken (is_broken_by postings) other → other ≡ least_broken postings)
