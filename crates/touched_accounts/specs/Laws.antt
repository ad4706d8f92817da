-- What a change of postings does to the sums of accounts, and which accounts decide then.
use Rattle.std.specs.Prelude.{◌≡◌, false, List, ◌++◌, Option}
use Rattle.accounts.specs.Broken.{is_broken}
use Rattle.accounts.specs.Least.{IsLeastBroken}
use Rattle.accounts.specs.Sums.{total_of}
use Rattle.accounts.specs.Tally.{Sums}
use Rattle.accounts.specs.declared.account.Account.{Account}
use Rattle.accounts.specs.declared.postings.Posting.{Posting}
use Rattle.touched_accounts.specs.Least.{IsLeastTouched}
use Rattle.touched_accounts.specs.Sums.{AreMoved, PostTheSame}

-- postings that are the same but for some of each move the sums by these
abbrev pub MovesLaw : Type 0
MovesLaw = (before after gone came : List Posting) → PostTheSame before after gone came → AreMoved (total_of before) (total_of after) gone came

-- Where no account was broken, the least broken one of those that are gone from or that something came to is the least of all.
abbrev pub TouchedLaw : Type 0
TouchedLaw = (old new : Sums) (gone came : List Posting) (least : Option Account)
    → AreMoved old new gone came
    → ((account : Account) → is_broken account (old account) ≡ false)
    → IsLeastTouched new (gone ++ came) least
    → IsLeastBroken (λ account. is_broken account (new account)) least
