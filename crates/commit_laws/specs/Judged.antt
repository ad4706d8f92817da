-- The finding of the accounts of an image, by the sums of all accounts but sectors and by the spans.
use Rattle.std.specs.Prelude.{◌≡◌, ℕ, ◌%◌, ◌<◌, Bool, true, false, List, Option, Some, None, option_map}
use Rattle.account_tally.specs.Kept.{chosen}
use Rattle.accounts.specs.Broken.{broken_finding, is_broken}
use Rattle.accounts.specs.Context.{Context}
use Rattle.accounts.specs.Least.{IsLeastBroken}
use Rattle.accounts.specs.Sums.{total_of}
use Rattle.accounts.specs.declared.account.Account.{Account}
use Rattle.records.specs.Part.{Located}
use Rattle.records.specs.Postings.{account_fault}
use Rattle.span_index.specs.Sectors.{is_bad}
use Rattle.commit_laws.specs.Sectors.{AreSound}
use Rattle.commit_laws.specs.Steps.{all_posts, spans_of}

-- the least sector whose account is broken, or none where there is none
abbrev pub IsLeastBad : (ℕ → Bool) → Option ℕ → Type 0
IsLeastBad bad None = (address : ℕ) → address % 4096 ≡ 0 → bad address ≡ false
IsLeastBad bad (Some least) =
    (least % 4096 ≡ 0) × (bad least ≡ true) × ((address : ℕ) → address % 4096 ≡ 0 → address < least → bad address ≡ false)

-- the finding of the accounts of sound records is that of the lesser of the least broken sector and the least broken account among the others
abbrev pub JudgedLaw : Type 0
JudgedLaw = (context : Context) (records : List Located) (bad : Option ℕ) (least : Option Account)
    → AreSound context.nodesize records
    → IsLeastBad (is_bad context (spans_of context.nodesize records)) bad
    → IsLeastBroken (λ account. is_broken account (total_of (all_posts context records) account)) least
    → account_fault context records ≡ option_map broken_finding (chosen bad least)
