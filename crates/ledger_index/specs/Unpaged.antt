-- What is kept of the accounts that have no page: the sums of all accounts, and for which of them an entry stands.
use Rattle.std.specs.Prelude.{ℕ, ◌+◌, Bool, ◌||◌, Option, Some, None}
use Rattle.accounts.specs.declared.account.Account.{Account}
use Rattle.accounts.specs.Tally.{Sums}
use Rattle.ledger_keys.specs.declared.name.Name.{Name}
use Rattle.ledger_index.specs.declared.unpaged.Unpaged.{Unpaged}
use Rattle.ledger_maps.specs.Entries.{count_in}
use Rattle.ledger_keys.specs.Name.{name_of}
use Rattle.ledger_maps.specs.Names.{names_in}
use Rattle.ledger_keys.specs.Side.{has_sums}
use Rattle.ledger_index.specs.Singles as singles

-- the sums of an account: those in the entry of its name, if it is of one, and those in an entry of its own
abbrev pub sums_from : Option Name → (Name → ℕ → ℕ) → (ℕ → ℕ) → ℕ → ℕ
sums_from (Some name) names single n = names name n + single n
sums_from None names single n = single n

-- the sums of all accounts, by the number of the field
unfoldable pub sums_of : Unpaged → Sums
sums_of unpaged account n = sums_from (name_of account) (names_in unpaged.names.parts.items) (singles.sums_of unpaged.singles account) n

-- whether an entry stands for an account
abbrev pub entry_from : Option Name → (Name → ℕ → ℕ) → Bool → Bool
entry_from (Some name) names single = has_sums (names name) || single
entry_from None names single = single

unfoldable pub has_entry : Unpaged → Account → Bool
has_entry unpaged account =
    entry_from (name_of account) (names_in unpaged.names.parts.items) (singles.has_entry unpaged.singles account)

-- how many entries stand
unfoldable pub entries_of : Unpaged → ℕ
entries_of unpaged = count_in unpaged.names.parts.items + singles.entries_of unpaged.singles
