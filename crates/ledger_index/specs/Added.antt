-- What an account of a name has in the entry of the name. It serves to state what private functions keep.
use Rattle.std.specs.Prelude.{◌≡◌, ℕ, ◌+◌, ◌<◌, Bool, true, false, not, ◌==◌, Option, Some, None}
use Rattle.accounts.specs.declared.account.Account.{Account}
use Rattle.accounts.specs.Broken.{is_broken}
use Rattle.ledger_keys.specs.declared.name.Name.{Name}
use Rattle.ledger_index.specs.declared.unpaged.Unpaged.{Unpaged}
use Rattle.ledger_keys.specs.Name.{name_of}
use Rattle.ledger_maps.specs.Names.{names_in}
use Rattle.ledger_keys.specs.Side.{has_sums}
use Rattle.ledger_index.specs.Singles as single
use Rattle.ledger_keys.specs.Sums.{changed, greatest, raise}
use Rattle.ledger_index.specs.Unpaged.{sums_of}

-- an account has no sums in the entry of its name, if it is of one and the field is of one of the two
abbrev pub HasNone : Unpaged → Account → ℕ → Type 0
HasNone unpaged account field =
    (name : Name) → name_of account ≡ Some name → field < 2 → has_sums (names_in unpaged.names.parts.items name) ≡ false

-- and may have an entry of its own
pub record IsFree (unpaged : Unpaged) (account : Account) (field : ℕ) : Type 0 where
  pub none : HasNone unpaged account field
  pub apart : (name : Name) → name_of account ≡ Some name → unpaged.apart ≡ true

-- an amount was added in the entry of a name, or all sums stayed, and the account may have an entry of its own
abbrev pub IsAdded : Unpaged → Unpaged → Account → ℕ → ℕ → Option Bool → Type 0
IsAdded old new account field amount None = (sums_of new ≡ sums_of old) × IsFree new account field
IsAdded old new account field amount (Some full) =
    (sums_of new ≡ changed raise (sums_of old) account field amount) × (full ≡ false → sums_of new account field < greatest)

-- the first two sums of an account that has sums in the entry of its name, and what they say of it
pub record IsInName (unpaged : Unpaged) (account : Account) (first second : ℕ) : Type 0 where
  pub first_is : sums_of unpaged account 0 ≡ first
  pub second_is : sums_of unpaged account 1 ≡ second
  pub others : (n : ℕ) → sums_of unpaged account (n + 2) ≡ single.sums_of unpaged.singles account (n + 2)
  pub rule : (f : ℕ → ℕ) → is_broken account f ≡ not (f 0 == f 1)
