-- Which accounts of names have an entry of their own beside that of the name. It serves to state what private functions keep.
use Rattle.std.specs.Prelude.{◌≡◌, ℕ, ◌<◌, true, List, Some}
use Rattle.indexmap.specs.IndexMap.{IndexMap}
use Rattle.accounts.specs.declared.account.Account.{Account}
use Rattle.ledger_keys.specs.declared.kept.Kept.{Kept}
use Rattle.ledger_keys.specs.declared.long_place.LongPlace.{LongPlace}
use Rattle.ledger_keys.specs.declared.name.Name.{Name}
use Rattle.ledger_index.specs.declared.singles.Singles.{Singles}
use Rattle.ledger_keys.specs.Name.{name_of}
use Rattle.ledger_maps.specs.Names.{names_in}
use Rattle.ledger_keys.specs.Side.{has_sums}
use Rattle.ledger_index.specs.Singles.{sums_of}

-- an account with sums in the entry of its name has neither of the two in an entry of its own
abbrev pub AreOnce : {S : Type 0} → List (IndexMap LongPlace Kept S) → Singles → Type 0
AreOnce parts singles =
    (account : Account) (name : Name) → name_of account ≡ Some name → has_sums (names_in parts name) ≡ true
    → (n : ℕ) → n < 2 → sums_of singles account n ≡ 0

-- no account of a name has sums in an entry of its own
abbrev pub AreNamed : Singles → Type 0
AreNamed singles = (account : Account) (name : Name) → name_of account ≡ Some name → (n : ℕ) → sums_of singles account n ≡ 0
