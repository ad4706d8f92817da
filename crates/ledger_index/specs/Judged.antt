-- The least broken account of those whose entries were looked at. It serves to state what private functions keep.
use Rattle.std.specs.Prelude.{◌≡◌, ℕ, Bool, true, false, not, ◌&&◌, List, [], Option, Some, None, is_some, if◌then◌else◌}
use Rattle.std.specs.Map.{lookup}
use Rattle.std.specs.BTreeMap.{is_at}
use Rattle.std.specs.Ordering.{is_lt}
use Rattle.std.specs.declared.cmp.Ordering.TheVariants.{Less}
use Rattle.accounts.specs.Broken.{is_broken}
use Rattle.accounts.specs.Order.{account_cmp}
use Rattle.accounts.specs.Tally.{Sums}
use Rattle.accounts.specs.declared.account.Account.{Account}
use Rattle.ledger_keys.specs.declared.kept.Kept.{Kept}
use Rattle.ledger_index.specs.declared.singles.Singles.{Singles}
use Rattle.ledger_keys.specs.declared.place.Place.{Place}
use Rattle.ledger_keys.specs.declared.long_place.LongPlace.{LongPlace}
use Rattle.ledger_keys.specs.LongPlace.{is_same_long, long_of}
use Rattle.ledger_keys.specs.Place.{is_same_place, place_of}
use Rattle.ledger_maps.specs.Entries.{entries_in}
use Rattle.ledger_index.specs.Singles.{entry_at}
use Rattle.accounts.specs.Kinds.{keeps_at, table}

-- whether sums break an account of a kind
unfoldable pub breaks : ℕ → (ℕ → ℕ) → Bool
breaks kind f = not (keeps_at kind table f)

-- whether an account stands before another, if there is another
abbrev pub stands_before : Account → Option Account → Bool
stands_before account None = true
stands_before account (Some other) = is_lt (account_cmp account other)

-- an account where it is broken and stands before another, or else the other
abbrev pub lesser_of : Bool → Account → Option Account → Option Account
lesser_of broken account other = if broken && stands_before account other then Some account else other

-- whether the entry of an account is one of these, that are still to be looked at in the three tables
unfoldable pub is_later : List (Place × Kept) → List (LongPlace × Kept) → List (Account × Kept) → Account → Bool
is_later short longer whole account =
    is_some (entry_at (place_of account) (long_of account) (λ p. lookup (is_same_place p) short) (λ p. lookup (is_same_long p) longer)
    (lookup (is_at (account_cmp account)) whole))

-- which accounts are still to be looked at: these of the short places, and all others
abbrev pub left_short : Singles → List (Place × Kept) → Account → Bool
left_short ledger rest = is_later rest (entries_in ledger.long.parts.items) ledger.whole.entries.entries

-- these of the long places, and those that have no place
abbrev pub left_long : Singles → List (LongPlace × Kept) → Account → Bool
left_long ledger rest = is_later [] rest ledger.whole.entries.entries

-- An account is broken by some sums, and no lesser one is but some that are judged later; or none is but some of these.
unfoldable pub IsLeastBut : Sums → (Account → Bool) → Option Account → Type 0
IsLeastBut sums later None = (account : Account) → later account ≡ false → is_broken account (sums account) ≡ false
IsLeastBut sums later (Some least) =
    (is_broken least (sums least) ≡ true)
    × ((account : Account) → later account ≡ false → account_cmp account least ≡ Less → is_broken account (sums account) ≡ false)
