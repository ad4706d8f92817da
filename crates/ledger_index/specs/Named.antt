-- Which accounts of names are still to be judged. It serves to state what private functions keep.
use Rattle.std.specs.Prelude.{ℕ, ◌≡◌, Bool, true, false, ◌&&◌, ◌||◌, List, Option, Some, None, is_some}
use Rattle.std.specs.Map.{lookup}
use Rattle.accounts.specs.declared.account.Account.{Account}
use Rattle.ledger_keys.specs.declared.kept.Kept.{Kept}
use Rattle.ledger_keys.specs.declared.long_place.LongPlace.{LongPlace}
use Rattle.ledger_keys.specs.declared.name.Name.{Name}
use Rattle.ledger_keys.specs.declared.name.Side.{Side}
use Rattle.ledger_keys.specs.declared.name.Side.TheVariants.{Entry, Link}
use Rattle.ledger_index.specs.declared.unpaged.Unpaged.{Unpaged}
use Rattle.ledger_maps.specs.Entries.{Entries, by_parts}
use Rattle.ledger_keys.specs.Kept.{kept_sum}
use Rattle.ledger_keys.specs.LongPlace.{is_same_long, part_of}
use Rattle.ledger_keys.specs.Name.{name_of}
use Rattle.ledger_maps.specs.Names.{names_in}
use Rattle.ledger_keys.specs.Side.{has_sums, side_of}

-- whether an account of a name has sums, in one of these entries
abbrev pub is_within : (Name → ℕ → ℕ) → List (LongPlace × Kept) → Option Name → Bool
is_within names entries None = false
is_within names entries (Some name) = is_some (lookup (is_same_long name.place) entries) && has_sums (names name)

unfoldable pub left_names : (Name → ℕ → ℕ) → List (LongPlace × Kept) → Account → Bool
left_names names entries account = is_within names entries (name_of account)

-- what is kept of each name, and the accounts with sums there that are in one of these entries
abbrev pub kept_in : Unpaged → Entries LongPlace
kept_in unpaged = by_parts is_same_long part_of unpaged.names.parts.items

abbrev pub left_in : Unpaged → List (LongPlace × Kept) → Account → Bool
left_in unpaged entries = left_names (names_in unpaged.names.parts.items) entries

-- or has sums in this one, as a link
abbrev pub is_link : Side → Bool
is_link (Entry hash) = false
is_link (Link index) = true

abbrev pub is_link_at : LongPlace → Kept → Option Name → Bool
is_link_at place kept None = false
is_link_at place kept (Some name) =
    is_same_long name.place place && (is_link name.side && has_sums (side_of (kept_sum kept) name.side))

unfoldable pub left_links : (Name → ℕ → ℕ) → List (LongPlace × Kept) → LongPlace → Kept → Account → Bool
left_links names entries place kept account = is_within names entries (name_of account) || is_link_at place kept (name_of account)

-- an account is of this side of a name, and has sums there
pub record IsHere (place : LongPlace) (kept : Kept) (side : Option Side) (account : Account) : Type 0 where
  pub which : Side
  pub side_is : side ≡ Some which
  pub name_is : name_of account ≡ Some (record { place = place; side = which })
  pub has : has_sums (side_of (kept_sum kept) which) ≡ true
