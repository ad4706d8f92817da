-- The sums that are kept of names.
use Rattle.std.specs.Prelude.{◌≡◌, ℕ, List, Some}
use Rattle.indexmap.specs.IndexMap.{IndexMap}
use Rattle.ledger_keys.specs.declared.kept.Kept.{Kept}
use Rattle.ledger_keys.specs.declared.long_place.LongPlace.{LongPlace}
use Rattle.ledger_keys.specs.declared.name.Name.{Name}
use Rattle.ledger_maps.specs.Entries.{Entries, by_key, by_parts}
use Rattle.ledger_keys.specs.Kept.{kept_sum, sums_at}
use Rattle.ledger_keys.specs.LongPlace.{is_same_long, part_of}
use Rattle.ledger_keys.specs.Side.{IsCounted, side_of}

-- the sums of the account of a side of a name, by what is kept of the name
abbrev pub names_by : Entries LongPlace → Name → ℕ → ℕ
names_by entries name = side_of (sums_at (entries name.place)) name.side

-- the same by what stands in one part of a table, and in all of them
abbrev pub names_of : {S : Type 0} → IndexMap LongPlace Kept S → Name → ℕ → ℕ
names_of part = names_by (by_key is_same_long part)

abbrev pub names_in : {S : Type 0} → List (IndexMap LongPlace Kept S) → Name → ℕ → ℕ
names_in parts = names_by (by_parts is_same_long part_of parts)

-- each entry has a sum of one of its accounts
abbrev pub AreCounted : Entries LongPlace → Type 0
AreCounted entries = (place : LongPlace) (kept : Kept) → entries place ≡ Some kept → IsCounted (kept_sum kept)

abbrev pub CountedOf : {S : Type 0} → IndexMap LongPlace Kept S → Type 0
CountedOf part = AreCounted (by_key is_same_long part)

abbrev pub CountedIn : {S : Type 0} → List (IndexMap LongPlace Kept S) → Type 0
CountedIn parts = AreCounted (by_parts is_same_long part_of parts)
