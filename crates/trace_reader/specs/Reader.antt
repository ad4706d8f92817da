-- Where a reader of a trace stands.
use Rattle.std.specs.Prelude.{ℕ, ◌≡◌, ◌+◌, ◌≤◌, Bool, true, false, if◌then◌else◌}

-- The state of a reader: how many records may stand before the end tag, how many whole records it has
-- read, the number of the record that it last began (0 for the header), whether the header is still
-- to be read, and whether it may be asked for more.
pub record ReaderState : Type 0 where
  pub limit : ℕ
  pub whole : ℕ
  pub number : ℕ
  pub at_header : Bool
  pub live : Bool

-- the number of the record last begun, after so many whole records: one more while a record is begun
-- and not whole
abbrev pub number_of : ℕ → Bool → ℕ
number_of whole begun = whole + (if begun then 1 else 0)

-- what holds of a reader at all times: there are not too many whole records, and before the header no
-- record is begun
pub record IsLawful (limit whole : ℕ) (begun at_header : Bool) : Type 0 where
  pub few : whole ≤ limit
  pub first : at_header ≡ true → (whole ≡ 0) × (begun ≡ false)
