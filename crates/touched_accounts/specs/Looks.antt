-- How many entries the looks that it costs to add postings to a ledger can have made.
use Rattle.std.specs.Prelude.{ℕ, ◌+◌, ◌-◌, ◌^◌, ◌≤◌, min}

-- Since a counter stood at a number it counted a look for each of so many entries, or it stands at its greatest value.
abbrev pub HaveLooks : ℕ → ℕ → ℕ → Type 0
HaveLooks begun entries now = min (begun + entries) (2 ^ 64 - 1) ≤ now
