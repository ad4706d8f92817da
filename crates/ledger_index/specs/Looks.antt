-- A counter of looks into a table.
use Rattle.std.specs.Prelude.{ℕ, zero, suc}
use Rattle.recon_disk.specs.Outside.{counted}

-- a counter of looks, so many looks later
unfoldable pub counted_times : ℕ → ℕ → ℕ
counted_times zero now = now
counted_times (suc n) now = counted (counted_times n now)
