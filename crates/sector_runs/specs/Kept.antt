-- Where runs begin and end. It serves to state what private functions keep of runs.
use Rattle.std.specs.Prelude.{◌≡◌, ℕ, zero, suc, ◌+◌, ◌≤◌, ◌==◌, true, false, Option, Some, None, IsSome, if◌then◌else◌}
use Rattle.verdict.specs.Items.{is_multiple}
use Rattle.accounts.specs.declared.kinds.TheConstants.{SECTOR_EXTENTS, SECTOR_DATA, SECTOR_SUMS, SECTOR_SHOWN}
use Rattle.sector_runs.specs.declared.edge.Edge.{Edge}
use Rattle.sector_runs.specs.declared.edge.Edges.{Edges}

-- nothing begins and nothing ends
abbrev pub no_edge : Edge
no_edge = record { begins = 0; ends = 0 }

-- what begins and ends in one sum
abbrev pub edge_of : Edges → ℕ → Edge
edge_of edges field =
    if field == SECTOR_EXTENTS then edges.owned else
    (if field == SECTOR_DATA then edges.of_data else
    (if field == SECTOR_SUMS then edges.summed else
    (if field == SECTOR_SHOWN then edges.shown else no_edge)))

-- how many runs begin, and how many end
abbrev pub begins : ℕ → Edges → ℕ
begins field edges = (edge_of edges field).begins

abbrev pub ends : ℕ → Edges → ℕ
ends field edges = (edge_of edges field).ends

-- one of these numbers at an address, none where there is no entry
abbrev pub number_at : (Edges → ℕ) → Option Edges → ℕ
number_at number None = 0
number_at number (Some edges) = number edges

-- the entries, by address
abbrev pub Entries : Type 0
Entries = ℕ → Option Edges

-- all of it at addresses below n
unfoldable pub below : (Edges → ℕ) → Entries → ℕ → ℕ
below number entry zero = 0
below number entry (suc n) = below number entry n + number_at number (entry n)

-- runs begin and end at sectors, and none ends before it begins
pub record AreSound (entry : Entries) : Type 0 where
  pub at_sectors : (address : ℕ) → IsSome (entry address) → is_multiple address ≡ true
  pub begun : (field n : ℕ) → below (ends field) entry n ≤ below (begins field) entry n

-- At an address more begins and ends, where equal beginnings and ends may cancel; other entries stay.
pub record IsMarked (old new : Entries) (at : ℕ) (more : Edges) : Type 0 where
  pub here : (field : ℕ)
      → number_at (begins field) (new at) + (number_at (ends field) (old at) + ends field more)
      ≡ number_at (ends field) (new at) + (number_at (begins field) (old at) + begins field more)
  pub others : (address : ℕ) → (address == at) ≡ false → new address ≡ old address
