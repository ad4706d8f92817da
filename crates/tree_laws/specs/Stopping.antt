-- Which blocks the walk of a tree as it was keeps, by the addresses of its stops.
use Rattle.std.specs.Prelude.{ℕ, ◌≡◌, ◌==◌, Bool, List, map, None, if◌then◌else◌}
use Rattle.std.specs.List.{list_any}
use Rattle.super_reader.specs.declared.Super.{Super}
use Rattle.live_index.specs.Pairs.{Pairs}
use Rattle.node_reader.specs.Stored.{Stored}
use Rattle.node_reader.specs.declared.expect.Expect.{Expect}
use Rattle.tree_laws.specs.declared.told.Met.{Met}
use Rattle.tree_laws.specs.Keeping.{Under, last_if_same}
use Rattle.tree_laws.specs.OldSide.{kept_at}
use Rattle.tree_laws.specs.Stops.{is_stop}
use Rattle.tree_laws.specs.Skips.{Anew, Kept, nothing, skip_of}

-- the blocks at addresses that pass a test, as a table knows them
unfoldable pub kept_among : Pairs → (ℕ → Bool) → Under → Kept
kept_among pairs test under e = if test e.address then last_if_same e (under e.tree e.address) (pairs e.tree e.address) else None

-- the addresses of blocks that were met
abbrev pub addresses_of : List Met → List ℕ
addresses_of met = map (λ (one : Met). one.expect.address) met

-- whether one of some addresses is this one
abbrev pub has_address : List ℕ → ℕ → Bool
has_address addresses address = list_any (λ one. one == address) addresses

-- where just the addresses of stops pass a test, a walk that keeps the blocks at these addresses keeps those at the stops
abbrev pub StopsLaw : Type 0
StopsLaw = (pairs : Pairs) (test : ℕ → Bool) (stops : List Expect) (under : Under) (anew : Anew) (sup : Super) (stored : Stored) (e : Expect)
    → ((address : ℕ) → test address ≡ is_stop stops address)
    → skip_of (kept_among pairs test under) nothing anew sup stored e ≡ skip_of (kept_at pairs stops under) nothing anew sup stored e
