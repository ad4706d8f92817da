-- What is known of the blocks of a tree as it was.
use Rattle.std.specs.Prelude.{◌≡◌, Bool, is_none, List, map, Option, Some, None, if◌then◌else◌}
use Rattle.std.specs.List.{All, list_any}
use Rattle.verdict.specs.declared.key.Key.{Key}
use Rattle.live_index.specs.Pairs.{Pairs}
use Rattle.live_index.specs.declared.live.Live.{Live}
use Rattle.node_reader.specs.declared.expect.Expect.{Expect}
use Rattle.tree_laws.specs.declared.told.Met.{Met}
use Rattle.tree_laws.specs.declared.told.Start.{Start}
use Rattle.tree_laws.specs.Ending.{Lasts}
use Rattle.tree_laws.specs.Keeping.{Under}

-- whether the last child of a block is among those that are walked: no pointer follows it
abbrev pub is_last_walked : List Start → Bool
is_last_walked starts = list_any (λ start. is_none start.next) starts

-- the greatest key of a pair, where there is one
abbrev pub last_known : Option Live → Option Key
last_known None = None
last_known (Some live) = Some live.last

-- the greatest key that a table has of a block, none where its last child is walked
unfoldable pub last_of : Pairs → Under → Lasts
last_of pairs under e = if is_last_walked (under e.tree e.address) then None else last_known (pairs e.tree e.address)

-- the blocks that were met, as they were expected
abbrev pub blocks_met : List Met → List Expect
blocks_met met = map (λ (one : Met). one.expect) met

-- each of these has its pair
abbrev pub AreMetBy : Pairs → List Met → Type 0
AreMetBy pairs met = All (λ (one : Met). one.live ≡ pairs one.expect.tree one.expect.address) met
