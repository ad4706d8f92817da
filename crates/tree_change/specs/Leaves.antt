-- What private functions keep of the leaves of walks: greatest keys by address, and live pairs by these.
use Rattle.std.specs.Prelude.{ℕ, List, map, Option}
use Rattle.std.specs.List.{filter_map}
use Rattle.verdict.specs.declared.key.Key.{Key}
use Rattle.live_index.specs.Pairs.{Pairs}
use Rattle.live_index.specs.declared.live.Live.{Live}
use Rattle.node_reader.specs.declared.expect.Expect.{Expect}
use Rattle.records.specs.declared.rec.WalkedBlock.{WalkedBlock}
use Rattle.tree_change.specs.LastKeys.{key_at}
use Rattle.tree_change.specs.Walks.{live_with, shifted_pair}
use Rattle.tree_change.specs.declared.lasts.Lasts.{Lasts}

-- the greatest key of the block at an address
unfoldable pub last_in : Lasts → ℕ → Key
last_in lasts address = key_at lasts.keys.items address

-- blocks that were read as live pairs, by their greatest keys
abbrev pub lives_by : (ℕ → Key) → List WalkedBlock → List Live
lives_by lasts blocks = map (λ (block : WalkedBlock). live_with block (lasts block.address)) blocks

-- the pair of a kept block of which the node above or the greatest key is another, and those of several
abbrev pub shifted_by_one : Pairs → (ℕ → Key) → Expect → Option Live
shifted_by_one pairs lasts e = shifted_pair (pairs e.tree e.address) e.parent (lasts e.address)

abbrev pub shifted_among : Pairs → (ℕ → Key) → List Expect → List Live
shifted_among pairs lasts met = filter_map (shifted_by_one pairs lasts) met
