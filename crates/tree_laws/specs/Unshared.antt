-- What the walk that keeps the shared blocks of a tree gives: the blocks and the items of the pairs that are not shared.
use Rattle.std.specs.Prelude.{◌≡◌, ◌==◌, ◌&&◌, Bool, true, false, not, is_some, List, length, Option, Some, None, Ok, ℕ, ◌≤◌, ◌+◌, ◌*◌, if◌then◌else◌}
use Rattle.std.specs.List.{filter, filter_map, fold, list_any}
use Rattle.super_reader.specs.declared.Super.{Super}
use Rattle.live_index.specs.Pairs.{Pairs}
use Rattle.live_index.specs.declared.live.Live.{Live}
use Rattle.node_reader.specs.Stored.{Stored}
use Rattle.node_reader.specs.declared.expect.Expect.{Expect}
use Rattle.records.specs.Part.{Located}
use Rattle.records.specs.Seen.{Seen}
use Rattle.records.specs.Seen.Seen.{BlockSeen, ItemSeen}
use Rattle.records.specs.Walk.{walk_of}
use Rattle.block_source.specs.Counts.{with_read}
use Rattle.block_source.specs.declared.read.BlockSource.{BlockSource}
use Rattle.tree_laws.specs.Keeping.{Comes, Stands, live_at}
use Rattle.tree_laws.specs.LivePairs.{live_in}
use Rattle.tree_laws.specs.Skips.{Kept, nothing, unkept}

-- an item of a leaf that is one of these pairs
abbrev pub item_of_pairs : List Live → Seen → Option Located
item_of_pairs lives (ItemSeen one) = if list_any (λ live. live.tree == one.tree && live.address == one.block) lives then Some one else None
item_of_pairs lives other = None

-- the items among records that stand in the leaves of these pairs
abbrev pub items_in : List Live → List Seen → List Located
items_in lives seen = filter_map (item_of_pairs lives) seen

-- the live pair of a block among records, as a table has it
abbrev pub pair_seen : Pairs → Seen → Option Live
pair_seen pairs (BlockSeen block) = pairs block.tree block.address
pair_seen pairs other = None

-- an item among records
abbrev pub item_seen : Seen → Option Located
item_seen (ItemSeen one) = Some one
item_seen other = None

-- whether a record is that of a block
abbrev pub is_block_seen : Seen → Bool
is_block_seen (BlockSeen block) = true
is_block_seen other = false

-- Records are those of some pairs, and of nothing else: their blocks are these pairs, in their order, each once, and their items are
-- those of the whole walk that stand in the leaves of these pairs.
pub record AreOfPairs (pairs : Pairs) (lives : List Live) (whole records : List Seen) : Type 0 where
  pub blocks : filter_map (pair_seen pairs) records ≡ lives
  pub count : length (filter is_block_seen records) ≡ length lives
  pub items : filter_map item_seen records ≡ items_in lives whole

-- Where a table stands for a tree, and just those blocks are kept of which the pairs are shared, the whole walk without the records of
-- kept blocks has the records of the pairs that are not shared.
abbrev pub UnsharedLaw : Type 0
UnsharedLaw = (pairs : Pairs) (shared : Live → Bool) (kept : Kept) (sup : Super) (stored : Stored) (root : Expect) (whole records : List Seen)
    → Stands pairs sup stored root → Comes (λ v. is_some (kept v) ≡ shared (live_at sup stored v)) sup stored root
    → walk_of sup stored root ≡ Ok whole → unkept kept nothing sup stored root ≡ Ok records
    → AreOfPairs pairs (filter (λ live. not (shared live)) (live_in whole)) whole records

-- to read each copy of each block among records takes at most two reads for each
abbrev pub ReadsTwiceLaw : Type 0
ReadsTwiceLaw = (source : BlockSource) (reads : ℕ) (records : List Seen)
    → fold (with_read source) reads records ≤ reads + 2 * length (filter is_block_seen records)
