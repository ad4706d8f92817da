-- What is gathered of the records of walks: the blocks and the items.
use Rattle.std.specs.Prelude.{List, ◌++◌, [], ◌∷◌, map, Option, Some, None}
use Rattle.std.specs.List.{filter_map}
use Rattle.records.specs.Part.{owned_part}
use Rattle.records.specs.Part.{Located}
use Rattle.records.specs.Seen.{Seen}
use Rattle.records.specs.Seen.Seen.{BlockSeen, ItemSeen}
use Rattle.records.specs.declared.rec.ItemAt.{ItemAt}
use Rattle.records.specs.declared.rec.WalkedBlock.{WalkedBlock}
use Rattle.tree_change.specs.declared.gather.Gathered.{Gathered}

-- what an owned item says, and where
abbrev pub located_item : ItemAt → Located
located_item item = record { tree = item.tree; block = item.block; key = item.key; part = owned_part item.part }

-- the block of a record
abbrev pub block_seen : Seen → Option WalkedBlock
block_seen (BlockSeen block) = Some block
block_seen other = None

-- the blocks among records
abbrev pub blocks_seen : List Seen → List WalkedBlock
blocks_seen records = filter_map block_seen records

-- what is gathered: blocks, and items, in their order
pub record Gathers : Type 0 where
  pub blocks : List WalkedBlock
  pub items : List Located

-- the same, with one record more
abbrev pub with_seen : Gathers → Seen → Gathers
with_seen all (BlockSeen block) = record { blocks = all.blocks ++ block ∷ []; items = all.items }
with_seen all (ItemSeen one) = record { blocks = all.blocks; items = all.items ++ one ∷ [] }
with_seen all other = all

-- what a taker gathered
abbrev pub gathers : Gathered → Gathers
gathers all = record { blocks = all.blocks.items; items = map located_item all.items.items }
