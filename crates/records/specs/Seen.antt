-- What a walk gives of each block, as a plain value.
use Rattle.std.specs.Prelude.{Option, Some, None}
use Rattle.verdict.specs.Rules.{no_key}
use Rattle.records.specs.Part.{Located, located, IsLawful}
use Rattle.records.specs.Part.Part.{BlockPart}
use Rattle.records.specs.declared.rec.WalkedBlock.{WalkedBlock}
use Rattle.records.specs.declared.rec.PointerAt.{PointerAt}
use Rattle.records.specs.declared.rec.Record.{Record}
use Rattle.records.specs.declared.rec.Record.TheVariants.{Block, Pointer, Item}

-- a block, a pointer of a node, or an item of a leaf; the superblock's record is one of the last sort
pub data Seen : Type 0 where
  BlockSeen : WalkedBlock → Seen
  PointerSeen : PointerAt → Seen
  ItemSeen : Located → Seen

-- what a lent one says
abbrev pub seen : Record → Seen
seen (Block block) = BlockSeen block
seen (Pointer pointer) = PointerSeen pointer
seen (Item one) = ItemSeen (located one)

-- what the readers see to of an item by itself
abbrev pub IsLawfulSeen : Seen → Type 0
IsLawfulSeen (ItemSeen one) = IsLawful one.part
IsLawfulSeen other = Unit {0}

-- a block as accounts see it: its address and its level
abbrev pub block_record : WalkedBlock → Located
block_record block = record { tree = block.tree; block = block.address; key = no_key; part = BlockPart block.address block.level }

-- what accounts see: all but the pointers
abbrev pub accounted : Seen → Option Located
accounted (BlockSeen block) = Some (block_record block)
accounted (PointerSeen pointer) = None
accounted (ItemSeen one) = Some one
