-- Records that are kept of walks.
use Rattle.std.specs.Prelude.{List, [], ◌∷◌, ◌++◌}
use Rattle.records.specs.Part.{owned_part}
use Rattle.records.specs.Part.{Located}
use Rattle.records.specs.Seen.{Seen}
use Rattle.records.specs.Seen.Seen.{BlockSeen, PointerSeen, ItemSeen}
use Rattle.records.specs.declared.rec.ItemAt.{ItemAt}
use Rattle.plain_check.specs.declared.kept.KeptRecord.{KeptRecord}
use Rattle.plain_check.specs.declared.kept.KeptRecord.TheVariants.{Block, Pointer, Item}

-- what an owned item says, and where
abbrev pub located_item : ItemAt → Located
located_item item = record { tree = item.tree; block = item.block; key = item.key; part = owned_part item.part }

-- what a kept record says
abbrev pub kept_seen : KeptRecord → Seen
kept_seen (Block block) = BlockSeen block
kept_seen (Pointer pointer) = PointerSeen pointer
kept_seen (Item item) = ItemSeen (located_item item)

-- records, with one more
abbrev pub with_kept : List Seen → Seen → List Seen
with_kept records one = records ++ one ∷ []
