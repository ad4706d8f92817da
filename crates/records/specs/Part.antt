-- What a record says, as a plain value, and where it stands.
use Rattle.std.specs.Prelude.{◌≡◌, ◌⊎◌, ℕ, ◌+◌, ◌*◌, ◌/◌, ◌^◌, ◌<◌, true, List, length}
use Rattle.verdict.specs.Items.{is_multiple}
use Rattle.verdict.specs.declared.kinds.TheConstants.{EXTENT_DATA, EXTENT_ITEM, INODE_ITEM, METADATA_ITEM}
use Rattle.verdict.specs.declared.trees.TheConstants.{CHUNK_TREE, EXTENT_TREE, ROOT_TREE}
use Rattle.verdict.specs.declared.key.Key.{Key}
use Rattle.volume_items.specs.declared.root.RootItem.{RootItem}
use Rattle.volume_items.specs.RootLinkRow.{RootLinkFields}
use Rattle.volume_items.specs.RootLinkItems.{link_fields_in}
use Rattle.volume_items.specs.declared.device.DeviceItem.{DeviceItem}
use Rattle.volume_items.specs.ChunkRow.{ChunkFields, stripes_of}
use Rattle.volume_items.specs.ChunkItems.{fields_in}
use Rattle.volume_items.specs.declared.dev_extent.DevExtent.{DevExtent}
use Rattle.extent_items.specs.ExtentRow.{ExtentFields}
use Rattle.extent_items.specs.ExtentItems.{extent_fields_in}
use Rattle.extent_items.specs.declared.keyed.KeyedRef.{KeyedRef}
use Rattle.extent_items.specs.declared.group.GroupItem.{GroupItem}
use Rattle.fs_items.specs.declared.inode.InodeItem.{InodeItem}
use Rattle.fs_items.specs.InodeRefRow.{InodeRefFields, names_from}
use Rattle.fs_items.specs.Lent.{inode_ref_in, dir_in, sums_in}
use Rattle.fs_items.specs.declared.xattr.Xattr.{Xattr}
use Rattle.fs_items.specs.declared.orphan.Orphan.{Orphan}
use Rattle.fs_items.specs.DirRow.{DirFields, entries_from}
use Rattle.fs_items.specs.declared.file_extent.FileExtent.{FileExtent}
use Rattle.fs_items.specs.SumsRow.{SumFields}
use Rattle.records.specs.declared.rec.Rec.{Rec}
use Rattle.records.specs.declared.rec.Rec.TheVariants.{RootItem as ARootItem, RootLink as ARootLink, DeviceItem as ADeviceItem, ChunkItem as AChunkItem, DevExtent as ADevExtent, ExtentItem as AExtentItem, KeyedRef as AKeyedRef, GroupItem as AGroupItem, InodeItem as AInodeItem, InodeRef as AInodeRef, Xattr as AXattr, Orphan as AOrphan, DirItem as ADirItem, FileExtent as AFileExtent, SumRun as ASumRun, Unread as AUnread, Super as ASuper, Block as ABlock}
use Rattle.records.specs.declared.rec.RecAt.{RecAt}
use Rattle.extent_items.specs.References.{references_of}
use Rattle.records.specs.declared.rec.OwnedRec.{OwnedRec}
use Rattle.records.specs.declared.rec.OwnedRec.TheVariants.{RootItem as OwnRootItem, RootLink as OwnRootLink, DeviceItem as OwnDeviceItem, ChunkItem as OwnChunkItem, DevExtent as OwnDevExtent, ExtentItem as OwnExtentItem, KeyedRef as OwnKeyedRef, GroupItem as OwnGroupItem, InodeItem as OwnInodeItem, InodeRef as OwnInodeRef, Xattr as OwnXattr, Orphan as OwnOrphan, DirItem as OwnDirItem, FileExtent as OwnFileExtent, SumRun as OwnSumRun, Unread as OwnUnread, Super as OwnSuper, Block as OwnBlock}

-- what a record says: one sort for each reader of items; the bytes of an item that stays unread; the bytes_used of the superblock; the
-- address and the level of a block
pub data Part : Type 0 where
  RootPart : RootItem → Part
  LinkPart : RootLinkFields → Part
  DevicePart : DeviceItem → Part
  ChunkPart : ChunkFields → Part
  DevExtentPart : DevExtent → Part
  ExtentPart : ExtentFields → Part
  KeyedPart : KeyedRef → Part
  GroupPart : GroupItem → Part
  InodePart : InodeItem → Part
  NamesPart : InodeRefFields → Part
  XattrPart : Xattr → Part
  OrphanPart : Orphan → Part
  EntriesPart : DirFields → Part
  FileExtentPart : FileExtent → Part
  SumsPart : SumFields → Part
  UnreadPart : List ℕ → Part
  SuperPart : ℕ → Part
  BlockPart : ℕ → ℕ → Part

-- a record with the tree, the block and the key that it has
pub record Located : Type 0 where
  pub tree : ℕ
  pub block : ℕ
  pub key : Key
  pub part : Part

-- what a lent record says
abbrev pub part_of : Rec → Part
part_of (ARootItem item) = RootPart item
part_of (ARootLink item) = LinkPart (link_fields_in item)
part_of (ADeviceItem item) = DevicePart item
part_of (AChunkItem item) = ChunkPart (fields_in item)
part_of (ADevExtent item) = DevExtentPart item
part_of (AExtentItem item) = ExtentPart (extent_fields_in item)
part_of (AKeyedRef item) = KeyedPart item
part_of (AGroupItem item) = GroupPart item
part_of (AInodeItem item) = InodePart item
part_of (AInodeRef item) = NamesPart (inode_ref_in item)
part_of (AXattr item) = XattrPart item
part_of (AOrphan item) = OrphanPart item
part_of (ADirItem item) = EntriesPart (dir_in item)
part_of (AFileExtent item) = FileExtentPart item
part_of (ASumRun item) = SumsPart (sums_in item)
part_of (AUnread bytes) = UnreadPart bytes.now
part_of (ASuper bytes_used) = SuperPart bytes_used
part_of (ABlock address level) = BlockPart address level

-- what a record says that owns its bytes: the same as the lent one
abbrev pub owned_part : OwnedRec → Part
owned_part (OwnRootItem item) = RootPart item
owned_part (OwnRootLink key dirid sequence name) = LinkPart (record { key = key; dirid = dirid; sequence = sequence; name = name })
owned_part (OwnDeviceItem item) = DevicePart item
owned_part (OwnChunkItem key length class stripes) = ChunkPart (record { key = key; length = length; class = class; stripes = stripes_of stripes })
owned_part (OwnDevExtent item) = DevExtentPart item
owned_part (OwnExtentItem key refs generation flags references) = ExtentPart (record { key = key; refs = refs; generation = generation; flags = flags; references = references_of references })
owned_part (OwnKeyedRef item) = KeyedPart item
owned_part (OwnGroupItem item) = GroupPart item
owned_part (OwnInodeItem item) = InodePart item
owned_part (OwnInodeRef key bytes) = NamesPart (record { key = key; names = names_from key bytes 0 })
owned_part (OwnXattr item) = XattrPart item
owned_part (OwnOrphan item) = OrphanPart item
owned_part (OwnDirItem key bytes) = EntriesPart (record { key = key; entries = entries_from bytes 0 })
owned_part (OwnFileExtent item) = FileExtentPart item
owned_part (OwnSumRun key sums) = SumsPart (record { key = key; sums = sums })
owned_part (OwnUnread bytes) = UnreadPart bytes
owned_part (OwnSuper bytes_used) = SuperPart bytes_used
owned_part (OwnBlock address level) = BlockPart address level

-- a lent record where it stands
abbrev pub located : RecAt → Located
located one = record { tree = one.tree; block = one.block; key = one.key; part = part_of one.part }

-- bytes from an address on begin at a sector, and end at an address of 64 bits
abbrev pub AreSectors : ℕ → ℕ → Type 0
AreSectors at n = (is_multiple at ≡ true) × (at + n < 2 ^ 64)

-- what the readers see to of a record by itself. A chunk ends at an address of 64 bits. An extent begins at a sector; so does the part of one
-- that a range of a file shows, where it has an extent, and what checksums are of, four bytes a sector: these end at addresses of 64 bits too
abbrev pub IsLawful : Part → Type 0
IsLawful (ChunkPart fields) = fields.key.offset + fields.length < 2 ^ 64
IsLawful (ExtentPart item) = is_multiple item.key.objectid ≡ true
IsLawful (FileExtentPart range) = 0 < range.extent → AreSectors (range.extent + range.offset) range.length
IsLawful (SumsPart item) = AreSectors item.key.offset (4096 * (length item.sums / 4))
IsLawful other = Unit {0}

-- An item says its own key, and what it is goes with its tree and its kind: root items stand in the root tree, chunks in the chunk tree and
-- extents in the extent tree, and an inode has one item.
abbrev pub FitsPlace : ℕ → Key → Part → Type 0
FitsPlace tree key (RootPart item) = (tree ≡ ROOT_TREE) × (item.key ≡ key)
FitsPlace tree key (ChunkPart item) = (tree ≡ CHUNK_TREE) × (item.key ≡ key)
FitsPlace tree key (ExtentPart item) = (tree ≡ EXTENT_TREE) × (item.key ≡ key) × ((key.kind ≡ EXTENT_ITEM) ⊎ (key.kind ≡ METADATA_ITEM))
FitsPlace tree key (FileExtentPart item) = (item.key ≡ key) × (key.kind ≡ EXTENT_DATA)
FitsPlace tree key (InodePart item) = (item.key ≡ key) × (key.kind ≡ INODE_ITEM) × (key.offset ≡ 0)
FitsPlace tree key other = Unit {0}
