-- What a record says of extents and of who refers to them: the accounts A1 to A4.
use Rattle.std.specs.Prelude.{ℕ, ◌+◌, ◌-◌, ◌%◌, ◌^◌, Bool, not, ◌&&◌, ◌==◌, List, [], ◌∷◌, flat_map, if◌then◌else◌}
use Rattle.extent_items.specs.declared.reference.Reference.{Reference}
use Rattle.extent_items.specs.ExtentRow.{ExtentFields}
use Rattle.fs_items.specs.declared.file_extent.FileExtent.{FileExtent}
use Rattle.fs_items.specs.declared.file_extent.TheConstants.{INLINE}
use Rattle.accounts.specs.declared.account.Account.{Account}
use Rattle.accounts.specs.declared.postings.Posting.{Posting}
use Rattle.accounts.specs.Kinds.{block_ref, shared_block_ref, data_ref, shared_data_ref, extent, extent_form}
use Rattle.accounts.specs.declared.kinds.TheConstants.{REFERENCES, USES, EXTENT_ITEMS, EXTENT_REFS_SAID, EXTENT_REFS_FOUND, FORM_ITEMS, FORM_USES}
use Rattle.records.specs.Part.{Part}
use Rattle.records.specs.Part.Part.{BlockPart, ExtentPart, KeyedPart, FileExtentPart}
use Rattle.verdict.specs.declared.kinds.TheConstants.{EXTENT_ITEM, METADATA_ITEM, TREE_BLOCK_REF, EXTENT_DATA_REF, SHARED_BLOCK_REF}
use Rattle.accounts.specs.Lent.{to}

-- who refers to an extent
abbrev pub reference_account : ℕ → Reference → Account
reference_account address reference =
    if reference.kind == TREE_BLOCK_REF then block_ref reference.root address else
    (if reference.kind == EXTENT_DATA_REF then data_ref reference.root address reference.objectid reference.offset else
    (if reference.kind == SHARED_BLOCK_REF then shared_block_ref reference.parent address else
    shared_data_ref reference.parent address))

-- a reference to an extent, in its item or with an item of its own
abbrev pub reference_postings : ℕ → Reference → List Posting
reference_postings address reference =
    to (extent address) EXTENT_REFS_FOUND reference.count
    ∷ to (reference_account address reference) REFERENCES reference.count
    ∷ []

-- an extent, and the references in its item
abbrev pub extent_item_postings : ExtentFields → List Posting
extent_item_postings item =
    to (extent item.key.objectid) EXTENT_ITEMS 1
    ∷ to (extent item.key.objectid) EXTENT_REFS_SAID item.refs
    ∷ to (extent_form item.key.objectid item.key.kind item.key.offset) FORM_ITEMS 1
    ∷ flat_map (reference_postings item.key.objectid) item.references

-- whether a range of a file has an extent on the disk: it is not inline, and no hole
abbrev pub has_extent : FileExtent → Bool
has_extent range = not (range.sort == INLINE) && not (range.extent == 0)

-- the byte of the file at which the extent would begin, modulo 2^64
abbrev pub origin_of : FileExtent → ℕ
origin_of range = (range.key.offset + (2 ^ 64 - range.offset)) % 2 ^ 64

-- a range of a file that has an extent on the disk
abbrev pub range_postings : ℕ → FileExtent → List Posting
range_postings tree range =
    if has_extent range then
    to (data_ref tree range.extent range.key.objectid (origin_of range)) USES 1
    ∷ to (extent_form range.extent EXTENT_ITEM range.extent_length) FORM_USES 1
    ∷ []
    else []

-- what a record of a tree posts to A1, A2, A3 and A4
unfoldable pub extent_postings : ℕ → Part → List Posting
extent_postings tree (BlockPart address level) =
    to (block_ref tree address) USES 1 ∷ to (extent_form address METADATA_ITEM level) FORM_USES 1 ∷ []
extent_postings tree (ExtentPart item) = extent_item_postings item
extent_postings tree (KeyedPart item) = reference_postings item.key.objectid item.reference
extent_postings tree (FileExtentPart range) = range_postings tree range
extent_postings tree other = []
