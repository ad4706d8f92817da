-- The chunk map of an image, by what changes in its chunk tree.
use Rattle.std.proofs.Common.{◌≡◌, ℕ, ◌+◌, ◌<◌, ◌^◌, ◌||◌, ◌==◌, Bool, true, false, not, List, [], ◌∷◌, length, refl, ap, sym, subst, ◌∙◌, arith}
use Rattle.std.proofs.Common.{if◌then◌else◌}
use Rattle.std.proofs.lemmas.Bool.{ltb-false, or_parts}
use Rattle.std.proofs.lemmas.List.Elements.{All-from_recursion, recursion_from_All}
use Rattle.std.proofs.lemmas.List.Sorted.{All-permutation, IsPermutation-sym}
use Rattle.std.specs.Prelude.{Some, Result, Ok, Err}
use Rattle.std.specs.List.{AllByRecursion, filter_map}
use Rattle.std.specs.Ordering.{nat_cmp}
use Rattle.std.specs.FinMap.{FinMap}
use Rattle.walk_laws.proofs.Trees.{step_ok}
use Rattle.recon_bytes.specs.Field.{field}
use Rattle.verdict.specs.Items.{is_multiple, passes_64}
use Rattle.verdict.specs.Rules.{and_then, finding_or, first_failing}
use Rattle.verdict.specs.Trees.{sort_of}
use Rattle.verdict.specs.declared.finding.Finding.{Finding}
use Rattle.verdict.specs.declared.key.Key.{Key}
use Rattle.verdict.specs.declared.kinds.TheConstants.{BLOCK_GROUP_ITEM, CHUNK_ITEM, DEV_EXTENT, DEV_ITEM, DIR_INDEX, DIR_ITEM, EXTENT_CSUM}
use Rattle.verdict.specs.declared.kinds.TheConstants.{EXTENT_DATA, EXTENT_DATA_REF, EXTENT_ITEM, INODE_EXTREF, INODE_ITEM, INODE_REF, METADATA_ITEM}
use Rattle.verdict.specs.declared.kinds.TheConstants.{ORPHAN_ITEM, PERSISTENT_ITEM, ROOT_BACKREF, ROOT_ITEM, ROOT_REF, SHARED_BLOCK_REF}
use Rattle.verdict.specs.declared.kinds.TheConstants.{SHARED_DATA_REF, TREE_BLOCK_REF, XATTR_ITEM}
use Rattle.verdict.specs.declared.place.At.{At}
use Rattle.verdict.specs.declared.place.Chunk.{Chunk}
use Rattle.verdict.specs.declared.place.TreeSort.{TreeSort}
use Rattle.verdict.specs.declared.place.TreeSort.TheVariants.{Chunk as ChunkTree, Device, Extent, File, Groups, Root, Sums, Unread}
use Rattle.verdict.proofs.Tables.{finding_or-ok, kept_at}
use Rattle.super_reader.specs.declared.Super.{Super}
use Rattle.volume_items.specs.ChunkRow.{ChunkFields, chunk_fields, chunk_row, chunk_rows, field_rows, frame_rows}
use Rattle.volume_items.specs.DevExtentRow.{dev_extent_row}
use Rattle.volume_items.specs.DeviceRow.{device_row}
use Rattle.volume_items.specs.MapRules.{map_finding}
use Rattle.volume_items.specs.RootLinkRow.{root_link_row}
use Rattle.volume_items.specs.RootRow.{root_row}
use Rattle.live_index.specs.Pairs.{Pairs}
use Rattle.node_reader.specs.Stored.{stored_in}
use Rattle.node_reader.specs.declared.expect.Expect.{Expect}
use Rattle.records.specs.Contents.{chunk_map_in, chunk_records, chunk_tree_root}
use Rattle.records.specs.Item.{as_part, chunk_tree_record, device_tree_record, extent_tree_record, file_tree_record, groups_tree_record, inode_record}
use Rattle.records.specs.Item.{item_record, record_in, root_tree_record, sums_tree_record, unlisted}
use Rattle.records.specs.Part.{Located, Part}
use Rattle.records.specs.Part.Part.{ChunkPart, DevExtentPart, DevicePart, EntriesPart, ExtentPart, FileExtentPart, GroupPart, InodePart, KeyedPart}
use Rattle.records.specs.Part.Part.{LinkPart, NamesPart, OrphanPart, RootPart, SumsPart, UnreadPart, XattrPart}
use Rattle.records.specs.Seen.{Seen}
use Rattle.records.specs.Walk.{Records, walk_in}
use Rattle.tree_laws.specs.LivePairs.{Walked, walked}
use Rattle.tree_laws.specs.MergedLaw.{IsInOrder, begins_before, chunk_in, chunks_seen, items}
use Rattle.tree_laws.specs.TableLaw.{Tree}
use Rattle.tree_laws.proofs.MergedLists.{map_seen, walk_fits}
use Rattle.tree_laws.proofs.Treed.{chunk_tree, steps_of}
use Rattle.tree_change.specs.Merging.{IsSortedOf, chunks_left}
use Rattle.tree_change.specs.OneTree.{IsTree, OneTreeLaw, side_of}
use Rattle.tree_change.specs.Walks.{Known, Parts, Side, tree_parts}
use Rattle.tree_change.proofs.Olds.{same_ok}
use Rattle.tree_change.proofs.Unique.{only_list}

-- a chunk ends at an address of 64 bits, and so does that of an item
abbrev pub Ends : Chunk → Type 0
Ends chunk = chunk.start + chunk.length < 2 ^ 64

abbrev EndsIn : Part → Type 0
EndsIn (ChunkPart fields) = fields.key.offset + fields.length < 2 ^ 64
EndsIn other = Unit {0}

-- what a row or another gives, as each of the two
module _ (part : Part) where
  abbrev Gives : Result Part Finding → Type 0
  Gives row = row ≡ Ok part → EndsIn part

  either : (b : Bool) (x y : Result Part Finding) → Gives x → Gives y → Gives (if b then x else y)
  either true x y first later = first
  either false x y first later = later

  made : {A : Type 0} (make : A → Part) → ((fields : A) → EndsIn (make fields)) → (row : Result A Finding) → Gives (as_part make row)
  made make ends (Err finding) is = absurd (cc)
  made make ends (Ok fields) is = let same : make fields ≡ part = cc in subst EndsIn same (ends fields)

  unread : (bytes : List ℕ) → Gives (Ok (UnreadPart bytes))
  unread bytes is = let same : UnreadPart bytes ≡ part = cc in subst EndsIn same tt

  none : (at : At) (key : Key) → Gives (unlisted at key)
  none at key is = absurd (cc)

-- the rule on the end of a chunk item keeps
row_ends : (at : At) (key : Key) (bytes : List ℕ) (fields : ChunkFields) → chunk_row at key bytes ≡ Ok fields
    → fields.key.offset + fields.length < 2 ^ 64
unfolding chunk_row frame_rows field_rows
row_ends at key bytes fields is =
    let both = finding_or-ok (first_failing (chunk_rows at key bytes)) (chunk_fields key bytes) fields is in
    let whole = kept_at 5 (chunk_rows at key bytes) both.0 in
    let fits : passes_64 key.offset (field 8 bytes 0) ≡ false =
    (or_parts (field 8 bytes 0 == 0 || not (is_multiple (field 8 bytes 0))) (passes_64 key.offset (field 8 bytes 0)) whole).1 in
    rw (both.1) (omega (arith, ltb-false _ _ fits))

-- each item of a chunk tree that has a chunk
chunk_tree_ends : (at : At) (key : Key) (bytes : List ℕ) (part : Part) → Gives part (chunk_tree_record at key bytes)
unfolding chunk_tree_record
chunk_tree_ends at key bytes part =
    either part (key.kind == DEV_ITEM) (as_part DevicePart (device_row at key bytes)) rest
    (made part DevicePart (λ fields. tt) (device_row at key bytes))
    (either part (key.kind == CHUNK_ITEM) (as_part ChunkPart (chunk_row at key bytes)) (unlisted at key)
    (chunk (chunk_row at key bytes) refl) (none part at key))
  where
    rest : Result Part Finding
    rest = if key.kind == CHUNK_ITEM then as_part ChunkPart (chunk_row at key bytes) else unlisted at key

    chunk : (row : Result ChunkFields Finding) → chunk_row at key bytes ≡ row → Gives part (as_part ChunkPart row)
    chunk (Err finding) has is = absurd (cc)
    chunk (Ok fields) has is = let same : ChunkPart fields ≡ part = cc in subst EndsIn same (row_ends at key bytes fields has)

-- the items of other trees have none
module _ (at : At) (key : Key) (bytes : List ℕ) (part : Part) where
  root_tree_ends : Gives part (root_tree_record at key bytes)
  unfolding root_tree_record
  root_tree_ends =
      either part (key.kind == ROOT_ITEM) (as_part RootPart (root_row at key bytes)) _ (made part RootPart (λ fields. tt) (root_row at key bytes))
      (either part (key.kind == ROOT_REF || key.kind == ROOT_BACKREF) (as_part LinkPart (root_link_row at key bytes)) _
      (made part LinkPart (λ fields. tt) (root_link_row at key bytes))
      (either part (key.kind == INODE_ITEM || key.kind == INODE_REF || key.kind == DIR_ITEM) (Ok (UnreadPart bytes)) (unlisted at key)
      (unread part bytes) (none part at key)))

  extent_tree_ends : Gives part (extent_tree_record at key bytes)
  unfolding extent_tree_record
  extent_tree_ends =
      either part (key.kind == EXTENT_ITEM || key.kind == METADATA_ITEM) (as_part ExtentPart _) _
      (made part ExtentPart (λ fields. tt) _)
      (either part (key.kind == TREE_BLOCK_REF || key.kind == EXTENT_DATA_REF || key.kind == SHARED_BLOCK_REF || key.kind == SHARED_DATA_REF)
      (as_part KeyedPart _) _ (made part KeyedPart (λ fields. tt) _)
      (either part (key.kind == BLOCK_GROUP_ITEM) (as_part GroupPart _) (unlisted at key)
      (made part GroupPart (λ fields. tt) _) (none part at key)))

  device_tree_ends : Gives part (device_tree_record at key bytes)
  unfolding device_tree_record
  device_tree_ends =
      either part (key.kind == DEV_EXTENT) (as_part DevExtentPart (dev_extent_row at key bytes)) _
      (made part DevExtentPart (λ fields. tt) (dev_extent_row at key bytes))
      (either part (key.kind == PERSISTENT_ITEM) (Ok (UnreadPart bytes)) (unlisted at key) (unread part bytes) (none part at key))

  inode_ends : Gives part (inode_record at key bytes)
  unfolding inode_record
  inode_ends =
      either part (key.kind == INODE_ITEM) (as_part InodePart _) _
      (made part InodePart (λ fields. tt) _)
      (either part (key.kind == INODE_REF || key.kind == INODE_EXTREF) (as_part NamesPart _) _
      (made part NamesPart (λ fields. tt) _)
      (either part (key.kind == XATTR_ITEM) (as_part XattrPart _) _
      (made part XattrPart (λ fields. tt) _)
      (either part (key.kind == ORPHAN_ITEM) (as_part OrphanPart _) (unlisted at key)
      (made part OrphanPart (λ fields. tt) _) (none part at key))))

  file_tree_ends : Gives part (file_tree_record at key bytes)
  unfolding file_tree_record
  file_tree_ends =
      either part (key.kind == DIR_ITEM || key.kind == DIR_INDEX) (as_part EntriesPart _) _
      (made part EntriesPart (λ fields. tt) _)
      (either part (key.kind == EXTENT_DATA) (as_part FileExtentPart _) (inode_record at key bytes)
      (made part FileExtentPart (λ fields. tt) _) inode_ends)

  sums_tree_ends : Gives part (sums_tree_record at key bytes)
  unfolding sums_tree_record
  sums_tree_ends =
      either part (key.kind == EXTENT_CSUM) (as_part SumsPart _) (unlisted at key)
      (made part SumsPart (λ fields. tt) _) (none part at key)

  groups_tree_ends : Gives part (groups_tree_record at key bytes)
  unfolding groups_tree_record
  groups_tree_ends =
      either part (key.kind == BLOCK_GROUP_ITEM) (as_part GroupPart _) (unlisted at key)
      (made part GroupPart (λ fields. tt) _) (none part at key)

  sort_ends : (sort : TreeSort) → Gives part (record_in sort at key bytes)
  sort_ends Root = root_tree_ends
  sort_ends Extent = extent_tree_ends
  sort_ends ChunkTree = chunk_tree_ends at key bytes part
  sort_ends Device = device_tree_ends
  sort_ends File = file_tree_ends
  sort_ends Sums = sums_tree_ends
  sort_ends Groups = groups_tree_ends
  sort_ends Unread = unread part bytes

  item_ends : Gives part (item_record at key bytes)
  unfolding item_record
  item_ends = sort_ends at.sort

-- chunks end so where their items do
all_end : (ones : List Located) → AllByRecursion (λ (one : Located). EndsIn one.part) ones
    → AllByRecursion Ends (filter_map (λ (one : Located). chunk_in one.part) ones)
all_end [] all = tt
all_end (one ∷ ones) all = by one.part all.0 (all_end ones all.1)
  where
    by : (part : Part) → EndsIn part → AllByRecursion Ends (filter_map (λ (one : Located). chunk_in one.part) ones)
        → AllByRecursion Ends (filter_map (λ (one : Located). chunk_in one.part) (record one { part = part } ∷ ones))
    by (ChunkPart fields) ends rest = (ends, rest)
    by other ends rest = rest

-- the chunks among the records of a walk end at addresses of 64 bits
pub fits_all : (sup : Super) (chunks : List Chunk) (e : Expect) (image : List ℕ) (records : List Seen) → walk_in sup chunks e image ≡ Ok records
    → AllByRecursion Ends (chunks_seen records)
unfolding walk_in
fits_all sup chunks e image records is =
    all_end (items records)
    (walk_fits (sort_of e.tree) (λ key part. EndsIn part) (λ at key bytes part sort has. item_ends at key bytes part has) sup
    (stored_in image chunks sup.nodesize) e records refl is)

-- the chunk map, where the walk of the chunk tree has these records, or a finding
map_of : (sup : Super) (array : List Chunk) (image : List ℕ) (records : List Seen) → chunk_records sup array image ≡ Ok records
    → chunk_map_in sup array image
    ≡ and_then (finding_or (map_finding (chunks_seen records) array (length image)) (tt {0})) (λ _. Ok (chunks_seen records))
map_of sup array image records is =
    map_seen sup array image ∙ ap (λ (walk : Records). and_then walk (λ all.
    and_then (finding_or (map_finding (chunks_seen all) array (length image)) (tt {0})) (λ _. Ok (chunks_seen all)))) is

map_failed : (sup : Super) (array : List Chunk) (image : List ℕ) (finding : Finding) → chunk_records sup array image ≡ Err finding
    → chunk_map_in sup array image ≡ Err finding
map_failed sup array image finding is =
    map_seen sup array image ∙ ap (λ (walk : Records). and_then walk (λ all.
    and_then (finding_or (map_finding (chunks_seen all) array (length image)) (tt {0})) (λ _. Ok (chunks_seen all)))) is

-- the chunks of an image are those among the records of its chunk tree
chunks_are_seen : (image : List ℕ) (old : Walked) (olds : List Seen) → walked image ≡ Ok old
    → walk_in old.sup old.chunks (chunk_tree_root old.sup) image ≡ Ok olds → chunks_seen olds ≡ old.chunks
unfolding walk_in
chunks_are_seen image old olds walks is =
    let s = steps_of image old walks in
    let alike = chunk_tree image old s.array walks s.arrays in
    let given = map_of old.sup s.array image olds (sym alike.walk ∙ is) in
    let step =
    step_ok (finding_or (map_finding (chunks_seen olds) s.array (length image)) (tt {0})) (λ _. Ok (chunks_seen olds)) old.chunks
    (sym given ∙ s.chunks_are) in
    same_ok (chunks_seen olds) old.chunks step.2

-- each chunk of an image ends at an address of 64 bits
pub chunks_end : (image : List ℕ) (old : Walked) → walked image ≡ Ok old → AllByRecursion Ends old.chunks
unfolding walk_in
chunks_end image old walks =
    let s = steps_of image old walks in
    let walk =
    step_ok (chunk_records old.sup s.array image)
    (λ records. and_then (finding_or (map_finding (chunks_seen records) s.array (length image)) (tt {0})) (λ _. Ok (chunks_seen records)))
    old.chunks (sym (map_seen old.sup s.array image) ∙ s.chunks_are) in
    let rules =
    step_ok (finding_or (map_finding (chunks_seen walk.0) s.array (length image)) (tt {0})) (λ _. Ok (chunks_seen walk.0)) old.chunks walk.2 in
    subst (AllByRecursion Ends) (same_ok (chunks_seen walk.0) old.chunks rules.2)
    (fits_all old.sup s.array (chunk_tree_root old.sup) image walk.0 walk.1)

-- The chunk map is what is merged of the old chunks, of what is gone and of what came, where the rules on it keep.
pub chunks_made : OneTreeLaw → (image : List ℕ) (pending : FinMap nat_cmp ℕ) (old : Walked) (trees : List Tree) (pairs : Pairs) (is : Side)
    (known : Known) (parts : Parts) (map : List Chunk)
    → IsTree image pending old trees pairs is known (Some (chunk_tree_root old.sup)) (chunk_tree_root is.sup)
    → tree_parts pairs known (side_of image old) is (Some (chunk_tree_root old.sup)) (chunk_tree_root is.sup) ≡ Ok parts
    → (AllByRecursion Ends (chunks_left old.chunks parts.old_items parts.new_items)
    → IsSortedOf begins_before (chunks_left old.chunks parts.old_items parts.new_items) map)
    → chunk_map_in is.sup is.chunks is.image ≡ and_then (finding_or (map_finding map is.chunks (length is.image)) (tt {0})) (λ _. Ok map)
chunks_made law image pending old trees pairs is known parts map tree given sort =
    let gives = law image pending old trees pairs is known (Some (chunk_tree_root old.sup)) (chunk_tree_root is.sup) tree in
    let p = gives.parts parts given in
    let olds = p.0 in
    let news = p.1 in
    let whole = chunks_left old.chunks parts.old_items parts.new_items in
    let order : IsInOrder begins_before whole (chunks_seen news) =
    subst (λ chunks. IsInOrder begins_before (chunks_left chunks parts.old_items parts.new_items) (chunks_seen news))
    (chunks_are_seen image old olds tree.has.walks p.2) (p.4.chunks refl) in
    let ends : AllByRecursion Ends whole =
    recursion_from_All Ends whole
    (All-permutation Ends (chunks_seen news) whole (IsPermutation-sym whole (chunks_seen news) order.all)
    (All-from_recursion Ends (chunks_seen news) (fits_all is.sup is.chunks (chunk_tree_root is.sup) is.image news p.3))) in
    let same : map ≡ chunks_seen news = only_list begins_before whole map (chunks_seen news) (sort ends) order in
    map_of is.sup is.chunks is.image news p.3
    ∙ ap (λ chunks. and_then (finding_or (map_finding chunks is.chunks (length is.image)) (tt {0})) (λ _. Ok chunks)) (sym same)

-- the first finding on the parts of a chunk tree is that of the chunk map
pub chunks_found : OneTreeLaw → (image : List ℕ) (pending : FinMap nat_cmp ℕ) (old : Walked) (trees : List Tree) (pairs : Pairs) (is : Side)
    (known : Known) → IsTree image pending old trees pairs is known (Some (chunk_tree_root old.sup)) (chunk_tree_root is.sup)
    → (finding : Finding)
    → tree_parts pairs known (side_of image old) is (Some (chunk_tree_root old.sup)) (chunk_tree_root is.sup) ≡ Err finding
    → chunk_map_in is.sup is.chunks is.image ≡ Err finding
chunks_found law image pending old trees pairs is known tree finding failed =
    let gives = law image pending old trees pairs is known (Some (chunk_tree_root old.sup)) (chunk_tree_root is.sup) tree in
    map_failed is.sup is.chunks is.image finding (gives.found finding failed)
