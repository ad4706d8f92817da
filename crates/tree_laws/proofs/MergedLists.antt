-- The chunks and the root items of an image are merged of the old ones and of those that came.
use Rattle.std.proofs.Common.{◌≡◌, ℕ, ◌==◌, Bool, true, false, not, ◌||◌, List, [], ◌∷◌, ◌++◌, refl, ap, sym, subst, ◌∙◌, arith, if◌then◌else◌}
use Rattle.std.proofs.lemmas.Bool.{eqb-true}
use Rattle.std.proofs.lemmas.Bool.Decides.{nat_tests}
use Rattle.std.proofs.lemmas.Grind.{common_steps}
use Rattle.std.proofs.lemmas.List.{append_assoc, append-nil}
use Rattle.std.proofs.lemmas.List.Elements.{filter_map-append}
use Rattle.std.specs.Prelude.{length, nat_lt, Option, Some, Result, Ok, Err}
use Rattle.std.specs.List.{AllByRecursion, fold}
use Rattle.walk_laws.proofs.Trees.{step_ok}
use Rattle.verdict.specs.OnDisk.{key_below, key_same}
use Rattle.verdict.specs.Rules.{and_then, finding_or, first_failing}
use Rattle.verdict.specs.Trees.{sort_of}
use Rattle.verdict.specs.declared.finding.Finding.{Finding}
use Rattle.verdict.specs.declared.key.Key.{Key}
use Rattle.verdict.specs.declared.kinds.TheConstants.{CHUNK_ITEM, DEV_ITEM, DIR_ITEM, INODE_ITEM, INODE_REF, ROOT_BACKREF, ROOT_ITEM, ROOT_REF}
use Rattle.verdict.specs.declared.place.At.{At}
use Rattle.verdict.specs.declared.place.Chunk.{Chunk}
use Rattle.verdict.specs.declared.place.TreeSort.{TreeSort}
use Rattle.verdict.specs.declared.place.TreeSort.TheVariants.{Chunk as ChunkTree, Root}
use Rattle.verdict.proofs.Tables.{finding_or-ok, kept_at}
use Rattle.super_reader.specs.Superblock.{item_place}
use Rattle.super_reader.specs.declared.Super.{Super}
use Rattle.volume_items.specs.ChunkRow.{chunk_fields, chunk_of, chunk_row, chunk_rows, frame_rows}
use Rattle.volume_items.specs.DeviceRow.{device_row}
use Rattle.volume_items.specs.MapRules.{map_finding}
use Rattle.volume_items.specs.RootPlace.{root_at}
use Rattle.volume_items.specs.RootLinkRow.{RootLinkFields, root_link_row}
use Rattle.volume_items.specs.RootRow.{root_fields, root_row, root_rows}
use Rattle.volume_items.specs.declared.device.DeviceItem.{DeviceItem}
use Rattle.node_reader.specs.Layout.{LeafItem, items_of, pointers_of}
use Rattle.node_reader.specs.Stored.{Stored}
use Rattle.node_reader.specs.declared.expect.Expect.{Expect}
use Rattle.node_reader.specs.declared.expect.Pointer.{Pointer}
use Rattle.records.specs.Contents.{chunk_map_in, chunk_records, root_items_in, root_records, roots_fault}
use Rattle.records.specs.Item.{chunk_tree_record, item_record, record_in, root_tree_record, unlisted}
use Rattle.records.specs.Part.{Located, Part}
use Rattle.records.specs.Part.Part.{ChunkPart, DevicePart, LinkPart, RootPart, UnreadPart}
use Rattle.records.specs.Seen.{Seen}
use Rattle.records.specs.Seen.Seen.{BlockSeen, ItemSeen, PointerSeen}
use Rattle.records.specs.Takes.{held_after, with_chunk, with_root}
use Rattle.records.specs.Walk.{Records, each, entry_records, just, leaf_record, leaf_records, pointer_records, walk_of}
use Rattle.records.specs.WalkLaw.{visited}
use Rattle.tree_laws.specs.MergedLaw.{ChunksMergedLaw, ListsSeenLaw, MapSeenLaw, RootsMergedLaw, RootsSeenLaw, begins_before, chunk_in, chunks_seen, items, root_before, root_in, roots_seen, stands_before}
use Rattle.tree_laws.specs.Unshared.{item_seen}
use Rattle.tree_laws.proofs.Forest.{of_root}
use Rattle.tree_laws.proofs.Merged.{merge_of, merged_by, read_of, walks_of}
use Rattle.tree_laws.proofs.Mixing.{TellsApart, by_key, order_made}
use Rattle.tree_laws.proofs.Rooted.{one_item}
use Rattle.tree_laws.proofs.Trails.{Matches, Visit, all_own}
use Rattle.volume_items.specs.declared.root_at.RootAt.{RootAt}

-- what is held after records are taken
chunks_after : (records : List Seen) (held : List Chunk) → fold with_chunk held records ≡ held ++ chunks_seen records
chunks_after [] held = sym (append-nil held)
chunks_after (BlockSeen one ∷ records) held = chunks_after records held
chunks_after (PointerSeen one ∷ records) held = chunks_after records held
chunks_after (ItemSeen one ∷ records) held = by one.part (chunks_after records)
  where
    by : (part : Part) → ((held : List Chunk) → fold with_chunk held records ≡ held ++ chunks_seen records)
        → fold with_chunk (with_chunk held (ItemSeen (record one { part = part }))) records
        ≡ held ++ chunks_seen (ItemSeen (record one { part = part }) ∷ records)
    by (ChunkPart fields) rest = rest (held ++ chunk_of fields ∷ []) ∙ append_assoc held (chunk_of fields ∷ []) (chunks_seen records)
    by other rest = rest held

roots_after : (records : List Seen) (held : List RootAt) → fold with_root held records ≡ held ++ roots_seen records
roots_after [] held = sym (append-nil held)
roots_after (BlockSeen one ∷ records) held = roots_after records held
roots_after (PointerSeen one ∷ records) held = roots_after records held
roots_after (ItemSeen one ∷ records) held = by one.part (roots_after records)
  where
    by : (part : Part) → ((held : List RootAt) → fold with_root held records ≡ held ++ roots_seen records)
        → fold with_root (with_root held (ItemSeen (record one { part = part }))) records
        ≡ held ++ roots_seen (ItemSeen (record one { part = part }) ∷ records)
    by (RootPart root) rest = rest (held ++ root_at root ∷ []) ∙ append_assoc held (root_at root ∷ []) (roots_seen records)
    by other rest = rest held

pub lists_seen : ListsSeenLaw
lists_seen records = (chunks_after records [], roots_after records [])

pub map_seen : MapSeenLaw
unfolding chunk_map_in
map_seen sup array image = by (chunk_records sup array image)
  where
    by : (walk : Records) → and_then (held_after with_chunk [] walk) (λ chunks.
        and_then (finding_or (map_finding chunks array (length image)) (tt {0})) (λ _. Ok chunks))
        ≡ and_then walk (λ records.
        and_then (finding_or (map_finding (chunks_seen records) array (length image)) (tt {0})) (λ _. Ok (chunks_seen records)))
    by (Err finding) = refl
    by (Ok records) =
        ap (λ chunks. and_then (finding_or (map_finding chunks array (length image)) (tt {0})) (λ _. Ok chunks)) (chunks_after records [])

pub roots_are_seen : RootsSeenLaw
unfolding root_items_in
roots_are_seen sup chunks image = by (root_records sup chunks image)
  where
    by : (walk : Records) → and_then (held_after with_root [] walk) (λ roots.
        and_then (finding_or (roots_fault sup.compat_ro roots) (tt {0})) (λ _. Ok roots))
        ≡ and_then walk (λ records.
        and_then (finding_or (roots_fault sup.compat_ro (roots_seen records)) (tt {0})) (λ _. Ok (roots_seen records)))
    by (Err finding) = refl
    by (Ok records) =
        ap (λ roots. and_then (finding_or (roots_fault sup.compat_ro roots) (tt {0})) (λ _. Ok roots)) (roots_after records [])

-- what holds of each item of a sort of tree
module _ (sort : TreeSort) (Fit : Key → Part → Type 0)
    (fits : (at : At) (key : Key) (bytes : List ℕ) (part : Part) → at.sort ≡ sort → item_record at key bytes ≡ Ok part → Fit key part) where
  abbrev pub Fits : Located → Type 0
  Fits one = Fit one.key one.part

  leaf_fits : (at : At) → at.sort ≡ sort → (leaf : List LeafItem) (entries : List Seen) → each (λ item. just (leaf_record at item)) leaf ≡ Ok entries
      → AllByRecursion Fits (items entries)
  leaf_fits at is [] entries has = let none : [] ≡ entries = cc in subst (λ es. AllByRecursion Fits (items es)) none tt
  leaf_fits at is (item ∷ leaf) entries has =
      let rest = one_item item at (item_record at item.key item.bytes) (each (λ item. just (leaf_record at item)) leaf) entries has in
      subst (λ es. AllByRecursion Fits (items es)) rest.4 (fits at item.key item.bytes rest.0 is rest.2, leaf_fits at is leaf rest.1 rest.3)

  node_fits : (e : Expect) (pointers : List Pointer) → AllByRecursion Fits (items (pointer_records e pointers))
  node_fits e [] = tt
  node_fits e (pointer ∷ pointers) = node_fits e pointers

  entries_fit : (sup : Super) (e : Expect) (bytes : List ℕ) (entries : List Seen) → sort_of e.tree ≡ sort → entry_records sup e bytes ≡ Ok entries
      → AllByRecursion Fits (items entries)
  unfolding leaf_records
  entries_fit sup e bytes entries of has = by (e.level == 0) has
    where
      at : At
      at = item_place sup e.tree e.address e.generation

      by : (leaf : Bool)
          → (if leaf then each (λ item. just (leaf_record at item)) (items_of bytes) else Ok (pointer_records e (pointers_of bytes))) ≡ Ok entries
          → AllByRecursion Fits (items entries)
      by true is = leaf_fits at of (items_of bytes) entries is
      by false is =
          let same : pointer_records e (pointers_of bytes) ≡ entries = cc in
          subst (λ es. AllByRecursion Fits (items es)) same (node_fits e (pointers_of bytes))

  all_append : (a b : List Located) → AllByRecursion Fits a → AllByRecursion Fits b → AllByRecursion Fits (a ++ b)
  all_append [] b x y = y
  all_append (one ∷ a) b x y = (x.0, all_append a b x.1 y)

  visits_fit : (sup : Super) (stored : Stored) (tree : ℕ) → sort_of tree ≡ sort → (visits : List Visit) (es : List Expect)
      → Matches sup stored visits es → AllByRecursion (λ v. v.tree ≡ tree) es → AllByRecursion Fits (items (all_own visits))
  visits_fit sup stored tree is [] es m of = tt
  visits_fit sup stored tree is (v ∷ visits) [] m of = elim m [ ]
  visits_fit sup stored tree is (v ∷ visits) (e ∷ es) m of =
      let read = read_of sup stored e v.own m.0.1 in
      let entries = entries_fit sup e read.bytes read.entries (ap sort_of of.0 ∙ is) read.has in
      let own : AllByRecursion Fits (items v.own) = subst (λ records. AllByRecursion Fits (items records)) (sym read.own_is) entries in
      subst (AllByRecursion Fits) (sym (filter_map-append item_seen v.own (all_own visits)))
      (all_append (items v.own) (items (all_own visits)) own (visits_fit sup stored tree is visits es m.1 of.1))

  pub walk_fits : (sup : Super) (stored : Stored) (root : Expect) (records : List Seen) → sort_of root.tree ≡ sort
      → walk_of sup stored root ≡ Ok records → AllByRecursion Fits (items records)
  walk_fits sup stored root records of is =
      let w = walks_of sup stored root records is in
      subst (λ all. AllByRecursion Fits (items all)) w.all
      (visits_fit sup stored root.tree of w.visits (visited sup stored root) w.matches (of_root sup (stored, root) (rw is refl)).each)

-- a chunk item's key is (256, 228, start)
abbrev FitsChunk : Key → Part → Type 0
FitsChunk key (ChunkPart fields) = (fields.key ≡ key) × ((key.objectid ≡ 256) × (key.kind ≡ CHUNK_ITEM))
FitsChunk key other = Unit {0}

chunk_fits : (at : At) (key : Key) (bytes : List ℕ) (part : Part) → at.sort ≡ ChunkTree → item_record at key bytes ≡ Ok part → FitsChunk key part
unfolding item_record chunk_tree_record chunk_row frame_rows
chunk_fits at key bytes part sort is = by (key.kind == DEV_ITEM) (key.kind == CHUNK_ITEM) refl (ap (λ s. record_in s at key bytes) (sym sort) ∙ is)
  where
    same_of_not : (a b : ℕ) → not (a == b) ≡ false → a ≡ b
    same_of_not a b is = grind (arith, nat_tests)

    device : (row : Result DeviceItem Finding) → and_then row (λ fields. Ok (DevicePart fields)) ≡ Ok part → FitsChunk key part
    device (Err finding) is = absurd (cc)
    device (Ok fields) is = let same : DevicePart fields ≡ part = cc in subst (FitsChunk key) same tt

    by : (a b : Bool) → (key.kind == CHUNK_ITEM) ≡ b → (if a then and_then (device_row at key bytes) (λ fields. Ok (DevicePart fields)) else
        (if b then and_then (finding_or (first_failing (chunk_rows at key bytes)) (chunk_fields key bytes)) (λ fields. Ok (ChunkPart fields)) else
        unlisted at key)) ≡ Ok part → FitsChunk key part
    by true b kind is = device (device_row at key bytes) is
    by false true kind is =
        let made =
        step_ok (finding_or (first_failing (chunk_rows at key bytes)) (chunk_fields key bytes)) (λ fields. Ok (ChunkPart fields)) part is in
        let fine = finding_or-ok (first_failing (chunk_rows at key bytes)) (chunk_fields key bytes) made.0 made.1 in
        let same : ChunkPart made.0 ≡ part = cc (made.2) in
        subst (FitsChunk key) same
        (rw fine.1 (refl, (same_of_not key.objectid 256 (kept_at 1 (chunk_rows at key bytes) fine.0), eqb-true key.kind CHUNK_ITEM kind)))
    by false false kind is = absurd (cc)

-- a root item has the key of its item
abbrev FitsRoot : Key → Part → Type 0
FitsRoot key (RootPart root) = root.key ≡ key
FitsRoot key other = Unit {0}

root_fits : (at : At) (key : Key) (bytes : List ℕ) (part : Part) → at.sort ≡ Root → item_record at key bytes ≡ Ok part → FitsRoot key part
unfolding item_record root_tree_record root_row
root_fits at key bytes part sort is =
    by (key.kind == ROOT_ITEM) (key.kind == ROOT_REF || key.kind == ROOT_BACKREF)
    (key.kind == INODE_ITEM || key.kind == INODE_REF || key.kind == DIR_ITEM)
    (ap (λ s. record_in s at key bytes) (sym sort) ∙ is)
  where
    link : (row : Result RootLinkFields Finding) → and_then row (λ fields. Ok (LinkPart fields)) ≡ Ok part → FitsRoot key part
    link (Err finding) is = absurd (cc)
    link (Ok fields) is = let same : LinkPart fields ≡ part = cc in subst (FitsRoot key) same tt

    by : (a b c : Bool)
        → (if a then and_then (finding_or (first_failing (root_rows at key bytes)) (root_fields key bytes)) (λ fields. Ok (RootPart fields)) else
        (if b then and_then (root_link_row at key bytes) (λ fields. Ok (LinkPart fields)) else
        (if c then Ok (UnreadPart bytes) else unlisted at key))) ≡ Ok part → FitsRoot key part
    by true b c is =
        let made = step_ok (finding_or (first_failing (root_rows at key bytes)) (root_fields key bytes)) (λ fields. Ok (RootPart fields)) part is in
        let fine = finding_or-ok (first_failing (root_rows at key bytes)) (root_fields key bytes) made.0 made.1 in
        let same : RootPart made.0 ≡ part = cc (made.2) in
        subst (FitsRoot key) same (rw fine.1 refl)
    by false true c is = link (root_link_row at key bytes) is
    by false false true is = let same : UnreadPart bytes ≡ part = cc in subst (FitsRoot key) same tt
    by false false false is = absurd (cc)

-- chunks in the order of their items begin one before the other
by_start : TellsApart begins_before (λ a b. a.start == b.start)
by_start = record {
  first = λ a b less. first a.start b.start less;
  later = λ a b less. later a.start b.start less;
  itself = λ a. itself a.start;
}
  where
    first : (m n : ℕ) → nat_lt m n ≡ true → (m == n) ≡ false
    first m n less = grind (arith, nat_tests)

    later : (m n : ℕ) → nat_lt m n ≡ true → (n == m) ≡ false
    later m n less = grind (arith, nat_tests)

    itself : (n : ℕ) → (n == n) ≡ true
    itself n = grind (arith, nat_tests)

abbrev chunk_some : Chunk → Option Chunk
chunk_some chunk = Some chunk

abbrev root_some : RootAt → Option RootAt
root_some root = Some root

offsets : (k l : Key) → k.objectid ≡ l.objectid → k.kind ≡ l.kind → key_below k l ≡ true → nat_lt k.offset l.offset ≡ true
offsets k l id kind less = grind (arith, common_steps, nat_tests)

chunks_keep : (x y : Located) → FitsChunk x.key x.part → FitsChunk y.key y.part → key_below x.key y.key ≡ true
    → (c d : Chunk) → chunk_in x.part ≡ Some c → chunk_in y.part ≡ Some d → begins_before c d ≡ true
chunks_keep x y p q less c d is at = by x.part y.part p q is at
  where
    some_chunk : (a b : Chunk) → chunk_some a ≡ chunk_some b → a ≡ b
    some_chunk a b is = cc

    by : (a b : Part) → FitsChunk x.key a → FitsChunk y.key b → chunk_in a ≡ Some c → chunk_in b ≡ Some d → begins_before c d ≡ true
    by (ChunkPart f) (ChunkPart g) p q is at =
        let first : c.start ≡ x.key.offset = sym (ap (λ (t : Chunk). t.start) (some_chunk (chunk_of f) c is)) ∙ ap (λ (k : Key). k.offset) p.0 in
        let later : d.start ≡ y.key.offset = sym (ap (λ (t : Chunk). t.start) (some_chunk (chunk_of g) d at)) ∙ ap (λ (k : Key). k.offset) q.0 in
        rw (first, later) (offsets x.key y.key (p.1.0 ∙ sym q.1.0) (p.1.1 ∙ sym q.1.1) less)
    by (ChunkPart f) other p q is at = absurd (cc)
    by other b p q is at = absurd (cc)

pub chunks_merge : ChunksMergedLaw
chunks_merge shared kept sup old new before root olds news gone come read tree =
    let m = merge_of shared kept sup old new before root olds news gone come read in
    let chunk = λ (one : Located). chunk_in one.part in
    let was = walk_fits ChunkTree FitsChunk chunk_fits sup old before olds (ap sort_of (sym read.tree ∙ tree)) read.was in
    let is = walk_fits ChunkTree FitsChunk chunk_fits sup new root news (ap sort_of tree) read.is in
    merged_by chunk begins_before (λ a b. a.start == b.start) by_start (items olds) (items gone) (items come) (items news) m
    (order_made chunk (Fits ChunkTree FitsChunk chunk_fits) stands_before begins_before chunks_keep (items olds) was m.before)
    (order_made chunk (Fits ChunkTree FitsChunk chunk_fits) stands_before begins_before chunks_keep (items news) is m.after)

roots_keep : (x y : Located) → FitsRoot x.key x.part → FitsRoot y.key y.part → key_below x.key y.key ≡ true
    → (c d : RootAt) → root_in x.part ≡ Some c → root_in y.part ≡ Some d → root_before c d ≡ true
roots_keep x y p q less c d is at = by x.part y.part p q is at
  where
    some_root : (a b : RootAt) → root_some a ≡ root_some b → a ≡ b
    some_root a b is = cc

    by : (a b : Part) → FitsRoot x.key a → FitsRoot y.key b → root_in a ≡ Some c → root_in b ≡ Some d → root_before c d ≡ true
    by (RootPart f) (RootPart g) p q is at =
        let first : c.key ≡ x.key = sym (ap (λ (t : RootAt). t.key) (some_root (root_at f) c is)) ∙ p in
        let later : d.key ≡ y.key = sym (ap (λ (t : RootAt). t.key) (some_root (root_at g) d at)) ∙ q in
        rw (first, later) less
    by (RootPart f) other p q is at = absurd (cc)
    by other b p q is at = absurd (cc)

pub roots_merge : RootsMergedLaw
roots_merge shared kept sup old new before root olds news gone come read tree =
    let m = merge_of shared kept sup old new before root olds news gone come read in
    let item = λ (one : Located). root_in one.part in
    let was = walk_fits Root FitsRoot root_fits sup old before olds (ap sort_of (sym read.tree ∙ tree)) read.was in
    let is = walk_fits Root FitsRoot root_fits sup new root news (ap sort_of tree) read.is in
    merged_by item root_before (λ a b. key_same a.key b.key) (by_key (λ (one : RootAt). one.key))
    (items olds) (items gone) (items come) (items news) m
    (order_made item (Fits Root FitsRoot root_fits) stands_before root_before roots_keep (items olds) was m.before)
    (order_made item (Fits Root FitsRoot root_fits) stands_before root_before roots_keep (items news) is m.after)
