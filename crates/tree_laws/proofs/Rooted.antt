-- The table of an image's live pairs stands for each of its trees, of which no two have one id.
use Rattle.std.proofs.Common.{◌≡◌, ℕ, ◌==◌, Bool, true, false, not, ◌||◌, List, [], ◌∷◌, ◌++◌, refl, ap, sym, subst, ◌∙◌, if◌then◌else◌}
use Rattle.std.proofs.lemmas.Bool.{eqb-true}
use Rattle.std.proofs.lemmas.List.Folds.{list_any-append}
use Rattle.std.specs.Prelude.{Option, Some, None, Result, Ok, Err, map}
use Rattle.std.specs.List.{AllByRecursion, fold, list_any}
use Rattle.walk_laws.proofs.Trees.{step_ok}
use Rattle.verdict.proofs.Truth.{neither}
use Rattle.verdict.specs.Rules.{and_then, finding_or, first_failing, or_found}
use Rattle.verdict.specs.declared.finding.Finding.{Finding}
use Rattle.verdict.specs.declared.key.Key.{Key}
use Rattle.verdict.specs.declared.kinds.TheConstants.{DIR_ITEM, INODE_ITEM, INODE_REF, ROOT_BACKREF, ROOT_ITEM, ROOT_REF}
use Rattle.verdict.specs.declared.place.At.{At}
use Rattle.verdict.specs.declared.place.Chunk.{Chunk}
use Rattle.verdict.specs.declared.place.TreeSort.TheVariants.{Root}
use Rattle.verdict.proofs.Tables.{finding_or-ok, kept_at}
use Rattle.super_reader.specs.declared.Super.{Super}
use Rattle.super_reader.specs.Superblock.{array_place, item_place}
use Rattle.volume_items.specs.RootPlace.{root_at}
use Rattle.volume_items.specs.RootRow.{is_root_id, root_fields, root_row, root_rows}
use Rattle.volume_items.specs.RootLinkRow.{RootLinkFields, root_link_row}
use Rattle.volume_items.specs.SystemArray.{array_chunks}
use Rattle.node_reader.specs.Layout.{LeafItem, items_of, pointers_of}
use Rattle.node_reader.specs.Stored.{Stored, block_in, stored_in}
use Rattle.node_reader.specs.declared.expect.Expect.{Expect}
use Rattle.node_reader.specs.declared.expect.Pointer.{Pointer}
use Rattle.records.specs.Contents.{all_records, roots_finding, chunk_map_in, chunk_tree_root, missing_rows, named_root, names, repeated_after, root_items_in, root_records, root_tree_root, roots_fault, superblock_in, tree_records}
use Rattle.records.specs.Item.{item_record, record_in, root_tree_record, unlisted}
use Rattle.records.specs.Part.{Located, Part}
use Rattle.records.specs.Part.Part.{LinkPart, RootPart, UnreadPart}
use Rattle.records.specs.Seen.{Seen}
use Rattle.records.specs.Seen.Seen.{BlockSeen, PointerSeen, ItemSeen}
use Rattle.records.specs.Takes.{held_after, with_root}
use Rattle.records.specs.Walk.{Records, behind, block_at, each, entry_records, just, leaf_record, leaf_records, own_records, pointer_records, then_records, walk_in, walk_of}
use Rattle.records.specs.WalkLaw.{visited}
use Rattle.records.specs.declared.rec.WalkedBlock.{WalkedBlock}
use Rattle.tree_laws.specs.Keeping.{Stands}
use Rattle.tree_laws.specs.LivePairs.{Walked, live_in, table_of, walked}
use Rattle.tree_laws.specs.Skips.{own_of}
use Rattle.tree_laws.specs.TableLaw.{AreApart, TableLaw, Tree, is_other, trees_in}
use Rattle.tree_laws.proofs.Forest.{of_root, tables_stand, walks}
use Rattle.tree_laws.proofs.Lives.{ok_same}
use Rattle.tree_laws.proofs.Trails.{Matches, Tells, Trail, Visit, all_own, tells, trail_of}
use Rattle.volume_items.specs.declared.root_at.RootAt.{RootAt}

-- a root item has an id that one may have, with some set of features
abbrev pub HasRootId : RootAt → Type 0
HasRootId root = (features : ℕ) × (is_root_id features root.key.objectid ≡ true)

abbrev pub FitsPart : Part → Type 0
FitsPart (RootPart root) = HasRootId (root_at root)
FitsPart other = Unit {0}

abbrev pub Fits : Seen → Type 0
Fits (ItemSeen one) = FitsPart one.part
Fits other = Unit {0}

root_fits : (at : At) (key : Key) (bytes : List ℕ) (part : Part) → root_tree_record at key bytes ≡ Ok part → FitsPart part
unfolding root_tree_record root_row root_rows
root_fits at key bytes part is = by (key.kind == ROOT_ITEM) (key.kind == ROOT_REF || key.kind == ROOT_BACKREF) (key.kind == INODE_ITEM || key.kind == INODE_REF || key.kind == DIR_ITEM) is
  where
    passes : (b : Bool) → not b ≡ false → b ≡ true
    passes true is = refl
    passes false is = absurd (cc)

    kept : first_failing (root_rows at key bytes) ≡ None → (features : ℕ) × (is_root_id features key.objectid ≡ true)
    kept none = (at.compat_ro, passes (is_root_id at.compat_ro key.objectid) (kept_at 1 (root_rows at key bytes) none))

    link : (row : Result RootLinkFields Finding) → and_then row (λ fields. Ok (LinkPart fields)) ≡ Ok part → FitsPart part
    link (Err finding) is = absurd (cc)
    link (Ok fields) is = let same : LinkPart fields ≡ part = cc in subst FitsPart same tt

    by : (a b c : Bool) → (if a then and_then (finding_or (first_failing (root_rows at key bytes)) (root_fields key bytes)) (λ fields. Ok (RootPart fields)) else
        (if b then and_then (root_link_row at key bytes) (λ fields. Ok (LinkPart fields)) else
        (if c then Ok (UnreadPart bytes) else unlisted at key))) ≡ Ok part → FitsPart part
    by true b c is =
        let made = step_ok (finding_or (first_failing (root_rows at key bytes)) (root_fields key bytes)) (λ fields. Ok (RootPart fields)) part is in
        let fine = finding_or-ok (first_failing (root_rows at key bytes)) (root_fields key bytes) made.0 made.1 in
        let same : RootPart made.0 ≡ part = cc (made.2) in
        subst FitsPart same (rw fine.1 (kept fine.0))
    by false true c is = link (root_link_row at key bytes) is
    by false false true is = let same : UnreadPart bytes ≡ part = cc in subst FitsPart same tt
    by false false false is = absurd (cc)

item_fits : (at : At) (key : Key) (bytes : List ℕ) (part : Part) → at.sort ≡ Root → item_record at key bytes ≡ Ok part → FitsPart part
unfolding item_record
item_fits at key bytes part sort is = root_fits at key bytes part (ap (λ s. record_in s at key bytes) (sym sort) ∙ is)

pub one_item : (item : LeafItem) (at : At) (part : Result Part Finding) (more : Records) (entries : List Seen) → then_records (just (and_then part (λ p. Ok (ItemSeen (record { tree = at.tree; block = at.block; key = item.key; part = p }))))) more ≡ Ok entries
    → (p : Part) × (others : List Seen) × (part ≡ Ok p) × (more ≡ Ok others) × (ItemSeen (record { tree = at.tree; block = at.block; key = item.key; part = p }) ∷ others ≡ entries)
unfolding behind
one_item item at (Err finding) more entries is = absurd (cc)
one_item item at (Ok part) (Err finding) entries is = absurd (cc)
one_item item at (Ok part) (Ok others) entries is = (part, others, refl, refl, cc)

leaf_fits : (at : At) → at.sort ≡ Root → (items : List LeafItem) (entries : List Seen) → each (λ item. just (leaf_record at item)) items ≡ Ok entries → AllByRecursion Fits entries
leaf_fits at sort [] entries is = let none : [] ≡ entries = cc in subst (AllByRecursion Fits) none tt
leaf_fits at sort (item ∷ items) entries is =
    let rest = one_item item at (item_record at item.key item.bytes) (each (λ item. just (leaf_record at item)) items) entries is in
    subst (AllByRecursion Fits) rest.4 (item_fits at item.key item.bytes rest.0 sort rest.2, leaf_fits at sort items rest.1 rest.3)

node_fits : (e : Expect) (pointers : List Pointer) → AllByRecursion Fits (pointer_records e pointers)
node_fits e [] = tt
node_fits e (pointer ∷ pointers) = (tt, node_fits e pointers)

entries_fit : (sup : Super) (e : Expect) (bytes : List ℕ) (entries : List Seen) → e.tree ≡ 1 → entry_records sup e bytes ≡ Ok entries → AllByRecursion Fits entries
unfolding leaf_records
entries_fit sup e bytes entries tree is = by (e.level == 0) is
  where
    by : (leaf : Bool) → (if leaf then each (λ item. just (leaf_record (item_place sup e.tree e.address e.generation) item)) (items_of bytes) else Ok (pointer_records e (pointers_of bytes))) ≡ Ok entries
        → AllByRecursion Fits entries
    by true is = leaf_fits (item_place sup e.tree e.address e.generation) (rw tree refl) (items_of bytes) entries is
    by false is = let same : pointer_records e (pointers_of bytes) ≡ entries = cc in subst (AllByRecursion Fits) same (node_fits e (pointers_of bytes))

behind_fits : (block : WalkedBlock) (entries : Records) (own : List Seen) → ((some : List Seen) → entries ≡ Ok some → AllByRecursion Fits some) → behind (BlockSeen block ∷ []) entries ≡ Ok own → AllByRecursion Fits own
unfolding behind
behind_fits block (Err finding) own fits is = absurd (cc)
behind_fits block (Ok entries) own fits is = let same : BlockSeen block ∷ entries ≡ own = cc in subst (AllByRecursion Fits) same (tt, fits entries refl)

own_fits : (sup : Super) (stored : Stored) (e : Expect) (own : List Seen) → e.tree ≡ 1 → own_of sup stored e ≡ Ok own → AllByRecursion Fits own
unfolding own_records
own_fits sup stored e own tree is =
    let read = step_ok (block_in stored sup.fsid e) (own_records sup e) own is in
    behind_fits (block_at e read.0) (entry_records sup e read.0) own (λ entries has. entries_fit sup e read.0 entries tree has) read.2

fits_append : (a b : List Seen) → AllByRecursion Fits a → AllByRecursion Fits b → AllByRecursion Fits (a ++ b)
fits_append [] b x y = y
fits_append (one ∷ a) b x y = (x.0, fits_append a b x.1 y)

walk_fits : (sup : Super) (stored : Stored) (root : Expect) (records : List Seen) → root.tree ≡ 1 → walk_of sup stored root ≡ Ok records → AllByRecursion Fits records
walk_fits sup stored root records tree is = by (trail_of sup stored root) (tells sup stored root) (of_root sup (stored, root) (rw is refl)).each
  where
    all : (visits : List Visit) (es : List Expect) → Matches sup stored visits es → AllByRecursion (λ v. v.tree ≡ root.tree) es → AllByRecursion Fits (all_own visits)
    all [] es m of = tt
    all (v ∷ visits) [] m of = elim m [ ]
    all (v ∷ visits) (e ∷ es) m of = fits_append v.own (all_own visits) (own_fits sup stored e v.own (of.0 ∙ tree) m.0.1) (all visits es m.1 of.1)

    never : (finding : Finding) → walk_of sup stored root ≡ Err finding → AllByRecursion Fits records
    never finding h = absurd (cc)

    by : (trail : Trail) → Tells sup stored trail (walk_of sup stored root) (visited sup stored root) → AllByRecursion (λ v. v.tree ≡ root.tree) (visited sup stored root) → AllByRecursion Fits records
    by (Err finding) t of = never finding t.0
    by (Ok visits) t of = subst (AllByRecursion Fits) (ok_same (all_own visits) records (sym t.0 ∙ is)) (all visits (visited sup stored root) t.1 of)

roots_append : (a : List RootAt) (root : RootAt) → AllByRecursion HasRootId a → HasRootId root → AllByRecursion HasRootId (a ++ root ∷ [])
roots_append [] root x y = (y, tt)
roots_append (one ∷ a) root x y = (x.0, roots_append a root x.1 y)

part_fits : (held : List RootAt) (one : Located) (part : Part) → FitsPart part → AllByRecursion HasRootId held → AllByRecursion HasRootId (with_root held (ItemSeen (record one { part = part })))
part_fits held one (RootPart root) fits has = roots_append held (root_at root) has fits
part_fits held one other fits has = has

fold_fits : (records : List Seen) (held : List RootAt) → AllByRecursion Fits records → AllByRecursion HasRootId held → AllByRecursion HasRootId (fold with_root held records)
fold_fits [] held all has = has
fold_fits (BlockSeen one ∷ records) held all has = fold_fits records held all.1 has
fold_fits (PointerSeen one ∷ records) held all has = fold_fits records held all.1 has
fold_fits (ItemSeen one ∷ records) held all has = fold_fits records (with_root held (ItemSeen one)) all.1 (part_fits held one one.part all.0 has)

-- an id that no root item has is that of none
pub other_id : (n id : ℕ) → ((features : ℕ) → is_root_id features n ≡ false) → ((features : ℕ) × (is_root_id features id ≡ true)) → not (n == id) ≡ true
other_id n id none is = by (n == id) refl
  where
    by : (b : Bool) → (n == id) ≡ b → not b ≡ true
    by true same =
        let h : n ≡ id = eqb-true n id same in
        let k : is_root_id is.0 n ≡ is_root_id is.0 id = ap (is_root_id is.0) h in
        let never : is_root_id is.0 n ≡ false = none is.0 in
        let ever : is_root_id is.0 id ≡ true = is.1 in
        absurd (cc)
    by false same = refl

-- no later root item has the id of one before
none_before : (before roots : List RootAt) → repeated_after before roots ≡ None → AllByRecursion (λ r. list_any (names r.key.objectid) before ≡ false) roots
unfolding repeated_after
none_before before [] none = tt
none_before before (r ∷ roots) none = by (list_any (names r.key.objectid) before) refl none (none_before (before ++ r ∷ []) roots)
  where
    fewer : (some : List RootAt) → AllByRecursion (λ q. list_any (names q.key.objectid) (before ++ r ∷ []) ≡ false) some → AllByRecursion (λ q. list_any (names q.key.objectid) before ≡ false) some
    fewer [] all = tt
    fewer (q ∷ some) all =
        ((neither (list_any (names q.key.objectid) before) (list_any (names q.key.objectid) (r ∷ [])) (sym (list_any-append (names q.key.objectid) before (r ∷ [])) ∙ all.0)).0, fewer some all.1)

    by : (b : Bool) → list_any (names r.key.objectid) before ≡ b → (if b then Some (roots_finding 1 r.key) else repeated_after (before ++ r ∷ []) roots) ≡ None
        → (repeated_after (before ++ r ∷ []) roots ≡ None → AllByRecursion (λ q. list_any (names q.key.objectid) (before ++ r ∷ []) ≡ false) roots)
        → AllByRecursion (λ q. list_any (names q.key.objectid) before ≡ false) (r ∷ roots)
    by true is none rest = absurd (cc)
    by false is none rest = (is, fewer roots (rest none))

rest_none : (before : List RootAt) (r : RootAt) (roots : List RootAt) → repeated_after before (r ∷ roots) ≡ None → repeated_after (before ++ r ∷ []) roots ≡ None
unfolding repeated_after
rest_none before r roots none = by (list_any (names r.key.objectid) before) none
  where
    by : (b : Bool) → (if b then Some (roots_finding 1 r.key) else repeated_after (before ++ r ∷ []) roots) ≡ None → repeated_after (before ++ r ∷ []) roots ≡ None
    by true none = absurd (cc)
    by false none = none

module _ (stored : Stored) where
  abbrev pub named : List RootAt → List Tree
  named roots = map (λ root. (stored, named_root root)) roots

  named_apart : (before roots : List RootAt) → repeated_after before roots ≡ None → AreApart (named roots)
  named_apart before [] none = tt
  named_apart before (r ∷ roots) none =
      let rest = rest_none before r roots none in
      (each_apart roots (none_before (before ++ r ∷ []) roots rest), named_apart (before ++ r ∷ []) roots rest)
    where
      lift : (b : Bool) → (b || false) ≡ false → not b ≡ true
      lift true is = absurd (cc)
      lift false is = refl

      each_apart : (some : List RootAt) → AllByRecursion (λ q. list_any (names q.key.objectid) (before ++ r ∷ []) ≡ false) some → AllByRecursion (λ b. is_other (stored, named_root r) b ≡ true) (named some)
      each_apart [] all = tt
      each_apart (q ∷ some) all =
          (lift (r.key.objectid == q.key.objectid) (neither (list_any (names q.key.objectid) before) (list_any (names q.key.objectid) (r ∷ [])) (sym (list_any-append (names q.key.objectid) before (r ∷ [])) ∙ all.0)).1, each_apart some all.1)

  named_other : (tree : Tree) → ((features : ℕ) → is_root_id features tree.1.tree ≡ false) → (roots : List RootAt) → AllByRecursion HasRootId roots → AllByRecursion (λ b. is_other tree b ≡ true) (named roots)
  named_other tree none [] all = tt
  named_other tree none (r ∷ roots) all = (other_id tree.1.tree r.key.objectid none all.0, named_other tree none roots all.1)

  named_walks : (sup : Super) (chunks : List Chunk) (image : List ℕ) → stored ≡ stored_in image chunks sup.nodesize → (roots : List RootAt) → walks sup (named roots) ≡ tree_records sup chunks roots image
  unfolding walk_in
  named_walks sup chunks image is [] = refl
  named_walks sup chunks image is (r ∷ roots) = rw (named_walks sup chunks image is roots, is) refl

ok_of : (a b : List RootAt) → finding_or {A = List RootAt} None a ≡ Ok b → a ≡ b
ok_of a b is = cc

-- root items have ids that one may have, and no two the same
pub roots_are : (sup : Super) (chunks : List Chunk) (image : List ℕ) (roots : List RootAt) → root_items_in sup chunks image ≡ Ok roots → (repeated_after [] roots ≡ None) × AllByRecursion HasRootId roots
unfolding root_items_in roots_fault walk_in
roots_are sup chunks image roots is =
    let held = step_ok (held_after with_root [] (root_records sup chunks image)) (λ roots. and_then (finding_or (roots_fault sup.compat_ro roots) (tt {0})) (λ _. Ok roots)) roots is in
    let fine = step_ok (finding_or (roots_fault sup.compat_ro held.0) (tt {0})) (λ _. Ok held.0) roots held.2 in
    let none = (finding_or-ok (roots_fault sup.compat_ro held.0) (tt {0}) fine.0 fine.1).0 in
    let same : held.0 ≡ roots = ok_of held.0 roots fine.2 in (
      subst (λ rs. repeated_after [] rs ≡ None) same (first_none (repeated_after [] held.0) (first_failing (missing_rows sup.compat_ro held.0)) none),
      subst (AllByRecursion HasRootId) same (by (root_records sup chunks image) refl held.0 held.1),
    )
  where
    first_none : (a b : Option Finding) → or_found a b ≡ None → a ≡ None
    first_none None b is = refl
    first_none (Some finding) b is = absurd (cc)

    by : (walk : Records) → root_records sup chunks image ≡ walk → (rs : List RootAt) → held_after with_root [] walk ≡ Ok rs → AllByRecursion HasRootId rs
    by (Err finding) w rs is = absurd (cc)
    by (Ok records) w rs is =
        subst (AllByRecursion HasRootId) (ok_of (fold with_root [] records) rs is) (fold_fits records [] (walk_fits sup (stored_in image chunks sup.nodesize) (root_tree_root sup) records refl w) tt)

pub all_walks : (sup : Super) (array chunks : List Chunk) (roots : List RootAt) (image : List ℕ) → walks sup (trees_in sup array chunks roots image) ≡ all_records sup array chunks roots image
unfolding all_records walk_in
all_walks sup array chunks roots image = rw (named_walks (stored_in image chunks sup.nodesize) sup chunks image refl roots) refl

-- of the trees of an image no two have one id
pub all_apart : (sup : Super) (array chunks : List Chunk) (roots : List RootAt) (image : List ℕ) → (repeated_after [] roots ≡ None) × AllByRecursion HasRootId roots → AreApart (trees_in sup array chunks roots image)
all_apart sup array chunks roots image are =
    let stored = stored_in image chunks sup.nodesize in (
      (refl, named_other stored (stored_in image array sup.nodesize, chunk_tree_root sup) (λ features. refl) roots are.1),
      (named_other stored (stored, root_tree_root sup) (λ features. refl) roots are.1, named_apart stored [] roots are.0),
    )

pub table_stands : TableLaw
unfolding walked
table_stands image trees array roots is arrays items =
    let s = step_ok (superblock_in image) _ trees is in
    let a = step_ok (array_chunks (array_place s.0) s.0.array s.0.array_size) _ trees s.2 in
    let c = step_ok (chunk_map_in s.0 a.0 image) _ trees a.2 in
    let r = step_ok (root_items_in s.0 c.0 image) _ trees c.2 in
    let w = step_ok (all_records s.0 a.0 c.0 r.0 image) _ trees r.2 in
    by s.0 a.0 c.0 r.0 w.0 (ok_walked (record { sup = s.0; chunks = c.0; seen = w.0 }) trees w.2) a.1 r.1 w.1 arrays items
  where
    ok_walked : (a b : Walked) → finding_or {A = Walked} None a ≡ Ok b → a ≡ b
    ok_walked a b is = cc

    whole : (sup : Super) (array chunks : List Chunk) (roots : List RootAt) (seen : List Seen) → root_items_in sup chunks image ≡ Ok roots → all_records sup array chunks roots image ≡ Ok seen
        → AllByRecursion (λ tree. Stands (table_of (live_in seen)) sup tree.0 tree.1) (trees_in sup array chunks roots image)
    whole sup array chunks roots seen items is =
        tables_stand sup (trees_in sup array chunks roots image) seen (all_apart sup array chunks roots image (roots_are sup chunks image roots items)) (all_walks sup array chunks roots image ∙ is)

    both : (sup : Super) (a b : List Chunk) → array_chunks (array_place sup) sup.array sup.array_size ≡ Ok a → array_chunks (array_place sup) sup.array sup.array_size ≡ Ok b → a ≡ b
    both sup a b x y = cc

    by : (sup : Super) (a c : List Chunk) (r : List RootAt) (seen : List Seen) → record { sup = sup; chunks = c; seen = seen } ≡ trees
        → array_chunks (array_place sup) sup.array sup.array_size ≡ Ok a → root_items_in sup c image ≡ Ok r → all_records sup a c r image ≡ Ok seen
        → array_chunks (array_place trees.sup) trees.sup.array trees.sup.array_size ≡ Ok array → root_items_in trees.sup trees.chunks image ≡ Ok roots
        → AllByRecursion (λ tree. Stands (table_of (live_in trees.seen)) trees.sup tree.0 tree.1) (trees_in trees.sup array trees.chunks roots image)
    by sup a c r seen same x y z arrays items =
        subst (λ (t : Walked). array_chunks (array_place t.sup) t.sup.array t.sup.array_size ≡ Ok array → root_items_in t.sup t.chunks image ≡ Ok roots
        → AllByRecursion (λ tree. Stands (table_of (live_in t.seen)) t.sup tree.0 tree.1) (trees_in t.sup array t.chunks roots image)) same
        (λ arrays items. whole sup array c roots seen items
        (subst (λ b. all_records sup b c roots image ≡ Ok seen) (both sup a array x arrays) (subst (λ q. all_records sup a c q image ≡ Ok seen) (alike r roots y items) z)))
        arrays items
      where
        alike : (a b : List RootAt) → root_items_in sup c image ≡ Ok a → root_items_in sup c image ≡ Ok b → a ≡ b
        alike a b x y = cc
