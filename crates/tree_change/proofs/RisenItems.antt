-- The items in the leaves of the pairs that are not shared are those in the leaves of the changed pairs: a marked pair that is unchanged is a
-- node, and no item stands in a node.
use Rattle.std.proofs.Common.{◌≡◌, ℕ, zero, suc, ◌==◌, Bool, true, false, not, ◌&&◌, ◌||◌, List, [], ◌∷◌, ◌++◌, length, refl}
use Rattle.std.proofs.Common.{ap, sym, subst, ◌∙◌, if◌then◌else◌}
use Rattle.std.proofs.lemmas.Bool.{eqb-true}
use Rattle.std.proofs.lemmas.List.Elements.{filter_map-append}
use Rattle.std.specs.Prelude.{Some, None, Ok, map}
use Rattle.std.specs.List.{AllByRecursion, cons_option, filter, list_any}
use Rattle.std.specs.Ordering.{nat_cmp}
use Rattle.std.specs.FinMap.{FinMap}
use Rattle.verdict.proofs.Lists.{all_map}
use Rattle.verdict.proofs.Truth.{and_parts}
use Rattle.verdict.specs.OnDisk.{key_same}
use Rattle.verdict.specs.declared.place.At.{At}
use Rattle.write_cache.specs.Cache.{overlaid}
use Rattle.super_reader.specs.Superblock.{item_place}
use Rattle.super_reader.specs.declared.Super.{Super}
use Rattle.live_index.specs.Pairs.{Pairs}
use Rattle.live_index.specs.declared.live.Live.{Live}
use Rattle.node_reader.specs.Layout.{LeafItem, items_of, pointers_of}
use Rattle.node_reader.specs.Stored.{Stored}
use Rattle.node_reader.specs.declared.expect.Expect.{Expect}
use Rattle.node_reader.specs.declared.expect.Pointer.{Pointer}
use Rattle.records.specs.Item.{item_record}
use Rattle.records.specs.Part.{Located}
use Rattle.records.specs.Seen.{Seen}
use Rattle.records.specs.Seen.Seen.{BlockSeen, ItemSeen, PointerSeen}
use Rattle.records.specs.Walk.{each, entry_records, just, leaf_record, leaf_records, pointer_records, walk_of}
use Rattle.records.specs.WalkLaw.{visited, visited_from}
use Rattle.touched_blocks.specs.Marks.{Marked}
use Rattle.touched_blocks.specs.Touched.{written_in}
use Rattle.tree_laws.specs.Keeping.{Stands, comes_to, live_at}
use Rattle.tree_laws.specs.LivePairs.{Walked, live_in, table_of}
use Rattle.tree_laws.specs.MergedLaw.{items}
use Rattle.tree_laws.specs.Shared.{are_alike, are_read_alike, is_shared, is_shared_by, stands_untouched, unshared_in}
use Rattle.tree_laws.specs.SharedLaw.{HasTrees, MarksTouched, touches_old}
use Rattle.tree_laws.specs.TableLaw.{AreApart, Tree}
use Rattle.tree_laws.specs.Unshared.{item_seen, items_in}
use Rattle.tree_laws.proofs.Forest.{all_lives, lives_all, lives_of, tables_stand, then_ok, walks}
use Rattle.tree_laws.proofs.Merged.{read_of, walks_of}
use Rattle.tree_laws.proofs.Picking.{is_there, one_of}
use Rattle.tree_laws.proofs.Trails.{Matches, Visit, all_own}
use Rattle.tree_laws.proofs.Treed.{trees_walk}
use Rattle.tree_laws.proofs.Untouching.{free_all, is_free}
use Rattle.tree_laws.proofs.Within.{one_own}
use Rattle.tree_change.specs.Rising.{MarksAll}
use Rattle.tree_change.specs.Unchanged.{changed_in, is_unchanged, none_touched}

-- ---- where items stand

module _ (table : Pairs) where
  -- the table has a leaf where this item stands
  record InLeaf (one : Located) : Type 0 where
    pub live : Live
    pub known : table one.tree one.block ≡ Some live
    pub low : live.level ≡ 0

  abbrev InLeaves : List Located → Type 0
  InLeaves found = AllByRecursion InLeaf found

  in_append : (a b : List Located) → InLeaves a → InLeaves b → InLeaves (a ++ b)
  in_append [] b x y = y
  in_append (one ∷ a) b x y = (x.0, in_append a b x.1 y)

  -- the items of a leaf stand there
  leaf_in : (at : At) (live : Live) → table at.tree at.block ≡ Some live → live.level ≡ 0 → (leaves : List LeafItem) (entries : List Seen)
      → each (λ item. just (leaf_record at item)) leaves ≡ Ok entries → InLeaves (items entries)
  leaf_in at live known low [] entries is = let none : [] ≡ entries = cc in subst (λ es. InLeaves (items es)) none tt
  leaf_in at live known low (item ∷ leaves) entries is =
      let rest = one_own item at (item_record at item.key item.bytes) (each (λ item. just (leaf_record at item)) leaves) entries is in
      subst (λ es. InLeaves (items es)) rest.3 (record { live = live; known = known; low = low }, leaf_in at live known low leaves rest.1 rest.2)

  -- a node has no items
  node_in : (e : Expect) (pointers : List Pointer) → InLeaves (items (pointer_records e pointers))
  node_in e [] = tt
  node_in e (pointer ∷ pointers) = node_in e pointers

  -- what a block has stands in a leaf
  entries_in : (sup : Super) (stored : Stored) (e : Expect) (bytes : List ℕ) (entries : List Seen)
      → table e.tree e.address ≡ Some (live_at sup stored e) → entry_records sup e bytes ≡ Ok entries → InLeaves (items entries)
  unfolding leaf_records
  entries_in sup stored e bytes entries known is = by (e.level == 0) refl is
    where
      by : (leaf : Bool) → (e.level == 0) ≡ leaf
          → (if leaf then each (λ item. just (leaf_record (item_place sup e.tree e.address e.generation) item)) (items_of bytes)
          else Ok (pointer_records e (pointers_of bytes))) ≡ Ok entries → InLeaves (items entries)
      by true at is =
          leaf_in (item_place sup e.tree e.address e.generation) (live_at sup stored e) known (eqb-true e.level 0 at) (items_of bytes) entries is
      by false at is =
          let same : pointer_records e (pointers_of bytes) ≡ entries = cc in
          subst (λ es. InLeaves (items es)) same (node_in e (pointers_of bytes))

  -- so does what a walk gives
  walk_in : (sup : Super) (stored : Stored) (root : Expect) (records : List Seen) → walk_of sup stored root ≡ Ok records
      → AllByRecursion (λ v. table v.tree v.address ≡ Some (live_at sup stored v)) (visited sup stored root) → InLeaves (items records)
  walk_in sup stored root records is known =
      let w = walks_of sup stored root records is in
      subst (λ r. InLeaves (items r)) w.all (by w.visits (visited sup stored root) w.matches known)
    where
      by : (visits : List Visit) (es : List Expect) → Matches sup stored visits es
          → AllByRecursion (λ v. table v.tree v.address ≡ Some (live_at sup stored v)) es → InLeaves (items (all_own visits))
      by [] es m known = tt
      by (v ∷ visits) [] m known = elim m [ ]
      by (v ∷ visits) (e ∷ es) m known =
          let r = read_of sup stored e v.own m.0.1 in
          subst InLeaves (sym (filter_map-append item_seen v.own (all_own visits)))
          (in_append (items v.own) (items (all_own visits))
          (subst (λ own. InLeaves (items own)) (sym r.own_is) (entries_in sup stored e r.bytes r.entries known.0 r.has))
          (by visits es m.1 known.1))

  -- and what the walks of trees give
  walks_in : (sup : Super) (trees : List Tree) (seen : List Seen) → walks sup trees ≡ Ok seen
      → AllByRecursion (λ (tree : Tree). Stands table sup tree.0 tree.1) trees → InLeaves (items seen)
  walks_in sup [] seen is all = let h : [] ≡ seen = cc in subst (λ r. InLeaves (items r)) h tt
  walks_in sup (tree ∷ trees) seen is all =
      let split = then_ok (walk_of sup tree.0 tree.1) (walks sup trees) seen is in
      subst (λ r. InLeaves (items r)) (sym split.4)
      (subst InLeaves (sym (filter_map-append item_seen split.0 split.1))
      (in_append (items split.0) (items split.1) (walk_in sup tree.0 tree.1 split.0 split.2 all.0.each.each)
      (walks_in sup trees split.1 split.3 all.1)))

  -- the table has this pair
  abbrev IsEntry : Live → Type 0
  IsEntry one = table one.tree one.address ≡ Some one

  entries_append : (xs ys : List Live) → AllByRecursion IsEntry xs → AllByRecursion IsEntry ys → AllByRecursion IsEntry (xs ++ ys)
  entries_append [] ys all more = more
  entries_append (x ∷ xs) ys all more = (all.0, entries_append xs ys all.1 more)

  entries_of : (sup : Super) (stored : Stored) (es : List Expect) → AllByRecursion (λ v. table v.tree v.address ≡ Some (live_at sup stored v)) es
      → AllByRecursion IsEntry (map (live_at sup stored) es)
  entries_of sup stored [] all = tt
  entries_of sup stored (e ∷ es) all = (all.0, entries_of sup stored es all.1)

  -- a table that stands for trees has their pairs
  entries_all : (sup : Super) (trees : List Tree) → AllByRecursion (λ tree. Stands table sup tree.0 tree.1) trees
      → AllByRecursion IsEntry (all_lives sup trees)
  entries_all sup [] all = tt
  entries_all sup (tree ∷ trees) all =
      entries_append (lives_of sup tree) (all_lives sup trees) (entries_of sup tree.0 (visited sup tree.0 tree.1) all.0.each.each)
      (entries_all sup trees all.1)

  -- a pair of the table that stands where an item does is a leaf
  is_leaf : (one : Located) → InLeaf one → (live : Live) → IsEntry live → is_there one.tree one.block live ≡ true → live.level ≡ 0
  is_leaf one at live is there =
      let both = and_parts (live.tree == one.tree) (live.address == one.block) there in
      let entry : table one.tree one.block ≡ Some live =
      ap (λ t. table t one.block) (sym (eqb-true live.tree one.tree both.0))
      ∙ (ap (table live.tree) (sym (eqb-true live.address one.block both.1)) ∙ is) in
      subst (λ (l : Live). l.level ≡ 0) (some_same at.live live (sym at.known ∙ entry)) at.low
    where
      some_same : (a b : Live) → Some a ≡ Some b → a ≡ b
      some_same a b is = cc

-- ---- pairs of which the leaves pass two tests alike

-- two tests that agree where a third passes leave alike whether one of a list passes that
any_left : (t p q : Live → Bool) (lives : List Live) → AllByRecursion (λ (live : Live). t live ≡ true → p live ≡ q live) lives
    → list_any t (filter p lives) ≡ list_any t (filter q lives)
any_left t p q [] all = refl
any_left t p q (live ∷ lives) all =
    head p (p live) (filter p lives)
    ∙ (agree (t live) (p live) (q live) all.0 (any_left t p q lives all.1) ∙ sym (head q (q live) (filter q lives)))
  where
    head : (p : Live → Bool) (b : Bool) (rest : List Live) → list_any t (if b then live ∷ rest else rest) ≡ ((b && t live) || list_any t rest)
    head p true rest = refl
    head p false rest = refl

    agree : {x y : Bool} (there a b : Bool) → (there ≡ true → a ≡ b) → x ≡ y → ((a && there) || x) ≡ ((b && there) || y)
    agree true a b same xy = rw (same refl, xy) refl
    agree false true true same xy = xy
    agree false true false same xy = xy
    agree false false true same xy = xy
    agree false false false same xy = xy

-- pairs that stand alike where items do have these in their leaves
items_same : (a b : List Live) (seen : List Seen)
    → AllByRecursion (λ (one : Located). list_any (is_there one.tree one.block) a ≡ list_any (is_there one.tree one.block) b) (items seen)
    → items_in a seen ≡ items_in b seen
items_same a b [] all = refl
items_same a b (BlockSeen block ∷ seen) all = items_same a b seen all
items_same a b (PointerSeen pointer ∷ seen) all = items_same a b seen all
items_same a b (ItemSeen one ∷ seen) all =
    ap (λ there. cons_option (if there then Some one else None) (items_in a seen)) all.0
    ∙ ap (cons_option (if list_any (is_there one.tree one.block) b then Some one else None)) (items_same a b seen all.1)

-- where two tests agree on leaves, the pairs that pass them have the same items in their leaves
leaves_same : (sup : Super) (trees : List Tree) (seen : List Seen) → AreApart trees → walks sup trees ≡ Ok seen → (p q : Live → Bool)
    → ((live : Live) → live.level ≡ 0 → p live ≡ q live)
    → items_in (filter p (live_in seen)) seen ≡ items_in (filter q (live_in seen)) seen
leaves_same sup trees seen apart is p q same =
    let table = table_of (live_in seen) in
    let stand = tables_stand sup trees seen apart is in
    let entries : AllByRecursion (IsEntry table) (live_in seen) =
    subst (AllByRecursion (IsEntry table)) (sym (lives_all sup trees seen apart is)) (entries_all table sup trees stand) in
    items_same (filter p (live_in seen)) (filter q (live_in seen)) seen
    (all_map (InLeaf table)
    (λ (one : Located). list_any (is_there one.tree one.block) (filter p (live_in seen))
    ≡ list_any (is_there one.tree one.block) (filter q (live_in seen)))
    (items seen)
    (λ one at.
    any_left (is_there one.tree one.block) p q (live_in seen)
    (all_map (IsEntry table) (λ (live : Live). is_there one.tree one.block live ≡ true → p live ≡ q live) (live_in seen)
    (λ live entry there. same live (is_leaf table one at live entry there)) entries))
    (walks_in table sup trees seen is stand))

-- ---- marked pairs that are unchanged

-- the walk from a leaf comes to no touched block where the leaf is not touched
leaf_free : (touched : ℕ → Bool) (sup : Super) (stored : Stored) (v : Expect) → touched v.address ≡ false → (level : ℕ) → level ≡ 0
    → list_any (λ (w : Expect). touched w.address) (visited_from level sup stored v) ≡ false
unfolding visited_from
leaf_free touched sup stored v free zero is = rw free refl
leaf_free touched sup stored v free (suc level) is = absurd (cc)

module _ (image : List ℕ) (pending : FinMap nat_cmp ℕ) (old new : Walked) where
  abbrev touched : ℕ → Bool
  touched = touches_old old (written_in pending) (length image)

  -- what an unchanged pair tells: blocks are read alike, its own is not touched, and it is alike to an old one
  unchanged_parts : (live : Live) → is_unchanged old new (written_in pending) (length image) live ≡ true
      → (are_read_alike old.sup new.sup ≡ true) × (touched live.address ≡ false) × (stands_untouched none_touched old.seen live ≡ true)
  unfolding is_shared_by
  unchanged_parts live is =
      by (are_read_alike old.sup new.sup) _ (touched live.address) (stands_untouched none_touched old.seen live) _ is
    where
      by : (a s t b c : Bool) → (a && ((s && not t) && (b && c))) ≡ true → (a ≡ true) × (t ≡ false) × (b ≡ true)
      by true true false true c is = (refl, refl, refl)
      by true true false false c is = absurd (cc)
      by true true true b c is = absurd (cc)
      by true false t b c is = absurd (cc)
      by false s t b c is = absurd (cc)

  -- no leaf that is unchanged is marked
  leaf_unmarked : (trees : List Tree) (pairs : Pairs) (marked : Marked) → HasTrees image old trees
      → MarksAll image pending old new trees pairs marked
      → (live : Live) → live.level ≡ 0 → is_unchanged old new (written_in pending) (length image) live ≡ true
      → marked live.tree live.address ≡ true → ⊥
  leaf_unmarked trees pairs marked has marks live low is here =
      let told = unchanged_parts live is in
      let walk = trees_walk image old trees has in
      let some = sym (free_all none_touched live old.sup trees old.seen walk.0 walk.1) ∙ told.2 in
      let pick = one_of (MarksTouched old (written_in pending) (length image) marked)
      (λ (tree : Tree). list_any (is_free none_touched live old.sup tree.0) (visited old.sup tree.0 tree.1)) trees (marks.trees_are told.0) some in
      let tree = pick.0 in
      let at = one_of (λ (v : Expect). marked v.tree v.address ≡ comes_to touched old.sup tree.0 v) (is_free none_touched live old.sup tree.0)
      (visited old.sup tree.0 tree.1) pick.1.each pick.2 in
      by tree at.0 told.1 at.1
      (and_parts (are_alike (live_at old.sup tree.0 at.0) live) (not (comes_to none_touched old.sup tree.0 at.0)) at.2).0
    where
      by : (tree : Tree) (v : Expect) → touched live.address ≡ false → marked v.tree v.address ≡ comes_to touched old.sup tree.0 v
          → are_alike (live_at old.sup tree.0 v) live ≡ true → ⊥
      by tree v free mark alike =
          let place = and_parts (v.tree == live.tree && v.address == live.address)
          (v.level == live.level && (v.generation == live.generation && key_same (live_at old.sup tree.0 v).first live.first)) alike in
          let both = and_parts (v.tree == live.tree) (v.address == live.address) place.0 in
          let tree_is : v.tree ≡ live.tree = eqb-true v.tree live.tree both.0 in
          let address_is : v.address ≡ live.address = eqb-true v.address live.address both.1 in
          let level = and_parts (v.level == live.level)
          (v.generation == live.generation && key_same (live_at old.sup tree.0 v).first live.first) place.1 in
          let none : comes_to touched old.sup tree.0 v ≡ false =
          leaf_free touched old.sup tree.0 v (ap touched address_is ∙ free) v.level (eqb-true v.level live.level level.0 ∙ low) in
          let there : marked v.tree v.address ≡ true =
          ap (λ t. marked t v.address) tree_is ∙ (ap (marked live.tree) address_is ∙ here) in
          never (sym there ∙ (mark ∙ none))
        where
          never : true ≡ false → ⊥
          never is = absurd (cc)

  -- a leaf is shared just where it is unchanged
  leaf_shared : (trees : List Tree) (pairs : Pairs) (marked : Marked) → HasTrees image old trees
      → MarksAll image pending old new trees pairs marked
      → ((live : Live) → is_shared old new (written_in pending) (length image) live
      ≡ (is_unchanged old new (written_in pending) (length image) live && not (marked live.tree live.address)))
      → (live : Live) → live.level ≡ 0
      → is_shared old new (written_in pending) (length image) live ≡ is_unchanged old new (written_in pending) (length image) live
  leaf_shared trees pairs marked has marks same live low =
      same live ∙ by (is_unchanged old new (written_in pending) (length image) live) (marked live.tree live.address)
      (leaf_unmarked trees pairs marked has marks live low)
    where
      by : (u m : Bool) → (u ≡ true → m ≡ true → ⊥) → (u && not m) ≡ u
      by true true never = elim (never refl refl) [ ]
      by true false never = refl
      by false m never = refl

-- The items in the leaves of the old pairs that are not shared are those in the leaves of the old pairs that changed.
pub items_old : (image : List ℕ) (pending : FinMap nat_cmp ℕ) (old new : Walked) (trees afters : List Tree) (pairs : Pairs) (marked : Marked)
    → HasTrees image old trees → HasTrees (overlaid pending 0 image) new afters → MarksAll image pending old new trees pairs marked
    → ((live : Live) → is_shared old new (written_in pending) (length image) live
    ≡ (is_unchanged old new (written_in pending) (length image) live && not (marked live.tree live.address)))
    → items_in (unshared_in old new (written_in pending) (length image) old) old.seen
    ≡ items_in (changed_in old new (written_in pending) (length image) old) old.seen
items_old image pending old new trees afters pairs marked has later marks same =
    let walk = trees_walk image old trees has in
    leaves_same old.sup trees old.seen walk.0 walk.1 (λ live. not (is_shared old new (written_in pending) (length image) live))
    (λ live. not (is_unchanged old new (written_in pending) (length image) live))
    (λ live low. ap not (leaf_shared image pending old new trees pairs marked has marks same live low))

-- The same of the new pairs.
pub items_new : (image : List ℕ) (pending : FinMap nat_cmp ℕ) (old new : Walked) (trees afters : List Tree) (pairs : Pairs) (marked : Marked)
    → HasTrees image old trees → HasTrees (overlaid pending 0 image) new afters → MarksAll image pending old new trees pairs marked
    → ((live : Live) → is_shared old new (written_in pending) (length image) live
    ≡ (is_unchanged old new (written_in pending) (length image) live && not (marked live.tree live.address)))
    → items_in (unshared_in old new (written_in pending) (length image) new) new.seen
    ≡ items_in (changed_in old new (written_in pending) (length image) new) new.seen
items_new image pending old new trees afters pairs marked has later marks same =
    let walk = trees_walk (overlaid pending 0 image) new afters later in
    leaves_same new.sup afters new.seen walk.0 walk.1 (λ live. not (is_shared old new (written_in pending) (length image) live))
    (λ live. not (is_unchanged old new (written_in pending) (length image) live))
    (λ live low. ap not (leaf_shared image pending old new trees pairs marked has marks same live low))
