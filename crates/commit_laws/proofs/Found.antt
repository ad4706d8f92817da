-- The blocks that the walks of an image come to, and what accounts see of each.
use Rattle.std.proofs.Common.{◌≡◌, ℕ, ◌==◌, true, false, List, [], ◌∷◌, ◌++◌, refl, ap, sym, subst, ◌∙◌, if◌then◌else◌}
use Rattle.std.proofs.lemmas.List.{map-append}
use Rattle.std.proofs.lemmas.List.Elements.{filter_map-append}
use Rattle.std.specs.Prelude.{Bool, Ok, map}
use Rattle.std.specs.List.{AllByRecursion, filter_map, flat_map}
use Rattle.verdict.proofs.Lists.{all_map as each_map}
use Rattle.verdict.specs.declared.place.At.{At}
use Rattle.super_reader.specs.Superblock.{item_place}
use Rattle.super_reader.specs.declared.Super.{Super}
use Rattle.live_index.specs.declared.live.Live.{Live}
use Rattle.node_reader.specs.Layout.{LeafItem, items_of, pointers_of}
use Rattle.node_reader.specs.Stored.{Stored, stored_in}
use Rattle.node_reader.specs.declared.expect.Expect.{Expect}
use Rattle.node_reader.specs.declared.expect.Pointer.{Pointer}
use Rattle.records.specs.Item.{item_record}
use Rattle.records.specs.Part.{Located}
use Rattle.records.specs.Seen.{Seen, accounted}
use Rattle.records.specs.Seen.Seen.{BlockSeen, ItemSeen, PointerSeen}
use Rattle.records.specs.Walk.{each, entry_records, just, leaf_record, leaf_records, pointer_records, walk_of}
use Rattle.records.specs.WalkLaw.{visited}
use Rattle.tree_laws.specs.Keeping.{live_at}
use Rattle.tree_laws.specs.LivePairs.{Walked, live_in, walked}
use Rattle.tree_laws.specs.MergedLaw.{items}
use Rattle.tree_laws.specs.Skips.{own_of}
use Rattle.tree_laws.specs.TableLaw.{AreApart, Tree, trees_in}
use Rattle.tree_laws.specs.Unshared.{item_seen}
use Rattle.tree_laws.proofs.Forest.{all_lives, lives_all, lives_of, then_ok, walks}
use Rattle.tree_laws.proofs.KeptImage.{IsOfImage, of_image}
use Rattle.tree_laws.proofs.Lives.{NoBlocks, entries_none}
use Rattle.tree_laws.proofs.Merged.{read_of, walks_of}
use Rattle.tree_laws.proofs.Trails.{Matches, Visit, all_own, all_own_append}
use Rattle.tree_laws.proofs.Treed.{has_trees, steps_of, trees_walk}
use Rattle.tree_laws.proofs.Within.{one_own}
use Rattle.commit_laws.specs.Same.{live_record}

-- these items stand in the block of a tree at an address
abbrev pub StandAt : ℕ → ℕ → List Located → Type 0
StandAt tree address found = AllByRecursion (λ (one : Located). (one.tree ≡ tree) × (one.block ≡ address)) found

leaf_at : (at : At) (leaves : List LeafItem) (entries : List Seen) → each (λ item. just (leaf_record at item)) leaves ≡ Ok entries
    → StandAt at.tree at.block (items entries)
leaf_at at [] entries is = let none : [] ≡ entries = cc in subst (λ es. StandAt at.tree at.block (items es)) none tt
leaf_at at (item ∷ leaves) entries is =
    let rest = one_own item at (item_record at item.key item.bytes) (each (λ item. just (leaf_record at item)) leaves) entries is in
    subst (λ es. StandAt at.tree at.block (items es)) rest.3 ((refl, refl), leaf_at at leaves rest.1 rest.2)

node_at : (e : Expect) (pointers : List Pointer) → StandAt e.tree e.address (items (pointer_records e pointers))
node_at e [] = tt
node_at e (pointer ∷ pointers) = node_at e pointers

entries_at : (sup : Super) (e : Expect) (bytes : List ℕ) (entries : List Seen) → entry_records sup e bytes ≡ Ok entries
    → StandAt e.tree e.address (items entries)
unfolding leaf_records
entries_at sup e bytes entries is = by (e.level == 0) is
  where
    by : (leaf : Bool)
        → (if leaf then each (λ item. just (leaf_record (item_place sup e.tree e.address e.generation) item)) (items_of bytes)
        else Ok (pointer_records e (pointers_of bytes))) ≡ Ok entries → StandAt e.tree e.address (items entries)
    by true is = leaf_at (item_place sup e.tree e.address e.generation) (items_of bytes) entries is
    by false is =
        let same : pointer_records e (pointers_of bytes) ≡ entries = cc in
        subst (λ es. StandAt e.tree e.address (items es)) same (node_at e (pointers_of bytes))

-- where none is the record of a block, accounts see the items
accounts_none : (entries : List Seen) → NoBlocks entries → filter_map accounted entries ≡ items entries
accounts_none [] none = refl
accounts_none (BlockSeen one ∷ more) none = elim none [ ]
accounts_none (PointerSeen one ∷ more) none = accounts_none more none
accounts_none (ItemSeen one ∷ more) none = ap (λ found. one ∷ found) (accounts_none more none)

module _ (sup : Super) (stored : Stored) where
  -- the live pair of a block that a walk comes to, and what accounts see of the block: itself and its items
  abbrev pub pair_at : Visit → Live
  pair_at v = live_at sup stored v.e

  abbrev pub items_at : Visit → List Located
  items_at v = items v.own

  abbrev pub seen_at : Visit → List Located
  seen_at v = live_record (pair_at v) ∷ items_at v

  -- a block with its own records
  abbrev pub Owns : Visit → Type 0
  Owns v = own_of sup stored v.e ≡ Ok v.own

  accounts_own : (v : Visit) → Owns v → filter_map accounted v.own ≡ seen_at v
  accounts_own v is =
      let r = read_of sup stored v.e v.own is in
      let head = live_record (pair_at v) in
      ap (filter_map accounted) r.own_is
      ∙ (ap (λ found. head ∷ found) (accounts_none r.entries (entries_none sup v.e r.bytes r.entries r.has))
      ∙ ap (λ own. head ∷ items own) (sym r.own_is))

  pub stand_at : (v : Visit) → Owns v → StandAt (pair_at v).tree (pair_at v).address (items_at v)
  stand_at v is =
      let r = read_of sup stored v.e v.own is in
      subst (λ own. StandAt v.e.tree v.e.address (items own)) (sym r.own_is) (entries_at sup v.e r.bytes r.entries r.has)

  pub accounts_all : (visits : List Visit) → AllByRecursion Owns visits → filter_map accounted (all_own visits) ≡ flat_map seen_at visits
  accounts_all [] own = refl
  accounts_all (v ∷ visits) own =
      filter_map-append accounted v.own (all_own visits)
      ∙ (ap (λ found. found ++ filter_map accounted (all_own visits)) (accounts_own v own.0)
      ∙ ap (λ found. seen_at v ++ found) (accounts_all visits own.1))

  pub items_all : (visits : List Visit) → items (all_own visits) ≡ flat_map items_at visits
  items_all [] = refl
  items_all (v ∷ visits) =
      filter_map-append item_seen v.own (all_own visits) ∙ ap (λ found. items_at v ++ found) (items_all visits)

  -- the blocks that walks come to, with their own records: these are all records, and their pairs are all live pairs
  pub record Visited (seen : List Seen) (lives : List Live) : Type 0 where
    pub visits : List Visit
    pub own : AllByRecursion Owns visits
    pub all : all_own visits ≡ seen
    pub pairs : lives ≡ map pair_at visits

  all_append : (a b : List Visit) → AllByRecursion Owns a → AllByRecursion Owns b → AllByRecursion Owns (a ++ b)
  all_append [] b x y = y
  all_append (v ∷ a) b x y = (x.0, all_append a b x.1 y)

  matched : (visits : List Visit) (es : List Expect) → Matches sup stored visits es
      → AllByRecursion Owns visits × (map (live_at sup stored) es ≡ map pair_at visits)
  matched [] [] m = (tt, refl)
  matched [] (e ∷ es) m = elim m [ ]
  matched (v ∷ visits) [] m = elim m [ ]
  matched (v ∷ visits) (e ∷ es) m =
      let rest = matched visits es m.1 in (
        (subst (λ x. own_of sup stored x ≡ Ok v.own) (sym m.0.0) m.0.1, rest.0),
        ap (λ x. live_at sup stored x ∷ map (live_at sup stored) es) (sym m.0.0) ∙ ap (λ lives. pair_at v ∷ lives) rest.1,
      )

  walk_visited : (root : Expect) (records : List Seen) → walk_of sup stored root ≡ Ok records
      → Visited records (map (live_at sup stored) (visited sup stored root))
  walk_visited root records is =
      let w = walks_of sup stored root records is in
      let m = matched w.visits (visited sup stored root) w.matches in
      record { visits = w.visits; own = m.0; all = w.all; pairs = m.1 }

  one_visited : (tree : Tree) (records : List Seen) → tree.0 ≡ stored → walk_of sup tree.0 tree.1 ≡ Ok records
      → Visited records (lives_of sup tree)
  one_visited tree records same is =
      subst (λ s. Visited records (map (live_at sup s) (visited sup s tree.1))) (sym same)
      (walk_visited tree.1 records (subst (λ s. walk_of sup s tree.1 ≡ Ok records) same is))

  pub trees_visited : (trees : List Tree) → AllByRecursion (λ (tree : Tree). tree.0 ≡ stored) trees → (seen : List Seen)
      → walks sup trees ≡ Ok seen → Visited seen (all_lives sup trees)
  trees_visited [] same seen is = let none : [] ≡ seen = cc in record { visits = []; own = tt; all = none; pairs = refl }
  trees_visited (tree ∷ trees) same seen is =
      let split = then_ok (walk_of sup tree.0 tree.1) (walks sup trees) seen is in
      let a = one_visited tree split.0 same.0 split.2 in
      let b = trees_visited trees same.1 split.1 split.3 in
      record {
        visits = a.visits ++ b.visits;
        own = all_append a.visits b.visits a.own b.own;
        all = all_own_append a.visits b.visits
            ∙ (ap (λ own. own ++ all_own b.visits) a.all ∙ (ap (λ own. split.0 ++ own) b.all ∙ sym split.4));
        pairs = ap (λ lives. lives ++ all_lives sup trees) a.pairs
            ∙ (ap (λ lives. map pair_at a.visits ++ lives) b.pairs ∙ sym (map-append pair_at a.visits b.visits));
      }

-- what is stored of the blocks of an image
abbrev pub stored_of : List ℕ → Walked → Stored
stored_of image whole = stored_in image whole.chunks whole.sup.nodesize

-- the trees of an image, of which no two have one id, and the blocks that their walks come to
pub record Found (image : List ℕ) (whole : Walked) : Type 0 where
  pub trees : List Tree
  pub apart : AreApart trees
  pub walk : walks whole.sup trees ≡ Ok whole.seen
  pub blocks : Visited whole.sup (stored_of image whole) whole.seen (live_in whole.seen)

pub found_of : (image : List ℕ) (whole : Walked) → walked image ≡ Ok whole → Found image whole
found_of image whole is =
    let s = steps_of image whole is in
    let trees = trees_in whole.sup whole.chunks whole.chunks s.roots image in
    let has = has_trees image whole s is in
    let w = trees_walk image whole trees has in
    let same =
    each_map (IsOfImage image whole) (λ (tree : Tree). tree.0 ≡ stored_of image whole) trees (λ tree of. of.stored)
    (of_image image whole trees has) in
    record {
      trees = trees;
      apart = w.0;
      walk = w.1;
      blocks = subst (Visited whole.sup (stored_of image whole) whole.seen) (sym (lives_all whole.sup trees whole.seen w.0 w.1))
          (trees_visited whole.sup (stored_of image whole) trees same whole.seen w.1);
    }
