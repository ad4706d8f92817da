-- The records of trees of different ids, split by the ids.
use Rattle.std.proofs.Common.{◌≡◌, ℕ, ◌==◌, Bool, true, false, not, ◌&&◌, List, [], ◌∷◌, ◌++◌, refl, ap, sym, subst, ◌∙◌, arith, if◌then◌else◌}
use Rattle.std.proofs.lemmas.Bool.Decides.{nat_tests}
use Rattle.std.proofs.lemmas.List.Elements.{filter-append, filter_map-append}
use Rattle.std.specs.Prelude.{Ok, map}
use Rattle.std.specs.List.{AllByRecursion, filter, list_any}
use Rattle.std.specs.Result.{IsOk}
use Rattle.verdict.specs.declared.place.At.{At}
use Rattle.super_reader.specs.Superblock.{item_place}
use Rattle.super_reader.specs.declared.Super.{Super}
use Rattle.live_index.specs.declared.live.Live.{Live}
use Rattle.node_reader.specs.Layout.{LeafItem, items_of, pointers_of}
use Rattle.node_reader.specs.Stored.{Stored}
use Rattle.node_reader.specs.declared.expect.Expect.{Expect}
use Rattle.node_reader.specs.declared.expect.Pointer.{Pointer}
use Rattle.records.specs.Item.{item_record}
use Rattle.records.specs.Part.{Located}
use Rattle.records.specs.Seen.{Seen}
use Rattle.records.specs.Seen.Seen.{BlockSeen, ItemSeen, PointerSeen}
use Rattle.records.specs.Walk.{each, entry_records, just, leaf_record, leaf_records, pointer_records, walk_of}
use Rattle.records.specs.WalkLaw.{visited}
use Rattle.tree_laws.specs.Keeping.{live_at}
use Rattle.tree_laws.specs.LivePairs.{live_in}
use Rattle.tree_laws.specs.MergedLaw.{items}
use Rattle.tree_laws.specs.TableLaw.{AreApart, Tree, is_other}
use Rattle.tree_laws.specs.Unshared.{item_seen, items_in}
use Rattle.tree_laws.proofs.Forest.{NoneOf, all_lives, lives_all, lives_of, of_other, of_root, others_after, then_ok, walks}
use Rattle.tree_laws.proofs.Lives.{lives_are}
use Rattle.tree_laws.proofs.Merged.{read_of, walks_of}
use Rattle.tree_laws.proofs.Trails.{Matches, Visit, all_own}
use Rattle.tree_laws.proofs.Within.{one_own}
use Rattle.tree_change.proofs.Unordered.{all_of_id, listed, none_of_id, of_id}

-- these items are of a tree
abbrev pub ItemsOf : ℕ → List Located → Type 0
ItemsOf tree found = AllByRecursion (λ (one : Located). one.tree ≡ tree) found

-- what a block has is of its tree
leaf_of : (at : At) (leaves : List LeafItem) (entries : List Seen) → each (λ item. just (leaf_record at item)) leaves ≡ Ok entries
    → ItemsOf at.tree (items entries)
leaf_of at [] entries is = let none : [] ≡ entries = cc in subst (λ es. ItemsOf at.tree (items es)) none tt
leaf_of at (item ∷ leaves) entries is =
    let rest = one_own item at (item_record at item.key item.bytes) (each (λ item. just (leaf_record at item)) leaves) entries is in
    subst (λ es. ItemsOf at.tree (items es)) rest.3 (refl, leaf_of at leaves rest.1 rest.2)

node_of : (tree : ℕ) (e : Expect) (pointers : List Pointer) → ItemsOf tree (items (pointer_records e pointers))
node_of tree e [] = tt
node_of tree e (pointer ∷ pointers) = node_of tree e pointers

entries_of : (sup : Super) (e : Expect) (bytes : List ℕ) (entries : List Seen) → entry_records sup e bytes ≡ Ok entries
    → ItemsOf e.tree (items entries)
unfolding leaf_records
entries_of sup e bytes entries is = by (e.level == 0) is
  where
    by : (leaf : Bool)
        → (if leaf then each (λ item. just (leaf_record (item_place sup e.tree e.address e.generation) item)) (items_of bytes)
        else Ok (pointer_records e (pointers_of bytes))) ≡ Ok entries → ItemsOf e.tree (items entries)
    by true is = leaf_of (item_place sup e.tree e.address e.generation) (items_of bytes) entries is
    by false is =
        let same : pointer_records e (pointers_of bytes) ≡ entries = cc in
        subst (λ es. ItemsOf e.tree (items es)) same (node_of e.tree e (pointers_of bytes))

items_append : (tree : ℕ) (a b : List Located) → ItemsOf tree a → ItemsOf tree b → ItemsOf tree (a ++ b)
items_append tree [] b x y = y
items_append tree (one ∷ a) b x y = (x.0, items_append tree a b x.1 y)

-- and so is what a walk gives
pub walk_items : (sup : Super) (stored : Stored) (root : Expect) (records : List Seen) → walk_of sup stored root ≡ Ok records
    → ItemsOf root.tree (items records)
walk_items sup stored root records is =
    let w = walks_of sup stored root records is in
    subst (λ r. ItemsOf root.tree (items r)) w.all
    (by w.visits (visited sup stored root) w.matches (of_root sup (stored, root) (rw is refl)).each)
  where
    by : (visits : List Visit) (es : List Expect) → Matches sup stored visits es → AllByRecursion (λ v. v.tree ≡ root.tree) es
        → ItemsOf root.tree (items (all_own visits))
    by [] es m of = tt
    by (v ∷ visits) [] m of = elim m [ ]
    by (v ∷ visits) (e ∷ es) m of =
        let r = read_of sup stored e v.own m.0.1 in
        subst (ItemsOf root.tree) (sym (filter_map-append item_seen v.own (all_own visits)))
        (items_append root.tree (items v.own) (items (all_own visits))
        (subst (λ t. ItemsOf t (items v.own)) of.0
        (subst (λ own. ItemsOf e.tree (items own)) (sym r.own_is) (entries_of sup e r.bytes r.entries r.has)))
        (by visits es m.1 of.1))

items_other : (id tree : ℕ) (found : List Located) → (tree == id) ≡ false → ItemsOf tree found
    → AllByRecursion (λ (one : Located). (one.tree == id) ≡ false) found
items_other id tree [] other all = tt
items_other id tree (one ∷ found) other all = (rw all.0 other, items_other id tree found other all.1)

-- records are those of an id
pub record IsOf (id : ℕ) (records seen : List Seen) : Type 0 where
  pub lives : live_in records ≡ of_id (λ (live : Live). live.tree) id (live_in seen)
  pub found : items records ≡ of_id (λ (one : Located). one.tree) id (items seen)

abbrev live_id : Live → ℕ
live_id live = live.tree

abbrev item_id : Located → ℕ
item_id one = one.tree

-- each live pair and each item is of one of these ids
pub record AreListed (ids : List ℕ) (seen : List Seen) : Type 0 where
  pub lives : AllByRecursion (λ (live : Live). listed live.tree ids ≡ true) (live_in seen)
  pub found : AllByRecursion (λ (one : Located). listed one.tree ids ≡ true) (items seen)

module _ (sup : Super) where
  lives_own : (tree : Tree) → IsOk (walk_of sup tree.0 tree.1) → AllByRecursion (λ (live : Live). live.tree ≡ tree.1.tree) (lives_of sup tree)
  lives_own tree fine = by (visited sup tree.0 tree.1) (of_root sup tree fine).each
    where
      by : (es : List Expect) → AllByRecursion (λ v. v.tree ≡ tree.1.tree) es
          → AllByRecursion (λ (live : Live). live.tree ≡ tree.1.tree) (map (live_at sup tree.0) es)
      by [] all = tt
      by (e ∷ es) all = (all.0, by es all.1)

  -- a tree before others
  pub record First (tree : Tree) (trees : List Tree) (seen : List Seen) : Type 0 where
    pub own : List Seen
    pub others : List Seen
    pub walk : walk_of sup tree.0 tree.1 ≡ Ok own
    pub rest : walks sup trees ≡ Ok others
    pub own_lives : live_in own ≡ lives_of sup tree
    pub lives : live_in seen ≡ live_in own ++ live_in others
    pub found : items seen ≡ items own ++ items others

  pub first_of : (tree : Tree) (trees : List Tree) (seen : List Seen) → AreApart (tree ∷ trees) → walks sup (tree ∷ trees) ≡ Ok seen
      → First tree trees seen
  first_of tree trees seen apart is =
      let split = then_ok (walk_of sup tree.0 tree.1) (walks sup trees) seen is in
      let own : live_in split.0 ≡ lives_of sup tree = lives_are sup tree.0 tree.1 split.0 split.2 in
      record {
        own = split.0;
        others = split.1;
        walk = split.2;
        rest = split.3;
        own_lives = own;
        lives = lives_all sup (tree ∷ trees) seen apart is
            ∙ (ap (λ ls. ls ++ all_lives sup trees) (sym own) ∙ ap (λ ls. live_in split.0 ++ ls)
            (sym (lives_all sup trees split.1 apart.1 split.3)));
        found = ap items split.4 ∙ filter_map-append item_seen split.0 split.1;
      }

  -- no records are those of an id that no tree has
  pub none_of : (trees : List Tree) (seen : List Seen) (id : ℕ) → AreApart trees → walks sup trees ≡ Ok seen → NoneOf sup id trees → IsOf id [] seen
  unfolding live_in
  none_of [] seen id apart is none = let h : [] ≡ seen = cc in subst (IsOf id []) h (record { lives = refl; found = refl })
  none_of (tree ∷ trees) seen id apart is none =
      let f = first_of tree trees seen apart is in
      let more = none_of trees f.others id apart.1 f.rest none.1 in
      let lives = none_of_id live_id id (live_in f.own) (rw f.own_lives (of_other sup tree id (rw f.walk refl) none.0)) in
      let found = none_of_id item_id id (items f.own)
      (items_other id tree.1.tree (items f.own) none.0 (walk_items sup tree.0 tree.1 f.own f.walk)) in
      record {
        lives = more.lives ∙ sym (ap (of_id live_id id) f.lives ∙ (filter-append (λ live. live_id live == id) (live_in f.own) (live_in f.others)
            ∙ ap (λ ls. ls ++ of_id live_id id (live_in f.others)) lives));
        found = more.found ∙ sym (ap (of_id item_id id) f.found ∙ (filter-append (λ one. item_id one == id) (items f.own) (items f.others)
            ∙ ap (λ ls. ls ++ of_id item_id id (items f.others)) found));
      }

  -- the records of a tree are those of its id
  abbrev pub Gives : List Seen → Tree → Type 0
  Gives seen tree = (records : List Seen) × (walk_of sup tree.0 tree.1 ≡ Ok records) × IsOf tree.1.tree records seen

  pub of_trees : (trees : List Tree) (seen : List Seen) → AreApart trees → walks sup trees ≡ Ok seen → AllByRecursion (Gives seen) trees
  unfolding live_in
  of_trees [] seen apart is = tt
  of_trees (tree ∷ trees) seen apart is = (here, later trees apart.0 (of_trees trees f.others apart.1 f.rest))
    where
      f : First tree trees seen
      f = first_of tree trees seen apart is

      fine : IsOk (walk_of sup tree.0 tree.1)
      fine = rw f.walk refl

      append_none : {A : Type 0} (a : List A) → a ++ [] ≡ a
      append_none [] = refl
      append_none (x ∷ a) = ap (λ more. x ∷ more) (append_none a)

      here : Gives seen tree
      here =
          let id = tree.1.tree in
          let none = none_of trees f.others id apart.1 f.rest (others_after sup tree trees apart.0) in
          let lives = all_of_id live_id id (live_in f.own) (rw f.own_lives (lives_own tree fine)) in
          let found = all_of_id item_id id (items f.own) (walk_items sup tree.0 tree.1 f.own f.walk) in (
            f.own,
            f.walk,
            record {
              lives = sym (ap (of_id live_id id) f.lives ∙ (filter-append (λ live. live_id live == id) (live_in f.own) (live_in f.others)
                  ∙ (ap (λ ls. ls ++ of_id live_id id (live_in f.others)) lives
                  ∙ (ap (λ ls. live_in f.own ++ ls) (sym none.lives) ∙ append_none (live_in f.own)))));
              found = sym (ap (of_id item_id id) f.found ∙ (filter-append (λ one. item_id one == id) (items f.own) (items f.others)
                  ∙ (ap (λ ls. ls ++ of_id item_id id (items f.others)) found
                  ∙ (ap (λ ls. items f.own ++ ls) (sym none.found) ∙ append_none (items f.own)))));
            },
          )

      apart_is : (m n : ℕ) → not (m == n) ≡ true → (m == n) ≡ false
      apart_is m n is = grind (arith, nat_tests)

      one : (t : Tree) → is_other tree t ≡ true → Gives f.others t → Gives seen t
      one t other gives =
          let id = t.1.tree in
          let apart = apart_is tree.1.tree id other in
          let lives = none_of_id live_id id (live_in f.own) (rw f.own_lives (of_other sup tree id fine apart)) in
          let found = none_of_id item_id id (items f.own)
          (items_other id tree.1.tree (items f.own) apart (walk_items sup tree.0 tree.1 f.own f.walk)) in (
            gives.0,
            gives.1,
            record {
              lives = gives.2.lives ∙ sym
                  (ap (of_id live_id id) f.lives ∙ (filter-append (λ live. live_id live == id) (live_in f.own) (live_in f.others)
                  ∙ ap (λ ls. ls ++ of_id live_id id (live_in f.others)) lives));
              found = gives.2.found ∙ sym (ap (of_id item_id id) f.found ∙ (filter-append (λ one. item_id one == id) (items f.own) (items f.others)
                  ∙ ap (λ ls. ls ++ of_id item_id id (items f.others)) found));
            },
          )

      later : (some : List Tree) → AllByRecursion (λ t. is_other tree t ≡ true) some → AllByRecursion (Gives f.others) some
          → AllByRecursion (Gives seen) some
      later [] others all = tt
      later (t ∷ some) others all = (one t others.0 all.0, later some others.1 all.1)

  pub are_listed : (ids : List ℕ) (trees : List Tree) (seen : List Seen) → AreApart trees → walks sup trees ≡ Ok seen
      → AllByRecursion (λ t. listed t.1.tree ids ≡ true) trees → AreListed ids seen
  unfolding live_in
  are_listed ids [] seen apart is all = let h : [] ≡ seen = cc in subst (AreListed ids) h (record { lives = tt; found = tt })
  are_listed ids (tree ∷ trees) seen apart is all =
      let f = first_of tree trees seen apart is in
      let more = are_listed ids trees f.others apart.1 f.rest all.1 in
      record {
        lives = subst (AllByRecursion (λ (live : Live). listed live.tree ids ≡ true)) (sym f.lives)
            (joined (λ (live : Live). listed live.tree ids ≡ true) (live_in f.own) (live_in f.others)
            (rw f.own_lives (of_lives (lives_of sup tree) (lives_own tree (rw f.walk refl)))) more.lives);
        found = subst (AllByRecursion (λ (one : Located). listed one.tree ids ≡ true)) (sym f.found)
            (joined (λ (one : Located). listed one.tree ids ≡ true) (items f.own) (items f.others)
            (of_items (items f.own) (walk_items sup tree.0 tree.1 f.own f.walk)) more.found);
      }
    where
      joined : {A : Type 0} (P : A → Type 0) (a b : List A) → AllByRecursion P a → AllByRecursion P b → AllByRecursion P (a ++ b)
      joined P [] b x y = y
      joined P (one ∷ a) b x y = (x.0, joined P a b x.1 y)

      of_lives : (ls : List Live) → AllByRecursion (λ (live : Live). live.tree ≡ tree.1.tree) ls
          → AllByRecursion (λ (live : Live). listed live.tree ids ≡ true) ls
      of_lives [] each = tt
      of_lives (live ∷ ls) each = (rw each.0 all.0, of_lives ls each.1)

      of_items : (ls : List Located) → ItemsOf tree.1.tree ls → AllByRecursion (λ (one : Located). listed one.tree ids ≡ true) ls
      of_items [] each = tt
      of_items (one ∷ ls) each = (rw each.0 all.0, of_items ls each.1)

-- whether an item stands in the leaf of one of these pairs
abbrev pub stands_in : List Live → Located → Bool
stands_in lives one = list_any (λ (live : Live). live.tree == one.tree && live.address == one.block) lives

-- the items in the leaves of some pairs, among all
pub items_filter : (lives : List Live) (seen : List Seen) → items_in lives seen ≡ filter (stands_in lives) (items seen)
items_filter lives [] = refl
items_filter lives (BlockSeen block ∷ seen) = items_filter lives seen
items_filter lives (PointerSeen pointer ∷ seen) = items_filter lives seen
items_filter lives (ItemSeen one ∷ seen) = by (stands_in lives one) refl (items_filter lives seen)
  where
    by : (b : Bool) → stands_in lives one ≡ b → items_in lives seen ≡ filter (stands_in lives) (items seen)
        → items_in lives (ItemSeen one ∷ seen) ≡ filter (stands_in lives) (items (ItemSeen one ∷ seen))
    by true is rest = rw is (ap (λ ls. one ∷ ls) rest)
    by false is rest = rw is rest
