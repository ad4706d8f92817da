-- The table of the live pairs of several trees stands for each.
use Rattle.std.proofs.Common.{◌≡◌, ℕ, ◌==◌, true, false, not, ◌&&◌, List, [], ◌∷◌, ◌++◌, refl, ap, sym, subst, ◌∙◌, arith, if◌then◌else◌}
use Rattle.std.proofs.lemmas.Bool.Decides.{nat_tests}
use Rattle.std.specs.Prelude.{Option, Some, None, IfSome, Ok, Err, map}
use Rattle.std.specs.List.{AllByRecursion, flat_map}
use Rattle.std.specs.Result.{IsOk}
use Rattle.super_reader.specs.declared.Super.{Super}
use Rattle.live_index.specs.Pairs.{Pairs}
use Rattle.live_index.specs.declared.live.Live.{Live}
use Rattle.node_reader.specs.declared.expect.Expect.{Expect}
use Rattle.records.specs.Seen.{Seen}
use Rattle.records.specs.Seen.Seen.{BlockSeen, PointerSeen, ItemSeen}
use Rattle.records.specs.Walk.{Records, behind, each, then_records, walk_of}
use Rattle.records.specs.WalkLaw.{visited}
use Rattle.tree_laws.specs.Keeping.{Comes, IsKnown, OneOf, Stands, live_at}
use Rattle.tree_laws.specs.LivePairs.{live_in, table_of}
use Rattle.tree_laws.specs.TableLaw.{AreApart, TablesLaw, Tree, TreeTableLaw, is_other}
use Rattle.tree_laws.proofs.Climbing.{of_tree}
use Rattle.tree_laws.proofs.Lives.{Stops, Told, lives_are, told}
use Rattle.tree_laws.proofs.Tables.{Any, any_each, stands_for}
use Rattle.tree_laws.proofs.Visiting.{comes_from, visits_from}

pub tree_table : TreeTableLaw
tree_table sup stored root records is =
    subst (λ lives. Stands (table_of lives) sup stored root) (sym (lives_are sup stored root records is)) (stands_for sup stored root (rw is refl))

-- none of these pairs is of a tree
abbrev pub OfOthers : ℕ → List Live → Type 0
OfOthers tree lives = AllByRecursion (λ live. (live.tree == tree) ≡ false) lives

others_append : (tree : ℕ) (a b : List Live) → OfOthers tree a → OfOthers tree b → OfOthers tree (a ++ b)
others_append tree [] b x y = y
others_append tree (live ∷ a) b x y = (x.0, others_append tree a b x.1 y)

pub table_none : (lives : List Live) (tree address : ℕ) → OfOthers tree lives → table_of lives tree address ≡ None
table_none [] tree address others = refl
table_none (live ∷ lives) tree address others = rw others.0 (table_none lives tree address others.1)

table_later : (a b : List Live) (tree address : ℕ) → OfOthers tree a → table_of (a ++ b) tree address ≡ table_of b tree address
table_later [] b tree address others = refl
table_later (live ∷ a) b tree address others = rw others.0 (table_later a b tree address others.1)

table_first : (a b : List Live) (tree address : ℕ) → OfOthers tree b → table_of (a ++ b) tree address ≡ table_of a tree address
table_first [] b tree address others = table_none b tree address others
table_first (live ∷ a) b tree address others =
    ap (λ (entry : Option Live). if live.tree == tree && live.address == address then Some live else entry) (table_first a b tree address others)

-- the records of two, where neither has a finding
pub then_ok : (first later : Records) (records : List Seen) → then_records first later ≡ Ok records → (a b : List Seen) × (first ≡ Ok a) × (later ≡ Ok b) × (records ≡ a ++ b)
unfolding behind
then_ok (Err finding) later records is = absurd (cc)
then_ok (Ok a) (Err finding) records is = absurd (cc)
then_ok (Ok a) (Ok b) records is = (a, b, refl, refl, cc)

module _ (sup : Super) where
  -- the live pairs of a tree, and of several
  abbrev pub lives_of : Tree → List Live
  lives_of tree = map (live_at sup tree.0) (visited sup tree.0 tree.1)

  abbrev pub all_lives : List Tree → List Live
  all_lives trees = flat_map lives_of trees

  abbrev pub walks : List Tree → Records
  walks trees = each (λ tree. walk_of sup tree.0 tree.1) trees

  -- none of these trees has an id
  abbrev pub NoneOf : ℕ → List Tree → Type 0
  NoneOf id trees = AllByRecursion (λ tree. (tree.1.tree == id) ≡ false) trees

  -- all blocks of a walk are of its tree
  pub of_root : (tree : Tree) → IsOk (walk_of sup tree.0 tree.1) → Comes (λ v. v.tree ≡ tree.1.tree) sup tree.0 tree.1
  of_root tree fine =
      comes_from (λ v. v.tree ≡ tree.1.tree) sup tree.0 tree.1
      (of_tree (Any sup tree.0) sup tree.0 tree.1 (visits_from (Any sup tree.0) sup tree.0 tree.1 (record { fine = fine; each = any_each sup tree.0 (visited sup tree.0 tree.1) })))

  pub of_other : (tree : Tree) (id : ℕ) → IsOk (walk_of sup tree.0 tree.1) → (tree.1.tree == id) ≡ false → OfOthers id (lives_of tree)
  of_other tree id fine other = by (visited sup tree.0 tree.1) (of_root tree fine).each
    where
      by : (es : List Expect) → AllByRecursion (λ v. v.tree ≡ tree.1.tree) es → OfOthers id (map (live_at sup tree.0) es)
      by [] all = tt
      by (e ∷ es) all = (rw all.0 other, by es all.1)

  -- records of a tree end what is below a block of another
  other_stops : (tree : Tree) (records rest : List Seen) (id level : ℕ) → Told sup tree.0 tree.1 records → (tree.1.tree == id) ≡ false → Stops id level rest → Stops id level (records ++ rest)
  other_stops tree [] rest id level t other stops = stops
  other_stops tree (BlockSeen one ∷ records) rest id level t other stops = rw (t.inside.0.0, other) refl
  other_stops tree (PointerSeen one ∷ records) rest id level t other stops = elim (t.heads [] tt) [ ]
  other_stops tree (ItemSeen one ∷ records) rest id level t other stops = elim (t.heads [] tt) [ ]

  pub stops_none : (trees : List Tree) (records : List Seen) (id level : ℕ) → walks trees ≡ Ok records → NoneOf id trees → Stops id level records
  stops_none [] records id level is none = let h : [] ≡ records = cc in subst (Stops id level) h tt
  stops_none (tree ∷ trees) records id level is none =
      let split = then_ok (walk_of sup tree.0 tree.1) (walks trees) records is in
      subst (Stops id level) (sym split.4)
      (other_stops tree split.0 split.1 id level (told sup tree.0 tree.1 split.0 split.2) none.0 (stops_none trees split.1 id level split.3 none.1))

  -- trees of other ids than a tree
  pub others_after : (tree : Tree) (trees : List Tree) → AllByRecursion (λ b. is_other tree b ≡ true) trees → NoneOf tree.1.tree trees
  others_after tree [] all = tt
  others_after tree (b ∷ trees) all = (swap tree.1.tree b.1.tree all.0, others_after tree trees all.1)
    where
      swap : (m n : ℕ) → not (m == n) ≡ true → (n == m) ≡ false
      swap m n is = grind (arith, nat_tests)

  pub lives_all : (trees : List Tree) (records : List Seen) → AreApart trees → walks trees ≡ Ok records → live_in records ≡ all_lives trees
  unfolding live_in
  lives_all [] records apart is = let h : [] ≡ records = cc in sym (ap live_in h)
  lives_all (tree ∷ trees) records apart is =
      let split = then_ok (walk_of sup tree.0 tree.1) (walks trees) records is in
      ap live_in split.4
      ∙ ((told sup tree.0 tree.1 split.0 split.2).gives split.1 (stops_none trees split.1 tree.1.tree tree.1.level split.3 (others_after tree trees apart.0))
      ∙ ap (λ ls. lives_of tree ++ ls) (lives_all trees split.1 apart.1 split.3))

  pub others_all : (trees : List Tree) (records : List Seen) (id : ℕ) → walks trees ≡ Ok records → NoneOf id trees → OfOthers id (all_lives trees)
  others_all [] records id is none = tt
  others_all (tree ∷ trees) records id is none =
      let split = then_ok (walk_of sup tree.0 tree.1) (walks trees) records is in
      others_append id (lives_of tree) (all_lives trees) (of_other tree id (rw split.2 refl) none.0) (others_all trees split.1 id split.3 none.1)

  -- a table that is the same for a tree stands for it too
  pub stands_as : (tree : Tree) (pairs others : Pairs) → ((address : ℕ) → others tree.1.tree address ≡ pairs tree.1.tree address) → Stands pairs sup tree.0 tree.1 → Stands others sup tree.0 tree.1
  stands_as tree pairs others same stands = record {
    each = record { fine = stands.each.fine; each = by (visited sup tree.0 tree.1) (of_root tree stands.each.fine).each stands.each.each };
    only = λ address. subst (λ (entry : Option Live). IfSome entry (λ live. OneOf (IsKnown sup tree.0 tree.1.tree address live) (visited sup tree.0 tree.1))) (sym (same address)) (stands.only address);
  }
    where
      by : (es : List Expect) → AllByRecursion (λ v. v.tree ≡ tree.1.tree) es → AllByRecursion (λ v. pairs v.tree v.address ≡ Some (live_at sup tree.0 v)) es
          → AllByRecursion (λ v. others v.tree v.address ≡ Some (live_at sup tree.0 v)) es
      by [] of all = tt
      by (e ∷ es) of all = (ap (λ t. others t e.address) of.0 ∙ (same e.address ∙ (ap (λ t. pairs t e.address) (sym of.0) ∙ all.0)), by es of.1 all.1)

  pub stand_all : (trees : List Tree) (records : List Seen) → AreApart trees → walks trees ≡ Ok records
      → AllByRecursion (λ tree. Stands (table_of (all_lives trees)) sup tree.0 tree.1) trees
  stand_all [] records apart is = tt
  stand_all (tree ∷ trees) records apart is =
      let split = then_ok (walk_of sup tree.0 tree.1) (walks trees) records is in
      let fine : IsOk (walk_of sup tree.0 tree.1) = rw split.2 refl in (
        stands_as tree (table_of (lives_of tree)) (table_of (lives_of tree ++ all_lives trees))
            (λ address. table_first (lives_of tree) (all_lives trees) tree.1.tree address (others_all trees split.1 tree.1.tree split.3 (others_after tree trees apart.0)))
            (stands_for sup tree.0 tree.1 fine),
        later trees fine apart.0 (stand_all trees split.1 apart.1 split.3),
      )
    where
      apart_is : (m n : ℕ) → not (m == n) ≡ true → (m == n) ≡ false
      apart_is m n is = grind (arith, nat_tests)

      later : (some : List Tree) → IsOk (walk_of sup tree.0 tree.1) → AllByRecursion (λ b. is_other tree b ≡ true) some
          → AllByRecursion (λ t. Stands (table_of (all_lives trees)) sup t.0 t.1) some → AllByRecursion (λ t. Stands (table_of (lives_of tree ++ all_lives trees)) sup t.0 t.1) some
      later [] fine apart all = tt
      later (t ∷ some) fine apart all = (
        stands_as t (table_of (all_lives trees)) (table_of (lives_of tree ++ all_lives trees))
            (λ address. table_later (lives_of tree) (all_lives trees) t.1.tree address (of_other tree t.1.tree fine (apart_is tree.1.tree t.1.tree apart.0))) all.0,
        later some fine apart.1 all.1,
      )

pub tables_stand : TablesLaw
tables_stand sup trees records apart is =
    subst (λ lives. AllByRecursion (λ tree. Stands (table_of lives) sup tree.0 tree.1) trees) (sym (lives_all sup trees records apart is)) (stand_all sup trees records apart is)
