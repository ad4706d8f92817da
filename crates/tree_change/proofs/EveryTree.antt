-- What changes in each tree of an image, and in those that are gone.
use Rattle.std.proofs.Common.{◌≡◌, ℕ, ◌==◌, ◌⊎◌, inl, inr, Bool, true, false, List, [], ◌∷◌, length, refl, sym, subst, ◌∙◌, if◌then◌else◌}
use Rattle.std.proofs.lemmas.Bool.{eqb-true}
use Rattle.std.specs.Prelude.{Option, Some, None, Ok}
use Rattle.std.specs.List.{AllByRecursion, list_any}
use Rattle.std.specs.Ordering.{nat_cmp}
use Rattle.std.specs.FinMap.{FinMap}
use Rattle.walk_laws.proofs.Trees.{step_ok}
use Rattle.verdict.specs.Rules.{and_then}
use Rattle.volume_items.specs.declared.root_at.RootAt.{RootAt}
use Rattle.live_index.specs.Pairs.{Pairs}
use Rattle.live_index.specs.declared.live.Live.{Live}
use Rattle.node_reader.specs.declared.expect.Expect.{Expect}
use Rattle.records.specs.Contents.{named_root, names}
use Rattle.records.specs.Seen.{Seen}
use Rattle.records.specs.Walk.{walk_in}
use Rattle.touched_blocks.specs.Touched.{written_in}
use Rattle.tree_laws.specs.LivePairs.{Walked}
use Rattle.tree_laws.specs.TableLaw.{AreApart, Tree}
use Rattle.tree_laws.proofs.Forest.{walks}
use Rattle.tree_laws.proofs.Lives.{ok_same}
use Rattle.tree_laws.proofs.Treed.{trees_walk}
use Rattle.tree_change.specs.AllTrees.{KnowsTrees, gone_all, named_parts, no_parts, root_named, with_parts}
use Rattle.tree_change.specs.OneTree.{HasRecords, IsAmong, IsOldOf, IsTree, KnowsNothing, KnowsTree, OneTreeLaw, old_tree, unchanged, side_of}
use Rattle.tree_change.specs.Unchanged.{ChangesListed, is_unchanged}
use Rattle.tree_change.specs.Walks.{Known, Parts, Side, gone_parts, tree_parts}
use Rattle.tree_change.proofs.Vanished.{among, ok_one}
use Rattle.tree_change.proofs.Ids.{at_id, at_ids, gone_ids}
use Rattle.tree_change.proofs.Piece.{ArePieces, IsPiece, changed, piece_of, pieces_none, pieces_with}
use Rattle.tree_change.proofs.Split.{Gives, IsOf, none_of, of_trees}

-- what is known of all trees is known of each
pub knows_tree : (image : List ℕ) (pending : FinMap nat_cmp ℕ) (old : Walked) (trees : List Tree) (is : Side) (known : Known)
    (before : Option Expect)
    (now : Expect) → IsOldOf image old trees now before → KnowsTrees image pending old trees is known → KnowsTree image pending old is known before
knows_tree image pending old trees is known None now of k = record {
  alike = k.alike;
  pairs_are = k.pairs_are;
  moved_is = k.moved_is;
  marked_is = k.marked_is;
  changing = k.changing;
  changes = tt;
}
knows_tree image pending old trees is known (Some e) now of k = record {
  alike = k.alike;
  pairs_are = k.pairs_are;
  moved_is = k.moved_is;
  marked_is = k.marked_is;
  changing = k.changing;
  changes = among (ChangesListed old is.chunks (written_in pending) (length image) k.changing known.under) (old_tree image old e) trees of.1 k.changes;
}

-- or nothing is known of either
pub knows_one : (image : List ℕ) (pending : FinMap nat_cmp ℕ) (old : Walked) (trees : List Tree) (is : Side) (known : Known)
    (before : Option Expect)
    (now : Expect) → IsOldOf image old trees now before → KnowsTrees image pending old trees is known ⊎ KnowsNothing old is known
    → KnowsTree image pending old is known before ⊎ KnowsNothing old is known
knows_one image pending old trees is known before now of (inl k) = inl (knows_tree image pending old trees is known before now of k)
knows_one image pending old trees is known before now of (inr k) = inr k

-- the old tree of an id is found among those that are named
pub old_named : (image : List ℕ) (old : Walked) (trees : List Tree) (now : Expect) (some : List RootAt)
    → AllByRecursion (λ (r : RootAt). IsAmong (old_tree image old (named_root r)) trees) some
    → (AllByRecursion (λ (r : RootAt). (r.key.objectid == now.tree) ≡ false) some → IsOldOf image old trees now None)
    → IsOldOf image old trees now (root_named some now.tree)
old_named image old trees now [] all none = none tt
old_named image old trees now (root ∷ some) all none =
    by (root.key.objectid == now.tree) refl (λ is. old_named image old trees now some all.1 (λ rest. none (is, rest)))
  where
    by : (b : Bool) → (root.key.objectid == now.tree) ≡ b
        → ((root.key.objectid == now.tree) ≡ false → IsOldOf image old trees now (root_named some now.tree))
        → IsOldOf image old trees now (if b then Some (named_root root) else root_named some now.tree)
    by true is rest = (eqb-true root.key.objectid now.tree is, all.0)
    by false is rest = rest is

-- each tree is one of them
pub all_among : (trees : List Tree) → AllByRecursion (λ t. IsAmong t trees) trees
all_among [] = tt
all_among (tree ∷ trees) = (inl refl, more trees (all_among trees))
  where
    more : (some : List Tree) → AllByRecursion (λ t. IsAmong t trees) some → AllByRecursion (λ t. IsAmong t (tree ∷ trees)) some
    more [] all = tt
    more (t ∷ some) all = (inr all.0, more some all.1)

-- the records of the old tree are those of its id, or there are none
pub olds_of : (image : List ℕ) (old : Walked) (trees : List Tree) (before : Option Expect) (now : Expect) (olds : List Seen)
    → AreApart trees → walks old.sup trees ≡ Ok old.seen → IsOldOf image old trees now before → HasRecords image old before olds
    → IsOf now.tree olds old.seen
unfolding walk_in
olds_of image old trees None now olds apart walk of has =
    subst (λ r. IsOf now.tree r old.seen) (sym has) (none_of old.sup trees old.seen now.tree apart walk of)
olds_of image old trees (Some e) now olds apart walk of has =
    let whole = among (Gives old.sup old.seen) (old_tree image old e) trees of.1 (of_trees old.sup trees old.seen apart walk) in
    subst (λ id. IsOf id olds old.seen) of.0 (subst (λ r. IsOf e.tree r old.seen) (ok_same whole.0 olds (sym whole.1 ∙ has)) whole.2)

-- The parts of a tree that is are those of its id.
pub tree_piece : (law : OneTreeLaw) (image : List ℕ) (pending : FinMap nat_cmp ℕ) (old new : Walked) (trees : List Tree) (pairs : Pairs) (is : Side)
    (known : Known) (before : Option Expect) (now : Expect) (parts : Parts)
    → IsTree image pending old trees pairs is known before now → tree_parts pairs known (side_of image old) is before now ≡ Ok parts
    → ((news : List Seen) → walk_in is.sup is.chunks now is.image ≡ Ok news → IsOf now.tree news new.seen
    × ((live : Live) → live.tree ≡ now.tree → unchanged image pending old is news live ≡ is_unchanged old new (written_in pending) (length image) live))
    → IsPiece (changed old new (written_in pending) (length image)) now.tree parts
tree_piece law image pending old new trees pairs is known before now parts tree made same =
    let gives = (law image pending old trees pairs is known before now tree).parts parts made in
    let old_trees = trees_walk image old trees tree.has in
    let news = same gives.1 gives.3 in
    piece_of image pending old new is now gives.0 gives.1 parts now.tree gives.4
    (olds_of image old trees before now gives.0 old_trees.0 old_trees.1 tree.was gives.2) news.0 news.1

-- those of the trees that are named now, in their order
pub named_pieces : (all : Parts) (pairs : Pairs) (known : Known) (was is : Side) (olds news : List RootAt) (named : Parts)
    → AllByRecursion (λ root. (parts : Parts) → tree_parts pairs known was is (root_named olds root.key.objectid) (named_root root) ≡ Ok parts
    → IsPiece all root.key.objectid parts) news
    → named_parts pairs known was is olds news ≡ Ok named → ArePieces all (at_ids news) named
unfolding named_parts
named_pieces all pairs known was is olds [] named each made = subst (ArePieces all []) (ok_parts no_parts named made) (pieces_none all)
  where
    ok_parts : (a b : Parts) → ok_one a ≡ Ok b → a ≡ b
    ok_parts a b is = cc
named_pieces all pairs known was is olds (root ∷ news) named each made =
    let first = step_ok (tree_parts pairs known was is (root_named olds root.key.objectid) (named_root root))
    (λ parts. and_then (named_parts pairs known was is olds news) (λ more. Ok (with_parts parts more))) named made in
    let rest = step_ok (named_parts pairs known was is olds news) (λ more. Ok (with_parts first.0 more)) named first.2 in
    subst (ArePieces all (at_ids (root ∷ news))) (ok_parts (with_parts first.0 rest.0) named rest.2)
    (pieces_with all root.key.objectid (at_ids news) first.0 rest.0 (each.0 first.0 first.1)
    (named_pieces all pairs known was is olds news rest.0 each.1 rest.1))
  where
    ok_parts : (a b : Parts) → ok_one a ≡ Ok b → a ≡ b
    ok_parts a b is = cc

-- and those of the trees that are gone
pub gone_pieces : (all : Parts) (pairs : Pairs) (known : Known) (was : Side) (news olds : List RootAt) (left : Parts)
    → AllByRecursion (λ root. (parts : Parts) → list_any (names root.key.objectid) news ≡ false
    → gone_parts pairs known was (named_root root) ≡ Ok parts → IsPiece all root.key.objectid parts) olds
    → gone_all pairs known was news olds ≡ Ok left → ArePieces all (gone_ids news olds) left
unfolding gone_all gone_ids
gone_pieces all pairs known was news [] left each made = subst (ArePieces all []) (ok_parts no_parts left made) (pieces_none all)
  where
    ok_parts : (a b : Parts) → ok_one a ≡ Ok b → a ≡ b
    ok_parts a b is = cc
gone_pieces all pairs known was news (root ∷ olds) left each made =
    by (list_any (names root.key.objectid) news) refl made (λ more is. gone_pieces all pairs known was news olds more each.1 is)
  where
    ok_parts : (a b : Parts) → ok_one a ≡ Ok b → a ≡ b
    ok_parts a b is = cc

    by : (b : Bool) → list_any (names root.key.objectid) news ≡ b
        → (if b then gone_all pairs known was news olds else
        and_then (gone_parts pairs known was (named_root root)) (λ parts.
        and_then (gone_all pairs known was news olds) (λ more.
        Ok (with_parts parts more)))) ≡ Ok left
        → ((more : Parts) → gone_all pairs known was news olds ≡ Ok more → ArePieces all (gone_ids news olds) more)
        → ArePieces all (if b then gone_ids news olds else at_id root ∷ gone_ids news olds) left
    by true is made later = later left made
    by false is made later =
        let first = step_ok (gone_parts pairs known was (named_root root))
        (λ parts. and_then (gone_all pairs known was news olds) (λ more. Ok (with_parts parts more))) left made in
        let rest = step_ok (gone_all pairs known was news olds) (λ more. Ok (with_parts first.0 more)) left first.2 in
        subst (ArePieces all (at_id root ∷ gone_ids news olds)) (ok_parts (with_parts first.0 rest.0) left rest.2)
        (pieces_with all root.key.objectid (gone_ids news olds) first.0 rest.0 (each.0 first.0 is first.1) (later rest.0 rest.1))
