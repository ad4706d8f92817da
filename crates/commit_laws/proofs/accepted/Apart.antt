-- No two items of an image stand under one tree and key.
use Rattle.std.proofs.Common.{◌≡◌, ℕ, ◌==◌, Bool, true, false, ◌&&◌, ◌||◌, List, [], ◌∷◌, ap, sym, subst, ◌∙◌, arith, slice_index_or}
use Rattle.std.proofs.lemmas.Bool.Decides.{nat_tests}
use Rattle.std.proofs.lemmas.Grind.{common_steps}
use Rattle.std.specs.Prelude.{Ok, nat_lt}
use Rattle.std.specs.List.{AllByRecursion, AllPairs}
use Rattle.verdict.specs.OnDisk.{key_below}
use Rattle.verdict.specs.declared.key.Key.{Key}
use Rattle.super_reader.specs.declared.Super.{Super}
use Rattle.records.specs.Part.{Located}
use Rattle.records.specs.Seen.{Seen}
use Rattle.records.specs.Seen.Seen.{BlockSeen, ItemSeen, PointerSeen}
use Rattle.walk_laws.specs.WalkOrder.{AllAbove, Ascend, item_keys}
use Rattle.walk_laws.proofs.Trees.{walk_ascends}
use Rattle.tree_laws.specs.MergedLaw.{items}
use Rattle.tree_laws.specs.TableLaw.{AreApart, Tree}
use Rattle.tree_laws.proofs.Forest.{others_after, walks}
use Rattle.tree_laws.proofs.Mixing.{Before, InOrder, pairs_of}
use Rattle.tree_change.specs.Change.{item_before}
use Rattle.tree_change.proofs.Ordered.{either, ordered}
use Rattle.tree_change.proofs.Piece.{item_id}
use Rattle.tree_change.proofs.Split.{First, ItemsOf, first_of, none_of, walk_items}
use Rattle.change_records.specs.Spans.{StandApart}

-- one before the other is another
not_before : (t : ℕ) (k : Key) → ((nat_lt t t || (t == t && key_below k k)) || (nat_lt t t || (t == t && key_below k k))) ≡ false
not_before t k = rw (key_itself k) (nothing t)
  where
    key_itself : (k : Key) → key_below k k ≡ false
    key_itself k = grind (arith, common_steps)

    nothing : (t : ℕ) → ((nat_lt t t || (t == t && false)) || (nat_lt t t || (t == t && false))) ≡ false
    nothing t = grind (arith, nat_tests)

apart_of : (a b : Located) → either a b ≡ true → StandApart a b
apart_of a b is tree key =
    let one : ((nat_lt a.tree a.tree || (a.tree == a.tree && key_below a.key b.key))
    || (nat_lt a.tree a.tree || (a.tree == a.tree && key_below b.key a.key))) ≡ true =
    subst (λ t. ((nat_lt a.tree t || (a.tree == t && key_below a.key b.key)) || (nat_lt t a.tree || (t == a.tree && key_below b.key a.key))) ≡ true)
    (sym tree) is in
    let both : ((nat_lt a.tree a.tree || (a.tree == a.tree && key_below a.key a.key))
    || (nat_lt a.tree a.tree || (a.tree == a.tree && key_below a.key a.key))) ≡ true =
    subst (λ k. ((nat_lt a.tree a.tree || (a.tree == a.tree && key_below a.key k))
    || (nat_lt a.tree a.tree || (a.tree == a.tree && key_below k a.key))) ≡ true) (sym key) one in
    never (sym (not_before a.tree a.key) ∙ both)
  where
    never : false ≡ true → ⊥
    never is = cc

pub stand_apart : (sup : Super) (trees : List Tree) (seen : List Seen) → AreApart trees → walks sup trees ≡ Ok seen → AllPairs StandApart (items seen)
stand_apart sup trees seen apart is i j d less within =
    apart_of (slice_index_or (items seen) i d) (slice_index_or (items seen) j d)
    (pairs_of either (items seen) (ordered sup trees seen apart is) i j d less within)
