-- The root items of an image, by what changes in its root tree.
use Rattle.std.proofs.Common.{◌≡◌, ℕ, List, refl, ap, sym, subst, ◌∙◌}
use Rattle.std.specs.Prelude.{Some, Ok, Err}
use Rattle.std.specs.Ordering.{nat_cmp}
use Rattle.std.specs.FinMap.{FinMap}
use Rattle.walk_laws.proofs.Trees.{step_ok}
use Rattle.verdict.specs.Rules.{and_then, finding_or}
use Rattle.verdict.specs.declared.finding.Finding.{Finding}
use Rattle.verdict.specs.declared.place.Chunk.{Chunk}
use Rattle.super_reader.specs.declared.Super.{Super}
use Rattle.volume_items.specs.declared.root_at.RootAt.{RootAt}
use Rattle.live_index.specs.Pairs.{Pairs}
use Rattle.records.specs.Contents.{root_items_in, root_records, root_tree_root, roots_fault}
use Rattle.records.specs.Seen.{Seen}
use Rattle.records.specs.Walk.{Records}
use Rattle.tree_laws.specs.LivePairs.{Walked}
use Rattle.tree_laws.specs.MergedLaw.{IsInOrder, roots_seen, root_before}
use Rattle.tree_laws.specs.TableLaw.{Tree}
use Rattle.tree_laws.proofs.MergedLists.{roots_are_seen}
use Rattle.tree_change.specs.Merging.{IsSortedOf, roots_left}
use Rattle.tree_change.specs.OneTree.{IsTree, OneTreeLaw, side_of}
use Rattle.tree_change.specs.Walks.{Known, Parts, Side, tree_parts}
use Rattle.tree_change.proofs.Olds.{same_ok}
use Rattle.tree_change.proofs.Unique.{only_list}

-- the root items, where the walk of the root tree has these records, or a finding
roots_of : (sup : Super) (chunks : List Chunk) (image : List ℕ) (records : List Seen) → root_records sup chunks image ≡ Ok records
    → root_items_in sup chunks image
    ≡ and_then (finding_or (roots_fault sup.compat_ro (roots_seen records)) (tt {0})) (λ _. Ok (roots_seen records))
roots_of sup chunks image records is =
    roots_are_seen sup chunks image ∙ ap (λ (walk : Records). and_then walk (λ all.
    and_then (finding_or (roots_fault sup.compat_ro (roots_seen all)) (tt {0})) (λ _. Ok (roots_seen all)))) is

roots_failed : (sup : Super) (chunks : List Chunk) (image : List ℕ) (finding : Finding) → root_records sup chunks image ≡ Err finding
    → root_items_in sup chunks image ≡ Err finding
roots_failed sup chunks image finding is =
    roots_are_seen sup chunks image ∙ ap (λ (walk : Records). and_then walk (λ all.
    and_then (finding_or (roots_fault sup.compat_ro (roots_seen all)) (tt {0})) (λ _. Ok (roots_seen all)))) is

-- the root items of an image are those among the records of its root tree
pub items_are_seen : (sup : Super) (chunks : List Chunk) (image : List ℕ) (records : List Seen) (olds : List RootAt)
    → root_records sup chunks image ≡ Ok records → root_items_in sup chunks image ≡ Ok olds → roots_seen records ≡ olds
items_are_seen sup chunks image records olds is items =
    let step =
    step_ok (finding_or (roots_fault sup.compat_ro (roots_seen records)) (tt {0})) (λ _. Ok (roots_seen records)) olds
    (sym (roots_of sup chunks image records is) ∙ items) in
    same_ok (roots_seen records) olds step.2

-- Where trees begin is what is merged of where they began, of what is gone and of what came, where the rules on the root items keep.
pub roots_made : OneTreeLaw → (image : List ℕ) (pending : FinMap nat_cmp ℕ) (old : Walked) (trees : List Tree) (pairs : Pairs) (is : Side)
    (known : Known) (parts : Parts) (olds : List RootAt) (roots : List RootAt) → root_items_in old.sup old.chunks image ≡ Ok olds
    → IsTree image pending old trees pairs is known (Some (root_tree_root old.sup)) (root_tree_root is.sup)
    → tree_parts pairs known (side_of image old) is (Some (root_tree_root old.sup)) (root_tree_root is.sup) ≡ Ok parts
    → IsSortedOf root_before (roots_left olds parts.old_items parts.new_items) roots
    → root_items_in is.sup is.chunks is.image ≡ and_then (finding_or (roots_fault is.sup.compat_ro roots) (tt {0})) (λ _. Ok roots)
roots_made law image pending old trees pairs is known parts olds roots had tree given sort =
    let gives = law image pending old trees pairs is known (Some (root_tree_root old.sup)) (root_tree_root is.sup) tree in
    let p = gives.parts parts given in
    let news = p.1 in
    let whole = roots_left olds parts.old_items parts.new_items in
    let order : IsInOrder root_before whole (roots_seen news) =
    subst (λ items. IsInOrder root_before (roots_left items parts.old_items parts.new_items) (roots_seen news))
    (items_are_seen old.sup old.chunks image p.0 olds p.2 had) (p.4.roots refl) in
    subst (λ rs. root_items_in is.sup is.chunks is.image ≡ and_then (finding_or (roots_fault is.sup.compat_ro rs) (tt {0})) (λ _. Ok rs))
    (sym (only_list root_before whole roots (roots_seen news) sort order)) (roots_of is.sup is.chunks is.image news p.3)

-- the first finding on the parts of a root tree is that of the root items
pub roots_found : OneTreeLaw → (image : List ℕ) (pending : FinMap nat_cmp ℕ) (old : Walked) (trees : List Tree) (pairs : Pairs) (is : Side)
    (known : Known) → IsTree image pending old trees pairs is known (Some (root_tree_root old.sup)) (root_tree_root is.sup)
    → (finding : Finding)
    → tree_parts pairs known (side_of image old) is (Some (root_tree_root old.sup)) (root_tree_root is.sup) ≡ Err finding
    → root_items_in is.sup is.chunks is.image ≡ Err finding
roots_found law image pending old trees pairs is known tree finding failed =
    let gives = law image pending old trees pairs is known (Some (root_tree_root old.sup)) (root_tree_root is.sup) tree in
    roots_failed is.sup is.chunks is.image finding (gives.found finding failed)
