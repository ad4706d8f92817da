-- The root items of an image ascend by their keys.
use Rattle.std.proofs.Common.{◌≡◌, ℕ, suc, false, true, List, [], ◌∷◌, refl, arith, subst}
use Rattle.std.specs.Prelude.{Ok}
use Rattle.std.specs.List.{AllPairs}
use Rattle.std.proofs.lemmas.List.Elements.{recursion_from_All}
use Rattle.verdict.specs.OnDisk.{key_below}
use Rattle.verdict.specs.declared.place.Chunk.{Chunk}
use Rattle.super_reader.specs.declared.Super.{Super}
use Rattle.volume_items.specs.declared.root_at.RootAt.{RootAt}
use Rattle.chunk_map.specs.Roots.{KeysAscend}
use Rattle.node_reader.specs.Stored.{stored_in}
use Rattle.records.specs.Contents.{root_records, root_tree_root}
use Rattle.records.specs.Seen.{Seen}
use Rattle.records.specs.Walk.{walk_in, walk_of}
use Rattle.tree_laws.specs.MergedLaw.{root_before}
use Rattle.tree_laws.specs.TableLaw.{trees_in}
use Rattle.tree_laws.proofs.Treed.{has_trees, steps_of, trees_walk}
use Rattle.tree_change.proofs.Free.{roots_ascend}
use Rattle.tree_change.proofs.RootItems.{items_are_seen}
use Rattle.tree_change.proofs.Split.{of_trees}
use Rattle.commit_laws.specs.Sound.{AscendLaw}

keys_ascend : (roots : List RootAt) → AllPairs (λ a b. root_before a b ≡ true) roots → KeysAscend roots
keys_ascend [] all = tt
keys_ascend (root ∷ roots) all = (
  recursion_from_All (λ (later : RootAt). key_below root.key later.key ≡ true) roots
      (λ k d small. all 0 (suc k) d (omega arith) (omega (arith, small))),
  keys_ascend roots (λ i j d less small. all (suc i) (suc j) d (omega (arith, less)) (omega (arith, small))),
)

walk_is : (sup : Super) (chunks : List Chunk) (image : List ℕ) (records : List Seen)
    → walk_of sup (stored_in image chunks sup.nodesize) (root_tree_root sup) ≡ Ok records → root_records sup chunks image ≡ Ok records
unfolding walk_in
walk_is sup chunks image records is = is

pub ascend : AscendLaw
ascend image whole roots is has =
    let s = steps_of image whole is in
    let trees = trees_in whole.sup whole.chunks whole.chunks s.roots image in
    let told = trees_walk image whole trees (has_trees image whole s is) in
    let gives = of_trees whole.sup trees whole.seen told.0 told.1 in
    let g = gives.1.0 in
    let stored = stored_in image whole.chunks whole.sup.nodesize in
    let seen_is = items_are_seen whole.sup whole.chunks image g.0 roots (walk_is whole.sup whole.chunks image g.0 g.1) has in
    keys_ascend roots (subst (λ rs. AllPairs (λ a b. root_before a b ≡ true) rs) seen_is
    (roots_ascend (λ live. false) (λ live. refl) whole.sup stored (root_tree_root whole.sup) g.0 g.1 refl))
