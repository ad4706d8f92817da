-- What changes in the chunk tree and in the root tree, where the disk tells its bytes.
use Rattle.std.proofs.Common.{◌≡◌, ℕ, ◌+◌, ◌^◌, ◌<◌, ◌≤◌, ◌⊎◌, inr, List, map, ap, sym, ◌∙◌, Ok, Err}
use Rattle.std.specs.Prelude.{Option, Some, None, IfSome}
use Rattle.std.specs.List.{AllByRecursion}
use Rattle.verdict.specs.declared.finding.Finding.{Finding}
use Rattle.verdict.specs.declared.place.Chunk.{Chunk}
use Rattle.node_reader.specs.declared.expect.Expect.{Expect}
use Rattle.records.specs.Contents.{chunk_tree_root, root_tree_root, roots_fault}
use Rattle.volume_items.specs.MapRules.{map_finding}
use Rattle.volume_items.specs.declared.root_at.RootAt.{RootAt}
use Rattle.tree_laws.specs.MergedLaw.{begins_before, root_before}
use Rattle.tree_change.specs.AllTrees.{with_parts}
use Rattle.tree_change.specs.Gathered.{located_item}
use Rattle.tree_change.specs.Making.{IsAdded, MakesChunks, MakesRoots, parts_by, parts_in}
use Rattle.tree_change.specs.Merging.{IsSortedOf, chunks_left, roots_left}
use Rattle.tree_change.specs.Walks.{Parts}
use Rattle.tree_change.specs.declared.sides.Sides.{Sides}
use Rattle.tree_change.specs.declared.trees.TreeParts.{TreeParts}

module _ {L : Type 0} (sides : Sides L) where
  -- what changes in a tree is made, at so many reads
  abbrev pub IsMade : Expect → Expect → TreeParts → ℕ → ℕ → List ℕ → Type 0
  IsMade before now made first last image =
      (count : ℕ) × (parts_in sides (Some before) now image ≡ Ok (parts_by made count)) × (last ≤ first + count)

  -- the new chunks are merged of these
  abbrev pub IsMerged : TreeParts → List Chunk → Type 0
  IsMerged made chunks =
      AllByRecursion (λ (c : Chunk). c.start + c.length < 2 ^ 64)
      (chunks_left sides.was.map.now (map located_item made.old_items.items) (map located_item made.new_items.items))
      → IsSortedOf begins_before (chunks_left sides.was.map.now (map located_item made.old_items.items) (map located_item made.new_items.items)) chunks

  chunks_are : (made : TreeParts) (chunks : List Chunk) (before now : Expect) (image : List ℕ) (count : ℕ)
      → before ≡ chunk_tree_root sides.was.sup.now → now ≡ chunk_tree_root sides.is.sup.now
      → parts_in sides (Some before) now image ≡ Ok (parts_by made count) → IsMerged made chunks → MakesChunks sides image (parts_by made count) chunks
  chunks_are made chunks before now image count a b tree merged = record {
    tree = ap (λ e. parts_in sides (Some e) (chunk_tree_root sides.is.sup.now) image) (sym a) ∙ ap (λ e. parts_in sides (Some before) e image) (sym b) ∙ tree;
    merged = merged;
  }

  pub chunks_told : (told : Option (List ℕ)) (some all made : TreeParts) (chunks : List Chunk) (before now : Expect) (first last : ℕ)
      → before ≡ chunk_tree_root sides.was.sup.now → now ≡ chunk_tree_root sides.is.sup.now
      → IfSome told (IsMade before now made first last) → IsMerged made chunks → map_finding chunks sides.is.map.now sides.is.end ≡ None
      → ((count other : ℕ) → parts_by all (count + other) ≡ with_parts (parts_by some count) (parts_by made other))
      → IfSome told (λ image. (parts : Parts) × MakesChunks sides image parts chunks × (map_finding chunks sides.is.map.now sides.is.end ≡ None)
      × IsAdded some all parts first last)
  chunks_told None some all made chunks before now first last a b tree merged none behind = tt
  chunks_told (Some image) some all made chunks before now first last a b tree merged none behind = (
    parts_by made tree.0,
    chunks_are made chunks before now image tree.0 a b tree.1 merged,
    none,
    record { behind = λ count. behind count tree.0; reads = tree.2 },
  )

  pub chunks_found : (told : Option (List ℕ)) (made : TreeParts) (chunks : List Chunk) (before now : Expect) (first last : ℕ) (finding : Finding)
      → before ≡ chunk_tree_root sides.was.sup.now → now ≡ chunk_tree_root sides.is.sup.now
      → IfSome told (IsMade before now made first last) → IsMerged made chunks → map_finding chunks sides.is.map.now sides.is.end ≡ Some finding
      → IfSome told (λ image. (parts_in sides (Some (chunk_tree_root sides.was.sup.now)) (chunk_tree_root sides.is.sup.now) image ≡ Err finding)
      ⊎ ((parts : Parts) × (chunks : List Chunk) × MakesChunks sides image parts chunks
      × (map_finding chunks sides.is.map.now sides.is.end ≡ Some finding)))
  chunks_found None made chunks before now first last finding a b tree merged some = tt
  chunks_found (Some image) made chunks before now first last finding a b tree merged some =
      inr (parts_by made tree.0, chunks, chunks_are made chunks before now image tree.0 a b tree.1 merged, some)

  -- the same of the root tree
  roots_are : (olds : List RootAt) (made : TreeParts) (roots : List RootAt) (before now : Expect) (image : List ℕ) (count : ℕ)
      → before ≡ root_tree_root sides.was.sup.now → now ≡ root_tree_root sides.is.sup.now
      → parts_in sides (Some before) now image ≡ Ok (parts_by made count)
      → IsSortedOf root_before (roots_left olds (map located_item made.old_items.items) (map located_item made.new_items.items)) roots
      → MakesRoots sides olds image (parts_by made count) roots
  roots_are olds made roots before now image count a b tree merged = record {
    tree = ap (λ e. parts_in sides (Some e) (root_tree_root sides.is.sup.now) image) (sym a) ∙ ap (λ e. parts_in sides (Some before) e image) (sym b) ∙ tree;
    merged = merged;
  }

  pub roots_told : (told : Option (List ℕ)) (olds : List RootAt) (some all made : TreeParts) (roots : List RootAt) (before now : Expect) (first last : ℕ)
      → before ≡ root_tree_root sides.was.sup.now → now ≡ root_tree_root sides.is.sup.now
      → IfSome told (IsMade before now made first last)
      → IsSortedOf root_before (roots_left olds (map located_item made.old_items.items) (map located_item made.new_items.items)) roots
      → roots_fault sides.is.sup.now.compat_ro roots ≡ None
      → ((count other : ℕ) → parts_by all (count + other) ≡ with_parts (parts_by some count) (parts_by made other))
      → IfSome told (λ image. (parts : Parts) × MakesRoots sides olds image parts roots
      × (roots_fault sides.is.sup.now.compat_ro roots ≡ None) × IsAdded some all parts first last)
  roots_told None olds some all made roots before now first last a b tree merged judged behind = tt
  roots_told (Some image) olds some all made roots before now first last a b tree merged judged behind = (
    parts_by made tree.0,
    roots_are olds made roots before now image tree.0 a b tree.1 merged,
    judged,
    record { behind = λ count. behind count tree.0; reads = tree.2 },
  )

  pub roots_found : (told : Option (List ℕ)) (olds : List RootAt) (made : TreeParts) (roots : List RootAt) (before now : Expect) (first last : ℕ)
      (finding : Finding) → before ≡ root_tree_root sides.was.sup.now → now ≡ root_tree_root sides.is.sup.now
      → IfSome told (IsMade before now made first last)
      → IsSortedOf root_before (roots_left olds (map located_item made.old_items.items) (map located_item made.new_items.items)) roots
      → roots_fault sides.is.sup.now.compat_ro roots ≡ Some finding
      → IfSome told (λ image. (parts_in sides (Some (root_tree_root sides.was.sup.now)) (root_tree_root sides.is.sup.now) image ≡ Err finding)
      ⊎ ((parts : Parts) × (roots : List RootAt) × MakesRoots sides olds image parts roots
      × (roots_fault sides.is.sup.now.compat_ro roots ≡ Some finding)))
  roots_found None olds made roots before now first last finding a b tree merged judged = tt
  roots_found (Some image) olds made roots before now first last finding a b tree merged judged =
      inr (parts_by made tree.0, roots, roots_are olds made roots before now image tree.0 a b tree.1 merged, judged)
