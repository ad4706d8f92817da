-- What changes in trees, as private functions make it.
use Rattle.std.specs.Prelude.{ℕ, ◌≡◌, ◌≤◌, ◌<◌, ◌+◌, ◌^◌, ◌⊎◌, true, List, map, Option, Some, None, Result, Ok, Err, IfSome}
use Rattle.std.specs.List.{AllByRecursion}
use Rattle.std.specs.FinMap.{empty}
use Rattle.verdict.specs.Trees.{is_node_size}
use Rattle.verdict.specs.declared.place.Chunk.{Chunk}
use Rattle.verdict.specs.declared.finding.Finding.{Finding}
use Rattle.recon_disk.specs.declared.disk.Disk.{Ghosts}
use Rattle.write_cache.specs.Cache.{overlaid}
use Rattle.live_index.specs.Table.{pairs_of}
use Rattle.node_reader.specs.declared.expect.Expect.{Expect}
use Rattle.records.specs.Contents.{chunk_tree_root, root_tree_root, roots_fault}
use Rattle.volume_items.specs.MapRules.{map_finding}
use Rattle.volume_items.specs.declared.root_at.RootAt.{RootAt}
use Rattle.block_source.specs.declared.halt.Halt.{Halt}
use Rattle.block_source.specs.declared.halt.Halt.TheVariants.{Found}
use Rattle.tree_change.specs.AllTrees.{gone_all, named_parts, with_parts}
use Rattle.tree_laws.specs.MergedLaw.{begins_before, root_before}
use Rattle.tree_change.specs.Gathered.{located_item}
use Rattle.tree_change.specs.Merging.{IsSortedOf, chunks_left, roots_left}
use Rattle.tree_change.specs.Told.{known_by, side_with}
use Rattle.tree_change.specs.Walks.{Parts, Side, gone_parts, tree_parts}
use Rattle.tree_change.specs.declared.sides.Sides.{Sides}
use Rattle.tree_change.specs.declared.trees.TreeParts.{TreeParts}

-- both sides are read by sound sizes from a device of so many bytes, the one as it was without pending writes
pub record FitSides {L : Type 0} (sides : Sides L) (end : ℕ) : Type 0 where
  pub was_size : is_node_size sides.was.sup.now.nodesize ≡ true
  pub is_size : is_node_size sides.is.sup.now.nodesize ≡ true
  pub was_end : sides.was.end ≡ end
  pub is_end : sides.is.end ≡ end
  pub none : sides.was.cache.now ≡ empty

-- the two images, of the device's bytes
abbrev pub was_side : {L : Type 0} → Sides L → List ℕ → Side
was_side sides image = side_with sides.was image

abbrev pub is_side : {L : Type 0} → Sides L → List ℕ → Side
is_side sides image = side_with sides.is (overlaid sides.is.cache.now 0 image)

-- what changes in a tree, in one that is gone, in all that are named now, and in all that are gone
abbrev pub parts_in : {L : Type 0} → Sides L → Option Expect → Expect → List ℕ → Result Parts Finding
parts_in sides before now image = tree_parts (pairs_of sides.table.now) (known_by sides.known) (was_side sides image) (is_side sides image) before now

abbrev pub gone_in : {L : Type 0} → Sides L → Expect → List ℕ → Result Parts Finding
gone_in sides before image = gone_parts (pairs_of sides.table.now) (known_by sides.known) (was_side sides image) before

abbrev pub named_parts_in : {L : Type 0} → Sides L → List RootAt → List RootAt → List ℕ → Result Parts Finding
named_parts_in sides olds news image =
    named_parts (pairs_of sides.table.now) (known_by sides.known) (was_side sides image) (is_side sides image) olds news

abbrev pub gone_parts_in : {L : Type 0} → Sides L → List RootAt → List RootAt → List ℕ → Result Parts Finding
gone_parts_in sides news olds image = gone_all (pairs_of sides.table.now) (known_by sides.known) (was_side sides image) news olds

-- what changes in trees, as it is made by so many reads at most
abbrev pub parts_by : TreeParts → ℕ → Parts
parts_by made count = record {
  old_blocks = made.old_blocks.items;
  new_blocks = made.new_blocks.items;
  shifted = made.shifted.items;
  old_items = map located_item made.old_items.items;
  new_items = map located_item made.new_items.items;
  count = count;
}

-- Where the disk tells its bytes, a step makes these parts, at so many reads at most; or it has their finding.
abbrev pub TellsParts : {D : Type 0} → (disk : Ghosts D) → D → D → Result TreeParts Halt → (List ℕ → Result Parts Finding) → Type 0
TellsParts disk old new (Err (Found finding)) parts = IfSome (disk.bytes old) (λ image. parts image ≡ Err finding)
TellsParts disk old new (Err other) parts = Unit {0}
TellsParts disk old new (Ok made) parts =
    IfSome (disk.bytes old) (λ image. (count : ℕ) × (parts image ≡ Ok (parts_by made count)) × (disk.reads new ≤ disk.reads old + count))

-- parts are put behind others, at as many reads at most as these take
pub record IsAdded (some all : TreeParts) (more : Parts) (before after : ℕ) : Type 0 where
  pub behind : (count : ℕ) → parts_by all (count + more.count) ≡ with_parts (parts_by some count) more
  pub reads : after ≤ before + more.count

-- the same of a step that puts the parts behind others
abbrev pub AddsParts : {D A : Type 0} → (disk : Ghosts D) → D → D → TreeParts → TreeParts → Result A Halt → (List ℕ → Result Parts Finding) → Type 0
AddsParts disk old new some all (Err (Found finding)) parts = IfSome (disk.bytes old) (λ image. parts image ≡ Err finding)
AddsParts disk old new some all (Err other) parts = Unit {0}
AddsParts disk old new some all (Ok done) parts =
    IfSome (disk.bytes old) (λ image. (more : Parts) × (parts image ≡ Ok more) × IsAdded some all more (disk.reads old) (disk.reads new))

-- chunks are merged of the old ones and of what changes in the chunk tree
pub record MakesChunks {L : Type 0} (sides : Sides L) (image : List ℕ) (parts : Parts) (chunks : List Chunk) : Type 0 where
  pub tree : parts_in sides (Some (chunk_tree_root sides.was.sup.now)) (chunk_tree_root sides.is.sup.now) image ≡ Ok parts
  pub merged : AllByRecursion (λ (c : Chunk). c.start + c.length < 2 ^ 64) (chunks_left sides.was.map.now parts.old_items parts.new_items)
      → IsSortedOf begins_before (chunks_left sides.was.map.now parts.old_items parts.new_items) chunks

-- Where the disk tells its bytes, a step makes the new chunks, on which the rules on the map keep, and puts what changes in the chunk tree
-- behind other parts; or it has the finding of the tree's walk, or of the rules on the map.
abbrev pub TellsChunks : {D L : Type 0} → (disk : Ghosts D) → D → D → TreeParts → TreeParts → Sides L → Result (List Chunk) Halt → Type 0
TellsChunks disk old new some all sides (Err (Found finding)) = IfSome (disk.bytes old) (λ image.
    (parts_in sides (Some (chunk_tree_root sides.was.sup.now)) (chunk_tree_root sides.is.sup.now) image ≡ Err finding)
    ⊎ ((parts : Parts) × (chunks : List Chunk) × MakesChunks sides image parts chunks × (map_finding chunks sides.is.map.now sides.is.end ≡ Some finding)))
TellsChunks disk old new some all sides (Err other) = Unit {0}
TellsChunks disk old new some all sides (Ok chunks) = IfSome (disk.bytes old) (λ image.
    (parts : Parts) × MakesChunks sides image parts chunks × (map_finding chunks sides.is.map.now sides.is.end ≡ None)
    × IsAdded some all parts (disk.reads old) (disk.reads new))

-- root items are merged of the old ones and of what changes in the root tree
pub record MakesRoots {L : Type 0} (sides : Sides L) (olds : List RootAt) (image : List ℕ) (parts : Parts) (roots : List RootAt) : Type 0 where
  pub tree : parts_in sides (Some (root_tree_root sides.was.sup.now)) (root_tree_root sides.is.sup.now) image ≡ Ok parts
  pub merged : IsSortedOf root_before (roots_left olds parts.old_items parts.new_items) roots

-- Where the disk tells its bytes, a step makes the new roots, on which the rules on their list keep, and puts what changes in the root tree
-- behind other parts; or it has the finding of the tree's walk, or of the rules on the list.
abbrev pub TellsRoots : {D L : Type 0} → (disk : Ghosts D) → D → D → TreeParts → TreeParts → Sides L → List RootAt → Result (List RootAt) Halt → Type 0
TellsRoots disk old new some all sides olds (Err (Found finding)) = IfSome (disk.bytes old) (λ image.
    (parts_in sides (Some (root_tree_root sides.was.sup.now)) (root_tree_root sides.is.sup.now) image ≡ Err finding)
    ⊎ ((parts : Parts) × (roots : List RootAt) × MakesRoots sides olds image parts roots
    × (roots_fault sides.is.sup.now.compat_ro roots ≡ Some finding)))
TellsRoots disk old new some all sides olds (Err other) = Unit {0}
TellsRoots disk old new some all sides olds (Ok roots) = IfSome (disk.bytes old) (λ image.
    (parts : Parts) × MakesRoots sides olds image parts roots × (roots_fault sides.is.sup.now.compat_ro roots ≡ None)
    × IsAdded some all parts (disk.reads old) (disk.reads new))

-- what changes in the root tree, in the trees that are named now, and in those that are gone, where these are the new roots
pub record MakesOthers {L : Type 0} (sides : Sides L) (olds : List RootAt) (image : List ℕ) (parts : Parts) (roots : List RootAt) : Type 0 where
  pub root_parts : Parts
  pub named : Parts
  pub gone : Parts
  pub makes : MakesRoots sides olds image root_parts roots
  pub judged : roots_fault sides.is.sup.now.compat_ro roots ≡ None
  pub named_are : named_parts_in sides olds roots image ≡ Ok named
  pub gone_are : gone_parts_in sides roots olds image ≡ Ok gone
  pub all : parts ≡ with_parts root_parts (with_parts named gone)

-- the first finding of these: of the root tree's walk, of the rules on its items, of a tree that is named now, or of one that is gone
pub data FindsOthers {L : Type 0} (sides : Sides L) (olds : List RootAt) (image : List ℕ) (finding : Finding) : Type 0 where
  InTree : parts_in sides (Some (root_tree_root sides.was.sup.now)) (root_tree_root sides.is.sup.now) image ≡ Err finding
      → FindsOthers sides olds image finding
  InItems : (parts : Parts) (roots : List RootAt) → MakesRoots sides olds image parts roots
      → roots_fault sides.is.sup.now.compat_ro roots ≡ Some finding → FindsOthers sides olds image finding
  InNamed : (parts : Parts) (roots : List RootAt) → MakesRoots sides olds image parts roots → roots_fault sides.is.sup.now.compat_ro roots ≡ None
      → named_parts_in sides olds roots image ≡ Err finding → FindsOthers sides olds image finding
  InGone : (roots : List RootAt) → gone_parts_in sides roots olds image ≡ Err finding → FindsOthers sides olds image finding

-- a step makes the new roots, and puts what changes in these behind other parts; or it has the finding
abbrev pub TellsOthers : {D L : Type 0} → (disk : Ghosts D) → D → D → TreeParts → TreeParts → Sides L → List RootAt → Result (List RootAt) Halt → Type 0
TellsOthers disk old new some all sides olds (Err (Found finding)) = IfSome (disk.bytes old) (λ image. FindsOthers sides olds image finding)
TellsOthers disk old new some all sides olds (Err other) = Unit {0}
TellsOthers disk old new some all sides olds (Ok roots) = IfSome (disk.bytes old) (λ image.
    (parts : Parts) × MakesOthers sides olds image parts roots × IsAdded some all parts (disk.reads old) (disk.reads new))
