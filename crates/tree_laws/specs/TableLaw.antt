-- The table of the live pairs of trees.
use Rattle.std.specs.Prelude.{ℕ, ◌≡◌, ◌==◌, Bool, true, not, List, [], ◌∷◌, map, Ok}
use Rattle.std.specs.List.{AllByRecursion}
use Rattle.verdict.specs.declared.place.Chunk.{Chunk}
use Rattle.super_reader.specs.Superblock.{array_place}
use Rattle.super_reader.specs.declared.Super.{Super}
use Rattle.volume_items.specs.SystemArray.{array_chunks}
use Rattle.node_reader.specs.Stored.{Stored, stored_in}
use Rattle.node_reader.specs.declared.expect.Expect.{Expect}
use Rattle.records.specs.Contents.{chunk_tree_root, named_root, root_items_in, root_tree_root}
use Rattle.records.specs.Seen.{Seen}
use Rattle.records.specs.Walk.{each, walk_of}
use Rattle.records.specs.WalkLaw.{visited}
use Rattle.tree_laws.specs.Keeping.{Stands, live_at}
use Rattle.tree_laws.specs.LivePairs.{Walked, live_in, table_of, walked}
use Rattle.volume_items.specs.declared.root_at.RootAt.{RootAt}

-- where the walk of a tree has no finding, the live pairs of its records are those of the blocks that it comes to, in their order
abbrev pub LivesLaw : Type 0
LivesLaw = (sup : Super) (stored : Stored) (root : Expect) (records : List Seen)
    → walk_of sup stored root ≡ Ok records → live_in records ≡ map (live_at sup stored) (visited sup stored root)

-- where the walk of a tree has no finding, the table of the live pairs of its records stands for it
abbrev pub TreeTableLaw : Type 0
TreeTableLaw = (sup : Super) (stored : Stored) (root : Expect) (records : List Seen)
    → walk_of sup stored root ≡ Ok records → Stands (table_of (live_in records)) sup stored root

-- a tree: what is stored, and what is expected of its root
abbrev pub Tree : Type 0
Tree = Stored × Expect

-- whether one tree has another id than another
abbrev pub is_other : Tree → Tree → Bool
is_other a b = not (a.1.tree == b.1.tree)

-- trees of different ids
abbrev pub AreApart : List Tree → Type 0
AreApart [] = Unit {0}
AreApart (tree ∷ trees) = AllByRecursion (λ other. is_other tree other ≡ true) trees × AreApart trees

-- where the walks of trees of different ids have no finding, the table of the live pairs of all their records stands for each
abbrev pub TablesLaw : Type 0
TablesLaw = (sup : Super) (trees : List Tree) (records : List Seen)
    → AreApart trees → each (λ tree. walk_of sup tree.0 tree.1) trees ≡ Ok records
    → AllByRecursion (λ tree. Stands (table_of (live_in records)) sup tree.0 tree.1) trees

-- the trees of an image: the chunk tree by the chunks of the system array, the root tree, and those that root items name
abbrev pub trees_in : Super → List Chunk → List Chunk → List RootAt → List ℕ → List Tree
trees_in sup array chunks roots image =
    (stored_in image array sup.nodesize, chunk_tree_root sup)
    ∷ (stored_in image chunks sup.nodesize, root_tree_root sup)
    ∷ map (λ root. (stored_in image chunks sup.nodesize, named_root root)) roots

-- where the walks of an image have no finding, the table of its live pairs stands for each of its trees
abbrev pub TableLaw : Type 0
TableLaw = (image : List ℕ) (trees : Walked) (array : List Chunk) (roots : List RootAt)
    → walked image ≡ Ok trees → array_chunks (array_place trees.sup) trees.sup.array trees.sup.array_size ≡ Ok array
    → root_items_in trees.sup trees.chunks image ≡ Ok roots
    → AllByRecursion (λ tree. Stands (table_of (live_in trees.seen)) trees.sup tree.0 tree.1) (trees_in trees.sup array trees.chunks roots image)
