-- The tree blocks of the metadata chunk, and what a new generation may not write over.
use Rattle.std.specs.Prelude.{ℕ, ◌≡◌, ◌≢◌, ◌<◌, ◌≤◌, ◌⊎◌, List, [], ◌∷◌, ◌++◌, map}
use Rattle.std.specs.List.{All, Contains, flat_map}
use Rattle.volume_maker.specs.declared.block.BlockAt.{BlockAt}
use Rattle.volume_maker.specs.declared.tree.Tree.{Tree}
use Rattle.volume_maker.specs.declared.trees.Trees.{Trees}

-- the places of a tree's blocks: the leaves below a node, and the root block
abbrev pub blocks_of : Tree → List BlockAt
blocks_of t = map (λ b. b.at) t.leaves.items ++ t.root.at ∷ []

-- the one block of the device tree, which no commit changes
abbrev pub device_block : BlockAt
device_block = record { number = 2; tree = 4; level = 0; generation = 1 }

-- the blocks of all trees but the root tree and the extent tree
abbrev pub kept_blocks : Trees → List BlockAt
kept_blocks t =
    (device_block ∷ []) ++ blocks_of t.files ++ blocks_of t.sums ++ flat_map blocks_of t.subvolumes.items

-- all blocks of the metadata chunk
abbrev pub all_blocks : Trees → List BlockAt
all_blocks t = kept_blocks t ++ blocks_of t.roots ++ blocks_of t.extents

-- each of these blocks stands in the metadata chunk, which has 512 of them
abbrev pub AreInChunk : List BlockAt → Type 0
AreInChunk blocks = All (λ b. b.number < 512) blocks

-- no generation above this one wrote any of these blocks
abbrev pub IsUpTo : ℕ → List BlockAt → Type 0
IsUpTo generation blocks = All (λ b. b.generation ≤ generation) blocks

-- earlier generations wrote all of these blocks
abbrev pub IsBefore : ℕ → List BlockAt → Type 0
IsBefore generation blocks = All (λ b. b.generation < generation) blocks

-- each block is one of the old ones, or of this generation
abbrev pub AreKeptOrNew : ℕ → List BlockAt → List BlockAt → Type 0
AreKeptOrNew generation old new = All (λ b. Contains old b ⊎ (b.generation ≡ generation)) new

-- Copy on write: a new block of this generation stands where no old block does.
abbrev pub IsOverNoLive : ℕ → List BlockAt → List BlockAt → Type 0
IsOverNoLive generation old new =
    All (λ b. b.generation ≡ generation → All (λ o. o.number ≢ b.number) old) new
