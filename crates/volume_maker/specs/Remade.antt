-- How trees are made anew in the blocks that are free. These serve the private functions of the trees alone.
use Rattle.std.specs.Prelude.{ℕ, ◌≡◌, ◌<◌, ◌⊎◌, Bool, true, false, List, [], Option, Some, None, slice_index_or}
use Rattle.std.specs.List.{All, Contains}
use Rattle.volume_maker.specs.declared.block.BlockAt.{BlockAt}
use Rattle.volume_maker.specs.declared.tree.Tree.{Tree}
use Rattle.volume_maker.specs.Live.{blocks_of}

-- a block of the chunk that is not in use
abbrev pub IsFree : List Bool → ℕ → Type 0
IsFree space number = slice_index_or space number true ≡ false

-- a block of the chunk that is in use, or none of it
abbrev pub IsBusy : List Bool → ℕ → Type 0
IsBusy space number = slice_index_or space number true ≡ true

-- what was in use still is
abbrev pub NoneFreed : List Bool → List Bool → Type 0
NoneFreed before after = (number : ℕ) → IsFree after number → IsFree before number

-- a block that stood before, or one of this generation in a place that was free
abbrev pub IsKeptOrNew : ℕ → List BlockAt → List Bool → BlockAt → Type 0
IsKeptOrNew generation old space b =
    Contains old b ⊎ ((b.generation ≡ generation) × (b.number < 512) × IsFree space b.number)

-- The blocks of one or more trees, and the blocks in use, before and after they are made anew.
pub record IsRemade (generation : ℕ) (old : List BlockAt) (before : List Bool) (new : List BlockAt) (after : List Bool) : Type 0 where
  pub blocks : All (IsKeptOrNew generation old before) new
  pub taken : NoneFreed before after

-- the blocks of the old tree, if there is one
abbrev pub old_blocks : Option Tree → List BlockAt
old_blocks None = []
old_blocks (Some t) = blocks_of t
