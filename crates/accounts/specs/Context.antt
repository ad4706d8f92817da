-- The context of an image: what the postings of one record rest on beside the record itself.
use Rattle.std.specs.Prelude.{ℕ, Bool, false, List, Option, option_map}
use Rattle.verdict.specs.declared.place.Chunk.{Chunk}
use Rattle.verdict.specs.Chunks.{home}
use Rattle.accounts.specs.declared.context.Home.{Home}

-- the chunks of the chunk tree, the size of a tree block, whether the data of an inode of a tree has no checksums, and whether the tree block
-- at an address refers to what is below it by that address
pub record Context : Type 0 where
  pub chunks : List Chunk
  pub nodesize : ℕ
  pub sum_free : ℕ → ℕ → Bool
  pub full : ℕ → Bool

-- in the profile no tree block refers to what is below it by its address: each does so by its owner
abbrev pub no_full : ℕ → Bool
no_full address = false

-- a chunk that holds a range whole
abbrev pub home_in : Chunk → Home
home_in chunk = record { start = chunk.start; length = chunk.length; class = chunk.class }

-- the home of n bytes from a logical address on: the first chunk that holds them whole
abbrev pub home_of : Context → ℕ → ℕ → Option Home
home_of context address n = option_map home_in (home context.chunks address n)
