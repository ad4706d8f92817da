-- The chunks of a list that are kept of several which hold one address.
use Rattle.std.specs.Prelude.{not, ◌&&◌, Bool, List, [], ◌∷◌, ◌++◌, is_some, if◌then◌else◌}
use Rattle.std.specs.List.{fold}
use Rattle.verdict.specs.Chunks.{home}
use Rattle.verdict.specs.declared.place.Chunk.{Chunk}
use Rattle.tree_change.specs.Merges.{fits}

-- whether a chunk ends at an address of 64 bits, and no chunk that is kept has its first byte
abbrev pub is_new : List Chunk → Chunk → Bool
is_new some chunk = fits chunk && not (is_some (home some chunk.start 1))

-- kept chunks, with one more where it is new
abbrev pub with_new : List Chunk → Chunk → List Chunk
with_new some chunk = if is_new some chunk then some ++ chunk ∷ [] else some

-- those of a list that are kept
abbrev pub distinct : List Chunk → List Chunk
distinct chunks = fold with_new [] chunks
