-- The system chunk array of the superblock: pairs of a key and a chunk item, back to back. Its items have a place like those of the
-- chunk tree, but stand in no leaf.
use Rattle.std.specs.Prelude.{ℕ, zero, suc, ◌+◌, ◌*◌, Bool, not, ◌&&◌, ◌||◌, ◌==◌, nat_lt, List, [], ◌∷◌, ◌++◌, Result, Ok, Err, if◌then◌else◌}
use Rattle.recon_bytes.specs.Field.{field}
use Rattle.verdict.specs.Image.{range}
use Rattle.verdict.specs.OnDisk.{key_of}
use Rattle.verdict.specs.Rules.{image_finding}
use Rattle.verdict.specs.declared.finding.Finding.{Finding}
use Rattle.verdict.specs.declared.finding.Family.TheVariants.{S}
use Rattle.verdict.specs.declared.place.At.{At}
use Rattle.verdict.specs.declared.place.Chunk.{Chunk}
use Rattle.volume_items.specs.ChunkRow.{ChunkFields, chunk_row, chunk_of}
use Rattle.verdict.specs.declared.kinds.TheConstants.{CHUNK_ITEM}

-- how many bytes the chunk item has whose pair stands at a byte of the array, by its number of stripes
abbrev pub item_size : List ℕ → ℕ → ℕ
item_size array at = 48 + 32 * field 2 array (at + 61)

-- S9: no whole key and chunk item is left, the key is not (256, 228, any), or the stripes pass the end
abbrev pub pair_fails : List ℕ → ℕ → ℕ → Bool
pair_fails array size at =
    nat_lt size (at + 65)
    || not ((key_of array at).objectid == 256 && (key_of array at).kind == CHUNK_ITEM)
    || nat_lt size (at + 17 + item_size array at)

-- the chunk of the pair at a byte of the array, or the finding
unfoldable pub pair_of : At → List ℕ → ℕ → ℕ → Result ChunkFields Finding
pair_of place array size at =
    if pair_fails array size at then Err (image_finding S 9 at)
    else chunk_row place (key_of array at) (range (at + 17) (item_size array at) array)

-- the chunks so far with one more, and then what follows; a finding stays
abbrev pub with_chunk : Result ChunkFields Finding → (List Chunk → Result (List Chunk) Finding) → List Chunk → Result (List Chunk) Finding
with_chunk (Err finding) more chunks = Err finding
with_chunk (Ok fields) more chunks = more (chunks ++ chunk_of fields ∷ [])

-- the chunks so far with those of the pairs from a byte of the array on, of which there are at most so many
unfoldable pub pairs_from : At → List ℕ → ℕ → ℕ → ℕ → List Chunk → Result (List Chunk) Finding
pairs_from place array size zero at chunks = Ok chunks
pairs_from place array size (suc n) at chunks =
    if at == size then Ok chunks
    else with_chunk (pair_of place array size at) (pairs_from place array size n (at + 17 + item_size array at)) chunks

-- the chunks of an array of so many bytes in its order, or the first finding. There are fewer pairs than bytes
abbrev pub array_chunks : At → List ℕ → ℕ → Result (List Chunk) Finding
array_chunks place array size = pairs_from place array size size 0 []
