-- What is stored at the logical addresses of an image, of which the chunks say where a block's one or two copies stand.
use Rattle.std.specs.Prelude.{ℕ, Bool, not, ◌==◌, List, length, slice_index, Option, Some, None, Result, Ok, Err, if◌then◌else◌}
use Rattle.verdict.specs.Image.{range}
use Rattle.verdict.specs.Chunks.{place}
use Rattle.verdict.specs.declared.finding.Finding.{Finding}
use Rattle.verdict.specs.declared.finding.Family.TheVariants.{N}
use Rattle.verdict.specs.declared.place.Chunk.{Chunk}
use Rattle.verdict.specs.declared.place.Place.{Place}
use Rattle.verdict.specs.declared.place.Place.TheVariants.{Nowhere, One, Two}
use Rattle.verdict.specs.Items.{is_multiple}
use Rattle.node_reader.specs.Places.{least_from}
use Rattle.verdict.specs.Rules.{and_then}
use Rattle.node_reader.specs.Faults.{block_finding, block_of}
use Rattle.node_reader.specs.declared.expect.Expect.{Expect}

-- whether two lists of bytes differ at a place
unfoldable pub differs_at : List ℕ → List ℕ → ℕ → Bool
differs_at first second place = not (slice_index first place == slice_index second place)

-- the least place of a copy at which another differs from it
abbrev pub least_difference : List ℕ → List ℕ → Option ℕ
least_difference first second = least_from (differs_at first second) 0 (length first)

-- why no bytes are stored at an address: it has no place, or its second copy differs from the first, at this place first
pub data CopyFault : Type 0 where
  NoPlace : CopyFault
  DiffersAt : ℕ → CopyFault

-- what is stored at each address: a block's bytes, or why there are none
abbrev pub Stored : Type 0
Stored = ℕ → Result (List ℕ) CopyFault

-- the first copy where no place was found at which the second differs
abbrev pub alike : List ℕ → Option ℕ → Result (List ℕ) CopyFault
alike first None = Ok first
alike first (Some place) = Err (DiffersAt place)

-- the bytes of a block of so many bytes whose copies stand at a place of the image
abbrev pub bytes_at : ℕ → List ℕ → Place → Result (List ℕ) CopyFault
bytes_at nodesize image Nowhere = Err NoPlace
bytes_at nodesize image (One first) = Ok (range first nodesize image)
bytes_at nodesize image (Two first second) =
    alike (range first nodesize image) (least_difference (range first nodesize image) (range second nodesize image))

-- what is stored at each address of an image by a list of chunks, in blocks of so many bytes: nothing where the address is no
-- multiple of a sector, has no place, or has two copies that differ, else the bytes of the first copy
unfoldable pub stored_in : List ℕ → List Chunk → ℕ → Stored
stored_in image chunks nodesize address =
    if is_multiple address then bytes_at nodesize image (place chunks address nodesize (length image)) else Err NoPlace

-- the finding of the block that is expected where no bytes are stored: N1, or N2 at the least place where two copies differ
abbrev pub copy_finding : Expect → CopyFault → Finding
copy_finding e NoPlace = block_finding e N 1 0
copy_finding e (DiffersAt place) = block_finding e N 2 place

-- what is stored where a block is expected, or the finding that nothing is
abbrev pub found_by : Expect → Result (List ℕ) CopyFault → Result (List ℕ) Finding
found_by e (Ok bytes) = Ok bytes
found_by e (Err fault) = Err (copy_finding e fault)

-- the bytes of the block that is expected in a file system with an id, or its finding: that nothing is stored at its address, else
-- the first rule of a block that the bytes break
unfoldable pub block_in : Stored → List ℕ → Expect → Result (List ℕ) Finding
block_in stored fsid e = and_then (found_by e (stored e.address)) (λ bytes. block_of bytes fsid e)
