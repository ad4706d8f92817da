-- The list of chunks, and where a range of logical addresses stands on the device by it.
use Rattle.std.specs.Prelude.{ℕ, ◌+◌, ◌-◌, Bool, ◌&&◌, nat_le, nat_lt, List, [], ◌∷◌, Option, Some, None, if◌then◌else◌}
use Rattle.verdict.specs.declared.place.Chunk.{Chunk}
use Rattle.verdict.specs.declared.place.Place.{Place}
use Rattle.verdict.specs.declared.place.Place.TheVariants.{Nowhere, One, Two}

-- whether a chunk holds n bytes from a logical address on whole
abbrev pub holds_range : Chunk → ℕ → ℕ → Bool
holds_range chunk a n = nat_le chunk.start a && nat_le (a + n) (chunk.start + chunk.length)

-- the first chunk of a list that holds n bytes from a logical address on whole
abbrev pub home : List Chunk → ℕ → ℕ → Option Chunk
home [] a n = None
home (chunk ∷ chunks) a n = if holds_range chunk a n then Some chunk else home chunks a n

-- the place of n bytes that stand at an offset in a chunk whose copies begin here and maybe there, on a device of end bytes
abbrev pub place_of_copies : ℕ → Option ℕ → ℕ → ℕ → ℕ → Place
place_of_copies first None offset n end = if nat_le (first + offset + n) end then One (first + offset) else Nowhere
place_of_copies first (Some second) offset n end =
    if nat_le (first + offset + n) end && nat_le (second + offset + n) end then Two (first + offset) (second + offset) else Nowhere

-- the place that a chunk gives to n bytes from a logical address on, if there is such a chunk
abbrev pub place_in : Option Chunk → ℕ → ℕ → ℕ → Place
place_in None a n end = Nowhere
place_in (Some chunk) a n end = place_of_copies chunk.first chunk.second (a - chunk.start) n end

-- the place of n bytes from a logical address on: the first chunk of the list that holds them whole decides
abbrev pub place : List Chunk → ℕ → ℕ → ℕ → Place
place chunks a n end = place_in (home chunks a n) a n end

-- the logical address whose copy stands at a physical offset in a chunk, in the first copy that has it
abbrev pub logical_in_copies : ℕ → ℕ → ℕ → Option ℕ → ℕ → Option ℕ
logical_in_copies start n first None physical =
    if nat_le first physical && nat_lt physical (first + n) then Some (start + (physical - first)) else None
logical_in_copies start n first (Some second) physical =
    if nat_le first physical && nat_lt physical (first + n) then Some (start + (physical - first))
    else (if nat_le second physical && nat_lt physical (second + n) then Some (start + (physical - second)) else None)

-- the first of two addresses that there is
abbrev pub logical_or : Option ℕ → Option ℕ → Option ℕ
logical_or None later = later
logical_or (Some address) later = Some address

-- the logical address whose copy stands at a physical offset in the first chunk of the list that has one there
abbrev pub logical_of : List Chunk → ℕ → Option ℕ
logical_of [] physical = None
logical_of (chunk ∷ chunks) physical =
    logical_or (logical_in_copies chunk.start chunk.length chunk.first chunk.second physical) (logical_of chunks physical)
