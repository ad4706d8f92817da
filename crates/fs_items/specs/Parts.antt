-- The parts of an item that stand one behind the other, as its names or its directory entries.
use Rattle.std.specs.Prelude.{ℕ, zero, suc, ◌-◌, Bool, ◌&&◌, nat_lt, nat_le, List, [], ◌∷◌, if◌then◌else◌}

-- the places where parts begin, from one place of an item of size bytes on: each where the part before ends, as long as
-- bytes are left; what is left bounds their number
abbrev pub places_by : (ℕ → ℕ) → ℕ → ℕ → ℕ → List ℕ
places_by end size zero place = place ∷ []
places_by end size (suc left) place = place ∷ (if nat_lt (end place) size then places_by end size left (end place) else [])

-- the places where parts begin, from one place on, in an item of size bytes; the part at a place ends where end says
unfoldable pub places : (ℕ → ℕ) → ℕ → ℕ → List ℕ
places end size place = places_by end size (size - place) place

-- the sizes in bytes that a name may have
abbrev pub is_name_size : ℕ → Bool
is_name_size n = nat_le 1 n && nat_le n 255
