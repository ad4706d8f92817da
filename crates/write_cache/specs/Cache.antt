-- Writes that wait, as one finite map from the offset of a byte on the device to the byte that is to stand there.
use Rattle.std.specs.Prelude.{ℕ, ◌+◌, ◌≤◌, List, [], ◌∷◌, length}
use Rattle.std.specs.Option.{unwrap_or}
use Rattle.std.specs.Ordering.{nat_cmp}
use Rattle.std.specs.FinMap.{FinMap, empty, get, insert}
use Rattle.verdict.specs.declared.machine.HeldWrite.{HeldWrite}

-- the map after bytes are put from an offset on, over what stood there
unfoldable pub with_bytes : FinMap nat_cmp ℕ → ℕ → List ℕ → FinMap nat_cmp ℕ
with_bytes m at [] = m
with_bytes m at (b ∷ bs) = with_bytes (insert m at b) (at + 1) bs

-- the map after these writes are put one after the other
unfoldable pub with_writes : FinMap nat_cmp ℕ → List HeldWrite → FinMap nat_cmp ℕ
with_writes m [] = m
with_writes m (w ∷ ws) = with_writes (with_bytes m w.at w.bytes) ws

-- the map that these writes make, in order, so that of two writes of one byte the later stands
abbrev pub cache_of : List HeldWrite → FinMap nat_cmp ℕ
cache_of ws = with_writes empty ws

-- a buffer that begins at an offset, with the map's bytes over it
unfoldable pub overlaid : FinMap nat_cmp ℕ → ℕ → List ℕ → List ℕ
overlaid m at [] = []
overlaid m at (x ∷ xs) = unwrap_or (get m at) x ∷ overlaid m (at + 1) xs

-- each write ends at most at this offset
abbrev pub AllInside : ℕ → List HeldWrite → Type 0
AllInside end [] = Unit {0}
AllInside end (w ∷ ws) = (w.at + length w.bytes ≤ end) × AllInside end ws
