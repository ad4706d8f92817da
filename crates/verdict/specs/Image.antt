-- The image of a device: its bytes, as a list. A write puts bytes over a range of it.
use Rattle.std.specs.Prelude.{ℕ, ◌+◌, List, [], ◌∷◌, ◌++◌, length, take, drop}
use Rattle.verdict.specs.declared.machine.HeldWrite.{HeldWrite}

-- the n bytes of an image from an offset
abbrev pub range : ℕ → ℕ → List ℕ → List ℕ
range at n image = take n (drop at image)

-- An image with these bytes over the range that begins at an offset. It keeps its length: bytes of the write that
-- would lie behind the image's end fall away.
unfoldable pub written : List ℕ → ℕ → List ℕ → List ℕ
written image at bytes = take (length image) (take at image ++ bytes ++ drop (at + length bytes) image)

-- An image with all these writes over it, in order, so that of two writes of one byte the later stands. It keeps its
-- length.
abbrev pub applied : List ℕ → List HeldWrite → List ℕ
applied image [] = image
applied image (w ∷ ws) = applied (written image w.at w.bytes) ws
