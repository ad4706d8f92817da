-- What is known of an image rests on its superblock and on the copies of its live blocks, and on no other byte.
use Rattle.std.specs.Prelude.{◌≡◌, ℕ, true, List, length, is_some}
use Rattle.verdict.specs.Chunks.{place}
use Rattle.verdict.specs.Image.{range}
use Rattle.verdict.specs.declared.place.Place.{Place}
use Rattle.verdict.specs.declared.place.Place.TheVariants.{Nowhere, One, Two}
use Rattle.records.specs.FullCheck.{full_check}
use Rattle.tree_laws.specs.LivePairs.{walked}
use Rattle.commit_laws.specs.Commit.{IsKnown, Known}

-- two images have the same n bytes from an offset on
abbrev pub HaveSame : ℕ → List ℕ → List ℕ → ℕ → Type 0
HaveSame n image other at = range at n other ≡ range at n image

-- the same of each copy of n bytes that stand at a place
abbrev pub HaveSameCopies : ℕ → List ℕ → List ℕ → Place → Type 0
HaveSameCopies n image other Nowhere = Unit {0}
HaveSameCopies n image other (One first) = HaveSame n image other first
HaveSameCopies n image other (Two first second) = HaveSame n image other first × HaveSame n image other second

-- Another image has the length of one of which this is known, the same bytes where the superblock stands, and the same bytes in each copy
-- of the block of each live pair.
pub record Agrees (k : Known) (image other : List ℕ) : Type 0 where
  pub size : length other ≡ length image
  pub super : HaveSame 4096 image other 65536
  pub copies : (tree address : ℕ) → is_some (k.pairs tree address) ≡ true
      → HaveSameCopies k.sup.nodesize image other (place k.chunks address k.sup.nodesize (length image))

-- then the other image has the same full check and the same walks, and the same is known of it
abbrev pub FrameLaw : Type 0
FrameLaw = (image other : List ℕ) (k : Known) → IsKnown image k → Agrees k image other
    → (full_check other ≡ full_check image) × (walked other ≡ walked image) × IsKnown other k
