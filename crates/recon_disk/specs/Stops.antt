-- What a stop, such as a power cut, may leave of a disk.
use Rattle.std.specs.Prelude.{ℕ, ◌≡◌, ◌+◌, ◌<◌, ◌≤◌, ◌⊎◌, ◌&&◌, nat_eq, List, [], ◌∷◌, length, Option, Some, None, slice_index, if◌then◌else◌}
use Rattle.std.specs.Option.{option_map}
use Rattle.verdict.specs.Image.{range}
use Rattle.recon_disk.specs.Outside.{superblock_at, superblock_size}

-- A write since the last flush that answered Ok, also one that failed: of exactly the superblock place with these bytes, or of so many bytes
-- from an offset on.
pub data Unflushed : Type 0 where
  OfPlace : List ℕ → Unflushed
  OfRange : ℕ → ℕ → Unflushed

-- the write of bytes from an offset on
abbrev pub unflushed : ℕ → List ℕ → Unflushed
unflushed at bytes = if nat_eq at superblock_at && nat_eq (length bytes) superblock_size then OfPlace bytes else OfRange at (length bytes)

-- A moment at which a disk may stop: what a read would have given after the last flush, and the writes since, the last one first.
pub record Moment : Type 0 where
  pub flushed : List ℕ
  pub since : List Unflushed

-- none of these writes has an offset in its range
abbrev pub NoneCovers : List Unflushed → ℕ → Type 0
NoneCovers [] i = Unit {0}
NoneCovers (OfPlace bytes ∷ writes) i = ((i < 65536) ⊎ (69632 ≤ i)) × NoneCovers writes i
NoneCovers (OfRange at n ∷ writes) i = ((i < at) ⊎ (at + n ≤ i)) × NoneCovers writes i

-- each of them is of exactly the superblock place or touches no byte of it
abbrev pub AllMindPlace : List Unflushed → Type 0
AllMindPlace [] = Unit {0}
AllMindPlace (OfPlace bytes ∷ writes) = AllMindPlace writes
AllMindPlace (OfRange at n ∷ writes) = ((at + n ≤ 65536) ⊎ (69632 ≤ at)) × AllMindPlace writes

-- bytes are those of the superblock place of an image, or of one of these writes of exactly it
abbrev pub IsPlaceOfOne : List ℕ → List ℕ → List Unflushed → Type 0
IsPlaceOfOne place image [] = place ≡ range 65536 4096 image
IsPlaceOfOne place image (OfPlace bytes ∷ writes) = (place ≡ bytes) ⊎ IsPlaceOfOne place image writes
IsPlaceOfOne place image (OfRange at n ∷ writes) = IsPlaceOfOne place image writes

-- The images that a stop at a moment may leave. Any bytes may stand in the ranges of the writes since the last flush; the others stay. Where
-- no other write touches the superblock place, it is whole: as it was flushed, or of one of the writes of exactly it.
pub record MayRemain (moment : Moment) (left : List ℕ) : Type 0 where
  pub same_length : length left ≡ length moment.flushed
  pub others : (i : ℕ) → NoneCovers moment.since i → slice_index left i ≡ slice_index moment.flushed i
  pub place : AllMindPlace moment.since → IsPlaceOfOne (range 65536 4096 left) moment.flushed moment.since

-- the moment after a flush
abbrev pub flushed_as : List ℕ → Moment
flushed_as image = record { flushed = image; since = [] }

-- Moments, the newest first, and that after one more write. Where there was none there is none.
abbrev pub with_write : List Moment → Unflushed → List Moment
with_write [] write = []
with_write (moment ∷ older) write = record { flushed = moment.flushed; since = write ∷ moment.since } ∷ moment ∷ older

-- the same after a write of these bytes, where moments are told
abbrev pub and_wrote : Option (List Moment) → ℕ → List ℕ → Option (List Moment)
and_wrote moments at bytes = option_map (λ ms. with_write ms (unflushed at bytes)) moments

-- and after a flush of a disk that reads so, where both are told
abbrev pub and_flushed : Option (List Moment) → Option (List ℕ) → Option (List Moment)
and_flushed (Some moments) (Some image) = Some (flushed_as image ∷ moments)
and_flushed (Some moments) None = None
and_flushed None image = None

-- an image is one that a stop at the newest moment may leave
abbrev pub RemainsNow : List Moment → List ℕ → Type 0
RemainsNow [] image = ⊥
RemainsNow (moment ∷ older) image = MayRemain moment image

-- these writes after moments, in their order
abbrev pub with_writes : List Moment → List Unflushed → List Moment
with_writes moments [] = moments
with_writes moments (write ∷ writes) = with_writes (with_write moments write) writes

-- of each write this holds
abbrev pub EachIs : (Unflushed → Type 0) → List Unflushed → Type 0
EachIs Is [] = Unit {0}
EachIs Is (write ∷ writes) = Is write × EachIs Is writes

-- the range of a write has a byte and lies in one of so many bytes from an offset on
abbrev pub LiesIn : ℕ → ℕ → Unflushed → Type 0
LiesIn at n (OfPlace bytes) = (at ≤ 65536) × (69632 ≤ at + n)
LiesIn at n (OfRange from m) = (0 < m) × (at ≤ from) × (from + m ≤ at + n)

-- between two lists of moments nothing came but writes of which this holds
abbrev pub HasWritten : (Unflushed → Type 0) → Option (List Moment) → Option (List Moment) → Type 0
HasWritten Is None now = now ≡ None
HasWritten Is (Some before) now = (writes : List Unflushed) × EachIs Is writes × (now ≡ Some (with_writes before writes))
