-- These words serve private functions alone: what goes out to a disk step by step.
use Rattle.std.specs.Prelude.{ℕ, ◌≡◌, ◌+◌, ◌-◌, ◌<◌, ◌≤◌, ◌⊎◌, List, length, take, drop, min, Option, Some, IsSome, Result, OnOk, OnErr, IfSome, slice_index}
use Rattle.std.specs.Option.{IsSomeAnd}
use Rattle.std.specs.Ordering.{nat_cmp}
use Rattle.std.specs.FinMap.{FinMap, get}
use Rattle.verdict.specs.Image.{range, written}
use Rattle.recon_disk.specs.declared.disk.Disk.{Ghosts}
use Rattle.recon_disk.specs.Outside.{HasCause}
use Rattle.recon_disk.specs.Calls.{Sent, and_sent, HasSentFront}
use Rattle.recon_disk.specs.Stops.{Moment, Unflushed, OfPlace, OfRange}
use Rattle.write_cache.specs.Cache.{overlaid}
use Rattle.write_cache.specs.Pieces.{Piece, ArePiecesOf}
use Rattle.recon_core.specs.Moments.{IsFlushedAs, LeavesAfter}
use Rattle.recon_core.specs.Stops.{IsPartlySent}
use Rattle.recon_core.specs.Order.{pieces_calls}
use Rattle.recon_disk.specs.Sending.{StaysOutside}

-- the bytes outside a range stay, and those in the superblock place
pub record StaysButForPiece (at n : ℕ) (old left : List ℕ) : Type 0 where
  pub outside : StaysOutside at n old left
  pub place : (i : ℕ) → 65536 ≤ i → i < 69632 → slice_index left i ≡ slice_index old i

-- an image with the superblock place of another
unfoldable pub with_place_of : List ℕ → List ℕ → List ℕ
with_place_of other image = written image 65536 (range 65536 4096 other)

-- an image with a piece's bytes before the superblock place over it, and those behind it
unfoldable pub sent_piece : List ℕ → ℕ → List ℕ → List ℕ
sent_piece image at bytes =
    written (written image at (take (min (65536 - at) (length bytes)) bytes)) (at + min (69632 - at) (length bytes))
    (drop (min (69632 - at) (length bytes)) bytes)

-- all that waits went out, or a part of it outside the superblock place
abbrev pub IsAllOrPart : FinMap nat_cmp ℕ → List ℕ → List ℕ → Type 0
IsAllOrPart waiting old left = (left ≡ overlaid waiting 0 old) ⊎ IsPartlySent waiting old left

-- the runs of all that waits went out, but for the superblock place
abbrev pub HasSentRuns : FinMap nat_cmp ℕ → Option (List Sent) → Option (List Sent) → Type 0
HasSentRuns waiting before now = (pieces : List Piece) × ArePiecesOf waiting pieces × (now ≡ and_sent before (pieces_calls pieces))

-- a front of them did
abbrev pub HasSentSomeRuns : FinMap nat_cmp ℕ → Option (List Sent) → Option (List Sent) → Type 0
HasSentSomeRuns waiting before now = (pieces : List Piece) × ArePiecesOf waiting pieces × HasSentFront (pieces_calls pieces) before now

-- a write since the last flush has its range in one of n bytes from an offset on, and touches no byte of the superblock place
abbrev pub IsOutIn : ℕ → ℕ → Unflushed → Type 0
IsOutIn at n (OfPlace bytes) = ⊥
IsOutIn at n (OfRange from m) = (at ≤ from) × (from + m ≤ at + n) × ((from + m ≤ 65536) ⊎ (69632 ≤ from))

-- the same of one each byte of which waits
abbrev pub IsOut : FinMap nat_cmp ℕ → Unflushed → Type 0
IsOut waiting (OfPlace bytes) = ⊥
IsOut waiting (OfRange from m) = ((i : ℕ) → from ≤ i → i < from + m → IsSome (get waiting i)) × ((from + m ≤ 65536) ⊎ (69632 ≤ from))

-- What a stop in a call may leave of a disk that is settled when it begins, where the disk tells its bytes and this holds of them.
abbrev pub LeavesBy : (List ℕ → Type 0) → (List ℕ → List ℕ → Type 0) → Option (List ℕ) → Option (List Moment) → Option (List Moment) → Type 0
LeavesBy Is Leaves bytes before now =
    IfSome bytes (λ image. Is image → IfSome before (λ moments. IsFlushedAs image moments → LeavesAfter (Leaves image) moments now))

-- the bytes are those of the superblock place of an image with the waiting bytes over it
abbrev pub IsPlaceOf : FinMap nat_cmp ℕ → List ℕ → List ℕ → Type 0
IsPlaceOf waiting place image = place ≡ range 65536 4096 (overlaid waiting 0 image)

-- What is left of a disk once all that waits is let through with these bytes as the superblock place: where they are those of its image the
-- whole, or a part where a call failed. Nothing is read.
pub record LetsThrough {D T E : Type 0} (disk : Ghosts D) (old new : D) (waiting : FinMap nat_cmp ℕ) (place : List ℕ)
    (result : Result T E) : Type 0 where
  pub made : OnOk result (IfSome (disk.bytes old) (λ image. IsPlaceOf waiting place image → disk.bytes new ≡ Some (overlaid waiting 0 image)))
  pub left : OnErr result (IfSome (disk.bytes old) (λ image. IsPlaceOf waiting place image → IsSomeAnd (disk.bytes new) (IsAllOrPart waiting image)))
  pub len : disk.len new ≡ disk.len old
  pub cause : HasCause (disk.faults old) (disk.faults new) result
  pub reads : disk.reads new ≡ disk.reads old
