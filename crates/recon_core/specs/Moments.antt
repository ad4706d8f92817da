-- What a stop at a moment in an event may leave, such as a power cut, of a disk that tells it.
use Rattle.std.specs.Prelude.{ℕ, ◌≡◌, List, [], ◌∷◌, ◌++◌, Option, Some, IfSome}
use Rattle.recon_disk.specs.Stops.{Moment, MayRemain, flushed_as}

-- the newest moment is just behind a flush of a disk that reads so, and a stop leaves this image alone
abbrev pub IsFlushedAs : List ℕ → List Moment → Type 0
IsFlushedAs image [] = ⊥
IsFlushedAs image (moment ∷ older) = moment ≡ flushed_as image

-- the same of a disk, where it tells its bytes and its moments
abbrev pub IsAtRest : Option (List ℕ) → Option (List Moment) → Type 0
IsAtRest bytes moments = IfSome bytes (λ image. IfSome moments (IsFlushedAs image))

-- of all that a stop at these moments may leave this holds
abbrev pub EachLeaves : (List ℕ → Type 0) → List Moment → Type 0
EachLeaves Leaves [] = Unit {0}
EachLeaves Leaves (moment ∷ older) = ((left : List ℕ) → MayRemain moment left → Leaves left) × EachLeaves Leaves older

-- Moments came behind older ones, and this holds of all that a stop at them may leave.
pub record LeavesAfter (Leaves : List ℕ → Type 0) (before : List Moment) (now : Option (List Moment)) : Type 0 where
  pub added : List Moment
  pub moments : now ≡ Some (added ++ before)
  pub each : EachLeaves Leaves added
