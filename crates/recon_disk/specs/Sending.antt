-- What a step that writes to a disk makes of its bytes, and what it leaves of them where a call failed.
use Rattle.std.specs.Prelude.{ℕ, ◌≡◌, ◌+◌, ◌<◌, ◌≤◌, ◌⊎◌, List, length, Result, OnOk, OnErr, IfSome, option_map, slice_index}
use Rattle.std.specs.Option.{IsSomeAnd}
use Rattle.recon_disk.specs.declared.disk.Disk.{Ghosts}
use Rattle.recon_disk.specs.Outside.{HasCause}

-- What a step that writes to a disk gives. Where it answers, the disk's bytes are what this makes of the old ones;
-- where a call failed, this holds of the old bytes and those that are left. The length stays, and faults have their
-- cause.
pub record Sends {D T E : Type 0} (disk : Ghosts D) (old new : D) (result : Result T E) (makes : List ℕ → List ℕ) (leaves : List ℕ → List ℕ → Type 0) : Type 0 where
  pub made : OnOk result (disk.bytes new ≡ option_map makes (disk.bytes old))
  pub left : OnErr result (IfSome (disk.bytes old) (λ image. IsSomeAnd (disk.bytes new) (leaves image)))
  pub len : disk.len new ≡ disk.len old
  pub cause : HasCause (disk.faults old) (disk.faults new) result

-- the bytes outside a range stay
pub record StaysOutside (at n : ℕ) (old left : List ℕ) : Type 0 where
  pub same_length : length left ≡ length old
  pub others : (i : ℕ) → (i < at) ⊎ (at + n ≤ i) → slice_index left i ≡ slice_index old i
