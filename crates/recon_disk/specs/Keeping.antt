-- What a step keeps of a disk that it is lent.
use Rattle.std.specs.Prelude.{ℕ, ◌≡◌, ◌≤◌, Bool, true, false}
use Rattle.recon_disk.specs.declared.disk.Disk.{Ghosts}
use Rattle.recon_disk.specs.Outside.{counted}

-- A step's count of faults of an object that it is lent: where its answer names a fault of the object, the count rose or
-- stands at its greatest value; with every other answer it stays.
abbrev pub IsCounted : Bool → ℕ → ℕ → Type 0
IsCounted true before now = (before ≤ now) × (counted before ≤ now)
IsCounted false before now = now ≡ before

-- a step keeps a disk's length and bytes, sends nothing to it, leaves what a stop may leave and what waits, and the faults of the disk are
-- counted; the flag says whether the step's answer names one
pub record Kept {D : Type 0} (disk : Ghosts D) (old new : D) (failed : Bool) : Type 0 where
  pub len : disk.len new ≡ disk.len old
  pub bytes : disk.bytes new ≡ disk.bytes old
  pub sent : disk.sent new ≡ disk.sent old
  pub moments : disk.moments new ≡ disk.moments old
  pub queue : disk.queue new ≡ disk.queue old
  pub faults : IsCounted failed (disk.faults old) (disk.faults new)
