-- What a disk in memory that tells its moments holds, and which of its calls fail.
use Rattle.std.specs.Prelude.{ℕ, ◌≡◌, ◌-◌, Bool, ◌&&◌, ◌||◌, nat_eq, nat_lt, List, [], ◌∷◌, length, take, drop, reverse, Result, OnErr, is_err, is_some, if◌then◌else◌}
use Rattle.verdict.specs.Image.{range, written}
use Rattle.recon_disk.specs.declared.memory.Op.{Op}
use Rattle.recon_disk.specs.declared.memory.MemDisk.{MemDisk}
use Rattle.recon_disk.specs.declared.stop.Record.{Record}
use Rattle.recon_disk.specs.declared.stop.Record.TheVariants.{Wrote, Missed, Flushed}
use Rattle.recon_disk.specs.declared.stop.StopDisk.{StopDisk}
use Rattle.recon_disk.specs.Outside.{counted, superblock_at, superblock_size}
use Rattle.recon_disk.specs.Memory.{bytes_in, fails_of, calls_of, faults_of, after_call, fail_of_next}
use Rattle.recon_disk.specs.Stops.{Unflushed, OfPlace, OfRange, Moment, flushed_as, with_write}

-- the last n of some bytes, and those in front of them
abbrev pub last_of : ℕ → List ℕ → List ℕ
last_of n bytes = drop (length bytes - n) bytes

abbrev pub before_last : ℕ → List ℕ → List ℕ
before_last n bytes = take (length bytes - n) bytes

-- the write of so many bytes from an offset on that left this image
abbrev pub write_of : ℕ → ℕ → List ℕ → Unflushed
write_of at n image = if nat_eq at superblock_at && nat_eq n superblock_size then OfPlace (range at n image) else OfRange at n

-- The moments of a disk that reads as this image, by its records, the newest first, and the bytes that belong to them, those of the newest
-- last. Those of a write are what it replaced. Those of a write of exactly the superblock place that changed nothing are its own.
abbrev pub moments_from : List Record → List ℕ → List ℕ → List Moment
moments_from [] pool image = flushed_as image ∷ []
moments_from (Wrote at n ∷ older) pool image = with_write (moments_from older (before_last n pool) (written image at (last_of n pool))) (write_of at n image)
moments_from (Missed ∷ older) pool image = with_write (moments_from older (before_last superblock_size pool) image) (OfPlace (last_of superblock_size pool))
moments_from (Flushed ∷ older) pool image = flushed_as image ∷ moments_from older pool image

-- the disk in memory that it is as
abbrev pub disk_of : StopDisk → MemDisk
disk_of d = d.disk

-- the moments so far at which it may stop, the newest first
abbrev pub moments_of : StopDisk → List Moment
moments_of d = moments_from (reverse d.records.items) d.replaced.items (bytes_in d.disk)

-- how many more writes and flushes it has the memory to record
abbrev pub records_left : StopDisk → ℕ
records_left d = d.calls - length d.records.items

-- and how many more bytes that writes replace
abbrev pub room_left : StopDisk → ℕ
room_left d = d.room - length d.replaced.items

-- whether it has no record left, or no room for so many replaced bytes
abbrev pub is_full : StopDisk → ℕ → Bool
is_full d n = nat_eq (records_left d) 0 || nat_lt (room_left d) n

-- what it has left is as it was
pub record IsAsLeft (before after : StopDisk) : Type 0 where
  pub records : records_left after ≡ records_left before
  pub room : room_left after ≡ room_left before

-- A write or a flush that replaces n bytes was counted, and the list is as it was. It failed exactly where no record or no room was left
-- for it, or where the list names it, and then one more fault was counted.
pub record IsRecorded {T E : Type 0} (op : Op) (n : ℕ) (before after : StopDisk) (result : Result T E) : Type 0 where
  pub list : fails_of (disk_of after) ≡ fails_of (disk_of before)
  pub calls : calls_of (disk_of after) ≡ after_call op (calls_of (disk_of before))
  pub failed : is_err result ≡ (is_full before n || is_some (fail_of_next op (disk_of before)))
  pub faults : OnErr result (faults_of (disk_of after) ≡ counted (faults_of (disk_of before)))
