-- What a make leaves of the device and of the sink: the base image over the front of the device, and in the
-- sink the trace of a workload on it.
use Rattle.std.specs.Prelude.{ℕ, ◌≡◌, ◌⊎◌, List, [], ◌∷◌, ◌++◌, length, drop, IfSome, option_map}
use Rattle.std.specs.Option.{IsSomeAnd}
use Rattle.verdict.specs.Image.{written}
use Rattle.recon_disk.specs.declared.disk.Disk.{Ghosts as DiskGhosts}
use Rattle.recon_disk.specs.declared.sink.Sink.{Ghosts as SinkGhosts}
use Rattle.recon_disk.specs.Calls.{Sent, Flushed, and_sent}
use Rattle.image_maker.specs.BaseImage.{base_image_bytes}
use Rattle.trace_maker.specs.Made.{Gained, IsFront, IsMade}

-- The base image lies over the first 33,554,432 bytes of the disk, and the bytes behind them are the old ones. The
-- last call that was sent is a flush.
pub record HasBaseImage {D : Type 0} (disks : DiskGhosts D) (old new : D) : Type 0 where
  pub bytes : disks.bytes new ≡ option_map (λ image. written image 0 base_image_bytes) (disks.bytes old)
  pub calls : List Sent
  pub flushed : disks.sent new ≡ and_sent (disks.sent old) (calls ++ Flushed ∷ [])

-- nothing was written to the disk
pub record IsUnwritten {D : Type 0} (disks : DiskGhosts D) (old new : D) : Type 0 where
  pub bytes : disks.bytes new ≡ disks.bytes old
  pub sent : disks.sent new ≡ disks.sent old

-- an image keeps its length and its bytes past the first 33,554,432
pub record StaysPastBase (image left : List ℕ) : Type 0 where
  pub same_length : length left ≡ length image
  pub past : drop 33554432 left ≡ drop 33554432 image

-- What a make leaves at each status. At 7 memory was wanting before the device was written, or for the trace.
abbrev pub MakesAs : {D K : Type 0} → DiskGhosts D → SinkGhosts K → ℕ → ℕ → ℕ → D → D → K → K → Type 0
MakesAs disks sinks seed commits status disk disk' sink sink' =
    ((status ≡ 0) × HasBaseImage disks disk disk' × Gained (IsMade seed commits) (sinks.kept sink) (sinks.kept sink'))
    ⊎ ((status ≡ 4) × IfSome (disks.bytes disk) (λ image. IsSomeAnd (disks.bytes disk') (StaysPastBase image)) × (sink' ≡ sink))
    ⊎ ((status ≡ 6) × HasBaseImage disks disk disk' × Gained IsFront (sinks.kept sink) (sinks.kept sink'))
    ⊎ ((status ≡ 7) × HasBaseImage disks disk disk' × Gained IsFront (sinks.kept sink) (sinks.kept sink'))
    ⊎ ((status ≡ 7) × IsUnwritten disks disk disk' × (sink' ≡ sink))
    ⊎ ((status ≡ 8) × IsUnwritten disks disk disk' × (sink' ≡ sink))
