-- What a step that reads gives, over a disk with pending writes. A step that has a finding stops there.
use Rattle.std.specs.Prelude.{ℕ, ◌≡◌, Bool, true, false, List, IfSome, Result, Ok, Err}
use Rattle.std.specs.Ordering.{nat_cmp}
use Rattle.std.specs.FinMap.{FinMap}
use Rattle.verdict.specs.declared.finding.Finding.{Finding}
use Rattle.recon_disk.specs.declared.disk.Disk.{Ghosts}
use Rattle.write_cache.specs.Cache.{overlaid}
use Rattle.block_source.specs.declared.halt.Fault.{Fault}
use Rattle.block_source.specs.declared.halt.Fault.TheVariants.{Disk as FaultOfDisk, NoMemory as Want}
use Rattle.block_source.specs.declared.halt.Halt.{Halt}
use Rattle.block_source.specs.declared.halt.Halt.TheVariants.{Found, Disk, NoMemory}

-- whether an answer names a fault of the disk
abbrev pub is_disk_fault : {A : Type 0} → Result A Fault → Bool
is_disk_fault (Err FaultOfDisk) = true
is_disk_fault answer = false

-- the same of a step that may stop for a finding
abbrev pub is_disk_halt : {A : Type 0} → Result A Halt → Bool
is_disk_halt (Err Disk) = true
is_disk_halt answer = false

-- the fault as it stops a step
abbrev pub halt_of : Fault → Halt
halt_of FaultOfDisk = Disk
halt_of Want = NoMemory

-- what the step says to others: its value or its finding, or the fault that stopped it
abbrev pub told : {A : Type 0} → Result A Halt → Result (Result A Finding) Fault
told (Ok value) = Ok (Ok value)
told (Err (Found finding)) = Ok (Err finding)
told (Err Disk) = Err FaultOfDisk
told (Err NoMemory) = Err Want

-- a step that reads no disk gives the value or the finding of its definition
abbrev pub IsOutcome : {A : Type 0} → Result A Halt → Result A Finding → Type 0
IsOutcome (Ok value) whole = whole ≡ Ok value
IsOutcome (Err (Found finding)) whole = whole ≡ Err finding
IsOutcome (Err NoMemory) whole = Unit {0}
IsOutcome (Err Disk) whole = ⊥

-- where the disk tells its bytes, a step gives the value or the finding of its definition, of these bytes with the pending writes over them
abbrev pub Gives : {D A : Type 0} → Ghosts D → D → FinMap nat_cmp ℕ → Result A Halt → (List ℕ → Result A Finding) → Type 0
Gives disk before waiting (Err Disk) of = Unit {0}
Gives disk before waiting result of = IfSome (disk.bytes before) (λ image. IsOutcome result (of (overlaid waiting 0 image)))
