-- What a step that reads gives to one that takes records.
use Rattle.std.specs.Prelude.{ℕ, ◌≡◌, List, IfSome, Result, Ok, Err}
use Rattle.std.specs.Ordering.{nat_cmp}
use Rattle.std.specs.FinMap.{FinMap}
use Rattle.verdict.specs.declared.finding.Finding.{Finding}
use Rattle.write_cache.specs.Cache.{overlaid}
use Rattle.recon_disk.specs.declared.disk.Disk.{Ghosts as DiskGhosts}
use Rattle.records.specs.declared.take.Taker.{Ghosts as TakerGhosts}
use Rattle.records.specs.Walk.{Records}
use Rattle.records.specs.Takes.{held_after}
use Rattle.block_source.specs.declared.halt.Halt.{Halt}
use Rattle.block_source.specs.Gives.{IsOutcome, Gives}

-- a step that is done leaves this
abbrev pub leaving : {A H : Type 0} → Result A Halt → H → Result H Halt
leaving (Err halt) held = Err halt
leaving (Ok done) held = Ok held

-- a step that is done hands back a taker that holds this
abbrev pub handing : {T H : Type 0} → (T → H) → Result T Halt → Result H Halt
handing held (Err halt) = Err halt
handing held (Ok taker) = Ok (held taker)

-- a step that reads no disk puts these records into a taker, or has their finding
abbrev pub PutsInto : {T A : Type 0} → (taker : TakerGhosts T) → T → T → Result A Halt → Records → Type 0
PutsInto taker old new result records =
    IsOutcome (leaving result (taker.held new)) (held_after taker.with (taker.held old) records)

-- a step reads these records of an image into a taker, or has their finding
abbrev pub ReadsInto : {D T A : Type 0} → (disk : DiskGhosts D) (taker : TakerGhosts T) → D → FinMap nat_cmp ℕ → T → T → Result A Halt → (List ℕ → Records) → Type 0
ReadsInto disk taker before waiting old new result records =
    Gives disk before waiting (leaving result (taker.held new)) (λ image. held_after taker.with (taker.held old) (records image))

-- what is held where no finding stopped the step
abbrev pub unless_found : {A H : Type 0} → Result A Finding → H → Result H Finding
unless_found (Err finding) held = Err finding
unless_found (Ok done) held = Ok held

-- a step read these records of an image into a taker, or has their finding, where the disk tells its bytes
abbrev pub TakesAsTold : {D T A : Type 0} → (disk : DiskGhosts D) (taker : TakerGhosts T) → D → FinMap nat_cmp ℕ → T → T → Result A Finding → (List ℕ → Records) → Type 0
TakesAsTold disk taker before waiting old new answer records =
    IfSome (disk.bytes before) (λ image. held_after taker.with (taker.held old) (records (overlaid waiting 0 image)) ≡ unless_found answer (taker.held new))
