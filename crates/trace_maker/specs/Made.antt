-- The trace that is made of a workload: for each operation of its plan the writes of one commit.
use Rattle.std.specs.Prelude.{ℕ, ◌≡◌, ◌+◌, ◌*◌, ◌%◌, ◌<◌, ◌⊎◌, Bool, true, false, List, [], ◌∷◌, ◌++◌, length, replicate, count_by, Option, Some, None, Result, Ok, Err, take}
use Rattle.std.specs.List.{All}
use Rattle.verdict.specs.declared.machine.Event.{Event}
use Rattle.verdict.specs.declared.machine.Event.TheVariants.{Write, Settle, Fetch}
use Rattle.verdict.specs.Events.{meets_superblock}
use Rattle.trace_reader.specs.Trace.{End, IsSpelled, IsTrace, header_bytes, spelling_of_all}
use Rattle.trace_maker.specs.declared.operation.Operation.{Operation}
use Rattle.trace_maker.specs.declared.operation.Operation.TheVariants.{Subvolume, Directory, File, Filled, Shared, Removed}
use Rattle.trace_maker.specs.declared.fault.MakeFault.{MakeFault}
use Rattle.trace_maker.specs.declared.fault.MakeFault.TheVariants.{Write as WriteFault, NoMemory}
use Rattle.trace_maker.specs.Plan.{plan_of}
use Rattle.volume_maker.specs.Volume.{Standing, nothing_stands, lowest_free, with_subvolume, with_directory, with_empty_file, filled, shared, removed}

-- whether an event is a commit: a write that touches the superblock place
abbrev pub is_commit : Event → Bool
is_commit (Write submitter at bytes) = meets_superblock at (length bytes)
is_commit Settle = false
is_commit (Fetch at len) = false

-- a write beside the superblock place, by this submitter
abbrev pub IsWriteBy : ℕ → Event → Type 0
IsWriteBy who (Write submitter at bytes) =
    (submitter ≡ who) × IsSpelled (Write submitter at bytes) × (is_commit (Write submitter at bytes) ≡ false)
IsWriteBy who Settle = ⊥
IsWriteBy who (Fetch at len) = ⊥

-- how many sectors of data an operation writes
abbrev pub sectors_of : Operation → ℕ
sectors_of (Filled ino dir sectors sort) = sectors
sectors_of (Subvolume id) = 0
sectors_of (Directory ino) = 0
sectors_of (File ino dir) = 0
sectors_of (Shared ino dir of) = 0
sectors_of (Removed ino) = 0

-- the data that an operation writes at commit k: whole sectors of the byte k modulo 256
abbrev pub data_of : ℕ → Operation → List ℕ
data_of k op = replicate (4096 * sectors_of op) (k % 256)

-- what stands when commit k has carried out its operation
abbrev pub carried_out : ℕ → Operation → Standing → Standing
carried_out k (Subvolume id) s = with_subvolume k id s
carried_out k (Directory ino) s = with_directory k s
carried_out k (File ino dir) s = with_empty_file k dir s
carried_out k (Filled ino dir sectors sort) s = filled k dir sectors sort s
carried_out k (Shared ino dir of) s = shared k dir of s
carried_out k (Removed ino) s = removed ino s

-- an operation's data has its first sector in the lowest place of so many sectors that is free before the commit
abbrev pub IsPlaceOf : Operation → Standing → ℕ → Type 0
IsPlaceOf op s sector = 0 < sectors_of op → lowest_free s.extents (sectors_of op) ≡ Some sector

-- the writes of an operation's data at commit k, from a sector of the data chunk on: one by submitter 1, and none where there
-- is no data
abbrev pub IsDataOf : ℕ → Operation → ℕ → List Event → Type 0
IsDataOf k op sector events =
    ((sectors_of op ≡ 0) × (events ≡ [])) ⊎ (events ≡ Write 1 (22020096 + 4096 * sector) (data_of k op) ∷ [])

-- the write of the whole superblock place, by submitter 0
abbrev pub IsSuperblockWrite : Event → Type 0
IsSuperblockWrite (Write submitter at bytes) =
    (submitter ≡ 0) × (at ≡ 65536) × (length bytes ≡ 4096) × IsSpelled (Write submitter at bytes)
IsSuperblockWrite Settle = ⊥
IsSuperblockWrite (Fetch at len) = ⊥

-- The writes of commit k, which carries out an operation on what stands: its data, then tree blocks by submitter 0, and at
-- last the whole superblock place by submitter 0.
pub record IsCommitOf (k : ℕ) (standing : Standing) (op : Operation) (events : List Event) : Type 0 where
  pub sector : ℕ
  pub data_writes : List Event
  pub blocks : List Event
  pub superblock : Event
  pub parts : events ≡ data_writes ++ blocks ++ superblock ∷ []
  pub place : IsPlaceOf op standing sector
  pub of_data : IsDataOf k op sector data_writes
  pub lawful_data : All (IsWriteBy 1) data_writes
  pub lawful_blocks : All (IsWriteBy 0) blocks
  pub lawful : IsSuperblockWrite superblock

-- these events are the writes of the commits of these operations, which are numbered from k on, each on what stands after
-- those before it
abbrev pub AreCommits : ℕ → Standing → List Operation → List Event → Type 0
AreCommits k standing [] events = events ≡ []
AreCommits k standing (op ∷ ops) events =
    (now : List Event) × (later : List Event) × (events ≡ now ++ later)
    × IsCommitOf k standing op now × AreCommits (k + 1) (carried_out k op standing) ops later

-- the most records that a trace has before its end tag
abbrev pub most_records : ℕ
most_records = 4294967296

-- The bytes are one trace, of no more records than a trace may have, that ends with its end tag and has nothing behind it:
-- the header, the records of the commits of a plan on an empty file system, of which there are as many as asked for, and the
-- end tag.
pub record IsMade (seed commits : ℕ) (bytes : List ℕ) : Type 0 where
  pub events : List Event
  pub trace : IsTrace most_records bytes events End
  pub spelled : bytes ≡ header_bytes ++ spelling_of_all events ++ 255 ∷ []
  pub lawful : All IsSpelled events
  pub planned : AreCommits 1 nothing_stands (plan_of seed commits) events
  pub counted : count_by is_commit events ≡ commits

-- the bytes are a front of a header, of records and of an end tag
pub record IsFront (bytes : List ℕ) : Type 0 where
  pub events : List Event
  pub lawful : All IsSpelled events
  pub few : ℕ
  pub front : bytes ≡ take few (header_bytes ++ spelling_of_all events ++ 255 ∷ [])

-- A sink that tells its bytes has gained such bytes. One that tells none still tells none.
abbrev pub Gained : (List ℕ → Type 0) → Option (List ℕ) → Option (List ℕ) → Type 0
Gained is_such None after = after ≡ None
Gained is_such (Some before) after = (gained : List ℕ) × (after ≡ Some (before ++ gained)) × is_such gained

-- whether a call of the sink failed, by what the maker answers
abbrev pub is_write_fault : {T : Type 0} → Result T MakeFault → Bool
is_write_fault (Ok value) = false
is_write_fault (Err WriteFault) = true
is_write_fault (Err NoMemory) = false
