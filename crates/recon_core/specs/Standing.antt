-- When a checker stands for a state of the machine, and what its events keep.
use Rattle.std.specs.Prelude.{ℕ, ◌≡◌, ◌<◌, Bool, true, false, nat_lt, not, List, [], ◌∷◌, length, Option, Some, None, IsSome, Result, Ok, Err, if◌then◌else◌}
use Rattle.std.specs.Bool.{MatchBool}
use Rattle.std.specs.Ordering.{nat_cmp}
use Rattle.std.specs.FinMap.{FinMap, empty, get}
use Rattle.verdict.specs.Events.{end_of, begin_of, length_of, meets_superblock}
use Rattle.verdict.specs.declared.machine.HeldWrite.{HeldWrite}
use Rattle.verdict.specs.declared.machine.Event.{Event}
use Rattle.verdict.specs.declared.machine.Event.TheVariants.{Write, Settle, Fetch}
use Rattle.verdict.specs.declared.machine.Answer.{Answer}
use Rattle.verdict.specs.declared.machine.Answer.TheVariants.{Held, Fetched, Passed, Rejected}
use Rattle.verdict.specs.declared.machine.Stop.{Stop}
use Rattle.verdict.specs.declared.machine.Stop.TheVariants.{PastEnd, DiskFault, Closed}
use Rattle.write_cache.specs.Cache.{cache_of, AllInside}
use Rattle.records.specs.FullCheck.{full_check}
use Rattle.verdict.specs.declared.finding.Finding.{Finding}
use Rattle.verdict.specs.declared.finding.Verdict.TheVariants.{Accept, Found}
use Rattle.commit_judge.specs.Index.{IndexStands}
use Rattle.recon_core.specs.declared.checker.Checker.{Checker}
use Rattle.recon_core.specs.declared.checker.Started.{Started}
use Rattle.recon_core.specs.declared.checker.Started.TheVariants.{Ready, Refused}
use Rattle.recon_core.specs.Machine.{MachineState, Step, first_state}

-- the full check accepts the image
abbrev pub IsAccepted : List ℕ → Type 0
IsAccepted image = (generation : ℕ) × (full_check image ≡ Accept generation)

-- none of these writes touches the superblock place
abbrev pub AllMissPlace : List HeldWrite → Type 0
AllMissPlace [] = Unit {0}
AllMissPlace (w ∷ ws) = (meets_superblock w.at (length w.bytes) ≡ false) × AllMissPlace ws

-- a state that the machine may be in: its image is accepted, and the writes that wait lie inside it and touch no byte
-- of the superblock place
pub record IsMachineState (state : MachineState) : Type 0 where
  pub accepted : IsAccepted state.image
  pub inside : AllInside (length state.image) state.pending
  pub apart : AllMissPlace state.pending

-- The checker stands for the state: its cache has exactly the offsets that the pending writes touch,
-- each with the newest byte, its index stands for the image, and its flag and its length are those of the state.
pub record StandsFor {L : Type 0} (checker : Checker L) (state : MachineState) : Type 0 where
  pub lawful : IsMachineState state
  pub cache : checker.cache ≡ cache_of state.pending
  pub index : IndexStands state.image checker.index
  pub closed : checker.closed ≡ state.closed
  pub size : checker.length ≡ length state.image

-- each offset of a cache lies below this one
abbrev pub IsBelow : ℕ → FinMap nat_cmp ℕ → Type 0
IsBelow end cache = (i : ℕ) → IsSome (get cache i) → i < end

-- how a checker begins over a disk with this image
abbrev pub BeginsOver : {L : Type 0} → List ℕ → Started L → Type 0
BeginsOver image (Ready checker) = StandsFor checker (first_state image)
BeginsOver image (Refused finding) = full_check image ≡ Found finding

-- the same with the generation of the accepted image, or with the finding
abbrev pub BeginsWith : {L : Type 0} → List ℕ → Result (Checker L × ℕ) Finding → Type 0
BeginsWith image (Ok begun) = StandsFor begun.0 (first_state image) × (full_check image ≡ Accept begun.1)
BeginsWith image (Err finding) = full_check image ≡ Found finding

-- a checker over a disk of this length over which nothing happened yet
abbrev pub IsFirst : {L : Type 0} → ℕ → Checker L → Type 0
IsFirst len checker = (checker.cache ≡ empty) × (checker.closed ≡ false) × (checker.length ≡ len)

abbrev pub BeginsOpen : {L : Type 0} → ℕ → Result (Checker L × ℕ) Finding → Type 0
BeginsOpen len (Ok begun) = IsFirst len begun.0
BeginsOpen len (Err finding) = Unit {0}

-- how it begins over a disk of this length
abbrev pub BeginsAt : {L : Type 0} → ℕ → Started L → Type 0
BeginsAt len (Ready checker) = IsFirst len checker
BeginsAt len (Refused finding) = Unit {0}

-- The refusal of an event before anything is done: the checker is closed, or the event's range passes
-- the end of the device.
abbrev pub refusal_of : {L : Type 0} → Checker L → Event → Option Stop
refusal_of checker event =
    if checker.closed then Some Closed
    else if nat_lt checker.length (end_of event) then Some (PastEnd (begin_of event) (length_of event) checker.length)
    else None

-- such a refusal does not come otherwise
abbrev pub IsNoRefusal : {T : Type 0} → Result T Stop → Type 0
IsNoRefusal (Err Closed) = ⊥
IsNoRefusal (Err (PastEnd at len end)) = ⊥
IsNoRefusal _ = Unit {0}

-- whether an answer names a fault of the disk
abbrev pub is_disk_fault : {T : Type 0} → Result T Stop → Bool
is_disk_fault (Err DiskFault) = true
is_disk_fault _ = false

-- whether an event is judged, and whether it is a write that waits
abbrev pub is_judged : Event → Bool
is_judged (Write submitter at bytes) = meets_superblock at (length bytes)
is_judged Settle = true
is_judged (Fetch at len) = false

abbrev pub waits : Event → Bool
waits (Write submitter at bytes) = not (meets_superblock at (length bytes))
waits Settle = false
waits (Fetch at len) = false

-- so many bytes, for a fetch
abbrev pub IsFetched : ℕ → Answer → Type 0
IsFetched len (Fetched bytes) = length bytes ≡ len
IsFetched len other = ⊥

-- what is said of a judged event: it passed, or it was rejected
abbrev pub IsJudgement : Answer → Type 0
IsJudgement (Passed generation blocks hot) = Unit {0}
IsJudgement (Rejected finding) = Unit {0}
IsJudgement other = ⊥

-- The sort of answer that an event has: a write that touches no byte of the superblock place is held, a fetch gets as many
-- bytes as it asks for, and of a commit and a settle it is said whether they passed.
abbrev pub IsAnswerTo : Event → Answer → Type 0
IsAnswerTo (Write submitter at bytes) answer = MatchBool (meets_superblock at (length bytes)) (IsJudgement answer) (answer ≡ Held)
IsAnswerTo Settle answer = IsJudgement answer
IsAnswerTo (Fetch at len) answer = IsFetched len answer

-- What want of memory leaves of the checker: all stays, and after a judged event it is closed.
abbrev pub IsAfterWant : {L : Type 0} → Event → Checker L → Checker L → Type 0
IsAfterWant event old new = MatchBool (is_judged event) (new.closed ≡ true) (new ≡ old)

-- what was answered, the checker and the disk's bytes are those of a step of the machine
pub record Takes {L : Type 0} (step : Step) (said : Answer) (checker : Checker L) (bytes : Option (List ℕ)) : Type 0 where
  pub answer : said ≡ step.answer
  pub stands : StandsFor checker step.after
  pub image : bytes ≡ Some step.after.image
