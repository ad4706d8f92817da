-- What a device may hold after an event in which one of its calls failed: a stop image of that event.
use Rattle.std.specs.Prelude.{ℕ, ◌≡◌, ◌<◌, ◌≤◌, ◌⊎◌, List, length, None, slice_index}
use Rattle.std.specs.Bool.{MatchBool}
use Rattle.std.specs.Ordering.{nat_cmp}
use Rattle.std.specs.FinMap.{FinMap, get}
use Rattle.verdict.specs.Events.{meets_superblock}
use Rattle.verdict.specs.declared.machine.Event.{Event}
use Rattle.verdict.specs.declared.machine.Event.TheVariants.{Write, Settle, Fetch}
use Rattle.write_cache.specs.Cache.{cache_of}
use Rattle.records.specs.FullCheck.{full_check}
use Rattle.verdict.specs.declared.finding.Verdict.{Verdict}
use Rattle.verdict.specs.declared.finding.Verdict.TheVariants.{Accept, Found}
use Rattle.recon_core.specs.Machine.{MachineState, judged_image, with_pending}

-- An image to which waiting bytes went out in part: it has the old length, the old superblock place, bytes 65536 to
-- 69631, and the old byte at each offset at which none waits.
pub record IsPartlySent (waiting : FinMap nat_cmp ℕ) (old left : List ℕ) : Type 0 where
  pub same_length : length left ≡ length old
  pub place : (i : ℕ) → 65536 ≤ i → i < 69632 → slice_index left i ≡ slice_index old i
  pub others : (i : ℕ) → get waiting i ≡ None → slice_index left i ≡ slice_index old i

-- What the sending of waiting bytes may leave where the full check says this of the judged image: with a finding the
-- old image, and where it accepts the judged one, or the old one to which the waiting bytes went out in part.
abbrev pub IsLeftBy : Verdict → FinMap nat_cmp ℕ → List ℕ → List ℕ → List ℕ → Type 0
IsLeftBy (Found finding) waiting judged old left = left ≡ old
IsLeftBy (Accept generation) waiting judged old left = (left ≡ judged) ⊎ IsPartlySent waiting old left

-- the stop images of a judged event: all that waits in the state is judged
abbrev pub IsJudgedStop : MachineState → List ℕ → Type 0
IsJudgedStop s left = IsLeftBy (full_check (judged_image s)) (cache_of s.pending) (judged_image s) s.image left

-- The stop images of an event in a state. A commit is judged together with what waits; a write that waits and a fetch
-- leave the old image.
abbrev pub IsStopImage : MachineState → Event → List ℕ → Type 0
IsStopImage s (Write submitter at bytes) left =
    MatchBool (meets_superblock at (length bytes)) (IsJudgedStop (with_pending s (record { at = at; bytes = bytes })) left) (left ≡ s.image)
IsStopImage s Settle left = IsJudgedStop s left
IsStopImage s (Fetch at len) left = left ≡ s.image
