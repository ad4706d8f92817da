-- What the start of an index gives.
use Rattle.std.specs.Prelude.{◌≡◌, ℕ, ◌+◌, ◌*◌, ◌≤◌, List, length}
use Rattle.verdict.specs.declared.finding.Verdict.TheVariants.{Accept, Found}
use Rattle.records.specs.FullCheck.{full_check}
use Rattle.tree_laws.specs.LivePairs.{Walked, live_in, walked}
use Rattle.std.specs.Prelude.{Ok}
use Rattle.lookup_bounds.specs.Work.{starting_work}
use Rattle.commit_judge.specs.Index.{IndexStands}
use Rattle.commit_judge.specs.declared.index.Index.{Index}
use Rattle.commit_judge.specs.declared.build.Built.{Built}
use Rattle.commit_judge.specs.declared.build.Built.TheVariants.{Ready, Refused}

-- The image is accepted, and the index stands for it: one read of the superblock was made, and at most two of each block of its trees.
pub record IsReady {L : Type 0} (image : List ℕ) (before after : ℕ) (index : Index L) : Type 0 where
  pub accepted : full_check image ≡ Accept index.sup.generation
  pub stands : IndexStands image index
  pub trees : Walked
  pub walks : walked image ≡ Ok trees
  pub reads : after ≤ before + 1 + 2 * length (live_in trees.seen)

abbrev pub IsBuilt : {L : Type 0} → List ℕ → ℕ → ℕ → Built L → Type 0
IsBuilt image before after (Ready index) = IsReady image before after index
IsBuilt image before after (Refused finding) = full_check image ≡ Found finding

-- a start that is ready costs no more looks than 64 for each unit of the work of a start; of a refused one nothing is said
abbrev pub LooksToBuild : {L : Type 0} → List ℕ → ℕ → ℕ → Built L → Type 0
LooksToBuild image before after (Ready index) = after ≤ before + 64 * starting_work image
LooksToBuild image before after (Refused finding) = Unit {0}

-- an index stands only where the superblock lies on the device
abbrev pub HasRoom : {L : Type 0} → ℕ → Built L → Type 0
HasRoom len (Ready index) = 69632 ≤ len
HasRoom len (Refused finding) = Unit {0}
