-- What the judge says beside the verdict.
use Rattle.std.specs.Prelude.{ℕ, ◌≤◌}
use Rattle.verdict.specs.declared.finding.Verdict.{Verdict}
use Rattle.verdict.specs.declared.finding.Verdict.TheVariants.{Accept, Found}

-- a device whose image is accepted has room for a superblock
abbrev pub HasRoom : ℕ → Verdict → Type 0
HasRoom len (Accept generation) = 69632 ≤ len
HasRoom len (Found finding) = Unit {0}
