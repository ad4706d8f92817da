-- The full check of an image: it is accepted, with the generation of its superblock, or the first finding. A wider check has further rules.
use Rattle.std.specs.Prelude.{ℕ, List, Option, None, Result, Ok, Err}
use Rattle.verdict.specs.Rules.{and_then, finding_or}
use Rattle.verdict.specs.declared.finding.Finding.{Finding}
use Rattle.verdict.specs.declared.finding.Verdict.{Verdict}
use Rattle.verdict.specs.declared.finding.Verdict.TheVariants.{Accept, Found}
use Rattle.records.specs.Contents.{Contents, contents}
use Rattle.records.specs.Context.{context_of}
use Rattle.records.specs.Postings.{account_fault}

-- further rules: of what an image holds, and of its bytes, a finding or none
abbrev pub Rules : Type 0
Rules = Contents → List ℕ → Option Finding

abbrev pub no_rules : Rules
no_rules held image = None

-- the generation of an image in which no rule fails, or the first finding: of what the image holds, then of further rules, then of its
-- accounts
unfoldable pub checked_with : Rules → List ℕ → Result ℕ Finding
checked_with rules image =
    and_then (contents image) (λ held.
    and_then (finding_or (rules held image) (tt {0})) (λ _.
    and_then (finding_or (account_fault (context_of held) held.records) (tt {0})) (λ _.
    Ok held.sup.generation)))

-- the same without further rules
abbrev pub checked : List ℕ → Result ℕ Finding
checked image = checked_with no_rules image

-- that as a verdict
abbrev pub verdict_of : Result ℕ Finding → Verdict
verdict_of (Ok generation) = Accept generation
verdict_of (Err finding) = Found finding

-- the full check of an image, with further rules
abbrev pub wider_check : Rules → List ℕ → Verdict
wider_check rules image = verdict_of (checked_with rules image)

-- the full check of an image
abbrev pub full_check : List ℕ → Verdict
full_check image = wider_check no_rules image
