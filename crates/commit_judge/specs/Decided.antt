-- The judgement of a commit by the accounts, or the first finding of what the judged image holds.
use Rattle.std.specs.Prelude.{◌≡◌, ℕ, List, Result, Ok, Err}
use Rattle.std.specs.Ordering.{nat_cmp}
use Rattle.std.specs.FinMap.{FinMap}
use Rattle.write_cache.specs.Cache.{overlaid}
use Rattle.records.specs.Contents.{contents}
use Rattle.block_source.specs.declared.halt.Halt.{Halt}
use Rattle.block_source.specs.declared.halt.Halt.TheVariants.{Found, Disk, NoMemory}
use Rattle.commit_judge.specs.Judged.{IsJudgement}
use Rattle.commit_judge.specs.declared.index.Index.{Index}
use Rattle.commit_judge.specs.declared.judge.Judged.{Judged}

-- with a finding of what the image holds, the index is as it was
abbrev pub IsDecided : {L : Type 0} → List ℕ → FinMap nat_cmp ℕ → Index L → Index L → ℕ → ℕ → Result Judged Halt → Type 0
IsDecided image pending old new before after (Ok judged) = IsJudgement image pending new before after judged
IsDecided image pending old new before after (Err (Found finding)) = (contents (overlaid pending 0 image) ≡ Err finding) × (new ≡ old)
IsDecided image pending old new before after (Err Disk) = Unit {0}
IsDecided image pending old new before after (Err NoMemory) = Unit {0}
