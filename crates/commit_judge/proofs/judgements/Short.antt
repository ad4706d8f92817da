-- A device that is too short for a superblock.
use Rattle.std.proofs.Common.{◌≡◌, ℕ, ◌<◌, List, length}
use Rattle.std.specs.Prelude.{Option, Some, None, Err, IfSome}
use Rattle.std.specs.Ordering.{nat_cmp}
use Rattle.std.specs.FinMap.{FinMap}
use Rattle.verdict.specs.Rules.{image_finding}
use Rattle.verdict.specs.declared.finding.Family.TheVariants.{S}
use Rattle.verdict.specs.declared.finding.Finding.{Finding}
use Rattle.write_cache.specs.Cache.{overlaid}
use Rattle.records.specs.Contents.{contents}
use Rattle.plain_check.proofs.SuperLaws.{superblock_short}
use Rattle.commit_judge.proofs.plans.Fresh.{no_super}

-- what an image on it holds has the finding of the superblock, whatever is asked of the image
pub short : (IsOf : List ℕ → Type 0) (told : Option (List ℕ)) (pending : FinMap nat_cmp ℕ) (len end : ℕ) (finding : Finding)
    → IfSome told (λ image. length image ≡ len) → end ≡ len → end < 69632 → finding ≡ image_finding S 1 end
    → IfSome told (λ image. IsOf image → contents (overlaid pending 0 image) ≡ Err finding)
short IsOf None pending len end finding size same less is = tt
short IsOf (Some image) pending len end finding size same less is =
    λ _. no_super (overlaid pending 0 image) finding (superblock_short (Some image) pending len end finding size same less is)
