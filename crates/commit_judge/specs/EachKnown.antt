-- Something is known of each accepted image, so that no law on what is known of an image is empty.
use Rattle.std.specs.Prelude.{◌≡◌, ℕ, List}
use Rattle.verdict.specs.declared.finding.Verdict.TheVariants.{Accept}
use Rattle.records.specs.FullCheck.{full_check}
use Rattle.commit_laws.specs.Commit.{IsKnown, Known}

abbrev pub EachIsKnown : Type 0
EachIsKnown = (image : List ℕ) (generation : ℕ) → full_check image ≡ Accept generation → (k : Known) × IsKnown image k
