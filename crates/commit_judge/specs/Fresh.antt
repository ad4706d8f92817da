-- The superblock of a judged image, by the bytes of the accepted one's and the pending writes.
use Rattle.std.specs.Prelude.{◌≡◌, ℕ, List, Result, Ok, Err}
use Rattle.std.specs.Ordering.{nat_cmp}
use Rattle.std.specs.FinMap.{FinMap}
use Rattle.verdict.specs.Image.{range}
use Rattle.verdict.specs.declared.finding.Finding.{Finding}
use Rattle.write_cache.specs.Cache.{overlaid}
use Rattle.records.specs.Contents.{superblock_in}
use Rattle.commit_judge.specs.declared.fresh.Fresh.{Fresh}

abbrev pub IsFresh : List ℕ → FinMap nat_cmp ℕ → Result Fresh Finding → Type 0
IsFresh image pending (Ok fresh) =
    (fresh.raw ≡ range 65536 4096 (overlaid pending 0 image)) × (superblock_in (overlaid pending 0 image) ≡ Ok fresh.sup)
IsFresh image pending (Err finding) = superblock_in (overlaid pending 0 image) ≡ Err finding
