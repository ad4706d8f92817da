-- What the call promises that finds the difference.
use Rattle.std.proofs.Common.{◌≡◌, ℕ, Bool, List, sym, Ok, Err, subst}
use Rattle.std.specs.Prelude.{Option, Some, None, IfSome, Result}
use Rattle.std.specs.Ordering.{nat_cmp}
use Rattle.std.specs.FinMap.{FinMap}
use Rattle.verdict.specs.declared.finding.Finding.{Finding}
use Rattle.verdict.specs.declared.place.Chunk.{Chunk}
use Rattle.recon_disk.specs.declared.disk.Disk.{Ghosts}
use Rattle.write_cache.specs.Cache.{overlaid}
use Rattle.live_index.specs.Pairs.{Pairs}
use Rattle.super_reader.specs.declared.Super.{Super}
use Rattle.volume_items.specs.declared.root_at.RootAt.{RootAt}
use Rattle.records.specs.Contents.{contents, superblock_in}
use Rattle.touched_blocks.specs.Touched.{written_in}
use Rattle.block_source.specs.Gives.{told}
use Rattle.block_source.specs.declared.halt.Halt.{Halt}
use Rattle.block_source.specs.declared.halt.Halt.TheVariants.{Found, Disk, NoMemory}
use Rattle.tree_change.specs.Change.{BasesStand, GivesDifference, IsDifference, ReadsFew}
use Rattle.tree_change.specs.Compared.{IsBased, TellsOld}
use Rattle.tree_change.specs.declared.change.Change.{Change}
use Rattle.tree_change.specs.declared.change.Diff.TheVariants.{Found as Refused, Change as Changed}
use Rattle.tree_change.proofs.Contents.{bases_are}

-- what a step says to others tells what it was
found_is : (result : Result Change Halt) (finding : Finding) → told result ≡ Ok (Err finding) → result ≡ Err (Found finding)
found_is (Ok change) finding is = absurd (cc)
found_is (Err (Found other)) finding is = cc
found_is (Err Disk) finding is = absurd (cc)
found_is (Err NoMemory) finding is = absurd (cc)

pub change_is : (result : Result Change Halt) (change : Change) → told result ≡ Ok (Ok change) → result ≡ Ok change
change_is (Ok other) change is = cc
change_is (Err (Found other)) change is = absurd (cc)
change_is (Err Disk) change is = absurd (cc)
change_is (Err NoMemory) change is = absurd (cc)

module _ {D : Type 0} (disk : Ghosts D) (old new : D) (was_sup : Super) (was_map : List Chunk) (pending : FinMap nat_cmp ℕ) (sup : Super) (chunks : List Chunk)
    (roots : List RootAt) (sum_free : ℕ → ℕ → Bool) (full : ℕ → Bool) (pairs : Pairs) (fresh : Super) (kept_bytes : disk.bytes new ≡ disk.bytes old)
    (same_sup : was_sup ≡ sup) (same_map : was_map ≡ chunks) where
  -- the bases are those of the source
  based_by : (image : List ℕ) → BasesStand image sup chunks roots sum_free full pairs → IsBased image was_sup was_map roots pairs
  based_by image stand =
      subst (λ s. IsBased image s was_map roots pairs) (sym same_sup)
      (subst (λ m. IsBased image sup m roots pairs) (sym same_map) (bases_are image sup chunks roots sum_free full pairs stand))

  found_by : (finding : Finding) (told : Option (List ℕ))
      → IfSome told (λ image. IsBased image was_sup was_map roots pairs → superblock_in (overlaid pending 0 image) ≡ Ok fresh
      → contents (overlaid pending 0 image) ≡ Err finding)
      → IfSome told (λ image.
      BasesStand image sup chunks roots sum_free full pairs → superblock_in (overlaid pending 0 image) ≡ Ok fresh
      → IsDifference image (overlaid pending 0 image) (written_in pending) (Refused finding)
      × ReadsFew (disk.reads old) (disk.reads new) (Refused finding))
  found_by finding None tells = tt
  found_by finding (Some image) tells = λ stand super_is. (tells (based_by image stand) super_is, tt)

  change_by : (change : Change) (told : Option (List ℕ))
      → IfSome told (λ image. IsBased image was_sup was_map roots pairs → superblock_in (overlaid pending 0 image) ≡ Ok fresh
      → IsDifference image (overlaid pending 0 image) (written_in pending) (Changed change)
      × ReadsFew (disk.reads old) (disk.reads new) (Changed change))
      → IfSome told (λ image.
      BasesStand image sup chunks roots sum_free full pairs → superblock_in (overlaid pending 0 image) ≡ Ok fresh
      → IsDifference image (overlaid pending 0 image) (written_in pending) (Changed change)
      × ReadsFew (disk.reads old) (disk.reads new) (Changed change))
  change_by change None tells = tt
  change_by change (Some image) tells = λ stand super_is. tells (based_by image stand) super_is

  -- the answers, by what the step says
  pub finds : {E : Type 0} (finding : Finding) (result : Result Change Halt) → told result ≡ Ok (Err finding)
      → TellsOld disk old new was_sup was_map pending fresh roots pairs result
      → GivesDifference {E = E} disk old new pending sup chunks roots sum_free full pairs fresh (Ok (Refused finding))
  finds finding result is tells = record {
    told = found_by finding (disk.bytes old)
        (subst (λ r. TellsOld disk old new was_sup was_map pending fresh roots pairs r) (found_is result finding is) tells);
    bytes = kept_bytes;
  }

  pub changes : {E : Type 0} (change : Change) (result : Result Change Halt) → told result ≡ Ok (Ok change)
      → TellsOld disk old new was_sup was_map pending fresh roots pairs result
      → GivesDifference {E = E} disk old new pending sup chunks roots sum_free full pairs fresh (Ok (Changed change))
  changes change result is tells = record {
    told = change_by change (disk.bytes old)
        (subst (λ r. TellsOld disk old new was_sup was_map pending fresh roots pairs r) (change_is result change is) tells);
    bytes = kept_bytes;
  }
