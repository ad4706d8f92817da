-- What changes from an image as it was: it and the new image have superblocks that can be read.
use Rattle.std.proofs.Common.{◌≡◌, ℕ, Bool, true, false, List, ◌⊎◌, inl, inr, length, ap, sym, ◌∙◌, Ok, Err, subst}
use Rattle.std.specs.Prelude.{Option, Some, None, IfSome, Result, nat_lt, if◌then◌else◌}
use Rattle.std.specs.Ordering.{nat_cmp}
use Rattle.std.specs.FinMap.{FinMap}
use Rattle.verdict.specs.Rules.{finding_or, first_failing}
use Rattle.verdict.specs.Image.{range}
use Rattle.verdict.specs.Rules.{image_finding}
use Rattle.verdict.specs.declared.finding.Family.TheVariants.{S}
use Rattle.verdict.specs.declared.finding.Finding.{Finding}
use Rattle.verdict.specs.declared.place.Chunk.{Chunk}
use Rattle.verdict.proofs.Tables.{finding_or-ok}
use Rattle.recon_disk.specs.declared.disk.Disk.{Ghosts}
use Rattle.write_cache.specs.Cache.{overlaid}
use Rattle.live_index.specs.Pairs.{AreNarrow, Pairs}
use Rattle.live_index.specs.Table.{pairs_of}
use Rattle.super_reader.specs.Superblock.{IsReadable, superblock_fields, superblock_of, superblock_rules}
use Rattle.super_reader.specs.declared.Super.{Super}
use Rattle.super_reader.proofs.SuperLaws.{fields_readable}
use Rattle.volume_items.specs.declared.root_at.RootAt.{RootAt}
use Rattle.records.specs.Contents.{contents, superblock_in}
use Rattle.touched_blocks.specs.Touched.{written_in}
use Rattle.block_source.specs.declared.halt.Halt.{Halt}
use Rattle.block_source.specs.declared.halt.Halt.TheVariants.{Found, Disk, NoMemory}
use Rattle.block_source.specs.declared.read.BlockSource.{BlockSource}
use Rattle.tree_laws.proofs.Treed.{steps_of}
use Rattle.tree_change.specs.Change.{IsDifference, ReadsFew}
use Rattle.tree_change.specs.Compared.{IsBased, IsCompared, TellsChange, TellsOld, judged_by}
use Rattle.tree_change.specs.declared.change.Change.{Change}
use Rattle.tree_change.specs.declared.change.Diff.TheVariants.{Change as Changed}
use Rattle.tree_change.specs.declared.sides.Compared.{Compared}

-- the superblock of an image can be read
pub readable : (image : List ℕ) (sup : Super) → superblock_in image ≡ Ok sup → IsReadable sup
unfolding superblock_in superblock_of
readable image sup is = by (nat_lt (length image) 69632) is
  where
    by : (b : Bool) → (if b then Err (image_finding S 1 (length image)) else finding_or (first_failing (superblock_rules (range 65536 4096 image)))
        (superblock_fields (range 65536 4096 image))) ≡ Ok sup → IsReadable sup
    by true is = absurd (cc)
    by false is =
        let bytes = range 65536 4096 image in
        let fine = finding_or-ok (first_failing (superblock_rules bytes)) (superblock_fields bytes) sup is in
        subst IsReadable (sym fine.1) (fields_readable bytes fine.0)

-- so can that of an image for which the bases stand
was_readable : (image : List ℕ) (sup : Super) (chunks : List Chunk) (roots : List RootAt) (pairs : Pairs) → IsBased image sup chunks roots pairs
    → IsReadable sup
was_readable image sup chunks roots pairs based =
    subst IsReadable (sym based.super_is) (readable image based.old.sup (steps_of image based.old based.walks).sup_is)

module _ {D : Type 0} (disk : Ghosts D) (old new : D) (was : BlockSource) (pending : FinMap nat_cmp ℕ) (fresh : Super) (roots : List RootAt)
    (pairs : Pairs) where
  -- the finding of what the new image holds
  abbrev pub IsFoundOf : Finding → List ℕ → Type 0
  IsFoundOf finding image =
      IsBased image was.sup.now was.map.now roots pairs → superblock_in (overlaid pending 0 image) ≡ Ok fresh
      → contents (overlaid pending 0 image) ≡ Err finding

  -- a superblock that can't be read is none of these
  pub unreadable : (halt : Halt) (result : Result Change Halt) → result ≡ Err halt
      → (IsReadable was.sup.now → ⊥) ⊎ (IsReadable fresh → ⊥) → TellsOld disk old new was.sup.now was.map.now pending fresh roots pairs result
  unreadable halt result is none = subst (λ r. TellsOld disk old new was.sup.now was.map.now pending fresh roots pairs r) (sym is) (by halt)
    where
      at : (finding : Finding) (told : Option (List ℕ)) → IfSome told (IsFoundOf finding)
      at finding None = tt
      at finding (Some image) = λ based super_is. never based super_is none
        where
          never : IsBased image was.sup.now was.map.now roots pairs → superblock_in (overlaid pending 0 image) ≡ Ok fresh
              → (IsReadable was.sup.now → ⊥) ⊎ (IsReadable fresh → ⊥) → contents (overlaid pending 0 image) ≡ Err finding
          never based super_is (inl not_old) = absurd (not_old (was_readable image was.sup.now was.map.now roots pairs based))
          never based super_is (inr not_new) = absurd (not_new (readable (overlaid pending 0 image) fresh super_is))

      by : (h : Halt) → TellsOld disk old new was.sup.now was.map.now pending fresh roots pairs (Err h)
      by (Found finding) = at finding (disk.bytes old)
      by Disk = tt
      by NoMemory = tt

  -- what the comparison tells is told of the image as it was
  pub old_told : {L : Type 0} (both : Compared L) (result : Result Change Halt) → AreNarrow pairs → both.was.sup.now ≡ was.sup.now → both.was.map.now ≡ was.map.now
      → both.roots.now ≡ roots → pairs_of both.table.now ≡ pairs → both.cache.now ≡ pending → both.fresh.now ≡ fresh → both.was.end ≡ disk.len old
      → IfSome (disk.bytes old) (λ image. length image ≡ disk.len old)
      → TellsChange disk old new both result → TellsOld disk old new was.sup.now was.map.now pending fresh roots pairs result
  old_told {L} both result narrow a b c d e f end size tells = by result tells
    where
      compared : (image : List ℕ) → length image ≡ disk.len old → IsBased image was.sup.now was.map.now roots pairs
          → superblock_in (overlaid pending 0 image) ≡ Ok fresh → IsCompared both image
      compared image n based super_is = record {
        based = subst (λ s. IsBased image s both.was.map.now both.roots.now (pairs_of both.table.now)) (sym a)
            (subst (λ m. IsBased image was.sup.now m both.roots.now (pairs_of both.table.now)) (sym b)
            (subst (λ r. IsBased image was.sup.now was.map.now r (pairs_of both.table.now)) (sym c)
            (subst (λ p. IsBased image was.sup.now was.map.now roots p) (sym d) based)));
        narrow = subst AreNarrow (sym d) narrow;
        super_is = ap (λ cache. superblock_in (overlaid cache 0 image)) e ∙ super_is ∙ ap as_super (sym f);
        end = end ∙ sym n;
      }
        where
          as_super : Super → Result Super Finding
          as_super sup = Ok sup

      found : (finding : Finding) (told : Option (List ℕ)) → IfSome told (λ image. length image ≡ disk.len old)
          → IfSome told (λ image. IsCompared both image → contents (judged_by both image) ≡ Err finding) → IfSome told (IsFoundOf finding)
      found finding None n tells = tt
      found finding (Some image) n tells = λ based super_is.
          ap (λ cache. contents (overlaid cache 0 image)) (sym e) ∙ tells (compared image n based super_is)

      done : (change : Change) (told : Option (List ℕ)) → IfSome told (λ image. length image ≡ disk.len old)
          → IfSome told (λ image. IsCompared both image → IsDifference image (judged_by both image) (written_in both.cache.now) (Changed change)
          × ReadsFew (disk.reads old) (disk.reads new) (Changed change))
          → IfSome told (λ image.
          IsBased image was.sup.now was.map.now roots pairs → superblock_in (overlaid pending 0 image) ≡ Ok fresh
          → IsDifference image (overlaid pending 0 image) (written_in pending) (Changed change)
          × ReadsFew (disk.reads old) (disk.reads new) (Changed change))
      done change None n tells = tt
      done change (Some image) n tells = λ based super_is.
          subst (λ cache. IsDifference image (overlaid cache 0 image) (written_in cache) (Changed change)
          × ReadsFew (disk.reads old) (disk.reads new) (Changed change)) e (tells (compared image n based super_is))

      by : (r : Result Change Halt) → TellsChange disk old new both r → TellsOld disk old new was.sup.now was.map.now pending fresh roots pairs r
      by (Ok change) tells = done change (disk.bytes old) size tells
      by (Err (Found finding)) tells = found finding (disk.bytes old) size tells
      by (Err Disk) tells = tt
      by (Err NoMemory) tells = tt
