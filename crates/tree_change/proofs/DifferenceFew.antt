-- The looks that the call counts which finds the difference.
use Rattle.std.proofs.Common.{◌≡◌, ℕ, ◌+◌, ◌*◌, ◌≤◌, Bool, List, length, ap, sym, subst, ◌∙◌, Ok}
use Rattle.std.specs.Prelude.{Option, Some, None, IfSome, OnOk, Result}
use Rattle.std.specs.Ordering.{nat_cmp}
use Rattle.std.specs.FinMap.{FinMap}
use Rattle.verdict.specs.declared.finding.Finding.{Finding}
use Rattle.verdict.specs.declared.place.Chunk.{Chunk}
use Rattle.recon_disk.specs.declared.disk.Disk.{Ghosts}
use Rattle.write_cache.specs.Cache.{overlaid}
use Rattle.write_cache.specs.Pieces.{ArePiecesOf, Piece}
use Rattle.live_index.specs.Table.{pairs_of}
use Rattle.live_index.specs.declared.kept.LiveIndex.{LiveIndex}
use Rattle.live_index.specs.Pairs.{Pairs}
use Rattle.super_reader.specs.declared.Super.{Super}
use Rattle.volume_items.specs.declared.root_at.RootAt.{RootAt}
use Rattle.records.specs.Contents.{superblock_in}
use Rattle.block_source.specs.Gives.{told}
use Rattle.block_source.specs.declared.halt.Halt.{Halt}
use Rattle.block_source.specs.declared.read.BlockSource.{BlockSource}
use Rattle.touched_blocks.specs.Touched.{written_in}
use Rattle.tree_laws.specs.LivePairs.{Walked, walked}
use Rattle.tree_change.specs.AllLooks.{FewFromOld, LooksFromOld}
use Rattle.tree_change.specs.Change.{BasesStand, GivesDifference, IsChange, IsDifference, ReadsFew}
use Rattle.tree_change.specs.Compared.{IsBased, IsCompared}
use Rattle.tree_change.specs.FewLooks.{LooksFew, MovesFew, few_looks}
use Rattle.tree_change.specs.LooksLaw.{entries_of}
use Rattle.tree_change.specs.OneTree.{side_of}
use Rattle.tree_change.specs.declared.change.Change.{Change}
use Rattle.tree_change.specs.declared.change.Diff.TheVariants.{Found as Refused, Change as Changed}
use Rattle.tree_change.specs.declared.sides.Compared.{Compared}
use Rattle.tree_change.proofs.AllFew.{few_change}
use Rattle.tree_change.proofs.Contents.{bases_are}
use Rattle.tree_change.proofs.Differing.{change_is}
use Rattle.tree_change.proofs.Olds.{same_ok}

-- a finding costs what it may, and no pair is shifted
pub found_few : (finding : Finding) (bytes : Option (List ℕ)) (pending : FinMap nat_cmp ℕ) (sup : Super) (chunks : List Chunk) (roots : List RootAt)
    (sum_free : ℕ → ℕ → Bool) (full : ℕ → Bool) (pairs : Pairs) (fresh : Super) (first last : ℕ)
    → LooksFew bytes pending sup chunks roots sum_free full pairs fresh first last (Refused finding)
found_few finding None pending sup chunks roots sum_free full pairs fresh first last = tt
found_few finding (Some image) pending sup chunks roots sum_free full pairs fresh first last = λ pieces are stand super_is. tt

pub none_moved : (finding : Finding) (bytes : Option (List ℕ)) (pending : FinMap nat_cmp ℕ) (sup : Super) (chunks : List Chunk) (roots : List RootAt)
    (sum_free : ℕ → ℕ → Bool) (full : ℕ → Bool) (pairs : Pairs) (fresh : Super) → MovesFew bytes pending sup chunks roots sum_free full pairs fresh (Refused finding)
none_moved finding None pending sup chunks roots sum_free full pairs fresh = tt
none_moved finding (Some image) pending sup chunks roots sum_free full pairs fresh = λ stand super_is. tt

module _ {L : Type 0} (was : BlockSource) (pending : FinMap nat_cmp ℕ) (sup : Super) (chunks : List Chunk) (roots : List RootAt)
    (sum_free : ℕ → ℕ → Bool) (full : ℕ → Bool) (table : LiveIndex L) (fresh : Super) (first last size : ℕ) (change : Change) (same_sup : was.sup.now ≡ sup)
    (same_map : was.map.now ≡ chunks) (end : was.end ≡ size) where
  -- the image that is compared is that for which the bases stand
  compared : (image : List ℕ) (both : Compared L) → both.was ≡ was → both.cache.now ≡ pending → both.fresh.now ≡ fresh → both.roots.now ≡ roots
      → both.table.now ≡ table → FewFromOld both image first last → length image ≡ size
      → BasesStand image sup chunks roots sum_free full (pairs_of table) → superblock_in (overlaid pending 0 image) ≡ Ok fresh → IsCompared both image
  compared image both a b c d e f n stand super_is = record {
    based =
        subst (λ s. IsBased image s both.was.map.now both.roots.now (pairs_of both.table.now)) (sym (ap (λ (w : BlockSource). w.sup.now) a ∙ same_sup))
        (subst (λ m. IsBased image sup m both.roots.now (pairs_of both.table.now)) (sym (ap (λ (w : BlockSource). w.map.now) a ∙ same_map))
        (subst (λ r. IsBased image sup chunks r (pairs_of both.table.now)) (sym d)
        (subst (λ (t : LiveIndex L). IsBased image sup chunks roots (pairs_of t)) (sym e)
        (bases_are image sup chunks roots sum_free full (pairs_of table) stand))));
    narrow = f.narrow;
    super_is = ap (λ cache. superblock_in (overlaid cache 0 image)) b ∙ super_is ∙ ap as_super (sym c);
    end = ap (λ (w : BlockSource). w.end) a ∙ end ∙ sym n;
  }
    where
      as_super : Super → Result Super Finding
      as_super given = Ok given

  few_at : (image : List ℕ) → length image ≡ size → LooksFromOld (Some image) first last was pending fresh roots table
      → (BasesStand image sup chunks roots sum_free full (pairs_of table) → superblock_in (overlaid pending 0 image) ≡ Ok fresh
      → IsDifference image (overlaid pending 0 image) (written_in pending) (Changed change))
      → BasesStand image sup chunks roots sum_free full (pairs_of table) → superblock_in (overlaid pending 0 image) ≡ Ok fresh
      → (old new : Walked) → walked image ≡ Ok old → walked (overlaid pending 0 image) ≡ Ok new
      → ((pieces : List Piece) → ArePiecesOf pending pieces → last ≤ first + few_looks image (overlaid pending 0 image) old new pieces change)
      × (length change.moved.items
      ≤ 2 + (entries_of (side_of (overlaid pending 0 image) new) change.new_blocks.items + 8 * length change.new_blocks.items
      + length change.old_blocks.items))
  few_at image n looks difference stand super_is old new old_is new_is =
      let both = looks.0 in
      let cache_is = looks.2 in
      let f = looks.6 in
      let c = compared image both looks.1 looks.2 looks.3 looks.4 looks.5 f n stand super_is in
      let d = difference stand super_is in
      let old_same : d.0 ≡ c.based.old = same_ok d.0 c.based.old (sym d.2 ∙ c.based.walks) in
      let new_same : d.1 ≡ new = same_ok d.1 new (sym d.3 ∙ new_is) in
      let is : IsChange c.based.old new (written_in both.cache.now) (length image) change =
      subst (λ o. IsChange o new (written_in both.cache.now) (length image) change) old_same
      (subst (λ w. IsChange d.0 w (written_in both.cache.now) (length image) change) new_same
      (subst (λ m. IsChange d.0 d.1 (written_in m) (length image) change) (sym cache_is) d.4)) in
      let walks : walked (overlaid both.cache.now 0 image) ≡ Ok new = subst (λ m. walked (overlaid m 0 image) ≡ Ok new) (sym cache_is) new_is in
      subst (λ m. ((pieces : List Piece) → ArePiecesOf m pieces → last ≤ first + few_looks image (overlaid m 0 image) old new pieces change)
      × (length change.moved.items
      ≤ 2 + (entries_of (side_of (overlaid m 0 image) new) change.new_blocks.items + 8 * length change.new_blocks.items
      + length change.old_blocks.items))) cache_is
      (subst (λ o. ((pieces : List Piece) → ArePiecesOf both.cache.now pieces
      → last ≤ first + few_looks image (overlaid both.cache.now 0 image) o new pieces change)
      × (length change.moved.items
      ≤ 2 + (entries_of (side_of (overlaid both.cache.now 0 image) new) change.new_blocks.items + 8 * length change.new_blocks.items
      + length change.old_blocks.items))) (same_ok c.based.old old (sym c.based.walks ∙ old_is))
      (few_change both image c first last f new change walks is))

-- so many looks are few where the answer is what changes, and so many pairs are shifted
pub change_few : {D E L : Type 0} (disk : Ghosts D) (old new : D) (was : BlockSource) (pending : FinMap nat_cmp ℕ) (sup : Super)
    (chunks : List Chunk) (roots : List RootAt) (sum_free : ℕ → ℕ → Bool) (full : ℕ → Bool) (table : LiveIndex L) (fresh : Super) (first last : ℕ) (change : Change)
    (result : Result Change Halt) → was.sup.now ≡ sup → was.map.now ≡ chunks → was.end ≡ disk.len old
    → IfSome (disk.bytes old) (λ image. length image ≡ disk.len old)
    → told result ≡ Ok (Ok change) → OnOk result (LooksFromOld (disk.bytes old) first last was pending fresh roots table)
    → GivesDifference {E = E} disk old new pending sup chunks roots sum_free full (pairs_of table) fresh (Ok (Changed change))
    → LooksFew (disk.bytes old) pending sup chunks roots sum_free full (pairs_of table) fresh first last (Changed change)
    × MovesFew (disk.bytes old) pending sup chunks roots sum_free full (pairs_of table) fresh (Changed change)
change_few disk old new was pending sup chunks roots sum_free full table fresh first last change result same_sup same_map end sized is looks gives =
    by (disk.bytes old) sized (subst (λ r. OnOk r (LooksFromOld (disk.bytes old) first last was pending fresh roots table)) (change_is result change is) looks)
    gives.told
  where
    by : (bytes : Option (List ℕ)) → IfSome bytes (λ image. length image ≡ disk.len old)
        → LooksFromOld bytes first last was pending fresh roots table
        → IfSome bytes (λ image. BasesStand image sup chunks roots sum_free full (pairs_of table) → superblock_in (overlaid pending 0 image) ≡ Ok fresh
        → IsDifference image (overlaid pending 0 image) (written_in pending) (Changed change)
        × ReadsFew (disk.reads old) (disk.reads new) (Changed change))
        → LooksFew bytes pending sup chunks roots sum_free full (pairs_of table) fresh first last (Changed change)
        × MovesFew bytes pending sup chunks roots sum_free full (pairs_of table) fresh (Changed change)
    by None n looks tells = (tt, tt)
    by (Some image) n looks tells = (
      λ pieces are stand super_is old new old_is new_is. (both stand super_is old new old_is new_is).0 pieces are,
      λ stand super_is old new old_is new_is. (both stand super_is old new old_is new_is).1,
    )
      where
        both : BasesStand image sup chunks roots sum_free full (pairs_of table) → superblock_in (overlaid pending 0 image) ≡ Ok fresh
            → (old new : Walked) → walked image ≡ Ok old → walked (overlaid pending 0 image) ≡ Ok new
            → ((pieces : List Piece) → ArePiecesOf pending pieces → last ≤ first + few_looks image (overlaid pending 0 image) old new pieces change)
            × (length change.moved.items
            ≤ 2 + (entries_of (side_of (overlaid pending 0 image) new) change.new_blocks.items + 8 * length change.new_blocks.items
            + length change.old_blocks.items))
        both =
            few_at was pending sup chunks roots sum_free full table fresh first last (disk.len old) change same_sup same_map end image n looks
            (λ stand super_is. (tells stand super_is).0)
