-- How few looks into the table of live pairs are counted for all that changes from an accepted image to another.
use Rattle.std.specs.Prelude.{ℕ, ◌≡◌, ◌+◌, ◌*◌, ◌≤◌, Bool, List, length, Option, Ok, IfSome}
use Rattle.std.specs.Ordering.{nat_cmp}
use Rattle.std.specs.FinMap.{FinMap}
use Rattle.verdict.specs.declared.place.Chunk.{Chunk}
use Rattle.write_cache.specs.Cache.{overlaid}
use Rattle.write_cache.specs.Pieces.{ArePiecesOf, Piece}
use Rattle.live_index.specs.Pairs.{Pairs}
use Rattle.super_reader.specs.declared.Super.{Super}
use Rattle.volume_items.specs.declared.root_at.RootAt.{RootAt}
use Rattle.records.specs.Contents.{superblock_in}
use Rattle.tree_laws.specs.LivePairs.{Walked, walked}
use Rattle.tree_change.specs.Change.{BasesStand}
use Rattle.tree_change.specs.LooksLaw.{entries_of}
use Rattle.tree_change.specs.OneTree.{side_of}
use Rattle.tree_change.specs.declared.change.Change.{Change}
use Rattle.tree_change.specs.declared.change.Diff.{Diff}
use Rattle.tree_change.specs.declared.change.Diff.TheVariants.{Found, Change as Changed}

-- So many looks are few: by the pieces of the writes, the chunks of both images, the blocks that change and their entries. Of the 80 looks for an
-- old block that moves and stands below a node, 53 are counted by its entries: it has one, since no such block is empty.
abbrev pub few_looks : List ℕ → List ℕ → Walked → Walked → List Piece → Change → ℕ
few_looks image judged old new pieces change =
    length pieces + 4 * length old.chunks + length new.chunks + 77
    + 58 * length change.old_blocks.items + 35 * length change.new_blocks.items
    + 56 * entries_of (side_of image old) change.old_blocks.items + 4 * entries_of (side_of judged new) change.new_blocks.items

-- where an answer is what changes, no more looks were counted than are few
abbrev pub CountsFew : List ℕ → List ℕ → List Piece → ℕ → ℕ → Diff → Type 0
CountsFew image judged pieces before after (Found finding) = Unit {0}
CountsFew image judged pieces before after (Changed change) =
    (old new : Walked) → walked image ≡ Ok old → walked judged ≡ Ok new → after ≤ before + few_looks image judged old new pieces change

-- so it is where the disk tells the bytes of an image for which the bases stand, and the fresh superblock is that of the judged image
abbrev pub LooksFew : Option (List ℕ) → FinMap nat_cmp ℕ → Super → List Chunk → List RootAt → (ℕ → ℕ → Bool) → (ℕ → Bool) → Pairs → Super → ℕ → ℕ → Diff → Type 0
LooksFew told pending sup chunks roots sum_free full pairs fresh before after diff = IfSome told (λ image.
    (pieces : List Piece) → ArePiecesOf pending pieces → BasesStand image sup chunks roots sum_free full pairs
    → superblock_in (overlaid pending 0 image) ≡ Ok fresh → CountsFew image (overlaid pending 0 image) pieces before after diff)

-- Where an answer is what changes, so many shared pairs are shifted at most: one for each entry of the new blocks that change, eight for each of these
-- blocks, one for each old block that changes, and two.
abbrev pub ShiftsFew : List ℕ → List ℕ → Diff → Type 0
ShiftsFew image judged (Found finding) = Unit {0}
ShiftsFew image judged (Changed change) =
    (old new : Walked) → walked image ≡ Ok old → walked judged ≡ Ok new
    → length change.moved.items
    ≤ 2 + (entries_of (side_of judged new) change.new_blocks.items + 8 * length change.new_blocks.items + length change.old_blocks.items)

-- so it is where the disk tells the bytes of such an image
abbrev pub MovesFew : Option (List ℕ) → FinMap nat_cmp ℕ → Super → List Chunk → List RootAt → (ℕ → ℕ → Bool) → (ℕ → Bool) → Pairs → Super → Diff → Type 0
MovesFew told pending sup chunks roots sum_free full pairs fresh diff = IfSome told (λ image.
    BasesStand image sup chunks roots sum_free full pairs → superblock_in (overlaid pending 0 image) ≡ Ok fresh
    → ShiftsFew image (overlaid pending 0 image) diff)
