-- How often the walks of an image read: at most twice for each block.
use Rattle.std.proofs.Common.{◌≡◌, ℕ, ◌+◌, ◌*◌, ◌≤◌, List, [], ◌∷◌, ◌++◌, Option, Some, None, Result, Ok, Err, IfSome, IfOk, ap, sym, ◌∙◌, length, drop, arith}
use Rattle.std.specs.List.{fold}
use Rattle.std.proofs.lemmas.List.{drop_all}
use Rattle.std.proofs.lemmas.List.Sums.{sum_by-append}
use Rattle.recon_disk.specs.Outside.{counted}
use Rattle.recon_disk.specs.declared.disk.Disk.{Ghosts}
use Rattle.write_cache.specs.Cache.{overlaid}
use Rattle.super_reader.specs.declared.Super.{Super}
use Rattle.verdict.specs.declared.place.Chunk.{Chunk}
use Rattle.records.specs.Contents.{tree_records}
use Rattle.records.specs.Seen.{Seen}
use Rattle.records.specs.Seen.Seen.{BlockSeen, PointerSeen, ItemSeen}
use Rattle.records.specs.Takes.{held_after}
use Rattle.records.specs.Walk.{Records, behind}
use Rattle.block_source.specs.declared.read.BlockSource.{BlockSource}
use Rattle.block_source.specs.declared.halt.Halt.{Halt}
use Rattle.block_source.specs.Counts.{after_block, with_read}
use Rattle.block_source.proofs.Counting.{block_two}
use Rattle.plain_check.specs.Opened.{ReadsOnce, block_count}
use Rattle.volume_items.specs.declared.root_at.RootAt.{RootAt}

-- blocks among records, and among those behind them
count_both : (first second : List Seen) → block_count (first ++ second) ≡ block_count first + block_count second
count_both first second = sum_by-append _ first second

-- so many reads are made of records
fold_few : (source : BlockSource) (reads : ℕ) (records : List Seen) → fold (with_read source) reads records ≤ reads + 2 * block_count records
fold_few source reads [] = omega arith
fold_few source reads (BlockSeen block ∷ records) =
    let next = after_block source block.address reads in
    let here : next ≤ reads + 2 = block_two source block.address reads in
    let later : fold (with_read source) next records ≤ next + 2 * block_count records = fold_few source next records in
    let one : block_count (BlockSeen block ∷ records) ≡ 1 + block_count records = count_both (BlockSeen block ∷ []) records in
    omega arith
fold_few source reads (PointerSeen pointer ∷ records) = omega (arith, fold_few source reads records)
fold_few source reads (ItemSeen one ∷ records) = omega (arith, fold_few source reads records)

-- where a counter makes this of records, they have so many blocks
held_few : (source : BlockSource) (before after : ℕ) (records : Records) → held_after (with_read source) before records ≡ Ok after
    → IfOk records (λ found. after ≤ before + 2 * block_count found)
held_few source before after (Err finding) is = tt
held_few source before after (Ok records) is =
    let same : fold (with_read source) before records ≡ after = cc in
    omega (arith, fold_few source before records)

-- the same of the records of an image, where the disk tells its bytes
pub told_few : (told : Option (List ℕ)) (source : BlockSource) (before after : ℕ) (records : List ℕ → Records)
    → IfSome told (λ image. held_after (with_read source) before (records (overlaid source.cache.now 0 image)) ≡ Ok after)
    → IfSome told (λ image. IfOk (records (overlaid source.cache.now 0 image)) (λ found. after ≤ before + 2 * block_count found))
told_few None source before after records is = tt
told_few (Some image) source before after records is = held_few source before after (records (overlaid source.cache.now 0 image)) is

-- the same where these are the records
pub told_few_of : (told : Option (List ℕ)) (source : BlockSource) (before after : ℕ) (records : List ℕ → Records) (found : List Seen)
    → IfSome told (λ image. held_after (with_read source) before (records (overlaid source.cache.now 0 image)) ≡ Ok after)
    → IfSome told (λ image. records (overlaid source.cache.now 0 image) ≡ Ok found)
    → IfSome told (λ _. after ≤ before + 2 * block_count found)
told_few_of None source before after records found is these = tt
told_few_of (Some image) source before after records found is these =
    rw these at (held_few source before after (records (overlaid source.cache.now 0 image)) is)

behind_few : (source : BlockSource) (before after : ℕ) (kept whole : List Seen) (records : Records) → held_after (with_read source) before records ≡ Ok after
    → behind kept records ≡ Ok whole → after + 2 * block_count kept ≤ before + 2 * block_count whole
unfolding behind
behind_few source before after kept whole (Err finding) is these = absurd (cc)
behind_few source before after kept whole (Ok records) is these =
    let more : after ≤ before + 2 * block_count records = held_few source before after (Ok records) is in
    let same : kept ++ records ≡ whole = cc in
    omega (arith, count_both kept records, ap block_count same)

-- the same of the records of an image behind others
pub told_few_behind : (told : Option (List ℕ)) (source : BlockSource) (before after : ℕ) (records : List ℕ → Records) (kept whole : List Seen)
    → IfSome told (λ image. held_after (with_read source) before (records (overlaid source.cache.now 0 image)) ≡ Ok after)
    → IfSome told (λ image. behind kept (records (overlaid source.cache.now 0 image)) ≡ Ok whole)
    → IfSome told (λ _. after + 2 * block_count kept ≤ before + 2 * block_count whole)
told_few_behind None source before after records kept whole is these = tt
told_few_behind (Some image) source before after records kept whole is these =
    behind_few source before after kept whole (records (overlaid source.cache.now 0 image)) is these

-- no tree is left
none_left : (told : Option (List ℕ)) (source : BlockSource) (before after : ℕ) (sup : Super) (chunks : List Chunk) (roots : List RootAt) (i : ℕ) → length roots ≤ i
    → IfSome told (λ image. held_after (with_read source) after (tree_records sup chunks (drop i roots) (overlaid source.cache.now 0 image)) ≡ held_after (with_read source) before (tree_records sup chunks roots (overlaid source.cache.now 0 image)))
    → IfSome told (λ image. held_after (with_read source) before (tree_records sup chunks roots (overlaid source.cache.now 0 image)) ≡ Ok after)
none_left None source before after sup chunks roots i past is = tt
none_left (Some image) source before after sup chunks roots i past is =
    sym is ∙ ap (λ (left : List RootAt). held_after (with_read source) after (tree_records sup chunks left (overlaid source.cache.now 0 image))) (drop_all i roots past)

-- all trees that root items name were walked
pub trees_few : {D A : Type 0} (disk : Ghosts D) (source : BlockSource) (before after : D) (result : Result A Halt) (sup : Super) (chunks : List Chunk) (roots : List RootAt) (i : ℕ) → length roots ≤ i
    → IfSome (disk.bytes before) (λ image. held_after (with_read source) (disk.reads after) (tree_records sup chunks (drop i roots) (overlaid source.cache.now 0 image)) ≡ held_after (with_read source) (disk.reads before) (tree_records sup chunks roots (overlaid source.cache.now 0 image)))
    → ReadsOnce disk before after source.cache.now result (tree_records sup chunks roots)
trees_few disk source before after (Err halt) sup chunks roots i past is = tt
trees_few disk source before after (Ok done) sup chunks roots i past is =
    told_few (disk.bytes before) source (disk.reads before) (disk.reads after) (tree_records sup chunks roots)
    (none_left (disk.bytes before) source (disk.reads before) (disk.reads after) sup chunks roots i past is)

told_sum : (told : Option (List ℕ)) (begin top one two : ℕ) (first second : List Seen) → top ≡ counted begin
    → IfSome told (λ _. one ≤ top + 2 * block_count first) → IfSome told (λ _. two + 2 * block_count first ≤ one + 2 * block_count second)
    → IfSome told (λ _. two ≤ begin + 1 + 2 * block_count second)
told_sum None begin top one two first second read these those = tt
told_sum (Some image) begin top one two first second read these those = omega arith

-- one read for the superblock, and at most two for each block of two trees
pub open_few : (told now later : Option (List ℕ)) (begin top one two : ℕ) (first second : List Seen) → now ≡ told → later ≡ now → top ≡ counted begin
    → IfSome now (λ _. one ≤ top + 2 * block_count first) → IfSome later (λ _. two + 2 * block_count first ≤ one + 2 * block_count second)
    → IfSome told (λ _. two ≤ begin + 1 + 2 * block_count second)
open_few told now later begin top one two first second p q read these those = told_sum told begin top one two first second read (rw p at these) (rw (q, p) at those)
