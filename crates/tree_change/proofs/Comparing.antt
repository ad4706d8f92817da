-- What changes from one image to another, by what changes in its trees.
use Rattle.std.proofs.Common.{◌≡◌, ℕ, ◌+◌, List, ap, sym, ◌∙◌, Ok, Err, subst, arith}
use Rattle.std.specs.Prelude.{Option, Some, None, IfSome, Result}
use Rattle.verdict.specs.declared.finding.Finding.{Finding}
use Rattle.verdict.specs.declared.place.Chunk.{Chunk}
use Rattle.recon_disk.specs.declared.disk.Disk.{Ghosts}
use Rattle.super_reader.specs.Superblock.{array_place}
use Rattle.volume_items.specs.SystemArray.{array_chunks}
use Rattle.volume_items.specs.declared.root_at.RootAt.{RootAt}
use Rattle.records.specs.Contents.{chunk_map_in, contents}
use Rattle.live_index.specs.Table.{pairs_of}
use Rattle.touched_blocks.specs.Marks.{marked_by}
use Rattle.touched_blocks.specs.Touched.{written_in}
use Rattle.touched_blocks.specs.declared.marks.PairPlace.{PairPlace}
use Rattle.block_source.specs.Gives.{IsOutcome}
use Rattle.block_source.specs.declared.halt.Halt.{Halt}
use Rattle.block_source.specs.declared.halt.Halt.TheVariants.{Found, Disk, NoMemory}
use Rattle.tree_change.specs.AllTrees.{no_parts, with_parts}
use Rattle.tree_change.specs.AllLooks.{FewToRise}
use Rattle.tree_change.specs.Change.{IsDifference, ReadsFew}
use Rattle.tree_change.specs.Compared.{FindsRest, FitsCompared, HasNewArray, HasNewMap, IsCompared, IsFinished, MakesMap, MakesRest, TellsChange, TellsMap, TellsRest, judged_by}
use Rattle.tree_change.specs.Making.{IsAdded, parts_by}
use Rattle.tree_change.specs.Rising.{IsRisen}
use Rattle.tree_change.specs.Walks.{Known, Parts}
use Rattle.tree_change.specs.declared.change.Change.{Change}
use Rattle.tree_change.specs.declared.change.Diff.TheVariants.{Change as Changed}
use Rattle.tree_change.specs.declared.sides.Compared.{Compared}
use Rattle.tree_change.specs.declared.trees.TreeParts.{TreeParts}
use Rattle.tree_change.proofs.Adding.{none_before}
use Rattle.tree_change.proofs.AllChanges.{change_is, finds_array, finds_map, finds_rest, rises}

-- parts behind none, and others behind these, are both
both_added : (start middle all : TreeParts) (some more : Parts) (r0 r1 r2 : ℕ) → parts_by start 0 ≡ no_parts
    → IsAdded start middle some r0 r1 → IsAdded middle all more r1 r2 → parts_by all (some.count + more.count) ≡ with_parts some more
both_added start middle all some more r0 r1 r2 none first second =
    let zero_more : some.count ≡ 0 + some.count = omega arith in
    second.behind some.count
    ∙ ap (λ parts. with_parts parts more) (ap (λ n. parts_by middle n) zero_more ∙ first.behind 0 ∙ ap (λ parts. with_parts parts some) none ∙ none_before some)

-- what the two steps tell, and what is made of it
module _ {L : Type 0} (both : Compared L) (end : ℕ) (fits : FitsCompared both end) (array chunks : List Chunk) (roots : List RootAt)
    (start middle all made : TreeParts)
    (places : List PairPlace) (r0 r1 r2 before after : ℕ) (array_is : HasNewArray both array) (none : parts_by start 0 ≡ no_parts)
    (risen : (count : ℕ) → IsRisen (pairs_of both.table.now) (marked_by both.marks.now) places (parts_by all count) (parts_by made count) before after) where
  abbrev pub Mapped : List ℕ → Type 0
  Mapped image = (is : IsCompared both image) → HasNewArray both array
      → (known : Known) × (parts : Parts) × MakesMap both image is.based.old array chunks known parts × IsAdded start middle parts r0 r1

  abbrev pub Rested : List ℕ → Type 0
  Rested image = (is : IsCompared both image) → HasNewMap both image chunks
      → (parts : Parts) × MakesRest both image is.based.old is.based.olds chunks parts roots × IsAdded middle all parts r1 r2

  -- all parts, with the pairs that rise
  risen_is : (some more : Parts) → IsAdded start middle some r0 r1 → IsAdded middle all more r1 r2
      → IsRisen (pairs_of both.table.now) (marked_by both.marks.now) places (with_parts some more) (parts_by made (some.count + more.count)) before after
  risen_is some more first second =
      subst (λ parts. IsRisen (pairs_of both.table.now) (marked_by both.marks.now) places parts (parts_by made (some.count + more.count)) before after)
      (both_added start middle all some more r0 r1 r2 none first second) (risen (some.count + more.count))

  pub compared : (told : Option (List ℕ)) (change : Change) → IfSome told Mapped → IfSome told Rested → IsFinished made chunks roots change
      → IfSome told (λ image. IsCompared both image → IsDifference image (judged_by both image) (written_in both.cache.now) (Changed change)
      × ReadsFew r0 r2 (Changed change))
  compared None change mapped rested done = tt
  compared (Some image) change mapped rested done = λ is.
      let m = mapped is array_is in
      let r = rested is (array, m.2.chunks_are) in
      let all_is =
      change_is both end image fits is array chunks roots m.0 m.1 r.0 (parts_by made (m.1.count + r.0.count)) places before after array_is m.2 r.1
      (risen_is m.1 r.0 m.3 r.2) change done.old_blocks done.new_blocks done.moved done.old_items done.new_items done.map_is done.roots_are in
      let few = m.3.reads in
      let then_few = r.2.reads in
      let count = all_is.4 in
      ((is.based.old, all_is.0, is.based.walks, all_is.1, all_is.2, all_is.3), omega (arith, few, then_few, count))

  pub few_to_rise : (told : Option (List ℕ)) → IfSome told Mapped → IfSome told Rested → IfSome told (λ image. FewToRise both image before after)
  few_to_rise None mapped rested = tt
  few_to_rise (Some image) mapped rested = λ is new walks.
      let m = mapped is array_is in
      let r = rested is (array, m.2.chunks_are) in
      rises both end image fits is array chunks roots m.0 m.1 r.0 (parts_by made (m.1.count + r.0.count)) places before after array_is m.2 r.1
      (risen_is m.1 r.0 m.3 r.2) new walks

-- the first finding of what the new image holds
abbrev IsFound : {L : Type 0} → Compared L → Finding → List ℕ → Type 0
IsFound both finding image = IsCompared both image → contents (judged_by both image) ≡ Err finding

-- a step that stops tells that finding
pub array_halts : {D L : Type 0} (disk : Ghosts D) (old last : D) (both : Compared L) (halt : Halt) (result : Result Change Halt) → result ≡ Err halt
    → IsOutcome {A = List Chunk} (Err halt) (array_chunks (array_place both.fresh.now) both.fresh.now.array both.fresh.now.array_size)
    → TellsChange disk old last both result
array_halts disk old last both halt result is found = subst (λ r. TellsChange disk old last both r) (sym is) (by halt found)
  where
    at : (finding : Finding) (told : Option (List ℕ))
        → array_chunks (array_place both.fresh.now) both.fresh.now.array both.fresh.now.array_size ≡ Err finding
        → IfSome told (IsFound both finding)
    at finding None found = tt
    at finding (Some image) found = λ is. finds_array both image is finding found

    by : (h : Halt) → IsOutcome {A = List Chunk} (Err h) (array_chunks (array_place both.fresh.now) both.fresh.now.array both.fresh.now.array_size)
        → TellsChange disk old last both (Err h)
    by (Found finding) found = at finding (disk.bytes old) found
    by Disk found = tt
    by NoMemory found = tt

pub map_halts : {D L : Type 0} (disk : Ghosts D) (old middle last : D) (some all : TreeParts) (both : Compared L) (array : List Chunk) (halt : Halt)
    (result : Result Change Halt) → result ≡ Err halt → HasNewArray both array → TellsMap disk old middle some all both array (Err halt)
    → TellsChange disk old last both result
map_halts disk old middle last some all both array halt result is array_is found =
    subst (λ r. TellsChange disk old last both r) (sym is) (by halt found)
  where
    at : (finding : Finding) (told : Option (List ℕ))
        → IfSome told (λ image. IsCompared both image → HasNewArray both array
        → chunk_map_in both.fresh.now array (judged_by both image) ≡ Err finding) → IfSome told (IsFound both finding)
    at finding None found = tt
    at finding (Some image) found = λ is. finds_map both image is array finding array_is (found is array_is)

    by : (h : Halt) → TellsMap disk old middle some all both array (Err h) → TellsChange disk old last both (Err h)
    by (Found finding) found = at finding (disk.bytes old) found
    by Disk found = tt
    by NoMemory found = tt

pub rest_halts : {D L : Type 0} (disk : Ghosts D) (old middle next last : D) (start some all : TreeParts) (both : Compared L) (array chunks : List Chunk)
    (halt : Halt) (result : Result Change Halt) → result ≡ Err halt → HasNewArray both array → disk.bytes middle ≡ disk.bytes old
    → TellsMap disk old middle start some both array (Ok chunks) → TellsRest disk middle next some all both chunks (Err halt)
    → TellsChange disk old last both result
rest_halts disk old middle next last start some all both array chunks halt result is array_is same made found =
    subst (λ r. TellsChange disk old last both r) (sym is) (by halt found)
  where
    at : (finding : Finding) (told other : Option (List ℕ)) → other ≡ told
        → IfSome told (λ image. (is : IsCompared both image) → HasNewArray both array
        → (known : Known) × (parts : Parts) × MakesMap both image is.based.old array chunks known parts
        × IsAdded start some parts (disk.reads old) (disk.reads middle))
        → IfSome other (λ image. IsCompared both image → HasNewMap both image chunks → FindsRest both image chunks finding)
        → IfSome told (IsFound both finding)
    at finding None other alike made found = tt
    at finding (Some image) other alike made found =
        let here = subst (λ o. IfSome o (λ i. IsCompared both i → HasNewMap both i chunks → FindsRest both i chunks finding)) alike found in
        λ is.
        let m = (made is array_is).2.chunks_are in
        finds_rest both image is array chunks finding array_is m (here is (array, m))

    by : (h : Halt) → TellsRest disk middle next some all both chunks (Err h) → TellsChange disk old last both (Err h)
    by (Found finding) found = at finding (disk.bytes old) (disk.bytes middle) same made found
    by Disk found = tt
    by NoMemory found = tt
