-- What is known of an image once its chunk tree and its root tree were walked.
use Rattle.std.proofs.Common.{◌≡◌, ℕ, List, ◌∷◌, ◌++◌, Option, Some, None, Result, Ok, Err, IfSome, refl, ap, sym, append_assoc}
use Rattle.std.specs.Ordering.{nat_cmp}
use Rattle.std.specs.FinMap.{FinMap}
use Rattle.std.specs.List.{filter_map}
use Rattle.verdict.specs.Rules.{and_then}
use Rattle.verdict.specs.declared.finding.Finding.{Finding}
use Rattle.verdict.specs.declared.place.Chunk.{Chunk}
use Rattle.write_cache.specs.Cache.{overlaid}
use Rattle.super_reader.specs.declared.Super.{Super}
use Rattle.super_reader.specs.Superblock.{array_place}
use Rattle.volume_items.specs.SystemArray.{array_chunks}
use Rattle.verdict.specs.Image.{range}
use Rattle.records.specs.Seen.{Seen, accounted}
use Rattle.records.specs.Walk.{Records, behind, then_records}
use Rattle.records.specs.Contents.{Contents, contents, superblock_in, all_records, chunk_map_in, root_items_in, chunk_records, root_records, super_record, tree_records}
use Rattle.plain_check.specs.Opened.{Opened, opened}
use Rattle.plain_check.specs.OpeningLaw.{OpeningLaw, contents_of}
use Rattle.volume_items.specs.declared.root_at.RootAt.{RootAt}

-- a step after two is a step after the second
pub then_next : {A B C : Type 0} (first : Result A Finding) (second : A → Result B Finding) (third : B → Result C Finding) (whole : A → Result C Finding)
    → ((a : A) → and_then (second a) third ≡ whole a) → and_then (and_then first second) third ≡ and_then first whole
then_next (Err finding) second third whole same = refl
then_next (Ok a) second third whole same = same a

-- what an image holds whose trees have these records
abbrev with_records : Super → List Chunk → List RootAt → List Seen → Contents
with_records sup chunks roots records = record { sup = sup; chunks = chunks; roots = roots; records = super_record sup ∷ filter_map accounted records }

-- what is known where the two trees have these records
abbrev known_by : List ℕ → Super → List Chunk → List RootAt → List Seen → Opened
known_by raw sup chunks roots seen = record { raw = raw; sup = sup; chunks = chunks; roots = roots; seen = seen }

-- records behind those of two trees
after_both : (sup : Super) (chunks : List Chunk) (roots : List RootAt) (first second : List Seen) (third : Records)
    → and_then {A = List Seen} {B = Contents} third (λ more. Ok (with_records sup chunks roots ((first ++ second) ++ more)))
    ≡ and_then {A = List Seen} {B = Contents} (behind first (behind second third)) (λ records. Ok (with_records sup chunks roots records))
unfolding behind
after_both sup chunks roots first second (Err finding) = refl
after_both sup chunks roots first second (Ok third) = ap (λ records. Ok (with_records sup chunks roots records)) (append_assoc first second third)

-- the records of the two trees, and then of those that root items name
after_top : (image raw : List ℕ) (sup : Super) (chunks : List Chunk) (roots : List RootAt) (first second : Records)
    → and_then {A = Opened} {B = Contents} (and_then {A = List Seen} {B = Opened} (then_records first second) (λ seen. Ok (known_by raw sup chunks roots seen))) (λ o. contents_of o image)
    ≡ and_then {A = List Seen} {B = Contents} (then_records first (then_records second (tree_records sup chunks roots image))) (λ records. Ok (with_records sup chunks roots records))
unfolding behind
after_top image raw sup chunks roots (Err finding) second = refl
after_top image raw sup chunks roots (Ok first) (Err finding) = refl
after_top image raw sup chunks roots (Ok first) (Ok second) = after_both sup chunks roots first second (tree_records sup chunks roots image)

pub opens : OpeningLaw
unfolding contents opened all_records
opens image =
    sym (then_next (superblock_in image) _ _ _ (λ sup.
    then_next (array_chunks (array_place sup) sup.array sup.array_size) _ _ _ (λ array.
    then_next (chunk_map_in sup array image) _ _ _ (λ chunks.
    then_next (root_items_in sup chunks image) _ _ _ (λ roots.
    after_top image (range 65536 4096 image) sup chunks roots (chunk_records sup array image) (root_records sup chunks image))))))

-- each step gave its part of what is known
opened_at : (x : List ℕ) (sup : Super) (raw : List ℕ) (array chunks : List Chunk) (roots : List RootAt) (first second : List Seen)
    → superblock_in x ≡ Ok sup → raw ≡ range 65536 4096 x → array_chunks (array_place sup) sup.array sup.array_size ≡ Ok array
    → chunk_map_in sup array x ≡ Ok chunks → chunk_records sup array x ≡ Ok first
    → root_items_in sup chunks x ≡ Ok roots → behind first (root_records sup chunks x) ≡ Ok second
    → opened x ≡ Ok (known_by raw sup chunks roots second)
unfolding opened
opened_at x sup raw array chunks roots first second block bytes pairs map these items those =
    rw (block, pairs, map, items, these, those) (ap (λ (r : List ℕ). Ok (known_by r sup chunks roots second)) (sym bytes))

opened_told : (told : Option (List ℕ)) (m : FinMap nat_cmp ℕ) (sup : Super) (raw : List ℕ) (array chunks : List Chunk) (roots : List RootAt) (first second : List Seen)
    → IfSome told (λ image. superblock_in (overlaid m 0 image) ≡ Ok sup) → IfSome told (λ image. raw ≡ range 65536 4096 (overlaid m 0 image))
    → array_chunks (array_place sup) sup.array sup.array_size ≡ Ok array
    → IfSome told (λ image. chunk_map_in sup array (overlaid m 0 image) ≡ Ok chunks) → IfSome told (λ image. chunk_records sup array (overlaid m 0 image) ≡ Ok first)
    → IfSome told (λ image. root_items_in sup chunks (overlaid m 0 image) ≡ Ok roots)
    → IfSome told (λ image. behind first (root_records sup chunks (overlaid m 0 image)) ≡ Ok second)
    → IfSome told (λ image. opened (overlaid m 0 image) ≡ Ok (known_by raw sup chunks roots second))
opened_told None m sup raw array chunks roots first second block bytes pairs map these items those = tt
opened_told (Some image) m sup raw array chunks roots first second block bytes pairs map these items those =
    opened_at (overlaid m 0 image) sup raw array chunks roots first second block bytes pairs map these items those

-- the same where the disk tells the same bytes before each step
pub opened_by : (told now later : Option (List ℕ)) (m : FinMap nat_cmp ℕ) (sup : Super) (raw : List ℕ) (array chunks : List Chunk) (roots : List RootAt) (first second : List Seen)
    → now ≡ told → later ≡ now
    → IfSome told (λ image. superblock_in (overlaid m 0 image) ≡ Ok sup) → IfSome told (λ image. raw ≡ range 65536 4096 (overlaid m 0 image))
    → array_chunks (array_place sup) sup.array sup.array_size ≡ Ok array
    → IfSome now (λ image. chunk_map_in sup array (overlaid m 0 image) ≡ Ok chunks) → IfSome now (λ image. chunk_records sup array (overlaid m 0 image) ≡ Ok first)
    → IfSome later (λ image. root_items_in sup chunks (overlaid m 0 image) ≡ Ok roots)
    → IfSome later (λ image. behind first (root_records sup chunks (overlaid m 0 image)) ≡ Ok second)
    → IfSome told (λ image. opened (overlaid m 0 image) ≡ Ok (known_by raw sup chunks roots second))
opened_by told now later m sup raw array chunks roots first second p q block bytes pairs map these items those =
    opened_told told m sup raw array chunks roots first second block bytes pairs (rw p at map) (rw p at these) (rw (q, p) at items) (rw (q, p) at those)
