-- What the walks of an image come to, by what is known of it once its chunk tree and its root tree were walked.
use Rattle.std.proofs.Common.{◌≡◌, ℕ, List, ◌++◌, Result, Ok, Err, refl, ap, sym, ◌∙◌, subst, append_assoc}
use Rattle.walk_laws.proofs.Trees.{step_ok}
use Rattle.verdict.specs.Image.{range}
use Rattle.verdict.specs.Rules.{and_then}
use Rattle.verdict.specs.declared.finding.Finding.{Finding}
use Rattle.verdict.specs.declared.place.Chunk.{Chunk}
use Rattle.super_reader.specs.declared.Super.{Super}
use Rattle.super_reader.specs.Superblock.{array_place}
use Rattle.volume_items.specs.SystemArray.{array_chunks}
use Rattle.records.specs.Contents.{all_records, chunk_map_in, chunk_records, root_items_in, root_records, superblock_in, tree_records}
use Rattle.records.specs.Seen.{Seen}
use Rattle.records.specs.Walk.{Records, behind, then_records}
use Rattle.tree_laws.specs.LivePairs.{Walked, walked}
use Rattle.plain_check.specs.Opened.{Opened, named_records, opened, top_records}
use Rattle.plain_check.proofs.Opening.{then_next}
use Rattle.volume_items.specs.declared.root_at.RootAt.{RootAt}

-- what the walks come to of an image of which this is known, where the trees that root items name have these records
abbrev pub walked_with : Opened → List Seen → Walked
walked_with o more = record { sup = o.sup; chunks = o.chunks; seen = o.seen ++ more }

abbrev walked_by : Super → List Chunk → List Seen → Walked
walked_by sup chunks seen = record { sup = sup; chunks = chunks; seen = seen }

abbrev opened_by : List ℕ → Super → List Chunk → List RootAt → List Seen → Opened
opened_by raw sup chunks roots seen = record { raw = raw; sup = sup; chunks = chunks; roots = roots; seen = seen }

abbrev after_named : List ℕ → Opened → Result Walked Finding
after_named image o = and_then {A = List Seen} {B = Walked} (named_records o image) (λ more. Ok (walked_with o more))

after_both : (sup : Super) (chunks : List Chunk) (first second : List Seen) (third : Records)
    → and_then {A = List Seen} {B = Walked} third (λ more. Ok (walked_by sup chunks ((first ++ second) ++ more)))
    ≡ and_then {A = List Seen} {B = Walked} (behind first (behind second third)) (λ seen. Ok (walked_by sup chunks seen))
unfolding behind
after_both sup chunks first second (Err finding) = refl
after_both sup chunks first second (Ok third) = ap (λ (seen : List Seen). Ok (walked_by sup chunks seen)) (append_assoc first second third)

after_top : (image raw : List ℕ) (sup : Super) (chunks : List Chunk) (roots : List RootAt) (first second : Records)
    → and_then {A = Opened} {B = Walked} (and_then {A = List Seen} {B = Opened} (then_records first second) (λ seen. Ok (opened_by raw sup chunks roots seen))) (after_named image)
    ≡ and_then {A = List Seen} {B = Walked} (then_records first (then_records second (tree_records sup chunks roots image))) (λ seen. Ok (walked_by sup chunks seen))
unfolding behind
after_top image raw sup chunks roots (Err finding) second = refl
after_top image raw sup chunks roots (Ok first) (Err finding) = refl
after_top image raw sup chunks roots (Ok first) (Ok second) = after_both sup chunks first second (tree_records sup chunks roots image)

walks_by : (image : List ℕ) → walked image ≡ and_then {A = Opened} {B = Walked} (opened image) (after_named image)
unfolding walked opened all_records
walks_by image =
    sym (then_next (superblock_in image) _ _ _ (λ sup.
    then_next (array_chunks (array_place sup) sup.array sup.array_size) _ _ _ (λ array.
    then_next (chunk_map_in sup array image) _ _ _ (λ chunks.
    then_next (root_items_in sup chunks image) _ _ _ (λ roots.
    after_top image (range 65536 4096 image) sup chunks roots (chunk_records sup array image) (root_records sup chunks image))))))

-- the walks of an image
pub walks_are : (image : List ℕ) (o : Opened) (more : List Seen) → opened image ≡ Ok o → named_records o image ≡ Ok more
    → walked image ≡ Ok (walked_with o more)
walks_are image o more is named =
    walks_by image
    ∙ ap (λ (r : Result Opened Finding). and_then {A = Opened} {B = Walked} r (after_named image)) is
    ∙ ap (λ (r : Records). and_then {A = List Seen} {B = Walked} r (λ more. Ok (walked_with o more))) named

-- the bytes of the superblock place, and the root items
pub record IsOpened (image : List ℕ) (o : Opened) : Type 0 where
  pub raw : o.raw ≡ range 65536 4096 image
  pub roots : root_items_in o.sup o.chunks image ≡ Ok o.roots

pub opened_is : (image : List ℕ) (o : Opened) → opened image ≡ Ok o → IsOpened image o
unfolding opened
opened_is image o is =
    let s = step_ok (superblock_in image) _ o is in
    let a = step_ok (array_chunks (array_place s.0) s.0.array s.0.array_size) _ o s.2 in
    let c = step_ok (chunk_map_in s.0 a.0 image) _ o a.2 in
    let r = step_ok (root_items_in s.0 c.0 image) _ o c.2 in
    let w = step_ok (top_records s.0 a.0 c.0 image) _ o r.2 in
    subst (IsOpened image) (ok_opened (opened_by (range 65536 4096 image) s.0 c.0 r.0 w.0) o w.2) (record { raw = refl; roots = r.1 })
  where
    ok_opened : (a b : Opened) → ◌≡◌ {A = Result Opened Finding} (Ok a) (Ok b) → a ≡ b
    ok_opened a b is = cc
