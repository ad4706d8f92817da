-- What an accepted image has.
use Rattle.std.proofs.Common.{◌≡◌, ℕ, List, ◌∷◌, refl, ap, ◌∙◌}
use Rattle.std.specs.Prelude.{Result, Ok, Err}
use Rattle.std.specs.List.{filter_map}
use Rattle.verdict.specs.Rules.{and_then, finding_or}
use Rattle.verdict.specs.declared.finding.Finding.{Finding}
use Rattle.verdict.specs.declared.finding.Verdict.TheVariants.{Accept}
use Rattle.super_reader.specs.declared.Super.{Super}
use Rattle.super_reader.specs.Superblock.{array_place}
use Rattle.volume_items.specs.SystemArray.{array_chunks}
use Rattle.records.specs.Contents.{Contents, contents, superblock_in, chunk_map_in, root_items_in, all_records, super_record}
use Rattle.records.specs.Context.{context_of}
use Rattle.records.specs.Seen.{accounted}
use Rattle.records.specs.Postings.{account_fault}
use Rattle.records.specs.FullCheck.{checked, checked_with, verdict_of, full_check}

-- a step that comes to a value, and what followed
and_then-ok : {A B : Type 0} (step : Result A Finding) (next : A → Result B Finding) (value : B) → and_then step next ≡ Ok value → (a : A) × (step ≡ Ok a) × (next a ≡ Ok value)
and_then-ok (Err finding) next value is = absurd (cc)
and_then-ok (Ok a) next value is = (a, refl, is)

accepted_generation : (r : Result ℕ Finding) (generation : ℕ) → verdict_of r ≡ Accept generation → r ≡ Ok generation
accepted_generation (Ok g) generation is = cc
accepted_generation (Err finding) generation is = absurd (cc)

-- what an image holds has its superblock
held_superblock : (image : List ℕ) (held : Contents) → contents image ≡ Ok held → superblock_in image ≡ Ok held.sup
unfolding contents
held_superblock image held is =
    let first = and_then-ok (superblock_in image) _ held is in
    let second = and_then-ok (array_chunks (array_place first.0) first.0.array first.0.array_size) _ held first.2 in
    let third = and_then-ok (chunk_map_in first.0 second.0 image) _ held second.2 in
    let fourth = and_then-ok (root_items_in first.0 third.0 image) _ held third.2 in
    let fifth = and_then-ok (all_records first.0 second.0 third.0 fourth.0 image) _ held fourth.2 in
    let whole : record { sup = first.0; chunks = third.0; roots = fourth.0; records = super_record first.0 ∷ filter_map accounted fifth.0 } ≡ held = cc (fifth.2) in
    first.1 ∙ ap (λ h. Ok h.sup) whole

-- an accepted image has a superblock of the generation
pub accepted_superblock : (image : List ℕ) (generation : ℕ) → full_check image ≡ Accept generation → (sup : Super) × (superblock_in image ≡ Ok sup) × (sup.generation ≡ generation)
unfolding checked_with
accepted_superblock image generation is =
    let held = and_then-ok (contents image) _ generation (accepted_generation (checked image) generation is) in
    let last = and_then-ok (finding_or (account_fault (context_of held.0) held.0.records) (tt {0})) _ generation held.2 in
    let same : held.0.sup.generation ≡ generation = cc (last.2) in
    (held.0.sup, held_superblock image held.0 held.1, same)
