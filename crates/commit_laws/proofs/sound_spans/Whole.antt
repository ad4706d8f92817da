-- The spans of an accepted image are lawful and whole.
use Rattle.std.proofs.Common.{◌≡◌, ℕ, ◌+◌, ◌*◌, ◌/◌, ◌^◌, ◌<◌, ◌==◌, Bool, true, false, not, List, cond, refl, subst, sym, arith}
use Rattle.std.specs.Prelude.{Some, None}
use Rattle.std.specs.List.{All}
use Rattle.std.proofs.lemmas.Nat.{div-add-mod'}
use Rattle.std.proofs.lemmas.Bool.{and_parts, eqb-true}
use Rattle.std.proofs.lemmas.List.Elements.{All-contains}
use Rattle.change_records.proofs.PostingLaws.{one_span}
use Rattle.change_records.specs.Spans.{AreItemsOf, IsLawfulIn, extent_bytes, extent_span, is_written, shown_span, span_in, sums_span}
use Rattle.change_records.proofs.ItemLaws.{are_alone, are_lawful, item_of, lawful_of}
use Rattle.fs_items.specs.SumsRow.{SumFields}
use Rattle.fs_items.specs.declared.file_extent.FileExtent.{FileExtent}
use Rattle.records.specs.Part.{AreSectors, IsLawful, Located, Part}
use Rattle.records.specs.Part.Part.{ExtentPart, FileExtentPart, SumsPart}
use Rattle.tree_laws.specs.LivePairs.{Walked}
use Rattle.span_index.specs.Sectors.{times_of_span}
use Rattle.span_index.specs.Spans.{Table}
use Rattle.span_index.specs.declared.span.Span.{Span}
use Rattle.commit_laws.specs.Items.{ItemsLaw, ItemsStand, items_of}
use Rattle.commit_laws.specs.Same.{HeldLaw, records_of}
use Rattle.commit_laws.specs.Sound.{IsWhole, KnownSpansLaw, SpansStand}
use Rattle.commit_laws.specs.Steps.{spans_of}
use Rattle.commit_laws.proofs.whole_commits.Commit.{known_same}
use Rattle.commit_laws.proofs.whole_commits.Named.{times_are}
use Rattle.commit_laws.proofs.whole_commits.Step.{known_at}
use Rattle.volume_items.specs.declared.root_at.RootAt.{RootAt}

-- ---- the span of a sound item

-- whole sectors of some bytes end where the bytes do or before
ends : (first bytes : ℕ) → first + bytes < 2 ^ 64 → first + bytes / 4096 * 4096 < 2 ^ 64
ends first bytes fits = let sum = div-add-mod' bytes 4096 in omega (arith, sum, fits)

range_whole : (one : Located) (range : FileExtent) (span : Span) (b : Bool) → is_written range ≡ b
    → cond b (Some (shown_span one.tree range)) None ≡ Some span → (0 < range.extent → AreSectors (range.extent + range.offset) range.length)
    → IsWhole span
range_whole one range span false written is sectors = absurd (cc)
range_whole one range span true written is sectors =
    let there = (and_parts (range.sort == 1) (not (range.extent == 0)) written).1 in
    let some : 0 < range.extent = above range.extent there in
    let good = sectors some in
    subst IsWhole (one_span (shown_span one.tree range) span is)
    (eqb-true _ _ good.0, ends (range.extent + range.offset) range.length good.1)
  where
    above : (n : ℕ) → not (n == 0) ≡ true → 0 < n
    above n is = grind (arith, is)

sums_whole : (item : SumFields) → IsLawful (SumsPart item) → IsWhole (sums_span item)
sums_whole item sound = let fits = sound.1 in (eqb-true _ _ sound.0, omega (arith, fits))

pub span_whole : (n : ℕ) (one : Located) (part : Part) (span : Span) → span_in n one.tree part ≡ Some span → IsLawfulIn n one part → IsLawful part
    → IsWhole span
span_whole n one (ExtentPart item) span is lawful sound =
    subst IsWhole (one_span (extent_span n item) span is)
    (eqb-true _ _ sound, ends item.key.objectid (extent_bytes n item) lawful.fits)
span_whole n one (FileExtentPart range) span is lawful sound = range_whole one range span (is_written range) refl is sound
span_whole n one (SumsPart item) span is lawful sound = subst IsWhole (one_span (sums_span item) span is) (sums_whole item sound)
span_whole n one part span is lawful sound = absurd (cc)

-- ---- those of an image

whole_of : (n : ℕ) (table : Table) (items : List Located) → AreItemsOf n table items → All (λ one. IsLawful one.part) items
    → (span : Span) → 0 < table span → IsWhole span
whole_of n table items are sound span stands =
    let found = item_of n table items span are stands in
    span_whole n found.0 found.0.part span found.2 (lawful_of n table items found.0 are found.1)
    (All-contains (λ (one : Located). IsLawful one.part) items found.0 sound found.1)

stand_at : (whole : Walked) (roots : List RootAt) → ItemsStand whole.sup.nodesize (items_of whole) → SpansStand (known_at whole roots)
stand_at whole roots stand =
    let n = whole.sup.nodesize in
    let table = times_of_span (spans_of n (records_of whole)) in
    let are : AreItemsOf n table (items_of whole) = record { distinct = stand.distinct; lawful = stand.lawful; spans = times_are n whole } in
    record {
      lawful = are_lawful n table (items_of whole) are;
      alone = are_alone n table (items_of whole) are;
      whole = whole_of n table (items_of whole) are stand.sound;
    }

pub known_spans : HeldLaw → ItemsLaw → KnownSpansLaw
known_spans held items image k known =
    let old = known.bases.trees in
    let was = known.bases.walks in
    let holds = held image old was in
    subst SpansStand (sym (known_same image k old holds.0 known was holds.1 holds.2)) (stand_at old holds.0.roots (items image old was))
