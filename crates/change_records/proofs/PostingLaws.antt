-- Where the postings of an item differ between two contexts, by its span.
use Rattle.std.proofs.Common.{◌≡◌, ℕ, zero, suc, ◌+◌, ◌/◌, ◌%◌, ◌<◌, Bool, true, false, cond, not, ◌&&◌, ◌==◌, inl, inr, List, [], ◌++◌, map, get_or, refl, sym, ap, ◌∙◌, subst, arith}
use Rattle.std.specs.Prelude.{Option, Some, None, is_some}
use Rattle.std.proofs.lemmas.List.{append_cancel_left}
use Rattle.std.proofs.lemmas.Bool.{cases_lt}
use Rattle.std.proofs.lemmas.Nat.{div-add-mod'}
use Rattle.std.specs.Option.{unwrap_or}
use Rattle.verdict.specs.declared.place.Chunk.{Chunk}
use Rattle.accounts.specs.declared.context.Home.{Home}
use Rattle.accounts.specs.declared.postings.Posting.{Posting}
use Rattle.accounts.specs.Context.{Context, home_of}
use Rattle.accounts.specs.Kinds.{outside, sector}
use Rattle.fs_items.specs.declared.file_extent.FileExtent.{FileExtent}
use Rattle.records.specs.Part.{Located, Part}
use Rattle.records.specs.Part.Part.{ExtentPart, FileExtentPart, SumsPart}
use Rattle.records.specs.ExtentPostings.{extent_postings}
use Rattle.records.specs.InodePostings.{inode_postings}
use Rattle.records.specs.DirPostings.{dir_postings}
use Rattle.records.specs.Postings.{postings_of}
use Rattle.records.specs.SpacePostings.{is_data, place_postings, range_sector_postings, sectors_from, shown_postings, space_postings}
use Rattle.span_index.specs.declared.span.Span.{Span}
use Rattle.change_records.specs.Affected.{context_with}
use Rattle.change_records.specs.Search.{SpanDiffers, owned_bytes}
use Rattle.change_records.specs.Spans.{extent_bytes, extent_span, is_written, shown_span, span_in, span_of, sums_span}
use Rattle.accounts.specs.Lent.{to}

-- ---- what rests on the context

rest_same : (before after : Context) (one : Located) → space_postings before one.tree one.part ≡ space_postings after one.tree one.part → postings_of before one ≡ postings_of after one
rest_same before after one same =
    ap (λ l. extent_postings one.tree one.part ++ (inode_postings one.tree one.part ++ (dir_postings one.tree one.part ++ l))) same

space_same : (before after : Context) (one : Located) → postings_of before one ≡ postings_of after one → space_postings before one.tree one.part ≡ space_postings after one.tree one.part
space_same before after one same =
    append_cancel_left (dir_postings one.tree one.part) _ _
    (append_cancel_left (inode_postings one.tree one.part) _ _ (append_cancel_left (extent_postings one.tree one.part) _ _ same))

-- ---- the place of an extent

home_same : (d : Bool) (a n : ℕ) (h g : Option Home) → place_postings d a n h ≡ place_postings d a n g → h ≡ g
home_same d a n None None is = refl
home_same d a n None (Some g) is = absurd (let kinds : 8 ≡ 6 = ap (λ l. (get_or l 0 (to (outside 0) 0 0)).account.kind) is in omega (arith, kinds))
home_same d a n (Some h) None is = absurd (let kinds : 6 ≡ 8 = ap (λ l. (get_or l 0 (to (outside 0) 0 0)).account.kind) is in omega (arith, kinds))
home_same d a n (Some h) (Some g) is =
    let e1 : h.start ≡ g.start = ap (λ l. (get_or l 0 (to (outside 0) 0 0)).account.key.objectid) is in
    let e2 : h.length ≡ g.length = ap (λ l. (get_or l 0 (to (outside 0) 0 0)).account.key.offset) is in
    let e3 : h.class ≡ g.class = ap (λ l. (get_or l 0 (to (outside 0) 0 0)).account.detail) is in
    λ i. Some (record { start = e1 i; length = e2 i; class = e3 i })

-- ---- what a file shows

some_sectors : (a n : ℕ) → 0 < n → map (λ address. to (sector address) 3 1) (sectors_from a n) ≡ [] → ⊥
unfolding sectors_from
some_sectors a zero some is = omega (arith, some)
some_sectors a (suc n) some is = absurd (cc)

no_sectors : (a n : ℕ) → n ≡ 0 → map (λ address. to (sector address) 3 1) (sectors_from a n) ≡ []
unfolding sectors_from
no_sectors a n none = ap (λ k. map (λ address. to (sector address) 3 1) (sectors_from a k)) none

-- what is posted where a test passes
abbrev shown_if : Bool → FileExtent → Option Home → List Posting
shown_if b range h = cond b (shown_postings range h) []

shown_same : (b c : Bool) (range : FileExtent) (h g : Option Home) → (b && is_some h) ≡ (c && is_some g) → shown_if b range h ≡ shown_if c range g
shown_same true true range (Some h) (Some g) is = refl
shown_same true true range (Some h) None is = absurd (cc)
shown_same true true range None (Some g) is = absurd (cc)
shown_same true true range None None is = refl
shown_same true false range (Some h) g is = absurd (cc)
shown_same true false range None g is = refl
shown_same false true range h (Some g) is = absurd (cc)
shown_same false true range h None is = refl
shown_same false false range h g is = refl

shown_none : (b : Bool) (range : FileExtent) (h : Option Home) → range.length / 4096 ≡ 0 → shown_if b range h ≡ []
shown_none true range (Some h) none = no_sectors (range.extent + range.offset) (range.length / 4096) none
shown_none true range None none = refl
shown_none false range h none = refl

shown_differs : (b c : Bool) (range : FileExtent) (h g : Option Home) → 0 < range.length / 4096 → shown_if b range h ≡ shown_if c range g → (b && is_some h) ≡ (c && is_some g)
shown_differs true true range (Some h) (Some g) some is = refl
shown_differs true true range (Some h) None some is = absurd (some_sectors (range.extent + range.offset) (range.length / 4096) some is)
shown_differs true true range None (Some g) some is = absurd (some_sectors (range.extent + range.offset) (range.length / 4096) some (sym is))
shown_differs true true range None None some is = refl
shown_differs true false range (Some h) g some is = absurd (some_sectors (range.extent + range.offset) (range.length / 4096) some is)
shown_differs true false range None g some is = refl
shown_differs false true range h (Some g) some is = absurd (some_sectors (range.extent + range.offset) (range.length / 4096) some (sym is))
shown_differs false true range h None some is = refl
shown_differs false false range h g some is = refl

both_tests : (a b c : Bool) → (a && b) ≡ true → (a && (b && c)) ≡ c
both_tests true true c is = refl
both_tests true false c is = absurd (cc)
both_tests false b c is = absurd (cc)

written_shows : (context : Context) (tree : ℕ) (range : FileExtent) → is_written range ≡ true
    → range_sector_postings context tree range ≡ shown_if (not (context.sum_free tree range.key.objectid)) range (home_of context range.extent range.extent_length)
written_shows context tree range written =
    ap (λ b. cond b (shown_postings range (home_of context range.extent range.extent_length)) [])
    (both_tests (range.sort == 1) (not (range.extent == 0)) (not (context.sum_free tree range.key.objectid)) written)

no_test : (a b c : Bool) → (a && b) ≡ false → (a && (b && c)) ≡ false
no_test true true c is = absurd (cc)
no_test true false c is = refl
no_test false b c is = refl

unwritten_shows : (context : Context) (tree : ℕ) (range : FileExtent) → is_written range ≡ false → range_sector_postings context tree range ≡ []
unwritten_shows context tree range unwritten =
    ap (λ b. cond b (shown_postings range (home_of context range.extent range.extent_length)) [])
    (no_test (range.sort == 1) (not (range.extent == 0)) (not (context.sum_free tree range.key.objectid)) unwritten)

-- ---- an item and its span

pub one_span : (s t : Span) → Some s ≡ Some t → s ≡ t
one_span s t is = ap (λ o. unwrap_or o s) is

-- the bytes of an extent are whole sectors
abbrev pub IsWhole : ℕ → Part → Type 0
IsWhole n (ExtentPart item) = extent_bytes n item % 4096 ≡ 0
IsWhole n other = Unit {0}

whole_bytes : (d : Bool) (offset n : ℕ) → cond d offset n % 4096 ≡ 0 → owned_bytes n d (cond d offset n / 4096) ≡ cond d offset n
whole_bytes true offset n whole = let sum = div-add-mod' offset 4096 in omega (arith, sum, whole)
whole_bytes false offset n whole = refl

range_differs : (olds news : List Chunk) (n : ℕ) (free free' : ℕ → ℕ → Bool) (tree : ℕ) (range : FileExtent) (span : Span) (b : Bool) → is_written range ≡ b
    → cond b (Some (shown_span tree range)) None ≡ Some span
    → (range_sector_postings (context_with olds n free) tree range ≡ range_sector_postings (context_with news n free') tree range → ⊥)
    → SpanDiffers (context_with olds n free) (context_with news n free') span
range_differs olds news n free free' tree range span false written is differ = absurd (cc)
range_differs olds news n free free' tree range span true written is differ =
    subst (SpanDiffers (context_with olds n free) (context_with news n free')) (one_span (shown_span tree range) span is) (
      elim (cases_lt 0 (range.length / 4096)) [
        | inl some ↦ some
        | inr none ↦
            absurd (let zero : range.length / 4096 ≡ 0 = omega (arith, none) in
            differ (both (shown_none b range h zero ∙ sym (shown_none c range g zero))))
      ],
      λ same. differ (both (shown_same b c range h g same)),
    )
  where
    b : Bool
    b = not (free tree range.key.objectid)

    c : Bool
    c = not (free' tree range.key.objectid)

    h : Option Home
    h = home_of (context_with olds n free) range.extent range.extent_length

    g : Option Home
    g = home_of (context_with news n free') range.extent range.extent_length

    both : shown_if b range h ≡ shown_if c range g
        → range_sector_postings (context_with olds n free) tree range ≡ range_sector_postings (context_with news n free') tree range
    both same = written_shows (context_with olds n free) tree range written ∙ same ∙ sym (written_shows (context_with news n free') tree range written)

part_differs : (olds news : List Chunk) (n : ℕ) (free free' : ℕ → ℕ → Bool) (tree : ℕ) (part : Part) (span : Span) → span_in n tree part ≡ Some span → IsWhole n part
    → (space_postings (context_with olds n free) tree part ≡ space_postings (context_with news n free') tree part → ⊥)
    → SpanDiffers (context_with olds n free) (context_with news n free') span
unfolding space_postings
part_differs olds news n free free' tree (ExtentPart item) span is whole differ =
    subst (SpanDiffers (context_with olds n free) (context_with news n free')) (one_span (extent_span n item) span is)
    (λ same. differ (ap (place_postings (is_data item) item.key.objectid (extent_bytes n item))
    (subst (λ m. home_of (context_with olds n free) item.key.objectid m ≡ home_of (context_with news n free') item.key.objectid m) (whole_bytes (is_data item) item.key.offset n whole) same)))
part_differs olds news n free free' tree (FileExtentPart range) span is whole differ =
    range_differs olds news n free free' tree range span (is_written range) refl is differ
part_differs olds news n free free' tree (SumsPart item) span is whole differ = absurd (differ refl)
part_differs olds news n free free' tree other span is whole differ = absurd (cc)

-- an item that posts otherwise has a span that differs
pub item_differs : (olds news : List Chunk) (n : ℕ) (free free' : ℕ → ℕ → Bool) (one : Located) (span : Span) → span_of n one ≡ Some span → IsWhole n one.part
    → (postings_of (context_with olds n free) one ≡ postings_of (context_with news n free') one → ⊥)
    → SpanDiffers (context_with olds n free) (context_with news n free') span
item_differs olds news n free free' one span is whole differ =
    part_differs olds news n free free' one.tree one.part span is whole (λ same. differ (rest_same (context_with olds n free) (context_with news n free') one same))

range_same : (olds news : List Chunk) (n : ℕ) (free free' : ℕ → ℕ → Bool) (tree : ℕ) (range : FileExtent) (span : Span) (b : Bool) → is_written range ≡ b
    → cond b (Some (shown_span tree range)) None ≡ Some span
    → SpanDiffers (context_with olds n free) (context_with news n free') span
    → range_sector_postings (context_with olds n free) tree range ≡ range_sector_postings (context_with news n free') tree range → ⊥
range_same olds news n free free' tree range span false written is differ same = absurd (cc)
range_same olds news n free free' tree range span true written is differ same =
    let here = subst (SpanDiffers (context_with olds n free) (context_with news n free')) (sym (one_span (shown_span tree range) span is)) differ in
    here.1 (shown_differs (not (free tree range.key.objectid)) (not (free' tree range.key.objectid)) range
    (home_of (context_with olds n free) range.extent range.extent_length) (home_of (context_with news n free') range.extent range.extent_length) here.0
    (sym (written_shows (context_with olds n free) tree range written) ∙ same ∙ written_shows (context_with news n free') tree range written))

part_same : (olds news : List Chunk) (n : ℕ) (free free' : ℕ → ℕ → Bool) (tree : ℕ) (part : Part) (span : Span) → span_in n tree part ≡ Some span → IsWhole n part
    → SpanDiffers (context_with olds n free) (context_with news n free') span
    → space_postings (context_with olds n free) tree part ≡ space_postings (context_with news n free') tree part → ⊥
unfolding space_postings
part_same olds news n free free' tree (ExtentPart item) span is whole differ same =
    let here = subst (SpanDiffers (context_with olds n free) (context_with news n free')) (sym (one_span (extent_span n item) span is)) differ in
    here (subst (λ m. home_of (context_with olds n free) item.key.objectid m ≡ home_of (context_with news n free') item.key.objectid m) (sym (whole_bytes (is_data item) item.key.offset n whole))
    (home_same (is_data item) item.key.objectid (extent_bytes n item) _ _ same))
part_same olds news n free free' tree (FileExtentPart range) span is whole differ same =
    range_same olds news n free free' tree range span (is_written range) refl is differ same
part_same olds news n free free' tree (SumsPart item) span is whole differ same =
    absurd (subst (SpanDiffers (context_with olds n free) (context_with news n free')) (sym (one_span (sums_span item) span is)) differ)
part_same olds news n free free' tree other span is whole differ same = absurd (cc)

-- an item whose span differs posts otherwise
pub span_differs : (olds news : List Chunk) (n : ℕ) (free free' : ℕ → ℕ → Bool) (one : Located) (span : Span) → span_of n one ≡ Some span → IsWhole n one.part
    → SpanDiffers (context_with olds n free) (context_with news n free') span
    → postings_of (context_with olds n free) one ≡ postings_of (context_with news n free') one → ⊥
span_differs olds news n free free' one span is whole differ same =
    part_same olds news n free free' one.tree one.part span is whole differ (space_same (context_with olds n free) (context_with news n free') one same)

range_plain : (olds news : List Chunk) (n : ℕ) (free free' : ℕ → ℕ → Bool) (tree : ℕ) (range : FileExtent) (b : Bool) → is_written range ≡ b
    → cond b (Some (shown_span tree range)) None ≡ None
    → range_sector_postings (context_with olds n free) tree range ≡ range_sector_postings (context_with news n free') tree range
range_plain olds news n free free' tree range true written is = absurd (cc)
range_plain olds news n free free' tree range false written is =
    unwritten_shows (context_with olds n free) tree range written ∙ sym (unwritten_shows (context_with news n free') tree range written)

part_plain : (olds news : List Chunk) (n : ℕ) (free free' : ℕ → ℕ → Bool) (tree : ℕ) (part : Part) → span_in n tree part ≡ None
    → space_postings (context_with olds n free) tree part ≡ space_postings (context_with news n free') tree part
unfolding space_postings
part_plain olds news n free free' tree (ExtentPart item) is = absurd (cc)
part_plain olds news n free free' tree (FileExtentPart range) is = range_plain olds news n free free' tree range (is_written range) refl is
part_plain olds news n free free' tree other is = refl

-- an item without a span posts the same
pub item_plain : (olds news : List Chunk) (n : ℕ) (free free' : ℕ → ℕ → Bool) (one : Located) → span_of n one ≡ None
    → postings_of (context_with olds n free) one ≡ postings_of (context_with news n free') one
item_plain olds news n free free' one is =
    rest_same (context_with olds n free) (context_with news n free') one (part_plain olds news n free free' one.tree one.part is)
