-- What a record posts to the sectors of its span: something to each where the span counts, and nothing where it does not.
use Rattle.std.proofs.Common.{◌≡◌, ℕ, ◌+◌, ◌*◌, ◌/◌, ◌%◌, ◌<◌, ◌==◌, ◌&&◌, Bool, true, false, not, cond, List, [], ◌∷◌, ◌++◌, refl, ap, sym, ◌∙◌, subst, arith}
use Rattle.std.specs.Prelude.{Option, Some, None, is_some, nat_lt}
use Rattle.std.specs.List.{Contains}
use Rattle.std.proofs.lemmas.Bool.{and_from, eq-eqb}
use Rattle.std.proofs.lemmas.Bool.Decides.{nat_tests}
use Rattle.change_records.proofs.PostingLaws.{one_span}
use Rattle.verdict.proofs.Numbers.{whole_sectors}
use Rattle.extent_items.specs.ExtentRow.{ExtentFields}
use Rattle.fs_items.specs.declared.file_extent.FileExtent.{FileExtent}
use Rattle.accounts.specs.Context.{Context, home_of}
use Rattle.accounts.specs.Kinds.{outside, sector}
use Rattle.accounts.specs.Sums.{total_of}
use Rattle.accounts.specs.declared.account.Account.{Account}
use Rattle.accounts.specs.declared.context.Home.{Home}
use Rattle.accounts.specs.declared.postings.Posting.{Posting}
use Rattle.span_index.specs.Sectors.{adds, adds_to, counts, has_sector}
use Rattle.span_index.specs.declared.span.Span.{Span}
use Rattle.span_index.specs.declared.span.SpanSort.{SpanSort}
use Rattle.span_index.specs.declared.span.SpanSort.TheVariants.{Owned, Shown, Summed}
use Rattle.records.specs.DirPostings.{dir_postings}
use Rattle.records.specs.ExtentPostings.{extent_postings}
use Rattle.records.specs.InodePostings.{inode_postings}
use Rattle.records.specs.Part.{IsLawful, Located, Part}
use Rattle.records.specs.Part.Part.{ExtentPart, FileExtentPart, SumsPart}
use Rattle.records.specs.Postings.{all_postings, postings_of}
use Rattle.records.specs.SpacePostings.{extent_length, is_data, is_to_sector, place_postings, shown_postings, space_postings}
use Rattle.change_records.specs.Spans.{IsLawfulIn, extent_bytes, extent_span, is_written, shown_span, span_in, span_of, sums_span}
use Rattle.commit_laws.proofs.Elements.{Among}
use Rattle.commit_laws.proofs.at_sectors.Posted.{adds_in, record_adds, is_below}
use Rattle.commit_laws.proofs.accepted.Sums.{Posted, posted}
use Rattle.lookup_bounds.specs.Named.{names_sector}
use Rattle.lookup_bounds.proofs.HousedPosts.{among_of, any_among, flat_among}
use Rattle.accounts.specs.Lent.{to}

-- ---- a span that counts

-- a sum of a sector to which a span of a sort adds
abbrev field_of : SpanSort → ℕ
field_of (Owned of_data) = 0
field_of Summed = 2
field_of (Shown tree ino file_offset extent bytes) = 3

adds_there : (sort : SpanSort) → adds_to sort (field_of sort) ≡ true
adds_there (Owned of_data) = refl
adds_there Summed = refl
adds_there (Shown tree ino file_offset extent bytes) = refl

some_added : (context : Context) (address : ℕ) (span : Span) → counts context span span.sort ≡ true → has_sector span address ≡ true
    → 0 < adds context address (field_of span.sort) span
unfolding adds
some_added context address span counted has =
    let does = and_from _ _ has (and_from _ _ counted (adds_there span.sort)) in
    subst (λ b. 0 < cond b 1 0) (sym does) (omega arith)

-- a record posts something to the sector at an address
pub record PostsThere (context : Context) (one : Located) (address : ℕ) : Type 0 where
  pub p : Posting
  pub among : Among p (postings_of context one)
  pub account_is : p.account ≡ sector address

-- so does a sound record to each sector of its span, where that counts
pub posts_there : (context : Context) (one : Located) (span : Span) (address : ℕ) → IsLawfulIn context.nodesize one one.part × IsLawful one.part
    → span_of context.nodesize one ≡ Some span → counts context span span.sort ≡ true → has_sector span address ≡ true
    → PostsThere context one address
posts_there context one span address sound is counted has =
    let field = field_of span.sort in
    let total : total_of (postings_of context one) (sector address) field ≡ adds context address field span =
    record_adds context one address field sound ∙ ap (adds_in context address field) is in
    let some : 0 < total_of (postings_of context one) (sector address) field =
    subst (λ n. 0 < n) (sym total) (some_added context address span counted has) in
    let found : Posted (postings_of context one) (sector address) field = posted (postings_of context one) (sector address) field some in
    record { p = found.p; among = found.among; account_is = found.adds.account_is }

-- so that one of some postings goes to the sector, among which are those of the record
pub names_there : (context : Context) (items : List Located) (ps : List Posting) (one : Located) (address : ℕ) → Contains items one
    → ((p : Posting) → Among p (all_postings context items) → Among p ps) → PostsThere context one address → names_sector ps address ≡ true
unfolding names_sector
names_there context items ps one address has into there =
    any_among (λ (posting : Posting). is_to_sector posting && posting.account.block == address) ps there.p
    (into there.p (flat_among (postings_of context) items one there.p (among_of items one has) there.among))
    (subst (λ (a : Account). (a.kind == 5 && a.block == address) ≡ true) (sym there.account_is) (eq-eqb address address refl))

-- ---- a span that does not count

-- what an item of a span posts of the space of the volume where the span does not count
abbrev nowhere_postings : Part → List Posting
nowhere_postings (ExtentPart item) = to (outside item.key.objectid) 0 1 ∷ []
nowhere_postings other = []

no_home : (o : Option Home) → is_some o ≡ false → o ≡ None
no_home None is = refl
no_home (Some home) is = absurd (cc)

-- an extent counts where it has a home
extent_counts : (context : Context) (of_data : Bool) (first bytes : ℕ) → bytes % 4096 ≡ 0 → first + bytes < 18446744073709551616
    → counts context (record { first = first; sectors = bytes / 4096; sort = Owned of_data }) (Owned of_data) ≡ is_some (home_of context first bytes)
extent_counts context of_data first bytes whole fits =
    let same = whole_sectors bytes whole in
    let less : bytes < 18446744073709551616 = omega (arith, fits) in
    (λ i. nat_lt (same i) 18446744073709551616 && is_some (home_of context first (same i)))
    ∙ (λ i. is_below bytes less i && is_some (home_of context first bytes))

extent_nowhere : (context : Context) (item : ExtentFields) → extent_bytes context.nodesize item % 4096 ≡ 0
    → item.key.objectid + extent_bytes context.nodesize item < 18446744073709551616
    → counts context (extent_span context.nodesize item) (Owned (is_data item)) ≡ false
    → place_postings (is_data item) item.key.objectid (extent_length context item) (home_of context item.key.objectid (extent_length context item))
    ≡ to (outside item.key.objectid) 0 1 ∷ []
extent_nowhere context item whole fits none =
    let x = item.key.objectid in
    let bytes = extent_bytes context.nodesize item in
    let gone : home_of context x bytes ≡ None =
    no_home (home_of context x bytes) (sym (extent_counts context (is_data item) x bytes whole fits) ∙ none) in
    ap (place_postings (is_data item) x bytes) gone

shown_nowhere : (s h f : Bool) (range : FileExtent) (o : Option Home) → (not f && is_some o) ≡ false
    → cond (s && (h && not f)) (shown_postings range o) [] ≡ []
shown_nowhere true true true range (Some home) is = refl
shown_nowhere true true false range (Some home) is = absurd (cc)
shown_nowhere true false f range (Some home) is = refl
shown_nowhere false h f range (Some home) is = refl
shown_nowhere s h f range None is = by (s && (h && not f))
  where
    none : List Posting
    none = []

    by : (b : Bool) → cond b none none ≡ none
    by true = refl
    by false = refl

range_nowhere : (context : Context) (tree : ℕ) (range : FileExtent) (span : Span) (b : Bool) → is_written range ≡ b
    → cond b (Some (shown_span tree range)) None ≡ Some span → counts context span span.sort ≡ false
    → space_postings context tree (FileExtentPart range) ≡ []
unfolding space_postings
range_nowhere context tree range span false written is none = absurd (cc)
range_nowhere context tree range span true written is none =
    shown_nowhere (range.sort == 1) (not (range.extent == 0)) (context.sum_free tree range.key.objectid) range
    (home_of context range.extent range.extent_length)
    (subst (λ (s : Span). counts context s s.sort ≡ false) (sym (one_span (shown_span tree range) span is)) none)

part_nowhere : (context : Context) (one : Located) (tree : ℕ) (part : Part) (span : Span) → IsLawfulIn context.nodesize one part
    → span_in context.nodesize tree part ≡ Some span → counts context span span.sort ≡ false
    → space_postings context tree part ≡ nowhere_postings part
unfolding space_postings
part_nowhere context one tree (ExtentPart item) span lawful is none =
    extent_nowhere context item lawful.whole lawful.fits
    (subst (λ (s : Span). counts context s s.sort ≡ false) (sym (one_span (extent_span context.nodesize item) span is)) none)
part_nowhere context one tree (FileExtentPart range) span lawful is none = range_nowhere context tree range span (is_written range) refl is none
part_nowhere context one tree (SumsPart item) span lawful is none =
    let never : true ≡ false = subst (λ (s : Span). counts context s s.sort ≡ false) (sym (one_span (sums_span item) span is)) none in
    absurd (cc)
part_nowhere context one tree part span lawful is none = absurd (cc)

-- an item whose span counts by neither of two contexts posts the same by both
pub same_nowhere : (before after : Context) (one : Located) (span : Span) → before.nodesize ≡ after.nodesize
    → IsLawfulIn before.nodesize one one.part → span_of before.nodesize one ≡ Some span
    → counts before span span.sort ≡ false → counts after span span.sort ≡ false → postings_of before one ≡ postings_of after one
same_nowhere before after one span size lawful is first second =
    ap (λ (ps : List Posting). extent_postings one.tree one.part ++ (inode_postings one.tree one.part ++ (dir_postings one.tree one.part ++ ps)))
    (part_nowhere before one one.tree one.part span lawful is first
    ∙ sym (part_nowhere after one one.tree one.part span (subst (λ (n : ℕ). IsLawfulIn n one one.part) size lawful)
    (subst (λ (n : ℕ). span_of n one ≡ Some span) size is) second))
