-- What a record posts to a sector is what its span comes to there.
use Rattle.std.proofs.Common.{◌≡◌, ℕ, ◌+◌, ◌*◌, ◌/◌, ◌%◌, ◌<◌, ◌==◌, ◌&&◌, ◌||◌, Bool, true, false, not, cond, List, [], ◌∷◌, ◌++◌, length, map, refl, ap, sym, ◌∙◌, arith}
use Rattle.std.specs.Prelude.{Option, Some, None, is_some, nat_le, nat_lt}
use Rattle.std.specs.List.{AllByRecursion, cons_option, filter_map, sum_by}
use Rattle.std.proofs.lemmas.Bool.{eqb-true}
use Rattle.std.proofs.lemmas.Bool.Decides.{nat_tests}
use Rattle.std.proofs.lemmas.List.Elements.{recursion_from_All}
use Rattle.std.proofs.lemmas.List.Sums.{sum_by-cons}
use Rattle.verdict.proofs.Numbers.{whole_sectors, above_zero}
use Rattle.verdict.specs.Items.{is_multiple}
use Rattle.volume_items.specs.declared.chunk.Stripe.{Stripe}
use Rattle.fs_items.specs.declared.file_extent.FileExtent.{FileExtent}
use Rattle.accounts.specs.declared.account.Account.{Account}
use Rattle.accounts.specs.declared.context.Home.{Home}
use Rattle.accounts.specs.declared.postings.Posting.{Posting}
use Rattle.accounts.specs.Context.{Context, home_of}
use Rattle.accounts.specs.Kinds.{sector, stripe}
use Rattle.accounts.specs.Sums.{added, total_of}
use Rattle.accounts.proofs.Kept.{total_joined}
use Rattle.sector_runs.specs.declared.run.SectorUse.{SectorUse}
use Rattle.sector_runs.specs.declared.run.SectorUse.TheVariants.{Data, Block, Summed as SummedUse, Shown as ShownUse}
use Rattle.sector_runs.specs.Runs.{amount_in, amount_of, counts_in}
use Rattle.records.specs.Part.{IsLawful, Located, Part}
use Rattle.records.specs.Part.Part.{ChunkPart, ExtentPart, FileExtentPart, SumsPart}
use Rattle.records.specs.ExtentPostings.{extent_postings}
use Rattle.records.specs.InodePostings.{inode_postings}
use Rattle.records.specs.DirPostings.{dir_postings}
use Rattle.records.specs.SpacePostings.{extent_length, is_data, space_postings}
use Rattle.records.specs.SpacePostings.{sector_sum as posted_sum}
use Rattle.records.specs.Postings.{all_postings, postings_of}
use Rattle.records.proofs.SectorSums.{dir_none, extent_none, inode_none}
use Rattle.space_rules.specs.RunPostings.{owned_run, shown_run, where_home}
use Rattle.space_rules.proofs.Runs.{extent_sums, range_sums, sums_sums}
use Rattle.span_index.specs.declared.span.Span.{Span}
use Rattle.span_index.specs.declared.span.SpanSort.{SpanSort}
use Rattle.span_index.specs.declared.span.SpanSort.TheVariants.{Owned, Summed, Shown}
use Rattle.span_index.specs.Sectors.{adds, adds_to, counts, has_sector, sector_sum}
use Rattle.change_records.specs.Spans.{IsLawfulIn, extent_bytes, shown_span, span_in, span_of}
use Rattle.commit_laws.specs.Sectors.{SectorsLaw}
use Rattle.commit_laws.specs.Steps.{spans_of}
use Rattle.accounts.specs.Lent.{to}

-- ---- a run of sectors and the span of the same sectors

and_moved : (m a b : Bool) → (m && (a && b)) ≡ (a && (b && m))
and_moved true true true = refl
and_moved true true false = refl
and_moved true false b = refl
and_moved false true true = refl
and_moved false true false = refl
and_moved false false b = refl

pub same_rest : (first address : ℕ) → is_multiple first ≡ true → is_multiple address ≡ (first % 4096 == address % 4096)
same_rest first address begin =
    let whole : first % 4096 ≡ 0 = eqb-true (first % 4096) 0 begin in
    rw whole (grind (arith, nat_tests))

same_end : (first count : ℕ) → first + 4096 * count ≡ first + count * 4096
same_end first count = omega arith

same_sectors : (first count address : ℕ) → is_multiple first ≡ true
    → (is_multiple address && (nat_le first address && nat_lt address (first + 4096 * count)))
    ≡ (nat_le first address && (nat_lt address (first + count * 4096) && (first % 4096 == address % 4096)))
same_sectors first count address begin =
    and_moved (is_multiple address) (nat_le first address) (nat_lt address (first + 4096 * count))
    ∙ (λ i. nat_le first address && (nat_lt address (same_end first count i) && same_rest first address begin i))

abbrev span_at : ℕ → ℕ → SpanSort → Span
span_at first count sort = record { first = first; sectors = count; sort = sort }

run_adds : (context : Context) (used : SectorUse) (sort : SpanSort) (first count address field : ℕ)
    → is_multiple first ≡ true → counts context (span_at first count sort) sort ≡ true → counts_in used field ≡ adds_to sort field
    → amount_of (record { first = first; count = count; sort = used }) address field ≡ adds context address field (span_at first count sort)
unfolding amount_of adds
run_adds context used sort first count address field begin counted alike =
    (λ i. cond (same_sectors first count address begin i && alike i) 1 0)
    ∙ (λ i. cond (has_sector (span_at first count sort) address && (sym counted i && adds_to sort field)) 1 0)

no_count : (h c : Bool) → ◌≡◌ {A = ℕ} 0 (cond (h && (false && c)) 1 0)
no_count true c = refl
no_count false c = refl

run_none : (context : Context) (sort : SpanSort) (first count address field : ℕ) → counts context (span_at first count sort) sort ≡ false
    → 0 ≡ adds context address field (span_at first count sort)
unfolding adds
run_none context sort first count address field uncounted =
    no_count (has_sector (span_at first count sort) address) (adds_to sort field)
    ∙ (λ i. cond (has_sector (span_at first count sort) address && (sym uncounted i && adds_to sort field)) 1 0)

-- ---- one record

-- what a span adds, where there is one
abbrev pub adds_in : Context → ℕ → ℕ → Option Span → ℕ
adds_in context address field None = 0
adds_in context address field (Some span) = adds context address field span

owned_use : (of_data : Bool) (field : ℕ) → counts_in (cond of_data Data Block) field ≡ adds_to (Owned of_data) field
owned_use true field = refl
owned_use false field = or_none (field == 0)
  where
    or_none : (b : Bool) → b ≡ (b || false)
    or_none true = refl
    or_none false = refl

pub is_below : (n : ℕ) → n < 18446744073709551616 → nat_lt n 18446744073709551616 ≡ true
is_below n less = grind (arith, nat_tests)

extent_counts : (context : Context) (of_data : Bool) (first bytes : ℕ) (home : Option Home) → bytes % 4096 ≡ 0 → first + bytes < 18446744073709551616
    → home_of context first bytes ≡ home → counts context (span_at first (bytes / 4096) (Owned of_data)) (Owned of_data) ≡ is_some home
extent_counts context of_data first bytes home whole fits is =
    let same = whole_sectors bytes whole in
    let less : bytes < 18446744073709551616 = omega arith in
    (λ i. nat_lt (same i) 18446744073709551616 && is_some (home_of context first (same i)))
    ∙ (λ i. is_below bytes less i && is_some (is i))

extent_case : (context : Context) (of_data : Bool) (first bytes : ℕ) (home : Option Home) (address field : ℕ) → bytes % 4096 ≡ 0 → first + bytes < 18446744073709551616
    → is_multiple first ≡ true → home_of context first bytes ≡ home
    → amount_in (where_home home (owned_run of_data first bytes)) address field ≡ adds context address field (span_at first (bytes / 4096) (Owned of_data))
extent_case context of_data first bytes None address field whole fits begin is =
    run_none context (Owned of_data) first (bytes / 4096) address field (extent_counts context of_data first bytes None whole fits is)
extent_case context of_data first bytes (Some home) address field whole fits begin is =
    run_adds context (cond of_data Data Block) (Owned of_data) first (bytes / 4096) address field begin
    (extent_counts context of_data first bytes (Some home) whole fits is) (owned_use of_data field)

range_case : (context : Context) (tree : ℕ) (range : FileExtent) (address field : ℕ) (s h f : Bool) (place : Option Home)
    → (range.extent == 0) ≡ h → context.sum_free tree range.key.objectid ≡ f → home_of context range.extent range.extent_length ≡ place
    → IsLawful (FileExtentPart range)
    → amount_in (cond (s && (not h && not f)) (where_home place (shown_run range)) None) address field
    ≡ adds_in context address field (cond (s && not h) (Some (shown_span tree range)) None)
range_case context tree range address field true false false (Some home) hole free is lawful =
    run_adds context ShownUse (Shown tree range.key.objectid range.key.offset range.extent range.extent_length)
    (range.extent + range.offset) (range.length / 4096) address field (lawful (above_zero range.extent hole)).0
    (λ i. not (free i) && is_some (is i)) refl
range_case context tree range address field true false false None hole free is lawful =
    run_none context (Shown tree range.key.objectid range.key.offset range.extent range.extent_length)
    (range.extent + range.offset) (range.length / 4096) address field (λ i. not (free i) && is_some (is i))
range_case context tree range address field true false true place hole free is lawful =
    run_none context (Shown tree range.key.objectid range.key.offset range.extent range.extent_length)
    (range.extent + range.offset) (range.length / 4096) address field (λ i. not (free i) && is_some (is i))
range_case context tree range address field true true f place hole free is lawful = refl
range_case context tree range address field false h f place hole free is lawful = refl

stripes_none : (f : Stripe → Account) → ((x : Stripe) → (address field : ℕ) → added (to (f x) 0 1) (sector address) field ≡ 0) → (xs : List Stripe) (address field : ℕ)
    → total_of (map (λ x. to (f x) 0 1) xs) (sector address) field ≡ 0
unfolding total_of
stripes_none f none [] address field = refl
stripes_none f none (x ∷ xs) address field = let first = none x address field in let rest = stripes_none f none xs address field in omega (arith, first, rest)

stripe_none : (start devid physical bytes address field : ℕ) → added (to (stripe start devid physical bytes) 0 1) (sector address) field ≡ 0
unfolding added
stripe_none start devid physical bytes address field = refl

zero_more : (n : ℕ) → n ≡ 0 → 0 + n ≡ 0
zero_more n is = omega (arith, is)

-- what a record's postings to the accounts of space come to at a sector
space_adds : (context : Context) (one : Located) (tree : ℕ) (part : Part) (address field : ℕ) → IsLawfulIn context.nodesize one part → IsLawful part
    → posted_sum context tree part address field ≡ adds_in context address field (span_in context.nodesize tree part)
unfolding space_postings total_of added
space_adds context one tree (ExtentPart item) address field keeps lawful =
    extent_sums context tree item address field lawful
    ∙ extent_case context (is_data item) item.key.objectid (extent_bytes context.nodesize item) (home_of context item.key.objectid (extent_length context item))
    address field keeps.whole keeps.fits lawful refl
space_adds context one tree (FileExtentPart range) address field keeps lawful =
    range_sums context tree range address field lawful
    ∙ range_case context tree range address field (range.sort == 1) (range.extent == 0) (context.sum_free tree range.key.objectid)
    (home_of context range.extent range.extent_length) refl refl refl lawful
space_adds context one tree (SumsPart item) address field keeps lawful =
    sums_sums context tree item address field lawful
    ∙ run_adds context SummedUse Summed item.key.offset (length item.sums / 4) address field lawful.0 refl refl
space_adds context one tree (ChunkPart item) address field keeps lawful =
    zero_more _
    (stripes_none (λ (s : Stripe). stripe item.key.offset s.devid s.physical item.length)
    (λ s a f. stripe_none item.key.offset s.devid s.physical item.length a f) item.stripes address field)
space_adds context one tree other address field keeps lawful = refl

-- the sums of four families
pub four : (a b c d : List Posting) (account : Account) (field : ℕ)
    → total_of (a ++ (b ++ (c ++ d))) account field ≡ total_of a account field + (total_of b account field + (total_of c account field + total_of d account field))
four a b c d account field =
    total_joined a (b ++ (c ++ d)) account field
    ∙ ap (λ n. total_of a account field + n) (total_joined b (c ++ d) account field ∙ ap (λ n. total_of b account field + n) (total_joined c d account field))

-- of an account of kind 5 what a record posts is what it posts to the accounts of space
pub space_alone : (context : Context) (one : Located) (account : Account) → (account.kind == 5) ≡ true → (field : ℕ)
    → total_of (postings_of context one) account field ≡ total_of (space_postings context one.tree one.part) account field
space_alone context one account is field =
    let all = four (extent_postings one.tree one.part) (inode_postings one.tree one.part) (dir_postings one.tree one.part) (space_postings context one.tree one.part) account field in
    let first = extent_none one.tree one.part account field is in
    let second = inode_none one.tree one.part account field is in
    let third = dir_none one.tree one.part account field is in
    omega (arith, all, first, second, third)

-- what one sound record posts to a sector is what its span adds there
pub record_adds : (context : Context) (one : Located) (address field : ℕ) → IsLawfulIn context.nodesize one one.part × IsLawful one.part
    → total_of (postings_of context one) (sector address) field ≡ adds_in context address field (span_of context.nodesize one)
record_adds context one address field sound =
    space_alone context one (sector address) refl field
    ∙ space_adds context one one.tree one.part address field sound.0 sound.1

-- ---- all records

-- the sum over the spans of one record and of more
pub sum_more : (context : Context) (address field : ℕ) (span : Option Span) (spans : List Span)
    → sum_by (adds context address field) (cons_option span spans) ≡ adds_in context address field span + sum_by (adds context address field) spans
sum_more context address field None spans = let same : sum_by (adds context address field) spans ≡ 0 + sum_by (adds context address field) spans = omega arith in same
sum_more context address field (Some span) spans = sum_by-cons (adds context address field) span spans

-- what sound records post to a sector is what their spans come to there
pub sectors_by : (context : Context) (records : List Located) (address field : ℕ)
    → AllByRecursion (λ (one : Located). IsLawfulIn context.nodesize one one.part × IsLawful one.part) records
    → total_of (all_postings context records) (sector address) field ≡ sum_by (adds context address field) (filter_map (span_of context.nodesize) records)
unfolding total_of
sectors_by context [] address field sound = refl
sectors_by context (one ∷ more) address field sound =
    total_joined (postings_of context one) (all_postings context more) (sector address) field
    ∙ (λ i. record_adds context one address field sound.0 i + sectors_by context more address field sound.1 i)
    ∙ sym (sum_more context address field (span_of context.nodesize one) (filter_map (span_of context.nodesize) more))

pub sectors : SectorsLaw
unfolding sector_sum spans_of
sectors context records address field sound =
    sectors_by context records address field
    (recursion_from_All (λ (one : Located). IsLawfulIn context.nodesize one one.part × IsLawful one.part) records sound)
