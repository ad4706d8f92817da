-- The looks of a start are bounded by its work.
use Rattle.std.proofs.Common.{◌≡◌, ℕ, ◌+◌, ◌-◌, ◌*◌, ◌^◌, ◌≤◌, Bool, not, List, [], ◌∷◌, ◌++◌, Option, Some, None, Ok, IfOk, IfSome, length, length-append, refl, ap, sym, ◌∙◌, subst, arith}
use Rattle.std.specs.FinMap.{FinMap, empty}
use Rattle.std.specs.List.{filter, filter_map, sum_by}
use Rattle.std.specs.Ordering.{nat_cmp}
use Rattle.std.proofs.lemmas.List.Sums.{count_by-le-length, length-filter, sum_by-cons}
use Rattle.lookup_bounds.proofs.PostingsCounted.{posts_less, filter_less}
use Rattle.account_tally.specs.Sums.{none_free}
use Rattle.accounts.specs.Context.{Context}
use Rattle.commit_laws.specs.Items.{items_of}
use Rattle.commit_laws.specs.Same.{records_of}
use Rattle.commit_laws.specs.Steps.{all_posts, posts_of, spans_of}
use Rattle.commit_laws.proofs.whole_commits.Named.{spans_are}
use Rattle.commit_laws.proofs.whole_commits.Spans.{same_sums}
use Rattle.change_records.specs.Affected.{context_with}
use Rattle.ledger_index.specs.Ledger as ledger
use Rattle.plain_check.specs.Opened.{Opened, opened}
use Rattle.records.specs.Contents.{super_record}
use Rattle.records.specs.Context.{has_sum_free}
use Rattle.records.specs.DirPostings.{dir_postings}
use Rattle.records.specs.ExtentPostings.{extent_postings}
use Rattle.records.specs.InodePostings.{inode_postings}
use Rattle.records.specs.Part.{Located}
use Rattle.records.specs.Postings.{all_postings, postings_of}
use Rattle.records.specs.Seen.{Seen, accounted, block_record}
use Rattle.records.specs.Seen.Seen.{BlockSeen, PointerSeen, ItemSeen}
use Rattle.records.specs.SpacePostings.{is_to_sector, space_postings}
use Rattle.records.specs.Walk.{Records}
use Rattle.records.specs.declared.rec.WalkedBlock.{WalkedBlock}
use Rattle.tree_laws.specs.LivePairs.{Walked, live_in, walked}
use Rattle.tree_laws.specs.Unshared.{item_seen}
use Rattle.span_index.specs.Sectors.{times_of_span}
use Rattle.span_index.specs.declared.span.Span.{Span}
use Rattle.super_reader.specs.declared.Super.{Super}
use Rattle.touched_accounts.specs.Looks.{HaveLooks}
use Rattle.tree_change.specs.LooksLaw.{entries_of}
use Rattle.tree_change.specs.OneTree.{side_of}
use Rattle.write_cache.specs.Cache.{overlaid}
use Rattle.lookup_bounds.specs.Work.{by_walk, context_in, spans_in, starting_work, starting_work_of}
use Rattle.commit_judge.specs.Filling.{AreFewToMake, AreTablesOf, AreTablesWith, FewToMake, FewToSearch}
use Rattle.commit_judge.specs.declared.filling.Tables.{Tables}
use Rattle.commit_judge.proofs.starts.Opened.{walked_with, walks_are}
use Rattle.commit_judge.proofs.starts.Ready.{all_alike, plain}

-- ---- postings

-- a block posts two, and the superblock one
of_block : (context : Context) (block : WalkedBlock) → length (posts_of context (block_record block)) ≡ 2
unfolding extent_postings inode_postings dir_postings space_postings
of_block context block = refl

of_super : (context : Context) (sup : Super) → length (posts_of context (super_record sup)) ≤ 1
unfolding extent_postings inode_postings dir_postings space_postings
of_super context sup = filter_less (λ posting. not (is_to_sector posting)) (space_postings context 0 (super_record sup).part)

posts_few : (context : Context) (seen : List Seen)
    → length (all_posts context (filter_map accounted seen)) ≤ 2 * length (live_in seen) + length (all_postings context (filter_map item_seen seen))
unfolding all_posts live_in
posts_few context [] = omega arith
posts_few context (BlockSeen block ∷ more) =
    let later = posts_few context more in
    let here = of_block context block in
    let both = length-append (posts_of context (block_record block)) (all_posts context (filter_map accounted more)) in
    omega (arith, later, here, both)
posts_few context (PointerSeen pointer ∷ more) = posts_few context more
posts_few context (ItemSeen one ∷ more) =
    let later = posts_few context more in
    let here = posts_less context one in
    let both = length-append (posts_of context one) (all_posts context (filter_map accounted more)) in
    let all = length-append (postings_of context one) (all_postings context (filter_map item_seen more)) in
    omega (arith, later, here, both, all)

records_few : (context : Context) (whole : Walked)
    → length (all_posts context (records_of whole)) ≤ 1 + 2 * length (live_in whole.seen) + length (all_postings context (items_of whole))
unfolding records_of all_posts
records_few context whole =
    let later = posts_few context whole.seen in
    let here = of_super context whole.sup in
    let both = length-append (posts_of context (super_record whole.sup)) (all_posts context (filter_map accounted whole.seen)) in
    omega (arith, later, here, both)

-- ---- spans

ones : (spans : List Span) → length spans ≡ sum_by (λ _. 1) spans
ones [] = refl
ones (span ∷ spans) = let rest = ones spans in let here = sum_by-cons {X = Span} (λ _. 1) span spans in omega (arith, rest, here)

same_count : (xs ys : List Span) → ((span : Span) → times_of_span xs span ≡ times_of_span ys span) → length xs ≡ length ys
same_count xs ys same = ones xs ∙ same_sums (λ _. 1) xs ys same ∙ sym (ones ys)

-- ---- the work

few_in_all : (before filled entries between after posts spans pairs inner postings chunks work : ℕ)
    → filled ≤ before + posts + spans → posts ≤ 1 + 2 * pairs + postings
    → between ≤ filled + pairs → work ≡ pairs + inner + postings + spans + chunks + 1
    → after ≤ between + spans + 6 + entries → after ≤ 2 ^ 64 - 1 → HaveLooks before entries filled → after ≤ before + 64 * work
few_in_all before filled entries between after posts spans pairs inner postings chunks work a b c d e f g = omega (arith, a, b, c, d, e, f, g)

work_is : (image : List ℕ) (whole : Walked) → walked image ≡ Ok whole → starting_work image ≡ starting_work_of image whole
unfolding starting_work
work_is image whole is = ap (by_walk (starting_work_of image)) is

work_parts : (image : List ℕ) (whole : Walked)
    → starting_work_of image whole
    ≡ length (live_in whole.seen) + entries_of (side_of image whole) (live_in whole.seen)
    + length (all_postings (context_in whole) (items_of whole)) + length (spans_in whole) + length whole.chunks + 1
unfolding starting_work_of
work_parts image whole = refl

few_looks : {L : Type 0} (image : List ℕ) (o : Opened) (more : List Seen) (tables : Tables L) (before between after : ℕ)
    → walked image ≡ Ok (walked_with o more)
    → AreTablesWith o more tables → AreFewToMake o more tables before between → FewToSearch tables between after
    → after ≤ before + 64 * starting_work image
unfolding records_of
few_looks image o more tables before between after walks filled made sought =
    let whole = walked_with o more in
    let records = records_of whole in
    let posts : length (all_posts (context_with o.chunks o.sup.nodesize none_free) records)
    ≡ length (all_posts (context_in whole) records) = ap length (all_alike o.chunks o.sup.nodesize none_free (has_sum_free records) records) in
    let few = records_few (context_in whole) whole in
    let spans : length (spans_of o.sup.nodesize records) ≡ length (spans_in whole) = ap length (spans_are o.sup.nodesize whole) in
    let found : length sought.spans ≡ length (spans_of o.sup.nodesize records) =
    same_count sought.spans (spans_of o.sup.nodesize records) (λ span. sought.times span ∙ filled.spans span) in
    few_in_all before made.between (ledger.entries_of tables.totals) between after
    (length (all_posts (context_with o.chunks o.sup.nodesize none_free) records)) (length (spans_in whole))
    (length (live_in whole.seen)) (entries_of (side_of image whole) (live_in whole.seen)) (length (all_postings (context_in whole) (items_of whole)))
    (length whole.chunks) (starting_work image)
    (let m = made.filled in omega (arith, m, spans)) (omega (arith, posts, few)) made.pairs (work_is image whole walks ∙ work_parts image whole)
    (let f = sought.few in omega (arith, f, found, spans)) sought.small made.entries

looks_at : {L : Type 0} (image : List ℕ) (o : Opened) (tables : Tables L) (before between after : ℕ)
    → opened image ≡ Ok o → AreTablesOf o image tables → FewToMake o image tables before between → FewToSearch tables between after
    → after ≤ before + 64 * starting_work image
looks_at image o tables before between after is filled made sought =
    few_looks image o filled.0 tables before between after (walks_are image o filled.0 is filled.1) filled.2
    (subst (λ (r : Records). IfOk r (λ more. AreFewToMake o more tables before between)) filled.1 made) sought

-- the same where the disk tells the same bytes once the image is open
pub looks_told : {L : Type 0} (told later : Option (List ℕ)) (m : FinMap nat_cmp ℕ) (o : Opened) (tables : Tables L) (before between after : ℕ)
    → later ≡ told → m ≡ empty
    → IfSome told (λ image. opened (overlaid m 0 image) ≡ Ok o)
    → IfSome later (λ image. AreTablesOf o (overlaid m 0 image) tables)
    → IfSome later (λ image. FewToMake o (overlaid m 0 image) tables before between)
    → FewToSearch tables between after
    → IfSome told (λ image. after ≤ before + 64 * starting_work image)
looks_told told later m o tables before between after same none is filled made sought =
    by told is (rw same at filled) (rw same at made)
  where
    by : (told : Option (List ℕ))
        → IfSome told (λ image. opened (overlaid m 0 image) ≡ Ok o)
        → IfSome told (λ image. AreTablesOf o (overlaid m 0 image) tables)
        → IfSome told (λ image. FewToMake o (overlaid m 0 image) tables before between)
        → IfSome told (λ image. after ≤ before + 64 * starting_work image)
    by None opens has few = tt
    by (Some image) opens has few =
        subst (λ (x : List ℕ). after ≤ before + 64 * starting_work x) (plain m image none)
        (looks_at (overlaid m 0 image) o tables before between after opens has few sought)
