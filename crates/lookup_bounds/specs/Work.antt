-- The measure of work: how much of two images is not shared, and what else that reaches; and the same of one image at a start. By it the
-- looks into an index are bounded.
use Rattle.std.specs.Prelude.{ℕ, zero, suc, ◌+◌, ◌==◌, ◌&&◌, ◌||◌, Bool, true, false, not, List, [], ◌∷◌, ◌++◌, length, Result, Ok, Err}
use Rattle.std.specs.List.{count_by, filter, list_any}
use Rattle.std.specs.Ordering.{nat_cmp}
use Rattle.std.specs.FinMap.{FinMap, contains_key, keys}
use Rattle.verdict.specs.declared.finding.Finding.{Finding}
use Rattle.accounts.specs.Context.{Context}
use Rattle.accounts.specs.Sums.{is_same}
use Rattle.accounts.specs.declared.postings.Posting.{Posting}
use Rattle.live_index.specs.declared.live.Live.{Live}
use Rattle.span_index.specs.Sectors.{has_sector}
use Rattle.span_index.specs.declared.span.Span.{Span}
use Rattle.records.specs.Context.{has_sum_free}
use Rattle.records.specs.Part.{Located}
use Rattle.records.specs.Postings.{all_postings, postings_of}
use Rattle.records.specs.SpacePostings.{is_to_sector}
use Rattle.change_records.specs.Affected.{context_with}
use Rattle.change_records.specs.Looks.{is_turned, spans_of}
use Rattle.write_cache.specs.Cache.{overlaid}
use Rattle.touched_blocks.specs.Touched.{written_in}
use Rattle.tree_laws.specs.LivePairs.{Walked, live_in, walked}
use Rattle.tree_laws.specs.Shared.{unshared_in}
use Rattle.tree_change.specs.Accepted.{unshared_old}
use Rattle.tree_change.specs.LooksLaw.{entries_of}
use Rattle.tree_change.specs.OneTree.{side_of}
use Rattle.commit_laws.specs.Items.{items_of}
use Rattle.commit_laws.specs.Same.{records_of}

-- the context of an image: its chunks, its size of a tree block, and the inodes whose data has no checksums
abbrev pub context_in : Walked → Context
context_in whole = context_with whole.chunks whole.sup.nodesize (has_sum_free (records_of whole))

-- whether two postings are the same, and two lists of them
abbrev pub is_same_posting : Posting → Posting → Bool
is_same_posting a b = is_same a.account b.account && (a.field == b.field && a.amount == b.amount)

unfoldable pub are_same_postings : List Posting → List Posting → Bool
are_same_postings [] [] = true
are_same_postings [] (b ∷ more) = false
are_same_postings (a ∷ others) [] = false
are_same_postings (a ∷ others) (b ∷ more) = is_same_posting a b && are_same_postings others more

-- whether an item posts otherwise in the context of another image
abbrev pub posts_otherwise : Context → Context → Located → Bool
posts_otherwise before after one = not (are_same_postings (postings_of before one) (postings_of after one))

-- whether an item stands in the leaf of one of some live pairs
abbrev pub stands_in : List Live → Located → Bool
stands_in lives one = list_any (λ live. live.tree == one.tree && live.address == one.block) lives

-- the items of an image that stand in the leaves of some of its pairs, and the others that post otherwise in another context
abbrev pub items_that_count : Context → Context → List Live → Walked → List Located
items_that_count before after lives whole = filter (λ one. stands_in lives one || posts_otherwise before after one) (items_of whole)

-- the pairs of the new image that it does not share with the old one
abbrev pub unshared_new : List ℕ → FinMap nat_cmp ℕ → Walked → Walked → List Live
unshared_new image pending old new = unshared_in old new (written_in pending) (length image) new

-- What the items of the blocks post that two images do not share, and the shared items that post otherwise: those of the old image by its
-- context, and those of the new one by its own.
unfoldable pub old_postings : List ℕ → FinMap nat_cmp ℕ → Walked → Walked → List Posting
old_postings image pending old new =
    all_postings (context_in old) (items_that_count (context_in old) (context_in new) (unshared_old image pending old new) old)

unfoldable pub new_postings : List ℕ → FinMap nat_cmp ℕ → Walked → Walked → List Posting
new_postings image pending old new =
    all_postings (context_in new) (items_that_count (context_in old) (context_in new) (unshared_new image pending old new) new)

-- whether one of some postings goes to a sector of a span
unfoldable pub has_named : List Posting → Span → Bool
has_named postings span = list_any (λ posting. is_to_sector posting && has_sector span posting.account.block) postings

-- whether one of the postings of either image does
abbrev pub is_met : List ℕ → FinMap nat_cmp ℕ → Walked → Walked → Span → Bool
is_met image pending old new = has_named (old_postings image pending old new ++ new_postings image pending old new)

-- the spans of an image's items
abbrev pub spans_in : Walked → List Span
spans_in whole = spans_of whole.sup.nodesize (items_of whole)

-- whether a file shows a span of an inode whose data has no checksums in one of two images alone
abbrev pub is_flagged : Walked → Walked → Span → Bool
is_flagged old new = is_turned (has_sum_free (records_of old)) (has_sum_free (records_of new))

-- whether a run of pending bytes begins at an offset: no byte is pending before it
abbrev pub begins_run : FinMap nat_cmp ℕ → ℕ → Bool
begins_run pending zero = true
begins_run pending (suc before) = not (contains_key pending before)

-- how many maximal runs pending bytes make
unfoldable pub runs_in : FinMap nat_cmp ℕ → ℕ
runs_in pending = count_by (begins_run pending) (keys pending)

-- how many pairs two images do not share, of both together, and how many pointers and items are in their blocks
unfoldable pub unshared_blocks : List ℕ → FinMap nat_cmp ℕ → Walked → Walked → ℕ
unshared_blocks image pending old new = length (unshared_old image pending old new) + length (unshared_new image pending old new)

unfoldable pub unshared_entries : List ℕ → FinMap nat_cmp ℕ → Walked → Walked → ℕ
unshared_entries image pending old new =
    entries_of (side_of image old) (unshared_old image pending old new)
    + entries_of (side_of (overlaid pending 0 image) new) (unshared_new image pending old new)

-- how many spans of either image pass a test
abbrev pub spans_where : Walked → Walked → (Span → Bool) → ℕ
spans_where old new test = count_by test (spans_in old) + count_by test (spans_in new)

-- The work of a commit: the pairs that the two images do not share; the pointers and items in their blocks; the postings of these items, and
-- of the shared items that post otherwise; the spans of either image with a sector to which one of these postings goes; those that a file
-- shows of an inode whose data has no checksums in one image alone; the maximal runs of the pending bytes; the chunks of both images; and
-- one.
unfoldable pub work_of : List ℕ → FinMap nat_cmp ℕ → Walked → Walked → ℕ
work_of image pending old new =
    unshared_blocks image pending old new
    + unshared_entries image pending old new
    + (length (old_postings image pending old new) + length (new_postings image pending old new))
    + spans_where old new (is_met image pending old new)
    + spans_where old new (is_flagged old new)
    + runs_in pending
    + (length old.chunks + length new.chunks)
    + 1

-- a measure over the walks of an image, none where they have a finding
abbrev pub by_walk : (Walked → ℕ) → Result Walked Finding → ℕ
by_walk measure (Ok whole) = measure whole
by_walk measure (Err finding) = 0

-- the work between an image and the same with pending writes over it
unfoldable pub work_between : List ℕ → FinMap nat_cmp ℕ → ℕ
work_between image pending =
    by_walk (λ old. by_walk (λ new. work_of image pending old new) (walked (overlaid pending 0 image))) (walked image)

-- The work of a start: the live pairs of an image, the pointers and items in their blocks, the postings of its items, its spans, its chunks,
-- and one.
unfoldable pub starting_work_of : List ℕ → Walked → ℕ
starting_work_of image whole =
    length (live_in whole.seen)
    + entries_of (side_of image whole) (live_in whole.seen)
    + length (all_postings (context_in whole) (items_of whole))
    + length (spans_in whole)
    + length whole.chunks
    + 1

unfoldable pub starting_work : List ℕ → ℕ
starting_work image = by_walk (starting_work_of image) (walked image)
