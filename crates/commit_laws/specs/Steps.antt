-- One step from the records of an image to those of the next.
use Rattle.std.specs.Prelude.{◌≡◌, ◌⊎◌, ℕ, Bool, true, false, List, [], ◌∷◌, ◌++◌, length, map, flat_map, Ok}
use Rattle.std.specs.List.{All, filter_map}
use Rattle.std.specs.List.Sorted.{IsPermutation}
use Rattle.std.specs.Ordering.{nat_cmp}
use Rattle.std.specs.FinMap.{FinMap}
use Rattle.accounts.specs.Context.{Context}
use Rattle.accounts.specs.declared.postings.Posting.{Posting}
use Rattle.change_records.specs.Affected.{context_with}
use Rattle.change_records.specs.Changes.{AreChanges}
use Rattle.change_records.specs.Refs.{is_named}
use Rattle.change_records.specs.Spans.{span_of}
use Rattle.change_records.specs.declared.changes.ItemChange.{ItemChange}
use Rattle.change_records.specs.declared.item_ref.ItemRef.{ItemRef}
use Rattle.records.specs.Contents.{super_record}
use Rattle.records.specs.DirPostings.{dir_postings}
use Rattle.records.specs.ExtentPostings.{extent_postings}
use Rattle.records.specs.InodePostings.{inode_postings}
use Rattle.records.specs.Part.{Located}
use Rattle.records.specs.Postings.{postings_of}
use Rattle.records.specs.SpacePostings.{rest_postings}
use Rattle.tree_laws.specs.LivePairs.{Walked, walked}
use Rattle.tree_laws.specs.Shared.{are_read_alike}
use Rattle.span_index.specs.declared.span.Span.{Span}
use Rattle.super_reader.specs.declared.Super.{Super}
use Rattle.touched_accounts.specs.Sums.{PostTheSame}
use Rattle.touched_blocks.specs.Touched.{written_in}
use Rattle.tree_change.specs.Change.{IsChange}
use Rattle.tree_change.specs.Gathered.{located_item}
use Rattle.tree_change.specs.declared.change.Change.{Change}
use Rattle.live_index.specs.declared.live.Live.{Live}
use Rattle.write_cache.specs.Cache.{overlaid}
use Rattle.commit_laws.specs.Items.{ItemsStand, items_of}
use Rattle.commit_laws.specs.Kept.{AreFound, kept_items, placed_postings}
use Rattle.commit_laws.specs.Paired.{anywhere, came_items, gone_items, name_of}
use Rattle.commit_laws.specs.Same.{live_record, records_of}

-- The records of an image and of the next: some are gone from the first and others came in the second. The rest are the same wherever they
-- stand, with tree blocks of one size: those that are found post otherwise in the new context, and have these names; the others post the same.
pub record IsStep (before after : Context) (olds news gone came : List Located) (refs : List ItemRef) : Type 0 where
  pub found : List Located
  pub staying : List Located
  pub others : List Located
  pub old : IsPermutation olds (gone ++ (found ++ staying))
  pub new : IsPermutation news (came ++ others)
  pub alike : map anywhere others ≡ map anywhere (found ++ staying)
  pub size : (before.nodesize ≡ after.nodesize) ⊎ (found ++ staying ≡ [])
  pub names : map name_of found ≡ refs
  pub same : All (λ one. postings_of before one ≡ postings_of after one) staying
  pub placed : All (λ one. (context : Context) → rest_postings context one.tree one.part ≡ placed_postings context (name_of one)) found

-- the records of the superblock, of some blocks and of some items
abbrev pub change_records : Super → List Live → List Located → List Located
change_records sup blocks items = super_record sup ∷ (map live_record blocks ++ items)

-- Between two images that are read alike the step is: the superblock's record, those of the blocks that are not shared, and those of the
-- items that changes name; the names of the kept items that post otherwise are found.
abbrev pub StepLaw : Type 0
StepLaw = (image : List ℕ) (pending : FinMap nat_cmp ℕ) (old new : Walked) (change : Change) (changes : List ItemChange) (refs : List ItemRef)
    (free fresh : ℕ → ℕ → Bool)
    → walked image ≡ Ok old → walked (overlaid pending 0 image) ≡ Ok new
    → ItemsStand old.sup.nodesize (items_of old) → ItemsStand new.sup.nodesize (items_of new)
    → IsChange old new (written_in pending) (length image) change → are_read_alike old.sup new.sup ≡ true
    → AreChanges change.old_items.items change.new_items.items changes
    → AreFound (context_with old.chunks old.sup.nodesize free) (context_with new.chunks old.sup.nodesize fresh)
    (kept_items (is_named change.old_items.items change.new_items.items changes) (items_of old)) refs
    → IsStep (context_with old.chunks old.sup.nodesize free) (context_with new.chunks new.sup.nodesize fresh) (records_of old) (records_of new)
    (change_records old.sup change.old_blocks.items (gone_items change.old_items.items changes))
    (change_records new.sup change.new_blocks.items (came_items change.new_items.items changes)) refs

-- between two images that are not read alike all records are gone, and all came
abbrev pub WholeStepLaw : Type 0
WholeStepLaw = (image : List ℕ) (pending : FinMap nat_cmp ℕ) (old new : Walked) (change : Change) (before after : Context)
    → walked image ≡ Ok old → walked (overlaid pending 0 image) ≡ Ok new
    → IsChange old new (written_in pending) (length image) change → are_read_alike old.sup new.sup ≡ false
    → IsStep before after (records_of old) (records_of new)
    (change_records old.sup change.old_blocks.items (map located_item change.old_items.items))
    (change_records new.sup change.new_blocks.items (map located_item change.new_items.items)) []

-- what a record posts but to sectors
abbrev pub posts_of : Context → Located → List Posting
posts_of context one =
    extent_postings one.tree one.part
    ++ (inode_postings one.tree one.part ++ (dir_postings one.tree one.part ++ rest_postings context one.tree one.part))

-- what records post but to sectors
unfoldable pub all_posts : Context → List Located → List Posting
all_posts context records = flat_map (posts_of context) records

-- the same of records, and what the context decides of some items
unfoldable pub step_posts : Context → List Located → List ItemRef → List Posting
step_posts context records refs = all_posts context records ++ flat_map (placed_postings context) refs

-- a step changes what is posted, but to sectors, by what is gone and what came
abbrev pub PostsLaw : Type 0
PostsLaw = (before after : Context) (olds news gone came : List Located) (refs : List ItemRef)
    → IsStep before after olds news gone came refs
    → PostTheSame (all_posts before olds) (all_posts after news) (step_posts before gone refs) (step_posts after came refs)

-- the spans of records, with tree blocks of so many bytes
unfoldable pub spans_of : ℕ → List Located → List Span
spans_of nodesize records = filter_map (span_of nodesize) records

-- Two lists of spans have the same ones, but for those that are gone from the first and those that came in the second.
pub record ShowTheSame (before after gone came : List Span) : Type 0 where
  pub same : List Span
  pub old : IsPermutation before (gone ++ same)
  pub new : IsPermutation after (came ++ same)

-- a step changes the spans by those of what is gone and what came
abbrev pub SpansLaw : Type 0
SpansLaw = (before after : Context) (olds news gone came : List Located) (refs : List ItemRef)
    → IsStep before after olds news gone came refs
    → ShowTheSame (spans_of before.nodesize olds) (spans_of after.nodesize news) (spans_of before.nodesize gone) (spans_of after.nodesize came)
