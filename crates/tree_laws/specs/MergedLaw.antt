-- The items of a tree as it is: those that it had, without what is gone, and what came.
use Rattle.std.specs.Prelude.{ℕ, ◌≡◌, ◌==◌, nat_lt, Bool, true, not, is_some, List, [], ◌++◌, length, Option, Some, None, Ok}
use Rattle.std.specs.List.{AllPairs, filter, filter_map, fold, list_any}
use Rattle.std.specs.List.Sorted.{IsPermutation}
use Rattle.std.specs.Result.{IsOk}
use Rattle.verdict.specs.OnDisk.{key_below, key_same}
use Rattle.verdict.specs.Rules.{and_then, finding_or}
use Rattle.verdict.specs.declared.place.Chunk.{Chunk}
use Rattle.super_reader.specs.declared.Super.{Super}
use Rattle.volume_items.specs.ChunkRow.{chunk_of}
use Rattle.volume_items.specs.MapRules.{map_finding}
use Rattle.volume_items.specs.RootPlace.{root_at}
use Rattle.live_index.specs.Pairs.{Pairs}
use Rattle.live_index.specs.declared.live.Live.{Live}
use Rattle.node_reader.specs.Stored.{Stored}
use Rattle.node_reader.specs.declared.expect.Expect.{Expect}
use Rattle.records.specs.Contents.{chunk_map_in, chunk_records, root_items_in, root_records, roots_fault}
use Rattle.records.specs.Part.{Located, Part}
use Rattle.records.specs.Part.Part.{ChunkPart, RootPart}
use Rattle.records.specs.Seen.{Seen}
use Rattle.records.specs.Takes.{with_chunk, with_root}
use Rattle.records.specs.Walk.{walk_of}
use Rattle.records.specs.WalkLaw.{visited}
use Rattle.tree_laws.specs.Keeping.{AreMarked, AreUntouched, Comes, Marks, OneOf, Stands, Under, kept_of, live_at}
use Rattle.tree_laws.specs.OldSide.{TellsShared, kept_where}
use Rattle.tree_laws.specs.Shared.{are_alike}
use Rattle.tree_laws.specs.Skips.{Kept, nothing, unkept}
use Rattle.tree_laws.specs.Unshared.{item_seen}
use Rattle.volume_items.specs.declared.root_at.RootAt.{RootAt}

-- a list has these, each before all later ones
pub record IsInOrder {A : Type 0} (before : A → A → Bool) (whole list : List A) : Type 0 where
  pub all : IsPermutation whole list
  pub ascends : AllPairs (λ a b. before a b ≡ true) list

-- the items among records
abbrev pub items : List Seen → List Located
items records = filter_map item_seen records

-- whether one of some items has the key of this one
abbrev pub has_key_of : List Located → Located → Bool
has_key_of some item = list_any (λ (one : Located). key_same one.key item.key) some

-- whether an item stands before another in their tree
abbrev pub stands_before : Located → Located → Bool
stands_before a b = key_below a.key b.key

-- The items of the new records are those of the old ones, without those of which the key is gone, and those that came. Each stands before
-- all later ones, so that no other list is the merge.
abbrev pub AreMerged : List Seen → List Seen → List Seen → List Seen → Type 0
AreMerged olds gone come news =
    IsInOrder stands_before (filter (λ item. not (has_key_of (items gone) item)) (items olds) ++ items come) (items news)

-- A test tells which blocks a tree as it was and as it is share: alike pairs are shared alike, and a shared pair of the tree is alike to one
-- that the old walk comes to, and to one that the new walk does, and the same is stored at its address.
pub record AreShared (shared : Live → Bool) (sup : Super) (old new : Stored) (before root : Expect) : Type 0 where
  pub alike : (a b : Live) → are_alike a b ≡ true → shared a ≡ shared b
  pub was : (live : Live) → live.tree ≡ root.tree → shared live ≡ true
      → OneOf (λ v. are_alike live (live_at sup old v) ≡ true) (visited sup old before)
  pub is : (live : Live) → live.tree ≡ root.tree → shared live ≡ true
      → OneOf (λ v. are_alike live (live_at sup new v) ≡ true) (visited sup new root)
  pub stays : (live : Live) → live.tree ≡ root.tree → shared live ≡ true → new live.address ≡ old live.address

-- A test tells which blocks a tree as it was and as it is share. These are the records of its whole old walk and of its whole new one, which
-- have no finding, and those of the two without the records of shared blocks: what is gone, and what came.
pub record AreRead (shared : Live → Bool) (kept : Kept) (sup : Super) (old new : Stored) (before root : Expect)
    (olds news gone come : List Seen) : Type 0 where
  pub tree : root.tree ≡ before.tree
  pub both : AreShared shared sup old new before root
  pub was : walk_of sup old before ≡ Ok olds
  pub is : walk_of sup new root ≡ Ok news
  pub goes : unkept (kept_where shared sup old) nothing sup old before ≡ Ok gone
  pub keeps : Comes (λ v. is_some (kept v) ≡ shared (live_at sup new v)) sup new root
  pub comes : unkept kept nothing sup new root ≡ Ok come

-- the items of the whole new walk are merged of those of the whole old one, of what is gone and of what came
abbrev pub MergedLaw : Type 0
MergedLaw = (shared : Live → Bool) (kept : Kept) (sup : Super) (old new : Stored) (before root : Expect) (olds news gone come : List Seen)
    → AreRead shared kept sup old new before root olds news gone come → AreMerged olds gone come news

-- the blocks whose pairs pass a test are kept just where they pass it
abbrev pub KeptWhereLaw : Type 0
KeptWhereLaw = (shared : Live → Bool) (sup : Super) (stored : Stored) (root : Expect)
    → IsOk (walk_of sup stored root) → Comes (λ v. is_some (kept_where shared sup stored v) ≡ shared (live_at sup stored v)) sup stored root

-- Where a table stands for a tree as it was, just those of its blocks are marked which are touched or above a touched one, the same is stored
-- where no write touches a block and it did not move, and a test tells which blocks of the tree as it is are kept: it tells which blocks are
-- shared.
abbrev pub KnownSharedLaw : Type 0
KnownSharedLaw = (pairs : Pairs) (marked : Marks) (touched moved : ℕ → Bool) (under : Under) (shared : Live → Bool)
    (sup : Super) (old new : Stored) (before root : Expect)
    → root.tree ≡ before.tree → Stands pairs sup old before → AreMarked marked touched sup old before → AreUntouched touched moved old new
    → TellsShared shared (kept_of pairs marked moved under) sup new root → AreShared shared sup old new before root

-- the chunk of a chunk item, and where the tree of a root item begins
abbrev pub chunk_in : Part → Option Chunk
chunk_in (ChunkPart fields) = Some (chunk_of fields)
chunk_in other = None

abbrev pub root_in : Part → Option RootAt
root_in (RootPart root) = Some (root_at root)
root_in other = None

-- the chunks among records, and where trees begin by the root items
abbrev pub chunks_seen : List Seen → List Chunk
chunks_seen records = filter_map (λ (one : Located). chunk_in one.part) (items records)

abbrev pub roots_seen : List Seen → List RootAt
roots_seen records = filter_map (λ (one : Located). root_in one.part) (items records)

-- they are what is held after the records are taken
abbrev pub ListsSeenLaw : Type 0
ListsSeenLaw = (records : List Seen) → (fold with_chunk [] records ≡ chunks_seen records) × (fold with_root [] records ≡ roots_seen records)

-- the chunk map of an image is the chunks of its chunk tree, where the rules on the map keep
abbrev pub MapSeenLaw : Type 0
MapSeenLaw = (sup : Super) (array : List Chunk) (image : List ℕ)
    → chunk_map_in sup array image
    ≡ and_then (chunk_records sup array image) (λ records.
    and_then (finding_or (map_finding (chunks_seen records) array (length image)) (tt {0})) (λ _.
    Ok (chunks_seen records)))

-- the root items of an image are those of its root tree, where the rules on their list keep
abbrev pub RootsSeenLaw : Type 0
RootsSeenLaw = (sup : Super) (chunks : List Chunk) (image : List ℕ)
    → root_items_in sup chunks image
    ≡ and_then (root_records sup chunks image) (λ records.
    and_then (finding_or (roots_fault sup.compat_ro (roots_seen records)) (tt {0})) (λ _.
    Ok (roots_seen records)))

-- whether a chunk begins before another, and whether one of some begins where this one does
abbrev pub begins_before : Chunk → Chunk → Bool
begins_before a b = nat_lt a.start b.start

abbrev pub begins_with : List Chunk → Chunk → Bool
begins_with some chunk = list_any (λ (one : Chunk). one.start == chunk.start) some

-- the chunks of the new chunk tree are the old ones, without those that begin where one is gone, and those that came
abbrev pub ChunksMergedLaw : Type 0
ChunksMergedLaw = (shared : Live → Bool) (kept : Kept) (sup : Super) (old new : Stored) (before root : Expect) (olds news gone come : List Seen)
    → AreRead shared kept sup old new before root olds news gone come → root.tree ≡ 3
    → IsInOrder begins_before (filter (λ chunk. not (begins_with (chunks_seen gone) chunk)) (chunks_seen olds) ++ chunks_seen come) (chunks_seen news)

-- whether a root item stands before another, and whether one of some has the key of this one
abbrev pub root_before : RootAt → RootAt → Bool
root_before a b = key_below a.key b.key

abbrev pub has_root_key : List RootAt → RootAt → Bool
has_root_key some root = list_any (λ (one : RootAt). key_same one.key root.key) some

-- the root items of the new root tree are the old ones, without those of which the key is gone, and those that came
abbrev pub RootsMergedLaw : Type 0
RootsMergedLaw = (shared : Live → Bool) (kept : Kept) (sup : Super) (old new : Stored) (before root : Expect) (olds news gone come : List Seen)
    → AreRead shared kept sup old new before root olds news gone come → root.tree ≡ 1
    → IsInOrder root_before (filter (λ one. not (has_root_key (roots_seen gone) one)) (roots_seen olds) ++ roots_seen come) (roots_seen news)
