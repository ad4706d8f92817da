-- What two images hold alike: all but the records of pairs that are not shared.
use Rattle.std.specs.Prelude.{◌≡◌, ℕ, List, ◌∷◌, ◌++◌, length, map, Ok}
use Rattle.std.specs.List.{filter_map}
use Rattle.std.specs.List.Sorted.{IsPermutation}
use Rattle.std.specs.Ordering.{nat_cmp}
use Rattle.std.specs.FinMap.{FinMap}
use Rattle.verdict.specs.Rules.{no_key}
use Rattle.write_cache.specs.Cache.{overlaid}
use Rattle.live_index.specs.declared.live.Live.{Live}
use Rattle.records.specs.Contents.{Contents, contents, root_items_in, super_record}
use Rattle.records.specs.Part.{Located}
use Rattle.records.specs.Part.Part.{BlockPart}
use Rattle.records.specs.Seen.{accounted}
use Rattle.tree_laws.specs.LivePairs.{Walked, walked}
use Rattle.tree_laws.specs.Shared.{unshared_in}
use Rattle.tree_laws.specs.Unshared.{items_in}
use Rattle.touched_blocks.specs.Touched.{written_in}

-- Two lists of records have the same ones, but for those that are gone from the first and those that came in the second.
pub record HoldSame (olds news gone came : List Located) : Type 0 where
  pub same : List Located
  pub old : IsPermutation olds (gone ++ same)
  pub new : IsPermutation news (came ++ same)

-- a live pair as accounts see its block: its address and its level
abbrev pub live_record : Live → Located
live_record live = record { tree = live.tree; block = live.address; key = no_key; part = BlockPart live.address live.level }

-- the records that accounts see of an image whose walks come to this
unfoldable pub records_of : Walked → List Located
records_of whole = super_record whole.sup ∷ filter_map accounted whole.seen

-- of these the superblock's, and those of some live pairs: of their blocks and of the items in their leaves
unfoldable pub records_at : List Live → Walked → List Located
records_at lives whole = super_record whole.sup ∷ (map live_record lives ++ items_in lives whole.seen)

-- what an image holds is what its walks come to
pub record HoldsWalked (image : List ℕ) (whole : Walked) (held : Contents) : Type 0 where
  pub sup : held.sup ≡ whole.sup
  pub chunks : held.chunks ≡ whole.chunks
  pub roots : root_items_in whole.sup whole.chunks image ≡ Ok held.roots
  pub records : held.records ≡ records_of whole

-- where the walks of an image have no finding, what the image holds is known
abbrev pub HeldLaw : Type 0
HeldLaw = (image : List ℕ) (whole : Walked) → walked image ≡ Ok whole
    → (held : Contents) × (contents image ≡ Ok held) × HoldsWalked image whole held

-- Of an image and the same with pending writes over it, the records are the same but for the superblock's and those of the pairs that are
-- not shared.
abbrev pub RecordsLaw : Type 0
RecordsLaw = (image : List ℕ) (pending : FinMap nat_cmp ℕ) (old new : Walked)
    → walked image ≡ Ok old → walked (overlaid pending 0 image) ≡ Ok new
    → HoldSame (records_of old) (records_of new)
    (records_at (unshared_in old new (written_in pending) (length image) old) old)
    (records_at (unshared_in old new (written_in pending) (length image) new) new)
