-- The items of the tree blocks of an accepted image.
use Rattle.std.specs.Prelude.{◌≡◌, ℕ, List, Ok}
use Rattle.std.specs.List.{Contains}
use Rattle.verdict.specs.declared.finding.Verdict.TheVariants.{Accept}
use Rattle.change_records.specs.Affected.{NamesIn}
use Rattle.change_records.specs.Refs.{ref_to}
use Rattle.change_records.specs.declared.item_ref.ItemRef.{ItemRef}
use Rattle.live_index.specs.Pairs.{Pairs}
use Rattle.records.specs.FullCheck.{full_check}
use Rattle.records.specs.Part.{Located}
use Rattle.tree_laws.specs.LivePairs.{Walked, live_in, table_of, walked}
use Rattle.commit_laws.specs.Items.{items_of}

-- an item has its tree and its key for its name, and no other name
pub record HasOwnName (pairs : Pairs) (one : Located) : Type 0 where
  pub own : NamesIn pairs one one.part (ref_to one.tree one.key)
  pub one_name : (at : ItemRef) → NamesIn pairs one one.part at → at ≡ ref_to one.tree one.key

-- In an accepted image, of which a table has the live pairs, each item has its own name: where it is that of a tree block, the block is
-- live, and its level is the one in the item's key.
abbrev pub BlocksLaw : Type 0
BlocksLaw = (image : List ℕ) (generation : ℕ) (whole : Walked) (pairs : Pairs) (one : Located)
    → full_check image ≡ Accept generation → walked image ≡ Ok whole
    → ((tree address : ℕ) → pairs tree address ≡ table_of (live_in whole.seen) tree address)
    → Contains (items_of whole) one → HasOwnName pairs one
