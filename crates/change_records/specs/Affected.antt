-- Which kept items post otherwise: items of the old image that no change names, and that post something else in the context of the new
-- one.
use Rattle.std.specs.Prelude.{◌≡◌, ℕ, Bool, true, false, List, Some}
use Rattle.std.specs.List.{Contains}
use Rattle.std.specs.List.Sorted.{IsStrictlySortedBy}
use Rattle.verdict.specs.declared.place.Chunk.{Chunk}
use Rattle.verdict.specs.declared.kinds.TheConstants.{METADATA_ITEM}
use Rattle.accounts.specs.Context.{Context, no_full}
use Rattle.live_index.specs.declared.live.Live.{Live}
use Rattle.live_index.specs.Pairs.{IsLeastFrom, Pairs}
use Rattle.records.specs.Part.{Located, Part}
use Rattle.records.specs.Part.Part.{ExtentPart}
use Rattle.records.specs.Postings.{postings_of}
use Rattle.records.specs.SpacePostings.{is_data}
use Rattle.change_records.specs.declared.item_ref.ItemRef.{ItemRef}
use Rattle.change_records.specs.Refs.{ref_cmp, ref_to}

-- the context of chunks, a size of tree blocks, and the inodes whose data has no checksums
abbrev pub context_with : List Chunk → ℕ → (ℕ → ℕ → Bool) → Context
context_with chunks nodesize sum_free = record { chunks = chunks; nodesize = nodesize; sum_free = sum_free; full = no_full }

-- the item of the tree block at an address: its level is that of a live pair there. Where there is no pair, the block has no name
abbrev pub NamesBlock : Pairs → ℕ → ItemRef → Type 0
NamesBlock pairs address at =
    (live : Live) × IsLeastFrom pairs address 0 (Some live) × (live.address ≡ address)
    × (at ≡ ref_to 2 (record { objectid = address; kind = METADATA_ITEM; offset = live.level }))

-- the name of an item: its tree and key; that of a tree block has its level from the live pairs
abbrev pub NamesIn : Pairs → Located → Part → ItemRef → Type 0
NamesIn pairs one (ExtentPart item) at =
    (is_data item ≡ true → at ≡ ref_to one.tree one.key) × (is_data item ≡ false → NamesBlock pairs item.key.objectid at)
NamesIn pairs one other at = at ≡ ref_to one.tree one.key

-- Of some items one has a name that no change names, and posts otherwise in another context.
pub record IsAffected (pairs : Pairs) (before after : Context) (is_changed : ItemRef → Bool) (items : List Located) (at : ItemRef) : Type 0 where
  pub one : Located
  pub among : Contains items one
  pub name : NamesIn pairs one one.part at
  pub kept : is_changed at ≡ false
  pub differs : postings_of before one ≡ postings_of after one → ⊥

-- These are all such items, by tree and key, none twice.
pub record AreAffected (pairs : Pairs) (before after : Context) (is_changed : ItemRef → Bool) (items : List Located) (refs : List ItemRef) : Type 0 where
  pub hold : (at : ItemRef) → Contains refs at → IsAffected pairs before after is_changed items at
  pub all : (at : ItemRef) → IsAffected pairs before after is_changed items at → Contains refs at
  pub ascend : IsStrictlySortedBy ref_cmp refs
