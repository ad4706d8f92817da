-- Two lists of items by the changes between them: those that are gone, those that came, and those that are in both.
use Rattle.std.specs.Prelude.{◌≡◌, ℕ, zero, suc, Bool, true, false, List, [], ◌∷◌, ◌++◌, length, map, slice_get, Option, None}
use Rattle.std.specs.List.{All, filter_map}
use Rattle.std.specs.List.Sorted.{IsPermutation}
use Rattle.change_records.specs.Changes.{AreChanges, Ascend}
use Rattle.change_records.specs.Refs.{is_named, ref_to}
use Rattle.change_records.specs.declared.changes.ItemChange.{ItemChange}
use Rattle.change_records.specs.declared.changes.ItemChange.TheVariants.{Added, Altered, Removed}
use Rattle.change_records.specs.declared.item_ref.ItemRef.{ItemRef}
use Rattle.records.specs.Part.{Located}
use Rattle.records.specs.declared.rec.ItemAt.{ItemAt}
use Rattle.tree_change.specs.Gathered.{located_item}

-- the old item that a change takes away, and the new one that it brings, where it does
abbrev pub gone_of : List ItemAt → ItemChange → Option ItemAt
gone_of old (Added is) = None
gone_of old (Removed was) = slice_get old was
gone_of old (Altered was is) = slice_get old was

abbrev pub came_of : List ItemAt → ItemChange → Option ItemAt
came_of new (Added is) = slice_get new is
came_of new (Removed was) = None
came_of new (Altered was is) = slice_get new is

-- the old items that changes take away, and the new ones that they bring, in the order of the changes
unfoldable pub gone_items : List ItemAt → List ItemChange → List Located
gone_items old changes = map located_item (filter_map (gone_of old) changes)

unfoldable pub came_items : List ItemAt → List ItemChange → List Located
came_items new changes = map located_item (filter_map (came_of new) changes)

-- the changes that take away each of so many old items, and that bring each of so many new ones, counted from a place on
unfoldable pub removed_from : ℕ → ℕ → List ItemChange
removed_from at zero = []
removed_from at (suc n) = Removed at ∷ removed_from (suc at) n

unfoldable pub added_from : ℕ → ℕ → List ItemChange
added_from at zero = []
added_from at (suc n) = Added at ∷ added_from (suc at) n

-- all old items go, and all new ones come
abbrev pub all_changes : List ItemAt → List ItemAt → List ItemChange
all_changes old new = removed_from 0 (length old) ++ added_from 0 (length new)

-- Changes say what changes between two lists of items of images: all changes by tree and key where these are read alike, and else that all
-- old items go and all new ones come.
abbrev pub SayChanges : Bool → List ItemAt → List ItemAt → List ItemChange → Type 0
SayChanges true old new changes = AreChanges old new changes
SayChanges false old new changes = changes ≡ all_changes old new

-- the tree and the key of an item
abbrev pub name_of : Located → ItemRef
name_of one = ref_to one.tree one.key

-- an item wherever it stands: accounts and spans do not look at the block that it stands in
abbrev pub anywhere : Located → Located
anywhere one = record { tree = one.tree; block = 0; key = one.key; part = one.part }

-- Of two lists of items some are gone from the first and others came in the second; the rest are the same wherever they stand. Just those
-- that are gone or came are named.
pub record ArePaired (named : ItemRef → Bool) (olds news gone came : List Located) : Type 0 where
  pub old_rest : List Located
  pub new_rest : List Located
  pub old : IsPermutation olds (gone ++ old_rest)
  pub new : IsPermutation news (came ++ new_rest)
  pub same : map anywhere old_rest ≡ map anywhere new_rest
  pub gone_named : All (λ one. named (name_of one) ≡ true) gone
  pub came_named : All (λ one. named (name_of one) ≡ true) came
  pub rest_unnamed : All (λ one. named (name_of one) ≡ false) old_rest

-- all changes between two lists that ascend say what is gone and what came
abbrev pub PairedLaw : Type 0
PairedLaw = (old new : List ItemAt) (changes : List ItemChange) → Ascend old → Ascend new → AreChanges old new changes
    → ArePaired (is_named old new changes) (map located_item old) (map located_item new) (gone_items old changes) (came_items new changes)

-- where all go and all come, all old items are gone and all new ones came
abbrev pub AllChangesLaw : Type 0
AllChangesLaw = (old new : List ItemAt)
    → (gone_items old (all_changes old new) ≡ map located_item old) × (came_items new (all_changes old new) ≡ map located_item new)
