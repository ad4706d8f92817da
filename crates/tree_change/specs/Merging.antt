-- Lists that are merged of what was, without what is gone, and of what came, in order.
use Rattle.std.specs.Prelude.{◌≡◌, Bool, false, not, List, ◌++◌}
use Rattle.std.specs.List.{AllPairs, filter, filter_map}
use Rattle.std.specs.List.Sorted.{IsPermutation}
use Rattle.verdict.specs.declared.place.Chunk.{Chunk}
use Rattle.volume_items.specs.declared.root_at.RootAt.{RootAt}
use Rattle.records.specs.Part.{Located}
use Rattle.tree_laws.specs.MergedLaw.{begins_with, chunk_in, has_root_key, root_in}

-- a list has these, and none that comes before an earlier one
pub record IsSortedOf {A : Type 0} (before : A → A → Bool) (whole list : List A) : Type 0 where
  pub all : IsPermutation whole list
  pub ascends : AllPairs (λ a b. before b a ≡ false) list

-- the chunks among items
abbrev pub chunks_among : List Located → List Chunk
chunks_among items = filter_map (λ (one : Located). chunk_in one.part) items

-- where trees begin by the root items among items
abbrev pub roots_among : List Located → List RootAt
roots_among items = filter_map (λ (one : Located). root_in one.part) items

-- the old chunks, without those that begin where one is gone, and those that came
abbrev pub chunks_left : List Chunk → List Located → List Located → List Chunk
chunks_left old gone came = filter (λ chunk. not (begins_with (chunks_among gone) chunk)) old ++ chunks_among came

-- the old root items, without those of which the key is gone, and those that came
abbrev pub roots_left : List RootAt → List Located → List Located → List RootAt
roots_left old gone came = filter (λ root. not (has_root_key (roots_among gone) root)) old ++ roots_among came
