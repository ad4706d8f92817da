-- The items of an image: where they stand, and what their rows ask of them.
use Rattle.std.specs.Prelude.{◌≡◌, ℕ, List, Ok}
use Rattle.std.specs.List.{All, AllPairs, filter_map}
use Rattle.change_records.specs.Spans.{IsLawfulIn, StandApart}
use Rattle.records.specs.Part.{FitsPlace, IsLawful, Located}
use Rattle.tree_laws.specs.LivePairs.{Walked, walked}
use Rattle.tree_laws.specs.Unshared.{item_seen}

-- the items among the records of an image, in the order of its walks
abbrev pub items_of : Walked → List Located
items_of whole = filter_map item_seen whole.seen

-- No two items have one tree and key, and each keeps what its row asks, with tree blocks of so many bytes.
pub record ItemsStand (nodesize : ℕ) (items : List Located) : Type 0 where
  pub distinct : AllPairs StandApart items
  pub lawful : All (λ one. IsLawfulIn nodesize one one.part) items
  pub sound : All (λ one. IsLawful one.part) items
  pub places : All (λ one. FitsPlace one.tree one.key one.part) items

-- the items of an image whose walks have no finding stand
abbrev pub ItemsLaw : Type 0
ItemsLaw = (image : List ℕ) (whole : Walked) → walked image ≡ Ok whole → ItemsStand whole.sup.nodesize (items_of whole)
