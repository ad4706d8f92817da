-- The table of an image's live pairs is narrow.
use Rattle.std.specs.Prelude.{ℕ, ◌≡◌, ◌<◌, List, Ok}
use Rattle.std.specs.List.{All}
use Rattle.live_index.specs.Pairs.{AreNarrow}
use Rattle.tree_laws.specs.LivePairs.{Walked, live_in, table_of, walked}

-- where the walks of an image have no finding, each of its bytes being one, the ids and addresses of its live pairs have 64 bits
abbrev pub NarrowLaw : Type 0
NarrowLaw = (image : List ℕ) (trees : Walked) → All (λ byte. byte < 256) image → walked image ≡ Ok trees → AreNarrow (table_of (live_in trees.seen))
