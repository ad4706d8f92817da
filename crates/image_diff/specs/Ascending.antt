-- Root items that stand in the order of their keys.
use Rattle.std.specs.Prelude.{List, [], ◌∷◌}
use Rattle.std.specs.List.{AllByRecursion-prop}
use Rattle.volume_items.specs.declared.root_at.RootAt.{RootAt}
use Rattle.chunk_map.specs.Roots.{KeysAscend}
use mathlib.Core.Bool.{Bool-set}
use mathlib.Core.HLevel.{Unit-prop, ×_prop}

-- that they do is a fact with one proof at most
pub KeysAscend-prop : (roots : List RootAt) → IsProp (KeysAscend roots)
KeysAscend-prop [] = Unit-prop
KeysAscend-prop (root ∷ roots) = ×_prop (AllByRecursion-prop _ (λ later. Bool-set _ _) roots) (KeysAscend-prop roots)
