-- The root items of an image, by which its trees are found.
use Rattle.std.specs.Prelude.{◌≡◌, true, List, [], ◌∷◌}
use Rattle.std.specs.List.{AllByRecursion}
use Rattle.verdict.specs.OnDisk.{key_below}
use Rattle.volume_items.specs.declared.root_at.RootAt.{RootAt}

-- root items stand in the order of their keys, and no two have one key
abbrev pub KeysAscend : List RootAt → Type 0
KeysAscend [] = Unit {0}
KeysAscend (root ∷ roots) = AllByRecursion (λ later. key_below root.key later.key ≡ true) roots × KeysAscend roots
