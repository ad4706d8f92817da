-- Where a tree begins, as its root item says it.
use Rattle.volume_items.specs.declared.root.RootItem.{RootItem}
use Rattle.volume_items.specs.declared.root_at.RootAt.{RootAt}

-- what a root item says of the root block of its tree
abbrev pub root_at : RootItem → RootAt
root_at root = record { key = root.key; address = root.bytenr; generation = root.generation; level = root.level }
