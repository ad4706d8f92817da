-- What private functions say of where the tree of an id begins.
use Rattle.std.specs.Prelude.{ℕ, Option, Some, None, if◌then◌else◌}
use Rattle.std.specs.Ordering.{nat_cmp}
use Rattle.std.specs.BTreeMap as tree_map
use Rattle.node_reader.specs.declared.expect.Expect.{Expect}
use Rattle.records.specs.Contents.{named_root, names}
use Rattle.volume_items.specs.declared.root_at.RootAt.{RootAt}
use Rattle.tree_change.specs.declared.roots.Ids.{Ids}

-- what is expected of a root, where there is one
abbrev pub named_of : Option RootAt → Option Expect
named_of None = None
named_of (Some root) = Some (named_root root)

-- the root of the tree of an id
unfoldable pub named_in : Ids → ℕ → Option Expect
named_in ids id = named_of (tree_map.get nat_cmp ids.roots id)

-- the first of two that there is
abbrev pub or_named : Option Expect → Option Expect → Option Expect
or_named None later = later
or_named (Some e) later = Some e

-- roots by the ids of trees, with one more, which counts where none of its id is there
abbrev pub with_named : (ℕ → Option Expect) → RootAt → ℕ → Option Expect
with_named named root id = or_named (named id) (if names id root then Some (named_root root) else None)
