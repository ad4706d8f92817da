-- A tree that stays as it was, of which nothing is looked for.
use Rattle.std.specs.Prelude.{◌≡◌, false, List, [], Option, Some}
use Rattle.std.specs.List.{AllByRecursion}
use Rattle.live_index.specs.Pairs.{Pairs}
use Rattle.live_index.specs.declared.live.Live.{Live}
use Rattle.node_reader.specs.declared.expect.Expect.{Expect}
use Rattle.volume_items.specs.declared.root_at.RootAt.{RootAt}
use Rattle.tree_change.specs.Walks.{Known}
use Rattle.records.specs.Contents.{named_root}

-- Blocks are kept by the old pairs. The root of a tree is the same as before, it is not marked, it did not move, and no child is walked
-- below it.
pub record Stays (pairs : Pairs) (known : Known) (before : Option Expect) (now : Expect) : Type 0 where
  pub by_old : known.pairs ≡ pairs
  pub same : before ≡ Some now
  pub unmarked : known.marked now.tree now.address ≡ false
  pub unmoved : known.moved now.address ≡ false
  pub unlisted : known.under now.tree now.address ≡ []

-- a table has the pair of a root as it is expected: on its level, of its generation, and below the same node
pub record HasRoot (pairs : Pairs) (root : Expect) : Type 0 where
  pub live : Live
  pub pair : pairs root.tree root.address ≡ Some live
  pub level : live.level ≡ root.level
  pub generation : live.generation ≡ root.generation
  pub parent : live.parent ≡ root.parent

-- it has that of each root of a list
abbrev pub RootsStand : Pairs → List RootAt → Type 0
RootsStand pairs roots = AllByRecursion (λ root. HasRoot pairs (named_root root)) roots
