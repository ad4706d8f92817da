-- The laws of how few blocks the walks of a tree come to, by the pairs that change in it.
use Rattle.std.specs.Prelude.{ℕ, ◌≡◌, ◌≤◌, ◌<◌, ◌+◌, ◌*◌, ◌⊎◌, true, List, [], ◌∷◌, length, Option, IfSome, Ok}
use Rattle.std.specs.Ordering.{nat_cmp}
use Rattle.std.specs.FinMap.{FinMap}
use Rattle.live_index.specs.Pairs.{Pairs}
use Rattle.live_index.specs.declared.live.Live.{Live}
use Rattle.node_reader.specs.Stored.{stored_in}
use Rattle.node_reader.specs.declared.expect.Expect.{Expect}
use Rattle.tree_laws.specs.LivePairs.{Walked, live_in, table_of}
use Rattle.tree_laws.specs.Shared.{are_read_alike}
use Rattle.tree_laws.specs.SharedLaw.{HasTrees}
use Rattle.tree_laws.specs.TableLaw.{Tree}
use Rattle.tree_laws.specs.VisitsLaw.{entries_at}
use Rattle.tree_change.specs.Gathered.{Gathers}
use Rattle.tree_change.specs.Looks.{met_by, new_visits, old_visits}
use Rattle.tree_change.specs.OneTree.{IsAmong, IsTree, old_tree, side_of}
use Rattle.tree_change.specs.Stays.{Stays}
use Rattle.tree_change.specs.Walks.{Known, Parts, Side, gone_parts, old_or_none, old_walk, tree_parts}

-- how many entries the blocks of pairs have, as they are stored in an image
abbrev pub entries_of : Side → List Live → ℕ
entries_of side [] = 0
entries_of side (live ∷ lives) = entries_at (stored_in side.image side.chunks side.sup.nodesize) live.address + entries_of side lives

-- how many blocks are few, where those of these pairs are read: one, one for each of their entries, and seven for each of them
abbrev pub few_for : Side → List Live → ℕ
few_for side lives = 1 + entries_of side lives + 7 * length lives

-- the root of a tree is marked, or it moved, or a child is walked below it
abbrev pub IsRootTouched : Known → Expect → Type 0
IsRootTouched known now =
    (known.marked now.tree now.address ≡ true) ⊎ ((known.moved now.address ≡ true) ⊎ (0 < length (known.under now.tree now.address)))

-- The walks of a tree, of which these are the parts that change, come to few blocks: the new one by the new pairs, the old one by the old pairs.
-- No more blocks are met than the new one comes to, and as many old blocks are read as there are old pairs. Where the root is touched, a
-- new block is read. Unless blocks are read alike in both images and the tree stays, a new block is read or an old one.
pub record ComesToFew (image : List ℕ) (old : Walked) (pairs : Pairs) (is : Side) (known : Known) (before : Option Expect) (now : Expect)
    (parts : Parts) : Type 0 where
  pub new_few : new_visits known is now ≤ few_for is parts.new_blocks
  pub old_few : IfSome before (λ e. old_visits known (met_by known is now) (side_of image old) e ≤ few_for (side_of image old) parts.old_blocks)
  pub met_few : length (met_by known is now) ≤ new_visits known is now
  pub as_many : (read : Gathers) → old_or_none known (met_by known is now) (side_of image old) before ≡ Ok read
      → length read.blocks ≡ length parts.old_blocks
  pub reads_some : IsRootTouched known now → 1 ≤ length parts.new_blocks
  pub reads_one : now.parent ≡ 0 → (are_read_alike old.sup is.sup ≡ true → Stays pairs known before now → ⊥)
      → 1 ≤ length parts.old_blocks + length parts.new_blocks

-- so it is with each tree
abbrev pub TreeLooksLaw : Type 0
TreeLooksLaw = (image : List ℕ) (pending : FinMap nat_cmp ℕ) (old : Walked) (trees : List Tree) (pairs : Pairs) (is : Side) (known : Known)
    (before : Option Expect) (now : Expect) (parts : Parts)
    → IsTree image pending old trees pairs is known before now
    → now.level < 8 → IfSome before (λ e. e.level < 8)
    → tree_parts pairs known (side_of image old) is before now ≡ Ok parts → ComesToFew image old pairs is known before now parts

-- The walk of a tree that is gone comes to few blocks, by the old pairs. As many blocks are read as there are old pairs, and one at least.
pub record GoesByFew (image : List ℕ) (old : Walked) (known : Known) (before : Expect) (parts : Parts) : Type 0 where
  pub old_few : old_visits known [] (side_of image old) before ≤ few_for (side_of image old) parts.old_blocks
  pub as_many : (read : Gathers) → old_walk known [] (side_of image old) before ≡ Ok read → length read.blocks ≡ length parts.old_blocks
  pub reads_some : 1 ≤ length parts.old_blocks

-- so it is with each old tree
abbrev pub GoneLooksLaw : Type 0
GoneLooksLaw = (image : List ℕ) (old : Walked) (trees : List Tree) (pairs : Pairs) (known : Known) (before : Expect) (parts : Parts)
    → HasTrees image old trees → ((tree address : ℕ) → pairs tree address ≡ table_of (live_in old.seen) tree address)
    → IsAmong (old_tree image old before) trees → before.level < 8
    → gone_parts pairs known (side_of image old) before ≡ Ok parts → GoesByFew image old known before parts
