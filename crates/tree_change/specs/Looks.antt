-- How many looks into a table of live pairs may be counted for what changes in trees.
use Rattle.std.specs.Prelude.{ℕ, ◌+◌, ◌*◌, ◌≤◌, ◌==◌, ◌&&◌, not, Bool, true, false, List, [], ◌∷◌, length, Option, Some, None, Result, Ok, Err, IfSome, if◌then◌else◌}
use Rattle.std.specs.List.{list_any}
use Rattle.verdict.specs.OnDisk.{key_same}
use Rattle.verdict.specs.declared.finding.Finding.{Finding}
use Rattle.verdict.specs.declared.key.Key.{Key}
use Rattle.node_reader.specs.declared.expect.Expect.{Expect}
use Rattle.records.specs.Contents.{chunk_tree_root, root_tree_root, names, named_root}
use Rattle.volume_items.specs.declared.root_at.RootAt.{RootAt}
use Rattle.tree_laws.specs.Meeting.{met_in}
use Rattle.tree_laws.specs.OldSide.{kept_at}
use Rattle.tree_laws.specs.Visits.{visits_in}
use Rattle.tree_change.specs.AllTrees.{root_named}
use Rattle.tree_change.specs.Firsts.{first_copies}
use Rattle.tree_change.specs.Gathered.{Gathers}
use Rattle.tree_change.specs.Making.{MakesRoots, is_side, was_side}
use Rattle.tree_change.specs.Told.{known_by}
use Rattle.tree_change.specs.Walks.{Known, Parts, Side, kept_by, listed_by, old_or_none, old_walk}
use Rattle.tree_change.specs.declared.sides.Sides.{Sides}

-- where a disk tells its bytes, at most so many looks were counted
abbrev pub LooksAtMost : Option (List ℕ) → ℕ → ℕ → (List ℕ → ℕ) → Type 0
LooksAtMost told before after most = IfSome told (λ image. after ≤ before + most image)

-- how many blocks the walk of a tree as it is comes to
abbrev pub new_visits : Known → Side → Expect → ℕ
new_visits known is e = visits_in (kept_by known) (listed_by known) is.sup is.chunks e is.image

-- how many the walk of a tree as it was comes to, which stops at these blocks; none where the tree was not
abbrev pub old_visits : Known → List Expect → Side → Expect → ℕ
old_visits known stops was e =
    visits_in (kept_at known.pairs stops known.under) (listed_by known) was.sup (first_copies was.chunks) e was.image

abbrev pub old_visits_or : Known → List Expect → Side → Option Expect → ℕ
old_visits_or known stops was None = 0
old_visits_or known stops was (Some e) = old_visits known stops was e

-- the kept blocks that the walk of a tree as it is meets
abbrev pub met_by : Known → Side → Expect → List Expect
met_by known is e = met_in (kept_by known) (listed_by known) is.sup is.chunks e is.image

-- how many blocks a walk of a tree as it was reads
abbrev pub read_count : Result Gathers Finding → ℕ
read_count (Err finding) = 0
read_count (Ok old) = length old.blocks

-- The looks for a tree that is, and that was or was not: three for each block that one of its walks comes to, one for each block that is
-- read of the tree as it was, and one for each kept block that is met.
unfoldable pub tree_looks : Known → Side → Side → Option Expect → Expect → ℕ
tree_looks known was is before now =
    3 * new_visits known is now + 3 * old_visits_or known (met_by known is now) was before
    + read_count (old_or_none known (met_by known is now) was before) + length (met_by known is now)

-- the looks for a tree that is gone: three for each block that its walk comes to, and one for each block that it reads
unfoldable pub gone_looks : Known → Side → Expect → ℕ
gone_looks known was before = 3 * old_visits known [] was before + read_count (old_walk known [] was before)

-- whether two keys that may be there are the same
abbrev pub same_bound : Option Key → Option Key → Bool
same_bound None None = true
same_bound (Some a) (Some b) = key_same a b
same_bound one other = false

-- whether a block that may be there is expected just as another is
abbrev pub is_expected : Option Expect → Expect → Bool
is_expected None now = false
is_expected (Some e) now =
    (e.tree == now.tree && (e.address == now.address && (e.generation == now.generation && (e.level == now.level && e.parent == now.parent))))
    && (same_bound e.low now.low && same_bound e.high now.high)

-- Whether a tree stays by what is known of its root, so that it is not walked: blocks are kept by the old pairs, the root is the same as before,
-- it is not marked, it did not move, and no child is walked below it.
unfoldable pub stays_by : Bool → Known → Option Expect → Expect → Bool
stays_by is_same known before now =
    is_same && (is_expected before now
    && (not (known.marked now.tree now.address) && (not (known.moved now.address) && length (known.under now.tree now.address) == 0)))

-- the looks for the trees that are named now, where those that stay are not walked
unfoldable pub named_looks : Bool → Known → Side → Side → List RootAt → List RootAt → ℕ
named_looks is_same known was is olds [] = 0
named_looks is_same known was is olds (root ∷ roots) =
    if stays_by is_same known (root_named olds root.key.objectid) (named_root root) then named_looks is_same known was is olds roots
    else tree_looks known was is (root_named olds root.key.objectid) (named_root root) + named_looks is_same known was is olds roots

-- the looks for the trees that are gone: those that were named and are not now
unfoldable pub gone_all_looks : Known → Side → List RootAt → List RootAt → ℕ
gone_all_looks known was news [] = 0
gone_all_looks known was news (root ∷ olds) =
    if list_any (names root.key.objectid) news then gone_all_looks known was news olds
    else gone_looks known was (named_root root) + gone_all_looks known was news olds

-- the same, of two sides
abbrev pub looks_in : {L : Type 0} → Sides L → Option Expect → Expect → List ℕ → ℕ
looks_in sides before now image = tree_looks (known_by sides.known) (was_side sides image) (is_side sides image) before now

abbrev pub named_looks_in : {L : Type 0} → Sides L → List RootAt → List RootAt → List ℕ → ℕ
named_looks_in sides olds news image = named_looks sides.is_same (known_by sides.known) (was_side sides image) (is_side sides image) olds news

abbrev pub gone_looks_in : {L : Type 0} → Sides L → Expect → List ℕ → ℕ
gone_looks_in sides before image = gone_looks (known_by sides.known) (was_side sides image) before

abbrev pub gone_all_looks_in : {L : Type 0} → Sides L → List RootAt → List RootAt → List ℕ → ℕ
gone_all_looks_in sides news olds image = gone_all_looks (known_by sides.known) (was_side sides image) news olds

-- the looks for the chunk tree, and for the root tree
abbrev pub chunk_looks_in : {L : Type 0} → Sides L → List ℕ → ℕ
chunk_looks_in sides image = looks_in sides (Some (chunk_tree_root sides.was.sup.now)) (chunk_tree_root sides.is.sup.now) image

abbrev pub root_looks_in : {L : Type 0} → Sides L → List ℕ → ℕ
root_looks_in sides image = looks_in sides (Some (root_tree_root sides.was.sup.now)) (root_tree_root sides.is.sup.now) image

-- the looks for all trees but the chunk tree, where these are the new roots
abbrev pub other_looks_in : {L : Type 0} → Sides L → List RootAt → List RootAt → List ℕ → ℕ
other_looks_in sides olds roots image =
    root_looks_in sides image + named_looks_in sides olds roots image + gone_all_looks_in sides roots olds image

-- where a disk tells its bytes, at most so many looks were counted for these, by the roots that the root tree gives
abbrev pub OthersLookAtMost : {L : Type 0} → Option (List ℕ) → ℕ → ℕ → Sides L → List RootAt → Type 0
OthersLookAtMost told before after sides olds =
    IfSome told (λ image. (parts : Parts) × (roots : List RootAt) × MakesRoots sides olds image parts roots
    × (after ≤ before + other_looks_in sides olds roots image))
