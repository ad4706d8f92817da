-- The law of the shifted pairs of an image: the kept blocks that the walks of its trees meet give all of them.
use Rattle.std.specs.Prelude.{ℕ, ◌≡◌, ◌==◌, ◌&&◌, Bool, true, not, List, length}
use Rattle.std.specs.List.{AllByRecursion, filter, flat_map, list_any}
use Rattle.std.specs.Ordering.{nat_cmp}
use Rattle.std.specs.FinMap.{FinMap}
use Rattle.verdict.specs.OnDisk.{key_same}
use Rattle.write_cache.specs.Cache.{overlaid}
use Rattle.live_index.specs.Pairs.{Pairs}
use Rattle.live_index.specs.declared.live.Live.{Live}
use Rattle.touched_blocks.specs.Touched.{Written, written_in}
use Rattle.tree_laws.specs.Keeping.{AreListed, AreMarked, Marks, Under, anew_of, kept_of}
use Rattle.tree_laws.specs.LivePairs.{Walked, live_in, table_of}
use Rattle.tree_laws.specs.MovedLaw.{shifted_by}
use Rattle.tree_laws.specs.Shared.{are_alike, are_read_alike, is_shared}
use Rattle.tree_laws.specs.SharedLaw.{HasTrees, MarksTouched, moves_between}
use Rattle.tree_laws.specs.Skips.{Anew, Kept}
use Rattle.tree_laws.specs.Stops.{stops_of}
use Rattle.tree_laws.specs.TableLaw.{Tree}

-- whether the node above a pair or its greatest key is another than that of the alike one among these
abbrev pub is_shifted : List Live → Live → Bool
is_shifted before live = list_any (λ one. are_alike one live && not (one.parent == live.parent && key_same one.last live.last)) before

-- the pairs of the new image that are shared, and whose node above or greatest key was another
abbrev pub shifted_in : Walked → Walked → Written → ℕ → List Live
shifted_in old new written end =
    filter (λ live. is_shared old new written end live && is_shifted (live_in old.seen) live) (live_in new.seen)

-- just those blocks of an old tree are marked which moved, or which are above one that did; and the marked children are listed
pub record MovesListed (old new : Walked) (end : ℕ) (moving : Marks) (under : Under) (tree : Tree) : Type 0 where
  pub marks : AreMarked moving (moves_between old new end) old.sup tree.0 tree.1
  pub lists : AreListed under moving old.sup tree.0 tree.1

-- the shifted pairs of the kept blocks that the walk of a tree meets
abbrev pub shifted_met : Kept → Anew → Pairs → Walked → Tree → List Live
shifted_met kept anew pairs new tree = shifted_by pairs new.sup tree.0 (stops_of kept anew new.sup tree.0 tree.1)

-- Of an image with pending writes over it, the shared pairs that are shifted are those of the kept blocks that the walks of its trees
-- meet, where each old tree is marked and its moved children are listed, and the table has the old pairs.
abbrev pub ShiftedLaw : Type 0
ShiftedLaw = (image : List ℕ) (pending : FinMap nat_cmp ℕ) (old new : Walked) (before after : List Tree) (pairs : Pairs) (marked moving : Marks)
    (under : Under)
    → HasTrees image old before → HasTrees (overlaid pending 0 image) new after → are_read_alike old.sup new.sup ≡ true
    → ((tree address : ℕ) → pairs tree address ≡ table_of (live_in old.seen) tree address)
    → AllByRecursion (MarksTouched old (written_in pending) (length image) marked) before
    → AllByRecursion (MovesListed old new (length image) moving under) before
    → shifted_in old new (written_in pending) (length image)
    ≡ flat_map (shifted_met (kept_of pairs marked (moves_between old new (length image)) under) (anew_of under) pairs new) after
