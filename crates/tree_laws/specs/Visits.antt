-- How many blocks a walk which keeps blocks comes to, and how many looks it may count for them.
use Rattle.std.specs.Prelude.{ℕ, zero, suc, ◌+◌, ◌*◌, ◌-◌, ◌==◌, ◌&&◌, ◌≤◌, Bool, false, List, [], ◌∷◌, Option, Some, None, IfSome, if◌then◌else◌}
use Rattle.verdict.specs.declared.key.Key.{Key}
use Rattle.verdict.specs.declared.place.Chunk.{Chunk}
use Rattle.write_cache.specs.Cache.{overlaid}
use Rattle.std.specs.Ordering.{nat_cmp}
use Rattle.std.specs.FinMap.{FinMap}
use Rattle.super_reader.specs.declared.Super.{Super}
use Rattle.live_index.specs.declared.live.Live.{Live}
use Rattle.node_reader.specs.Stored.{Stored, block_in, stored_in}
use Rattle.node_reader.specs.declared.expect.Expect.{Expect}
use Rattle.records.specs.WalkLaw.{children_in}
use Rattle.tree_laws.specs.Skips.{Anew, Kept, is_below}

-- whether a pair is at hand, and is that of the block that is expected
abbrev pub is_found : Option Live → Expect → Bool
is_found None e = false
is_found (Some live) e = live.address == e.address && live.tree == e.tree

-- the sum of a number of each of several blocks
abbrev pub visits_each : (Expect → ℕ) → List Expect → ℕ
visits_each of [] = 0
visits_each of (e ∷ es) = of e + visits_each of es

-- A block and those that are come to below it. Where a kept block's greatest key is not below the high key, it is counted alone.
abbrev pub visits_or : Expect → ℕ → ℕ → Option Key → ℕ
visits_or e anew rest None = suc rest
visits_or e anew rest (Some last) = if is_below last e.high then suc anew else 1

-- how many blocks the walk which keeps blocks comes to at a block and below it, where those on the next level are given
abbrev pub visits_and : Kept → Anew → (List Expect → ℕ) → Super → Stored → Expect → ℕ
visits_and kept anew below sup stored e =
    visits_or e (below (anew e)) (below (children_in (e.level - 1) e (block_in stored sup.fsid e))) (kept e)

-- the same of the blocks on the level below this one
unfoldable pub visits_below : Kept → Anew → ℕ → Super → Stored → List Expect → ℕ
visits_below kept anew zero sup stored next = 0
visits_below kept anew (suc level) sup stored next =
    visits_each (visits_and kept anew (visits_below kept anew level sup stored) sup stored) next

-- how many blocks the walk which keeps blocks reads or meets
abbrev pub visits_of : Kept → Anew → Super → Stored → Expect → ℕ
visits_of kept anew sup stored e = visits_and kept anew (visits_below kept anew e.level sup stored) sup stored e

-- the same in an image by a list of chunks
unfoldable pub visits_in : Kept → Anew → Super → List Chunk → Expect → List ℕ → ℕ
visits_in kept anew sup chunks e image = visits_of kept anew sup (stored_in image chunks sup.nodesize) e

-- where a disk tells its bytes, at most three looks were counted for each block that is come to in the image that pending writes make of them
abbrev pub LooksFew : Option (List ℕ) → FinMap nat_cmp ℕ → ℕ → ℕ → (List ℕ → ℕ) → Type 0
LooksFew told waiting before after visits = IfSome told (λ image. after ≤ before + 3 * visits (overlaid waiting 0 image))
