-- The stops of a walk that keeps blocks: the kept blocks that it meets.
use Rattle.std.specs.Prelude.{ℕ, zero, suc, ◌-◌, ◌==◌, Bool, List, [], ◌∷◌, Option, Some, None}
use Rattle.std.specs.List.{flat_map, list_any}
use Rattle.verdict.specs.declared.key.Key.{Key}
use Rattle.super_reader.specs.declared.Super.{Super}
use Rattle.node_reader.specs.Stored.{Stored, block_in}
use Rattle.node_reader.specs.declared.expect.Expect.{Expect}
use Rattle.records.specs.WalkLaw.{children_in}
use Rattle.tree_laws.specs.Skips.{Anew, Kept}

-- a block that is kept, before those below it
abbrev pub stops_or : Expect → List Expect → List Expect → Option Key → List Expect
stops_or e anew rest None = rest
stops_or e anew rest (Some last) = e ∷ anew

-- the kept blocks that the walk which keeps blocks comes to at a block and below it, where those on the next level are given
abbrev pub stops_and : Kept → Anew → (List Expect → List Expect) → Super → Stored → Expect → List Expect
stops_and kept anew below sup stored e =
    stops_or e (below (anew e)) (below (children_in (e.level - 1) e (block_in stored sup.fsid e))) (kept e)

-- the same of the blocks on the level below this one
unfoldable pub stops_below : Kept → Anew → ℕ → Super → Stored → List Expect → List Expect
stops_below kept anew zero sup stored next = []
stops_below kept anew (suc level) sup stored next =
    flat_map (stops_and kept anew (stops_below kept anew level sup stored) sup stored) next

-- the kept blocks that the walk which keeps blocks comes to
abbrev pub stops_of : Kept → Anew → Super → Stored → Expect → List Expect
stops_of kept anew sup stored e = stops_and kept anew (stops_below kept anew e.level sup stored) sup stored e

-- whether one of these blocks has an address
abbrev pub is_stop : List Expect → ℕ → Bool
is_stop stops address = list_any (λ e. e.address == address) stops
