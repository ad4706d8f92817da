-- The kept blocks that a walk which keeps blocks meets.
use Rattle.std.specs.Prelude.{ℕ, zero, suc, ◌-◌, ◌≡◌, List, [], ◌∷◌, ◌++◌, Option, Some, None, IfSome, if◌then◌else◌}
use Rattle.std.specs.List.{flat_map}
use Rattle.verdict.specs.declared.key.Key.{Key}
use Rattle.verdict.specs.declared.place.Chunk.{Chunk}
use Rattle.write_cache.specs.Cache.{overlaid}
use Rattle.std.specs.Ordering.{nat_cmp}
use Rattle.std.specs.FinMap.{FinMap}
use Rattle.super_reader.specs.declared.Super.{Super}
use Rattle.node_reader.specs.Stored.{Stored, block_in, stored_in}
use Rattle.node_reader.specs.declared.expect.Expect.{Expect}
use Rattle.records.specs.WalkLaw.{children_in}
use Rattle.tree_laws.specs.Skips.{Anew, Kept, is_below}

-- the kept blocks that were met, in the order of the walk, where they are held
abbrev pub Met : Type 0
Met = Option (List Expect)

-- these blocks behind those that were met
unfoldable pub with_met : Met → List Expect → Met
with_met None blocks = None
with_met (Some met) blocks = Some (met ++ blocks)

-- A kept block, before those below it. Where its greatest key is not below the high key, the walk meets no kept block there.
abbrev pub met_or : Expect → List Expect → List Expect → Option Key → List Expect
met_or e anew rest None = rest
met_or e anew rest (Some last) = if is_below last e.high then e ∷ anew else []

-- the kept blocks that are met at a block and below it, where those on the next level are given
abbrev pub met_and : Kept → Anew → (List Expect → List Expect) → Super → Stored → Expect → List Expect
met_and kept anew below sup stored e = met_or e (below (anew e)) (below (children_in (e.level - 1) e (block_in stored sup.fsid e))) (kept e)

-- the same of the blocks on the level below this one
unfoldable pub met_below : Kept → Anew → ℕ → Super → Stored → List Expect → List Expect
met_below kept anew zero sup stored next = []
met_below kept anew (suc level) sup stored next = flat_map (met_and kept anew (met_below kept anew level sup stored) sup stored) next

-- the kept blocks that the walk meets
abbrev pub met_of : Kept → Anew → Super → Stored → Expect → List Expect
met_of kept anew sup stored e = met_and kept anew (met_below kept anew e.level sup stored) sup stored e

-- the same in an image by a list of chunks
unfoldable pub met_in : Kept → Anew → Super → List Chunk → Expect → List ℕ → List Expect
met_in kept anew sup chunks e image = met_of kept anew sup (stored_in image chunks sup.nodesize) e

-- where a disk tells its bytes, these blocks of the image that pending writes make of them stand behind those that were met
abbrev pub Meets : Option (List ℕ) → FinMap nat_cmp ℕ → Met → Met → (List ℕ → List Expect) → Type 0
Meets told waiting old new blocks = IfSome told (λ image. new ≡ with_met old (blocks (overlaid waiting 0 image)))
