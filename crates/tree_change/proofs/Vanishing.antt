-- What changes where a tree is gone, of the walk of the tree as it was.
use Rattle.std.proofs.Common.{◌≡◌, ℕ, ◌+◌, ◌≤◌, List, [], ◌++◌, length, map, Option, Some, None, Ok, Err, ap, sym, ◌∙◌, subst, arith}
use Rattle.std.specs.Prelude.{IfSome, Result}
use Rattle.std.specs.FinMap.{empty}
use Rattle.verdict.specs.Rules.{and_then}
use Rattle.verdict.specs.declared.finding.Finding.{Finding}
use Rattle.recon_disk.specs.declared.disk.Disk.{Ghosts}
use Rattle.write_cache.specs.Cache.{overlaid}
use Rattle.write_cache.proofs.CacheLaws.{overlaid-empty}
use Rattle.live_index.specs.Table.{pairs_of}
use Rattle.live_index.specs.declared.live.Live.{Live}
use Rattle.node_reader.specs.declared.expect.Expect.{Expect}
use Rattle.block_source.specs.Gives.{Gives}
use Rattle.block_source.specs.declared.halt.Halt.{Halt}
use Rattle.block_source.specs.declared.halt.Halt.TheVariants.{Found, Disk, NoMemory}
use Rattle.tree_change.specs.Gathered.{Gathers, gathers, located_item}
use Rattle.tree_change.specs.Making.{TellsParts, gone_in, parts_by}
use Rattle.tree_change.specs.Told.{known_by, side_with}
use Rattle.tree_change.specs.Walks.{gone_parts, no_walk, old_walk, pairs_at, parts_of}
use Rattle.tree_change.specs.declared.gather.Gathered.{Gathered}
use Rattle.tree_change.specs.declared.sides.Sides.{Sides}
use Rattle.tree_change.specs.declared.trees.TreeParts.{TreeParts}
use Rattle.tree_change.proofs.Adding.{parts_same}

-- the walk of the tree as it was
abbrev walk_of : {L : Type 0} → Sides L → Expect → List ℕ → Result Gathers Finding
walk_of sides e image = old_walk (known_by sides.known) [] (side_with sides.was image) e

-- nothing waits over the image as it was
bare : {L : Type 0} (sides : Sides L) (e : Expect) (image : List ℕ) → sides.was.cache.now ≡ empty
    → walk_of sides e image ≡ walk_of sides e (overlaid sides.was.cache.now 0 image)
bare sides e image none = ap (walk_of sides e) (sym (ap (λ waiting. overlaid waiting 0 image) none ∙ overlaid-empty 0 image))

-- the parts of that walk are those that are made
made_gone : {L : Type 0} (sides : Sides L) (made : TreeParts) (read : Gathered) (start : List Live) → start ≡ []
    → made.old_blocks.items ≡ start ++ pairs_at (pairs_of sides.table.now) read.blocks.items → made.new_blocks.items ≡ [] → made.shifted.items ≡ []
    → made.old_items.items ≡ read.items.items → made.new_items.items ≡ []
    → parts_of (pairs_of sides.table.now) no_walk (gathers read) ≡ parts_by made (length read.blocks.items)
made_gone sides made read start none blocks no_blocks no_moved items no_items =
    parts_same (sym (blocks ∙ ap (λ l. l ++ pairs_at (pairs_of sides.table.now) read.blocks.items) none)) (sym no_blocks) (sym no_moved)
    (ap (map located_item) (sym items)) (ap (map located_item) (sym no_items)) (omega arith)

-- what is made of the walk is what changes, at its reads
pub gone_ok : {L : Type 0} (told : Option (List ℕ)) (sides : Sides L) (e : Expect) (made : TreeParts) (read : Gathered) (before after : ℕ)
    (start : List Live) → sides.was.cache.now ≡ empty
    → IfSome told (λ image. walk_of sides e (overlaid sides.was.cache.now 0 image) ≡ Ok (gathers read))
    → IfSome told (λ _. after ≤ before + length read.blocks.items) → start ≡ []
    → made.old_blocks.items ≡ start ++ pairs_at (pairs_of sides.table.now) read.blocks.items → made.new_blocks.items ≡ [] → made.shifted.items ≡ []
    → made.old_items.items ≡ read.items.items → made.new_items.items ≡ []
    → IfSome told (λ image. (count : ℕ) × (gone_in sides e image ≡ Ok (parts_by made count)) × (after ≤ before + count))
unfolding gone_parts
gone_ok None sides e made read before after start none walks few no_start blocks no_blocks no_moved items no_items = tt
gone_ok (Some image) sides e made read before after start none walks few no_start blocks no_blocks no_moved items no_items = (
  length read.blocks.items,
  ap (λ walk. and_then walk (λ old. Ok (parts_of (pairs_of sides.table.now) no_walk old))) (bare sides e image none ∙ walks)
      ∙ ap Ok (made_gone sides made read start no_start blocks no_blocks no_moved items no_items),
  few,
)

-- a step that stops, stops with the finding of the walk
pub gone_halts : {D L : Type 0} (disk : Ghosts D) (before after : D) (sides : Sides L) (e : Expect) (halt : Halt) (result : Result TreeParts Halt)
    → result ≡ Err halt → sides.was.cache.now ≡ empty
    → Gives {A = Gathers} disk before sides.was.cache.now (Err halt) (walk_of sides e) → TellsParts disk before after result (gone_in sides e)
unfolding gone_parts
gone_halts disk before after sides e halt result is none gives =
    subst (λ r. TellsParts disk before after r (gone_in sides e)) (sym is) (by halt gives)
  where
    at : (finding : Finding) (told : Option (List ℕ))
        → IfSome told (λ image. walk_of sides e (overlaid sides.was.cache.now 0 image) ≡ Err finding)
        → IfSome told (λ image. gone_in sides e image ≡ Err finding)
    at finding None found = tt
    at finding (Some image) found =
        ap (λ walk. and_then walk (λ old. Ok (parts_of (pairs_of sides.table.now) no_walk old))) (bare sides e image none ∙ found)

    by : (h : Halt) → Gives {A = Gathers} disk before sides.was.cache.now (Err h) (walk_of sides e)
        → TellsParts disk before after (Err h) (gone_in sides e)
    by (Found finding) gives = at finding (disk.bytes before) gives
    by Disk gives = tt
    by NoMemory gives = tt
