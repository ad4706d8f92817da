-- The greatest key of each block that a walk which keeps blocks comes to, behind all that is below it.
use Rattle.std.specs.Prelude.{ℕ, zero, suc, ◌-◌, ◌≡◌, ◌==◌, List, [], ◌∷◌, ◌++◌, Option, Some, None, IfSome, Result, Ok, Err, if◌then◌else◌}
use Rattle.verdict.specs.Rules.{no_key}
use Rattle.verdict.specs.declared.finding.Finding.{Finding}
use Rattle.verdict.specs.declared.key.Key.{Key}
use Rattle.verdict.specs.declared.place.Chunk.{Chunk}
use Rattle.write_cache.specs.Cache.{overlaid}
use Rattle.std.specs.Ordering.{nat_cmp}
use Rattle.std.specs.FinMap.{FinMap}
use Rattle.super_reader.specs.declared.Super.{Super}
use Rattle.node_reader.specs.Layout.{count_of, item_of}
use Rattle.node_reader.specs.Stored.{Stored, block_in, stored_in}
use Rattle.node_reader.specs.declared.expect.Expect.{Expect}
use Rattle.tree_laws.specs.declared.told.Ended.{Ended}
use Rattle.tree_laws.specs.Skips.{Anew, Kept, is_below, next_of}

-- the greatest key of each kept block, none where it is that of the last block that is walked below it
abbrev pub Lasts : Type 0
Lasts = Expect → Option Key

-- the blocks that the walk is done with, where they are held
abbrev pub Held : Type 0
Held = Option (List Ended)

-- these blocks behind those that are held
unfoldable pub with_ended : Held → List Ended → Held
with_ended None blocks = None
with_ended (Some held) blocks = Some (held ++ blocks)

-- blocks that a walk is done with, and the greatest key of the last
pub record Ends : Type 0 where
  pub blocks : List Ended
  pub last : Key

-- no blocks, where this was the greatest key so far
abbrev pub none_more : Key → Ends
none_more last = record { blocks = []; last = last }

-- blocks before others
abbrev pub before_ends : List Ended → Ends → Ends
before_ends blocks ends = record { blocks = blocks ++ ends.blocks; last = ends.last }

-- a block behind those below it
abbrev pub end_at : Expect → Key → List Ended → Ends
end_at e last below = record { blocks = below ++ (record { expect = e; last = last } ∷ []); last = last }

-- several blocks, one after the other, where this was the greatest key before them
abbrev pub each_ends : (Expect → Ends) → Key → List Expect → Ends
each_ends of last [] = none_more last
each_ends of last (e ∷ es) = before_ends (of e).blocks (each_ends of (of e).last es)

-- a key, where there is one, and else another
abbrev pub key_or : Option Key → Key → Key
key_or None other = other
key_or (Some key) other = key

-- the key of the last item of a leaf, (0, 0, 0) where it has none
unfoldable pub last_item : List ℕ → Key
last_item bytes = if count_of bytes == 0 then no_key else (item_of bytes (count_of bytes - 1)).key

-- the greatest key of what a block has itself: a node has no items
abbrev pub own_last : Expect → List ℕ → Key
own_last e bytes = if e.level == 0 then last_item bytes else no_key

-- a block that is read, behind its children
abbrev pub read_ends : Expect → (Key → List Expect → Ends) → Result (List ℕ) Finding → Ends
read_ends e below (Err finding) = none_more no_key
read_ends e below (Ok bytes) =
    let under = below (own_last e bytes) (next_of e bytes) in
    end_at e under.last under.blocks

-- A kept block, behind those that are walked below it. Where its greatest key is not below the high key, nothing is told.
abbrev pub ends_or : Lasts → Expect → Ends → Ends → Option Key → Ends
ends_or lasts e anew rest None = rest
ends_or lasts e anew rest (Some last) =
    if is_below last e.high then end_at e (key_or (lasts e) anew.last) anew.blocks else none_more no_key

-- a block that is expected and what is below it, where the blocks on the next level are given
abbrev pub ends_and : Kept → Anew → Lasts → (Key → List Expect → Ends) → Super → Stored → Expect → Ends
ends_and kept anew lasts below sup stored e =
    ends_or lasts e (below no_key (anew e)) (read_ends e below (block_in stored sup.fsid e)) (kept e)

-- the blocks on the level below this one, and what is below them
unfoldable pub ends_below : Kept → Anew → Lasts → ℕ → Super → Stored → Key → List Expect → Ends
ends_below kept anew lasts zero sup stored last next = none_more last
ends_below kept anew lasts (suc level) sup stored last next =
    each_ends (ends_and kept anew lasts (ends_below kept anew lasts level sup stored) sup stored) last next

-- the blocks that the walk is done with, each behind all below it
abbrev pub ends_of : Kept → Anew → Lasts → Super → Stored → Expect → Ends
ends_of kept anew lasts sup stored e = ends_and kept anew lasts (ends_below kept anew lasts e.level sup stored) sup stored e

-- the same in an image by a list of chunks
unfoldable pub ends_in : Kept → Anew → Lasts → Super → List Chunk → Expect → List ℕ → Ends
ends_in kept anew lasts sup chunks e image = ends_of kept anew lasts sup (stored_in image chunks sup.nodesize) e

-- where a disk tells its bytes, these blocks of the image that pending writes make of them stand behind those that were held
abbrev pub Holds : Option (List ℕ) → FinMap nat_cmp ℕ → Held → Held → (List ℕ → Ends) → Type 0
Holds told waiting old new ends = IfSome told (λ image. new ≡ with_ended old (ends (overlaid waiting 0 image)).blocks)

-- the same, and this is the greatest key of the last
abbrev pub HoldsLast : Option (List ℕ) → FinMap nat_cmp ℕ → Held → Held → Key → (List ℕ → Ends) → Type 0
HoldsLast told waiting old new last ends =
    IfSome told (λ image. (new ≡ with_ended old (ends (overlaid waiting 0 image)).blocks) × (last ≡ (ends (overlaid waiting 0 image)).last))
