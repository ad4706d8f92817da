-- What changes in a tree, as it is made of its two walks, where the disk tells its bytes.
use Rattle.std.proofs.Common.{◌≡◌, ℕ, ◌+◌, ◌*◌, ◌≤◌, List, [], ◌++◌, length, ap, sym, ◌∙◌, Ok, Err, subst, arith}
use Rattle.std.specs.Prelude.{Option, Some, None, IfSome, Result}
use Rattle.std.specs.FinMap.{empty}
use Rattle.verdict.specs.Rules.{and_then}
use Rattle.verdict.specs.declared.finding.Finding.{Finding}
use Rattle.write_cache.specs.Cache.{overlaid}
use Rattle.write_cache.proofs.CacheLaws.{overlaid-empty}
use Rattle.recon_disk.specs.declared.disk.Disk.{Ghosts}
use Rattle.block_source.specs.Gives.{Gives}
use Rattle.block_source.specs.declared.halt.Halt.{Halt}
use Rattle.block_source.specs.declared.halt.Halt.TheVariants.{Found, Disk, NoMemory}
use Rattle.live_index.specs.Pairs.{Pairs}
use Rattle.live_index.specs.Table.{pairs_of}
use Rattle.live_index.specs.declared.live.Live.{Live}
use Rattle.node_reader.specs.declared.expect.Expect.{Expect}
use Rattle.tree_change.specs.Gathered.{Gathers}
use Rattle.tree_change.specs.Making.{TellsParts, is_side, parts_in, was_side}
use Rattle.tree_change.specs.Told.{known_by, side_with}
use Rattle.tree_change.specs.Walks.{Known, NewWalk, Parts, Side, lives_of, shifted_of, new_walk, old_or_none, pairs_at, parts_of, tree_parts}
use Rattle.tree_change.specs.declared.sides.Sides.{Sides}
use Rattle.tree_change.specs.declared.trees.TreeParts.{TreeParts}

-- both walks give what changes
both_give : (pairs : Pairs) (known : Known) (was is : Side) (before : Option Expect) (now : Expect) (new : NewWalk) (old : Gathers)
    → new_walk known is now ≡ Ok new → old_or_none known new.met was before ≡ Ok old
    → tree_parts pairs known was is before now ≡ Ok (parts_of pairs new old)
unfolding tree_parts
both_give pairs known was is before now new old a b =
    ap (λ walk. and_then walk (λ (n : NewWalk). and_then (old_or_none known n.met was before) (λ o. Ok (parts_of pairs n o)))) a
    ∙ ap (λ walk. and_then walk (λ o. Ok (parts_of pairs new o))) b

-- a finding of the new walk, and of the old one
new_found : (pairs : Pairs) (known : Known) (was is : Side) (before : Option Expect) (now : Expect) (finding : Finding)
    → new_walk known is now ≡ Err finding → tree_parts pairs known was is before now ≡ Err finding
unfolding tree_parts
new_found pairs known was is before now finding a =
    ap (λ walk. and_then walk (λ (n : NewWalk). and_then (old_or_none known n.met was before) (λ o. Ok (parts_of pairs n o)))) a

old_found : (pairs : Pairs) (known : Known) (was is : Side) (before : Option Expect) (now : Expect) (new : NewWalk) (finding : Finding)
    → new_walk known is now ≡ Ok new → old_or_none known new.met was before ≡ Err finding → tree_parts pairs known was is before now ≡ Err finding
unfolding tree_parts
old_found pairs known was is before now new finding a b =
    ap (λ walk. and_then walk (λ (n : NewWalk). and_then (old_or_none known n.met was before) (λ o. Ok (parts_of pairs n o)))) a
    ∙ ap (λ walk. and_then walk (λ o. Ok (parts_of pairs new o))) b

-- nothing is pending over the image as it was
pub was_plain : {L : Type 0} (sides : Sides L) (image : List ℕ) → sides.was.cache.now ≡ empty
    → side_with sides.was (overlaid sides.was.cache.now 0 image) ≡ was_side sides image
was_plain sides image none = ap (side_with sides.was) (ap (λ cache. overlaid cache 0 image) none ∙ overlaid-empty 0 image)

-- lists behind none are what is made
abbrev made_of : List Live → List Live → List Live → Gathers → Gathers → ℕ → Parts
made_of old_blocks new_blocks moved old new count = record {
  old_blocks = old_blocks;
  new_blocks = new_blocks;
  shifted = moved;
  old_items = old.items;
  new_items = new.items;
  count = count;
}

made_same : (a1 b1 a2 b2 a3 b3 : List Live) (old new : Gathers) (count : ℕ) → a1 ≡ b1 → a2 ≡ b2 → a3 ≡ b3
    → made_of a1 a2 a3 old new count ≡ made_of b1 b2 b3 old new count
made_same a1 b1 a2 b2 a3 b3 old new count x y z =
    ap (λ l. made_of l a2 a3 old new count) x ∙ ap (λ l. made_of b1 l a3 old new count) y ∙ ap (λ l. made_of b1 b2 l old new count) z

pub tree_told : {L : Type 0} (sides : Sides L) (told : Option (List ℕ)) (before : Option Expect) (now : Expect) (new : NewWalk) (old : Gathers)
    (old_blocks old_start new_blocks new_start moved moved_start : List Live) (first middle last : ℕ)
    → sides.was.cache.now ≡ empty
    → IfSome told (λ image. new_walk (known_by sides.known) (is_side sides image) now ≡ Ok new)
    → IfSome told (λ image. old_or_none (known_by sides.known) new.met (side_with sides.was (overlaid sides.was.cache.now 0 image)) before ≡ Ok old)
    → IfSome told (λ _. middle ≤ first + 2 * length new.read.blocks)
    → IfSome told (λ _. last ≤ middle + length old.blocks)
    → old_start ≡ [] → old_blocks ≡ old_start ++ pairs_at (pairs_of sides.table.now) old.blocks
    → new_start ≡ [] → moved_start ≡ []
    → (new_blocks ≡ new_start ++ lives_of new.ended new.read.blocks) × (moved ≡ moved_start ++ shifted_of (pairs_of sides.table.now) new.ended new.met)
    → IfSome told (λ image. (count : ℕ) × (parts_in sides before now image ≡ Ok (made_of old_blocks new_blocks moved old new.read count))
    × (last ≤ first + count))
tree_told sides None before now new old old_blocks old_start new_blocks new_start moved moved_start first middle last none new_is old_is few more a b c d e = tt
tree_told sides (Some image) before now new old old_blocks old_start new_blocks new_start moved moved_start first middle last none new_is old_is few more a b c d e =
    let old_walk : old_or_none (known_by sides.known) new.met (was_side sides image) before ≡ Ok old =
    subst (λ side. old_or_none (known_by sides.known) new.met side before ≡ Ok old) (was_plain sides image none) old_is in
    let pairs = pairs_of sides.table.now in
    let count = length old.blocks + 2 * length new.read.blocks in (
      count,
      both_give pairs (known_by sides.known) (was_side sides image) (is_side sides image) before now new old new_is old_walk
          ∙ ap fine (sym (made_same old_blocks (pairs_at pairs old.blocks) new_blocks (lives_of new.ended new.read.blocks) moved
          (shifted_of pairs new.ended new.met) old new.read count
          (b ∙ ap (λ l. l ++ pairs_at pairs old.blocks) a) (e.0 ∙ ap (λ l. l ++ lives_of new.ended new.read.blocks) c)
          (e.1 ∙ ap (λ l. l ++ shifted_of pairs new.ended new.met) d))),
      omega (arith, few, more),
    )
  where
    fine : Parts → Result Parts Finding
    fine parts = Ok parts

-- a step that stops in the walk of the tree as it is tells its finding
pub new_halts : {D L : Type 0} (disk : Ghosts D) (first last : D) (sides : Sides L) (before : Option Expect) (now : Expect) (halt : Halt)
    (result : Result TreeParts Halt) → result ≡ Err halt
    → Gives {A = NewWalk} disk first sides.is.cache.now (Err halt) (λ image. new_walk (known_by sides.known) (side_with sides.is image) now)
    → TellsParts disk first last result (parts_in sides before now)
new_halts disk first last sides before now halt result is gives =
    subst (λ r. TellsParts disk first last r (parts_in sides before now)) (sym is) (by halt gives)
  where
    at : (finding : Finding) (told : Option (List ℕ)) → IfSome told (λ image. new_walk (known_by sides.known) (is_side sides image) now ≡ Err finding)
        → IfSome told (λ image. parts_in sides before now image ≡ Err finding)
    at finding None walk = tt
    at finding (Some image) walk =
        new_found (pairs_of sides.table.now) (known_by sides.known) (was_side sides image) (is_side sides image) before now finding walk

    by : (h : Halt) → Gives {A = NewWalk} disk first sides.is.cache.now (Err h) (λ image. new_walk (known_by sides.known) (side_with sides.is image) now)
        → TellsParts disk first last (Err h) (parts_in sides before now)
    by (Found finding) gives = at finding (disk.bytes first) gives
    by Disk gives = tt
    by NoMemory gives = tt

-- a step that stops in the walk of the tree as it was tells its finding
pub before_halts : {D L : Type 0} (disk : Ghosts D) (first middle last : D) (sides : Sides L) (before : Option Expect) (now : Expect) (new : NewWalk)
    (halt : Halt) (result : Result TreeParts Halt) → result ≡ Err halt → disk.bytes middle ≡ disk.bytes first → sides.was.cache.now ≡ empty
    → IfSome (disk.bytes first) (λ image. new_walk (known_by sides.known) (is_side sides image) now ≡ Ok new)
    → Gives {A = Gathers} disk middle sides.was.cache.now (Err halt)
    (λ image. old_or_none (known_by sides.known) new.met (side_with sides.was image) before)
    → TellsParts disk first last result (parts_in sides before now)
before_halts disk first middle last sides before now new halt result is same none new_is gives =
    subst (λ r. TellsParts disk first last r (parts_in sides before now)) (sym is) (by halt gives)
  where
    at : (finding : Finding) (told other : Option (List ℕ)) → other ≡ told
        → IfSome told (λ image. new_walk (known_by sides.known) (is_side sides image) now ≡ Ok new)
        → IfSome other (λ image. old_or_none (known_by sides.known) new.met (side_with sides.was (overlaid sides.was.cache.now 0 image)) before ≡ Err finding)
        → IfSome told (λ image. parts_in sides before now image ≡ Err finding)
    at finding None other alike walk found = tt
    at finding (Some image) other alike walk found =
        let here =
        subst (λ o. IfSome o (λ i. old_or_none (known_by sides.known) new.met (side_with sides.was (overlaid sides.was.cache.now 0 i)) before ≡ Err finding))
        alike found in
        old_found (pairs_of sides.table.now) (known_by sides.known) (was_side sides image) (is_side sides image) before now new finding walk
        (subst (λ side. old_or_none (known_by sides.known) new.met side before ≡ Err finding) (was_plain sides image none) here)

    by : (h : Halt) → Gives {A = Gathers} disk middle sides.was.cache.now (Err h)
        (λ image. old_or_none (known_by sides.known) new.met (side_with sides.was image) before) → TellsParts disk first last (Err h) (parts_in sides before now)
    by (Found finding) gives = at finding (disk.bytes first) (disk.bytes middle) same new_is gives
    by Disk gives = tt
    by NoMemory gives = tt
