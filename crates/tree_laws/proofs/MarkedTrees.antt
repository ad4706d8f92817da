-- The marks on the trees of an image, by the table of its live pairs; and a chunk holds each of their blocks.
use Rattle.std.proofs.Common.{◌≡◌, ℕ, ◌==◌, Bool, true, false, ◌&&◌, List, [], ◌∷◌, ◌++◌, length, refl, ap, sym, subst, ◌∙◌, if◌then◌else◌}
use Rattle.std.proofs.lemmas.Bool.{eqb-true}
use Rattle.std.specs.Prelude.{Option, Some, None, Ok, Err, is_some, map}
use Rattle.std.specs.List.{AllByRecursion}
use Rattle.verdict.proofs.Lists.{all_map as each_map}
use Rattle.verdict.proofs.Truth.{and_parts}
use Rattle.verdict.specs.Chunks.{home, place_in}
use Rattle.verdict.specs.Items.{is_multiple}
use Rattle.verdict.specs.declared.place.Chunk.{Chunk}
use Rattle.live_index.specs.Pairs.{Pairs}
use Rattle.live_index.specs.declared.live.Live.{Live}
use Rattle.node_reader.specs.Stored.{Stored, bytes_at, stored_in}
use Rattle.node_reader.specs.Stored.CopyFault.{NoPlace}
use Rattle.node_reader.specs.declared.expect.Expect.{Expect}
use Rattle.records.specs.WalkLaw.{visited}
use Rattle.touched_blocks.specs.Marking.{AreMarkedFrom}
use Rattle.touched_blocks.specs.Marks.{no_mark}
use Rattle.touched_blocks.specs.Moves.{held_and_moved, is_moved}
use Rattle.touched_blocks.specs.Spots.{at_address}
use Rattle.tree_laws.specs.Keeping.{AreMarked, Marks, Stands, live_at}
use Rattle.tree_laws.specs.LivePairs.{Walked, live_in, table_of}
use Rattle.tree_laws.specs.MarksLaw.{MarksLaw, MovesLaw}
use Rattle.tree_laws.specs.TableLaw.{Tree}
use Rattle.tree_laws.proofs.Accepted.{accepts}
use Rattle.tree_laws.proofs.Climbing.{marks}
use Rattle.tree_laws.proofs.Forest.{all_lives, lives_all, lives_of, stands_as, tables_stand}
use Rattle.tree_laws.proofs.KeptImage.{IsOfImage, of_image}
use Rattle.tree_laws.proofs.Picking.{each_both, is_there, one_of, table_some}
use Rattle.tree_laws.proofs.Tables.{Any, any_each}
use Rattle.tree_laws.proofs.Trails.{trail_below, trail_of}
use Rattle.tree_laws.proofs.Treed.{trees_walk}
use Rattle.tree_laws.proofs.Visiting.{Visits, comes_from, visits_from, visits_map}
use Rattle.tree_laws.proofs.Within.{Below, within}

-- pairs that may be marked are those that must be
both_from : (pairs : Pairs) (must may marked : Marks)
    → ((tree address : ℕ) → is_some (pairs tree address) ≡ true → may tree address ≡ true → must tree address ≡ true)
    → AreMarkedFrom pairs must may no_mark marked → AreMarkedFrom pairs may may no_mark marked
both_from pairs must may marked fit from = record {
  kept = from.kept;
  closed = from.closed;
  found = λ tree address t a is some. from.found tree address t a (fit tree address some is) some;
  only = from.only;
}

pub marks_image : MarksLaw
marks_image image whole trees pairs must may marked are has pairs_are fit from =
    let table = table_of (live_in whole.seen) in
    let walk = trees_walk image whole trees has in
    each_map (λ (tree : Tree). Stands table whole.sup tree.0 tree.1)
    (λ tree. AreMarked marked (may tree.1.tree) whole.sup tree.0 tree.1) trees
    (λ tree stands. marks pairs may may marked whole.sup tree.0 tree.1
    (stands_as whole.sup tree table pairs (pairs_are tree.1.tree) stands) are (λ address some is. is)
    (both_from pairs must may marked fit from))
    (tables_stand whole.sup trees whole.seen walk.0 walk.1)

-- a chunk holds a block that is stored
pub held_if : (image : List ℕ) (chunks : List Chunk) (n address : ℕ) (bytes : List ℕ) → stored_in image chunks n address ≡ Ok bytes
    → is_some (home chunks address n) ≡ true
unfolding stored_in
held_if image chunks n address bytes is = by (is_multiple address) (home chunks address n) is
  where
    by : (b : Bool) (chunk : Option Chunk)
        → (if b then bytes_at n image (place_in chunk address n (length image)) else Err NoPlace) ≡ Ok bytes → is_some chunk ≡ true
    by false chunk is = absurd (cc)
    by true None is = absurd (cc)
    by true (Some chunk) is = refl

-- a chunk holds each block of an image's trees
module _ (image : List ℕ) (whole : Walked) where
  abbrev pub is_held : ℕ → Bool
  is_held address = is_some (home whole.chunks address whole.sup.nodesize)

  abbrev pub IsHeld : Live → Type 0
  IsHeld live = is_held live.address ≡ true

  held_lives : (stored : Stored) (es : List Expect) → AllByRecursion (λ v. is_held v.address ≡ true) es
      → AllByRecursion IsHeld (map (live_at whole.sup stored) es)
  held_lives stored [] all = tt
  held_lives stored (e ∷ es) all = (all.0, held_lives stored es all.1)

  held_append : (xs ys : List Live) → AllByRecursion IsHeld xs → AllByRecursion IsHeld ys → AllByRecursion IsHeld (xs ++ ys)
  held_append [] ys all more = more
  held_append (x ∷ xs) ys all more = (all.0, held_append xs ys all.1 more)

  held_tree : (table : Pairs) (tree : Tree) → Stands table whole.sup tree.0 tree.1 → IsOfImage image whole tree
      → AllByRecursion IsHeld (lives_of whole.sup tree)
  held_tree table tree stands is =
      let A = Any whole.sup tree.0 in
      let any : Visits A (trail_of whole.sup tree.0 tree.1) =
      visits_from A whole.sup tree.0 tree.1
      (record { fine = stands.each.fine; each = any_each whole.sup tree.0 (visited whole.sup tree.0 tree.1) }) in
      held_lives tree.0 (visited whole.sup tree.0 tree.1)
      (comes_from (λ v. is_held v.address ≡ true) whole.sup tree.0 tree.1
      (visits_map (Below A whole.sup tree.0) (λ v. is_held v.address ≡ true) (trail_of whole.sup tree.0 tree.1)
      (λ v below. by v below) (within A whole.sup tree.0 tree.1 any))).each
    where
      by : (v : Expect) → Below (Any whole.sup tree.0) whole.sup tree.0 v → is_held v.address ≡ true
      by v below =
          let a = accepts (Any whole.sup tree.0) (trail_below v.level whole.sup tree.0) whole.sup tree.0 v below in
          held_if image whole.chunks whole.sup.nodesize v.address a.bytes (ap (λ (stored : Stored). stored v.address) (sym is.stored) ∙ a.is)

  held_all : (table : Pairs) (trees : List Tree)
      → AllByRecursion (λ tree. Stands table whole.sup tree.0 tree.1 × IsOfImage image whole tree) trees
      → AllByRecursion IsHeld (all_lives whole.sup trees)
  held_all table [] all = tt
  held_all table (tree ∷ trees) all =
      held_append (lives_of whole.sup tree) (all_lives whole.sup trees) (held_tree table tree all.0.0 all.0.1) (held_all table trees all.1)

  held_entry : (lives : List Live) → AllByRecursion IsHeld lives → (id address : ℕ) (entry : Option Live) → table_of lives id address ≡ entry
      → is_some entry ≡ true → is_held address ≡ true
  held_entry lives all id address None is some = absurd (cc)
  held_entry lives all id address (Some one) is some =
      let pick = one_of IsHeld (is_there id address) lives all (table_some lives id address one is) in
      subst (λ a. is_held a ≡ true) (eqb-true pick.0.address address (and_parts (pick.0.tree == id) (pick.0.address == address) pick.2).1) pick.1

pub moves_image : MovesLaw
moves_image image whole trees pairs new end moving are has pairs_are from =
    let table = table_of (live_in whole.seen) in
    let walk = trees_walk image whole trees has in
    let held =
    held_all image whole table trees
    (each_both (λ (tree : Tree). Stands table whole.sup tree.0 tree.1) (IsOfImage image whole) trees
    (tables_stand whole.sup trees whole.seen walk.0 walk.1) (of_image image whole trees has)) in
    let lives = subst (AllByRecursion (IsHeld image whole)) (sym (lives_all whole.sup trees whole.seen walk.0 walk.1)) held in
    marks_image image whole trees pairs (at_address (held_and_moved whole.chunks new whole.sup.nodesize end))
    (at_address (is_moved whole.chunks new whole.sup.nodesize end)) moving are has pairs_are
    (λ tree address some moved.
    let here : is_held image whole address ≡ true =
    held_entry image whole (live_in whole.seen) lives tree address (table tree address) refl
    (ap (λ (entry : Option Live). is_some entry) (sym (pairs_are tree address)) ∙ some) in
    ap (λ b. b && is_moved whole.chunks new whole.sup.nodesize end address) here ∙ moved) from
