-- The marks on the old chunk tree, where the chunks of two system arrays are compared.
use Rattle.std.proofs.Common.{◌≡◌, ℕ, Bool, true, ◌&&◌, List, [], ◌∷◌, length, inl, inr, refl, ap, sym, subst, ◌∙◌}
use Rattle.std.specs.Prelude.{Option, Some, None, IfSome, Ok, is_some}
use Rattle.std.specs.List.{AllByRecursion, list_any}
use Rattle.std.specs.Result.{IsOk}
use Rattle.verdict.proofs.Lists.{all_map as each_map}
use Rattle.verdict.specs.Chunks.{home}
use Rattle.super_reader.specs.declared.Super.{Super}
use Rattle.live_index.specs.declared.live.Live.{Live}
use Rattle.node_reader.specs.Stored.{Stored, stored_in}
use Rattle.node_reader.specs.declared.expect.Expect.{Expect}
use Rattle.records.specs.Contents.{chunk_tree_root}
use Rattle.records.specs.Walk.{walk_of}
use Rattle.records.specs.WalkLaw.{visited}
use Rattle.touched_blocks.specs.Moves.{held_and_moved, is_moved}
use Rattle.touched_blocks.specs.OneTree.{in_tree}
use Rattle.tree_laws.specs.ArrayLaw.{IsAsByAll, chunk_tree_by, moves_by}
use Rattle.tree_laws.specs.ArrayMoves.{ArrayMovesLaw}
use Rattle.tree_laws.specs.Keeping.{AreMarked, IsKnown, Marks, OneOf, Stands, comes_to}
use Rattle.tree_laws.specs.LivePairs.{live_in, table_of}
use Rattle.tree_laws.specs.TableLaw.{trees_in}
use Rattle.tree_laws.proofs.Accepted.{accepts}
use Rattle.tree_laws.proofs.ArrayPlaces.{array_is, array_walk, as_by_all}
use Rattle.tree_laws.proofs.Climbing.{marks}
use Rattle.tree_laws.proofs.Forest.{stands_as, tables_stand}
use Rattle.tree_laws.proofs.MarkedTrees.{held_if}
use Rattle.tree_laws.proofs.Picking.{each_both}
use Rattle.tree_laws.proofs.Tables.{Any, any_each}
use Rattle.tree_laws.proofs.Trails.{trail_below, trail_of}
use Rattle.tree_laws.proofs.Treed.{chunk_tree, has_trees, steps_of, trees_walk}
use Rattle.tree_laws.proofs.Visiting.{Visits, comes_from, visits_from, visits_map}
use Rattle.tree_laws.proofs.Within.{Below, within}

-- what holds of each block that is stored holds of each that a walk comes to
each_stored : (P : Expect → Type 0) (sup : Super) (stored : Stored) (root : Expect) → IsOk (walk_of sup stored root)
    → ((v : Expect) (bytes : List ℕ) → stored v.address ≡ Ok bytes → P v) → AllByRecursion P (visited sup stored root)
each_stored P sup stored root fine f =
    let any : Visits (Any sup stored) (trail_of sup stored root) =
    visits_from (Any sup stored) sup stored root (record { fine = fine; each = any_each sup stored (visited sup stored root) }) in
    each_map (Below (Any sup stored) sup stored) P (visited sup stored root) (λ v below. block v below)
    (comes_from (Below (Any sup stored) sup stored) sup stored root (within (Any sup stored) sup stored root any)).each
  where
    block : (v : Expect) → Below (Any sup stored) sup stored v → P v
    block v below =
        let a = accepts (Any sup stored) (trail_below v.level sup stored) sup stored v below in
        f v a.bytes a.is

any_same : (f g : Expect → Bool) (es : List Expect) → AllByRecursion (λ v. f v ≡ g v) es → list_any f es ≡ list_any g es
any_same f g [] all = refl
any_same f g (e ∷ es) all = rw (all.0, any_same f g es all.1) refl

-- blocks are marked by a test as by another that is the same at each address
marked_same : (marked : Marks) (test other : ℕ → Bool) (sup : Super) (stored : Stored) (root : Expect)
    → AllByRecursion (λ v. test v.address ≡ other v.address) (visited sup stored root)
    → AreMarked marked test sup stored root → AreMarked marked other sup stored root
marked_same marked test other sup stored root same marks =
    let P = λ (v : Expect). test v.address ≡ other v.address in
    let M = λ (v : Expect). marked v.tree v.address ≡ comes_to test sup stored v in
    let N = λ (v : Expect). comes_to test sup stored v ≡ comes_to other sup stored v in
    let here : AllByRecursion N (visited sup stored root) =
    (comes_from N sup stored root
    (visits_map (Below P sup stored) N (trail_of sup stored root)
    (λ v below. any_same (λ w. test w.address) (λ w. other w.address) (visited sup stored v) (comes_from P sup stored v below).each)
    (within P sup stored root (visits_from P sup stored root (record { fine = marks.fine; each = same }))))).each in
    record {
      fine = marks.fine;
      each = each_map (λ v. M v × N v) (λ v. marked v.tree v.address ≡ comes_to other sup stored v) (visited sup stored root) (λ v h. h.0 ∙ h.1)
          (each_both M N (visited sup stored root) marks.each here);
    }

-- what holds of the address of each block of a tree holds of an address that a table knows
known_at : (P : ℕ → Type 0) (sup : Super) (stored : Stored) (tree address : ℕ) (live : Live) (es : List Expect)
    → AllByRecursion (λ v. P v.address) es → OneOf (IsKnown sup stored tree address live) es → P address
known_at P sup stored tree address live [] all one = elim one [ ]
known_at P sup stored tree address live (e ∷ es) all (inl here) = subst P here.address_is all.0
known_at P sup stored tree address live (e ∷ es) all (inr later) = known_at P sup stored tree address live es all.1 later

pub array_moves : ArrayMovesLaw
array_moves image old old_array array pairs moving are has pairs_are from =
    let s = steps_of image old has.walks in
    let n = old.sup.nodesize in
    let end = length image in
    let tree = chunk_tree_by old.chunks old.sup image in
    let mine = stored_in image old_array n in
    let root = chunk_tree_root old.sup in
    let before = trees_in old.sup old.chunks old.chunks s.roots image in
    let olds = trees_walk image old before (has_trees image old s has.walks) in
    let stands : Stands pairs old.sup tree.0 tree.1 =
    stands_as old.sup tree (table_of (live_in old.seen)) pairs (pairs_are 3) (tables_stand old.sup before old.seen olds.0 olds.1).0 in
    let alike = chunk_tree image old old_array has.walks has.array_is in
    let fine : IsOk (walk_of old.sup mine root) =
    subst (λ a. IsOk (walk_of old.sup (stored_in image a n) root)) (array_is image old old_array s has) (rw (array_walk image old s).1 refl) in
    let Held = λ (address : ℕ). is_some (home old_array address n) ≡ true in
    let held_mine : AllByRecursion (λ v. Held v.address) (visited old.sup mine root) =
    each_stored (λ v. Held v.address) old.sup mine root fine (λ v bytes is. held_if image old_array n v.address bytes is) in
    let held : AllByRecursion (λ v. Held v.address) (visited old.sup tree.0 root) =
    subst (AllByRecursion (λ v. Held v.address)) (sym alike.blocks) held_mine in
    let Is = IsAsByAll image old old_array in
    let test = held_and_moved old_array array n end in
    let Same = λ (v : Expect). test v.address ≡ moves_by old array end v.address in
    let same : AllByRecursion Same (visited old.sup mine root) =
    each_map (λ v. Held v.address × Is v) Same (visited old.sup mine root)
    (λ v h. ap (λ b. b && is_moved old_array array n end v.address) h.0 ∙ h.1.left array)
    (each_both (λ v. Held v.address) Is (visited old.sup mine root) held_mine (as_by_all image old old_array has)) in
    marked_same moving test (moves_by old array end) old.sup tree.0 root (subst (AllByRecursion Same) (sym alike.blocks) same)
    (marks pairs (in_tree 3 test) (in_tree 3 (is_moved old_array array n end)) moving old.sup tree.0 tree.1 stands are
    (λ address some moved.
    ap (λ b. b && is_moved old_array array n end address)
    (held_at (pairs 3 address) Held tree.0 address (visited old.sup tree.0 root) some (stands.only address) held) ∙ moved) from)
  where
    held_at : (entry : Option Live) (P : ℕ → Type 0) (stored : Stored) (address : ℕ) (es : List Expect) → is_some entry ≡ true
        → IfSome entry (λ live. OneOf (IsKnown old.sup stored 3 address live) es) → AllByRecursion (λ v. P v.address) es → P address
    held_at None P stored address es some one all = absurd (cc)
    held_at (Some live) P stored address es some one all = known_at P old.sup stored 3 address live es all one
