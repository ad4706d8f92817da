-- Where what moves and what writes touch are marked, each with all above, what changes is marked by one of both.
use Rattle.std.proofs.Common.{◌≡◌, ℕ, Bool, true, false, ◌||◌, ◌&&◌, not, List, [], ◌∷◌, refl, ap, sym, subst, ◌∙◌}
use Rattle.std.specs.Prelude.{is_some}
use Rattle.std.specs.List.{list_any}
use Rattle.verdict.proofs.Lists.{all_map}
use Rattle.verdict.specs.declared.place.Chunk.{Chunk}
use Rattle.super_reader.specs.declared.Super.{Super}
use Rattle.live_index.specs.Pairs.{AreNarrow, Pairs}
use Rattle.node_reader.specs.Stored.{Stored}
use Rattle.node_reader.specs.declared.expect.Expect.{Expect}
use Rattle.records.specs.WalkLaw.{visited}
use Rattle.touched_blocks.specs.Marking.{AreMarkedFrom}
use Rattle.touched_blocks.specs.Marks.{Marked, no_mark}
use Rattle.touched_blocks.specs.Moves.{is_moved}
use Rattle.touched_blocks.specs.Spots.{at_address}
use Rattle.touched_blocks.specs.Touched.{Written, stays_in_place, touches_block}
use Rattle.tree_laws.specs.Keeping.{AreMarked, Marks, Stands, Under, comes_to}
use Rattle.tree_laws.specs.Listed.{AreListedBy}
use Rattle.tree_laws.specs.LivePairs.{Walked}
use Rattle.tree_laws.specs.SharedLaw.{MarksTouched, touches_old}
use Rattle.tree_laws.specs.TableLaw.{Tree}
use Rattle.tree_laws.proofs.Listing.{lists}
use Rattle.tree_laws.proofs.Picking.{each_both}
use Rattle.tree_change.specs.Unchanged.{ChangesListed, changes_at, either_mark}

-- a walk comes to an address that passes one of two tests where it comes to one that passes the first or to one that passes the second
either_comes : (some other test : ℕ → Bool) → ((a : ℕ) → test a ≡ (some a || other a)) → (es : List Expect)
    → (list_any (λ (w : Expect). some w.address) es || list_any (λ (w : Expect). other w.address) es) ≡ list_any (λ (w : Expect). test w.address) es
either_comes some other test same [] = refl
either_comes some other test same (e ∷ es) =
    turn (some e.address) (other e.address) (list_any (λ (w : Expect). some w.address) es) (list_any (λ (w : Expect). other w.address) es)
    ∙ (ap (λ b. b || (list_any (λ (w : Expect). some w.address) es || list_any (λ (w : Expect). other w.address) es)) (sym (same e.address))
    ∙ ap (λ b. test e.address || b) (either_comes some other test same es))
  where
    turn : (a b c d : Bool) → ((a || c) || (b || d)) ≡ ((a || b) || (c || d))
    turn true b c d = refl
    turn false true true d = refl
    turn false true false d = refl
    turn false false c d = refl

-- so the blocks that have one of two marks are those above, or at, an address that passes one of two tests
either_marked : (some other : Marks) (a b test : ℕ → Bool) → ((x : ℕ) → test x ≡ (a x || b x)) → (sup : Super) (stored : Stored) (e : Expect)
    → AreMarked some a sup stored e → AreMarked other b sup stored e → AreMarked (either_mark some other) test sup stored e
either_marked some other a b test same sup stored e first second =
    let A = λ (v : Expect). some v.tree v.address ≡ comes_to a sup stored v in
    let B = λ (v : Expect). other v.tree v.address ≡ comes_to b sup stored v in
    record {
      fine = first.fine;
      each = all_map (λ v. A v × B v) (λ v. either_mark some other v.tree v.address ≡ comes_to test sup stored v) (visited sup stored e)
          (λ v h. ap (λ m. m || other v.tree v.address) h.0
          ∙ (ap (λ m. comes_to a sup stored v || m) h.1 ∙ either_comes a b test same (visited sup stored v)))
          (each_both A B (visited sup stored e) first.each second.each);
    }

-- a block that does not stay as it is moved, or it is touched
changes_so : (old : Walked) (chunks : List Chunk) (written : Written) (end a : ℕ)
    → changes_at old chunks written end a ≡ (is_moved old.chunks chunks old.sup.nodesize end a || touches_old old written end a)
changes_so old chunks written end a =
    by (stays_in_place old.chunks chunks old.sup.nodesize end a) (touches_block written old.chunks old.sup.nodesize end a)
  where
    by : (s t : Bool) → not (s && not t) ≡ (not s || t)
    by true true = refl
    by true false = refl
    by false true = refl
    by false false = refl

-- what changes in a tree is marked and listed
pub changes_listed : (old : Walked) (chunks : List Chunk) (written : Written) (end : ℕ) (pairs : Pairs) (marked moving : Marks) (under : Under)
    (tree : Tree)
    → Stands pairs old.sup tree.0 tree.1 → MarksTouched old written end marked tree
    → AreMarked moving (is_moved old.chunks chunks old.sup.nodesize end) old.sup tree.0 tree.1 → AreListedBy pairs (either_mark moving marked) under
    → ChangesListed old chunks written end (either_mark moving marked) under tree
changes_listed old chunks written end pairs marked moving under tree stands touched moved listed = record {
  marks = either_marked moving marked (is_moved old.chunks chunks old.sup.nodesize end) (touches_old old written end)
      (changes_at old chunks written end) (changes_so old chunks written end) old.sup tree.0 tree.1 moved touched;
  lists = lists pairs (either_mark moving marked) under old.sup tree.0 tree.1 stands listed;
}

-- of the pairs of a table those that are marked and touched are all that are touched
pub touched_known : (pairs : Pairs) (test : ℕ → Bool) (marked touched : Marked) → AreNarrow pairs
    → AreMarkedFrom pairs (at_address test) (at_address test) no_mark marked
    → ((tree address : ℕ) → touched tree address ≡ (marked tree address && test address))
    → (tree address : ℕ) → is_some (pairs tree address) ≡ true → touched tree address ≡ test address
touched_known pairs test marked touched narrow from same tree address some = same tree address ∙ by (test address) refl
  where
    both_false : (b : Bool) → (b && false) ≡ false
    both_false true = refl
    both_false false = refl

    by : (b : Bool) → test address ≡ b → (marked tree address && test address) ≡ test address
    by true is =
        let n = narrow tree address some in
        ap (λ m. m && test address) (from.found tree address n.0 n.1 is some)
    by false is = rw is (both_false (marked tree address))

-- the children that have one of two marks are listed
pub listed_either : (pairs : Pairs) (joined some other : Marks) (under : Under)
    → ((tree address : ℕ) → joined tree address ≡ (some tree address || other tree address)) → AreListedBy pairs joined under
    → AreListedBy pairs (either_mark some other) under
listed_either pairs joined some other under same listed =
    subst (λ (marked : Marks). AreListedBy pairs marked under) (λ i tree address. same tree address i) listed
