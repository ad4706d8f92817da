-- How many marks there are on what moves and on what is touched, by the pairs that are not shared.
use Rattle.std.proofs.Common.{◌≡◌, ℕ, ◌+◌, ◌*◌, ◌≤◌, Bool, true, false, not, ◌&&◌, ◌==◌, suc, List, [], ◌∷◌, length, refl, ap, ◌∙◌, arith, if◌then◌else◌}
use Rattle.std.specs.Prelude.{Option, Some, None, is_some}
use Rattle.std.specs.List.{filter}
use Rattle.verdict.specs.Chunks.{home, place, place_in}
use Rattle.verdict.specs.declared.place.Chunk.{Chunk}
use Rattle.live_index.specs.Pairs.{AreNarrow, Pairs}
use Rattle.live_index.specs.declared.live.Live.{Live}
use Rattle.touched_blocks.specs.Looks.{ArePlaced, has_place}
use Rattle.touched_blocks.specs.Marking.{AreMarkedFrom, HaveEach, marks_at, marks_by, marks_for, parent_of}
use Rattle.touched_blocks.specs.Marks.{AreAmong, Marked, left_of, no_mark}
use Rattle.touched_blocks.specs.Moves.{held_and_moved, is_moved}
use Rattle.touched_blocks.specs.OneTree.{in_tree, of_tree}
use Rattle.touched_blocks.specs.Spots.{at_address}
use Rattle.tree_change.proofs.Accepting.{in_left}

-- a place is that of a chunk
pub held : (chunks : List Chunk) (a n end : ℕ) → has_place (place chunks a n end) ≡ true → is_some (home chunks a n) ≡ true
held chunks a n end has = by (home chunks a n) refl has
  where
    by : (chunk : Option Chunk) → home chunks a n ≡ chunk → has_place (place_in chunk a n end) ≡ true → is_some chunk ≡ true
    by None is has = absurd (cc)
    by (Some chunk) is has = refl

-- the pairs that pass a test of their tree and address, and the others
module _ (at : ℕ → ℕ → Bool) (left : List Live) where
  abbrev pub passes : Live → Bool
  passes live = at live.tree live.address

  abbrev pub those : List Live
  those = filter passes left

  abbrev pub others : List Live
  others = filter (λ live. not (passes live)) left

  at_place : (b : Bool) (tree address : ℕ) → at tree address ≡ b → (live : Live) → live.tree ≡ tree → live.address ≡ address → passes live ≡ b
  at_place b tree address is live of here = ap (λ t. at t live.address) of ∙ (ap (at tree) here ∙ is)

  -- the first have each pair that moves, where these pass
  pub have_those : (pairs : Pairs) (moved : ℕ → Bool) → HaveEach pairs moved left
      → ((tree address : ℕ) → moved address ≡ true → is_some (pairs tree address) ≡ true → at tree address ≡ true)
      → HaveEach pairs moved those
  have_those pairs moved each through tree address moves some =
      in_left passes tree address left (each tree address moves some) (at_place true tree address (through tree address moves some))

  -- the others have each marked pair that is marked by no move, where a marked pair that passes is so marked
  pub among_others : (marked moving : Marked) → AreAmong marked left
      → ((tree address : ℕ) → marked tree address ≡ true → at tree address ≡ true → moving tree address ≡ true)
      → AreAmong (left_of moving marked) others
  among_others marked moving among through tree address here =
      let both = parts (marked tree address) (moving tree address) here in
      in_left (λ live. not (passes live)) tree address left (among tree address both.0)
      (λ live of at_is. ap not (at_place false tree address (fails (at tree address) refl both.0 both.1) live of at_is))
    where
      parts : (m n : Bool) → (m && not n) ≡ true → (m ≡ true) × (n ≡ false)
      parts true true is = absurd (cc)
      parts true false is = (refl, refl)
      parts false n is = absurd (cc)

      fails : (b : Bool) → at tree address ≡ b → marked tree address ≡ true → moving tree address ≡ false → at tree address ≡ false
      fails false is mark still = is
      fails true is mark still = let moves = through tree address mark is in absurd (cc)

-- one mark at least is enough for a pair
some_marks : (pairs : Pairs) (tree : ℕ) (entry : Option Live) → 1 ≤ marks_at pairs tree entry
some_marks pairs tree None = omega arith
some_marks pairs tree (Some live) = by (parent_of pairs tree live)
  where
    by : (up : Option Live) → 1 ≤ marks_by up
    by None = omega arith
    by (Some up) = omega arith

-- so those for the first and one for each of the others are enough for all
pub split_marks : (pairs : Pairs) (passes : Live → Bool) (left : List Live)
    → marks_for pairs (filter passes left) + length (filter (λ live. not (passes live)) left) ≤ marks_for pairs left
split_marks pairs passes [] = omega arith
split_marks pairs passes (live ∷ left) = by (passes live) (split_marks pairs passes left)
  where
    here : ℕ
    here = marks_at pairs live.tree (pairs live.tree live.address)

    first : (h m n k : ℕ) → m + n ≤ k → (h + m) + n ≤ h + k
    first h m n k few = omega (arith, few)

    later : (h m n k : ℕ) → 1 ≤ h → m + n ≤ k → m + suc n ≤ h + k
    later h m n k some few = omega (arith, some, few)

    by : (b : Bool) → marks_for pairs (filter passes left) + length (filter (λ one. not (passes one)) left) ≤ marks_for pairs left
        → marks_for pairs (if b then live ∷ filter passes left else filter passes left)
        + length (if not b then live ∷ filter (λ one. not (passes one)) left else filter (λ one. not (passes one)) left) ≤ here + marks_for pairs left
    by true few =
        first here (marks_for pairs (filter passes left)) (length (filter (λ one. not (passes one)) left)) (marks_for pairs left) few
    by false few =
        later here (marks_for pairs (filter passes left)) (length (filter (λ one. not (passes one)) left)) (marks_for pairs left)
        (some_marks pairs live.tree (pairs live.tree live.address)) few

-- the looks for marks on what moves, and to list these and the others
pub looks_few : (moves all m n k : ℕ) → moves ≤ m → all ≤ moves + n → m + n ≤ k → 2 * moves + 3 * all ≤ 5 * k
looks_few moves all m n k few more enough = omega (arith, few, more, enough)

-- a pair of which the block moved is marked so
pub moves_marked : (pairs : Pairs) (old new : List Chunk) (nodesize end : ℕ) (moving : Marked) → AreNarrow pairs → ArePlaced pairs old nodesize end
    → AreMarkedFrom pairs (at_address (held_and_moved old new nodesize end)) (at_address (is_moved old new nodesize end)) no_mark moving
    → (tree address : ℕ) → is_some (pairs tree address) ≡ true → is_moved old new nodesize end address ≡ true → moving tree address ≡ true
moves_marked pairs old new nodesize end moving narrow placed from tree address some moves =
    let n = narrow tree address some in
    from.found tree address n.0 n.1
    (ap (λ b. b && is_moved old new nodesize end address) (held old address nodesize end (placed tree address some)) ∙ moves) some

-- so is one of a tree
pub tree_moves_marked : (id : ℕ) (pairs : Pairs) (old new : List Chunk) (nodesize end : ℕ) (moving : Marked) → AreNarrow pairs
    → ArePlaced (of_tree id pairs) old nodesize end
    → AreMarkedFrom pairs (in_tree id (held_and_moved old new nodesize end)) (in_tree id (is_moved old new nodesize end)) no_mark moving
    → (tree address : ℕ) → is_some (pairs tree address) ≡ true → in_tree id (is_moved old new nodesize end) tree address ≡ true
    → moving tree address ≡ true
tree_moves_marked id pairs old new nodesize end moving narrow placed from tree address some moves =
    let n = narrow tree address some in
    let parts = both (tree == id) (is_moved old new nodesize end address) moves in
    let there : is_some (of_tree id pairs tree address) ≡ true = ap (λ b. is_some (if b then pairs tree address else None)) parts.0 ∙ some in
    from.found tree address n.0 n.1
    (ap (λ b. b && held_and_moved old new nodesize end address) parts.0
    ∙ (ap (λ b. b && is_moved old new nodesize end address) (held old address nodesize end (placed tree address there)) ∙ parts.1)) some
  where
    both : (a b : Bool) → (a && b) ≡ true → (a ≡ true) × (b ≡ true)
    both true b is = (refl, is)
    both false b is = absurd (cc)

-- ---- lists of which one has fewer

-- what passes the first of two tests passes the second
module _ {X : Type 0} (p q : X → Bool) (through : (x : X) → p x ≡ true → q x ≡ true) where
  pub fewer : (xs : List X) → length (filter p xs) ≤ length (filter q xs)
  fewer [] = omega arith
  fewer (x ∷ xs) = by (p x) (q x) refl refl (fewer xs)
    where
      by : (a b : Bool) → p x ≡ a → q x ≡ b → length (filter p xs) ≤ length (filter q xs)
          → length (if a then x ∷ filter p xs else filter p xs) ≤ length (if b then x ∷ filter q xs else filter q xs)
      by true true a b few = omega (arith, few)
      by true false a b few = let must = through x a in absurd (cc)
      by false true a b few = omega (arith, few)
      by false false a b few = few
