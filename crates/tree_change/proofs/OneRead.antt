-- Of a tree that does not stay as it was a block is read.
use Rattle.std.proofs.Common.{◌≡◌, ℕ, zero, suc, ◌+◌, ◌-◌, ◌==◌, ◌<◌, ◌≤◌, Bool, true, false, ◌||◌, ◌⊎◌, inl, inr, List, [], ◌∷◌, length, refl, ap, sym, subst, ◌∙◌, arith, if◌then◌else◌}
use Rattle.std.proofs.lemmas.Bool.{eqb-true}
use Rattle.std.specs.Prelude.{Option, Some, None, Ok, map}
use Rattle.std.specs.List.{AllByRecursion}
use Rattle.std.specs.Ordering.{nat_cmp}
use Rattle.std.specs.FinMap.{FinMap}
use Rattle.tree_change.proofs.Vanished.{among}
use Rattle.tree_laws.proofs.Leading.{known_rest}
use Rattle.tree_laws.proofs.OldTrees.{roots_of}
use Rattle.walk_laws.proofs.Trees.{step_ok}
use Rattle.touched_blocks.proofs.Among.{some_same}
use Rattle.verdict.specs.declared.key.Key.{Key}
use Rattle.super_reader.specs.declared.Super.{Super}
use Rattle.live_index.specs.Pairs.{Pairs}
use Rattle.live_index.specs.declared.live.Live.{Live}
use Rattle.node_reader.specs.Stored.{Stored, block_in, stored_in}
use Rattle.node_reader.specs.declared.expect.Expect.{Expect}
use Rattle.records.specs.Contents.{named_root}
use Rattle.records.specs.WalkLaw.{children_in, visited, visited_from}
use Rattle.tree_laws.specs.Keeping.{Marks, Stands, Under, kept_of, last_if_same, live_at, starts_of}
use Rattle.tree_laws.specs.KeepingWalk.{skip_in}
use Rattle.tree_laws.specs.LivePairs.{Walked, live_in, table_of}
use Rattle.tree_laws.specs.Meeting.{met_below, met_in, met_of, met_or}
use Rattle.tree_laws.specs.OldSide.{IsRoot, kept_at}
use Rattle.tree_laws.specs.Shared.{are_read_alike}
use Rattle.tree_laws.specs.SharedLaw.{HasTrees}
use Rattle.tree_laws.specs.Skips.{Anew, Kept, is_below}
use Rattle.tree_laws.specs.TableLaw.{Tree}
use Rattle.tree_laws.specs.declared.told.Start.{Start}
use Rattle.tree_change.specs.Firsts.{first_copies}
use Rattle.tree_change.specs.Gathered.{Gathers}
use Rattle.tree_change.specs.Looks.{met_by}
use Rattle.tree_change.specs.LooksLaw.{IsRootTouched}
use Rattle.tree_change.specs.OneTree.{IsOldOf, IsTree, KnowsNothing, KnowsTree, old_tree, side_of}
use Rattle.tree_change.specs.Stays.{Stays}
use Rattle.tree_change.specs.Walks.{Known, Side, kept_by, listed_by, old_or_none, old_walk}
use Rattle.tree_change.proofs.LedTree.{HasPair, same_pair}
use Rattle.tree_change.proofs.Olds.{fine_step, gathered, old_stands, same_ok}
use Rattle.tree_change.proofs.OfTree.{LeadsIn, read_in}
use Rattle.tree_change.proofs.TouchedRoot.{new_unknown, unknown}
use Rattle.tree_change.proofs.Whole.{none_of}
use Rattle.volume_items.specs.declared.root_at.RootAt.{RootAt}

-- a block that is kept has its pair
kept_pair : (pairs : Pairs) (marked : Marks) (moved : ℕ → Bool) (under : Under) (e : Expect) (last : Key)
    → kept_of pairs marked moved under e ≡ Some last → HasPair pairs e
kept_pair pairs marked moved under e last is =
    same_pair pairs e (under e.tree e.address) last (known_rest pairs marked moved under e last is).1

-- a kept root below which nothing is walked is met alone
met_alone : (kept : Kept) (anew : Anew) (sup : Super) (stored : Stored) (e : Expect) (last : Key) → kept e ≡ Some last → anew e ≡ []
    → e.high ≡ None → met_of kept anew sup stored e ≡ e ∷ []
unfolding met_below
met_alone kept anew sup stored e last is none high =
    ap (met_or e (below (anew e)) (below (children_in (e.level - 1) e (block_in stored sup.fsid e)))) is
    ∙ (ap (λ (h : Option Key). if is_below last h then e ∷ below (anew e) else []) high
    ∙ (ap (λ es. e ∷ below es) none ∙ ap (λ es. e ∷ es) (at e.level)))
  where
    below : List Expect → List Expect
    below es = met_below kept anew e.level sup stored es

    at : (level : ℕ) → met_below kept anew level sup stored [] ≡ []
    at zero = refl
    at (suc level) = refl

-- no block at another address is kept by it
not_stop : (pairs : Pairs) (under : Under) (now e : Expect) → (now.address == e.address) ≡ false → kept_at pairs (now ∷ []) under e ≡ None
unfolding kept_at
not_stop pairs under now e other =
    ap (λ (b : Bool). if b || false then last_if_same e (under e.tree e.address) (pairs e.tree e.address) else None) other

-- a walk comes to the root first
root_first : (P : Expect → Type 0) (sup : Super) (stored : Stored) (e : Expect) → AllByRecursion P (visited sup stored e) → P e
unfolding visited_from
root_first P sup stored e all = by e.level all
  where
    by : (level : ℕ) → AllByRecursion P (visited_from level sup stored e) → P e
    by zero all = all.0
    by (suc level) all = all.0

-- no node is above the root of an image's tree
no_parents : (image : List ℕ) (whole : Walked) (trees : List Tree) → HasTrees image whole trees → AllByRecursion (λ tree. tree.1.parent ≡ 0) trees
no_parents image whole trees has =
    subst (AllByRecursion (λ (tree : Tree). tree.1.parent ≡ 0)) (sym has.trees_are) (refl, (refl, by has.roots))
  where
    by : (some : List RootAt)
        → AllByRecursion (λ (tree : Tree). tree.1.parent ≡ 0) (map (λ root. (stored_in image whole.chunks whole.sup.nodesize, named_root root)) some)
    by [] = tt
    by (root ∷ some) = (refl, by some)

-- roots of one tree at one address, on one level and of one generation are the same
root_same : (e now : Expect) → e.tree ≡ now.tree → e.address ≡ now.address → e.generation ≡ now.generation → e.level ≡ now.level
    → IsRoot e → IsRoot now → e.parent ≡ 0 → now.parent ≡ 0 → e ≡ now
root_same e now tree address generation level root_e root_now parent_e parent_now =
    let low = root_e.0 ∙ sym root_now.0 in
    let high = root_e.1 ∙ sym root_now.1 in
    let parent = parent_e ∙ sym parent_now in
    λ i. record {
      tree = tree i;
      address = address i;
      generation = generation i;
      level = level i;
      low = low i;
      high = high i;
      parent = parent i;
    }

-- a block that is not kept is read by the old walk
pub old_read : (tree : ℕ) (known : Known) (stops : List Expect) (was : Side) (e : Expect) (read : Gathers)
    → LeadsIn tree (kept_at known.pairs stops known.under) (listed_by known) → e.tree ≡ tree → kept_at known.pairs stops known.under e ≡ None
    → old_walk known stops was e ≡ Ok read → 1 ≤ length read.blocks
unfolding old_walk skip_in
old_read tree known stops was e read leads of none given =
    let kept = kept_at known.pairs stops known.under in
    let stored = stored_in was.image (first_copies was.chunks) was.sup.nodesize in
    let s = step_ok (skip_in kept (listed_by known) was.sup (first_copies was.chunks) e was.image) (λ records. fine_step (gathered records)) read given in
    subst (λ (g : Gathers). 1 ≤ length g.blocks) (same_ok (gathered s.0) read s.2)
    (read_in tree kept known.under was.sup stored e s.0 leads of (inl none) s.1)

module _ (image : List ℕ) (pending : FinMap nat_cmp ℕ) (old : Walked) (trees : List Tree) (pairs : Pairs) (is : Side) (known : Known)
    (before : Option Expect) (now : Expect) (t : IsTree image pending old trees pairs is known before now) (parent : now.parent ≡ 0)
    (n : ℕ) (touched : IsRootTouched known now → 1 ≤ n) (new : kept_by known now ≡ None → 1 ≤ n)
    (leads : LeadsIn now.tree (kept_at known.pairs (met_by known is now) known.under) (listed_by known)) where
  abbrev was : Side
  was = side_of image old

  abbrev stored : Stored
  stored = stored_in image old.chunks old.sup.nodesize

  some_new : (m : ℕ) → 1 ≤ n → 1 ≤ n + m
  some_new m some = omega (arith, some)

  some_old : (m : ℕ) → 1 ≤ m → 1 ≤ n + m
  some_old m some = omega (arith, some)

  met_now : (last : Key) → kept_by known now ≡ Some last → known.under now.tree now.address ≡ [] → met_by known is now ≡ now ∷ []
  unfolding met_in
  met_now last kept none =
      met_alone (kept_by known) (listed_by known) is.sup (stored_in is.image is.chunks is.sup.nodesize) now last kept
      (ap (starts_of (now.level - 1) now) none) t.root.1

  -- the root of the old tree at the address of a kept root is the same
  same_at : (e : Expect) → IsOldOf image old trees now (Some e) → KnowsTree image pending old is known (Some e) → HasPair known.pairs now
      → now.address ≡ e.address → e ≡ now
  same_at e old_of knows has at =
      let stands : Stands (table_of (live_in old.seen)) old.sup stored e =
      among (λ tree. Stands (table_of (live_in old.seen)) old.sup tree.0 tree.1) (old_tree image old e) trees old_of.1
      (old_stands image old trees t.has) in
      let first = root_first (λ v. table_of (live_in old.seen) v.tree v.address ≡ Some (live_at old.sup stored v)) old.sup stored e stands.each.each in
      let place : known.pairs now.tree now.address ≡ Some (live_at old.sup stored e) =
      knows.pairs_are now.tree now.address
      ∙ (ap (λ tree. table_of (live_in old.seen) tree now.address) (sym old_of.0) ∙ (ap (table_of (live_in old.seen) e.tree) at ∙ first)) in
      let live = some_same has.live (live_at old.sup stored e) (sym has.pair ∙ place) in
      root_same e now old_of.0 (sym at) (sym (has.generation ∙ ap (λ (l : Live). l.generation) live))
      (sym (has.level ∙ ap (λ (l : Live). l.level) live))
      (among (λ tree. IsRoot tree.1) (old_tree image old e) trees old_of.1 (roots_of image old trees t.has)) t.root
      (among (λ tree. tree.1.parent ≡ 0) (old_tree image old e) trees old_of.1 (no_parents image old trees t.has)) parent

  -- a tree of which the root is kept and nothing is walked stays, or the old root is read
  kept_alone : (e : Expect) (read : Gathers) → IsOldOf image old trees now (Some e) → KnowsTree image pending old is known (Some e)
      → (e ≡ now → ⊥) → old_walk known (met_by known is now) was e ≡ Ok read → known.under now.tree now.address ≡ [] → (last : Key)
      → kept_by known now ≡ Some last → 1 ≤ n + length read.blocks
  kept_alone e read old_of knows other given none last kept = by (now.address == e.address) refl
    where
      by : (b : Bool) → (now.address == e.address) ≡ b → 1 ≤ n + length read.blocks
      by true at =
          absurd (other (same_at e old_of knows (kept_pair known.pairs known.marked known.moved known.under now last kept)
          (eqb-true now.address e.address at)))
      by false at =
          some_old (length read.blocks)
          (old_read now.tree known (met_by known is now) was e read leads old_of.0
          (ap (λ stops. kept_at known.pairs stops known.under e) (met_now last kept none) ∙ not_stop known.pairs known.under now e at) given)

  known_read : (e : Option Expect) (read : Gathers) → IsOldOf image old trees now e → KnowsTree image pending old is known e
      → (Stays pairs known e now → ⊥) → old_or_none known (met_by known is now) was e ≡ Ok read → 1 ≤ n + length read.blocks
  known_read None read others knows moves given =
      some_new (length read.blocks)
      (new (unknown known.pairs known.marked known.moved known.under now
      (new_unknown image old trees known.pairs now t.has knows.pairs_are others now.address)))
  known_read (Some e) read old_of knows moves given =
      by (known.marked now.tree now.address) (known.moved now.address) (known.under now.tree now.address) refl refl refl
    where
      by_kept : known.marked now.tree now.address ≡ false → known.moved now.address ≡ false → known.under now.tree now.address ≡ []
          → (here : Option Key) → kept_by known now ≡ here → 1 ≤ n + length read.blocks
      by_kept marked moved under None kept = some_new (length read.blocks) (new kept)
      by_kept marked moved under (Some last) kept =
          kept_alone e read old_of knows
          (λ same. moves (record {
            by_old = λ i tree address. (knows.pairs_are tree address ∙ sym (t.pairs_are tree address)) i;
            same = ap (λ (one : Expect). Some one) same;
            unmarked = marked;
            unmoved = moved;
            unlisted = under;
          })) given under last kept

      by : (b m : Bool) (starts : List Start) → known.marked now.tree now.address ≡ b → known.moved now.address ≡ m
          → known.under now.tree now.address ≡ starts → 1 ≤ n + length read.blocks
      by true m starts marked moved under = some_new (length read.blocks) (touched (inl marked))
      by false true starts marked moved under = some_new (length read.blocks) (touched (inr (inl moved)))
      by false false (start ∷ starts) marked moved under =
          some_new (length read.blocks) (touched (inr (inr (subst (λ all. 0 < length all) (sym under) (omega arith)))))
      by false false [] marked moved under = by_kept marked moved under (kept_by known now) refl

  -- unless the tree stays, a new block is read or an old one
  pub one_read : (read : Gathers) → (are_read_alike old.sup is.sup ≡ true → Stays pairs known before now → ⊥)
      → old_or_none known (met_by known is now) was before ≡ Ok read
      → 1 ≤ n + length read.blocks
  one_read read moves given = by t.known_is
    where
      by : KnowsTree image pending old is known before ⊎ KnowsNothing old is known → 1 ≤ n + length read.blocks
      by (inl knows) = known_read before read t.was knows (moves knows.alike) given
      by (inr knows) =
          some_new (length read.blocks) (new (none_of known.pairs known.marked known.moved known.under knows.none now))
