-- Nothing changes in a tree that stays as it was.
use Rattle.std.proofs.Common.{◌≡◌, ℕ, zero, suc, ◌+◌, ◌<◌, Bool, true, false, List, [], ◌∷◌, length, drop, get_or, refl, ap, sym, subst, ◌∙◌}
use Rattle.std.proofs.lemmas.Bool.{eq-eqb}
use Rattle.std.specs.Prelude.{◌-◌, map, Option, Some, None, Ok, if◌then◌else◌}
use Rattle.std.specs.List.{AllByRecursion, cons_option}
use Rattle.tree_laws.proofs.Mixing.{same_itself}
use Rattle.verdict.specs.OnDisk.{key_same}
use Rattle.verdict.specs.Rules.{and_then, no_key}
use Rattle.verdict.specs.declared.key.Key.{Key}
use Rattle.super_reader.specs.declared.Super.{Super}
use Rattle.live_index.specs.Pairs.{Pairs}
use Rattle.live_index.specs.Table.{pairs_of}
use Rattle.live_index.specs.declared.live.Live.{Live}
use Rattle.node_reader.specs.Stored.{Stored, block_in, stored_in}
use Rattle.node_reader.specs.declared.expect.Expect.{Expect}
use Rattle.records.specs.Contents.{named_root, names}
use Rattle.records.specs.Seen.{Seen}
use Rattle.records.specs.Walk.{Records, behind, block_and, walk_of}
use Rattle.records.specs.WalkLaw.{children_in, visited, visited_from}
use Rattle.volume_items.specs.declared.root_at.RootAt.{RootAt}
use Rattle.tree_laws.specs.Ending.{Ends, Lasts, end_at, ends_below, ends_in, ends_of, ends_or, key_or, none_more, read_ends}
use Rattle.tree_laws.specs.Keeping.{Stands, is_same, kept_of, last_if_same, live_at, starts_of}
use Rattle.tree_laws.specs.KeepingWalk.{skip_in}
use Rattle.tree_laws.specs.Known.{last_of}
use Rattle.tree_laws.specs.LivePairs.{Walked, live_in, table_of}
use Rattle.tree_laws.specs.Meeting.{met_below, met_in, met_of, met_or}
use Rattle.tree_laws.specs.OldSide.{kept_at}
use Rattle.tree_laws.specs.Skips.{Anew, Kept, is_below, next_of, nothing, skip_below, skip_of, skip_or}
use Rattle.tree_laws.specs.TableLaw.{Tree}
use Rattle.tree_laws.specs.declared.told.Ended.{Ended}
use Rattle.tree_change.specs.Firsts.{first_copies}
use Rattle.tree_change.specs.AllTrees.{no_parts, root_named}
use Rattle.tree_change.specs.Making.{is_side, named_parts_in, parts_in, was_side}
use Rattle.tree_change.specs.Stays.{HasRoot, RootsStand, Stays}
use Rattle.tree_change.specs.Told.{known_by}
use Rattle.tree_change.specs.Walks.{Known, NewWalk, Parts, Side, kept_by, last_at, lasts_by, listed_by, shifted_pair, shifted_to, new_walk, no_tree, old_walk, parts_of, tree_parts}
use Rattle.tree_change.specs.declared.sides.Sides.{Sides}
use Rattle.tree_change.proofs.Adding.{behind_none, named_step, then_parts}
use Rattle.tree_change.proofs.Olds.{fine_step, gathered}

-- a block that is kept, that has no high key, and below which nothing is walked
module _ (kept : Kept) (anew : Anew) (sup : Super) (stored : Stored) (e : Expect) (last : Key) (is : kept e ≡ Some last) (none : anew e ≡ [])
    (high : e.high ≡ None) where
  -- the walk gives no records of it
  skip_none : skip_of kept nothing anew sup stored e ≡ Ok []
  unfolding skip_below behind
  skip_none =
      ap (skip_or e whole (below (anew e)) rest) is
      ∙ (ap (λ (h : Option Key). if is_below last h then below (anew e) else whole) high ∙ (ap below none ∙ at e.level))
    where
      whole : Records
      whole = walk_of sup stored e

      below : List Expect → Records
      below es = behind [] (skip_below kept nothing anew e.level sup stored es)

      rest : Records
      rest = block_and (λ v bytes. skip_below kept nothing anew e.level sup stored (next_of v bytes)) sup stored e

      at : (level : ℕ) → behind [] (skip_below kept nothing anew level sup stored []) ≡ Ok []
      at zero = refl
      at (suc level) = refl

  -- the walk meets it alone
  met_one : met_of kept anew sup stored e ≡ e ∷ []
  unfolding met_below
  met_one =
      ap (met_or e (below (anew e)) rest) is
      ∙ (ap (λ (h : Option Key). if is_below last h then e ∷ below (anew e) else []) high
      ∙ (ap (λ es. e ∷ below es) none ∙ ap (λ es. e ∷ es) (at e.level)))
    where
      below : List Expect → List Expect
      below es = met_below kept anew e.level sup stored es

      rest : List Expect
      rest = below (children_in (e.level - 1) e (block_in stored sup.fsid e))

      at : (level : ℕ) → met_below kept anew level sup stored [] ≡ []
      at zero = refl
      at (suc level) = refl

  -- and is done with it, by its greatest key
  ends_one : (lasts : Lasts) → lasts e ≡ Some last → ends_of kept anew lasts sup stored e ≡ end_at e last []
  unfolding ends_below
  ends_one lasts known =
      ap (ends_or lasts e (below no_key (anew e)) rest) is
      ∙ (ap (λ (h : Option Key). if is_below last h then behind_all (below no_key (anew e)) else none_more no_key) high
      ∙ (ap (λ es. behind_all (below no_key es)) none
      ∙ (ap behind_all (at e.level) ∙ ap (λ (l : Option Key). end_at e (key_or l no_key) []) known)))
    where
      below : Key → List Expect → Ends
      below first es = ends_below kept anew lasts e.level sup stored first es

      rest : Ends
      rest = read_ends e below (block_in stored sup.fsid e)

      behind_all : Ends → Ends
      behind_all under = end_at e (key_or (lasts e) under.last) under.blocks

      at : (level : ℕ) → ends_below kept anew lasts level sup stored no_key [] ≡ none_more no_key
      at zero = refl
      at (suc level) = refl

-- the root of a tree that stays
module _ (known : Known) (e : Expect) (live : Live) (low : e.low ≡ None) (high : e.high ≡ None) (pair : known.pairs e.tree e.address ≡ Some live)
    (level : live.level ≡ e.level) (generation : live.generation ≡ e.generation) (unlisted : known.under e.tree e.address ≡ []) where
  same_root : is_same e live ≡ true
  same_root =
      rw (low, high, eq-eqb e.level live.level (sym level), eq-eqb e.generation live.generation (sym generation)) refl

  same_last : last_if_same e (known.under e.tree e.address) (known.pairs e.tree e.address) ≡ Some live.last
  same_last =
      ap (λ starts. last_if_same e starts (known.pairs e.tree e.address)) unlisted
      ∙ (ap (last_if_same e []) pair ∙ ap (λ (b : Bool). if b then Some live.last else None) same_root)

  none_below : listed_by known e ≡ []
  none_below = ap (starts_of (e.level - 1) e) unlisted

  root_kept : known.marked e.tree e.address ≡ false → known.moved e.address ≡ false → kept_by known e ≡ Some live.last
  unfolding kept_of
  root_kept unmarked unmoved = rw (unmarked, unmoved) same_last

  root_stops : kept_at known.pairs (e ∷ []) known.under e ≡ Some live.last
  unfolding kept_at
  root_stops = rw (eq-eqb e.address e.address refl) same_last

  root_last : lasts_by known e ≡ Some live.last
  unfolding last_of
  root_last = rw (unlisted, pair) refl

  -- it is met alone
  abbrev met_alone : NewWalk
  met_alone = record { read = no_tree; met = e ∷ []; ended = record { expect = e; last = live.last } ∷ [] }

  new_alone : (is : Side) → kept_by known e ≡ Some live.last → new_walk known is e ≡ Ok met_alone
  unfolding new_walk skip_in met_in ends_in
  new_alone is kept =
      let stored = stored_in is.image is.chunks is.sup.nodesize in
      let reads = skip_none (kept_by known) (listed_by known) is.sup stored e live.last kept none_below high in
      let meets = met_one (kept_by known) (listed_by known) is.sup stored e live.last kept none_below high in
      let ends = ends_one (kept_by known) (listed_by known) is.sup stored e live.last kept none_below high (lasts_by known) root_last in
      λ i. and_then (reads i) (λ records. fine_step (new_of records (meets i) (ends i).blocks))
    where
      new_of : List Seen → List Expect → List Ended → NewWalk
      new_of records met ended = record { read = gathered records; met = met; ended = ended }

  old_alone : (was : Side) → old_walk known (e ∷ []) was e ≡ Ok no_tree
  unfolding old_walk skip_in
  old_alone was =
      let stored = stored_in was.image (first_copies was.chunks) was.sup.nodesize in
      let reads = skip_none (kept_at known.pairs (e ∷ []) known.under) (listed_by known) was.sup stored e live.last root_stops none_below high in
      λ i. and_then (reads i) (λ records. fine_step (gathered records))

  -- neither the node above nor the greatest key is another
  moves_none : live.parent ≡ e.parent → shifted_pair (known.pairs e.tree e.address) e.parent (last_at met_alone.ended e.address) ≡ None
  moves_none parent =
      ap (λ (was : Option Live). shifted_pair was e.parent (last_at met_alone.ended e.address)) pair
      ∙ (ap (λ (b : Bool). shifted_pair (Some live) e.parent (if b then live.last else no_key)) (eq-eqb e.address e.address refl)
      ∙ rw (eq-eqb live.parent e.parent parent) (ap (λ (b : Bool). if b then None else Some (shifted_to live e.parent live.last)) (same_itself live.last)))

  alone_parts : (was is : Side) → kept_by known e ≡ Some live.last → live.parent ≡ e.parent
      → tree_parts known.pairs known was is (Some e) e ≡ Ok no_parts
  unfolding tree_parts
  alone_parts was is kept parent =
      ap (λ step. and_then step (λ new. and_then (old_walk known new.met was e) (λ old. fine_step (parts_of known.pairs new old)))) (new_alone is kept)
      ∙ (ap (λ step. and_then step (λ old. fine_step (parts_of known.pairs met_alone old))) (old_alone was)
      ∙ ap (λ (option : Option Live). fine_step (moved_parts (cons_option option []))) (moves_none parent))
    where
      moved_parts : List Live → Parts
      moved_parts moved = record { old_blocks = []; new_blocks = []; shifted = moved; old_items = []; new_items = []; count = 0 }

-- Nothing changes in a tree that stays, where the table has its root.
pub stays_none : (pairs : Pairs) (known : Known) (was is : Side) (before : Option Expect) (now : Expect) → Stays pairs known before now
    → HasRoot pairs now → now.low ≡ None → now.high ≡ None → tree_parts pairs known was is before now ≡ Ok no_parts
stays_none pairs known was is before now stays has low high =
    let pair : known.pairs now.tree now.address ≡ Some has.live =
    ap (λ (p : Pairs). p now.tree now.address) stays.by_old ∙ has.pair in
    let kept = root_kept known now has.live low high pair has.level has.generation stays.unlisted stays.unmarked stays.unmoved in
    let none = alone_parts known now has.live low high pair has.level has.generation stays.unlisted was is kept has.parent in
    subst (λ p. tree_parts p known was is before now ≡ Ok no_parts) stays.by_old
    (subst (λ b. tree_parts known.pairs known was is b now ≡ Ok no_parts) (sym stays.same) none)

-- a root that a list names is one of those of which the table has the pairs
pub named_stands : (pairs : Pairs) (roots : List RootAt) (id : ℕ) (e : Expect) → RootsStand pairs roots → root_named roots id ≡ Some e → HasRoot pairs e
named_stands pairs [] id e all at = absurd (cc)
named_stands pairs (root ∷ roots) id e all at = by (names id root) at (named_stands pairs roots id e all.1)
  where
    some_expect : Expect → Option Expect
    some_expect one = Some one

    same : (one : Expect) → some_expect one ≡ Some e → one ≡ e
    same one is = cc

    by : (b : Bool) → (if b then Some (named_root root) else root_named roots id) ≡ Some e → (root_named roots id ≡ Some e → HasRoot pairs e)
        → HasRoot pairs e
    by true is more = subst (HasRoot pairs) (same (named_root root) is) all.0
    by false is more = more is

-- a place of the list of trees that are named now, where the tree stays
pub named_past : {L : Type 0} (sides : Sides L) (olds news : List RootAt) (i : ℕ) (d : RootAt) (before : Option Expect) (now : Expect)
    → i < length news → before ≡ root_named olds (get_or news i d).key.objectid → now ≡ named_root (get_or news i d)
    → Stays (pairs_of sides.table.now) (known_by sides.known) before now → RootsStand (pairs_of sides.table.now) olds → (image : List ℕ)
    → named_parts_in sides olds (drop i news) image ≡ named_parts_in sides olds (drop (i + 1) news) image
named_past sides olds news i d before now inside is_before is_now stays stand image =
    let has = named_stands (pairs_of sides.table.now) olds (get_or news i d).key.objectid now stand (sym is_before ∙ stays.same) in
    let none : parts_in sides before now image ≡ Ok no_parts =
    stays_none (pairs_of sides.table.now) (known_by sides.known) (was_side sides image) (is_side sides image) before now stays has
    (ap (λ (e : Expect). e.low) is_now) (ap (λ (e : Expect). e.high) is_now) in
    named_step sides olds news i d before now inside is_before is_now image
    ∙ (ap (λ first. then_parts first (named_parts_in sides olds (drop (i + 1) news) image)) none
    ∙ sym (behind_none (named_parts_in sides olds (drop (i + 1) news) image)))

-- The table of an image has the pair of the root of each of its trees.
module _ (pairs : Pairs) (old : Walked) (stored : Stored)
    (pairs_are : (tree address : ℕ) → pairs tree address ≡ table_of (live_in old.seen) tree address) where
  -- a walk comes to the root first
  root_first : (P : Expect → Type 0) (e : Expect) → AllByRecursion P (visited old.sup stored e) → P e
  unfolding visited_from
  root_first P e all = by e.level all
    where
      by : (level : ℕ) → AllByRecursion P (visited_from level old.sup stored e) → P e
      by zero all = all.0
      by (suc level) all = all.0

  has_root : (e : Expect) → Stands (table_of (live_in old.seen)) old.sup stored e → HasRoot pairs e
  has_root e stands = record {
    live = live_at old.sup stored e;
    pair = pairs_are e.tree e.address
        ∙ root_first (λ v. table_of (live_in old.seen) v.tree v.address ≡ Some (live_at old.sup stored v)) e stands.each.each;
    level = refl;
    generation = refl;
    parent = refl;
  }

  pub items_stand : (roots : List RootAt)
      → AllByRecursion (λ (tree : Tree). Stands (table_of (live_in old.seen)) old.sup tree.0 tree.1) (map (λ root. (stored, named_root root)) roots)
      → RootsStand pairs roots
  items_stand [] all = tt
  items_stand (root ∷ roots) all = (has_root (named_root root) all.0, items_stand roots all.1)
