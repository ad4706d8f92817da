-- What changes in all trees but the chunk tree, by the new chunks.
use Rattle.std.proofs.Common.{◌≡◌, ℕ, zero, suc, ◌<◌, ◌⊎◌, inl, inr, Bool, true, ◌&&◌, ◌||◌, List, length, Bor, refl, ap, sym, subst, ◌∙◌, arith}
use Rattle.std.specs.Prelude.{Option, Some, None, Result, Ok, Err, IfSome, map}
use Rattle.std.specs.Ordering.{nat_cmp}
use Rattle.std.specs.FinMap.{FinMap}
use Rattle.verdict.specs.Rules.{and_then, finding_or}
use Rattle.verdict.specs.Trees.{is_node_size}
use Rattle.verdict.specs.declared.finding.Finding.{Finding}
use Rattle.verdict.specs.declared.place.Chunk.{Chunk}
use Rattle.recon_disk.specs.declared.disk.Disk.{Ghosts}
use Rattle.super_reader.specs.declared.Super.{Super}
use Rattle.volume_items.specs.declared.root_at.RootAt.{RootAt}
use Rattle.live_index.specs.Pairs.{AreNarrow, Pairs}
use Rattle.live_index.specs.Table.{pairs_of}
use Rattle.node_reader.specs.Stored.{stored_in}
use Rattle.records.specs.Contents.{root_items_in, root_tree_root, roots_fault}
use Rattle.block_source.specs.declared.halt.Halt.{Halt}
use Rattle.block_source.specs.declared.halt.Halt.TheVariants.{Found, Disk, NoMemory}
use Rattle.touched_blocks.specs.Marking.{AreMarked, AreMarkedFrom}
use Rattle.touched_blocks.specs.Marks.{Marked, marked_by, no_mark}
use Rattle.touched_blocks.specs.Moves.{AreApart, held_and_moved, is_moved, move_passes}
use Rattle.touched_blocks.specs.Spots.{at_address}
use Rattle.touched_blocks.specs.Touched.{touches_block, written_in}
use Rattle.touched_blocks.specs.declared.marks.Marks.{Marks}
use Rattle.touched_blocks.specs.declared.moved.Move.{Move}
use Rattle.tree_laws.specs.Keeping.{Under}
use Rattle.tree_laws.specs.Listed.{AreListedBy}
use Rattle.tree_laws.specs.LivePairs.{Walked, live_in, table_of}
use Rattle.tree_laws.specs.SharedLaw.{HasTrees}
use Rattle.tree_laws.specs.TableLaw.{Tree, trees_in}
use Rattle.shared_trees.specs.Under.{under_of}
use Rattle.shared_trees.specs.declared.starts.Starts.{Starts}
use Rattle.tree_laws.proofs.Premises.{map_apart}
use Rattle.tree_laws.proofs.Treed.{map_kept}
use Rattle.tree_change.specs.Firsts.{first_copies}
use Rattle.tree_change.specs.AllTrees.{IsOver, KnowsTrees, gone_all, named_parts, with_parts}
use Rattle.tree_change.specs.Compared.{FindsRest, FitsCompared, HasNewMap, IsCompared, KeepsBy, MakesRest, TellsRest, judged_by, side_to}
use Rattle.tree_change.specs.Making.{FindsOthers, IsAdded, MakesOthers, TellsOthers}
use Rattle.tree_change.specs.Making.FindsOthers.{InGone, InItems, InNamed, InTree}
use Rattle.tree_change.specs.Merging.{IsSortedOf, roots_left}
use Rattle.tree_change.specs.OneTree.{IsTree, KnowsNothing, side_of}
use Rattle.tree_change.specs.Stays.{RootsStand}
use Rattle.tree_change.specs.Told.{side_with}
use Rattle.tree_change.specs.Unchanged.{either_mark}
use Rattle.tree_change.specs.Walks.{Known, Parts, Side, tree_parts}
use Rattle.tree_change.specs.declared.sides.Compared.{Compared}
use Rattle.tree_change.specs.declared.sides.Sides.{Sides}
use Rattle.tree_change.specs.declared.trees.TreeParts.{TreeParts}
use Rattle.tree_change.proofs.EachTree.{one_tree}
use Rattle.tree_change.proofs.EveryTree.{knows_one}
use Rattle.tree_change.proofs.Gone.{gone}
use Rattle.tree_change.proofs.Changing.{listed_either}
use Rattle.tree_change.proofs.Knowing.{knows_trees}
use Rattle.tree_change.proofs.Named.{named}
use Rattle.tree_change.proofs.Olds.{old_stands}
use Rattle.tree_change.proofs.RootItems.{roots_found, roots_made}
use Rattle.tree_change.proofs.Staying.{items_stand}
use Rattle.tree_laws.specs.MergedLaw.{root_before}

-- what is known, by its parts
abbrev pub known_with : Pairs → Marked → (ℕ → Bool) → Under → Known
known_with pairs marked moved under = record { pairs = pairs; marked = marked; moved = moved; under = under }

-- All old trees are known by the table by which blocks are kept, by its marks and by its moved children; or nothing is.
module _ (image : List ℕ) (pending : FinMap nat_cmp ℕ) (old : Walked) (trees : List Tree) (pairs kept : Pairs) (marked own moving : Marked)
    (under : Under) (is : Side) (moved : ℕ → Bool) where
  -- the same by a superblock, chunks and an end
  abbrev KnowsBy : Super → List Chunk → ℕ → Type 0
  KnowsBy sup chunks end =
      KeepsBy sup is.sup pairs kept
      → AreMarked kept (at_address (touches_block (written_in pending) chunks sup.nodesize end)) no_mark marked
      → ((tree address : ℕ) → own tree address ≡ (marked tree address && touches_block (written_in pending) chunks sup.nodesize end address))
      → AreMarkedFrom kept (at_address (held_and_moved chunks is.chunks sup.nodesize end))
      (at_address (is_moved chunks is.chunks sup.nodesize end)) no_mark moving
      → moved ≡ is_moved chunks is.chunks sup.nodesize end
      → KnowsTrees image pending old trees is (known_with kept own moved under) ⊎ KnowsNothing old is (known_with kept own moved under)

  knows_plain : AreNarrow pairs → HasTrees image old trees → ((tree address : ℕ) → pairs tree address ≡ table_of (live_in old.seen) tree address)
      → AreListedBy kept (either_mark moving marked) under → KnowsBy old.sup old.chunks (length image)
  knows_plain narrow has pairs_are listed (inl keeps) touched own_are moves same =
      let k = knows_trees image pending old trees kept marked own moving under is (subst AreNarrow (sym keeps.1) narrow) has
      (λ tree address. ap (λ (p : Pairs). p tree address) keeps.1 ∙ pairs_are tree address) keeps.0 touched own_are moves listed in
      inl (record {
        alike = k.alike;
        pairs_are = k.pairs_are;
        moved_is = same;
        marked_is = k.marked_is;
        changing = k.changing;
        changes = k.changes;
      })
  knows_plain narrow has pairs_are listed (inr keeps) touched own_are moves same =
      inr (record { other = keeps.0; none = λ tree address. ap (λ (p : Pairs). p tree address) keeps.1 })

  knows_by : (sup : Super) (chunks : List Chunk) (end : ℕ) → sup ≡ old.sup → chunks ≡ old.chunks → end ≡ length image
      → AreNarrow pairs → HasTrees image old trees → ((tree address : ℕ) → pairs tree address ≡ table_of (live_in old.seen) tree address)
      → AreListedBy kept (either_mark moving marked) under → KnowsBy sup chunks end
  knows_by sup chunks end a b c narrow has pairs_are listed =
      subst (λ s. KnowsBy s chunks end) (sym a)
      (subst (λ cs. KnowsBy old.sup cs end) (sym b)
      (subst (λ n. KnowsBy old.sup old.chunks n) (sym c) (knows_plain narrow has pairs_are listed)))

-- a block has bytes
pub size_some : (n : ℕ) → is_node_size n ≡ true → 0 < n
size_some zero is = absurd (cc)
size_some (suc n) is = omega arith

module _ {L : Type 0} (both : Compared L) (image : List ℕ) (chunks : List Chunk) (c : IsCompared both image) where
  abbrev pub old : Walked
  old = c.based.old

  abbrev pub olds : List RootAt
  olds = c.based.olds

  abbrev pub trees : List Tree
  trees = trees_in old.sup old.chunks old.chunks olds image

  abbrev pub pairs : Pairs
  pairs = pairs_of both.table.now

  abbrev pub side : Side
  side = side_to both image chunks

  -- the new chunks lie apart
  pub new_apart : HasNewMap both image chunks → AreApart chunks
  new_apart has =
      map_apart chunks has.0 (length (judged_by both image)) (map_kept both.fresh.now has.0 chunks (judged_by both image) has.1)

  -- this is the side as it was
  pub was_is : side_with both.was image ≡ side_of image old
  was_is =
      ap (λ (s : Super). side_at s both.was.map.now) c.based.super_is ∙ ap (λ cs. side_at old.sup cs) c.based.chunks_are
    where
      side_at : Super → List Chunk → Side
      side_at sup cs = record { sup = sup; chunks = cs; image = image }

  -- the table has the pair of each old root
  pub roots_stand : RootsStand pairs both.roots.now
  roots_stand =
      subst (RootsStand pairs) (sym c.based.roots_are)
      (items_stand pairs old (stored_in image old.chunks old.sup.nodesize) c.based.pairs_are olds (old_stands image old trees c.based.has).1.1)

  abbrev pub Over : Known → Type 0
  Over known = IsOver image both.cache.now old olds trees pairs side known

  pub over_by : (end : ℕ) (moving : Marked) (under : Under) (moved : ℕ → Bool) → FitsCompared both end → HasNewMap both image chunks
      → (AreApart chunks → 0 < both.was.sup.now.nodesize
      → AreMarkedFrom (pairs_of both.kept.now) (at_address (held_and_moved both.was.map.now chunks both.was.sup.now.nodesize both.was.end))
      (at_address (is_moved both.was.map.now chunks both.was.sup.now.nodesize both.was.end)) no_mark moving)
      → AreListedBy (pairs_of both.kept.now) (either_mark moving (marked_by both.marks.now)) under
      → moved ≡ is_moved both.was.map.now chunks both.was.sup.now.nodesize both.was.end
      → Over (known_with (pairs_of both.kept.now) (marked_by both.touched.now) moved under)
  over_by end moving under moved fits has moves listed same = record {
    has = c.based.has;
    trees_are = refl;
    pairs_are = c.based.pairs_are;
    over = refl;
    known_is = knows_by image both.cache.now old trees pairs (pairs_of both.kept.now) (marked_by both.marks.now) (marked_by both.touched.now) moving under side
        moved
        both.was.sup.now both.was.map.now both.was.end c.based.super_is c.based.chunks_are c.end c.narrow c.based.has c.based.pairs_are listed
        fits.keeps fits.marked fits.touched (moves (new_apart has) (size_some both.was.sup.now.nodesize fits.was_size)) same;
  }

  module _ (known : Known) (over : Over known) where
    -- the root tree is one of the trees
    pub root_tree : IsTree image both.cache.now old trees pairs side known (Some (root_tree_root old.sup)) (root_tree_root both.fresh.now)
    root_tree = record {
      has = over.has;
      pairs_are = over.pairs_are;
      over = over.over;
      root = (refl, refl);
      was = (refl, inr (inl refl));
      known_is = knows_one image both.cache.now old trees side known (Some (root_tree_root old.sup)) (root_tree_root both.fresh.now)
          (refl, inr (inl refl)) over.known_is;
    }

    abbrev pub tree : Result Parts Finding
    tree = tree_parts pairs known (side_of image old) side (Some (root_tree_root old.sup)) (root_tree_root both.fresh.now)

    abbrev pub Merged : Parts → List RootAt → Type 0
    Merged parts roots = IsSortedOf root_before (roots_left olds parts.old_items parts.new_items) roots

    -- the root items of the new image, by what the rules say of the roots
    judged : (parts : Parts) (roots : List RootAt) (fault : Option Finding) → tree ≡ Ok parts → Merged parts roots
        → roots_fault both.fresh.now.compat_ro roots ≡ fault
        → root_items_in both.fresh.now chunks (judged_by both image) ≡ and_then (finding_or fault (tt {0})) (λ _. Ok roots)
    judged parts roots fault made merged say =
        roots_made one_tree image both.cache.now old trees pairs side known parts olds roots c.based.items root_tree made merged
        ∙ ap (λ f. and_then (finding_or f (tt {0})) (λ _. Ok roots)) say

    -- what all make
    rest_made : (root_parts named_trees gone_trees parts : Parts) (roots : List RootAt) → tree ≡ Ok root_parts → Merged root_parts roots
        → roots_fault both.fresh.now.compat_ro roots ≡ None
        → named_parts pairs known (side_of image old) side olds roots ≡ Ok named_trees
        → gone_all pairs known (side_of image old) roots olds ≡ Ok gone_trees
        → parts ≡ with_parts root_parts (with_parts named_trees gone_trees)
        → MakesRest both image old olds chunks parts roots
    rest_made root_parts named_trees gone_trees parts roots made merged say named_are gone_are all =
        let fine = (named one_tree image both.cache.now old olds trees pairs side known roots over).1 named_trees named_are in
        record {
          items = judged root_parts roots None made merged say;
          records = fine.0;
          fine = fine.1;
          known = known;
          over = over;
          root_parts = root_parts;
          named = named_trees;
          gone = gone_trees;
          root_tree = made;
          named_trees = named_are;
          gone_trees = gone_are;
          all = all;
        }

    -- the finding in the root tree, in its items, and in a tree that is named now
    found_tree : (finding : Finding) → tree ≡ Err finding → FindsRest both image chunks finding
    found_tree finding failed = inl (roots_found one_tree image both.cache.now old trees pairs side known root_tree finding failed)

    found_items : (parts : Parts) (roots : List RootAt) (finding : Finding) → tree ≡ Ok parts → Merged parts roots
        → roots_fault both.fresh.now.compat_ro roots ≡ Some finding → FindsRest both image chunks finding
    found_items parts roots finding made merged say = inl (judged parts roots (Some finding) made merged say)

    found_named : (parts : Parts) (roots : List RootAt) (finding : Finding) → tree ≡ Ok parts → Merged parts roots
        → roots_fault both.fresh.now.compat_ro roots ≡ None
        → named_parts pairs known (side_of image old) side olds roots ≡ Err finding → FindsRest both image chunks finding
    found_named parts roots finding made merged say failed =
        inr (
          roots,
          judged parts roots None made merged say,
          (named one_tree image both.cache.now old olds trees pairs side known roots over).0 finding failed,
        )

    -- none is in a tree that is gone
    found_gone : (roots : List RootAt) (finding : Finding) → gone_all pairs known (side_of image old) roots olds ≡ Err finding → ⊥
    found_gone roots finding failed = gone image both.cache.now old olds trees pairs side known roots finding over failed

-- the two sides by the new chunks, and what is known
module _ {L : Type 0} (both : Compared L) (new : Bor (List Chunk)) (moves : Bor Move) (starts : Bor Starts)
    (same : both.is_same ≡ true → both.kept.now ≡ both.table.now) (once : both.firsts.now ≡ first_copies both.was.map.now) where
  abbrev pub sides_by : Sides L
  sides_by = record {
    was = both.was;
    firsts = both.firsts;
    is = record { cache = both.cache; map = new; sup = both.fresh; end = both.was.end };
    table = both.table;
    known = record { table = both.kept; marks = both.touched; moves = moves; starts = starts };
    is_same = both.is_same;
    same = same;
    once = once;
  }

  abbrev known_now : Known
  known_now = known_with (pairs_of both.kept.now) (marked_by both.touched.now) (move_passes moves.now) (under_of starts.now)

  pub record IsMove : Type 0 where
    pub before : moves.now.old.now ≡ both.was.map.now
    pub after : moves.now.new.now ≡ new.now
    pub size : moves.now.nodesize ≡ both.was.sup.now.nodesize
    pub until : moves.now.end ≡ both.was.end

  moves_same : IsMove → move_passes moves.now ≡ is_moved both.was.map.now new.now both.was.sup.now.nodesize both.was.end
  unfolding move_passes
  moves_same is = λ i. is_moved (is.before i) (is.after i) (is.size i) (is.until i)

  module _ (image : List ℕ) (c : IsCompared both image) (over : Over both image new.now c known_now) where
    abbrev was : Side
    was = side_with both.was image

    abbrev now : Side
    now = side_to both image new.now

    -- the root tree by its parts
    tree_at : (answer : Result Parts Finding)
        → tree_parts (pairs_of both.table.now) known_now was now (Some (root_tree_root both.was.sup.now)) (root_tree_root both.fresh.now) ≡ answer
        → tree both image new.now c known_now over ≡ answer
    tree_at answer is =
        subst (λ (s : Side).
        tree_parts (pairs_of both.table.now) known_now s now (Some (root_tree_root s.sup)) (root_tree_root both.fresh.now) ≡ answer)
        (was_is both image new.now c) is

    merged_at : (parts : Parts) (roots : List RootAt) → IsSortedOf root_before (roots_left both.roots.now parts.old_items parts.new_items) roots
        → Merged both image new.now c known_now over parts roots
    merged_at parts roots sort =
        subst (λ rs. IsSortedOf root_before (roots_left rs parts.old_items parts.new_items) roots) c.based.roots_are sort

    named_at : (roots : List RootAt) (answer : Result Parts Finding)
        → named_parts (pairs_of both.table.now) known_now was now both.roots.now roots ≡ answer
        → named_parts (pairs_of both.table.now) known_now (side_of image c.based.old) now c.based.olds roots ≡ answer
    named_at roots answer is =
        subst (λ rs. named_parts (pairs_of both.table.now) known_now (side_of image c.based.old) now rs roots ≡ answer) c.based.roots_are
        (subst (λ s. named_parts (pairs_of both.table.now) known_now s now both.roots.now roots ≡ answer) (was_is both image new.now c) is)

    gone_at : (roots : List RootAt) (answer : Result Parts Finding)
        → gone_all (pairs_of both.table.now) known_now was roots both.roots.now ≡ answer
        → gone_all (pairs_of both.table.now) known_now (side_of image c.based.old) roots c.based.olds ≡ answer
    gone_at roots answer is =
        subst (λ rs. gone_all (pairs_of both.table.now) known_now (side_of image c.based.old) roots rs ≡ answer) c.based.roots_are
        (subst (λ s. gone_all (pairs_of both.table.now) known_now s roots both.roots.now ≡ answer) (was_is both image new.now c) is)

    makes : (parts : Parts) (roots : List RootAt) → MakesOthers sides_by both.roots.now image parts roots
        → MakesRest both image c.based.old c.based.olds new.now parts roots
    makes parts roots m =
        rest_made both image new.now c known_now over m.root_parts m.named m.gone parts roots (tree_at (Ok m.root_parts) m.makes.tree)
        (merged_at m.root_parts roots m.makes.merged) m.judged (named_at roots (Ok m.named) m.named_are) (gone_at roots (Ok m.gone) m.gone_are) m.all

    finds : (finding : Finding) → FindsOthers sides_by both.roots.now image finding → FindsRest both image new.now finding
    finds finding (InTree failed) = found_tree both image new.now c known_now over finding (tree_at (Err finding) failed)
    finds finding (InItems parts roots m say) =
        found_items both image new.now c known_now over parts roots finding (tree_at (Ok parts) m.tree) (merged_at parts roots m.merged) say
    finds finding (InNamed parts roots m say failed) =
        found_named both image new.now c known_now over parts roots finding (tree_at (Ok parts) m.tree) (merged_at parts roots m.merged) say
        (named_at roots (Err finding) failed)
    finds finding (InGone roots failed) =
        elim (found_gone both image new.now c known_now over roots finding (gone_at roots (Err finding) failed)) [ ]

  pub rest_told : {D : Type 0} (disk : Ghosts D) (first last : D) (some all : TreeParts) (moving joined : Marks) (end : ℕ)
      (result : Result (List RootAt) Halt)
      → FitsCompared both end → IsMove
      → (AreApart new.now → 0 < both.was.sup.now.nodesize
      → AreMarkedFrom (pairs_of both.kept.now) (at_address (held_and_moved both.was.map.now new.now both.was.sup.now.nodesize both.was.end))
      (at_address (is_moved both.was.map.now new.now both.was.sup.now.nodesize both.was.end)) no_mark (marked_by moving))
      → ((tree address : ℕ) → marked_by joined tree address ≡ (marked_by moving tree address || marked_by both.marks.now tree address))
      → AreListedBy (pairs_of both.kept.now) (marked_by joined) (under_of starts.now)
      → (RootsStand (pairs_of both.table.now) both.roots.now → TellsOthers disk first last some all sides_by both.roots.now result)
      → TellsRest disk first last some all both new.now result
  rest_told disk first last some all moving joined end result fits is moved joins listed tells = by result tells
    where
      over : (image : List ℕ) (c : IsCompared both image) → HasNewMap both image new.now → Over both image new.now c known_now
      over image c has =
          over_by both image new.now c end (marked_by moving) (under_of starts.now) (move_passes moves.now) fits has moved
          (listed_either (pairs_of both.kept.now) (marked_by joined) (marked_by moving) (marked_by both.marks.now) (under_of starts.now) joins listed)
          (moves_same is)

      Stand : Type 0
      Stand = RootsStand (pairs_of both.table.now) both.roots.now

      found : (finding : Finding) (told : Option (List ℕ))
          → (Stand → IfSome told (λ image. FindsOthers sides_by both.roots.now image finding))
          → IfSome told (λ image. IsCompared both image → HasNewMap both image new.now → FindsRest both image new.now finding)
      found finding None others = tt
      found finding (Some image) others = λ c has. finds image c (over image c has) finding (others (roots_stand both image new.now c))

      done : (roots : List RootAt) (told : Option (List ℕ)) → (Stand → IfSome told (λ image.
          (parts : Parts) × MakesOthers sides_by both.roots.now image parts roots × IsAdded some all parts (disk.reads first) (disk.reads last)))
          → IfSome told (λ image. (c : IsCompared both image) → HasNewMap both image new.now
          → (parts : Parts) × MakesRest both image c.based.old c.based.olds new.now parts roots
          × IsAdded some all parts (disk.reads first) (disk.reads last))
      done roots None others = tt
      done roots (Some image) others = λ c has.
          let made = others (roots_stand both image new.now c) in
          (made.0, makes image c (over image c has) made.0 roots made.1, made.2)

      by : (r : Result (List RootAt) Halt) → (Stand → TellsOthers disk first last some all sides_by both.roots.now r)
          → TellsRest disk first last some all both new.now r
      by (Err (Found finding)) tells = found finding (disk.bytes first) tells
      by (Err Disk) tells = tt
      by (Err NoMemory) tells = tt
      by (Ok roots) tells = done roots (disk.bytes first) tells
