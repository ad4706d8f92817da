-- The first finding of the trees that are named now is that of their whole walks, where it is so with each tree.
use Rattle.std.proofs.Common.{◌≡◌, ℕ, ◌-◌, ◌==◌, Bool, true, false, List, [], ◌∷◌, ◌++◌, ◌⊎◌, inl, inr, length, refl, ap, sym, subst, ◌∙◌, if◌then◌else◌}
use Rattle.std.proofs.lemmas.Bool.{eqb-true}
use Rattle.std.specs.Prelude.{Option, Some, None, Result, Ok, Err, map}
use Rattle.std.specs.List.{AllByRecursion}
use Rattle.std.specs.Ordering.{nat_cmp}
use Rattle.std.specs.FinMap.{FinMap}
use Rattle.tree_change.proofs.Vanished.{among}
use Rattle.walk_laws.proofs.Trees.{step_ok}
use Rattle.verdict.specs.Rules.{and_then}
use Rattle.verdict.specs.declared.finding.Finding.{Finding}
use Rattle.verdict.specs.declared.key.Key.{Key}
use Rattle.write_cache.specs.Cache.{overlaid}
use Rattle.super_reader.specs.declared.Super.{Super}
use Rattle.live_index.specs.Pairs.{Pairs}
use Rattle.node_reader.specs.Stored.{Stored, stored_in}
use Rattle.node_reader.specs.declared.expect.Expect.{Expect}
use Rattle.records.specs.Contents.{chunk_tree_root, named_root, root_tree_root, tree_records}
use Rattle.records.specs.Seen.{Seen}
use Rattle.records.specs.Walk.{Records, behind, then_records, walk_in, walk_of}
use Rattle.records.specs.WalkLaw.{visited}
use Rattle.touched_blocks.specs.Marks.{no_mark}
use Rattle.touched_blocks.specs.Touched.{written_in}
use Rattle.tree_laws.specs.Ending.{ends_in}
use Rattle.tree_laws.specs.Keeping.{Stands, anew_of}
use Rattle.tree_laws.specs.KeepingWalk.{skip_in}
use Rattle.tree_laws.specs.LivePairs.{Walked, live_in, table_of}
use Rattle.tree_laws.specs.Meeting.{met_in}
use Rattle.tree_laws.specs.SkipLaw.{IsSound}
use Rattle.tree_laws.specs.Skips.{Kept, nothing, unkept}
use Rattle.tree_laws.specs.TableLaw.{Tree}
use Rattle.tree_laws.proofs.Forest.{stands_as}
use Rattle.tree_laws.proofs.ReadAlike.{listed_alike, marked_alike, stands_alike}
use Rattle.tree_laws.proofs.Sharing.{keeps}
use Rattle.tree_laws.proofs.Sifting.{starts_level}
use Rattle.tree_laws.proofs.Skipping.{skips, unkept_in, unkept_is}
use Rattle.tree_laws.proofs.Trails.{Tells, Trail, all_own, tells, trail_of}
use Rattle.tree_change.specs.AllTrees.{IsOver, KnowsTrees, NamedLaw, named_parts, no_parts, root_named, with_parts}
use Rattle.tree_change.specs.OneTree.{GivesTree, IsAmong, KnowsNothing, KnowsTree, OneTreeLaw, old_tree, side_of}
use Rattle.tree_change.specs.Unchanged.{ChangesListed, changes_at, none_touched}
use Rattle.tree_change.specs.Walks.{Known, NewWalk, Parts, Side, kept_by, lasts_by, listed_by, new_walk, no_tree, parts_of, tree_parts}
use Rattle.tree_change.proofs.Olds.{fine_step, gathered, ok_never, old_stands, step_err}
use Rattle.tree_change.proofs.OneOld.{untouched}
use Rattle.tree_change.proofs.OnePlain.{kept_same, nothing_marked}
use Rattle.tree_change.proofs.Whole.{KeepsNone, none_of}
use Rattle.volume_items.specs.declared.root_at.RootAt.{RootAt}

-- records have the finding of others, and where they have none the others have none
pub record IsLike (some whole : Records) : Type 0 where
  pub found : (finding : Finding) → some ≡ Err finding → whole ≡ Err finding
  pub fine : (records : List Seen) → some ≡ Ok records → (all : List Seen) × (whole ≡ Ok all)

-- what is left of a walk has the finding of the walk
pub left_like : (kept : Kept) (sup : Super) (stored : Stored) (e : Expect) → IsLike (unkept kept nothing sup stored e) (walk_of sup stored e)
left_like kept sup stored e =
    subst (λ left. IsLike left (walk_of sup stored e)) (sym (unkept_is kept nothing sup stored e)) (by (trail_of sup stored e) (tells sup stored e))
  where
    by : (trail : Trail) → Tells sup stored trail (walk_of sup stored e) (visited sup stored e)
        → IsLike (unkept_in kept nothing trail) (walk_of sup stored e)
    by (Err finding) t = record { found = λ other at. t.0 ∙ at; fine = λ records at. absurd (cc) }
    by (Ok visits) t = record { found = λ finding at. absurd (cc); fine = λ records at. (all_own visits, t.0) }

-- where no block is kept, blocks are kept soundly
none_sound : (kept : Kept) (known : Known) (tree : ℕ) (sup : Super) (stored : Stored) → KeepsNone kept
    → IsSound tree kept nothing (anew_of known.under) sup stored
none_sound kept known tree sup stored none = record {
  gives = λ v last same is. absurd (not_some (kept v) last (none v) is);
  next = λ v. starts_level (v.level - 1) v (known.under v.tree v.address);
}
  where
    not_some : (here : Option Key) (last : Key) → here ≡ None → here ≡ Some last → ⊥
    not_some here last none some = cc

-- a walk of a tree as it is, of which blocks are kept soundly
module _ (known : Known) (is : Side) (now : Expect) where
  abbrev now_stored : Stored
  now_stored = stored_in is.image is.chunks is.sup.nodesize

  abbrev Sound : Type 0
  Sound = IsSound now.tree (kept_by known) nothing (listed_by known) is.sup now_stored

  abbrev walk : Records
  walk = walk_of is.sup now_stored now

  abbrev skip : Records
  skip = skip_in (kept_by known) (listed_by known) is.sup is.chunks now is.image

  skip_like : Sound → IsLike skip walk
  unfolding skip_in
  skip_like sound =
      subst (λ some. IsLike some walk) (sym (skips (kept_by known) nothing (listed_by known) is.sup now_stored now sound))
      (left_like (kept_by known) is.sup now_stored now)

  abbrev made : List Seen → NewWalk
  made records = record {
    read = gathered records;
    met = met_in (kept_by known) (listed_by known) is.sup is.chunks now is.image;
    ended = (ends_in (kept_by known) (listed_by known) (lasts_by known) is.sup is.chunks now is.image).blocks;
  }

  new_found : Sound → (finding : Finding) → new_walk known is now ≡ Err finding → walk ≡ Err finding
  unfolding new_walk
  new_found sound finding at = by (step_err skip (λ records. fine_step (made records)) finding at)
    where
      by : (skip ≡ Err finding) ⊎ ((records : List Seen) × (skip ≡ Ok records) × (fine_step (made records) ≡ Err finding)) → walk ≡ Err finding
      by (inl failed) = (skip_like sound).found finding failed
      by (inr s) = elim (ok_never (made s.0) finding s.2) [ ]

  new_fine : Sound → (new : NewWalk) → new_walk known is now ≡ Ok new → (all : List Seen) × (walk ≡ Ok all)
  unfolding new_walk
  new_fine sound new at =
      let s = step_ok skip (λ records. fine_step (made records)) new at in
      (skip_like sound).fine s.0 s.1

  -- what is walked of a tree that is has the finding of its whole walk
  record IsFound (pairs : Pairs) (was : Side) (before : Option Expect) : Type 0 where
    found : (finding : Finding) → tree_parts pairs known was is before now ≡ Err finding → walk_in is.sup is.chunks now is.image ≡ Err finding
    fine : (parts : Parts) → tree_parts pairs known was is before now ≡ Ok parts
        → (all : List Seen) × (walk_in is.sup is.chunks now is.image ≡ Ok all)

  -- so it is where no old tree is walked
  found_none : (pairs : Pairs) (was : Side) → Sound → IsFound pairs was None
  unfolding tree_parts walk_in
  found_none pairs was sound = record {
    found = λ finding at. by finding (step_err (new_walk known is now) (λ new. fine_step (parts_of pairs new no_tree)) finding at);
    fine = λ parts at.
        let s = step_ok (new_walk known is now) (λ new. fine_step (parts_of pairs new no_tree)) parts at in
        new_fine sound s.0 s.1;
  }
    where
      by : (finding : Finding) → (new_walk known is now ≡ Err finding)
          ⊎ ((new : NewWalk) × (new_walk known is now ≡ Ok new) × (fine_step (parts_of pairs new no_tree) ≡ Err finding)) → walk ≡ Err finding
      by finding (inl failed) = new_found sound finding failed
      by finding (inr s) = elim (ok_never (parts_of pairs s.0 no_tree) finding s.2) [ ]

  found_given : (image : List ℕ) (pending : FinMap nat_cmp ℕ) (old : Walked) (pairs : Pairs) (before : Option Expect)
      → GivesTree image pending old pairs is known before now → IsFound pairs (side_of image old) before
  found_given image pending old pairs before gives = record {
    found = gives.found;
    fine = λ parts at. let given = gives.parts parts at in (given.1, given.3);
  }

abbrev some_expect : Expect → Option Expect
some_expect e = Some e

same_some : (a b : Expect) → some_expect a ≡ some_expect b → a ≡ b
same_some a b is = cc

-- the roots of trees by their names
module _ (stored : Stored) (id : ℕ) where
  abbrev named_tree : RootAt → Tree
  named_tree root = (stored, named_root root)

  named_some : (roots : List RootAt) (e : Expect) → root_named roots id ≡ Some e
      → (e.tree ≡ id) × IsAmong (stored, e) (map named_tree roots)
  named_some [] e at = absurd (cc)
  named_some (root ∷ roots) e at = by (root.key.objectid == id) refl at (named_some roots e)
    where
      by : (b : Bool) → (root.key.objectid == id) ≡ b → (if b then Some (named_root root) else root_named roots id) ≡ Some e
          → (root_named roots id ≡ Some e → (e.tree ≡ id) × IsAmong (stored, e) (map named_tree roots))
          → (e.tree ≡ id) × IsAmong (stored, e) (map named_tree (root ∷ roots))
      by true is at rest =
          let same = same_some (named_root root) e at in
          (ap (λ (x : Expect). x.tree) (sym same) ∙ eqb-true root.key.objectid id is, inl (ap (λ (x : Expect). (stored, x)) (sym same)))
      by false is at rest = let r = rest at in (r.0, inr r.1)

  named_none : (roots : List RootAt) → root_named roots id ≡ None
      → AllByRecursion (λ (tree : Tree). (tree.1.tree == id) ≡ false) (map named_tree roots)
  named_none [] at = tt
  named_none (root ∷ roots) at = by (root.key.objectid == id) refl at (named_none roots)
    where
      by : (b : Bool) → (root.key.objectid == id) ≡ b → (if b then Some (named_root root) else root_named roots id) ≡ None
          → (root_named roots id ≡ None → AllByRecursion (λ (tree : Tree). (tree.1.tree == id) ≡ false) (map named_tree roots))
          → AllByRecursion (λ (tree : Tree). (tree.1.tree == id) ≡ false) (map named_tree (root ∷ roots))
      by true is at rest = absurd (cc)
      by false is at rest = (is, rest at)

-- what is known of a tree as it was keeps blocks soundly
pub known_sound : (image : List ℕ) (pending : FinMap nat_cmp ℕ) (old : Walked) (is : Side) (known : Known) (e : Expect)
    → KnowsTree image pending old is known (Some e) → Stands (table_of (live_in old.seen)) old.sup (old_tree image old e).0 e
    → is.image ≡ overlaid pending 0 image
    → IsSound e.tree (kept_by known) nothing (listed_by known) is.sup (stored_in is.image is.chunks is.sup.nodesize)
known_sound image pending old is known e k stands over =
    let was = (old_tree image old e).0 in
    let now = stored_in is.image is.chunks is.sup.nodesize in
    let changes = changes_at old is.chunks (written_in pending) (length image) in
    let old_stands =
    stands_alike old.sup is.sup k.alike known.pairs was e
    (stands_as old.sup (old_tree image old e) (table_of (live_in old.seen)) known.pairs (k.pairs_are e.tree) stands) in
    subst (λ kept. IsSound e.tree kept nothing (listed_by known) is.sup now) (sym (kept_same image pending old is known (Some e) k))
    (keeps known.pairs no_mark k.changing none_touched changes known.under is.sup was now e old_stands
    (nothing_marked is.sup was e old_stands.each.fine)
    (marked_alike old.sup is.sup k.alike k.changing changes was e k.changes.marks)
    (listed_alike old.sup is.sup k.alike known.under k.changing was e k.changes.lists)
    (untouched image pending old [] known.pairs is known.pairs known.under e k.alike over))

-- what is known of all old trees is known of one of them, and of none
knows_some : (image : List ℕ) (pending : FinMap nat_cmp ℕ) (old : Walked) (trees : List Tree) (is : Side) (known : Known) (e : Expect)
    → KnowsTrees image pending old trees is known → IsAmong (old_tree image old e) trees → KnowsTree image pending old is known (Some e)
knows_some image pending old trees is known e k one = record {
  alike = k.alike;
  pairs_are = k.pairs_are;
  moved_is = k.moved_is;
  marked_is = k.marked_is;
  changing = k.changing;
  changes = among (ChangesListed old is.chunks (written_in pending) (length image) k.changing known.under) (old_tree image old e) trees one k.changes;
}

knows_none : (image : List ℕ) (pending : FinMap nat_cmp ℕ) (old : Walked) (trees : List Tree) (is : Side) (known : Known)
    → KnowsTrees image pending old trees is known → KnowsTree image pending old is known None
knows_none image pending old trees is known k =
    record { alike = k.alike; pairs_are = k.pairs_are; moved_is = k.moved_is; marked_is = k.marked_is; changing = k.changing; changes = tt }

module _ (law : OneTreeLaw) (image : List ℕ) (pending : FinMap nat_cmp ℕ) (old : Walked) (olds : List RootAt) (trees : List Tree) (pairs : Pairs)
    (is : Side) (known : Known) (over : IsOver image pending old olds trees pairs is known) where
  abbrev was : Side
  was = side_of image old

  abbrev named_before : ℕ → Option Expect
  named_before id = root_named olds id

  abbrev Found : RootAt → Option Expect → Type 0
  Found root before = IsFound known is (named_root root) pairs was before

  -- each tree that a root item names is found so, by the old tree of its id
  found_some : (root : RootAt) (e : Expect) → named_before root.key.objectid ≡ Some e → Found root (Some e)
  found_some root e at =
      let some = named_some (stored_in image old.chunks old.sup.nodesize) root.key.objectid olds e at in
      let one : IsAmong (old_tree image old e) trees = subst (IsAmong (old_tree image old e)) (sym over.trees_are) (inr (inr some.1)) in
      found_given known is (named_root root) image pending old pairs (Some e)
      (law image pending old trees pairs is known (Some e) (named_root root) (record {
        has = over.has;
        pairs_are = over.pairs_are;
        over = over.over;
        root = (refl, refl);
        was = (some.0, one);
        known_is = by one over.known_is;
      }))
    where
      by : IsAmong (old_tree image old e) trees → KnowsTrees image pending old trees is known ⊎ KnowsNothing old is known
          → KnowsTree image pending old is known (Some e) ⊎ KnowsNothing old is known
      by one (inl k) = inl (knows_some image pending old trees is known e k one)
      by one (inr k) = inr k

  -- no root item names the chunk tree or the root tree; their walks would be found so too
  found_other : (root : RootAt) (e : Expect) → IsAmong (old_tree image old e) trees → e.tree ≡ root.key.objectid → Found root None
  found_other root e one same =
      found_none known is (named_root root) pairs was
      (subst (λ id. IsSound id (kept_by known) nothing (listed_by known) is.sup (stored_in is.image is.chunks is.sup.nodesize)) same
      (by over.known_is))
    where
      by : KnowsTrees image pending old trees is known ⊎ KnowsNothing old is known
          → IsSound e.tree (kept_by known) nothing (listed_by known) is.sup (stored_in is.image is.chunks is.sup.nodesize)
      by (inl k) =
          known_sound image pending old is known e (knows_some image pending old trees is known e k one)
          (among (λ tree. Stands (table_of (live_in old.seen)) old.sup tree.0 tree.1) (old_tree image old e) trees one
          (old_stands image old trees over.has)) over.over
      by (inr k) =
          none_sound (kept_by known) known e.tree is.sup (stored_in is.image is.chunks is.sup.nodesize)
          (none_of known.pairs known.marked known.moved known.under k.none)

  found_new : (root : RootAt) → named_before root.key.objectid ≡ None → (3 == root.key.objectid) ≡ false → (1 == root.key.objectid) ≡ false
      → Found root None
  found_new root at chunk first =
      found_given known is (named_root root) image pending old pairs None
      (law image pending old trees pairs is known None (named_root root) (record {
        has = over.has;
        pairs_are = over.pairs_are;
        over = over.over;
        root = (refl, refl);
        was = subst (AllByRecursion (λ (tree : Tree). (tree.1.tree == root.key.objectid) ≡ false)) (sym over.trees_are)
            (chunk, (first, named_none (stored_in image old.chunks old.sup.nodesize) root.key.objectid olds at));
        known_is = by over.known_is;
      }))
    where
      by : KnowsTrees image pending old trees is known ⊎ KnowsNothing old is known
          → KnowsTree image pending old is known None ⊎ KnowsNothing old is known
      by (inl k) = inl (knows_none image pending old trees is known k)
      by (inr k) = inr k

  found_each : (root : RootAt) (before : Option Expect) → named_before root.key.objectid ≡ before → Found root before
  found_each root (Some e) at = found_some root e at
  found_each root None at = by (3 == root.key.objectid) (1 == root.key.objectid) refl refl
    where
      by : (a b : Bool) → (3 == root.key.objectid) ≡ a → (1 == root.key.objectid) ≡ b → Found root None
      by true b chunk first =
          found_other root (chunk_tree_root old.sup) (subst (IsAmong (old_tree image old (chunk_tree_root old.sup))) (sym over.trees_are) (inl refl))
          (eqb-true 3 root.key.objectid chunk)
      by false true chunk first =
          found_other root (root_tree_root old.sup)
          (subst (IsAmong (old_tree image old (root_tree_root old.sup))) (sym over.trees_are) (inr (inl refl)))
          (eqb-true 1 root.key.objectid first)
      by false false chunk first = found_new root at chunk first

  abbrev parts_from : List RootAt → Result Parts Finding
  parts_from news = named_parts pairs known was is olds news

  abbrev records_from : List RootAt → Records
  records_from news = tree_records is.sup is.chunks news is.image

  -- all of them
  record AreFound (news : List RootAt) : Type 0 where
    found : (finding : Finding) → parts_from news ≡ Err finding → records_from news ≡ Err finding
    fine : (parts : Parts) → parts_from news ≡ Ok parts → (records : List Seen) × (records_from news ≡ Ok records)

  found_first : (root : RootAt) (news : List RootAt) → Found root (named_before root.key.objectid) → AreFound news → AreFound (root ∷ news)
  unfolding named_parts behind
  found_first root news one more = record {
    found = λ finding at. first finding (step_err here with_rest finding at);
    fine = λ parts at.
        let s = step_ok here with_rest parts at in
        let t = step_ok (parts_from news) (λ rest. fine_step (with_parts s.0 rest)) parts s.2 in
        both (one.fine s.0 s.1) (more.fine t.0 t.1);
  }
    where
      here : Result Parts Finding
      here = tree_parts pairs known was is (named_before root.key.objectid) (named_root root)

      with_rest : Parts → Result Parts Finding
      with_rest parts = and_then (parts_from news) (λ rest. fine_step (with_parts parts rest))

      whole : Records
      whole = walk_in is.sup is.chunks (named_root root) is.image

      later : (parts : Parts) (finding : Finding) → (all : List Seen) × (whole ≡ Ok all)
          → (parts_from news ≡ Err finding)
          ⊎ ((rest : Parts) × (parts_from news ≡ Ok rest) × (fine_step (with_parts parts rest) ≡ Err finding))
          → then_records whole (records_from news) ≡ Err finding
      later parts finding fine (inl failed) = rw (fine.1, more.found finding failed) refl
      later parts finding fine (inr s) = elim (ok_never (with_parts parts s.0) finding s.2) [ ]

      first : (finding : Finding) → (here ≡ Err finding) ⊎ ((parts : Parts) × (here ≡ Ok parts) × (with_rest parts ≡ Err finding))
          → then_records whole (records_from news) ≡ Err finding
      first finding (inl failed) = rw (one.found finding failed) refl
      first finding (inr s) =
          later s.0 finding (one.fine s.0 s.1) (step_err (parts_from news) (λ rest. fine_step (with_parts s.0 rest)) finding s.2)

      both : (all : List Seen) × (whole ≡ Ok all) → (records : List Seen) × (records_from news ≡ Ok records)
          → (records : List Seen) × (then_records whole (records_from news) ≡ Ok records)
      both a b = (a.0 ++ b.0, rw (a.1, b.1) refl)

  found_all : (news : List RootAt) → AreFound news
  unfolding named_parts
  found_all [] = record { found = λ finding at. elim (ok_never no_parts finding at) [ ]; fine = λ parts at. ([], refl) }
  found_all (root ∷ news) = found_first root news (found_each root (named_before root.key.objectid) refl) (found_all news)

pub named : OneTreeLaw → NamedLaw
named law image pending old olds trees pairs is known news over =
    let all = found_all law image pending old olds trees pairs is known over news in
    (all.found, all.fine)
