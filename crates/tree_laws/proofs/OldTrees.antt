-- The walks of all old trees of an image, each of which stops where the walk of the new tree of its id met kept blocks, or at none.
use Rattle.std.proofs.Common.{◌≡◌, ℕ, ◌-◌, ◌==◌, Bool, true, false, List, [], ◌∷◌, length, refl, ap, sym, subst, ◌∙◌, if◌then◌else◌}
use Rattle.std.specs.Prelude.{Option, Some, None, Ok, is_some, map}
use Rattle.std.specs.List.{AllByRecursion}
use Rattle.std.specs.Result.{IsOk}
use Rattle.std.specs.Ordering.{nat_cmp}
use Rattle.std.specs.FinMap.{FinMap}
use Rattle.verdict.proofs.Lists.{all_map as each_map}
use Rattle.verdict.specs.Rules.{and_then, no_key}
use Rattle.verdict.specs.declared.key.Key.{Key}
use Rattle.write_cache.specs.Cache.{overlaid}
use Rattle.super_reader.specs.declared.Super.{Super}
use Rattle.live_index.specs.Pairs.{Pairs}
use Rattle.live_index.specs.declared.live.Live.{Live}
use Rattle.node_reader.specs.Stored.{Stored, stored_in}
use Rattle.node_reader.specs.declared.expect.Expect.{Expect}
use Rattle.records.specs.Contents.{named_root}
use Rattle.records.specs.Walk.{Records, each, then_records, walk_of}
use Rattle.records.specs.WalkLaw.{visited}
use Rattle.touched_blocks.specs.Touched.{written_in}
use Rattle.tree_laws.specs.Keeping.{Comes, Marks, Stands, Under, anew_of, kept_of, live_at}
use Rattle.tree_laws.specs.LivePairs.{Walked, live_in, table_of}
use Rattle.tree_laws.specs.OldSide.{IsRoot, TellsShared, kept_at, kept_where}
use Rattle.tree_laws.specs.Shared.{are_read_alike, is_shared}
use Rattle.tree_laws.specs.SharedLaw.{HasTrees, KeepsShared, MarksTouched, moves_between, stays_between, touches_old}
use Rattle.tree_laws.specs.ShiftedLaw.{MovesListed}
use Rattle.tree_laws.specs.SkipLaw.{IsSound}
use Rattle.tree_laws.specs.Skips.{Kept, nothing, own_of, part_of, skip_of, unkept, where_new}
use Rattle.tree_laws.specs.Stops.{stops_of}
use Rattle.tree_laws.specs.TableLaw.{Tree}
use Rattle.tree_laws.proofs.Forest.{of_root, stands_as, tables_stand}
use Rattle.tree_laws.proofs.Images.{read_alike}
use Rattle.tree_laws.proofs.KeptImage.{IsOfImage, keeps_image, of_image, was}
use Rattle.tree_laws.proofs.OldSide.{old_side}
use Rattle.tree_laws.proofs.OldSupers.{give_alike}
use Rattle.tree_laws.proofs.OldTells.{gone, tells_shared}
use Rattle.tree_laws.proofs.Picking.{each_both}
use Rattle.tree_laws.proofs.Sifting.{starts_level}
use Rattle.tree_laws.proofs.Skipping.{skips}
use Rattle.tree_laws.proofs.Treed.{trees_walk}
use Rattle.volume_items.specs.declared.root_at.RootAt.{RootAt}

-- the roots of an image's trees have no low key and no high key
pub roots_of : (image : List ℕ) (whole : Walked) (trees : List Tree) → HasTrees image whole trees → AllByRecursion (λ tree. IsRoot tree.1) trees
roots_of image whole trees has =
    subst (AllByRecursion (λ (tree : Tree). IsRoot tree.1)) (sym has.trees_are) ((refl, refl), ((refl, refl), by has.roots))
  where
    by : (some : List RootAt)
        → AllByRecursion (λ (tree : Tree). IsRoot tree.1) (map (λ root. (stored_in image whole.chunks whole.sup.nodesize, named_root root)) some)
    by [] = tt
    by (root ∷ some) = ((refl, refl), by some)

-- superblocks by which blocks are read alike give the same walks of several trees
walks_alike : (a b : Super) → are_read_alike a b ≡ true → (trees : List Tree)
    → each (λ (tree : Tree). walk_of a tree.0 tree.1) trees ≡ each (λ (tree : Tree). walk_of b tree.0 tree.1) trees
walks_alike a b alike [] = refl
walks_alike a b alike (tree ∷ trees) =
    ap (λ one. then_records one (each (λ (t : Tree). walk_of a t.0 t.1) trees)) (read_alike a b tree.0 tree.1 alike)
    ∙ ap (then_records (walk_of b tree.0 tree.1)) (walks_alike a b alike trees)

-- where the same blocks are kept of those that a walk comes to, the same records are left
parts_same : (kept other : Kept) (sup : Super) (stored : Stored) (es : List Expect) → AllByRecursion (λ v. kept v ≡ other v) es
    → each (part_of kept nothing sup stored) es ≡ each (part_of other nothing sup stored) es
parts_same kept other sup stored [] all = refl
parts_same kept other sup stored (e ∷ es) all =
    ap (λ k. then_records (where_new k (own_of sup stored e) (Ok [])) (each (part_of kept nothing sup stored) es)) all.0
    ∙ ap (then_records (where_new (other e) (own_of sup stored e) (Ok []))) (parts_same kept other sup stored es all.1)

unkept_same : (kept other : Kept) (sup : Super) (stored : Stored) (root : Expect) → AllByRecursion (λ v. kept v ≡ other v) (visited sup stored root)
    → unkept kept nothing sup stored root ≡ unkept other nothing sup stored root
unkept_same kept other sup stored root all =
    ap (λ parts. and_then (walk_of sup stored root) (λ _. parts)) (parts_same kept other sup stored (visited sup stored root) all)

-- at no stop no block is kept
pub none_at : (pairs : Pairs) (under : Under) (e : Expect) → kept_at pairs [] under e ≡ None
unfolding kept_at
none_at pairs under e = refl

pub not_some : (here : Option Key) (last : Key) → here ≡ None → here ≡ Some last → ⊥
not_some here last none some = cc

module _ (image : List ℕ) (pending : FinMap nat_cmp ℕ) (old new : Walked) (before after : List Tree) (pairs : Pairs) (marked moving : Marks)
    (under : Under) where
  abbrev pub judged : List ℕ
  judged = overlaid pending 0 image

  abbrev pub moved : ℕ → Bool
  moved = moves_between old new (length image)

  abbrev pub K : Kept
  K = kept_of pairs marked moved under

  abbrev pub shared : Live → Bool
  shared live = is_shared old new (written_in pending) (length image) live

  -- whether a pair is shared tells which blocks of a new tree are kept, by the old superblock
  abbrev pub Tells : Tree → Type 0
  Tells now = TellsShared shared K old.sup now.0 now.1

  -- the walk of an old tree, which stops where that of the new one met kept blocks, gives the records of the pairs that are not shared
  abbrev pub GivesUnshared : Tree → Tree → Type 0
  GivesUnshared tree now =
      skip_of (kept_at pairs (stops_of K (anew_of under) new.sup now.0 now.1) under) nothing (anew_of under) old.sup tree.0 tree.1
      ≡ unkept (kept_where shared old.sup tree.0) nothing old.sup tree.0 tree.1

  -- so it is of each new tree, where the old trees are marked
  pub tells_all : HasTrees image old before → HasTrees judged new after → are_read_alike old.sup new.sup ≡ true
      → ((tree address : ℕ) → pairs tree address ≡ table_of (live_in old.seen) tree address)
      → AllByRecursion (MarksTouched old (written_in pending) (length image) marked) before → AllByRecursion Tells after
  tells_all has_old has_new alike pairs_are marks =
      let news = trees_walk judged new after has_new in
      let same = give_alike old.sup new.sup alike in
      let M = MarksTouched old (written_in pending) (length image) marked in
      let KeepsIf = λ (now : Tree). AllByRecursion (λ tree. tree.1.tree ≡ now.1.tree → M tree) before
      → KeepsShared old new (written_in pending) (length image) pairs marked under now.0 now.1 in
      let New_stands = λ (now : Tree). Stands (table_of (live_in new.seen)) new.sup now.0 now.1 in
      let Is = λ (now : Tree). Comes (λ v. is_some (K v) ≡ shared (live_at old.sup now.0 v)) old.sup now.0 now.1 in
      each_map (λ (now : Tree). (Is now → Tells now) × (KeepsIf now × New_stands now)) Tells after
      (λ now h. h.0 (record {
        fine = subst (λ (walk : Records). IsOk walk) (sym (read_alike old.sup new.sup now.0 now.1 alike)) h.1.1.each.fine;
        each = subst (AllByRecursion (λ v. is_some (K v) ≡ shared (live_at old.sup now.0 v))) (sym (same.comes now.0 now.1))
            (each_map (λ v. is_some (K v) ≡ shared (live_at new.sup now.0 v)) (λ v. is_some (K v) ≡ shared (live_at old.sup now.0 v))
            (visited new.sup now.0 now.1) (λ v is. is ∙ ap shared (sym (same.lives now.0 v)))
            (h.1.0 (each_map M (λ tree. tree.1.tree ≡ now.1.tree → M tree) before (λ tree m is. m) marks)));
      }))
      (each_both (λ now. Is now → Tells now) (λ now. KeepsIf now × New_stands now) after
      (tells_shared (stays_between old new (length image)) (touches_old old (written_in pending) (length image)) old new K old.sup after news.0 (walks_alike old.sup new.sup alike after ∙ news.1))
      (each_both KeepsIf New_stands after (keeps_image image pending old new before after pairs marked under has_old has_new alike pairs_are)
      (tables_stand new.sup after new.seen news.0 news.1)))

  -- what is known of an old tree
  pub record OldTree (tree : Tree) : Type 0 where
    pub root : IsRoot tree.1
    pub stands : Stands pairs old.sup tree.0 tree.1
    pub is : IsOfImage image old tree
    pub marks : MarksTouched old (written_in pending) (length image) marked tree
    pub moves : MovesListed old new (length image) moving under tree

  one : are_read_alike old.sup new.sup ≡ true → (tree now : Tree) → OldTree tree → IsOfImage judged new now → Tells now → now.1.tree ≡ tree.1.tree
      → GivesUnshared tree now
  one alike tree now known is tells same =
      ap (λ stops. skip_of (kept_at pairs stops under) nothing (anew_of under) old.sup tree.0 tree.1)
      (sym ((give_alike old.sup new.sup alike).stops K (anew_of under) now.0 now.1))
      ∙ old_side pairs marked moving (touches_old old (written_in pending) (length image)) moved under shared old.sup tree.0 now.0 tree.1 now.1
      known.root same known.stands known.marks known.moves.marks known.moves.lists
      (was image pending old new before pairs marked under alike now tree is known.is) tells

  -- so it is of each old tree with the new one of its id
  pub old_trees : HasTrees image old before → HasTrees judged new after → are_read_alike old.sup new.sup ≡ true
      → ((tree address : ℕ) → pairs tree address ≡ table_of (live_in old.seen) tree address)
      → AllByRecursion (MarksTouched old (written_in pending) (length image) marked) before
      → AllByRecursion (MovesListed old new (length image) moving under) before
      → AllByRecursion (λ tree. AllByRecursion (λ now. now.1.tree ≡ tree.1.tree → GivesUnshared tree now) after) before
  old_trees has_old has_new alike pairs_are marks moves =
      let table = table_of (live_in old.seen) in
      let olds = trees_walk image old before has_old in
      let M = MarksTouched old (written_in pending) (length image) marked in
      let L = MovesListed old new (length image) moving under in
      let Old_stands = λ (tree : Tree). Stands table old.sup tree.0 tree.1 in
      let Is = IsOfImage image old in
      let news : AllByRecursion (λ now. IsOfImage judged new now × Tells now) after =
      each_both (IsOfImage judged new) Tells after (of_image judged new after has_new) (tells_all has_old has_new alike pairs_are marks) in
      each_map (λ (tree : Tree). (IsRoot tree.1 × Old_stands tree) × (Is tree × (M tree × L tree)))
      (λ tree. AllByRecursion (λ now. now.1.tree ≡ tree.1.tree → GivesUnshared tree now) after) before
      (λ tree h. each_map (λ now. IsOfImage judged new now × Tells now) (λ now. now.1.tree ≡ tree.1.tree → GivesUnshared tree now) after
      (λ now n same. one alike tree now (record {
        root = h.0.0;
        stands = stands_as old.sup tree table pairs (pairs_are tree.1.tree) h.0.1;
        is = h.1.0;
        marks = h.1.1.0;
        moves = h.1.1.1;
      }) n.0 n.1 same) news)
      (each_both (λ (tree : Tree). IsRoot tree.1 × Old_stands tree) (λ tree. Is tree × (M tree × L tree)) before
      (each_both (λ (tree : Tree). IsRoot tree.1) Old_stands before (roots_of image old before has_old)
      (tables_stand old.sup before old.seen olds.0 olds.1))
      (each_both Is (λ tree. M tree × L tree) before (of_image image old before has_old) (each_both M L before marks moves)))

  -- where no new tree has an old one's id, a walk of the old tree that stops at no block does the same
  pub old_gone : HasTrees image old before → HasTrees judged new after
      → AllByRecursion (λ tree. AllByRecursion (λ now. (now.1.tree == tree.1.tree) ≡ false) after
      → skip_of (kept_at pairs [] under) nothing (anew_of under) old.sup tree.0 tree.1
      ≡ unkept (kept_where shared old.sup tree.0) nothing old.sup tree.0 tree.1) before
  old_gone has_old has_new =
      let olds = trees_walk image old before has_old in
      let news = trees_walk judged new after has_new in
      let none = kept_at pairs [] under in
      each_map (λ (tree : Tree). Stands (table_of (live_in old.seen)) old.sup tree.0 tree.1)
      (λ tree. AllByRecursion (λ now. (now.1.tree == tree.1.tree) ≡ false) after
      → skip_of none nothing (anew_of under) old.sup tree.0 tree.1 ≡ unkept (kept_where shared old.sup tree.0) nothing old.sup tree.0 tree.1) before
      (λ tree stands others.
      let sound : IsSound tree.1.tree none nothing (anew_of under) old.sup tree.0 = record {
        gives = λ e last same is. absurd (not_some (none e) last (none_at pairs under e) is);
        next = λ e. starts_level (e.level - 1) e (under e.tree e.address);
      } in
      skips none nothing (anew_of under) old.sup tree.0 tree.1 sound
      ∙ unkept_same none (kept_where shared old.sup tree.0) old.sup tree.0 tree.1
      (each_map (λ v. v.tree ≡ tree.1.tree) (λ v. none v ≡ kept_where shared old.sup tree.0 v) (visited old.sup tree.0 tree.1)
      (λ v of_tree.
      none_at pairs under v
      ∙ sym (ap (λ b. if b then Some no_key else None)
      (gone (stays_between old new (length image)) (touches_old old (written_in pending) (length image)) old new new.sup after (live_at old.sup tree.0 v) news.0 news.1
      (subst (λ id. AllByRecursion (λ (now : Tree). (now.1.tree == id) ≡ false) after) (sym of_tree) others))))
      (of_root old.sup tree stands.each.fine).each))
      (tables_stand old.sup before old.seen olds.0 olds.1)
