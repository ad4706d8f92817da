-- The same, of the trees of an image and of the image that pending writes make of it.
use Rattle.std.proofs.Common.{◌≡◌, ℕ, ◌==◌, true, ◌&&◌, List, [], ◌∷◌, length, refl, ap, sym, subst, ◌∙◌}
use Rattle.std.proofs.lemmas.Bool.{eqb-true}
use Rattle.std.specs.Prelude.{None, bytes_eq, map}
use Rattle.std.specs.List.{AllByRecursion}
use Rattle.std.specs.Ordering.{nat_cmp}
use Rattle.std.specs.FinMap.{FinMap}
use Rattle.verdict.proofs.Lists.{all_map as each_map}
use Rattle.verdict.proofs.Truth.{and_parts}
use Rattle.write_cache.specs.Cache.{overlaid}
use Rattle.super_reader.specs.declared.Super.{Super}
use Rattle.live_index.specs.Pairs.{Pairs}
use Rattle.node_reader.specs.Stored.{stored_in}
use Rattle.records.specs.Contents.{named_root}
use Rattle.touched_blocks.specs.Touched.{written_in}
use Rattle.tree_laws.specs.Keeping.{AreUntouched, Marks, Stands, Under}
use Rattle.tree_laws.specs.LivePairs.{Walked, live_in, table_of}
use Rattle.tree_laws.specs.Shared.{are_read_alike}
use Rattle.tree_laws.specs.SharedLaw.{HasTrees, IsBefore, KeepsShared, KeptLaw, MarksTouched, moves_between, stays_between, touches_old}
use Rattle.tree_laws.specs.TableLaw.{Tree}
use Rattle.tree_laws.proofs.Forest.{tables_stand}
use Rattle.tree_laws.proofs.Images.{stored_alike}
use Rattle.tree_laws.proofs.Kept.{keeps_tree}
use Rattle.tree_laws.proofs.Picking.{each_both}
use Rattle.tree_laws.proofs.Treed.{trees_walk}
use Rattle.volume_items.specs.declared.root_at.RootAt.{RootAt}

-- a tree of an image: its root has no high key, and it is read by the chunks
pub record IsOfImage (image : List ℕ) (whole : Walked) (tree : Tree) : Type 0 where
  pub high : tree.1.high ≡ None
  pub stored : tree.0 ≡ stored_in image whole.chunks whole.sup.nodesize

pub of_image : (image : List ℕ) (whole : Walked) (trees : List Tree) → HasTrees image whole trees → AllByRecursion (IsOfImage image whole) trees
of_image image whole trees has =
    subst (AllByRecursion (IsOfImage image whole)) (sym has.trees_are)
    (record { high = refl; stored = refl }, (record { high = refl; stored = refl }, by has.roots))
  where
    by : (some : List RootAt)
        → AllByRecursion (IsOfImage image whole) (map (λ root. (stored_in image whole.chunks whole.sup.nodesize, named_root root)) some)
    by [] = tt
    by (root ∷ some) = (record { high = refl; stored = refl }, by some)

pub nodesize_same : (a b : Super) → are_read_alike a b ≡ true → a.nodesize ≡ b.nodesize
nodesize_same a b alike =
    let one =
    and_parts (bytes_eq a.fsid b.fsid)
    (a.nodesize == b.nodesize && (a.incompat == b.incompat && (a.compat_ro == b.compat_ro && a.devid == b.devid))) alike in
    let two = and_parts (a.nodesize == b.nodesize) (a.incompat == b.incompat && (a.compat_ro == b.compat_ro && a.devid == b.devid)) one.1 in
    eqb-true a.nodesize b.nodesize two.0

module _ (image : List ℕ) (pending : FinMap nat_cmp ℕ) (old new : Walked) (before : List Tree) (pairs : Pairs) (marked : Marks) (under : Under) where
  abbrev pub judged : List ℕ
  judged = overlaid pending 0 image

  -- the blocks of the old tree of an id are marked
  abbrev pub Marked : ℕ → Tree → Type 0
  Marked id tree = tree.1.tree ≡ id → MarksTouched old (written_in pending) (length image) marked tree

  abbrev pub Keeps : Tree → Type 0
  Keeps now = AllByRecursion (Marked now.1.tree) before → KeepsShared old new (written_in pending) (length image) pairs marked under now.0 now.1

  pub was : are_read_alike old.sup new.sup ≡ true → (now tree : Tree) → IsOfImage judged new now → IsOfImage image old tree
      → AreUntouched (touches_old old (written_in pending) (length image)) (moves_between old new (length image)) tree.0 now.0
  was alike now tree is of =
      let here : now.0 ≡ stored_in judged new.chunks old.sup.nodesize =
      is.stored ∙ ap (stored_in judged new.chunks) (sym (nodesize_same old.sup new.sup alike)) in
      let there : tree.0 ≡ stored_in image old.chunks old.sup.nodesize = of.stored in
      subst (λ s. AreUntouched (touches_old old (written_in pending) (length image)) (moves_between old new (length image)) tree.0 s) (sym here)
      (subst (λ s. AreUntouched (touches_old old (written_in pending) (length image)) (moves_between old new (length image)) s
      (stored_in judged new.chunks old.sup.nodesize)) (sym there)
      (stored_alike image pending old.chunks new.chunks old.sup.nodesize))

  one : HasTrees image old before → are_read_alike old.sup new.sup ≡ true
      → ((tree address : ℕ) → pairs tree address ≡ table_of (live_in old.seen) tree address)
      → (now : Tree) → Stands (table_of (live_in new.seen)) new.sup now.0 now.1 → IsOfImage judged new now → Keeps now
  one has alike pairs_are now stands is marks =
      let olds = trees_walk image old before has in
      keeps_tree (stays_between old new (length image)) (touches_old old (written_in pending) (length image)) old new before pairs marked under now.0 now.1 olds.0 olds.1 stands is.high alike
      (λ address. pairs_are now.1.tree address)
      (each_map (λ tree. Marked now.1.tree tree × IsOfImage image old tree)
      (λ tree. tree.1.tree ≡ now.1.tree → IsBefore (stays_between old new (length image)) (touches_old old (written_in pending) (length image)) old marked now.0 tree) before
      (λ tree h same. record { marks = h.0 same; alike = was alike now tree is h.1 })
      (each_both (Marked now.1.tree) (IsOfImage image old) before marks (of_image image old before has)))

pub keeps_image : KeptLaw
keeps_image image pending old new before after pairs marked under has_old has_new alike pairs_are =
    let news = trees_walk (overlaid pending 0 image) new after has_new in
    let Is = IsOfImage (overlaid pending 0 image) new in
    each_map (λ (now : Tree). Stands (table_of (live_in new.seen)) new.sup now.0 now.1 × Is now)
    (Keeps image pending old new before pairs marked under) after
    (λ now h. one image pending old new before pairs marked under has_old alike pairs_are now h.0 h.1)
    (each_both (λ (now : Tree). Stands (table_of (live_in new.seen)) new.sup now.0 now.1) Is after
    (tables_stand new.sup after new.seen news.0 news.1) (of_image (overlaid pending 0 image) new after has_new))
