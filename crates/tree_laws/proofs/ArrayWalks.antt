-- What the walks of the old and the new chunk tree give, where the blocks are judged by the chunks of the new system array alone.
use Rattle.std.proofs.Common.{◌≡◌, ℕ, Bool, true, false, List, [], ◌∷◌, ◌++◌, length, refl, ap, sym, subst, ◌∙◌, if◌then◌else◌}
use Rattle.std.specs.Prelude.{Ok, is_some, map}
use Rattle.std.specs.List.{AllByRecursion, filter, flat_map}
use Rattle.std.specs.Result.{IsOk}
use Rattle.std.specs.Ordering.{nat_cmp}
use Rattle.std.specs.FinMap.{FinMap}
use Rattle.verdict.proofs.Lists.{all_map}
use Rattle.verdict.specs.declared.place.Chunk.{Chunk}
use Rattle.write_cache.specs.Cache.{overlaid}
use Rattle.super_reader.specs.declared.Super.{Super}
use Rattle.live_index.specs.Pairs.{Pairs}
use Rattle.live_index.specs.declared.live.Live.{Live}
use Rattle.node_reader.specs.Stored.{stored_in}
use Rattle.node_reader.specs.declared.expect.Expect.{Expect}
use Rattle.records.specs.Contents.{chunk_tree_root}
use Rattle.records.specs.Walk.{Records}
use Rattle.records.specs.WalkLaw.{visited}
use Rattle.touched_blocks.specs.Touched.{written_in}
use Rattle.tree_laws.specs.ArrayLaw.{AreBoth, chunk_tree_by, moves_by}
use Rattle.tree_laws.specs.ArrayShifts.{ArrayShiftedLaw, ArraySoundLaw, ArrayWalksLaw, IsKnownByArray, IsOneTree, MovesListedBy, kept_by}
use Rattle.tree_laws.specs.Keeping.{AreUntouched, Marks, Stands, Under, anew_of, kept_of, live_at}
use Rattle.tree_laws.specs.LivePairs.{Walked, live_in, table_of, walked}
use Rattle.tree_laws.specs.MovedLaw.{is_other_than, kept_in, shifted_by}
use Rattle.tree_laws.specs.Shared.{are_read_alike, is_shared}
use Rattle.tree_laws.specs.SharedLaw.{KeepsShared, MarksTouched, WalksAlike, moves_between, touches_old}
use Rattle.tree_laws.specs.ShiftedLaw.{MovesListed, shifted_met}
use Rattle.tree_laws.specs.TableLaw.{trees_in}
use Rattle.tree_laws.proofs.ArrayKept.{keeps_all, kept_by_array}
use Rattle.tree_laws.proofs.ArrayPlaces.{array_is, live_same}
use Rattle.tree_laws.proofs.Forest.{stands_as, tables_stand}
use Rattle.tree_laws.proofs.Images.{stored_alike}
use Rattle.tree_laws.proofs.KeptImage.{nodesize_same, was}
use Rattle.tree_laws.proofs.KnownShared.{knows_shared}
use Rattle.tree_laws.proofs.Meeting.{shows}
use Rattle.tree_laws.proofs.OldSide.{old_side}
use Rattle.tree_laws.proofs.Picking.{each_both}
use Rattle.tree_laws.proofs.ReadAlike.{listed_alike, marked_alike, stands_alike}
use Rattle.tree_laws.proofs.Sharing.{keeps}
use Rattle.tree_laws.proofs.Shifting.{shifts}
use Rattle.tree_laws.proofs.Treed.{chunk_tree, has_trees, steps_of, trees_walk}

-- the table stands for the old chunk tree, by another superblock by which blocks are read alike
chunk_stands : (image : List ℕ) (old : Walked) (fresh : Super) (pairs : Pairs) → walked image ≡ Ok old → are_read_alike old.sup fresh ≡ true
    → ((address : ℕ) → pairs 3 address ≡ table_of (live_in old.seen) 3 address)
    → Stands pairs fresh (stored_in image old.chunks old.sup.nodesize) (chunk_tree_root old.sup)
chunk_stands image old fresh pairs was alike pairs_are =
    let s = steps_of image old was in
    let before = trees_in old.sup old.chunks old.chunks s.roots image in
    let olds = trees_walk image old before (has_trees image old s was) in
    let tree = chunk_tree_by old.chunks old.sup image in
    stands_alike old.sup fresh alike pairs tree.0 tree.1
    (stands_as old.sup tree (table_of (live_in old.seen)) pairs pairs_are (tables_stand old.sup before old.seen olds.0 olds.1).0)

pub array_sound : ArraySoundLaw
array_sound image pending old fresh array pairs marked moving under is alike known =
    let was = chunk_tree_by old.chunks old.sup image in
    let end = length image in
    let touched = touches_old old (written_in pending) end in
    let moved = moves_by old array end in
    let judged = overlaid pending 0 image in
    keeps pairs marked moving touched moved under fresh was.0 (stored_in judged array fresh.nodesize) was.1
    (chunk_stands image old fresh pairs is alike known.pairs_are)
    (marked_alike old.sup fresh alike marked touched was.0 was.1 known.marks)
    (marked_alike old.sup fresh alike moving moved was.0 was.1 known.moves.marks)
    (listed_alike old.sup fresh alike under moving was.0 was.1 known.moves.lists)
    (subst (λ n. AreUntouched touched moved was.0 (stored_in judged array n)) (nodesize_same old.sup fresh alike)
    (stored_alike image pending old.chunks array old.sup.nodesize))

one_tree : (image : List ℕ) (pending : FinMap nat_cmp ℕ) (old new : Walked) (array : List Chunk) (pairs : Pairs) (marked moving : Marks)
    (under : Under)
    → AreBoth image pending old new array → IsKnownByArray image pending old array pairs marked moving under
    → IsOneTree image pending old new array pairs marked moving under (chunk_tree_by old.chunks old.sup image)
    (chunk_tree_by array new.sup (overlaid pending 0 image))
one_tree image pending old new array pairs marked moving under both known =
    let was = chunk_tree_by old.chunks old.sup image in
    let end = length image in
    let kept = kept_by_array image pending old new array pairs marked under both known.pairs_are known.marks in
    record {
      stands = chunk_stands image old new.sup pairs both.was both.alike known.pairs_are;
      marks = marked_alike old.sup new.sup both.alike marked (touches_old old (written_in pending) end) was.0 was.1 known.marks;
      moves = marked_alike old.sup new.sup both.alike moving (moves_by old array end) was.0 was.1 known.moves.marks;
      lists = listed_alike old.sup new.sup both.alike under moving was.0 was.1 known.moves.lists;
      untouched = kept.untouched;
      tells = kept.tells;
    }

pub array_walks : ArrayWalksLaw
array_walks image pending old new array pairs marked moving under both known =
    let end = length image in
    let touched = touches_old old (written_in pending) end in
    let moved = moves_by old array end in
    let shared = is_shared old new (written_in pending) end in
    let was = chunk_tree_by old.chunks old.sup image in
    let is = chunk_tree_by array new.sup (overlaid pending 0 image) in
    let one = one_tree image pending old new array pairs marked moving under both known in (
      one,
      record {
        shared = knows_shared pairs marked touched moved under shared new.sup was.0 is.0 was.1 is.1 refl one.stands one.marks one.untouched one.tells;
        old_side = old_side pairs marked moving touched moved under shared new.sup was.0 is.0 was.1 is.1 (refl, refl) refl one.stands one.marks
            one.moves one.lists one.untouched one.tells;
        shifted = shows pairs marked moving touched moved under new.sup was.0 is.0 was.1 is.1 one.stands one.marks one.moves one.lists
            one.untouched refl one.tells.kept_is.fine;
      },
    )

-- blocks of which the same are kept, and the same is known
filtered : (f g : Expect → Bool) (a b : Expect → Live) (es : List Expect) → AllByRecursion (λ v. (f v ≡ g v) × (a v ≡ b v)) es
    → map a (filter f es) ≡ map b (filter g es)
filtered f g a b [] all = refl
filtered f g a b (v ∷ es) all = by (f v) (g v) all.0.0 (filtered f g a b es all.1)
  where
    by : (x y : Bool) → x ≡ y → map a (filter f es) ≡ map b (filter g es)
        → map a (if x then v ∷ filter f es else filter f es) ≡ map b (if y then v ∷ filter g es else filter g es)
    by true true is rest = rw (all.0.1, rest) refl
    by false false is rest = rest
    by true false is rest = absurd (cc)
    by false true is rest = absurd (cc)

-- what shifted of the chunk tree is met by all chunks and by the array's alike
chunk_shifted : (image : List ℕ) (pending : FinMap nat_cmp ℕ) (old new : Walked) (array : List Chunk) (pairs : Pairs)
    (marked moving array_moving : Marks) (under array_under : Under)
    → AreBoth image pending old new array
    → ((address : ℕ) → pairs 3 address ≡ table_of (live_in old.seen) 3 address)
    → MarksTouched old (written_in pending) (length image) marked (chunk_tree_by old.chunks old.sup image)
    → MovesListed old new (length image) moving under (chunk_tree_by old.chunks old.sup image)
    → MovesListedBy old array (length image) array_moving array_under (chunk_tree_by old.chunks old.sup image)
    → shifted_met (kept_of pairs marked (moves_between old new (length image)) under) (anew_of under) pairs new
    (chunk_tree_by new.chunks new.sup (overlaid pending 0 image))
    ≡ shifted_met (kept_by old array (length image) pairs marked array_under) (anew_of array_under) pairs new
    (chunk_tree_by array new.sup (overlaid pending 0 image))
chunk_shifted image pending old new array pairs marked moving array_moving under array_under both pairs_are marks moves array_moves =
    let judged = overlaid pending 0 image in
    let s = steps_of image old both.was in
    let t = steps_of judged new both.is.walks in
    let end = length image in
    let touched = touches_old old (written_in pending) end in
    let shared = is_shared old new (written_in pending) end in
    let tree = chunk_tree_by old.chunks old.sup image in
    let all = chunk_tree_by new.chunks new.sup judged in
    let mine = chunk_tree_by array new.sup judged in
    let K = kept_of pairs marked (moves_between old new end) under in
    let mine_kept = kept_by old array end pairs marked array_under in
    let walks = array_walks image pending old new array pairs marked array_moving array_under both
    (record { pairs_are = pairs_are; marks = marks; moves = array_moves }) in
    let alike : WalksAlike new.sup mine.0 all.0 (chunk_tree_root new.sup) = chunk_tree judged new array both.is.walks both.is.array_is in
    let keeps : KeepsShared old new (written_in pending) end pairs marked under all.0 (chunk_tree_root new.sup) =
    keeps_all image pending old new pairs marked under s t (subst (AreBoth image pending old new) (sym (array_is judged new array t both.is)) both)
    pairs_are marks in
    let by_all : shifted_by pairs new.sup all.0 (kept_in K new.sup all.0 all.1) ≡ shifted_met K (anew_of under) pairs new all =
    shows pairs marked moving touched (moves_between old new end) under new.sup tree.0 all.0 tree.1 all.1
    (chunk_stands image old new.sup pairs both.was both.alike pairs_are)
    (marked_alike old.sup new.sup both.alike marked touched tree.0 tree.1 marks)
    (marked_alike old.sup new.sup both.alike moving (moves_between old new end) tree.0 tree.1 moves.marks)
    (listed_alike old.sup new.sup both.alike under moving tree.0 tree.1 moves.lists)
    (was image pending old new [] pairs marked under both.alike all tree (record { high = refl; stored = refl })
    (record { high = refl; stored = refl })) refl
    (subst (λ (w : Records). IsOk w) (sym alike.walk) walks.0.tells.kept_is.fine) in
    let es = visited new.sup mine.0 mine.1 in
    let Keeps = λ (v : Expect). is_some (K v) ≡ shared (live_at new.sup all.0 v) in
    let Mine = λ (v : Expect). is_some (mine_kept v) ≡ shared (live_at new.sup mine.0 v) in
    let Live_is = λ (v : Expect). live_at new.sup mine.0 v ≡ live_at new.sup all.0 v in
    let same : map (live_at new.sup all.0) (filter (λ v. is_some (K v)) (visited new.sup all.0 all.1))
    ≡ map (live_at new.sup mine.0) (filter (λ v. is_some (mine_kept v)) es) =
    ap (λ blocks. map (live_at new.sup all.0) (filter (λ v. is_some (K v)) blocks)) alike.blocks
    ∙ filtered (λ v. is_some (K v)) (λ v. is_some (mine_kept v)) (live_at new.sup all.0) (live_at new.sup mine.0) es
    (all_map (λ v. (Keeps v × Mine v) × Live_is v)
    (λ v. (is_some (K v) ≡ is_some (mine_kept v)) × (live_at new.sup all.0 v ≡ live_at new.sup mine.0 v))
    es (λ v h. (h.0.0 ∙ (ap shared (sym h.1) ∙ sym h.0.1), sym h.1))
    (each_both (λ v. Keeps v × Mine v) Live_is es
    (each_both Keeps Mine es (subst (AllByRecursion Keeps) alike.blocks keeps) walks.0.tells.kept_is.each)
    (live_same judged new array both.is))) in
    sym by_all
    ∙ (ap (filter (λ (live : Live). is_other_than (pairs live.tree live.address) live)) same ∙ walks.1.shifted)

pub array_shifts : ArrayShiftedLaw
array_shifts image pending old new array before rest pairs marked moving array_moving under array_under has_old has_new both known marks moves lists =
    shifts image pending old new before (chunk_tree_by new.chunks new.sup (overlaid pending 0 image) ∷ rest) pairs marked moving under
    has_old has_new both.alike known marks moves
    ∙ ap (λ met. met ++ flat_map (shifted_met (kept_of pairs marked (moves_between old new (length image)) under) (anew_of under) pairs new) rest)
    (chunk_shifted image pending old new array pairs marked moving array_moving under array_under both (known 3)
    (subst (AllByRecursion (MarksTouched old (written_in pending) (length image) marked)) has_old.trees_are marks).0
    (subst (AllByRecursion (MovesListed old new (length image) moving under)) has_old.trees_are moves).0 lists)
