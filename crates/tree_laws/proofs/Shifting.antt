-- The shared pairs of an image that are shifted are those of the kept blocks that the walks of its trees meet.
use Rattle.std.proofs.Common.{◌≡◌, ℕ, ◌==◌, Bool, true, false, not, ◌&&◌, ◌||◌, List, [], ◌∷◌, ◌++◌, length, refl, ap, sym, subst, ◌∙◌, if◌then◌else◌}
use Rattle.std.proofs.lemmas.Bool.{eqb-true}
use Rattle.std.proofs.lemmas.List.Elements.{filter-append}
use Rattle.std.specs.Prelude.{Option, Some, None, Ok, is_some, map}
use Rattle.std.specs.List.{AllByRecursion, filter, flat_map, list_any}
use Rattle.std.specs.Ordering.{nat_cmp}
use Rattle.std.specs.FinMap.{FinMap}
use Rattle.verdict.proofs.Lists.{all_map as each_map}
use Rattle.verdict.proofs.Truth.{and_parts, neither}
use Rattle.verdict.specs.OnDisk.{key_same}
use Rattle.write_cache.specs.Cache.{overlaid}
use Rattle.super_reader.specs.declared.Super.{Super}
use Rattle.live_index.specs.Pairs.{Pairs}
use Rattle.live_index.specs.declared.live.Live.{Live}
use Rattle.node_reader.specs.Stored.{Stored}
use Rattle.node_reader.specs.declared.expect.Expect.{Expect}
use Rattle.records.specs.Seen.{Seen}
use Rattle.records.specs.Seen.Seen.{BlockSeen, PointerSeen, ItemSeen}
use Rattle.records.specs.WalkLaw.{visited}
use Rattle.touched_blocks.specs.Touched.{Written, stays_in_place, written_in}
use Rattle.tree_laws.specs.Keeping.{Marks, Stands, Under, anew_of, kept_of, last_if_same, live_at}
use Rattle.tree_laws.specs.LivePairs.{Walked, live_in, live_of, table_of}
use Rattle.tree_laws.specs.MovedLaw.{is_other_than, kept_in, shifted_by}
use Rattle.tree_laws.specs.Shared.{are_alike, are_read_alike, at_or_below, is_shared, is_shared_by, stands_untouched}
use Rattle.tree_laws.specs.SharedLaw.{KeepsShared, MarksTouched, moves_between, touches_old}
use Rattle.tree_laws.specs.ShiftedLaw.{MovesListed, ShiftedLaw, is_shifted, shifted_met}
use Rattle.tree_laws.specs.Skips.{Kept}
use Rattle.tree_laws.specs.TableLaw.{AreApart, Tree}
use Rattle.tree_laws.proofs.Forest.{all_lives, lives_all, lives_of, others_all, stands_as, table_none, tables_stand, walks}
use Rattle.tree_laws.proofs.KeptImage.{IsOfImage, keeps_image, of_image, was}
use Rattle.tree_laws.proofs.Meeting.{none_kept, shown_at, shows}
use Rattle.tree_laws.proofs.Picking.{each_both, one_of}
use Rattle.tree_laws.proofs.ReadAlike.{listed_alike, marked_alike, stands_alike}
use Rattle.tree_laws.proofs.Tables.{Any, any_each}
use Rattle.tree_laws.proofs.Treed.{trees_walk}
use Rattle.tree_laws.proofs.Visiting.{visits_from}

-- whether the node above a pair and its greatest key are another's
abbrev pub differ : Live → Live → Bool
differ one live = not (one.parent == live.parent && key_same one.last live.last)

-- a pair of which a walk without a touched block is alike stands among the pairs
pub alike_some : (touched : ℕ → Bool) (live : Live) (seen : List Seen) → stands_untouched touched seen live ≡ true
    → list_any (λ one. are_alike one live) (live_in seen) ≡ true
unfolding stands_untouched live_in
alike_some touched live [] is = absurd (cc)
alike_some touched live (BlockSeen block ∷ behind) is =
    by (are_alike (live_of block behind) live) (not (at_or_below touched block behind)) (stands_untouched touched behind live) is
    (alike_some touched live behind)
  where
    by : (a f s : Bool) → ((a && f) || s) ≡ true → (s ≡ true → list_any (λ one. are_alike one live) (live_in behind) ≡ true)
        → (a || list_any (λ one. are_alike one live) (live_in behind)) ≡ true
    by true f s is rest = refl
    by false f s is rest = rest is
alike_some touched live (PointerSeen one ∷ behind) is = alike_some touched live behind is
alike_some touched live (ItemSeen one ∷ behind) is = alike_some touched live behind is

shared_some : (old new : Walked) (written : Written) (end : ℕ) (live : Live) → is_shared old new written end live ≡ true
    → list_any (λ one. are_alike one live) (live_in old.seen) ≡ true
unfolding is_shared_by
shared_some old new written end live is =
    let stays = stays_in_place old.chunks new.chunks old.sup.nodesize end live.address in
    let stands = stands_untouched (touches_old old written end) old.seen live in
    let there = list_any (are_alike live) (live_in new.seen) in
    let one = and_parts (are_read_alike old.sup new.sup) (stays && (stands && there)) is in
    let two = and_parts stays (stands && there) one.1 in
    alike_some (touches_old old written end) live old.seen (and_parts stands there two.1).0

-- pairs each of which a table has: one that is alike to another is the table's entry
module _ (table : Pairs) where
  abbrev pub IsEntry : Live → Type 0
  IsEntry one = table one.tree one.address ≡ Some one

  entry_of : (one live : Live) → IsEntry one → are_alike one live ≡ true → table live.tree live.address ≡ Some one
  entry_of one live is alike =
      let place = and_parts (one.tree == live.tree && one.address == live.address)
      (one.level == live.level && (one.generation == live.generation && key_same one.first live.first)) alike in
      let both = and_parts (one.tree == live.tree) (one.address == live.address) place.0 in
      ap (λ t. table t live.address) (sym (eqb-true one.tree live.tree both.0))
      ∙ (ap (table one.tree) (sym (eqb-true one.address live.address both.1)) ∙ is)

  shifted_is : (live : Live) (lives : List Live) → AllByRecursion IsEntry lives
      → list_any (λ one. are_alike one live && differ one live) lives
      ≡ (list_any (λ one. are_alike one live) lives && is_other_than (table live.tree live.address) live)
  shifted_is live [] all = refl
  shifted_is live (one ∷ lives) all = by (are_alike one live) refl (shifted_is live lives all.1)
    where
      twice : (s x : Bool) → (s || (x && s)) ≡ s
      twice true x = refl
      twice false true = refl
      twice false false = refl

      by : (b : Bool) → are_alike one live ≡ b
          → list_any (λ one. are_alike one live && differ one live) lives
          ≡ (list_any (λ one. are_alike one live) lives && is_other_than (table live.tree live.address) live)
          → ((b && differ one live) || list_any (λ one. are_alike one live && differ one live) lives)
          ≡ ((b || list_any (λ one. are_alike one live) lives) && is_other_than (table live.tree live.address) live)
      by true is rest =
          let same : is_other_than (table live.tree live.address) live ≡ differ one live =
          ap (λ (entry : Option Live). is_other_than entry live) (entry_of one live all.0 is) in
          ap (λ b. differ one live || b) (rest ∙ ap (λ b. list_any (λ one. are_alike one live) lives && b) same)
          ∙ (twice (differ one live) (list_any (λ one. are_alike one live) lives) ∙ sym same)
      by false is rest = rest

  entries_append : (xs ys : List Live) → AllByRecursion IsEntry xs → AllByRecursion IsEntry ys → AllByRecursion IsEntry (xs ++ ys)
  entries_append [] ys all more = more
  entries_append (x ∷ xs) ys all more = (all.0, entries_append xs ys all.1 more)

  entries_of : (sup : Super) (stored : Stored) (es : List Expect) → AllByRecursion (λ v. table v.tree v.address ≡ Some (live_at sup stored v)) es
      → AllByRecursion IsEntry (map (live_at sup stored) es)
  entries_of sup stored [] all = tt
  entries_of sup stored (e ∷ es) all = (all.0, entries_of sup stored es all.1)

  entries_all : (sup : Super) (trees : List Tree) → AllByRecursion (λ tree. Stands table sup tree.0 tree.1) trees
      → AllByRecursion IsEntry (all_lives sup trees)
  entries_all sup [] all = tt
  entries_all sup (tree ∷ trees) all =
      entries_append (lives_of sup tree) (all_lives sup trees) (entries_of sup tree.0 (visited sup tree.0 tree.1) all.0.each.each)
      (entries_all sup trees all.1)

-- pairs that pass two tests, by the blocks that they are of
sifted : (shared shifts other : Live → Bool) (keeps : Expect → Bool) (of : Expect → Live) (es : List Expect)
    → AllByRecursion (λ v. keeps v ≡ shared (of v)) es → ((live : Live) → shared live ≡ true → shifts live ≡ other live)
    → filter (λ live. shared live && shifts live) (map of es) ≡ filter other (map of (filter keeps es))
sifted shared shifts other keeps of [] all same = refl
sifted shared shifts other keeps of (v ∷ es) all same =
    by (keeps v) refl (sym all.0) (sifted shared shifts other keeps of es all.1 same)
  where
    by : (k : Bool) → keeps v ≡ k → shared (of v) ≡ keeps v
        → filter (λ live. shared live && shifts live) (map of es) ≡ filter other (map of (filter keeps es))
        → (if shared (of v) && shifts (of v) then of v ∷ filter (λ live. shared live && shifts live) (map of es)
        else filter (λ live. shared live && shifts live) (map of es))
        ≡ filter other (map of (if k then v ∷ filter keeps es else filter keeps es))
    by true is shares rest =
        let so : shared (of v) ≡ true = shares ∙ is in
        rw (so, same (of v) so, rest) refl
    by false is shares rest = rw (shares ∙ is) rest

none_if : (test : Tree → Bool) (trees : List Tree) → list_any test trees ≡ false → AllByRecursion (λ tree. test tree ≡ false) trees
none_if test [] none = tt
none_if test (tree ∷ trees) none =
    let both = neither (test tree) (list_any test trees) none in
    (both.0, none_if test trees both.1)

module _ (image : List ℕ) (pending : FinMap nat_cmp ℕ) (old new : Walked) (before : List Tree) (pairs : Pairs)
    (marked moving : Marks) (under : Under) where
  abbrev pub end : ℕ
  end = length image

  abbrev pub judged : List ℕ
  judged = overlaid pending 0 image

  abbrev pub written : Written
  written = written_in pending

  abbrev pub table : Pairs
  table = table_of (live_in old.seen)

  abbrev pub moved : ℕ → Bool
  moved = moves_between old new end

  abbrev pub K : Kept
  K = kept_of pairs marked moved under

  -- what is known of an old tree
  pub record OldTree (tree : Tree) : Type 0 where
    pub stands : Stands table old.sup tree.0 tree.1
    pub is : IsOfImage image old tree
    pub marks : MarksTouched old written end marked tree
    pub moves : MovesListed old new end moving under tree

  not_known : (id : ℕ) → ((address : ℕ) → pairs id address ≡ None) → (e : Expect) → e.tree ≡ id → K e ≡ None
  unfolding kept_of
  not_known id none e of_tree =
      let entry : pairs e.tree e.address ≡ None = ap (λ t. pairs t e.address) of_tree ∙ none e.address in
      ap (λ (one : Option Live). if marked e.tree e.address || moved e.address then None else last_if_same e (under e.tree e.address) one) entry
      ∙ by (marked e.tree e.address || moved e.address)
    where
      by : (b : Bool) → (if b then None else last_if_same e (under e.tree e.address) None) ≡ None
      by true = refl
      by false = refl

  -- the kept blocks of a new tree, and those that are met
  tree_meets : AreApart before → walks old.sup before ≡ Ok old.seen → are_read_alike old.sup new.sup ≡ true
      → ((tree address : ℕ) → pairs tree address ≡ table tree address) → AllByRecursion OldTree before
      → (now : Tree) → Stands (table_of (live_in new.seen)) new.sup now.0 now.1 → IsOfImage judged new now
      → shifted_by pairs new.sup now.0 (kept_in K new.sup now.0 now.1) ≡ shifted_met K (anew_of under) pairs new now
  tree_meets apart told alike pairs_are olds now stands is =
      by (list_any (λ tree. tree.1.tree == now.1.tree) before) refl
    where
      by : (b : Bool) → list_any (λ tree. tree.1.tree == now.1.tree) before ≡ b
          → shifted_by pairs new.sup now.0 (kept_in K new.sup now.0 now.1) ≡ shifted_met K (anew_of under) pairs new now
      by true some =
          let pick = one_of OldTree (λ tree. tree.1.tree == now.1.tree) before olds some in
          let tree = pick.0 in
          let known : OldTree tree = pick.1 in
          let same : tree.1.tree ≡ now.1.tree = eqb-true tree.1.tree now.1.tree pick.2 in
          let here : Stands pairs old.sup tree.0 tree.1 = stands_as old.sup tree table pairs (pairs_are tree.1.tree) known.stands in
          shows pairs marked moving (touches_old old written end) moved under new.sup tree.0 now.0 tree.1 now.1
          (stands_alike old.sup new.sup alike pairs tree.0 tree.1 here)
          (marked_alike old.sup new.sup alike marked (touches_old old written end) tree.0 tree.1 known.marks)
          (marked_alike old.sup new.sup alike moving moved tree.0 tree.1 known.moves.marks)
          (listed_alike old.sup new.sup alike under moving tree.0 tree.1 known.moves.lists)
          (was image pending old new before pairs marked under alike now tree is known.is) (sym same) stands.each.fine
      by false none =
          let others = others_all old.sup before old.seen now.1.tree told (none_if (λ tree. tree.1.tree == now.1.tree) before none) in
          let no_entry : (address : ℕ) → pairs now.1.tree address ≡ None =
          λ address. pairs_are now.1.tree address
          ∙ (ap (λ lives. table_of lives now.1.tree address) (lives_all old.sup before old.seen apart told)
          ∙ table_none (all_lives old.sup before) now.1.tree address others) in
          shown_at pairs marked moved under new.sup now.0 now.0 now.1.tree
          (none_kept pairs marked moved under new.sup now.0 now.0 now.1.tree (not_known now.1.tree no_entry))
          now.1.level now.1 refl refl
          (visits_from (Any new.sup now.0) new.sup now.0 now.1
          (record { fine = stands.each.fine; each = any_each new.sup now.0 (visited new.sup now.0 now.1) }))

  abbrev pub shared : Live → Bool
  shared live = is_shared old new written end live

  abbrev pub test : Live → Bool
  test live = shared live && is_shifted (live_in old.seen) live

  -- a shared pair is shifted where it is other than the table has
  shifts_as : AllByRecursion (IsEntry table) (live_in old.seen) → ((tree address : ℕ) → pairs tree address ≡ table tree address)
      → (live : Live) → shared live ≡ true → is_shifted (live_in old.seen) live ≡ is_other_than (pairs live.tree live.address) live
  shifts_as entries pairs_are live is =
      shifted_is table live (live_in old.seen) entries
      ∙ (ap (λ b. b && is_other_than (table live.tree live.address) live) (shared_some old new written end live is)
      ∙ ap (λ (entry : Option Live). is_other_than entry live) (sym (pairs_are live.tree live.address)))

  -- what is known of a new tree
  pub record NewTree (now : Tree) : Type 0 where
    pub keeps : KeepsShared old new written end pairs marked under now.0 now.1
    pub meets : shifted_by pairs new.sup now.0 (kept_in K new.sup now.0 now.1) ≡ shifted_met K (anew_of under) pairs new now

  all_trees : ((live : Live) → shared live ≡ true → is_shifted (live_in old.seen) live ≡ is_other_than (pairs live.tree live.address) live)
      → (after : List Tree) → AllByRecursion NewTree after
      → filter test (all_lives new.sup after) ≡ flat_map (shifted_met K (anew_of under) pairs new) after
  all_trees same [] all = refl
  all_trees same (now ∷ after) all =
      filter-append test (lives_of new.sup now) (all_lives new.sup after)
      ∙ (ap (λ lives. lives ++ filter test (all_lives new.sup after))
      (sifted shared (is_shifted (live_in old.seen)) (λ live. is_other_than (pairs live.tree live.address) live) (λ v. is_some (K v))
      (live_at new.sup now.0) (visited new.sup now.0 now.1) all.0.keeps same ∙ all.0.meets)
      ∙ ap (λ lives. shifted_met K (anew_of under) pairs new now ++ lives) (all_trees same after all.1))

pub shifts : ShiftedLaw
shifts image pending old new before after pairs marked moving under has_old has_new alike pairs_are marks moves =
    let judged = overlaid pending 0 image in
    let table = table_of (live_in old.seen) in
    let olds = trees_walk image old before has_old in
    let news = trees_walk judged new after has_new in
    let stand = tables_stand old.sup before old.seen olds.0 olds.1 in
    let Old = OldTree image pending old new before pairs marked moving under in
    let New = NewTree image pending old new before pairs marked moving under in
    let M = MarksTouched old (written_in pending) (length image) marked in
    let L = MovesListed old new (length image) moving under in
    let known : AllByRecursion Old before =
    each_map (λ (tree : Tree). (Stands table old.sup tree.0 tree.1 × IsOfImage image old tree) × (M tree × L tree)) Old before
    (λ tree h. record { stands = h.0.0; is = h.0.1; marks = h.1.0; moves = h.1.1 })
    (each_both (λ (tree : Tree). Stands table old.sup tree.0 tree.1 × IsOfImage image old tree) (λ tree. M tree × L tree) before
    (each_both (λ (tree : Tree). Stands table old.sup tree.0 tree.1) (IsOfImage image old) before stand (of_image image old before has_old))
    (each_both M L before marks moves)) in
    let keeps =
    keeps_image image pending old new before after pairs marked under has_old has_new alike pairs_are in
    let entries : AllByRecursion (IsEntry table) (live_in old.seen) =
    subst (AllByRecursion (IsEntry table)) (sym (lives_all old.sup before old.seen olds.0 olds.1)) (entries_all table old.sup before stand) in
    let New_stands = λ (now : Tree). Stands (table_of (live_in new.seen)) new.sup now.0 now.1 in
    let KeepsIf = λ (now : Tree). AllByRecursion (λ tree. tree.1.tree ≡ now.1.tree → M tree) before
    → KeepsShared old new (written_in pending) (length image) pairs marked under now.0 now.1 in
    let each_new : AllByRecursion New after =
    each_map (λ (now : Tree). (New_stands now × IsOfImage judged new now) × KeepsIf now) New after
    (λ now h. record {
      keeps = h.1 (each_if_all now.1.tree before marks);
      meets = tree_meets image pending old new before pairs marked moving under olds.0 olds.1 alike pairs_are known now h.0.0 h.0.1;
    })
    (each_both (λ (now : Tree). New_stands now × IsOfImage judged new now) KeepsIf after
    (each_both New_stands (IsOfImage judged new) after (tables_stand new.sup after new.seen news.0 news.1)
    (of_image judged new after has_new)) keeps) in
    ap (filter (test image pending old new before pairs marked moving under)) (lives_all new.sup after new.seen news.0 news.1)
    ∙ all_trees image pending old new before pairs marked moving under
    (shifts_as image pending old new before pairs marked moving under entries pairs_are) after each_new
  where
    each_if_all : (id : ℕ) (trees : List Tree) → AllByRecursion (MarksTouched old (written_in pending) (length image) marked) trees
        → AllByRecursion (λ tree. tree.1.tree ≡ id → MarksTouched old (written_in pending) (length image) marked tree) trees
    each_if_all id [] all = tt
    each_if_all id (tree ∷ trees) all = ((λ is. all.0), each_if_all id trees all.1)
