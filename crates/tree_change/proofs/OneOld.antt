-- What is known of the two walks of a tree, where the old tree of its id is known.
use Rattle.std.proofs.Common.{◌≡◌, ℕ, ◌-◌, ◌==◌, Bool, true, not, List, [], ◌∷◌, length, inl, inr, refl, ap, sym, subst, ◌∙◌, arith, if◌then◌else◌}
use Rattle.std.proofs.lemmas.Bool.Decides.{nat_tests}
use Rattle.std.specs.Prelude.{Some, None, Ok, Err, is_some, map}
use Rattle.std.specs.List.{AllByRecursion}
use Rattle.std.specs.Result.{IsOk}
use Rattle.std.specs.Ordering.{nat_cmp}
use Rattle.std.specs.FinMap.{FinMap}
use Rattle.tree_laws.proofs.OldTrees.{roots_of}
use Rattle.verdict.proofs.Lists.{all_map as each_map}
use Rattle.verdict.specs.Rules.{and_then}
use Rattle.verdict.specs.declared.key.Key.{Key}
use Rattle.write_cache.specs.Cache.{overlaid}
use Rattle.super_reader.specs.declared.Super.{Super}
use Rattle.live_index.specs.Pairs.{Pairs}
use Rattle.live_index.specs.declared.live.Live.{Live}
use Rattle.node_reader.specs.Stored.{Stored, stored_in}
use Rattle.node_reader.specs.declared.expect.Expect.{Expect}
use Rattle.records.specs.Contents.{named_root}
use Rattle.records.specs.Seen.{Seen}
use Rattle.records.specs.Walk.{Records, behind, each, then_records, walk_in, walk_of}
use Rattle.records.specs.WalkLaw.{visited}
use Rattle.touched_blocks.specs.Marks.{no_mark}
use Rattle.touched_blocks.specs.Touched.{stays_in_place, written_in}
use Rattle.tree_laws.specs.Ending.{Ends}
use Rattle.tree_laws.specs.KeepingWalk.{skip_in}
use Rattle.tree_laws.specs.Keeping.{AreListed, AreMarked, AreUntouched, Marks, Stands, Under, anew_of, kept_of, live_at, starts_of}
use Rattle.tree_laws.specs.LivePairs.{Walked, live_in, table_of}
use Rattle.tree_laws.specs.MergedLaw.{AreRead, AreShared, items}
use Rattle.tree_laws.specs.MovedLaw.{is_other_than, kept_in, shifted_by}
use Rattle.tree_laws.specs.OldSide.{IsRoot, TellsShared, kept_at, kept_where}
use Rattle.tree_laws.specs.Shared.{are_read_alike}
use Rattle.tree_laws.specs.SharedLaw.{HasTrees, IsBefore, touches_old}
use Rattle.tree_laws.specs.ShiftedLaw.{is_shifted}
use Rattle.tree_laws.specs.SkipLaw.{IsSound}
use Rattle.tree_laws.specs.Skips.{Kept, nothing, skip_of, unkept}
use Rattle.tree_laws.specs.Stops.{stops_of}
use Rattle.tree_laws.specs.TableLaw.{AreApart, Tree, is_other}
use Rattle.tree_laws.proofs.EndsTold.{ends}
use Rattle.tree_laws.proofs.Forest.{of_root, stands_as, tables_stand, tree_table}
use Rattle.tree_laws.proofs.Images.{read_alike, stored_alike}
use Rattle.tree_laws.proofs.Kept.{keeps_tree}
use Rattle.tree_laws.proofs.KeptImage.{nodesize_same}
use Rattle.tree_laws.proofs.KnownShared.{knows_shared}
use Rattle.tree_laws.proofs.Meeting.{shows}
use Rattle.tree_laws.proofs.Merged.{kept_where_just}
use Rattle.tree_laws.proofs.MergedLists.{chunks_merge, roots_merge}
use Rattle.tree_laws.proofs.OldBlocks.{unshared_are}
use Rattle.tree_laws.proofs.OldSide.{old_side}
use Rattle.tree_laws.proofs.OldSupers.{give_alike}
use Rattle.tree_laws.proofs.OldTells.{tells_shared}
use Rattle.tree_laws.proofs.ReadAlike.{listed_alike, marked_alike, stands_alike}
use Rattle.tree_laws.proofs.Sharing.{keeps}
use Rattle.tree_laws.proofs.Sifting.{nil}
use Rattle.tree_laws.proofs.Treed.{trees_walk}
use Rattle.tree_change.specs.Gathered.{blocks_seen}
use Rattle.tree_change.specs.OneTree.{GivesTree, IsAmong, IsOldOf, KnowsTree, alone, old_tree, unchanged}
use Rattle.tree_change.specs.Unchanged.{changes_at, none_touched, stays_unchanged}
use Rattle.tree_change.specs.Walks.{Known, Side, lasts_by, old_walk}
use Rattle.tree_change.proofs.FirstCopies.{skip_firsts}
use Rattle.tree_change.proofs.OneGives.{AreBoth, gives_tree}
use Rattle.tree_change.proofs.OneKept.{was_kept}
use Rattle.tree_change.proofs.OneNew.{IsKeptBlock, IsNew}
use Rattle.tree_change.proofs.OnePlain.{nothing_marked, untouched_alike}
use Rattle.tree_change.proofs.OneShifted.{shifts_as}
use Rattle.tree_change.proofs.OneSupers.{unkept_alike, unkept_fine}

-- what holds of each tree holds of one of them
pub among_is : (P : Tree → Type 0) (tree : Tree) (trees : List Tree) → AllByRecursion P trees → IsAmong tree trees → P tree
among_is P tree [] all one = elim one [ ]
among_is P tree (t ∷ trees) all (inl same) = subst P (sym same) all.0
among_is P tree (t ∷ trees) all (inr later) = among_is P tree trees all.1 later

-- of trees of different ids only one has an id
only_one : (P : Tree → Type 0) (tree : Tree) (trees : List Tree) → AreApart trees → IsAmong tree trees → P tree
    → AllByRecursion (λ t. t.1.tree ≡ tree.1.tree → P t) trees
only_one P tree [] apart one is = tt
only_one P tree (t ∷ trees) apart (inl same) is = (
  λ id. subst P same is,
  each_map (λ u. is_other t u ≡ true) (λ u. u.1.tree ≡ tree.1.tree → P u) trees
      (λ u other id. absurd (not_both t.1.tree u.1.tree other (sym (id ∙ ap (λ (s : Tree). s.1.tree) same)))) apart.0,
)
  where
    not_both : (m n : ℕ) → not (m == n) ≡ true → m ≡ n → ⊥
    not_both m n other same = grind (arith, nat_tests)
only_one P tree (t ∷ trees) apart (inr later) is = (
  λ id. absurd (not_both t.1.tree tree.1.tree (among_is (λ u. is_other t u ≡ true) tree trees apart.0 later) id),
  only_one P tree trees apart.1 later is,
)
  where
    not_both : (m n : ℕ) → not (m == n) ≡ true → m ≡ n → ⊥
    not_both m n other same = grind (arith, nat_tests)

-- the records of one walk
one_walk : (walk : Records) (records : List Seen) → walk ≡ Ok records → then_records walk (Ok []) ≡ Ok records
unfolding behind
one_walk (Err finding) records is = absurd (cc)
one_walk (Ok some) records is = ap (λ (r : List Seen). Ok r) (nil some) ∙ is

pub ok_some : (walk : Records) → IsOk walk → (records : List Seen) × (walk ≡ Ok records)
ok_some (Err finding) fine = absurd (cc)
ok_some (Ok records) fine = (records, refl)

-- by tables that are the same the same is shifted
shifted_same : (pairs others : Pairs) → ((tree address : ℕ) → pairs tree address ≡ others tree address) → (sup : Super) (stored : Stored)
    → (es : List Expect) → shifted_by pairs sup stored es ≡ shifted_by others sup stored es
shifted_same pairs others same sup stored [] = refl
shifted_same pairs others same sup stored (e ∷ es) =
    ap (λ entry. if is_other_than entry (live_at sup stored e) then live_at sup stored e ∷ shifted_by pairs sup stored es
    else shifted_by pairs sup stored es) (same e.tree e.address)
    ∙ ap (λ lives. if is_other_than (others e.tree e.address) (live_at sup stored e) then live_at sup stored e ∷ lives else lives)
    (shifted_same pairs others same sup stored es)

module _ (image : List ℕ) (pending : FinMap nat_cmp ℕ) (old : Walked) (trees : List Tree) (pairs : Pairs) (is : Side) (table : Pairs)
    (under : Under) (now : Expect) where
  abbrev pub stored : Stored
  stored = stored_in is.image is.chunks is.sup.nodesize

  abbrev pub was : Stored
  was = stored_in image old.chunks old.sup.nodesize

  abbrev pub stays : ℕ → Bool
  stays = stays_unchanged old is.chunks (written_in pending) (length image)

  abbrev pub changes : ℕ → Bool
  changes = changes_at old is.chunks (written_in pending) (length image)

  abbrev pub known : Known
  known = record { pairs = table; marked = no_mark; moved = changes; under = under }

  abbrev pub K : Kept
  K = kept_of table no_mark changes under

  pub untouched : are_read_alike old.sup is.sup ≡ true → is.image ≡ overlaid pending 0 image → AreUntouched none_touched changes was stored
  untouched alike over =
      let moved = stays_in_place old.chunks is.chunks old.sup.nodesize (length image) in
      let touched = touches_old old (written_in pending) (length image) in
      untouched_alike moved touched was stored
      (subst (λ n. AreUntouched touched (λ a. not (moved a)) was (stored_in is.image is.chunks n)) (nodesize_same old.sup is.sup alike)
      (subst (λ i. AreUntouched touched (λ a. not (moved a)) was (stored_in i is.chunks old.sup.nodesize)) (sym over)
      (stored_alike image pending old.chunks is.chunks old.sup.nodesize)))

  -- what is known of the old tree, whose root this is, and of what is stored now
  pub record IsOld (before : Expect) (changing : Marks) : Type 0 where
    pub alike : are_read_alike old.sup is.sup ≡ true
    pub same : now.tree ≡ before.tree
    pub among : IsAmong (old_tree image old before) trees
    pub root : IsRoot before
    pub high : now.high ≡ None
    pub tables_are : (tree address : ℕ) → table tree address ≡ table_of (live_in old.seen) tree address
    pub pairs_are : (tree address : ℕ) → pairs tree address ≡ table_of (live_in old.seen) tree address
    pub apart : AreApart trees
    pub walks : each (λ tree. walk_of old.sup tree.0 tree.1) trees ≡ Ok old.seen
    pub stands : Stands (table_of (live_in old.seen)) old.sup was before
    pub marks : AreMarked changing changes old.sup was before
    pub lists : AreListed under changing old.sup was before
    pub alike_stored : AreUntouched none_touched changes was stored

  module _ (before : Expect) (changing : Marks) (o : IsOld before changing) where
    old_stands : Stands table old.sup was before
    old_stands = stands_as old.sup (was, before) (table_of (live_in old.seen)) table (o.tables_are before.tree) o.stands

    pairs_stand : Stands pairs old.sup was before
    pairs_stand = stands_as old.sup (was, before) (table_of (live_in old.seen)) pairs (o.pairs_are before.tree) o.stands

    -- the same by the superblock as it is
    stands_now : Stands table is.sup was before
    stands_now = stands_alike old.sup is.sup o.alike table was before old_stands

    none_now : AreMarked no_mark none_touched is.sup was before
    none_now = nothing_marked is.sup was before stands_now.each.fine

    marks_now : AreMarked changing changes is.sup was before
    marks_now = marked_alike old.sup is.sup o.alike changing changes was before o.marks

    lists_now : AreListed under changing is.sup was before
    lists_now = listed_alike old.sup is.sup o.alike under changing was before o.lists

    -- by the old one
    none_before : AreMarked no_mark none_touched old.sup was before
    none_before = nothing_marked old.sup was before o.stands.each.fine

    pub sound : IsSound now.tree K nothing (anew_of under) is.sup stored
    sound = subst (λ t. IsSound t K nothing (anew_of under) is.sup stored) (sym o.same)
        (keeps table no_mark changing none_touched changes under is.sup was stored before stands_now none_now marks_now lists_now o.alike_stored)

    block : (v : Expect) (last : Key) → v.tree ≡ now.tree → K v ≡ Some last → IsKeptBlock pairs (anew_of under) is.sup stored v
    block v last of kept =
        let k = was_kept table no_mark changing none_touched changes under is.sup was stored before stands_now none_now lists_now o.alike_stored v last
        (of ∙ o.same) kept in
        record {
          was = k.was;
          known = o.pairs_are v.tree v.address ∙ (sym (o.tables_are v.tree v.address) ∙ k.known);
          is = k.is;
          test = changing v.tree;
          lists = ap (starts_of (v.level - 1) v) k.lists;
        }

    same_pairs : (tree address : ℕ) → pairs tree address ≡ table tree address
    same_pairs tree address = o.pairs_are tree address ∙ sym (o.tables_are tree address)

    module _ (news : List Seen) (walk : walk_of is.sup stored now ≡ Ok news) where
      abbrev pub shared : Live → Bool
      shared = unchanged image pending old is news

      kept_shared : AllByRecursion (λ v. is_some (K v) ≡ shared (live_at is.sup stored v)) (visited is.sup stored now)
      kept_shared =
          keeps_tree stays none_touched old (alone is news) trees table no_mark under stored now o.apart o.walks
          (tree_table is.sup stored now news walk) o.high o.alike (λ address. o.tables_are now.tree address)
          (each_map (λ (t : Tree). t.1.tree ≡ before.tree → IsBefore stays none_touched old no_mark stored t)
          (λ (t : Tree). t.1.tree ≡ now.tree → IsBefore stays none_touched old no_mark stored t) trees
          (λ t h id. h (id ∙ o.same))
          (only_one (IsBefore stays none_touched old no_mark stored) (old_tree image old before) trees o.apart o.among
          (record { marks = none_before; alike = o.alike_stored })))

      new : IsNew pairs K (anew_of under) (lasts_by known) shared is.sup stored now news
      new = record {
        is = walk;
        sound = sound;
        keeps = kept_shared;
        blocks = block;
        ends = ap (λ (e : Ends). e.blocks)
            (ends table no_mark changing none_touched changes under is.sup was stored before now stands_now none_now marks_now lists_now o.alike_stored o.same
            (rw walk refl));
        shifted = shifted_same pairs table same_pairs is.sup stored (kept_in K is.sup stored now)
            ∙ (shows table no_mark changing none_touched changes under is.sup was stored before now stands_now none_now marks_now lists_now
            o.alike_stored o.same (rw walk refl)
            ∙ sym (shifted_same pairs table same_pairs is.sup stored (stops_of K (anew_of under) is.sup stored now)));
      }

      -- by the old superblock, which blocks of the new tree are kept tells which are shared
      walk_old : walk_of old.sup stored now ≡ Ok news
      walk_old = read_alike old.sup is.sup stored now o.alike ∙ walk

      tells : TellsShared shared K old.sup stored now
      tells =
          let alike = give_alike old.sup is.sup o.alike in
          (tells_shared stays none_touched old (alone is news) K old.sup ((stored, now) ∷ []) (tt, tt)
          (one_walk (walk_of old.sup stored now) news walk_old)).0
          (record {
            fine = rw walk_old refl;
            each = subst (AllByRecursion (λ v. is_some (K v) ≡ shared (live_at old.sup stored v))) (sym (alike.comes stored now))
                (each_map (λ v. is_some (K v) ≡ shared (live_at is.sup stored v)) (λ v. is_some (K v) ≡ shared (live_at old.sup stored v))
                (visited is.sup stored now) (λ v keeps. keeps ∙ ap shared (sym (alike.lives stored v))) kept_shared);
          })

      both_share : AreShared shared old.sup was stored before now
      both_share =
          knows_shared table no_mark none_touched changes under shared old.sup was stored before now o.same old_stands none_before o.alike_stored
          tells

      -- the old walk gives the blocks and the items that are not shared
      old_gives : skip_of (kept_at table (stops_of K (anew_of under) is.sup stored now) under) nothing (anew_of under) old.sup was before
          ≡ unkept (kept_where shared old.sup was) nothing old.sup was before
      old_gives =
          ap (λ stops. skip_of (kept_at table stops under) nothing (anew_of under) old.sup was before)
          (sym ((give_alike old.sup is.sup o.alike).stops K (anew_of under) stored now))
          ∙ old_side table no_mark changing none_touched changes under shared old.sup was stored before now o.root o.same old_stands none_before
          o.marks o.lists o.alike_stored tells

      read : (olds gone come : List Seen) → walk_of old.sup was before ≡ Ok olds
          → unkept (kept_where shared old.sup was) nothing old.sup was before ≡ Ok gone
          → unkept K nothing is.sup stored now ≡ Ok come → AreRead shared K old.sup was stored before now olds news gone come
      read olds gone come was_is goes comes = record {
        tree = o.same;
        both = both_share;
        was = was_is;
        is = walk_old;
        goes = goes;
        keeps = tells.kept_is;
        comes = unkept_alike old.sup is.sup o.alike K stored now ∙ comes;
      }

      pub are_both : AreBoth image pending old pairs is known (Some before) now news
      unfolding walk_in old_walk skip_in
      are_both =
          let olds = ok_some (walk_of old.sup was before) o.stands.each.fine in
          let W = kept_where shared old.sup was in
          let gone = unkept_fine W old.sup was before olds.0 olds.1 in
          let fine : IsOk (walk_of is.sup stored now) = rw walk refl in
          record {
            new = new;
            olds = olds.0;
            gone = gone.0;
            has = olds.1;
            old_is = ap (λ walk. and_then walk (λ records. Ok (record { blocks = blocks_seen records; items = items records })))
                (skip_firsts (kept_at table (stops_of K (anew_of under) is.sup stored now) under) (anew_of under) old.sup old.chunks before image gone.0
                (old_gives ∙ gone.1));
            whole_is = old_gives ∙ gone.1;
            old_pairs = unshared_are pairs shared W old.sup was before olds.0 gone.0 pairs_stand
                (kept_where_just shared old.sup was before o.stands.each.fine) olds.1 gone.1;
            shifts = each_map (λ v. v.tree ≡ now.tree) (λ v. shared (live_at is.sup stored v) ≡ true
                → is_shifted (live_in olds.0) (live_at is.sup stored v) ≡ is_other_than (pairs v.tree v.address) (live_at is.sup stored v))
                (visited is.sup stored now)
                (λ v of passes. shifts_as pairs shared old.sup was stored before now olds.0 o.same olds.1 pairs_stand both_share
                (live_at is.sup stored v) of passes)
                (of_root is.sup (stored, now) fine).each;
            chunks = λ come comes three. chunks_merge shared K old.sup was stored before now olds.0 news gone.0 come
                (read olds.0 gone.0 come olds.1 gone.1 comes) three;
            roots = λ come comes one. roots_merge shared K old.sup was stored before now olds.0 news gone.0 come
                (read olds.0 gone.0 come olds.1 gone.1 comes) one;
          }

    pub gives_old : GivesTree image pending old pairs is known (Some before) now
    gives_old = gives_tree image pending old pairs is known (Some before) now sound are_both

-- so it is of the old tree of the new one's id, where that is known
pub old_is : (image : List ℕ) (pending : FinMap nat_cmp ℕ) (old : Walked) (trees : List Tree) (pairs : Pairs) (is : Side) (known : Known)
    (now e : Expect) → HasTrees image old trees → ((tree address : ℕ) → pairs tree address ≡ table_of (live_in old.seen) tree address)
    → is.image ≡ overlaid pending 0 image → IsRoot now → IsOldOf image old trees now (Some e)
    → (knows : KnowsTree image pending old is known (Some e))
    → IsOld image pending old trees pairs is known.pairs known.under now e knows.changing
old_is image pending old trees pairs is known now e has pairs_are over root old_of knows =
    let walk = trees_walk image old trees has in
    let table = table_of (live_in old.seen) in
    record {
      alike = knows.alike;
      same = sym old_of.0;
      among = old_of.1;
      root = among_is (λ tree. IsRoot tree.1) (stored_in image old.chunks old.sup.nodesize, e) trees (roots_of image old trees has) old_of.1;
      high = root.1;
      tables_are = knows.pairs_are;
      pairs_are = pairs_are;
      apart = walk.0;
      walks = walk.1;
      stands = among_is (λ tree. Stands table old.sup tree.0 tree.1) (stored_in image old.chunks old.sup.nodesize, e) trees
          (tables_stand old.sup trees old.seen walk.0 walk.1) old_of.1;
      marks = knows.changes.marks;
      lists = knows.changes.lists;
      alike_stored = untouched image pending old trees pairs is known.pairs known.under now knows.alike over;
    }
