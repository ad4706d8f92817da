-- What changes in a tree where nothing is known of it as it was: the whole of it.
use Rattle.std.proofs.Common.{◌≡◌, ℕ, ◌+◌, ◌*◌, Bool, true, false, not, ◌&&◌, List, [], ◌⊎◌, inl, inr, length, refl, ap, sym, subst, ◌∙◌}
use Rattle.std.proofs.lemmas.List.Sorted.{IsPermutation-refl}
use Rattle.std.specs.Prelude.{Option, Some, None, Result, Ok, Err, map}
use Rattle.std.specs.List.{filter}
use Rattle.std.specs.Ordering.{nat_cmp}
use Rattle.std.specs.FinMap.{FinMap}
use Rattle.tree_change.proofs.Vanished.{among}
use Rattle.walk_laws.proofs.Trees.{step_ok}
use Rattle.write_cache.specs.Cache.{overlaid}
use Rattle.verdict.specs.Rules.{and_then}
use Rattle.verdict.specs.declared.finding.Finding.{Finding}
use Rattle.live_index.specs.Pairs.{Pairs}
use Rattle.live_index.specs.declared.live.Live.{Live}
use Rattle.node_reader.specs.Stored.{Stored, stored_in}
use Rattle.node_reader.specs.declared.expect.Expect.{Expect}
use Rattle.records.specs.Seen.{Seen}
use Rattle.records.specs.Walk.{walk_in, walk_of}
use Rattle.tree_laws.specs.Ending.{ends_in}
use Rattle.tree_laws.specs.EndsLaw.{ended_at}
use Rattle.tree_laws.specs.Keeping.{Stands}
use Rattle.tree_laws.specs.KeepingWalk.{skip_in}
use Rattle.tree_laws.specs.LivePairs.{Walked, live_in, table_of}
use Rattle.tree_laws.specs.Meeting.{met_in}
use Rattle.tree_laws.specs.MergedLaw.{IsInOrder, begins_before, chunks_seen, items, roots_seen, root_before}
use Rattle.tree_laws.specs.OldSide.{IsRoot, kept_at}
use Rattle.tree_laws.specs.Shared.{is_shared_by}
use Rattle.tree_laws.specs.SharedLaw.{HasTrees}
use Rattle.tree_laws.specs.ShiftedLaw.{is_shifted}
use Rattle.tree_laws.specs.TableLaw.{Tree}
use Rattle.tree_laws.specs.Unshared.{AreOfPairs, items_in}
use Rattle.tree_laws.proofs.Forest.{stands_as, tree_table}
use Rattle.tree_change.specs.Gathered.{Gathers, blocks_seen}
use Rattle.tree_change.specs.Merging.{chunks_left, roots_left}
use Rattle.tree_change.specs.OneTree.{ChangesTree, GivesTree, HasRecords, IsAmong, IsOldOf, KnowsNothing, old_tree, unchanged, side_of}
use Rattle.tree_change.specs.Walks.{Known, NewWalk, Parts, Side, kept_by, lasts_by, listed_by, lives_of, new_walk, no_tree, old_or_none, pairs_at, parts_of, tree_parts}
use Rattle.tree_change.proofs.Ended.{behind_all, ends_whole, lasts_told}
use Rattle.tree_change.proofs.Free.{all_free, all_of, chunks_all, chunks_ascend, count_seen, lives_told, none_shared, pairs_seen, roots_all, roots_ascend}
use Rattle.tree_change.proofs.Olds.{fine_step, gathered, ok_never, old_fine, old_given, old_stands, same_ok, step_err}
use Rattle.tree_change.proofs.Whole.{KeepsNone, met_none, none_at, none_of, skip_whole}

-- what the two walks of a tree give is what changes in it, where nothing is known of the old tree
abbrev pub NothingTreeLaw : Type 0
NothingTreeLaw = (image : List ℕ) (pending : FinMap nat_cmp ℕ) (old : Walked) (trees : List Tree) (pairs : Pairs) (is : Side) (known : Known)
    (before : Option Expect) (now : Expect)
    → HasTrees image old trees → ((tree address : ℕ) → pairs tree address ≡ table_of (live_in old.seen) tree address)
    → is.image ≡ overlaid pending 0 image → IsRoot now → IsOldOf image old trees now before → KnowsNothing old is known
    → GivesTree image pending old pairs is known before now

and_false : (a b : Bool) → a ≡ false → (a && b) ≡ false
and_false true b is = absurd (cc)
and_false false b is = refl

module _ (is : Side) (known : Known) (none : (tree address : ℕ) → known.pairs tree address ≡ None) where
  abbrev now_stored : Stored
  now_stored = stored_in is.image is.chunks is.sup.nodesize

  keeps_none : KeepsNone (kept_by known)
  keeps_none = none_of known.pairs known.marked known.moved known.under none

  new_skip : (now : Expect) → skip_in (kept_by known) (listed_by known) is.sup is.chunks now is.image ≡ walk_of is.sup now_stored now
  unfolding skip_in
  new_skip now = skip_whole (kept_by known) keeps_none is.sup now_stored known.under now

  -- what the walk of the tree as it is gives
  abbrev made : Expect → List Seen → NewWalk
  made now records = record {
    read = gathered records;
    met = met_in (kept_by known) (listed_by known) is.sup is.chunks now is.image;
    ended = (ends_in (kept_by known) (listed_by known) (lasts_by known) is.sup is.chunks now is.image).blocks;
  }

  -- the same, by the whole walk
  abbrev whole : (now : Expect) (news : List Seen) → walk_of is.sup now_stored now ≡ Ok news → NewWalk
  whole now news walk = record {
    read = gathered news;
    met = [];
    ended =
        map (ended_at is.sup now_stored)
        (behind_all is.sup now_stored (table_of (live_in news)) now (tree_table is.sup now_stored now news walk));
  }

  made_whole : (now : Expect) (news : List Seen) (walk : walk_of is.sup now_stored now ≡ Ok news) → made now news ≡ whole now news walk
  unfolding met_in ends_in
  made_whole now news walk = λ i. record {
    read = gathered news;
    met = met_none (kept_by known) keeps_none is.sup now_stored (listed_by known) now i;
    ended =
        (ends_whole is.sup now_stored (table_of (live_in news)) now (tree_table is.sup now_stored now news walk) (kept_by known) (listed_by known)
        (lasts_by known) keeps_none i).blocks;
  }

  -- a walk without a finding
  record NewIs (now : Expect) (new : NewWalk) : Type 0 where
    news : List Seen
    walk : walk_of is.sup now_stored now ≡ Ok news
    same : new ≡ whole now news walk

  new_given : (now : Expect) (new : NewWalk) → new_walk known is now ≡ Ok new → NewIs now new
  unfolding new_walk
  new_given now new at =
      let s = step_ok (skip_in (kept_by known) (listed_by known) is.sup is.chunks now is.image) (λ records. fine_step (made now records)) new at in
      let walk = sym (new_skip now) ∙ s.1 in
      record { news = s.0; walk = walk; same = sym (same_ok (made now s.0) new s.2) ∙ made_whole now s.0 walk }

  new_found : (now : Expect) (finding : Finding) → new_walk known is now ≡ Err finding → walk_of is.sup now_stored now ≡ Err finding
  unfolding new_walk
  new_found now finding at =
      by (step_err (skip_in (kept_by known) (listed_by known) is.sup is.chunks now is.image) (λ records. fine_step (made now records)) finding at)
    where
      by : (skip_in (kept_by known) (listed_by known) is.sup is.chunks now is.image ≡ Err finding)
          ⊎ ((records : List Seen) × (skip_in (kept_by known) (listed_by known) is.sup is.chunks now is.image ≡ Ok records)
          × (fine_step (made now records) ≡ Err finding)) → walk_of is.sup now_stored now ≡ Err finding
      by (inl failed) = sym (new_skip now) ∙ failed
      by (inr s) = elim (ok_never (made now s.0) finding s.2) [ ]

module _ (image : List ℕ) (pending : FinMap nat_cmp ℕ) (old : Walked) (trees : List Tree) (pairs : Pairs) (is : Side) (known : Known)
    (has : HasTrees image old trees) (pairs_are : (tree address : ℕ) → pairs tree address ≡ table_of (live_in old.seen) tree address)
    (nothing_is : KnowsNothing old is known) where
  -- no pair is shared
  free : (news : List Seen) (live : Live) → unchanged image pending old is news live ≡ false
  unfolding is_shared_by
  free news live = and_false _ _ nothing_is.other

  -- the old tree, or none
  record OldIs (before : Option Expect) (all : Gathers) : Type 0 where
    olds : List Seen
    records : HasRecords image old before olds
    same : all ≡ gathered olds
    of : (shared : Live → Bool) → ((live : Live) → shared live ≡ false)
        → AreOfPairs pairs (filter (λ live. not (shared live)) (live_in olds)) olds olds

  stands : (e : Expect) → IsAmong (old_tree image old e) trees → Stands pairs old.sup (old_tree image old e).0 e
  stands e one =
      stands_as old.sup (old_tree image old e) (table_of (live_in old.seen)) pairs (pairs_are e.tree)
      (among (λ tree. Stands (table_of (live_in old.seen)) old.sup tree.0 tree.1) (old_tree image old e) trees one (old_stands image old trees has))

  stopped : (stops : List Expect) → KeepsNone (kept_at known.pairs stops known.under)
  stopped stops = none_at known.pairs stops known.under nothing_is.none

  old_is : (now : Expect) (before : Option Expect) (stops : List Expect) → IsOldOf image old trees now before → (all : Gathers)
      → old_or_none known stops (side_of image old) before ≡ Ok all → OldIs before all
  unfolding walk_in live_in
  old_is now None stops was all at =
      record {
        olds = [];
        records = refl;
        same = sym (same_ok no_tree all at);
        of = λ shared free. record { blocks = refl; count = refl; items = refl };
      }
  old_is now (Some e) stops was all at =
      let given = old_given known stops image old (stopped stops) e (stands e was.1).each.fine all at in
      record {
        olds = given.0;
        records = given.1;
        same = given.2;
        of = λ shared free. all_of shared free old.sup (old_tree image old e).0 e given.0 given.1 pairs (stands e was.1);
      }

  old_never : (now : Expect) (before : Option Expect) (stops : List Expect) → IsOldOf image old trees now before → (finding : Finding)
      → old_or_none known stops (side_of image old) before ≡ Err finding → ⊥
  old_never now None stops was finding at = ok_never no_tree finding at
  old_never now (Some e) stops was finding at = old_fine known stops image old (stopped stops) e (stands e was.1).each.fine finding at

  in_order : {A : Type 0} (before : A → A → Bool) (left list : List A) → left ≡ list → IsInOrder before list list → IsInOrder before left list
  in_order before left list same order = subst (λ some. IsInOrder before some list) (sym same) order

  changes : (now : Expect) (before : Option Expect) (new : NewWalk) (all : Gathers) (n : NewIs is known nothing_is.none now new)
      (o : OldIs before all)
      → ChangesTree image pending old is now o.olds n.news (parts_of pairs (whole is known nothing_is.none now n.news n.walk) (gathered o.olds))
  changes now before new all n o =
      let shared = unchanged image pending old is n.news in
      let stored = now_stored is known nothing_is.none in
      let table = table_of (live_in n.news) in
      let for = tree_table is.sup stored now n.news n.walk in
      let ended = map (ended_at is.sup stored) (behind_all is.sup stored table now for) in
      let f = free n.news in
      let was = o.of shared f in
      let came = all_of shared f is.sup stored now n.news n.walk table for in
      let old_blocks : pairs_at pairs (blocks_seen o.olds) ≡ filter (λ live. not (shared live)) (live_in o.olds) =
      sym (pairs_seen pairs o.olds) ∙ was.blocks in
      let new_blocks : lives_of ended (blocks_seen n.news) ≡ filter (λ live. not (shared live)) (live_in n.news) =
      lives_told is.sup stored ended now n.news n.walk (lasts_told is.sup stored table now for) ∙ sym (all_free shared f (live_in n.news)) in
      record {
        old_blocks = old_blocks;
        new_blocks = new_blocks;
        shifted = sym (none_shared shared f (is_shifted (live_in o.olds)) (live_in n.news));
        old_items = was.items ∙ ap (λ lives. items_in lives o.olds) (sym old_blocks);
        new_items = came.items ∙ ap (λ lives. items_in lives n.news) (sym new_blocks);
        count =
            ap (λ k. k + 2 * length (blocks_seen n.news)) (sym (count_seen o.olds) ∙ (was.count ∙ ap length (sym old_blocks)))
            ∙ ap (λ k. length (pairs_at pairs (blocks_seen o.olds)) + 2 * k) (sym (count_seen n.news) ∙ (came.count ∙ ap length (sym new_blocks)));
        chunks = λ tree. in_order begins_before (chunks_left (chunks_seen o.olds) (items o.olds) (items n.news)) (chunks_seen n.news)
            (chunks_all o.olds n.news)
            (record { all = IsPermutation-refl (chunks_seen n.news); ascends = chunks_ascend shared f is.sup stored now n.news n.walk tree });
        roots = λ tree. in_order root_before (roots_left (roots_seen o.olds) (items o.olds) (items n.news)) (roots_seen n.news)
            (roots_all o.olds n.news)
            (record {
              all = IsPermutation-refl (roots_seen n.news);
              ascends = roots_ascend shared f is.sup stored now n.news n.walk tree;
            });
      }

  -- what follows the walk of the tree as it is
  abbrev then_old : Option Expect → NewWalk → Result Parts Finding
  then_old before new = and_then (old_or_none known new.met (side_of image old) before) (λ all. fine_step (parts_of pairs new all))

  failed : (before : Option Expect) (now : Expect) → IsOldOf image old trees now before → (finding : Finding)
      → tree_parts pairs known (side_of image old) is before now ≡ Err finding → walk_in is.sup is.chunks now is.image ≡ Err finding
  unfolding tree_parts walk_in
  failed before now was finding at = by (step_err (new_walk known is now) (then_old before) finding at)
    where
      later : (new : NewWalk) → (old_or_none known new.met (side_of image old) before ≡ Err finding)
          ⊎ ((all : Gathers) × (old_or_none known new.met (side_of image old) before ≡ Ok all)
          × (fine_step (parts_of pairs new all) ≡ Err finding)) → ⊥
      later new (inl at) = old_never now before new.met was finding at
      later new (inr s) = ok_never (parts_of pairs new s.0) finding s.2

      by : (new_walk known is now ≡ Err finding) ⊎ ((new : NewWalk) × (new_walk known is now ≡ Ok new) × (then_old before new ≡ Err finding))
          → walk_of is.sup (now_stored is known nothing_is.none) now ≡ Err finding
      by (inl at) = new_found is known nothing_is.none now finding at
      by (inr s) =
          elim (later s.0
          (step_err (old_or_none known s.0.met (side_of image old) before) (λ all. fine_step (parts_of pairs s.0 all)) finding s.2)) [ ]

  gives : (before : Option Expect) (now : Expect) → IsOldOf image old trees now before → GivesTree image pending old pairs is known before now
  unfolding tree_parts walk_in
  gives before now was = record {
    found = failed before now was;
    parts = λ parts at.
        let s = step_ok (new_walk known is now) (then_old before) parts at in
        let t = step_ok (old_or_none known s.0.met (side_of image old) before) (λ all. fine_step (parts_of pairs s.0 all)) parts s.2 in
        let n = new_given is known nothing_is.none now s.0 s.1 in
        let o = old_is now before s.0.met was t.0 t.1 in (
          o.olds,
          n.news,
          o.records,
          n.walk,
          subst (ChangesTree image pending old is now o.olds n.news)
              (ap (λ new. parts_of pairs new (gathered o.olds)) (sym n.same)
              ∙ (ap (parts_of pairs s.0) (sym o.same) ∙ same_ok (parts_of pairs s.0 t.0) parts t.2))
              (changes now before s.0 t.0 n o),
        );
  }

pub nothing_tree : NothingTreeLaw
nothing_tree image pending old trees pairs is known before now has pairs_are over root was nothing_is =
    gives image pending old trees pairs is known has pairs_are nothing_is before now was
