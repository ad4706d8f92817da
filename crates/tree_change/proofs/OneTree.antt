-- What the two walks of a tree give is what changes in it, where blocks are read alike in both images.
use Rattle.std.proofs.Common.{◌≡◌, ℕ, ◌==◌, Bool, true, false, List, [], length, refl, ap, sym, subst, ◌∙◌, arith, if◌then◌else◌}
use Rattle.std.proofs.lemmas.Bool.Decides.{nat_tests}
use Rattle.std.specs.Prelude.{Option, Some, None, Ok, is_some}
use Rattle.std.specs.List.{AllByRecursion}
use Rattle.std.specs.Ordering.{nat_cmp}
use Rattle.std.specs.FinMap.{FinMap}
use Rattle.verdict.proofs.Lists.{all_map as each_map}
use Rattle.write_cache.specs.Cache.{overlaid}
use Rattle.verdict.specs.declared.key.Key.{Key}
use Rattle.live_index.specs.Pairs.{Pairs}
use Rattle.live_index.specs.declared.live.Live.{Live}
use Rattle.node_reader.specs.Stored.{Stored, stored_in}
use Rattle.node_reader.specs.declared.expect.Expect.{Expect}
use Rattle.records.specs.Seen.{Seen}
use Rattle.records.specs.Walk.{walk_of}
use Rattle.records.specs.WalkLaw.{visited}
use Rattle.touched_blocks.specs.Marks.{no_mark}
use Rattle.touched_blocks.specs.Touched.{written_in}
use Rattle.tree_laws.specs.Keeping.{Under, kept_of, last_if_same, live_at}
use Rattle.tree_laws.specs.LivePairs.{Walked, live_in, table_of}
use Rattle.tree_laws.specs.MovedLaw.{is_other_than}
use Rattle.tree_laws.specs.OldSide.{IsRoot}
use Rattle.tree_laws.specs.Shared.{are_read_alike}
use Rattle.tree_laws.specs.SharedLaw.{HasTrees, IsBefore}
use Rattle.tree_laws.specs.ShiftedLaw.{is_shifted}
use Rattle.tree_laws.specs.Skips.{Kept}
use Rattle.tree_laws.specs.TableLaw.{Tree}
use Rattle.tree_laws.proofs.Forest.{all_lives, lives_all, of_root, others_all, table_none, tree_table}
use Rattle.tree_laws.proofs.Kept.{keeps_tree}
use Rattle.tree_laws.proofs.Picking.{each_both}
use Rattle.tree_laws.proofs.Treed.{trees_walk}
use Rattle.tree_change.specs.OneTree.{GivesTree, IsOldOf, KnowsTree, alone, unchanged}
use Rattle.tree_change.specs.Unchanged.{changes_at, none_touched, stays_unchanged}
use Rattle.tree_change.specs.Walks.{Known, Side, lasts_by}
use Rattle.tree_change.proofs.OneGives.{AreBoth, gives_tree}
use Rattle.tree_change.proofs.OneNone.{none_new, none_sound}
use Rattle.tree_change.proofs.OneOld.{gives_old, old_is}
use Rattle.tree_change.proofs.OnePlain.{gives_plain, plain}

-- what the two walks of a tree give is what changes in it, where the old tree is known
abbrev pub AlikeTreeLaw : Type 0
AlikeTreeLaw = (image : List ℕ) (pending : FinMap nat_cmp ℕ) (old : Walked) (trees : List Tree) (pairs : Pairs) (is : Side) (known : Known)
    (before : Option Expect) (now : Expect)
    → HasTrees image old trees → ((tree address : ℕ) → pairs tree address ≡ table_of (live_in old.seen) tree address)
    → is.image ≡ overlaid pending 0 image → IsRoot now → IsOldOf image old trees now before → KnowsTree image pending old is known before
    → GivesTree image pending old pairs is known before now

-- the chunk tree and the root tree are among the trees of an image
not_other : (image : List ℕ) (old : Walked) (trees : List Tree) (id : ℕ) → HasTrees image old trees
    → AllByRecursion (λ (tree : Tree). (tree.1.tree == id) ≡ false) trees → ((3 == id) ≡ false) × ((1 == id) ≡ false)
not_other image old trees id has others =
    let all = subst (AllByRecursion (λ (tree : Tree). (tree.1.tree == id) ≡ false)) has.trees_are others in
    (all.0, all.1.0)

other_id : (m n : ℕ) → (m == n) ≡ false → m ≡ n → ⊥
other_id m n other same = grind (arith, nat_tests)

-- where no old tree has the id, nothing of the tree is known
module _ (image : List ℕ) (pending : FinMap nat_cmp ℕ) (old : Walked) (trees : List Tree) (pairs : Pairs) (is : Side) (table : Pairs)
    (under : Under) (now : Expect) (has : HasTrees image old trees) (alike : are_read_alike old.sup is.sup ≡ true) (high : now.high ≡ None)
    (tables_are : (tree address : ℕ) → table tree address ≡ table_of (live_in old.seen) tree address)
    (others : AllByRecursion (λ (tree : Tree). (tree.1.tree == now.tree) ≡ false) trees) where
  abbrev pub stored : Stored
  stored = stored_in is.image is.chunks is.sup.nodesize

  abbrev pub stays : ℕ → Bool
  stays = stays_unchanged old is.chunks (written_in pending) (length image)

  abbrev pub changes : ℕ → Bool
  changes = changes_at old is.chunks (written_in pending) (length image)

  abbrev pub known : Known
  known = record { pairs = table; marked = no_mark; moved = changes; under = under }

  abbrev pub K : Kept
  K = kept_of table no_mark changes under

  no_entry : (address : ℕ) → table now.tree address ≡ None
  no_entry address =
      let walk = trees_walk image old trees has in
      tables_are now.tree address
      ∙ (ap (λ lives. table_of lives now.tree address) (lives_all old.sup trees old.seen walk.0 walk.1)
      ∙ table_none (all_lives old.sup trees) now.tree address (others_all old.sup trees old.seen now.tree walk.1 others))

  none_kept : (e : Expect) → e.tree ≡ now.tree → K e ≡ None
  unfolding kept_of
  none_kept e of =
      let entry : table e.tree e.address ≡ None = ap (λ t. table t e.address) of ∙ no_entry e.address in
      ap (λ (one : Option Live). if changes e.address then None else last_if_same e (under e.tree e.address) one) entry ∙ by (changes e.address)
    where
      by : (b : Bool) → (if b then None else last_if_same e (under e.tree e.address) None) ≡ None
      by true = refl
      by false = refl

  none_shared : (news : List Seen) → walk_of is.sup stored now ≡ Ok news
      → AllByRecursion (λ v. unchanged image pending old is news (live_at is.sup stored v) ≡ false) (visited is.sup stored now)
  none_shared news walk =
      let all = trees_walk image old trees has in
      let shared = unchanged image pending old is news in
      let B = IsBefore stays none_touched old no_mark stored in
      each_map (λ v. (v.tree ≡ now.tree) × (is_some (K v) ≡ shared (live_at is.sup stored v))) (λ v. shared (live_at is.sup stored v) ≡ false)
      (visited is.sup stored now)
      (λ v h. sym h.1 ∙ ap (λ (k : Option Key). is_some k) (none_kept v h.0))
      (each_both (λ v. v.tree ≡ now.tree) (λ v. is_some (K v) ≡ shared (live_at is.sup stored v)) (visited is.sup stored now)
      (of_root is.sup (stored, now) (rw walk refl)).each
      (keeps_tree stays none_touched old (alone is news) trees table no_mark under stored now all.0 all.1
      (tree_table is.sup stored now news walk) high alike (λ address. tables_are now.tree address)
      (each_map (λ (t : Tree). (t.1.tree == now.tree) ≡ false) (λ t. t.1.tree ≡ now.tree → B t) trees
      (λ t other same. absurd (other_id t.1.tree now.tree other same)) others)))

  both_none : (news : List Seen) → walk_of is.sup stored now ≡ Ok news → AreBoth image pending old pairs is known None now news
  unfolding live_in
  both_none news walk =
      let apart = none_shared news walk in
      let shared = unchanged image pending old is news in
      let no = not_other image old trees now.tree has others in
      record {
        new = none_new K under (lasts_by known) is.sup stored now none_kept pairs shared news walk apart;
        olds = [];
        gone = [];
        has = refl;
        old_is = refl;
        whole_is = tt;
        old_pairs = record { blocks = refl; count = refl; items = refl };
        shifts = each_map (λ v. shared (live_at is.sup stored v) ≡ false)
            (λ v. shared (live_at is.sup stored v) ≡ true
            → is_shifted [] (live_at is.sup stored v) ≡ is_other_than (pairs v.tree v.address) (live_at is.sup stored v))
            (visited is.sup stored now) (λ v none some. absurd (cc (none, some))) apart;
        chunks = λ come comes three. absurd (other_id 3 now.tree no.0 (sym three));
        roots = λ come comes one. absurd (other_id 1 now.tree no.1 (sym one));
      }

  pub gives_none : GivesTree image pending old pairs is known None now
  gives_none = gives_tree image pending old pairs is known None now (none_sound K under (lasts_by known) is.sup stored now none_kept) both_none

pub alike_tree : AlikeTreeLaw
alike_tree image pending old trees pairs is known before now has pairs_are over root was knows =
    gives_plain image pending old is known before knows pairs now (by before was knows)
  where
    by : (e : Option Expect) → IsOldOf image old trees now e → (knows : KnowsTree image pending old is known e)
        → GivesTree image pending old pairs is (plain image pending old is known e knows) e now
    by None others knows = gives_none image pending old trees pairs is known.pairs known.under now has knows.alike root.1 knows.pairs_are others
    by (Some e) old_of knows =
        gives_old image pending old trees pairs is known.pairs known.under now e knows.changing
        (old_is image pending old trees pairs is known now e has pairs_are over root old_of knows)
