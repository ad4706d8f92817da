-- A commit takes away and brings no more postings than there are of the items that count and of the blocks that are not shared.
use Rattle.std.proofs.Common.{◌≡◌, ℕ, ◌+◌, ◌*◌, ◌≤◌, inl, inr, Bool, true, false, not, List, [], ◌∷◌, ◌++◌, length, map}
use Rattle.std.proofs.Common.{refl, ap, sym, ◌∙◌, subst, arith}
use Rattle.std.specs.Prelude.{Ok}
use Rattle.std.specs.List.{AllPairs, Contains, flat_map}
use Rattle.std.specs.List.Sorted.{IsPermutation}
use Rattle.std.specs.Ordering.{nat_cmp}
use Rattle.std.specs.FinMap.{FinMap}
use Rattle.std.proofs.Math.Path.{fun_ext}
use Rattle.std.proofs.lemmas.Bool.{not-true}
use Rattle.std.proofs.lemmas.List.{append-nil, length-map}
use Rattle.std.proofs.lemmas.List.Elements.{All-contains, Contains-append_cases, Contains-append_left, Contains-append_right, recursion_from_All}
use Rattle.std.proofs.lemmas.List.Sorted.{Contains-permutation, IsPermutation-sym}
use Rattle.commit_laws.proofs.next_index.Flags.{ascend_items}
use Rattle.accounts.specs.Context.{Context}
use Rattle.change_records.specs.Affected.{AreAffected, context_with}
use Rattle.change_records.specs.Changes.{AreChanges}
use Rattle.change_records.specs.Refs.{is_named}
use Rattle.change_records.specs.Spans.{StandApart}
use Rattle.change_records.specs.SumFree.{flags_after}
use Rattle.change_records.specs.declared.item_ref.ItemRef.{ItemRef}
use Rattle.change_records.proofs.Merge.{contains_first, contains_more, contains_none}
use Rattle.live_index.specs.Pairs.{Pairs}
use Rattle.live_index.specs.declared.live.Live.{Live}
use Rattle.records.specs.Contents.{root_items_in, superblock_in}
use Rattle.records.specs.Context.{has_sum_free}
use Rattle.records.specs.Part.{Located}
use Rattle.records.specs.Postings.{all_postings, postings_of}
use Rattle.records.specs.SpacePostings.{rest_postings}
use Rattle.tree_laws.specs.LivePairs.{Walked, live_in, table_of, walked}
use Rattle.tree_laws.specs.Shared.{are_read_alike}
use Rattle.tree_laws.specs.Unshared.{items_in}
use Rattle.tree_laws.proofs.KeptImage.{nodesize_same}
use Rattle.tree_laws.proofs.Treed.{steps_of}
use Rattle.touched_blocks.specs.Touched.{written_in}
use Rattle.tree_change.specs.Change.{IsChange}
use Rattle.tree_change.specs.Gathered.{located_item}
use Rattle.write_cache.specs.Cache.{overlaid}
use Rattle.commit_laws.specs.Blocks.{BlocksLaw, HasOwnName}
use Rattle.commit_laws.specs.Commit.{AreTheAffected, Commit, IsCommit, Known}
use Rattle.commit_laws.specs.Flags.{FlagsLaw}
use Rattle.commit_laws.specs.Items.{ItemsLaw, ItemsStand, items_of}
use Rattle.commit_laws.specs.Kept.{AreFound, FoundLaw, kept_items, placed_postings}
use Rattle.commit_laws.specs.Paired.{AllChangesLaw, ArePaired, PairedLaw, SayChanges, anywhere, came_items, gone_items, name_of}
use Rattle.commit_laws.specs.Same.{HeldLaw, records_of}
use Rattle.commit_laws.specs.Steps.{change_records, step_posts}
use Rattle.commit_laws.proofs.named_items.Alike.{contains_cases}
use Rattle.commit_laws.proofs.named_items.Filters.{filter_in, pairs_filter}
use Rattle.commit_laws.proofs.named_items.Found.{one_alone, all_of}
use Rattle.commit_laws.proofs.steps_between.Flat.{flat_alike}
use Rattle.commit_laws.proofs.steps_between.Postings.{placed_rests, rest_posts}
use Rattle.commit_laws.proofs.steps_between.Records.{HoldApart, hold_apart}
use Rattle.commit_laws.proofs.whole_commits.Commit.{known_same, ok_same}
use Rattle.commit_laws.proofs.whole_commits.Named.{map_in, times_are}
use Rattle.commit_laws.proofs.whole_commits.Step.{Between, commit_at, context_at, known_at}
use Rattle.lookup_bounds.specs.Postings.{ArePostingsFew, PostingsLaw}
use Rattle.tree_change.specs.Accepted.{unshared_old}
use Rattle.lookup_bounds.specs.Work.{items_that_count, new_postings, old_postings, stands_in, unshared_new}
use Rattle.lookup_bounds.proofs.PostingsApart.{apart_alike, apart_part, its_like, no_more, of_both, one_key, one_tree, pairs_joined, pairs_right}
use Rattle.lookup_bounds.proofs.PostingsCounted.{Differs, among_items, counts_otherwise, counts_there, each_posts_some, few_posts, items_there}
use Rattle.lookup_bounds.proofs.Twins.{HasTwin, twin_of}
use Rattle.volume_items.specs.declared.root_at.RootAt.{RootAt}

-- the other laws
pub record PostingLaws : Type 0 where
  pub held : HeldLaw
  pub items : ItemsLaw
  pub blocks : BlocksLaw
  pub all_changes : AllChangesLaw
  pub found : FoundLaw
  pub paired : PairedLaw
  pub flags : FlagsLaw

-- the twins of records
record Twins (found others : List Located) : Type 0 where
  list : List Located
  among : (one : Located) → Contains list one → Contains others one
  alike : map anywhere found ≡ map anywhere list

twins : (found others : List Located) → ((one : Located) → Contains found one → HasTwin others one) → Twins found others
twins [] others have = record { list = []; among = λ one has. absurd (contains_none one has); alike = refl }
twins (x ∷ found) others have =
    let twin = have x (contains_first x found) in
    let more = twins found others (λ one has. have one (contains_more x found one has)) in
    record {
      list = twin.0 ∷ more.list;
      among = of_both (Contains others) (twin.0 ∷ []) more.list (λ one has. subst (Contains others) (only one has) twin.1) more.among;
      alike = λ i. twin.2 i ∷ more.alike i;
    }
  where
    first : Located
    first = (have x (contains_first x found)).0

    only : (one : Located) → Contains (first ∷ []) one → first ≡ one
    only one has = elim (contains_cases first [] one has) [ inl here ↦ here | inr never ↦ absurd (contains_none one never) ]

module _ (laws : PostingLaws) (image : List ℕ) (pending : FinMap nat_cmp ℕ) (old new : Walked) (olds news : List RootAt) (c : Commit)
    (between : Between image pending old new c.change c.changes) where
  abbrev k : Known
  k = known_at old olds

  abbrev next : Known
  next = known_at new news

  abbrev now : Commit
  now = commit_at new.sup c

  abbrev old_lives : List Live
  old_lives = unshared_old image pending old new

  abbrev new_lives : List Live
  new_lives = unshared_new image pending old new

  abbrev old_changed : List Located
  old_changed = map located_item c.change.old_items.items

  abbrev new_changed : List Located
  new_changed = map located_item c.change.new_items.items

  abbrev old_counting : List Located
  old_counting = items_that_count (context_at old) (context_at new) old_lives old

  abbrev new_counting : List Located
  new_counting = items_that_count (context_at old) (context_at new) new_lives new

  old_stand : ItemsStand old.sup.nodesize (items_of old)
  old_stand = laws.items image old between.was

  new_stand : ItemsStand new.sup.nodesize (items_of new)
  new_stand = laws.items (overlaid pending 0 image) new between.is

  -- the changed items stand in the leaves that are not shared
  old_there : (one : Located) → Contains old_changed one → Contains (items_in old_lives old.seen) one
  old_there one has =
      Contains-permutation old_changed (items_in old_lives old.seen) one
      (IsPermutation-sym (items_in old_lives old.seen) old_changed between.change_is.old_items.all) has

  new_there : (one : Located) → Contains new_changed one → Contains (items_in new_lives new.seen) one
  new_there one has =
      Contains-permutation new_changed (items_in new_lives new.seen) one
      (IsPermutation-sym (items_in new_lives new.seen) new_changed between.change_is.new_items.all) has

  old_counts : (one : Located) → Contains old_changed one → Contains old_counting one
  old_counts one has = counts_there (context_at old) (context_at new) old_lives old one (old_there one has)

  new_counts : (one : Located) → Contains new_changed one → Contains new_counting one
  new_counts one has = counts_there (context_at old) (context_at new) new_lives new one (new_there one has)

  changed_apart : (lives : List Live) (whole : Walked) (changed : List Located) → IsPermutation (items_in lives whole.seen) changed
      → AllPairs StandApart (items_of whole) → AllPairs StandApart changed
  changed_apart lives whole changed same apart =
      apart_part (items_in lives whole.seen) changed [] (subst (IsPermutation (items_in lives whole.seen)) (sym (append-nil changed)) same)
      (subst (AllPairs StandApart) (sym (items_there lives whole.seen)) (pairs_filter StandApart (stands_in lives) (items_of whole) apart))

  old_apart : AllPairs StandApart old_changed
  old_apart = changed_apart old_lives old old_changed between.change_is.old_items.all old_stand.distinct

  new_apart : AllPairs StandApart new_changed
  new_apart = changed_apart new_lives new new_changed between.change_is.new_items.all new_stand.distinct

  -- ---- what is to be shown, by what goes and comes, and by what is found of the old image and its twins in the new one

  record AreCounted (gone came found twin : List Located) : Type 0 where
    gone_is : gone_items c.change.old_items.items c.changes ≡ gone
    came_is : came_items c.change.new_items.items c.changes ≡ came
    names : map name_of found ≡ c.refs
    old_placed : (context : Context) → flat_map (rest_posts context) found ≡ flat_map (placed_postings context) c.refs
    alike : map anywhere found ≡ map anywhere twin
    old_distinct : AllPairs StandApart (gone ++ found)
    new_distinct : AllPairs StandApart (came ++ twin)
    old_among : (one : Located) → Contains (gone ++ found) one → Contains old_counting one
    new_among : (one : Located) → Contains (came ++ twin) one → Contains new_counting one
    differ : (one : Located) → Contains found one → Differs (context_at old) (context_at new) one

  counted_few : (gone came found twin : List Located) → AreCounted gone came found twin → ArePostingsFew image pending k next now old new
  unfolding old_postings new_postings
  counted_few gone came found twin are =
      let before = context_at old in
      let after = context_at new in
      let came_placed : flat_map (rest_posts after) twin ≡ flat_map (placed_postings after) c.refs =
      sym (flat_alike (rest_posts after) anywhere (λ one. refl) found twin are.alike) ∙ are.old_placed after in
      let n1 : length c.refs ≡ length found = ap length (sym are.names) ∙ length-map found name_of in
      let n2 : length found ≤ length (all_postings before found) + length (all_postings after found) =
      each_posts_some before after found are.differ in
      let n3 : length (all_postings after found) ≡ length (all_postings after twin) =
      ap length (flat_alike (postings_of after) anywhere (λ one. refl) found twin are.alike) in
      let n4 : length (all_postings before found) ≤ length (all_postings before old_counting) =
      no_more (postings_of before) found old_counting (pairs_right StandApart gone found are.old_distinct)
      (λ one has. are.old_among one (Contains-append_right gone found one has)) in
      let n5 : length (all_postings after twin) ≤ length (all_postings after new_counting) =
      no_more (postings_of after) twin new_counting (pairs_right StandApart came twin are.new_distinct)
      (λ one has. are.new_among one (Contains-append_right came twin one has)) in
      record {
        gone =
            subst (λ (items : List Located). length (step_posts before (change_records old.sup c.change.old_blocks.items items) c.refs)
            ≤ length (all_postings before old_counting) + 2 * length old_lives + 1) (sym are.gone_is)
            (few_posts before old.sup old_lives c.change.old_blocks.items gone found old_counting c.refs between.change_is.old_blocks
            (are.old_placed before) are.old_distinct are.old_among);
        came =
            subst (λ (items : List Located). length (step_posts after (change_records new.sup c.change.new_blocks.items items) c.refs)
            ≤ length (all_postings after new_counting) + 2 * length new_lives + 1) (sym are.came_is)
            (few_posts after new.sup new_lives c.change.new_blocks.items came twin new_counting c.refs between.change_is.new_blocks
            came_placed are.new_distinct are.new_among);
        refs = omega (arith, n1, n2, n3, n4, n5);
      }

  -- ---- images that are not read alike: all changed items go or come, and none is found

  few_other : SayChanges false c.change.old_items.items c.change.new_items.items c.changes → AreTheAffected false k now
      → ArePostingsFew image pending k next now old new
  few_other says none =
      let both = laws.all_changes c.change.old_items.items c.change.new_items.items in
      counted_few old_changed new_changed [] [] (record {
        gone_is = ap (gone_items c.change.old_items.items) says ∙ both.0;
        came_is = ap (came_items c.change.new_items.items) says ∙ both.1;
        names = sym none;
        old_placed = λ context. ap (flat_map (placed_postings context)) (sym none);
        alike = refl;
        old_distinct = subst (AllPairs StandApart) (sym (append-nil old_changed)) old_apart;
        new_distinct = subst (AllPairs StandApart) (sym (append-nil new_changed)) new_apart;
        old_among = λ one has. old_counts one (subst (λ xs. Contains xs one) (append-nil old_changed) has);
        new_among = λ one has. new_counts one (subst (λ xs. Contains xs one) (append-nil new_changed) has);
        differ = λ one has. absurd (contains_none one has);
      })

  -- ---- images that are read alike

  abbrev pairs : Pairs
  pairs = table_of (live_in old.seen)

  own_of : (one : Located) → Contains (items_of old) one → HasOwnName pairs one
  own_of one has = laws.blocks image between.generation old pairs one between.accepted between.was (λ tree address. refl) has

  module _ (alike : are_read_alike old.sup new.sup ≡ true) (says : AreChanges c.change.old_items.items c.change.new_items.items c.changes)
      (affected : AreTheAffected true k now) where
    abbrev named : ItemRef → Bool
    named = is_named c.change.old_items.items c.change.new_items.items c.changes

    abbrev gone : List Located
    gone = gone_items c.change.old_items.items c.changes

    abbrev came : List Located
    came = came_items c.change.new_items.items c.changes

    -- the new context, with the size of tree blocks of the old image
    abbrev later : Context
    later = context_with new.chunks old.sup.nodesize (has_sum_free (records_of new))

    same_later : later ≡ context_at new
    same_later = ap (λ n. context_with new.chunks n (has_sum_free (records_of new))) (nodesize_same old.sup new.sup alike)

    are : AreAffected pairs (context_at old) later named (items_of old) c.refs
    are =
        let flags :
        flags_after c.change.old_items.items c.change.new_items.items c.changes (has_sum_free (records_of old)) ≡ has_sum_free (records_of new) =
        fun_ext (λ tree. fun_ext (λ ino. sym (laws.flags image pending old new c.change c.changes tree ino between.was between.is
        old_stand new_stand between.change_is between.says))) in
        subst (λ (after : Context). AreAffected pairs (context_at old) after named (items_of old) c.refs)
        (λ i. context_with (between.change_is.map i) old.sup.nodesize (flags i))
        (affected (items_of old) (record { distinct = old_stand.distinct; lawful = old_stand.lawful; spans = times_are old.sup.nodesize old }))

    found_are : AreFound (context_at old) later (kept_items named (items_of old)) c.refs
    found_are =
        laws.found pairs old.chunks new.chunks old.sup.nodesize (has_sum_free (records_of old)) (has_sum_free (records_of new)) named
        (items_of old) c.refs old_stand (all_of (HasOwnName pairs) (items_of old) own_of) are

    paired : ArePaired named old_changed new_changed gone came
    paired =
        laws.paired c.change.old_items.items c.change.new_items.items c.changes
        (ascend_items c.change.old_items.items between.change_is.old_items.ascends)
        (ascend_items c.change.new_items.items between.change_is.new_items.ascends) says

    abbrev found : List Located
    found = found_are.found

    -- what is found is a kept item of the old image, and posts otherwise
    found_in : (one : Located) → Contains found one → Contains (items_of old) one × (named (name_of one) ≡ false)
    found_in one has =
        let kept : Contains (kept_items named (items_of old)) one =
        Contains-permutation (found ++ found_are.staying) (kept_items named (items_of old)) one
        (IsPermutation-sym (kept_items named (items_of old)) (found ++ found_are.staying) found_are.all)
        (Contains-append_left found found_are.staying one has) in
        let there = filter_in (λ (one : Located). not (named (name_of one))) (items_of old) one kept in
        (there.0, not-true (named (name_of one)) there.1)

    found_differs : (one : Located) → Contains found one → Differs (context_at old) (context_at new) one
    found_differs one has =
        let listed : Contains c.refs (name_of one) = subst (λ rs. Contains rs (name_of one)) found_are.names (map_in name_of found one has) in
        let its = are.hold (name_of one) listed in
        let name : name_of one ≡ name_of its.one = (own_of its.one its.among).one_name (name_of one) its.name in
        let same : its.one ≡ one =
        one_alone (items_of old) old_stand.distinct its.one one its.among (found_in one has).0 (sym name) in
        subst (λ (after : Context). Differs (context_at old) after one) same_later
        (subst (Differs (context_at old) later) same its.differs)

    -- ---- its twin in the new image

    same : HoldApart old new old_lives new_lives
    same = hold_apart image pending old new between.was between.is

    gone_named : (one : Located) → Contains gone one → named (name_of one) ≡ true
    gone_named one has = All-contains (λ (x : Located). named (name_of x) ≡ true) gone one paired.gone_named has

    came_named : (one : Located) → Contains came one → named (name_of one) ≡ true
    came_named one has = All-contains (λ (x : Located). named (name_of x) ≡ true) came one paired.came_named has

    never_both : (a b : ItemRef) → named a ≡ true → named b ≡ false → a ≡ b → ⊥
    never_both a b is other one = let here : named a ≡ named b = ap named one in cc

    found_twin : (one : Located) → Contains found one → HasTwin (items_of new) one
    found_twin one has =
        let there = found_in one has in
        twin_of old new old_lives new_lives same named old_changed new_changed gone came paired between.change_is.old_items.all
        between.change_is.new_items.all one there.0 there.1

    they : Twins found (items_of new)
    they = twins found (items_of new) found_twin

    abbrev twin : List Located
    twin = they.list

    -- the name of a twin, and what it posts, are those of what is found
    twin_unnamed : (one : Located) → Contains twin one → named (name_of one) ≡ false
    twin_unnamed one has =
        let other = its_like found twin they.alike one has in
        let tree = one_tree other.0 one other.2 in
        let key = one_key other.0 one other.2 in
        let name : name_of other.0 ≡ name_of one = λ i. record { tree = tree i; key = key i } in
        ap named (sym name) ∙ (found_in other.0 other.1).1

    twin_differs : (one : Located) → Contains twin one → Differs (context_at old) (context_at new) one
    twin_differs one has =
        let other = its_like found twin they.alike one has in
        let posts : (context : Context) → postings_of context other.0 ≡ postings_of context one = λ context. ap (postings_of context) other.2 in
        λ equal. found_differs other.0 other.1 (posts (context_at old) ∙ equal ∙ sym (posts (context_at new)))

    -- ---- no two of them have one tree and key

    apart_by_name : (xs ys : List Located) → ((one : Located) → Contains xs one → named (name_of one) ≡ true)
        → ((one : Located) → Contains ys one → named (name_of one) ≡ false) → (a b : Located) → Contains xs a → Contains ys b → StandApart a b
    apart_by_name xs ys are none a b has also tree key =
        let name : name_of a ≡ name_of b = λ i. record { tree = tree i; key = key i } in
        never_both (name_of a) (name_of b) (are a has) (none b also) name

    found_apart : AllPairs StandApart found
    found_apart =
        apart_part (kept_items named (items_of old)) found found_are.staying found_are.all
        (pairs_filter StandApart (λ (one : Located). not (named (name_of one))) (items_of old) old_stand.distinct)

    few_alike : ArePostingsFew image pending k next now old new
    few_alike =
        counted_few gone came found twin (record {
          gone_is = refl;
          came_is = refl;
          names = found_are.names;
          old_placed = λ context.
              placed_rests name_of placed_postings context found c.refs found_are.names
              (recursion_from_All (λ one. (any : Context) → rest_postings any one.tree one.part ≡ placed_postings any (name_of one)) found
              found_are.placed);
          alike = they.alike;
          old_distinct = pairs_joined StandApart gone found (apart_part old_changed gone paired.old_rest paired.old old_apart) found_apart
              (apart_by_name gone found gone_named (λ one has. (found_in one has).1));
          new_distinct = pairs_joined StandApart came twin (apart_part new_changed came paired.new_rest paired.new new_apart)
              (apart_alike found twin they.alike found_apart) (apart_by_name came twin came_named twin_unnamed);
          old_among = of_both (Contains old_counting) gone found
              (λ one has. old_counts one (part_of old_changed gone paired.old_rest paired.old one has))
              (λ one has. counts_otherwise (context_at old) (context_at new) old_lives old one (found_in one has).0 (found_differs one has));
          new_among = of_both (Contains new_counting) came twin
              (λ one has. new_counts one (part_of new_changed came paired.new_rest paired.new one has))
              (λ one has. counts_otherwise (context_at old) (context_at new) new_lives new one (they.among one has) (twin_differs one has));
          differ = found_differs;
        })
      where
        part_of : (all some rest : List Located) → IsPermutation all (some ++ rest) → (one : Located) → Contains some one → Contains all one
        part_of all some rest perm one has =
            Contains-permutation (some ++ rest) all one (IsPermutation-sym all (some ++ rest) perm) (Contains-append_left some rest one has)

  few_by : (alike : Bool) → are_read_alike old.sup new.sup ≡ alike → SayChanges alike c.change.old_items.items c.change.new_items.items c.changes
      → AreTheAffected alike k now → ArePostingsFew image pending k next now old new
  few_by true alike says affected = few_alike alike says affected
  few_by false alike says affected = few_other says affected

  pub few_between : AreTheAffected (are_read_alike old.sup new.sup) k now → ArePostingsFew image pending k next now old new
  few_between affected = few_by (are_read_alike old.sup new.sup) refl between.says affected

-- ---- by what is known of both images

-- a promise of what is known and what changes
abbrev AreFewIf : List ℕ → FinMap nat_cmp ℕ → Walked → Walked → Known → Known → Commit → Type 0
AreFewIf image pending old new k next c = IsCommit image pending k c → ArePostingsFew image pending k next c old new

pub few : PostingLaws → PostingsLaw
few laws image pending k next c old new passage =
    let judged_image = overlaid pending 0 image in
    let is = passage.commit in
    let change = is.change_is in
    let was : change.0 ≡ old = ok_same (walked image) change.0 old change.2 passage.was in
    let will : change.1 ≡ new = ok_same (walked judged_image) change.1 new change.3 passage.is in
    let moved : IsChange old new (written_in pending) (length image) c.change =
    subst (λ (o : Walked). IsChange o new (written_in pending) (length image) c.change) was
    (subst (λ (n : Walked). IsChange change.0 n (written_in pending) (length image) c.change) will change.4) in
    let before = laws.held image old passage.was in
    let after = laws.held judged_image new passage.is in
    let same : k ≡ known_at old before.0.roots = known_same image k old before.0 passage.known passage.was before.1 before.2 in
    let then : next ≡ known_at new after.0.roots = known_same judged_image next new after.0 passage.known_then passage.is after.1 after.2 in
    let fresh : c.fresh ≡ new.sup = ok_same (superblock_in judged_image) c.fresh new.sup is.super_is (steps_of judged_image new passage.is).sup_is in
    let now : c ≡ commit_at new.sup c = λ i. record { fresh = fresh i; change = c.change; changes = c.changes; refs = c.refs } in
    let base : AreFewIf image pending old new (known_at old before.0.roots) (known_at new after.0.roots) (commit_at new.sup c) =
    λ is'.
    let between : Between image pending old new c.change c.changes = record {
      generation = passage.known.bases.generation;
      accepted = passage.known.bases.accepted;
      was = passage.was;
      is = passage.is;
      change_is = moved;
      roots_are = subst (λ (n : Walked). root_items_in n.sup n.chunks judged_image ≡ Ok c.change.roots.items) will change.5;
      says = is'.changes_are;
    } in
    few_between laws image pending old new before.0.roots after.0.roots c between is'.refs_are in
    (subst (λ (n : Known). AreFewIf image pending old new n next c) (sym same)
    (subst (λ (n : Known). AreFewIf image pending old new (known_at old before.0.roots) n c) (sym then)
    (subst (λ (n : Commit). AreFewIf image pending old new (known_at old before.0.roots) (known_at new after.0.roots) n) (sym now) base))) is
