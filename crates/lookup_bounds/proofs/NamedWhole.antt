-- The sectors that a commit changes are among those to which the postings go that count.
use Rattle.std.proofs.Common.{◌≡◌, ℕ, ◌<◌, inl, inr, Bool, true, false, ◌||◌, List, ◌++◌, length, map, refl, ap, sym, ◌∙◌, subst}
use Rattle.std.specs.Prelude.{Option, Some, None}
use Rattle.std.specs.List.{Contains}
use Rattle.std.specs.Ordering.{nat_cmp}
use Rattle.std.specs.FinMap.{FinMap}
use Rattle.std.proofs.Math.Path.{fun_ext}
use Rattle.std.proofs.lemmas.List.Elements.{All-contains}
use Rattle.std.proofs.lemmas.List.Sorted.{Contains-permutation, IsPermutation-sym}
use Rattle.commit_laws.proofs.next_index.Flags.{ascend_items}
use Rattle.accounts.specs.Context.{Context}
use Rattle.accounts.specs.declared.postings.Posting.{Posting}
use Rattle.live_index.specs.declared.live.Live.{Live}
use Rattle.span_index.specs.Sectors.{counts, has_sector, times_of_span}
use Rattle.span_index.specs.declared.span.Span.{Span}
use Rattle.records.specs.Contents.{superblock_in}
use Rattle.records.specs.DirPostings.{dir_postings}
use Rattle.records.specs.ExtentPostings.{extent_postings}
use Rattle.records.specs.InodePostings.{inode_postings}
use Rattle.records.specs.Part.{IsLawful, Located}
use Rattle.records.specs.Postings.{postings_of}
use Rattle.records.specs.SpacePostings.{space_postings}
use Rattle.change_records.specs.Affected.{AreAffected, NamesIn, context_with}
use Rattle.change_records.specs.Changes.{AreChanges}
use Rattle.change_records.specs.Refs.{is_named}
use Rattle.change_records.specs.Search.{SpanNames}
use Rattle.change_records.specs.Spans.{AreItemsOf, IsLawfulIn, span_of}
use Rattle.change_records.specs.SumFree.{flags_after}
use Rattle.change_records.specs.declared.item_ref.ItemRef.{ItemRef}
use Rattle.change_records.proofs.ItemLaws.{item_of, stands_of}
use Rattle.change_records.proofs.Merge.{contains_none, from_one}
use Rattle.change_records.proofs.PostingLaws.{item_plain}
use Rattle.tree_laws.specs.LivePairs.{Walked, walked}
use Rattle.tree_laws.specs.Shared.{are_read_alike}
use Rattle.tree_laws.specs.Unshared.{items_in}
use Rattle.tree_laws.proofs.KeptImage.{nodesize_same}
use Rattle.tree_laws.proofs.Treed.{steps_of}
use Rattle.touched_blocks.specs.Touched.{written_in}
use Rattle.tree_change.specs.Change.{IsChange}
use Rattle.tree_change.specs.Gathered.{located_item}
use Rattle.super_reader.specs.declared.Super.{Super}
use Rattle.write_cache.specs.Cache.{overlaid}
use Rattle.commit_laws.specs.Blocks.{BlocksLaw, HasOwnName}
use Rattle.commit_laws.specs.Commit.{AreTheAffected, Commit, Known, came_by, context_by, gone_by}
use Rattle.commit_laws.specs.Items.{ItemsLaw, ItemsStand, items_of}
use Rattle.commit_laws.specs.Paired.{ArePaired, PairedLaw, SayChanges, came_items, gone_items, name_of}
use Rattle.commit_laws.specs.Same.{HeldLaw, records_of}
use Rattle.commit_laws.specs.Steps.{spans_of}
use Rattle.commit_laws.proofs.accepted.Sums.{among_left, among_right}
use Rattle.commit_laws.proofs.named_items.Filters.{filter_in}
use Rattle.commit_laws.proofs.named_items.Found.{one_alone}
use Rattle.commit_laws.proofs.steps_between.Records.{HoldApart, hold_apart}
use Rattle.commit_laws.proofs.whole_commits.Commit.{ok_same}
use Rattle.commit_laws.proofs.whole_commits.Named.{times_are}
use Rattle.lookup_bounds.specs.Named.{AreSectorsNamed, NamedLaw, is_named_sector}
use Rattle.lookup_bounds.specs.Postings.{IsPassage}
use Rattle.tree_change.specs.Accepted.{unshared_old}
use Rattle.lookup_bounds.specs.Work.{context_in, items_that_count, new_postings, old_postings, posts_otherwise, stands_in, unshared_new}
use Rattle.lookup_bounds.proofs.Known.{IsKnownBy, known_by_walks}
use Rattle.lookup_bounds.proofs.NamedItems.{came_in, gone_in, item_among, name_back, name_to}
use Rattle.lookup_bounds.proofs.NamedSectors.{names_there, posts_there, same_nowhere}
use Rattle.lookup_bounds.proofs.PostingsCounted.{Differs, counts_otherwise, counts_there}
use Rattle.lookup_bounds.proofs.Twins.{HasTwin, twin_of}

-- the other laws
pub record NamingLaws : Type 0 where
  pub held : HeldLaw
  pub items : ItemsLaw
  pub blocks : BlocksLaw
  pub paired : PairedLaw

-- what is among items that stand is sound
sound_item : (whole : Walked) → ItemsStand whole.sup.nodesize (items_of whole) → (one : Located) → Contains (items_of whole) one
    → IsLawfulIn whole.sup.nodesize one one.part × IsLawful one.part
sound_item whole stand one has = (
  All-contains (λ (x : Located). IsLawfulIn whole.sup.nodesize x x.part) (items_of whole) one stand.lawful has,
  All-contains (λ (x : Located). IsLawful x.part) (items_of whole) one stand.sound has,
)

module _ (laws : NamingLaws) (image : List ℕ) (pending : FinMap nat_cmp ℕ) (k next : Known) (c : Commit) (old new : Walked)
    (is : IsPassage image pending k next c old new) where
  abbrev judged : List ℕ
  judged = overlaid pending 0 image

  abbrev old_lives : List Live
  old_lives = unshared_old image pending old new

  abbrev new_lives : List Live
  new_lives = unshared_new image pending old new

  abbrev old_counting : List Located
  old_counting = items_that_count (context_in old) (context_in new) old_lives old

  abbrev new_counting : List Located
  new_counting = items_that_count (context_in old) (context_in new) new_lives new

  abbrev old_changed : List Located
  old_changed = map located_item c.change.old_items.items

  abbrev new_changed : List Located
  new_changed = map located_item c.change.new_items.items

  was_known : IsKnownBy k old
  was_known = known_by_walks laws.held image k old is.known is.was

  is_known : IsKnownBy next new
  is_known = known_by_walks laws.held judged next new is.known_then is.is

  old_stand : ItemsStand old.sup.nodesize (items_of old)
  old_stand = laws.items image old is.was

  new_stand : ItemsStand new.sup.nodesize (items_of new)
  new_stand = laws.items judged new is.is

  fresh : c.fresh ≡ new.sup
  fresh = ok_same (superblock_in judged) c.fresh new.sup is.commit.super_is (steps_of judged new is.is).sup_is

  change_is : IsChange old new (written_in pending) (length image) c.change
  change_is =
      let change = is.commit.change_is in
      let was : change.0 ≡ old = ok_same (walked image) change.0 old change.2 is.was in
      let will : change.1 ≡ new = ok_same (walked judged) change.1 new change.3 is.is in
      subst (λ (o : Walked). IsChange o new (written_in pending) (length image) c.change) was
      (subst (λ (n : Walked). IsChange change.0 n (written_in pending) (length image) c.change) will change.4)

  -- ---- an item that counts, and a sector of its span

  named_old : (one : Located) (span : Span) (address : ℕ) → Contains old_counting one → span_of old.sup.nodesize one ≡ Some span
      → counts (context_in old) span span.sort ≡ true → has_sector span address ≡ true → is_named_sector image pending old new address ≡ true
  unfolding old_postings
  named_old one span address has gives counted shows =
      let there = filter_in (λ one. stands_in old_lives one || posts_otherwise (context_in old) (context_in new) one) (items_of old) one has in
      names_there (context_in old) old_counting (old_postings image pending old new ++ new_postings image pending old new) one address has
      (λ p among. among_left p (old_postings image pending old new) (new_postings image pending old new) among)
      (posts_there (context_in old) one span address (sound_item old old_stand one there.0) gives counted shows)

  named_new : (one : Located) (span : Span) (address : ℕ) → Contains new_counting one → span_of new.sup.nodesize one ≡ Some span
      → counts (context_in new) span span.sort ≡ true → has_sector span address ≡ true → is_named_sector image pending old new address ≡ true
  unfolding new_postings
  named_new one span address has gives counted shows =
      let there = filter_in (λ one. stands_in new_lives one || posts_otherwise (context_in old) (context_in new) one) (items_of new) one has in
      names_there (context_in new) new_counting (old_postings image pending old new ++ new_postings image pending old new) one address has
      (λ p among. among_right p (old_postings image pending old new) (new_postings image pending old new) among)
      (posts_there (context_in new) one span address (sound_item new new_stand one there.0) gives counted shows)

  -- ---- what is gone, and what came

  old_there : (one : Located) → Contains old_changed one → Contains (items_in old_lives old.seen) one
  old_there one has =
      Contains-permutation old_changed (items_in old_lives old.seen) one
      (IsPermutation-sym (items_in old_lives old.seen) old_changed change_is.old_items.all) has

  new_there : (one : Located) → Contains new_changed one → Contains (items_in new_lives new.seen) one
  new_there one has =
      Contains-permutation new_changed (items_in new_lives new.seen) one
      (IsPermutation-sym (items_in new_lives new.seen) new_changed change_is.new_items.all) has

  gone_named : (span : Span) (address : ℕ) → Contains (spans_of k.sup.nodesize (gone_by k c)) span → counts (context_by k) span span.sort ≡ true
      → has_sector span address ≡ true → is_named_sector image pending old new address ≡ true
  unfolding spans_of
  gone_named span address has counted shows =
      let n = k.sup.nodesize in
      let found = from_one (span_of n) (gone_by k c) span has in
      let one = found.0 in
      let item =
      item_among n k.sup c.change.old_blocks.items (gone_items c.change.old_items.items c.changes) one span found.2 found.1 in
      let changed = gone_in c.change.old_items.items c.changes one item in
      named_old one span address (counts_there (context_in old) (context_in new) old_lives old one (old_there one changed))
      (subst (λ (sup : Super). span_of sup.nodesize one ≡ Some span) was_known.sup found.2)
      (subst (λ (context : Context). counts context span span.sort ≡ true) was_known.context counted) shows

  came_named : (span : Span) (address : ℕ) → Contains (spans_of c.fresh.nodesize (came_by c)) span → counts (context_by next) span span.sort ≡ true
      → has_sector span address ≡ true → is_named_sector image pending old new address ≡ true
  unfolding spans_of
  came_named span address has counted shows =
      let n = c.fresh.nodesize in
      let found = from_one (span_of n) (came_by c) span has in
      let one = found.0 in
      let item =
      item_among n c.fresh c.change.new_blocks.items (came_items c.change.new_items.items c.changes) one span found.2 found.1 in
      let changed = came_in c.change.new_items.items c.changes one item in
      named_new one span address (counts_there (context_in old) (context_in new) new_lives new one (new_there one changed))
      (subst (λ (sup : Super). span_of sup.nodesize one ≡ Some span) fresh found.2)
      (subst (λ (context : Context). counts context span span.sort ≡ true) is_known.context counted) shows

  -- ---- the items that are named

  items_are : AreItemsOf k.sup.nodesize k.spans (items_of old)
  items_are =
      let table = times_of_span (spans_of old.sup.nodesize (records_of old)) in
      let are : AreItemsOf old.sup.nodesize table (items_of old) =
      record { distinct = old_stand.distinct; lawful = old_stand.lawful; spans = times_are old.sup.nodesize old } in
      subst (λ (known : Known). AreItemsOf known.sup.nodesize known.spans (items_of old)) (sym was_known.all) are

  own_of : (one : Located) → Contains (items_of old) one → HasOwnName k.pairs one
  own_of one has =
      laws.blocks image is.known.bases.generation old k.pairs one is.known.bases.accepted is.was
      (λ tree address. ap (λ pairs. pairs tree address) was_known.pairs) has

  lawful_of : (one : Located) → Contains (items_of old) one → IsLawfulIn k.sup.nodesize one one.part
  lawful_of one has = All-contains (λ (x : Located). IsLawfulIn k.sup.nodesize x x.part) (items_of old) one items_are.lawful has

  -- Of each name there is a kept item that posts otherwise.
  record ItsItem (named : ItemRef → Bool) (at : ItemRef) : Type 0 where
    one : Located
    among : Contains (items_of old) one
    name : NamesIn k.pairs one one.part at
    kept : named (name_of one) ≡ false
    differs : Differs (context_in old) (context_in new) one

  abbrev HaveItems : (ItemRef → Bool) → Type 0
  HaveItems named = (at : ItemRef) → Contains c.refs at → ItsItem named at

  own_name : (named : ItemRef → Bool) (at : ItemRef) (its : ItsItem named at) → at ≡ name_of its.one
  own_name named at its = (own_of its.one its.among).one_name at its.name

  -- a span of the table with the name is that of the item
  its_span : (named : ItemRef → Bool) (at : ItemRef) (its : ItsItem named at) (span : Span) → 0 < k.spans span → SpanNames k.pairs span at
      → span_of k.sup.nodesize its.one ≡ Some span
  its_span named at its span stands names =
      let found = item_of k.sup.nodesize k.spans (items_of old) span items_are stands in
      let one = found.0 in
      let name : NamesIn k.pairs one one.part at = name_back k.sup.nodesize k.pairs one one.part at span found.2 (lawful_of one found.1) names in
      let own : at ≡ name_of one = (own_of one found.1).one_name at name in
      let same : one ≡ its.one = one_alone (items_of old) old_stand.distinct one its.one found.1 its.among (sym own ∙ own_name named at its) in
      subst (λ (x : Located). span_of k.sup.nodesize x ≡ Some span) same found.2

  -- the item of a name has a span, which has that name
  its_name : (named : ItemRef → Bool) (at : ItemRef) → old.sup.nodesize ≡ new.sup.nodesize → ItsItem named at
      → (span : Span) × (0 < k.spans span) × SpanNames k.pairs span at
  its_name named at size its = by (span_of k.sup.nodesize its.one) refl
    where
      rest_differs : space_postings (context_in old) its.one.tree its.one.part ≡ space_postings (context_in new) its.one.tree its.one.part → ⊥
      rest_differs same =
          its.differs (ap (λ (ps : List Posting). extent_postings its.one.tree its.one.part
          ++ (inode_postings its.one.tree its.one.part ++ (dir_postings its.one.tree its.one.part ++ ps))) same)

      plain : span_of k.sup.nodesize its.one ≡ None → postings_of (context_in old) its.one ≡ postings_of (context_in new) its.one
      plain none =
          item_plain old.chunks new.chunks old.sup.nodesize (context_in old).sum_free (context_in new).sum_free its.one
          (subst (λ (sup : Super). span_of sup.nodesize its.one ≡ None) was_known.sup none)
          ∙ ap (λ n. postings_of (context_with new.chunks n (context_in new).sum_free) its.one) size

      by : (o : Option Span) → span_of k.sup.nodesize its.one ≡ o → (span : Span) × (0 < k.spans span) × SpanNames k.pairs span at
      by None none = absurd (its.differs (plain none))
      by (Some span) gives = (
        span,
        stands_of k.sup.nodesize k.spans (items_of old) its.one span items_are its.among gives,
        name_to k.sup.nodesize k.pairs (context_in old) (context_in new) its.one its.one.part at span gives (lawful_of its.one its.among)
            rest_differs its.name,
      )

  -- ---- where the images are read alike

  module _ (alike : are_read_alike k.sup c.fresh ≡ true) (says : AreChanges c.change.old_items.items c.change.new_items.items c.changes)
      (affected : AreTheAffected true k c) where
    abbrev named : ItemRef → Bool
    named = is_named c.change.old_items.items c.change.new_items.items c.changes

    abbrev later : Context
    later = context_with c.change.map k.sup.nodesize (flags_after c.change.old_items.items c.change.new_items.items c.changes k.free)

    size : k.sup.nodesize ≡ c.fresh.nodesize
    size = nodesize_same k.sup c.fresh alike

    same_size : old.sup.nodesize ≡ new.sup.nodesize
    same_size = ap (λ (sup : Super). sup.nodesize) (sym was_known.sup) ∙ size ∙ ap (λ (sup : Super). sup.nodesize) fresh

    same_later : later ≡ context_in new
    same_later =
        let chunks = sym is.moved.chunks in
        let bytes : k.sup.nodesize ≡ next.sup.nodesize = size ∙ ap (λ (sup : Super). sup.nodesize) (sym is.moved.sup) in
        let flags : flags_after c.change.old_items.items c.change.new_items.items c.changes k.free ≡ next.free =
        fun_ext (λ tree. fun_ext (λ ino. sym (is.moved.free tree ino))) in
        (λ i. context_with (chunks i) (bytes i) (flags i)) ∙ is_known.context

    items_at : HaveItems named
    items_at at has =
        let are : AreAffected k.pairs (context_by k) later named (items_of old) c.refs = affected (items_of old) items_are in
        let its = are.hold at has in
        let own : at ≡ name_of its.one = (own_of its.one its.among).one_name at its.name in
        record {
          one = its.one;
          among = its.among;
          name = its.name;
          kept = ap named (sym own) ∙ its.kept;
          differs = subst (λ (after : Context). Differs (context_in old) after its.one) same_later
              (subst (λ (before : Context). Differs before later its.one) was_known.context its.differs);
        }

    -- ---- the same item in the new image, wherever it stands

    abbrev gone : List Located
    gone = gone_items c.change.old_items.items c.changes

    abbrev came : List Located
    came = came_items c.change.new_items.items c.changes

    paired : ArePaired named old_changed new_changed gone came
    paired =
        laws.paired c.change.old_items.items c.change.new_items.items c.changes
        (ascend_items c.change.old_items.items change_is.old_items.ascends) (ascend_items c.change.new_items.items change_is.new_items.ascends) says

    both : HoldApart old new old_lives new_lives
    both = hold_apart image pending old new is.was is.is

    kept_twin : (one : Located) → Contains (items_of old) one → named (name_of one) ≡ false → HasTwin (items_of new) one
    kept_twin =
        twin_of old new old_lives new_lives both named old_changed new_changed gone came paired change_is.old_items.all change_is.new_items.all

    -- ---- an item that posts otherwise does so to its sectors in one of the two images

    by_new : (one : Located) (span : Span) (address : ℕ) → Contains (items_of old) one → named (name_of one) ≡ false
        → Differs (context_in old) (context_in new) one → span_of new.sup.nodesize one ≡ Some span
        → counts (context_in new) span span.sort ≡ true → has_sector span address ≡ true → is_named_sector image pending old new address ≡ true
    by_new one span address has kept differs gives counted shows =
        let twin = kept_twin one has kept in
        let posts : (context : Context) → postings_of context one ≡ postings_of context twin.0 = λ context. ap (postings_of context) twin.2 in
        named_new twin.0 span address
        (counts_otherwise (context_in old) (context_in new) new_lives new twin.0 twin.1
        (λ same. differs (posts (context_in old) ∙ same ∙ sym (posts (context_in new)))))
        (ap (span_of new.sup.nodesize) (sym twin.2) ∙ gives) counted shows

    by_either : (one : Located) (span : Span) (address : ℕ) → Contains (items_of old) one → named (name_of one) ≡ false
        → Differs (context_in old) (context_in new) one → span_of old.sup.nodesize one ≡ Some span → has_sector span address ≡ true
        → is_named_sector image pending old new address ≡ true
    by_either one span address has kept differs gives shows =
        by (counts (context_in old) span span.sort) (counts (context_in new) span span.sort) refl refl
      where
        by : (a b : Bool) → counts (context_in old) span span.sort ≡ a → counts (context_in new) span span.sort ≡ b
            → is_named_sector image pending old new address ≡ true
        by true b was will =
            named_old one span address (counts_otherwise (context_in old) (context_in new) old_lives old one has differs) gives was shows
        by false true was will =
            by_new one span address has kept differs (subst (λ n. span_of n one ≡ Some span) same_size gives) will shows
        by false false was will =
            absurd (differs (same_nowhere (context_in old) (context_in new) one span same_size (sound_item old old_stand one has).0 gives was will))

    found_alike : (span : Span) (at : ItemRef) (address : ℕ) → 0 < k.spans span → SpanNames k.pairs span at → Contains c.refs at
        → has_sector span address ≡ true → is_named_sector image pending old new address ≡ true
    found_alike span at address stands names listed shows =
        let its = items_at at listed in
        let gives = its_span named at its span stands names in
        by_either its.one span address its.among its.kept its.differs
        (subst (λ (sup : Super). span_of sup.nodesize its.one ≡ Some span) was_known.sup gives) shows

    names_alike : (at : ItemRef) → Contains c.refs at → (span : Span) × (0 < k.spans span) × SpanNames k.pairs span at
    names_alike at listed = its_name named at same_size (items_at at listed)

    sectors_alike : AreSectorsNamed image pending k next c old new
    sectors_alike = record { gone = gone_named; came = came_named; found = found_alike; names = names_alike }

  -- ---- and where they are not, no item is named

  sectors_other : AreTheAffected false k c → AreSectorsNamed image pending k next c old new
  sectors_other none = record {
    gone = gone_named;
    came = came_named;
    found = λ span at address stands names listed shows. absurd (never at listed);
    names = λ at listed. absurd (never at listed);
  }
    where
      never : (at : ItemRef) → Contains c.refs at → ⊥
      never at listed = contains_none at (subst (λ refs. Contains refs at) none listed)

  sectors_by : (b : Bool) → are_read_alike k.sup c.fresh ≡ b → SayChanges b c.change.old_items.items c.change.new_items.items c.changes
      → AreTheAffected b k c → AreSectorsNamed image pending k next c old new
  sectors_by true alike says affected = sectors_alike alike says affected
  sectors_by false alike says affected = sectors_other affected

  pub are_named : AreSectorsNamed image pending k next c old new
  are_named = sectors_by (are_read_alike k.sup c.fresh) refl is.commit.changes_are is.commit.refs_are

pub sectors_named : NamingLaws → NamedLaw
sectors_named laws image pending k next c old new is = are_named laws image pending k next c old new is
