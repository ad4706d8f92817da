-- What accounts that are not broken say of extents: each has a home, and each range of a file has the item of its extent.
use Rattle.std.proofs.Common.{◌≡◌, ℕ, ◌<◌, ◌==◌, ◌||◌, Bool, true, false, not, List, [], ◌∷◌, inl, inr, refl, sym, ap, ◌∙◌, subst, arith}
use Rattle.std.proofs.lemmas.Bool.{eqb-true, leb-true, lt-ltb}
use Rattle.std.specs.Prelude.{◌≤◌, Option, Some, None, nat_le, nat_lt}
use Rattle.std.specs.List.{filter_map}
use Rattle.commit_laws.proofs.accepted.Blocks.{posts_range}
use Rattle.verdict.proofs.Truth.{true_of_not, implied}
use Rattle.verdict.specs.declared.kinds.TheConstants.{EXTENT_ITEM}
use Rattle.extent_items.specs.ExtentRow.{ExtentFields}
use Rattle.fs_items.specs.declared.file_extent.FileExtent.{FileExtent}
use Rattle.accounts.specs.Broken.{is_broken}
use Rattle.accounts.specs.Context.{Context, home_of}
use Rattle.accounts.specs.Kinds.{extent_form, outside, gives}
use Rattle.accounts.specs.Least.{is_broken_by}
use Rattle.accounts.specs.Sums.{total_of}
use Rattle.accounts.specs.declared.account.Account.{Account}
use Rattle.accounts.specs.declared.context.Home.{Home}
use Rattle.accounts.specs.declared.postings.Posting.{Posting}
use Rattle.records.specs.DirPostings.{dir_postings}
use Rattle.records.specs.ExtentPostings.{extent_postings, has_extent}
use Rattle.records.specs.InodePostings.{inode_postings}
use Rattle.records.specs.Part.{Located, Part}
use Rattle.records.specs.Part.Part.{BlockPart, ExtentPart, FileExtentPart, SuperPart}
use Rattle.records.specs.Postings.{all_postings, postings_of}
use Rattle.records.specs.Seen.{Seen, accounted}
use Rattle.records.specs.Seen.Seen.{BlockSeen, ItemSeen, PointerSeen}
use Rattle.records.specs.SpacePostings.{extent_length, is_data, place_postings, space_postings}
use Rattle.tree_laws.specs.LivePairs.{Walked}
use Rattle.tree_laws.specs.Unshared.{item_seen}
use Rattle.commit_laws.specs.Items.{items_of}
use Rattle.commit_laws.specs.Same.{records_of}
use Rattle.commit_laws.proofs.Elements.{Among}
use Rattle.commit_laws.proofs.accepted.Postings.{IsForm, Says, all_say}
use Rattle.commit_laws.proofs.accepted.Sums.{all_among, among_left, among_right, at_least, counted, given, posted}
use Rattle.accounts.specs.Lent.{to}

-- ---- items among records

-- an item of an image is one of its records
item_in : (seen : List Seen) (one : Located) → Among one (filter_map item_seen seen) → Among one (filter_map accounted seen)
item_in [] one has = has
item_in (BlockSeen block ∷ seen) one has = inr (item_in seen one has)
item_in (PointerSeen pointer ∷ seen) one has = item_in seen one has
item_in (ItemSeen item ∷ seen) one (inl same) = inl same
item_in (ItemSeen item ∷ seen) one (inr later) = inr (item_in seen one later)

pub record_of_item : (whole : Walked) (one : Located) → Among one (items_of whole) → Among one (records_of whole)
unfolding records_of
record_of_item whole one has = inr (item_in whole.seen one has)

-- and the record of an extent is an item
extent_in : (seen : List Seen) (one : Located) (item : ExtentFields) → one.part ≡ ExtentPart item → Among one (filter_map accounted seen)
    → Among one (filter_map item_seen seen)
extent_in [] one item at has = has
extent_in (BlockSeen block ∷ seen) one item at (inl same) =
    let parts : BlockPart block.address block.level ≡ ExtentPart item = ap (λ (r : Located). r.part) same ∙ at in
    absurd (cc)
extent_in (BlockSeen block ∷ seen) one item at (inr later) = extent_in seen one item at later
extent_in (PointerSeen pointer ∷ seen) one item at has = extent_in seen one item at has
extent_in (ItemSeen other ∷ seen) one item at (inl same) = inl same
extent_in (ItemSeen other ∷ seen) one item at (inr later) = inr (extent_in seen one item at later)

pub item_of_record : (whole : Walked) (one : Located) (item : ExtentFields) → one.part ≡ ExtentPart item → Among one (records_of whole)
    → Among one (items_of whole)
unfolding records_of
item_of_record whole one item at (inl same) =
    let parts : SuperPart whole.sup.bytes_used ≡ ExtentPart item = ap (λ (r : Located). r.part) same ∙ at in
    absurd (cc)
item_of_record whole one item at (inr later) = extent_in whole.seen one item at later

-- ---- what rules say

-- the item of an extent at an address with so many bytes
pub record IsExtentAt (address bytes : ℕ) (one : Located) : Type 0 where
  pub item : ExtentFields
  pub at : one.part ≡ ExtentPart item
  pub of_data : is_data item ≡ true
  pub first : item.key.objectid ≡ address
  pub size : item.key.offset ≡ bytes

extent_at : (address bytes : ℕ) (one : Located) (part : Part) → one.part ≡ part → IsForm (extent_form address EXTENT_ITEM bytes) part
    → IsExtentAt address bytes one
extent_at address bytes one (ExtentPart item) at is =
    let kind : item.key.kind ≡ EXTENT_ITEM = ap (λ (a : Account). a.key.kind) is in
    record {
      item = item;
      at = at;
      of_data = data_kind item.key.kind kind;
      first = ap (λ (a : Account). a.block) is;
      size = ap (λ (a : Account). a.key.offset) is;
    }
  where
    data_kind : (k : ℕ) → k ≡ EXTENT_ITEM → (k == EXTENT_ITEM) ≡ true
    data_kind k is = rw is refl
extent_at address bytes one other at is = elim is [ ]

posts_outside : (context : Context) (tree : ℕ) (item : ExtentFields) → home_of context item.key.objectid (extent_length context item) ≡ None
    → Among (to (outside item.key.objectid) 0 1) (space_postings context tree (ExtentPart item))
unfolding space_postings
posts_outside context tree item none =
    let x = item.key.objectid in
    subst (λ o. Among (to (outside x) 0 1) (place_postings (is_data item) x (extent_length context item) o)) (sym none) (inl refl)

module _ (context : Context) (records : List Located) (fine : (account : Account) → is_broken_by (all_postings context records) account ≡ false) where
  abbrev give : Located → List Posting
  give = postings_of context

  abbrev all : List Posting
  all = all_postings context records

  -- what a record posts is part of the total
  in_total : (one : Located) (p : Posting) → Among one records → Among p (give one) → p.field < 9 → p.amount ≤ total_of all p.account p.field
  in_total one p among has small =
      let own = at_least (give one) p has small in
      let whole = counted give p.account p.field records one among in
      omega (arith, own, whole)

  outside_rule : (x : ℕ) → total_of all (outside x) 0 ≡ 0
  unfolding is_broken
  outside_rule x = eqb-true _ _ (true_of_not (total_of all (outside x) 0 == 0) (fine (outside x)))

  form_rule : (x kind form : ℕ) → 0 < total_of all (extent_form x kind form) 1 → 0 < total_of all (extent_form x kind form) 0
  unfolding is_broken
  form_rule x kind form some =
      let f = total_of all (extent_form x kind form) in
      let keeps = true_of_not (gives (nat_lt 0 (f 1)) (nat_le 1 (f 0))) (fine (extent_form x kind form)) in
      let more : 1 ≤ f 0 = leb-true _ _ (implied (nat_lt 0 (f 1)) (nat_le 1 (f 0)) keeps (lt-ltb 0 (f 1) some)) in
      more

  -- each extent has a home
  pub extent_home : (one : Located) (item : ExtentFields) → Among one records → one.part ≡ ExtentPart item
      → (h : Home) × (home_of context item.key.objectid (extent_length context item) ≡ Some h)
  extent_home one item among at = by (home_of context item.key.objectid (extent_length context item)) refl
    where
      by : (o : Option Home) → home_of context item.key.objectid (extent_length context item) ≡ o
          → (h : Home) × (home_of context item.key.objectid (extent_length context item) ≡ Some h)
      by (Some h) is = (h, is)
      by None none =
          let p = to (outside item.key.objectid) 0 1 in
          let has : Among p (give one) =
          among_right p (extent_postings one.tree one.part) _
          (among_right p (inode_postings one.tree one.part) _
          (among_right p (dir_postings one.tree one.part) (space_postings context one.tree one.part)
          (subst (λ part. Among p (space_postings context one.tree part)) (sym at) (posts_outside context one.tree item none)))) in
          let some = in_total one p among has (omega arith) in
          let rule = outside_rule item.key.objectid in
          absurd (omega (arith, some, rule))

  -- a range of a file that has an extent has the item of its extent
  pub record HasExtent (range : FileExtent) : Type 0 where
    pub one : Located
    pub among : Among one records
    pub is : IsExtentAt range.extent range.extent_length one

  pub range_extent : (r : Located) (range : FileExtent) → Among r records → r.part ≡ FileExtentPart range → has_extent range ≡ true
      → HasExtent range
  range_extent r range among at has =
      let account = extent_form range.extent EXTENT_ITEM range.extent_length in
      let p = to account 1 1 in
      let own : Among p (give r) =
      among_left p (extent_postings r.tree r.part) _
      (subst (λ part. Among p (extent_postings r.tree part)) (sym at) (posts_range r.tree range has)) in
      let some = in_total r p among own (omega arith) in
      let told = posted all account 0 (form_rule range.extent EXTENT_ITEM range.extent_length (omega (arith, some))) in
      let g = given give records told.p told.among in
      let says : Says g.one.part (give g.one) told.p = all_among (Says g.one.part (give g.one)) (give g.one) told.p (all_say context g.one) g.has in
      let form : IsForm told.p.account g.one.part = says.form told.adds.field_is (ap (λ (a : Account). a.kind) told.adds.account_is) in
      record {
        one = g.one;
        among = g.among;
        is = extent_at range.extent range.extent_length g.one g.one.part refl (subst (λ a. IsForm a g.one.part) told.adds.account_is form);
      }
