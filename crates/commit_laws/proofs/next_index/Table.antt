-- The table of live pairs after a change.
use Rattle.std.proofs.Common.{◌≡◌, ℕ, ◌==◌, Bool, true, false, not, ◌&&◌, ◌||◌, List, [], ◌∷◌, length, refl, ap, sym, subst, ◌∙◌}
use Rattle.std.proofs.lemmas.Bool.{and_from, and_parts, eq-eqb, eqb-true, or_parts}
use Rattle.std.proofs.lemmas.List.Sorted.{list_any-IsPermutation}
use Rattle.std.specs.Prelude.{Option, Some, None, Ok}
use Rattle.std.specs.List.{AllByRecursion, filter, fold, list_any}
use Rattle.std.specs.Ordering.{nat_cmp}
use Rattle.std.specs.FinMap.{FinMap}
use Rattle.live_index.proofs.PlaceLaws.{same_name}
use Rattle.tree_laws.proofs.Shifting.{alike_some}
use Rattle.verdict.proofs.Lists.{all_map as each_map}
use Rattle.verdict.specs.OnDisk.{key_same}
use Rattle.write_cache.specs.Cache.{overlaid}
use Rattle.live_index.specs.Pairs.{Pairs, with_pair, without_pair}
use Rattle.live_index.specs.declared.live.Live.{Live}
use Rattle.node_reader.specs.Stored.{Stored, stored_in}
use Rattle.records.specs.Seen.{Seen}
use Rattle.records.specs.Seen.Seen.{BlockSeen, ItemSeen, PointerSeen}
use Rattle.tree_laws.specs.Keeping.{owner_in}
use Rattle.tree_laws.specs.LivePairs.{Walked, live_in, live_of, table_of, walked}
use Rattle.tree_laws.specs.Shared.{are_alike, at_or_below, is_shared, stands_untouched}
use Rattle.tree_laws.specs.SharedLaw.{touches_old}
use Rattle.tree_laws.specs.ShiftedLaw.{is_shifted}
use Rattle.tree_laws.proofs.Images.{stored_alike}
use Rattle.tree_laws.proofs.KeptImage.{nodesize_same}
use Rattle.tree_laws.proofs.Picking.{each_both, is_there, one_of, table_some}
use Rattle.touched_blocks.specs.Touched.{stays_in_place, written_in}
use Rattle.tree_change.specs.Change.{IsChange}
use Rattle.tree_change.specs.declared.change.Change.{Change}
use Rattle.tree_change.proofs.Unordered.{all_filter}
use Rattle.commit_laws.proofs.next_index.Hot.{IsShared, alike_place, shared_is}
use Rattle.commit_laws.proofs.next_index.Whole.{IsLive, all_permuted, none_filter, none_passes, same_pair, some_filter, still_none, whole_lives}

-- a table without the pair that stands where one does
abbrev pub taken : Pairs → Live → Pairs
taken pairs live = without_pair pairs live.tree live.address

module _ (tree address : ℕ) where
  abbrev pub there : Live → Bool
  there live = is_there tree address live

  -- where all that are put at a place are one pair
  abbrev pub OnlyOne : Live → List Live → Type 0
  OnlyOne one lives = AllByRecursion (λ x. there x ≡ true → x ≡ one) lives

  pub put_base : (one : Live) (lives : List Live) (pairs : Pairs) → OnlyOne one lives → pairs tree address ≡ Some one
      → fold with_pair pairs lives tree address ≡ Some one
  put_base one [] pairs all is = is
  put_base one (x ∷ xs) pairs all is = put_base one xs (with_pair pairs x) all.1 (by (there x) refl)
    where
      by : (b : Bool) → there x ≡ b → with_pair pairs x tree address ≡ Some one
      by true at = rw at (ap (λ (z : Live). Some z) (all.0 at))
      by false at = rw at is

  pub put_some : (one : Live) (lives : List Live) (pairs : Pairs) → OnlyOne one lives → list_any there lives ≡ true
      → fold with_pair pairs lives tree address ≡ Some one
  put_some one [] pairs all some = absurd (cc)
  put_some one (x ∷ xs) pairs all some = by (there x) refl some (put_some one xs (with_pair pairs x) all.1)
    where
      by : (b : Bool) → there x ≡ b → (b || list_any there xs) ≡ true
          → (list_any there xs ≡ true → fold with_pair (with_pair pairs x) xs tree address ≡ Some one)
          → fold with_pair (with_pair pairs x) xs tree address ≡ Some one
      by true at some later = put_base one xs (with_pair pairs x) all.1 (rw at (ap (λ (z : Live). Some z) (all.0 at)))
      by false at some later = later some

  pub put_none : (lives : List Live) (pairs : Pairs) → list_any there lives ≡ false
      → fold with_pair pairs lives tree address ≡ pairs tree address
  put_none [] pairs none = refl
  put_none (x ∷ xs) pairs none =
      let both = or_parts (there x) (list_any there xs) none in
      put_none xs (with_pair pairs x) both.1 ∙ rw both.0 refl

  pub take_none : (lives : List Live) (pairs : Pairs) → pairs tree address ≡ None → fold taken pairs lives tree address ≡ None
  take_none [] pairs is = is
  take_none (x ∷ xs) pairs is = take_none xs (taken pairs x) (by (there x) refl)
    where
      by : (b : Bool) → there x ≡ b → taken pairs x tree address ≡ None
      by true at = rw at refl
      by false at = rw at is

  pub take_some : (lives : List Live) (pairs : Pairs) → list_any there lives ≡ true → fold taken pairs lives tree address ≡ None
  take_some [] pairs some = absurd (cc)
  take_some (x ∷ xs) pairs some = by (there x) refl some (take_some xs (taken pairs x))
    where
      by : (b : Bool) → there x ≡ b → (b || list_any there xs) ≡ true
          → (list_any there xs ≡ true → fold taken (taken pairs x) xs tree address ≡ None) → fold taken (taken pairs x) xs tree address ≡ None
      by true at some later = take_none xs (taken pairs x) (rw at refl)
      by false at some later = later some

  pub take_other : (lives : List Live) (pairs : Pairs) → list_any there lives ≡ false
      → fold taken pairs lives tree address ≡ pairs tree address
  take_other [] pairs none = refl
  take_other (x ∷ xs) pairs none =
      let both = or_parts (there x) (list_any there xs) none in
      take_other xs (taken pairs x) both.1 ∙ rw both.0 refl

  there_is : (live : Live) → there live ≡ true → (live.tree ≡ tree) × (live.address ≡ address)
  there_is live at =
      let both = and_parts (live.tree == tree) (live.address == address) at in
      (eqb-true live.tree tree both.0, eqb-true live.address address both.1)

  is_at : (live : Live) → live.tree ≡ tree → live.address ≡ address → there live ≡ true
  is_at live of at = and_from (live.tree == tree) (live.address == address) (eq-eqb live.tree tree of) (eq-eqb live.address address at)

  -- a pair of a table that stands there is what the table has there
  pub entry_there : (table : Pairs) (live : Live) → table live.tree live.address ≡ Some live → there live ≡ true → table tree address ≡ Some live
  entry_there table live entry at =
      let place = there_is live at in
      ap (λ t. table t address) (sym place.0) ∙ (ap (table live.tree) (sym place.1) ∙ entry)

  one_there : (entry : Option Live) (a b : Live) → entry ≡ Some a → entry ≡ Some b → b ≡ a
  one_there entry a b x y = cc

  -- where it has one
  pub only_there : (table : Pairs) (stored : Stored) (one : Live) (lives : List Live) → table tree address ≡ Some one
      → AllByRecursion (IsLive table stored) lives → OnlyOne one lives
  only_there table stored one lives is all =
      each_map (IsLive table stored) (λ x. there x ≡ true → x ≡ one) lives
      (λ x h at. one_there (table tree address) one x is (entry_there table x h.entry at)) all

  -- where it has none
  pub none_there : (table : Pairs) (stored : Stored) (lives : List Live) → table tree address ≡ None
      → AllByRecursion (IsLive table stored) lives → list_any there lives ≡ false
  none_there table stored lives is all = by (list_any there lives) refl
    where
      never : (entry : Option Live) (a : Live) → entry ≡ None → entry ≡ Some a → ⊥
      never entry a x y = absurd (cc)

      by : (b : Bool) → list_any there lives ≡ b → list_any there lives ≡ false
      by false none = none
      by true some =
          let pick = one_of (IsLive table stored) there lives all some in
          elim (never (table tree address) pick.0 is (entry_there table pick.0 pick.1.entry pick.2)) [ ]

-- a shared pair that is not shifted was the same
not_shifted : (a b : Live) → are_alike a b ≡ true → (are_alike a b && not (a.parent == b.parent && key_same a.last b.last)) ≡ false
    → a.owner ≡ b.owner → a ≡ b
not_shifted a b alike shifted owner =
    let place = alike_place a b alike in
    let more = and_parts (a.tree == b.tree && a.address == b.address)
    (a.level == b.level && (a.generation == b.generation && key_same a.first b.first)) alike in
    let two = and_parts (a.level == b.level) (a.generation == b.generation && key_same a.first b.first) more.1 in
    let three = and_parts (a.generation == b.generation) (key_same a.first b.first) two.1 in
    let still : (a.parent == b.parent && key_same a.last b.last) ≡ true =
    stays (are_alike a b) (a.parent == b.parent && key_same a.last b.last) alike shifted in
    let four = and_parts (a.parent == b.parent) (key_same a.last b.last) still in
    same_pair a b (record {
      tree = place.0;
      address = place.1;
      level = eqb-true a.level b.level two.0;
      generation = eqb-true a.generation b.generation three.0;
      first = same_name a.first b.first three.1;
      last = same_name a.last b.last four.1;
      parent = eqb-true a.parent b.parent four.0;
      owner = owner;
    })
  where
    stays : (x y : Bool) → x ≡ true → (x && not y) ≡ false → y ≡ true
    stays x true is none = refl
    stays true false is none = absurd (cc)
    stays false false is none = absurd (cc)

module _ (image : List ℕ) (pending : FinMap nat_cmp ℕ) (old new : Walked) (change : Change) (pairs : Pairs) (tree address : ℕ)
    (was : walked image ≡ Ok old) (is : walked (overlaid pending 0 image) ≡ Ok new)
    (changes : IsChange old new (written_in pending) (length image) change)
    (pairs_are : (tree address : ℕ) → pairs tree address ≡ table_of (live_in old.seen) tree address) where
  abbrev olds : List Live
  olds = live_in old.seen

  abbrev news : List Live
  news = live_in new.seen

  abbrev before : Pairs
  before = table_of olds

  abbrev after : Pairs
  after = table_of news

  abbrev then_stored : Stored
  then_stored = stored_in image old.chunks old.sup.nodesize

  abbrev now_stored : Stored
  now_stored = stored_in (overlaid pending 0 image) new.chunks new.sup.nodesize

  abbrev at : Live → Bool
  at live = is_there tree address live

  abbrev shared : Live → Bool
  shared live = is_shared old new (written_in pending) (length image) live

  abbrev left : Live → Bool
  left live = not (shared live)

  abbrev shifts : Live → Bool
  shifts live = shared live && is_shifted olds live

  old_lives : AllByRecursion (IsLive before then_stored) olds
  old_lives = whole_lives image old was

  new_lives : AllByRecursion (IsLive after now_stored) news
  new_lives = whole_lives (overlaid pending 0 image) new is

  -- what is there once old pairs are taken
  abbrev rest : Pairs
  rest = fold taken pairs change.old_blocks.items

  abbrev Stays : Option Live → Type 0
  Stays entry = fold with_pair (fold with_pair rest change.new_blocks.items) change.moved.items tree address ≡ entry

  -- a shared new pair that is not shifted is an old one
  kept_one : (one : Live) → IsLive after now_stored one → shared one ≡ true → is_shifted olds one ≡ false → before one.tree one.address ≡ Some one
  kept_one one live share shift =
      let s : IsShared old new (written_in pending) (length image) one = shared_is old new (written_in pending) (length image) one share in
      let some = alike_some (touches_old old (written_in pending) (length image)) one old.seen s.stands in
      let differs = λ (o : Live). are_alike o one && not (o.parent == one.parent && key_same o.last one.last) in
      let pick = one_of (λ o. IsLive before then_stored o × (differs o ≡ false)) (λ o. are_alike o one) olds
      (each_both (IsLive before then_stored) (λ o. differs o ≡ false) olds old_lives (none_passes differs olds shift)) some in
      let o = pick.0 in
      let place = alike_place o one pick.2 in
      let stored : now_stored one.address ≡ then_stored one.address =
      ap (λ n. stored_in (overlaid pending 0 image) new.chunks n one.address) (sym (nodesize_same old.sup new.sup s.alike))
      ∙ stored_alike image pending old.chunks new.chunks old.sup.nodesize one.address s.free (unmoved s.stays) in
      let owner : o.owner ≡ one.owner =
      pick.1.0.owner ∙ (ap (λ a. owner_in (then_stored a)) place.1 ∙ (ap owner_in (sym stored) ∙ sym live.owner)) in
      let same : o ≡ one = not_shifted o one pick.2 pick.1.1 owner in
      subst (λ (l : Live). before l.tree l.address ≡ Some l) same pick.1.0.entry
    where
      unmoved : stays_in_place old.chunks new.chunks old.sup.nodesize (length image) one.address ≡ true
          → not (stays_in_place old.chunks new.chunks old.sup.nodesize (length image) one.address) ≡ false
      unmoved is = rw is refl

  -- where the new table has a pair
  has_one : (one : Live) → after tree address ≡ Some one → Stays (Some one)
  has_one one has = by (shared one) (is_shifted olds one) refl refl
    where
      only : OnlyOne tree address one news
      only = only_there tree address after now_stored one news has new_lives

      some : list_any at news ≡ true
      some = table_some news tree address one has

      only_blocks : OnlyOne tree address one change.new_blocks.items
      only_blocks =
          all_permuted (λ x. at x ≡ true → x ≡ one) (filter left news) change.new_blocks.items changes.new_blocks
          (all_filter (λ x. at x ≡ true → x ≡ one) left news only)

      only_moved : OnlyOne tree address one change.moved.items
      only_moved =
          all_permuted (λ x. at x ≡ true → x ≡ one) (filter shifts news) change.moved.items changes.moved.all
          (all_filter (λ x. at x ≡ true → x ≡ one) shifts news only)

      passes : (test : Live → Bool) → test one ≡ true → list_any at (filter test news) ≡ true
      passes test one_passes =
          some_filter test at news
          (each_map (λ x. at x ≡ true → x ≡ one) (λ x. at x ≡ true → test x ≡ true) news
          (λ x only there. ap test (only there) ∙ one_passes) only) ∙ some

      picked : (x : Live) × IsLive after now_stored x × (at x ≡ true)
      picked = one_of (IsLive after now_stored) at news new_lives some

      one_is : picked.0 ≡ one
      one_is = one_there tree address (after tree address) one picked.0 has (entry_there tree address after picked.0 picked.1.entry picked.2)

      live : IsLive after now_stored one
      live = subst (IsLive after now_stored) one_is picked.1

      here : at one ≡ true
      here = subst (λ x. at x ≡ true) one_is picked.2

      by : (a b : Bool) → shared one ≡ a → is_shifted olds one ≡ b → Stays (Some one)
      by false b share shift =
          put_base tree address one change.moved.items (fold with_pair rest change.new_blocks.items) only_moved
          (put_some tree address one change.new_blocks.items rest only_blocks
          (sym (list_any-IsPermutation at (filter left news) change.new_blocks.items changes.new_blocks) ∙ passes left (rw share refl)))
      by true true share shift =
          put_some tree address one change.moved.items (fold with_pair rest change.new_blocks.items) only_moved
          (sym (list_any-IsPermutation at (filter shifts news) change.moved.items changes.moved.all) ∙ passes shifts (rw (share, shift) refl))
      by true false share shift =
          let had : before tree address ≡ Some one = entry_there tree address before one (kept_one one live share shift) here in
          let only_old : OnlyOne tree address one olds = only_there tree address before then_stored one olds had old_lives in
          let none : list_any at (filter left olds) ≡ false =
          none_filter left at olds
          (each_map (λ x. at x ≡ true → x ≡ one) (λ x. at x ≡ true → left x ≡ false) olds
          (λ x only there. ap left (only there) ∙ rw share refl) only_old) in
          put_base tree address one change.moved.items (fold with_pair rest change.new_blocks.items) only_moved
          (put_base tree address one change.new_blocks.items rest only_blocks
          (take_other tree address change.old_blocks.items pairs
          (sym (list_any-IsPermutation at (filter left olds) change.old_blocks.items changes.old_blocks) ∙ none)
          ∙ (pairs_are tree address ∙ had)))

  -- where it has none
  has_none : after tree address ≡ None → Stays None
  has_none has =
      put_none tree address change.moved.items (fold with_pair rest change.new_blocks.items)
      (sym (list_any-IsPermutation at (filter shifts news) change.moved.items changes.moved.all) ∙ still_none shifts at news none)
      ∙ (put_none tree address change.new_blocks.items rest
      (sym (list_any-IsPermutation at (filter left news) change.new_blocks.items changes.new_blocks) ∙ still_none left at news none)
      ∙ by_old (before tree address) refl)
    where
      none : list_any at news ≡ false
      none = none_there tree address after now_stored news has new_lives

      clash : (entry : Option Live) (a : Live) → entry ≡ None → entry ≡ Some a → ⊥
      clash entry a x y = absurd (cc)

      by_old : (entry : Option Live) → before tree address ≡ entry → rest tree address ≡ None
      by_old None had = take_none tree address change.old_blocks.items pairs (pairs_are tree address ∙ had)
      by_old (Some o) had = by (shared o) refl
        where
          only : OnlyOne tree address o olds
          only = only_there tree address before then_stored o olds had old_lives

          some : list_any at olds ≡ true
          some = table_some olds tree address o had

          picked : (x : Live) × IsLive before then_stored x × (at x ≡ true)
          picked = one_of (IsLive before then_stored) at olds old_lives some

          here : at o ≡ true
          here =
              subst (λ x. at x ≡ true)
              (one_there tree address (before tree address) o picked.0 had (entry_there tree address before picked.0 picked.1.entry picked.2)) picked.2

          by : (b : Bool) → shared o ≡ b → rest tree address ≡ None
          by false share =
              take_some tree address change.old_blocks.items pairs
              (sym (list_any-IsPermutation at (filter left olds) change.old_blocks.items changes.old_blocks)
              ∙ (some_filter left at olds
              (each_map (λ x. at x ≡ true → x ≡ o) (λ x. at x ≡ true → left x ≡ true) olds
              (λ x only there. ap left (only there) ∙ rw share refl) only) ∙ some))
          by true share =
              let s = shared_is old new (written_in pending) (length image) o share in
              let pick = one_of (IsLive after now_stored) (are_alike o) news new_lives s.there in
              let place = alike_place o pick.0 pick.2 in
              let mine = there_is tree address o here in
              let met : at pick.0 ≡ true = is_at tree address pick.0 (sym place.0 ∙ mine.0) (sym place.1 ∙ mine.1) in
              elim (clash (after tree address) pick.0 has (entry_there tree address after pick.0 pick.1.entry met)) [ ]

  by_entry : (entry : Option Live) → after tree address ≡ entry → Stays entry
  by_entry None has = has_none has
  by_entry (Some one) has = has_one one has

  pub table_moved : Stays (after tree address)
  table_moved = by_entry (after tree address) refl
