-- The flag of an inode once changes are made.
use Rattle.std.proofs.Common.{◌≡◌, ℕ, zero, suc, ◌<◌, ◌≤◌, ◌==◌, Bool, true, false, ◌&&◌, ◌||◌, List, [], ◌∷◌, ◌++◌, length}
use Rattle.std.proofs.Common.{refl, ap, sym, subst, ◌∙◌, arith, length-append, slice_index_or, if◌then◌else◌}
use Rattle.std.proofs.lemmas.Bool.{and_parts, eqb-true}
use Rattle.std.proofs.lemmas.Bool.Decides.{nat_tests}
use Rattle.std.proofs.lemmas.Grind.{common_steps}
use Rattle.std.proofs.lemmas.List.Sorted.{length_permutation, list_any-IsPermutation}
use Rattle.std.specs.Prelude.{Option, Some, None, bit_and, map, nat_lt, slice_get}
use Rattle.std.specs.Option.{unwrap_or}
use Rattle.std.specs.List.{AllByRecursion, AllPairs, cons_option, filter_map, list_any}
use Rattle.std.specs.List.Sorted.{IsPermutation}
use Rattle.verdict.specs.OnDisk.{key_below}
use Rattle.verdict.specs.declared.key.Key.{Key}
use Rattle.verdict.specs.declared.kinds.TheConstants.{INODE_ITEM}
use Rattle.records.specs.Context.{has_sum_free, is_inode, nodatasum, sum_free_inode, sum_free_part}
use Rattle.records.specs.Part.{owned_part}
use Rattle.records.specs.Part.{FitsPlace, Located, Part}
use Rattle.records.specs.Part.Part.{InodePart}
use Rattle.records.specs.declared.rec.ItemAt.{ItemAt}
use Rattle.change_records.specs.Changes.{Ascend, IsChange, is_before, item_of}
use Rattle.change_records.specs.Spans.{StandApart}
use Rattle.change_records.specs.SumFree.{flag_after, flag_at, flag_in, sum_free_after, without_flag}
use Rattle.change_records.specs.declared.changes.ItemChange.{ItemChange}
use Rattle.change_records.specs.declared.changes.ItemChange.TheVariants.{Added, Altered, Removed}
use Rattle.tree_change.specs.Gathered.{located_item}
use Rattle.commit_laws.specs.Paired.{added_from, came_items, came_of, gone_items, gone_of, removed_from}

-- whether one of some flags is set
abbrev pub set : List Bool → Bool
set flags = list_any (λ b. b) flags

-- an item says its own key
abbrev pub Fits : Located → Type 0
Fits one = FitsPlace one.tree one.key one.part

-- a key by what it has
abbrev key_of : ℕ → ℕ → ℕ → Key
key_of objectid kind offset = record { objectid = objectid; kind = kind; offset = offset }

heads_from : {A : Type 0} (R : A → A → Type 0) (x : A) (xs : List A) → ((k : ℕ) → k < length xs → R x (slice_index_or xs k x))
    → AllByRecursion (R x) xs
heads_from R x [] h = tt
heads_from R x (y ∷ ys) h = (h 0 (omega arith), heads_from R x ys (λ k p. h (suc k) (omega arith)))

-- the first of a list beside the others
heads_of : {A : Type 0} (R : A → A → Type 0) (x : A) (xs : List A) → AllPairs R (x ∷ xs) → AllByRecursion (R x) xs
heads_of R x xs all = heads_from R x xs (λ k p. all 0 (suc k) x (omega arith) (omega arith))

tail_of : {A : Type 0} (R : A → A → Type 0) (x : A) (xs : List A) → AllPairs R (x ∷ xs) → AllPairs R xs
tail_of R x xs all = λ i j d p q. all (suc i) (suc j) d (omega arith) (omega arith)

-- what is left of flags by those that came and those that are gone, before which there was one
abbrev pub result : List Bool → List Bool → Bool → Bool
result (b ∷ came) gone free = b
result [] [] free = free
result [] (g ∷ gone) free = false

-- where no more than one flag was and is, and the others stay
pub decide : (came gone rest : List Bool) → length (gone ++ rest) ≤ 1 → length (came ++ rest) ≤ 1
    → set (came ++ rest) ≡ result came gone (set (gone ++ rest))
decide [] [] rest few less = refl
decide [] (g ∷ gone) [] few less = refl
decide [] (g ∷ gone) (x ∷ rest) few less = absurd (omega (arith, few, length-append gone (x ∷ rest)))
decide (b ∷ []) gone [] few less = or_none b
  where
    or_none : (b : Bool) → (b || false) ≡ b
    or_none true = refl
    or_none false = refl
decide (b ∷ []) gone (x ∷ rest) few less = absurd (omega (arith, less))
decide (b ∷ y ∷ came) gone rest few less = absurd (omega (arith, less))

module _ (tree ino : ℕ) where
  abbrev pub flag : Located → Option Bool
  flag one = flag_in tree ino one.tree one.part

  abbrev pub flags : List Located → List Bool
  flags found = filter_map flag found

  -- whether an inode has the flag, by the flags of its items
  pub free_is : (records : List Located) → has_sum_free records tree ino ≡ set (flags records)
  free_is [] = refl
  free_is (one ∷ records) = by one.tree one.part (free_is records)
    where
      step : (f t : Bool) (at : ℕ × ℕ) → is_inode tree ino at ≡ t
          → list_any (is_inode tree ino) (filter_map sum_free_inode records) ≡ set (flags records)
          → list_any (is_inode tree ino) (cons_option (if f then Some at else None) (filter_map sum_free_inode records))
          ≡ set (cons_option (if t then Some f else None) (flags records))
      step true true at is rest = rw is refl
      step true false at is rest = rw is rest
      step false true at is rest = rest
      step false false at is rest = rest

      by : (at : ℕ) (part : Part) → list_any (is_inode tree ino) (filter_map sum_free_inode records) ≡ set (flags records)
          → list_any (is_inode tree ino) (cons_option (sum_free_part at part) (filter_map sum_free_inode records))
          ≡ set (cons_option (flag_in tree ino at part) (flags records))
      by at (InodePart item) rest =
          step (bit_and item.flags nodatasum == nodatasum) (at == tree && item.key.objectid == ino) (at, item.key.objectid) refl rest
      by at other rest = rest

  -- the tree and the key of the inode's item
  abbrev inode_key : Key
  inode_key = key_of ino INODE_ITEM 0

  pub record IsNamed (at : ℕ) (key : Key) : Type 0 where
    pub tree_is : at ≡ tree
    pub key_is : key ≡ inode_key

  key_by : (k : Key) → k.objectid ≡ ino → k.kind ≡ INODE_ITEM → k.offset ≡ 0 → k ≡ inode_key
  key_by k a b c =
      ap (λ x. key_of x k.kind k.offset) a ∙ (ap (λ x. key_of ino x k.offset) b ∙ ap (λ x. key_of ino INODE_ITEM x) c)

  named : (at : ℕ) (key : Key) (part : Part) (b : Bool) → flag_in tree ino at part ≡ Some b → FitsPlace at key part → IsNamed at key
  named at key (InodePart item) b is fits = by (at == tree && item.key.objectid == ino) refl is
    where
      by : (t : Bool) → (at == tree && item.key.objectid == ino) ≡ t
          → (if t then Some (bit_and item.flags nodatasum == nodatasum) else None) ≡ Some b → IsNamed at key
      by true test is =
          let both = and_parts (at == tree) (item.key.objectid == ino) test in
          record {
            tree_is = eqb-true at tree both.0;
            key_is = key_by key (ap (λ (k : Key). k.objectid) (sym fits.0) ∙ eqb-true item.key.objectid ino both.1) fits.1 fits.2;
          }
      by false test is = absurd (cc)
  named at key other b is fits = absurd (cc)

  -- ---- an inode has one item

  no_flags : (one : Located) → IsNamed one.tree one.key → (found : List Located) → AllByRecursion (StandApart one) found → AllByRecursion Fits found
      → flags found ≡ []
  no_flags one is [] apart all = refl
  no_flags one is (other ∷ found) apart all = by (flag other) refl (no_flags one is found apart.1 all.1)
    where
      by : (o : Option Bool) → flag other ≡ o → flags found ≡ [] → cons_option o (flags found) ≡ []
      by None at rest = rest
      by (Some b) at rest =
          let also = named other.tree other.key other.part b at all.0 in
          elim (apart.0 (is.tree_is ∙ sym also.tree_is) (is.key_is ∙ sym also.key_is)) [ ]

  pub one_flag : (found : List Located) → AllPairs StandApart found → AllByRecursion Fits found → length (flags found) ≤ 1
  one_flag [] apart all = omega arith
  one_flag (one ∷ found) apart all = by (flag one) refl (one_flag found (tail_of StandApart one found apart) all.1)
    where
      by : (o : Option Bool) → flag one ≡ o → length (flags found) ≤ 1 → length (cons_option o (flags found)) ≤ 1
      by None at rest = rest
      by (Some b) at rest =
          let none = no_flags one (named one.tree one.key one.part b at all.0) found (heads_of StandApart one found apart) all.1 in
          subst (λ (xs : List Bool). length (b ∷ xs) ≤ 1) (sym none) (omega arith)

  -- ---- changes, one after the other

  module _ (old new : List ItemAt) where
    abbrev pub gone_flag : ItemChange → Option Bool
    gone_flag change = flag_at tree ino (gone_of old change)

    abbrev pub came_flag : ItemChange → Option Bool
    came_flag change = flag_at tree ino (came_of new change)

    after_is : (change : ItemChange) (free : Bool)
        → flag_after old new tree ino change free ≡ unwrap_or (came_flag change) (without_flag (gone_flag change) free)
    after_is (Added is) free = refl
    after_is (Removed was) free = refl
    after_is (Altered was is) free = refl

    made_flags : (of : ItemChange → Option ItemAt) (changes : List ItemChange)
        → flags (map located_item (filter_map of changes)) ≡ filter_map (λ change. flag_at tree ino (of change)) changes
    made_flags of [] = refl
    made_flags of (change ∷ changes) = by (of change) (made_flags of changes)
      where
        by : (o : Option ItemAt)
            → flags (map located_item (filter_map of changes)) ≡ filter_map (λ change. flag_at tree ino (of change)) changes
            → flags (map located_item (cons_option o (filter_map of changes)))
            ≡ cons_option (flag_at tree ino o) (filter_map (λ change. flag_at tree ino (of change)) changes)
        by None rest = rest
        by (Some item) rest = ap (cons_option (flag_in tree ino item.tree (owned_part item.part))) rest

    pub gone_flags : (changes : List ItemChange) → flags (gone_items old changes) ≡ filter_map gone_flag changes
    unfolding gone_items
    gone_flags changes = made_flags (gone_of old) changes

    pub came_flags : (changes : List ItemChange) → flags (came_items new changes) ≡ filter_map came_flag changes
    unfolding came_items
    came_flags changes = made_flags (came_of new) changes

    -- no item of the inode goes away once one came
    abbrev pub NoneAfter : List ItemChange → Type 0
    NoneAfter [] = Unit {0}
    NoneAfter (change ∷ changes) = ((b : Bool) → came_flag change ≡ Some b → filter_map gone_flag changes ≡ []) × NoneAfter changes

    pub folded : (changes : List ItemChange) (free : Bool) → NoneAfter changes → length (filter_map came_flag changes) ≤ 1
        → sum_free_after old new tree ino changes free ≡ result (filter_map came_flag changes) (filter_map gone_flag changes) free
    unfolding sum_free_after
    folded [] free none few = refl
    folded (change ∷ changes) free none few =
        ap (sum_free_after old new tree ino changes) (after_is change free)
        ∙ (folded changes (unwrap_or (came_flag change) (without_flag (gone_flag change) free)) none.1
        (fewer (came_flag change) (filter_map came_flag changes) few)
        ∙ by (came_flag change) (gone_flag change) (filter_map gone_flag changes) (filter_map came_flag changes) none.0 few)
      where
        fewer : (o : Option Bool) (more : List Bool) → length (cons_option o more) ≤ 1 → length more ≤ 1
        fewer None more few = few
        fewer (Some b) more few = omega (arith, few)

        by : (came went : Option Bool) (goes comes : List Bool) → ((b : Bool) → came ≡ Some b → goes ≡ [])
            → length (cons_option came comes) ≤ 1
            → result comes goes (unwrap_or came (without_flag went free)) ≡ result (cons_option came comes) (cons_option went goes) free
        by (Some b) went goes (x ∷ comes) none few = absurd (omega (arith, few))
        by (Some b) went goes [] none few = ap (λ (some : List Bool). result [] some b) (none b refl)
        by None went goes (x ∷ comes) none few = refl
        by None None goes [] none few = refl
        by None (Some g) [] [] none few = refl
        by None (Some g) (h ∷ goes) [] none few = refl

    -- where all go and all come
    none_gone : (at n : ℕ) → filter_map gone_flag (added_from at n) ≡ []
    unfolding added_from
    none_gone at zero = refl
    none_gone at (suc n) = none_gone (suc at) n

    pub none_added : (at n : ℕ) → NoneAfter (added_from at n)
    unfolding added_from
    none_added at zero = tt
    none_added at (suc n) = ((λ b is. none_gone (suc at) n), none_added (suc at) n)

    pub none_removed : (at n : ℕ) (later : List ItemChange) → NoneAfter later → NoneAfter (removed_from at n ++ later)
    unfolding removed_from
    none_removed at zero later none = none
    none_removed at (suc n) later none = ((λ b is. never b is), none_removed (suc at) n later none)
      where
        never : (b : Bool) → flag_at tree ino None ≡ Some b → filter_map gone_flag (removed_from (suc at) n ++ later) ≡ []
        never b is = absurd (cc)

    -- ---- all changes by tree and key

    fits_at : (items : List ItemAt) (k : ℕ) (item : ItemAt) → AllByRecursion Fits (map located_item items) → slice_get items k ≡ Some item
        → Fits (located_item item)
    fits_at [] k item all is = absurd (cc)
    fits_at (x ∷ items) zero item all is =
        let same : x ≡ item = cc in
        subst (λ (y : ItemAt). Fits (located_item y)) same all.0
    fits_at (x ∷ items) (suc k) item all is = fits_at items k item all.1 is

    -- a change is about the inode's item
    abbrev About : ItemChange → Type 0
    About change = (item : ItemAt) × (item_of old new change ≡ Some item) × IsNamed item.tree item.key

    module _ (olds : AllByRecursion Fits (map located_item old)) (news : AllByRecursion Fits (map located_item new)) where
      named_at : (items : List ItemAt) (k : ℕ) (item : ItemAt) (b : Bool) → AllByRecursion Fits (map located_item items)
          → slice_get items k ≡ Some item → flag_at tree ino (slice_get items k) ≡ Some b → IsNamed item.tree item.key
      named_at items k item b all is has =
          named item.tree item.key (owned_part item.part) b
          (subst (λ (o : Option ItemAt). flag_at tree ino o ≡ Some b) is has) (fits_at items k item all is)

      came_about : (change : ItemChange) (b : Bool) → IsChange old new change → came_flag change ≡ Some b → About change
      came_about (Added is) b hold has = (hold.0, hold.1, named_at new is hold.0 b news hold.1 has)
      came_about (Removed was) b hold has = absurd (cc)
      came_about (Altered was is) b hold has =
          let other = named_at new is hold.1 b news hold.3 has in
          (hold.0, hold.2, record { tree_is = hold.4.0 ∙ other.tree_is; key_is = hold.4.1 ∙ other.key_is })

      gone_about : (change : ItemChange) (b : Bool) → IsChange old new change → gone_flag change ≡ Some b → About change
      gone_about (Added is) b hold has = absurd (cc)
      gone_about (Removed was) b hold has = (hold.0, hold.1, named_at old was hold.0 b olds hold.1 has)
      gone_about (Altered was is) b hold has = (hold.0, hold.2, named_at old was hold.0 b olds hold.2 has)

      not_less : (t : ℕ) → nat_lt t t ≡ false
      not_less t = grind (arith, nat_tests)

      not_below : (k : Key) → key_below k k ≡ false
      not_below k = grind (arith, common_steps)

      neither : (a b c : Bool) → a ≡ false → c ≡ false → (a || (b && c)) ≡ true → ⊥
      neither true b c x y is = absurd (cc)
      neither false true c x y is = absurd (cc)
      neither false false c x y is = absurd (cc)

      never_before : (a b : ItemAt) → a.tree ≡ b.tree → a.key ≡ b.key → is_before a b ≡ true → ⊥
      unfolding is_before
      never_before a b of at is =
          neither (nat_lt a.tree b.tree) (a.tree == b.tree) (key_below a.key b.key)
          (ap (λ t. nat_lt a.tree t) (sym of) ∙ not_less a.tree) (ap (key_below a.key) (sym at) ∙ not_below a.key) is

      abbrev Before : ItemAt → ItemAt → Type 0
      Before a b = is_before a b ≡ true

      rest_heads : (a : ItemAt) (o : Option ItemAt) (more : List ItemAt) → AllByRecursion (Before a) (cons_option o more)
          → AllByRecursion (Before a) more
      rest_heads a None more all = all
      rest_heads a (Some b) more all = all.1

      rest_ascend : (o : Option ItemAt) (more : List ItemAt) → Ascend (cons_option o more) → Ascend more
      rest_ascend None more up = up
      rest_ascend (Some b) more up = tail_of Before b more up

      none_later : (a : ItemAt) → IsNamed a.tree a.key → (changes : List ItemChange) → AllByRecursion (IsChange old new) changes
          → AllByRecursion (Before a) (filter_map (item_of old new) changes) → filter_map gone_flag changes ≡ []
      none_later a is [] hold before = refl
      none_later a is (change ∷ changes) hold before =
          by (gone_flag change) refl
          (none_later a is changes hold.1 (rest_heads a (item_of old new change) (filter_map (item_of old new) changes) before))
        where
          by : (o : Option Bool) → gone_flag change ≡ o → filter_map gone_flag changes ≡ [] → cons_option o (filter_map gone_flag changes) ≡ []
          by None has rest = rest
          by (Some g) has rest =
              let about = gone_about change g hold.0 has in
              let first : AllByRecursion (Before a) (about.0 ∷ filter_map (item_of old new) changes) =
              subst (λ (o : Option ItemAt). AllByRecursion (Before a) (cons_option o (filter_map (item_of old new) changes))) about.1 before in
              elim (never_before a about.0 (is.tree_is ∙ sym about.2.tree_is) (is.key_is ∙ sym about.2.key_is) first.0) [ ]

      pub none_after : (changes : List ItemChange) → AllByRecursion (IsChange old new) changes
          → Ascend (filter_map (item_of old new) changes) → NoneAfter changes
      none_after [] hold up = tt
      none_after (change ∷ changes) hold up = (
        (λ b has. later b has),
        none_after changes hold.1 (rest_ascend (item_of old new change) (filter_map (item_of old new) changes) up),
      )
        where
          later : (b : Bool) → came_flag change ≡ Some b → filter_map gone_flag changes ≡ []
          later b has =
              let about = came_about change b hold.0 has in
              let whole : Ascend (about.0 ∷ filter_map (item_of old new) changes) =
              subst (λ (o : Option ItemAt). Ascend (cons_option o (filter_map (item_of old new) changes))) about.1 up in
              none_later about.0 about.2 changes hold.1 (heads_of Before about.0 (filter_map (item_of old new) changes) whole)

    -- ---- the flag of the inode once all changes are made
    pub flag_made : (before after : List Located) (rest : List Bool) (changes : List ItemChange) → NoneAfter changes
        → length (flags before) ≤ 1 → length (flags after) ≤ 1
        → IsPermutation (flags before) (filter_map gone_flag changes ++ rest) → IsPermutation (flags after) (filter_map came_flag changes ++ rest)
        → has_sum_free after tree ino ≡ sum_free_after old new tree ino changes (has_sum_free before tree ino)
    flag_made before after rest changes none few less was is =
        let gone = filter_map gone_flag changes in
        let came = filter_map came_flag changes in
        let gone_few : length (gone ++ rest) ≤ 1 = subst (λ n. n ≤ 1) (sym (length_permutation (flags before) (gone ++ rest) was)) few in
        let came_few : length (came ++ rest) ≤ 1 = subst (λ n. n ≤ 1) (sym (length_permutation (flags after) (came ++ rest) is)) less in
        let free : has_sum_free before tree ino ≡ set (gone ++ rest) =
        free_is before ∙ list_any-IsPermutation (λ b. b) (flags before) (gone ++ rest) was in
        let short : length came ≤ 1 = omega (arith, came_few, length-append came rest) in
        free_is after
        ∙ (list_any-IsPermutation (λ b. b) (flags after) (came ++ rest) is
        ∙ (decide came gone rest gone_few came_few
        ∙ (ap (result came gone) (sym free) ∙ sym (folded changes (has_sum_free before tree ino) none short))))
