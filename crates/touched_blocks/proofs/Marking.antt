-- The steps that mark pairs of a table.
use Rattle.std.proofs.Common.{◌≡◌, ℕ, ◌+◌, ◌<◌, ◌≤◌, ◌^◌, ◌==◌, nat_lt, Bool, true, false, cond, ◌⊎◌, inl, inr, sym, ◌∙◌, refl, ap, subst, arith}
use Rattle.std.specs.Prelude.{Option, Some, None, is_some, Result, Ok, Err, OnOk}
use Rattle.std.proofs.lemmas.Bool.{eqb-true}
use Rattle.std.proofs.lemmas.Bool.Decides.{nat_tests}
use Rattle.verdict.proofs.Truth.{and_true, and_left, and_right}
use Rattle.verdict.proofs.Numbers.{itself}
use Rattle.recon_disk.specs.Outside.{counted}
use Rattle.live_index.specs.declared.live.Live.{Live}
use Rattle.live_index.specs.Pairs.{Pairs, Stands}
use Rattle.touched_blocks.specs.declared.marks.Marks.{Marks}
use Rattle.touched_blocks.specs.Marking.{AreMarked, AreMarkedFrom, ClimbsTo, if_above, parent_of}
use Rattle.touched_blocks.specs.Marking.ClimbsTo.{Here, Up}
use Rattle.touched_blocks.specs.Marks.{Marked, count_of, is_pair, marked_by, with_mark}

pub same_tree : (t a tree address : ℕ) → is_pair t a tree address ≡ true → t ≡ tree
same_tree t a tree address e = eqb-true t tree (and_left _ _ e)

pub same_address : (t a tree address : ℕ) → is_pair t a tree address ≡ true → a ≡ address
same_address t a tree address e = eqb-true a address (and_right (t == tree) _ e)

-- what a pair of marks says also holds of the pair that is the same
moved_pair : (P : ℕ → ℕ → Type 0) (t a tree address : ℕ) → is_pair t a tree address ≡ true → P t a → P tree address
moved_pair P t a tree address e h = subst (λ x. P tree x) (same_address t a tree address e) (subst (λ x. P x a) (same_tree t a tree address e) h)

-- one mark more: it is there, those before stay, and there is no other
put_here : (marked : Marked) (t a tree address : ℕ) → is_pair t a tree address ≡ true → with_mark marked t a tree address ≡ true
put_here marked t a tree address e = ap (λ b. cond b true (marked tree address)) e

pub put_kept : (marked : Marked) (t a tree address : ℕ) → marked tree address ≡ true → with_mark marked t a tree address ≡ true
put_kept marked t a tree address e =
    elim (is_pair t a tree address) as (λ b. cond b true (marked tree address) ≡ true) [ true ↦ refl | false ↦ e ]

put_only : (marked : Marked) (t a tree address : ℕ) → with_mark marked t a tree address ≡ true → (marked tree address ≡ true) ⊎ (is_pair t a tree address ≡ true)
put_only marked t a tree address e =
    elim (is_pair t a tree address) as (λ b. is_pair t a tree address ≡ b → cond b true (marked tree address) ≡ true → (marked tree address ≡ true) ⊎ (is_pair t a tree address ≡ true)) [
      | true ↦ λ same _. inr same
      | false ↦ λ _ had. inl had
    ] refl e

-- where nothing is marked that was not
unmarked : (pairs : Pairs) (starts old new : Marked) → ((t a : ℕ) → new t a ≡ old t a)
    → ((t a : ℕ) → starts t a ≡ true → is_some (pairs t a) ≡ true → old t a ≡ true) → AreMarked pairs starts old new
unmarked pairs starts old new same found = record {
  kept = λ t a h. same t a ∙ h;
  closed = λ h t a live up is here above. same t live.parent ∙ h t a live up (sym (same t a) ∙ is) here above;
  found = λ t a small low s some. same t a ∙ found t a s some;
  only = λ t a h. inl (sym (same t a) ∙ h);
}

-- a pair that is marked already
pub marked_before : (pairs : Pairs) (live : Live) (old new : Marked) → ((t a : ℕ) → new t a ≡ old t a) → old live.tree live.address ≡ true
    → AreMarked pairs (is_pair live.tree live.address) old new
marked_before pairs live old new same had =
    unmarked pairs (is_pair live.tree live.address) old new same
    (λ t a is some. moved_pair (λ x y. old x y ≡ true) live.tree live.address t a is had)

pub no_up : (o : Option Live) (up : Live) → o ≡ None → o ≡ Some up → ⊥
no_up o up e f = cc

is_there : (o : Option Live) (live : Live) → o ≡ Some live → is_some o ≡ true
is_there o live e = ap is_some e

same_live : (pairs : Pairs) (live other : Live) (t a : ℕ) → Stands pairs live → is_pair live.tree live.address t a ≡ true → pairs t a ≡ Some other → Some live ≡ Some other
same_live pairs live other t a stands is here =
    sym stands ∙ moved_pair (λ x y. pairs live.tree live.address ≡ pairs x y) live.tree live.address t a is refl ∙ here

up_of : (pairs : Pairs) (tree : ℕ) (live other up : Live) → Some live ≡ Some other → live.tree ≡ tree → parent_of pairs tree other ≡ Some up → parent_of pairs live.tree live ≡ Some up
up_of pairs tree live other up same here above =
    ap (λ t. parent_of pairs t live) here
    ∙ ap (λ x. elim x as (λ _. Option Live) [ None ↦ None | Some l ↦ parent_of pairs tree l ]) same ∙ above

parent_alike : (live other : Live) → Some live ≡ Some other → live.parent ≡ other.parent
parent_alike live other same =
    ap (λ x. elim x as (λ _. ℕ) [ None ↦ 0 | Some l ↦ l.parent ]) same

-- a pair with none above it, marked
pub marked_root : (pairs : Pairs) (live : Live) (old new : Marked) → Stands pairs live → parent_of pairs live.tree live ≡ None
    → ((t a : ℕ) → new t a ≡ with_mark old live.tree live.address t a) → AreMarked pairs (is_pair live.tree live.address) old new
marked_root pairs live old new stands none put = record {
  kept = λ t a h. put t a ∙ put_kept old live.tree live.address t a h;
  closed = λ h t a one up is here above.
      elim (put_only old live.tree live.address t a (sym (put t a) ∙ is)) [
        | inl had ↦ put t one.parent ∙ put_kept old live.tree live.address t one.parent (h t a one up had here above)
        | inr same ↦ absurd (no_up (parent_of pairs live.tree live) up none (up_of pairs t live one up (same_live pairs live one t a stands same here) (same_tree live.tree live.address t a same) above))
      ];
  found = λ t a small low s some. put t a ∙ put_here old live.tree live.address t a s;
  only = λ t a h. elim (put_only old live.tree live.address t a (sym (put t a) ∙ h)) [
    | inl had ↦ inl had
    | inr same ↦ inr (
      a,
      same,
      moved_pair (λ x y. is_some (pairs x y) ≡ true) live.tree live.address t a same (is_there (pairs live.tree live.address) live stands),
      Here,
    )
  ];
}

-- a pair that is marked once that above it is
pub marked_child : (pairs : Pairs) (live up : Live) (old mid new : Marked) → live.tree < 2 ^ 64 → live.parent < 2 ^ 64 → Stands pairs live → parent_of pairs live.tree live ≡ Some up
    → up.tree ≡ live.tree → up.address ≡ live.parent → pairs live.tree live.parent ≡ Some up
    → AreMarked pairs (is_pair up.tree up.address) old mid → ((t a : ℕ) → new t a ≡ with_mark mid live.tree live.address t a)
    → AreMarked pairs (is_pair live.tree live.address) old new
marked_child pairs live up old mid new small low stands above tree address there more put = record {
  kept = λ t a h. put t a ∙ put_kept mid live.tree live.address t a (more.kept t a h);
  closed = λ h t a one above_one is here higher.
      elim (put_only mid live.tree live.address t a (sym (put t a) ∙ is)) [
        | inl had ↦ put t one.parent ∙ put_kept mid live.tree live.address t one.parent (more.closed h t a one above_one had here higher)
        | inr same ↦ put t one.parent ∙ put_kept mid live.tree live.address t one.parent
            (more.found t one.parent (subst (λ x. x < 2 ^ 64) (same_tree live.tree live.address t a same) small)
            (subst (λ x. x < 2 ^ 64) (parent_alike live one (same_live pairs live one t a stands same here)) low)
            (and_true (up.tree == t) (up.address == one.parent)
            (ap (λ x. x == t) tree ∙ and_left _ (live.address == a) same)
            (ap (λ x. x == one.parent) (address ∙ parent_alike live one (same_live pairs live one t a stands same here)) ∙ itself one.parent))
            (is_there_at t a one same here))
      ];
  found = λ t a small low s some. put t a ∙ put_here mid live.tree live.address t a s;
  only = λ t a h. elim (put_only mid live.tree live.address t a (sym (put t a) ∙ h)) [
    | inl had ↦ elim (more.only t a had) [
      | inl old_had ↦ inl old_had
      | inr from ↦ inr (
        live.address,
        begins t from.0 from.1,
        there_at t from.0 from.1,
        climbs t a from.0 from.1 from.3,
      )
    ]
    | inr same ↦ inr (
      a,
      same,
      moved_pair (λ x y. is_some (pairs x y) ≡ true) live.tree live.address t a same (is_there (pairs live.tree live.address) live stands),
      Here,
    )
  ];
}
  where
    -- the tree of a start
    tree_of : (t from : ℕ) → is_pair up.tree up.address t from ≡ true → live.tree ≡ t
    tree_of t from is = sym tree ∙ same_tree up.tree up.address t from is

    begins : (t from : ℕ) → is_pair up.tree up.address t from ≡ true → is_pair live.tree live.address t live.address ≡ true
    begins t from is = and_true _ _ (ap (λ x. x == t) (tree_of t from is) ∙ itself t) (itself live.address)

    there_at : (t from : ℕ) → is_pair up.tree up.address t from ≡ true → is_some (pairs t live.address) ≡ true
    there_at t from is = subst (λ x. is_some (pairs x live.address) ≡ true) (tree_of t from is) (is_there (pairs live.tree live.address) live stands)

    is_there_at : (t a : ℕ) (one : Live) → is_pair live.tree live.address t a ≡ true → pairs t a ≡ Some one → is_some (pairs t one.parent) ≡ true
    is_there_at t a one same here =
        subst (λ x. is_some (pairs x one.parent) ≡ true) (same_tree live.tree live.address t a same)
        (subst (λ x. is_some (pairs live.tree x) ≡ true) (parent_alike live one (same_live pairs live one t a stands same here)) (is_there (pairs live.tree live.parent) up there))

    climbs : (t a from : ℕ) → is_pair up.tree up.address t from ≡ true → ClimbsTo pairs t a from → ClimbsTo pairs t a live.address
    climbs t a from is way =
        Up live.address live up
        (subst (λ x. pairs x live.address ≡ Some live) (tree_of t from is) stands)
        (subst (λ x. parent_of pairs x live ≡ Some up) (tree_of t from is) above)
        (subst (ClimbsTo pairs t a) (sym (same_address up.tree up.address t from is) ∙ address) way)

-- ---- how often the table is looked at

pub above_is : (live up : Live) (o : Option Live) → if_above live o ≡ Some up → (x : Live) × (o ≡ Some x) × (live.level < x.level)
above_is live up None h = absurd (no_up None up refl h)
above_is live up (Some x) h = (x, refl, less (nat_lt live.level x.level) refl h)
  where
    less : (b : Bool) → nat_lt live.level x.level ≡ b → cond b (Some x) None ≡ Some up → live.level < x.level
    less true is _ = grind (arith, nat_tests)
    less false is none = absurd (no_up None up refl none)

same_level : (one other : Live) → Some one ≡ Some other → one.level ≡ other.level
same_level one other same = ap (λ x. elim x as (λ _. ℕ) [ None ↦ 0 | Some l ↦ l.level ]) same

-- what stands above a pair is on no lesser level
climbs_up : (pairs : Pairs) (t to from : ℕ) (low high : Live) → ClimbsTo pairs t to from → pairs t from ≡ Some low → pairs t to ≡ Some high → low.level ≤ high.level
climbs_up pairs t to _ low high Here is_low is_high =
    let same : low.level ≡ high.level = same_level low high (sym is_low ∙ is_high) in omega arith
climbs_up pairs t to _ low high (Up from live up here above way) is_low is_high =
    let found = above_is live up (pairs t live.parent) above in
    let rest : found.0.level ≤ high.level = climbs_up pairs t to live.parent found.0 high way found.1 is_high in
    let less : live.level < found.0.level = found.2 in
    let same : live.level ≡ low.level = same_level live low (sym here ∙ is_low) in
    omega arith

-- so to mark what stands above a pair does not mark the pair
still_unmarked : (pairs : Pairs) (live up : Live) (old mid : Marked) → Stands pairs live → up.address ≡ live.parent → pairs live.tree live.parent ≡ Some up → live.level < up.level
    → AreMarked pairs (is_pair up.tree up.address) old mid → old live.tree live.address ≡ false → mid live.tree live.address ≡ false
still_unmarked pairs live up old mid stands address there higher more none = by (mid live.tree live.address) refl
  where
    both : (b : Bool) → b ≡ true → b ≡ false → ⊥
    both b t f = cc

    no_way : (from : ℕ) → is_pair up.tree up.address live.tree from ≡ true → ClimbsTo pairs live.tree live.address from → ⊥
    no_way from is way =
        let upto : up.level ≤ live.level = climbs_up pairs live.tree live.address live.parent up live
        (subst (ClimbsTo pairs live.tree live.address) (sym (same_address up.tree up.address live.tree from is) ∙ address) way) there stands in
        omega arith

    by : (b : Bool) → mid live.tree live.address ≡ b → mid live.tree live.address ≡ false
    by false is = is
    by true is = absurd (elim (more.only live.tree live.address is) [
      | inl had ↦ both (old live.tree live.address) had none
      | inr from ↦ no_way from.0 from.1 from.3
    ])

-- so a look for the pair above is no more than the mark that follows
pub looks_child : {T E : Type 0} (r : Result T E) (pairs : Pairs) (live up : Live) (old mid : Marks) (start looked after count : ℕ)
    → Stands pairs live → up.address ≡ live.parent → pairs live.tree live.parent ≡ Some up → live.level < up.level
    → AreMarked pairs (is_pair up.tree up.address) (marked_by old) (marked_by mid) → marked_by old live.tree live.address ≡ false
    → looked ≡ counted start → after + count_of old ≤ looked + count_of mid
    → OnOk r (count ≡ count_of mid + cond (marked_by mid live.tree live.address) 0 1) → OnOk r (after + count_of old ≤ start + count)
looks_child (Err e) pairs live up old mid start looked after count stands address there higher more none looks above put = tt
looks_child (Ok x) pairs live up old mid start looked after count stands address there higher more none looks above put =
    let one : count ≡ count_of mid + 1 =
    put ∙ ap (λ b. count_of mid + cond b 0 1) (still_unmarked pairs live up (marked_by old) (marked_by mid) stands address there higher more none) in
    omega (arith, looks)

pub ruleset steps = (marked_before, marked_root, marked_child, looks_child)

-- some pairs, and then others
pub marked_then : (pairs : Pairs) (first first_may later later_may must may : Marked) (old mid new : Marked)
    → AreMarkedFrom pairs first first_may old mid → AreMarkedFrom pairs later later_may mid new
    → ((t a : ℕ) → t < 2 ^ 64 → a < 2 ^ 64 → must t a ≡ true → is_some (pairs t a) ≡ true → (first t a ≡ true) ⊎ (later t a ≡ true))
    → ((t a : ℕ) → first_may t a ≡ true → may t a ≡ true) → ((t a : ℕ) → later_may t a ≡ true → may t a ≡ true)
    → AreMarkedFrom pairs must may old new
marked_then pairs first first_may later later_may must may old mid new begun more covers from_first from_later = record {
  kept = λ t a h. more.kept t a (begun.kept t a h);
  closed = λ h. more.closed (begun.closed h);
  found = λ t a small low s some. elim (covers t a small low s some) [
    | inl one ↦ more.kept t a (begun.found t a small low one some)
    | inr two ↦ more.found t a small low two some
  ];
  only = λ t a h. elim (more.only t a h) [
    | inl had ↦ elim (begun.only t a had) [
      | inl before ↦ inl before
      | inr from ↦ inr (from.0, from_first t from.0 from.1, from.2, from.3)
    ]
    | inr from ↦ inr (from.0, from_later t from.0 from.1, from.2, from.3)
  ];
}

-- the same by other tests
pub marked_as : (pairs : Pairs) (first first_may must may : Marked) (old new : Marked) → AreMarkedFrom pairs first first_may old new
    → ((t a : ℕ) → t < 2 ^ 64 → a < 2 ^ 64 → must t a ≡ true → is_some (pairs t a) ≡ true → first t a ≡ true)
    → ((t a : ℕ) → first_may t a ≡ true → may t a ≡ true)
    → AreMarkedFrom pairs must may old new
marked_as pairs first first_may must may old new begun covers from_first = record {
  kept = begun.kept;
  closed = begun.closed;
  found = λ t a small low s some. begun.found t a small low (covers t a small low s some) some;
  only = λ t a h. elim (begun.only t a h) [
    | inl before ↦ inl before
    | inr from ↦ inr (from.0, from_first t from.0 from.1, from.2, from.3)
  ];
}

-- where no pair has to be marked, none is
pub marked_none : (pairs : Pairs) (must may : Marked) (old : Marked) → ((t a : ℕ) → must t a ≡ true → ⊥) → AreMarkedFrom pairs must may old old
marked_none pairs must may old none = record {
  kept = λ t a h. h;
  closed = λ h. h;
  found = λ t a small low s some. absurd (none t a s);
  only = λ t a h. inl h;
}
