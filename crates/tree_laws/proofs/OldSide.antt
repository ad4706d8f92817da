-- The walk of a tree as it was, which stops where the walk of the tree as it is keeps blocks, comes to those that are not shared.
use Rattle.std.proofs.Common.{◌≡◌, ℕ, zero, suc, ◌≤◌, ◌==◌, Bool, true, false, ◌&&◌, ◌||◌, List, [], ◌∷◌, ◌⊎◌, inl, inr, refl, ap, sym, subst, ◌∙◌, arith}
use Rattle.std.specs.Prelude.{Option, Some, None, is_none, is_some, IfSome, nat_lt, Ok, Err}
use Rattle.std.specs.List.{AllByRecursion}
use Rattle.std.proofs.lemmas.Bool.{eqb-true}
use Rattle.std.proofs.lemmas.Bool.Decides.{nat_tests}
use Rattle.touched_blocks.proofs.Among.{some_same}
use Rattle.tree_laws.proofs.Mixing.{same_itself}
use Rattle.verdict.proofs.Numbers.{itself}
use Rattle.verdict.proofs.Truth.{and_true, and_parts, neither}
use Rattle.verdict.specs.OnDisk.{key_same}
use Rattle.verdict.specs.declared.key.Key.{Key}
use Rattle.super_reader.specs.declared.Super.{Super}
use Rattle.live_index.specs.Pairs.{Pairs}
use Rattle.live_index.specs.declared.live.Live.{Live}
use Rattle.node_reader.specs.Layout.{pointers_of}
use Rattle.node_reader.specs.Stored.{Stored}
use Rattle.node_reader.specs.declared.expect.Expect.{Expect}
use Rattle.node_reader.specs.declared.expect.Pointer.{Pointer}
use Rattle.records.specs.Walk.{child_of, children_of, high_of}
use Rattle.records.specs.WalkLaw.{visited}
use Rattle.tree_laws.specs.Keeping.{AreMarked, AreUntouched, IsKnown, Marks, OneOf, Under, anew_of, comes_to, first_in, is_first, is_same, kept_of, live_at, starts_at}
use Rattle.tree_laws.specs.OldSide.{OldSideLaw, kept_where}
use Rattle.tree_laws.specs.Stops.{is_stop, stops_of}
use Rattle.tree_laws.specs.Shared.{are_alike}
use Rattle.tree_laws.specs.Skips.{Kept, nothing}
use Rattle.tree_laws.proofs.Accepted.{IsAs, accepts}
use Rattle.tree_laws.proofs.Bounds.{upto}
use Rattle.tree_laws.proofs.Climbing.{of_tree}
use Rattle.tree_laws.proofs.Lasting.{low_fits}
use Rattle.tree_laws.proofs.Listing.{above_is}
use Rattle.tree_laws.proofs.OldHidden.{IsHidden, hidden_up}
use Rattle.tree_laws.proofs.OldPlaces.{places}
use Rattle.tree_laws.proofs.OldStops.{Found, IsTold, gives}
use Rattle.tree_laws.proofs.OldWalk.{AllQuiet, Fact, Quiet, alike}
use Rattle.tree_laws.proofs.Separating.{IsFrom, nodes}
use Rattle.tree_laws.proofs.Sharing.{Carries, IsFree, IsKept, IsRight, Known, Moves, Stays, all_free, carries_below, carries_block, found, same_to, still_kept, was_visited, if_some_map}
use Rattle.tree_laws.proofs.Sifting.{IsSame}
use Rattle.tree_laws.proofs.Skipping.{unkept_is}
use Rattle.tree_laws.proofs.Tables.{copied_same}
use Rattle.tree_laws.proofs.Trails.{Trail, trail_and, trail_below, trail_of, trails}
use Rattle.tree_laws.proofs.Visiting.{Visits, VisitsOne, visits_any_from, visits_both, visits_from, visits_map, visits_one, visits_one_from, visits_then_first, visits_then_later}
use Rattle.tree_laws.proofs.Within.{Below, here_of, rest_of, within}

-- a stop is at its address, and something at the address of a stop
stop_more : (e : Expect) (es some : List Expect) → AllByRecursion (λ s. is_stop es s.address ≡ true) some → AllByRecursion (λ s. is_stop (e ∷ es) s.address ≡ true) some
stop_more e es [] all = tt
stop_more e es (s ∷ some) all = (either (e.address == s.address) (is_stop es s.address) all.0, stop_more e es some all.1)
  where
    either : (a b : Bool) → b ≡ true → (a || b) ≡ true
    either true b is = refl
    either false b is = is

are_stops : (es : List Expect) → AllByRecursion (λ s. is_stop es s.address ≡ true) es
are_stops [] = tt
are_stops (e ∷ es) = (by (e.address == e.address) (is_stop es e.address) (itself e.address), stop_more e es es (are_stops es))
  where
    by : (a b : Bool) → a ≡ true → (a || b) ≡ true
    by true b is = refl
    by false b is = absurd (cc)

stop_of : (Q : Expect → Type 0) (es : List Expect) (address : ℕ) → AllByRecursion Q es → is_stop es address ≡ true → (s : Expect) × (s.address ≡ address) × Q s
stop_of Q [] address all is = absurd (cc)
stop_of Q (e ∷ es) address all is = by (e.address == address) refl is (stop_of Q es address all.1)
  where
    by : (b : Bool) → (e.address == address) ≡ b → (b || is_stop es address) ≡ true → (is_stop es address ≡ true → (s : Expect) × (s.address ≡ address) × Q s) → (s : Expect) × (s.address ≡ address) × Q s
    by true at is rest = (e, eqb-true e.address address at, all.0)
    by false at is rest = rest is

-- a trail that is carried and has no finding
carried : (P Q : Expect → Type 0) (b : Bool) (trail : Trail) → Carries P b trail → Visits Q trail → Visits P trail
carried P Q true trail carries all = carries
carried P Q false (Err finding) carries all = all
carried P Q false (Ok visits) carries all = elim carries [ ]

module _ (pairs : Pairs) (marked moving : Marks) (touched moved : ℕ → Bool) (under : Under) (shared : Live → Bool) (sup : Super) (old new : Stored) (tree : ℕ) where
  abbrev pub K : Kept
  K = kept_of pairs marked moved under

  abbrev pub of_old : ℕ → Expect → Trail
  of_old level = trail_and (trail_below level sup old) sup old

  abbrev pub of_new : ℕ → Expect → Trail
  of_new level = trail_and (trail_below level sup new) sup new

  -- what is known of each block that the new walk comes to
  abbrev pub IsNew : Expect → Type 0
  IsNew w = (is_some (K w) ≡ shared (live_at sup new w)) × (w.tree ≡ tree)

  -- a block that is kept is one of the old tree
  pub record IsAsWas (w o : Expect) : Type 0 where
    pub mark : marked tree o.address ≡ false
    pub still : moved o.address ≡ false
    pub same : is_same w (live_at sup old o) ≡ true

  as_was : (w o : Expect) → w.tree ≡ tree → w.address ≡ o.address → pairs tree o.address ≡ Some (live_at sup old o) → is_some (K w) ≡ true → IsAsWas w o
  unfolding kept_of
  as_was w o of_tree at known kept = by (K w) refl kept
    where
      told : (last : Key) → K w ≡ Some last → IsAsWas w o
      told last is =
          let f = found w (under w.tree w.address) last (marked w.tree w.address || moved w.address) (pairs w.tree w.address) is in
          let free = neither (marked w.tree w.address) (moved w.address) f.free in
          let entry : pairs w.tree w.address ≡ Some (live_at sup old o) = rw (of_tree, at) known in
          let lives : f.live ≡ live_at sup old o = some_same f.live (live_at sup old o) (sym f.known ∙ entry) in
          record {
            mark = subst (λ a. marked tree a ≡ false) at (subst (λ t. marked t w.address ≡ false) of_tree free.0);
            still = subst (λ a. moved a ≡ false) at free.1;
            same = subst (λ live. is_same w live ≡ true) lives f.same;
          }

      by : (k : Option Key) → K w ≡ k → is_some k ≡ true → IsAsWas w o
      by None is kept = absurd (cc)
      by (Some last) is kept = told last is

  abbrev pub IsShared : Expect → Type 0
  IsShared x = shared (live_at sup old x) ≡ true

  abbrev pub Congruent : Type 0
  Congruent = (a b : Live) → are_alike a b ≡ true → shared a ≡ shared b

  -- a block at the address of a new one that is kept is shared
  shared_if : Congruent → (x w : Expect) → pairs tree x.address ≡ Some (live_at sup old x) → x.tree ≡ tree → IsNew w → w.address ≡ x.address → is_some (K w) ≡ true → new x.address ≡ old x.address → IsShared x
  shared_if congruent x w known of_tree is_new at kept alike =
      let was = as_was w x is_new.1 at known kept in
      let parts = and_parts (w.level == x.level && w.generation == x.generation) (is_first (live_at sup old x) w.low w.high) was.same in
      let two = and_parts (w.level == x.level) (w.generation == x.generation) parts.0 in
      let first : first_in (new w.address) ≡ first_in (old x.address) = ap first_in (ap new at ∙ alike) in
      let keys : key_same (first_in (new w.address)) (first_in (old x.address)) ≡ true = rw first (same_itself (first_in (old x.address))) in
      let places : (w.tree == x.tree && w.address == x.address) ≡ true =
      and_true (w.tree == x.tree) (w.address == x.address) (rw (is_new.1, of_tree) (itself tree)) (rw at (itself x.address)) in
      let rest : (w.generation == x.generation && key_same (first_in (new w.address)) (first_in (old x.address))) ≡ true =
      and_true (w.generation == x.generation) (key_same (first_in (new w.address)) (first_in (old x.address))) two.1 keys in
      let are : are_alike (live_at sup new w) (live_at sup old x) ≡ true =
      and_true (w.tree == x.tree && w.address == x.address) (w.level == x.level && (w.generation == x.generation && key_same (first_in (new w.address)) (first_in (old x.address)))) places
      (and_true (w.level == x.level) (w.generation == x.generation && key_same (first_in (new w.address)) (first_in (old x.address))) two.0 rest) in
      sym (congruent (live_at sup new w) (live_at sup old x) are) ∙ (sym is_new.0 ∙ kept)

  abbrev pub Free : Expect → Type 0
  Free w = IsFree pairs marked moved under sup old new moving w × (w.tree ≡ tree)

  -- at and below a child of a stop that is not listed all are shared
  quiet_child : Congruent → (level : ℕ) (c d : Expect) → d.level ≡ level → IsSame old c d → is_some c.low ≡ true → moving tree d.address ≡ false → Visits Free (of_old level d) → Visits IsNew (of_new level c)
      → Visits IsShared (of_old level d)
  quiet_child congruent level c d at same child none all more =
      let Free_of = IsFree pairs marked moved under sup old new moving in
      let Kept_of = IsKept pairs marked moved under sup old new in
      let Stay = Stays pairs marked moved under sup old new in
      let here : Free d = here_of Free (trail_below level sup old) sup old d all in
      let free : Visits Free_of (of_old level d) = visits_map Free Free_of (of_old level d) (λ w h. h.0) all in
      let kept : Visits Kept_of (of_old level d) = still_kept pairs marked moved under sup old new moving level d at (subst (λ t. moving t d.address ≡ false) (sym here.1) none) free in
      let carries = carries_block pairs marked moved under sup old new level c d at same child (carries_below pairs marked moved under sup old new level c d same.block.tree) kept in
      let stay : Visits Stay (of_new level c) = carried Stay IsNew (upto (of_old level d) c.high) (of_new level c) carries more in
      let Alike = λ (a : ℕ). old a ≡ new a in
      let alike : Visits (λ w. Alike w.address) (of_new level c) =
      places Alike IsNew sup old new level d c (sym same.block.address) (visits_map Kept_of (λ w. (old w.address ≡ new w.address) × (new w.address ≡ old w.address)) (of_old level d) (λ w h. (sym h.alike, h.alike)) kept) more in
      let Lives = λ (a : ℕ). (w : Expect) × (w.address ≡ a) × IsNew w × (is_some (K w) ≡ true) in
      let lives : Visits (λ w. Lives w.address × (old w.address ≡ new w.address)) (of_new level c) =
      visits_both (λ w. Lives w.address) (λ w. old w.address ≡ new w.address) (of_new level c)
      (visits_map (λ w. IsNew w × Stay w) (λ w. Lives w.address) (of_new level c) (λ w h. (w, refl, h.0, there (K w) h.1)) (visits_both IsNew Stay (of_new level c) more stay)) alike in
      let both : Visits (λ x. (Free x × Kept_of x) × Lives x.address) (of_old level d) =
      visits_both (λ x. Free x × Kept_of x) (λ x. Lives x.address) (of_old level d) (visits_both Free Kept_of (of_old level d) all kept)
      (places Lives Free sup new old level c d same.block.address lives all) in
      visits_map (λ x. (Free x × Kept_of x) × Lives x.address) IsShared (of_old level d)
      (λ x h. shared_if congruent x h.1.0 (subst (λ t. pairs t x.address ≡ Some (live_at sup old x)) h.0.0.1 h.0.1.known) h.0.0.1 h.1.2 h.1.1 h.1.3 h.0.1.alike) both
    where
      there : (k : Option Key) → is_none k ≡ false → is_some k ≡ true
      there None is = absurd (cc)
      there (Some last) is = refl

  quiet_children : Congruent → (stopped : List Expect) (level : ℕ) (s o : Expect) → s.tree ≡ o.tree → (pointers : List Pointer)
      → Visits Free (trails (of_old level) (children_of level o pointers)) → Visits IsNew (trails (of_new level) (children_of level s pointers))
      → AllQuiet pairs moving under shared stopped sup old tree level o pointers
  quiet_children congruent stopped level s o same [] all more = tt
  quiet_children congruent stopped level s o same (pointer ∷ pointers) all more =
      let c = child_of level s pointer (high_of pointers s.high) in
      let d = child_of level o pointer (high_of pointers o.high) in
      let others = trails (of_old level) (children_of level o pointers) in
      let rest = trails (of_new level) (children_of level s pointers) in
      let first : Visits Free (of_old level d) = visits_then_first Free (of_old level d) others all in
      let a = accepts Free (trail_below level sup old) sup old d first in
      let block : IsAs c d = record { tree = same; address = refl; generation = refl; level = refl } in
      let is : IsSame old c d = record { block = block; low = rw a.is (low_fits sup old d a) } in (
        λ none. quiet_child congruent level c d refl is refl none first (visits_then_first IsNew (of_new level c) rest more),
        quiet_children congruent stopped level s o same pointers (visits_then_later Free (of_old level d) others all) (visits_then_later IsNew (of_new level c) rest more),
      )

  -- the same, of what is stored
  quiet_at : Congruent → (stopped : List Expect) (n : ℕ) (s o : Expect) → s.tree ≡ o.tree → s.level ≡ n → o.level ≡ n → new s.address ≡ old o.address → (bytes : List ℕ) → old o.address ≡ Ok bytes
      → Visits Free (trail_of sup old o) → Visits IsNew (trail_of sup new s) → Quiet pairs moving under shared stopped sup old tree n o bytes
  unfolding trail_below
  quiet_at congruent stopped zero s o same low at alike bytes is all more = tt
  quiet_at congruent stopped (suc level) s o same low at alike bytes is all more =
      let a = accepts Free (trail_below o.level sup old) sup old o all in
      let b = accepts IsNew (trail_below s.level sup new) sup new s more in
      let first : a.bytes ≡ bytes = copied_same old o.address o.address a.bytes bytes a.is is refl in
      let second : b.bytes ≡ bytes = copied_same new s.address s.address b.bytes bytes b.is (alike ∙ is) refl in
      quiet_children congruent stopped level s o same (pointers_of bytes)
      (subst (λ n. Visits Free (trail_below n sup old o bytes)) at (subst (λ x. Visits Free (trail_below o.level sup old o x)) first (rest_of Free (trail_below o.level sup old) sup old o a all)))
      (subst (λ n. Visits IsNew (trail_below n sup new s bytes)) low (subst (λ x. Visits IsNew (trail_below s.level sup new s x)) second (rest_of IsNew (trail_below s.level sup new) sup new s b more)))

  -- the stops of the new walk, and what holds of each
  abbrev pub stopped : Expect → List Expect
  stopped root = stops_of K (anew_of under) sup new root

  abbrev pub IsStop : Expect → Type 0
  IsStop s = Below IsNew sup new s × (is_some (K s) ≡ true)

  abbrev pub Finds : Expect → Expect → Type 0
  Finds root w = Found (Below IsNew sup new) pairs marked moving moved under sup old new tree (is_stop (stopped root)) w

  abbrev pub Old : Expect → Type 0
  Old v = (Below (Known pairs marked moved under sup old new) sup old v × Below (IsRight pairs marked moved under sup old new marked touched) sup old v)
      × (Below (Moves pairs marked moved under sup old new moving) sup old v × (v.tree ≡ tree))

  abbrev pub FactOf : Expect → Expect → Type 0
  FactOf root v = Fact pairs moving under shared (stopped root) sup old tree v

  abbrev pub Both : Expect → Type 0
  Both root = (live : Live) → live.tree ≡ root.tree → shared live ≡ true → OneOf (λ v. are_alike live (live_at sup new v) ≡ true) (visited sup new root)

  -- a shared block that is not at a stop is passed over
  found_if : Congruent → (root o : Expect) → root.tree ≡ tree → Both root → Visits IsNew (trail_of sup new root) → Visits (Finds root) (trail_of sup new root) → o.tree ≡ tree
      → is_stop (stopped root) o.address ≡ false → IsShared o → IsHidden pairs moving (is_stop (stopped root)) tree o.address
  found_if congruent root o same_tree both news finds of_tree free is =
      let L = λ (w : Expect). are_alike (live_at sup old o) (live_at sup new w) ≡ true in
      let one : VisitsOne L (trail_of sup new root) = visits_one_from L IsNew sup new root news (both (live_at sup old o) (of_tree ∙ sym same_tree) is) in
      let at = visits_one (λ w. IsNew w × Finds root w) L (trail_of sup new root) (visits_both IsNew (Finds root) (trail_of sup new root) news finds) one in
      let w = at.0 in
      let here : IsNew w × Finds root w = at.1 in
      let are : are_alike (live_at sup old o) (live_at sup new w) ≡ true = at.2 in
      let parts = and_parts (o.tree == w.tree && o.address == w.address) (o.level == w.level && (o.generation == w.generation && key_same (first_in (old o.address)) (first_in (new w.address)))) are in
      let place : o.address ≡ w.address = eqb-true o.address w.address (and_parts (o.tree == w.tree) (o.address == w.address) parts.0).1 in
      let kept : is_some (K w) ≡ true = here.0.0 ∙ (sym (congruent (live_at sup old o) (live_at sup new w) are) ∙ is) in
      by (subst (λ a. (is_stop (stopped root) a ≡ true) ⊎ IsHidden pairs moving (is_stop (stopped root)) tree a) (sym place) (here.1 kept))
    where
      by : (is_stop (stopped root) o.address ≡ true) ⊎ IsHidden pairs moving (is_stop (stopped root)) tree o.address → IsHidden pairs moving (is_stop (stopped root)) tree o.address
      by (inl stop) = absurd (cc)
      by (inr hidden) = hidden

  -- what is known of a block at a stop
  pub record AtStop (root o : Expect) : Type 0 where
    pub is_shared : IsShared o
    pub quiet : (bytes : List ℕ) → old o.address ≡ Ok bytes → Quiet pairs moving under shared (stopped root) sup old tree o.level o bytes

  at_stop : Congruent → AreUntouched touched moved old new → (root o : Expect) → AllByRecursion IsStop (stopped root) → Old o → is_stop (stopped root) o.address ≡ true → AtStop root o
  at_stop congruent alike root o stops o_is stop =
      let Kn = Known pairs marked moved under sup old new in
      let Free_of = IsFree pairs marked moved under sup old new moving in
      let trail = trail_of sup old o in
      let at = stop_of IsStop (stopped root) o.address stops stop in
      let s = at.0 in
      let here : IsNew s = here_of IsNew (trail_below s.level sup new) sup new s at.2.0 in
      let known : pairs tree o.address ≡ Some (live_at sup old o) =
      subst (λ t. pairs t o.address ≡ Some (live_at sup old o)) o_is.1.1 (here_of Kn (trail_below o.level sup old) sup old o o_is.0.0) in
      let was = as_was s o here.1 at.1 known at.2.1 in
      let right = here_of (IsRight pairs marked moved under sup old new marked touched) (trail_below o.level sup old) sup old o o_is.0.1 in
      let mark : marked o.tree o.address ≡ false = subst (λ t. marked t o.address ≡ false) (sym o_is.1.1) was.mark in
      let free : Visits Free_of trail = all_free pairs marked moved under sup old new moving touched alike o o_is.0.0 o_is.0.1 o_is.1.0 (sym right ∙ mark) in
      let trees : Visits (λ w. w.tree ≡ tree) trail = subst (λ t. Visits (λ w. w.tree ≡ t) trail) o_is.1.1 (of_tree Free_of sup old o free) in
      let all : Visits Free trail = visits_both Free_of (λ w. w.tree ≡ tree) trail free trees in
      let first : Free_of o = here_of Free_of (trail_below o.level sup old) sup old o free in
      let same : new o.address ≡ old o.address = first.alike was.still in
      let is : IsSame old s o = same_to Kn sup old s o (here.1 ∙ sym o_is.1.1) at.1 was.same o_is.0.0 in
      record {
        is_shared = shared_if congruent o s known o_is.1.1 here at.1 at.2.1 same;
        quiet = λ bytes found.
            quiet_at congruent (stopped root) o.level s o is.block.tree is.block.level refl (ap new at.1 ∙ same) bytes found all at.2.0;
      }

  fact_of : Congruent → AreUntouched touched moved old new → (root : Expect) → root.tree ≡ tree → Both root → Visits IsNew (trail_of sup new root) → Visits (Finds root) (trail_of sup new root)
      → AllByRecursion IsStop (stopped root) → (o : Expect) → Old o → FactOf root o
  fact_of congruent alike root same_tree both news finds stops o o_is = record {
    known = subst (λ t. pairs t o.address ≡ Some (live_at sup old o)) o_is.1.1 (here_of (Known pairs marked moved under sup old new) (trail_below o.level sup old) sup old o o_is.0.0);
    tree_is = o_is.1.1;
    lists = (here_of (Moves pairs marked moved under sup old new moving) (trail_below o.level sup old) sup old o o_is.1.0).1;
    is_shared = λ stop. (at_stop congruent alike root o stops o_is stop).is_shared;
    found = λ free is. found_if congruent root o same_tree both news finds o_is.1.1 free is;
    quiet = λ stop bytes is. (at_stop congruent alike root o stops o_is stop).quiet bytes is;
  }

-- no block is above the root
clear_root : (pairs : Pairs) (moving : Marks) (stops : ℕ → Bool) (sup : Super) (old : Stored) (before : Expect)
    → Visits (λ v. pairs before.tree v.address ≡ Some (live_at sup old v)) (trail_of sup old before)
    → ((address : ℕ) → IfSome (pairs before.tree address) (λ live. VisitsOne (IsKnown sup old before.tree address live) (trail_of sup old before)))
    → IsHidden pairs moving stops before.tree before.address → ⊥
clear_root pairs moving stops sup old before knows only hidden =
    let tree = before.tree in
    let trail = trail_of sup old before in
    let known = here_of (λ (v : Expect). pairs tree v.address ≡ Some (live_at sup old v)) (trail_below before.level sup old) sup old before knows in
    let up = hidden_up pairs moving stops tree before.address hidden (live_at sup old before) known in
    let above = above_is (live_at sup old before) up.up (pairs tree before.parent) up.above in
    let one : VisitsOne (IsKnown sup old tree before.parent up.up) trail = rw above.0 at (only before.parent) in
    let at = visits_one (IsFrom (pairs tree) sup old before.level before) (IsKnown sup old tree before.parent up.up) trail (nodes (pairs tree) sup old before knows) one in
    let here : IsKnown sup old tree before.parent up.up at.0 = at.2 in
    too_high before.level up.up.level at.0.level above.1 (ap (λ (l : Live). l.level) here.live_is) at.1.0
  where
    too_high : (l m n : ℕ) → nat_lt l m ≡ true → m ≡ n → n ≤ l → ⊥
    too_high l m n less is most = grind (arith, nat_tests, less, is, most)

-- a root is expected as it is
root_self : (sup : Super) (old : Stored) (e : Expect) → e.low ≡ None → e.high ≡ None → is_same e (live_at sup old e) ≡ true
root_self sup old e low high = rw (low, high, itself e.level, itself e.generation) refl

-- the walk of the old tree
pub old_side : OldSideLaw
old_side pairs marked moving touched moved under shared sup old new before root is_root same_tree stands marks moves lists alike_at tells =
    let tree = before.tree in
    let K = kept_of pairs marked moved under in
    let trail = trail_of sup old before in
    let Kn = Known pairs marked moved under sup old new in
    let Right = λ (m : Marks) (test : ℕ → Bool). IsRight pairs marked moved under sup old new m test in
    let Mv = Moves pairs marked moved under sup old new moving in
    let known : Visits Kn trail = visits_from Kn sup old before stands.each in
    let deep : Visits (Below Kn sup old) trail = within Kn sup old before known in
    let right : (m : Marks) (test : ℕ → Bool) → AreMarked m test sup old before → Visits (Right m test) trail =
    λ m test comes. visits_map (λ v. Below Kn sup old v × (m v.tree v.address ≡ comes_to test sup old v)) (Right m test) trail (λ v h. h.1 ∙ visits_any_from Kn test sup old v h.0)
    (visits_both (Below Kn sup old) (λ v. m v.tree v.address ≡ comes_to test sup old v) trail deep (visits_from (λ v. m v.tree v.address ≡ comes_to test sup old v) sup old before comes)) in
    let listed = visits_from (λ v. under v.tree v.address ≡ starts_at v.level (moving v.tree) (old v.address)) sup old before lists in
    let marks_are : Visits (Right marked touched) trail = right marked touched marks in
    let moves_are : Visits Mv trail = visits_both (Right moving moved) (λ v. under v.tree v.address ≡ starts_at v.level (moving v.tree) (old v.address)) trail (right moving moved moves) listed in
    let only : (address : ℕ) → IfSome (pairs tree address) (λ live. VisitsOne (IsKnown sup old tree address live) trail) =
    λ address. if_some_map (pairs tree address) (λ live. OneOf (IsKnown sup old tree address live) (visited sup old before)) (λ live. VisitsOne (IsKnown sup old tree address live) trail)
    (λ live one. visits_one_from (IsKnown sup old tree address live) Kn sup old before known one) (stands.only address) in
    let trees : Visits (λ w. w.tree ≡ tree) trail = of_tree Kn sup old before known in
    let knows : Visits (λ v. pairs tree v.address ≡ Some (live_at sup old v)) trail =
    visits_map (λ v. Kn v × (v.tree ≡ tree)) (λ v. pairs tree v.address ≡ Some (live_at sup old v)) trail (λ v h. subst (λ t. pairs t v.address ≡ Some (live_at sup old v)) h.1 h.0)
    (visits_both Kn (λ w. w.tree ≡ tree) trail known trees) in
    let N = IsNew pairs marked moving touched moved under shared sup old new tree in
    let Keeps = λ (v : Expect). is_some (K v) ≡ shared (live_at sup new v) in
    let walk = trail_of sup new root in
    let keeps : Visits Keeps walk = visits_from Keeps sup new root tells.kept_is in
    let news : Visits N walk = visits_both Keeps (λ w. w.tree ≡ tree) walk keeps (subst (λ t. Visits (λ w. w.tree ≡ t) walk) same_tree (of_tree Keeps sup new root keeps)) in
    let stops = stops_of K (anew_of under) sup new root in
    let told : IsTold (Below N sup new) pairs marked moving moved under sup old new tree (is_stop stops) =
    λ e last tree_is is. was_visited pairs marked moved under sup old new moving touched before e last tree_is known only marks_are moves_are alike_at is in
    let given = gives (Below N sup new) pairs marked moving moved under sup old new tree (is_stop stops) told root same_tree (within N sup new root news) in
    let finds : Visits (Finds pairs marked moving touched moved under shared sup old new tree root) walk = given.1 (are_stops stops) in
    let Was = Old pairs marked moving touched moved under shared sup old new tree in
    let olds : Visits Was trail =
    visits_both (λ v. Below Kn sup old v × Below (Right marked touched) sup old v) (λ v. Below Mv sup old v × (v.tree ≡ tree)) trail
    (visits_both (Below Kn sup old) (Below (Right marked touched) sup old) trail deep (within (Right marked touched) sup old before marks_are))
    (visits_both (Below Mv sup old) (λ v. v.tree ≡ tree) trail (within Mv sup old before moves_are) trees) in
    let facts : Visits (Fact pairs moving under shared stops sup old tree) trail =
    visits_map Was (Fact pairs moving under shared stops sup old tree) trail
    (fact_of pairs marked moving touched moved under shared sup old new tree tells.alike alike_at root same_tree tells.both news finds given.0) olds in
    alike pairs moving under shared stops sup old tree before (root_self sup old before is_root.0 is_root.1) (clear_root pairs moving (is_stop stops) sup old before knows only) facts
    ∙ sym (unkept_is (kept_where shared sup old) nothing sup old before)
