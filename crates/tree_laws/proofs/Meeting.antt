-- The kept blocks that a walk meets show all kept blocks whose node above or greatest key is another than it was.
use Rattle.std.proofs.Common.{◌≡◌, ℕ, zero, suc, ◌-◌, Bool, true, false, List, [], ◌∷◌, ◌++◌, refl, ap, sym, subst, ◌∙◌, arith, if◌then◌else◌}
use Rattle.std.proofs.lemmas.List.{map-append}
use Rattle.std.proofs.lemmas.List.Elements.{filter-append}
use Rattle.std.specs.Prelude.{Option, Some, None, IfSome, Ok, is_some, map}
use Rattle.std.specs.List.{AllByRecursion, filter, flat_map}
use Rattle.verdict.specs.declared.key.Key.{Key}
use Rattle.super_reader.specs.declared.Super.{Super}
use Rattle.live_index.specs.Pairs.{Pairs}
use Rattle.live_index.specs.declared.live.Live.{Live}
use Rattle.node_reader.specs.Layout.{pointers_of}
use Rattle.node_reader.specs.Stored.{Stored, block_in}
use Rattle.node_reader.specs.declared.expect.Expect.{Expect}
use Rattle.node_reader.specs.declared.expect.Pointer.{Pointer}
use Rattle.records.specs.Walk.{child_of, children_of, high_of}
use Rattle.records.specs.WalkLaw.{children_in, visited, visited_from}
use Rattle.tree_laws.specs.Keeping.{AreMarked, AreUntouched, IsKnown, Marks, OneOf, Under, anew_of, comes_to, kept_of, live_at, starts_at, starts_in, starts_of}
use Rattle.tree_laws.specs.MovedLaw.{MovedLaw, is_other_than, shifted_by}
use Rattle.tree_laws.specs.Skips.{Kept}
use Rattle.tree_laws.specs.Stops.{stops_and, stops_below, stops_or}
use Rattle.tree_laws.specs.declared.told.Start.{Start}
use Rattle.tree_laws.proofs.Accepted.{Accepts, IsAs, accepts}
use Rattle.tree_laws.proofs.Calming.{IsQuiet, bytes_same, calm}
use Rattle.tree_laws.proofs.Lasting.{low_fits}
use Rattle.tree_laws.proofs.Sharing.{IsFree, IsRight, Known, Moves, if_some_map, still_kept, was_visited}
use Rattle.tree_laws.proofs.Sifting.{IsSame, or_high_is}
use Rattle.tree_laws.proofs.Tables.{Any, any_each}
use Rattle.tree_laws.proofs.Trails.{Trail, trail_and, trail_below, trail_of, trails}
use Rattle.tree_laws.proofs.Visiting.{Visits, VisitsOne, comes_from, visits_any_from, visits_both, visits_from, visits_map, visits_one_from, visits_then_first, visits_then_later}
use Rattle.tree_laws.proofs.Within.{Below, here_of, rest_of, within}

pub block_is : (sup : Super) (stored : Stored) (e : Expect) (a : Accepts sup stored e) → block_in stored sup.fsid e ≡ Ok a.bytes
unfolding block_in
block_is sup stored e a = rw (a.is, a.passes) refl

module _ (pairs : Pairs) (marked : Marks) (moved : ℕ → Bool) (under : Under) (sup : Super) (old new : Stored) where
  abbrev pub K : Kept
  K = kept_of pairs marked moved under

  abbrev pub A : Expect → Type 0
  A = Any sup new

  -- the live pairs of blocks, and of those that are kept, which are other than the table's
  abbrev pub shown : List Expect → List Live
  shown es = shifted_by pairs sup new es

  abbrev pub keeps : Expect → Bool
  keeps v = is_some (K v)

  abbrev pub all : List Expect → List Live
  all es = shown (filter keeps es)

  abbrev pub is_shown : Live → Bool
  is_shown live = is_other_than (pairs live.tree live.address) live

  shown_append : (a b : List Expect) → shown (a ++ b) ≡ shown a ++ shown b
  shown_append a b =
      ap (filter is_shown) (map-append (live_at sup new) a b)
      ∙ filter-append is_shown (map (live_at sup new) a) (map (live_at sup new) b)

  all_append : (a b : List Expect) → all (a ++ b) ≡ all a ++ all b
  all_append a b = ap shown (filter-append keeps a b) ∙ shown_append (filter keeps a) (filter keeps b)

  abbrev pub Quiet : Expect → Type 0
  Quiet = IsQuiet A pairs marked moved under sup old new

  -- none of these is shown
  none_shown : (es : List Expect) → AllByRecursion Quiet es → all es ≡ []
  none_shown [] quiet = refl
  none_shown (e ∷ es) quiet = by (keeps e) (none_shown es quiet.1)
    where
      by : (b : Bool) → all es ≡ [] → shown (if b then e ∷ filter keeps es else filter keeps es) ≡ []
      by true rest = rw quiet.0 rest
      by false rest = rest

  -- a block, by whether it is kept
  shown_or : (e : Expect) (k : Option Key) (xs ys zs : List Expect) → K e ≡ k → (k ≡ None → all xs ≡ shown ys)
      → ((last : Key) → k ≡ Some last → all xs ≡ shown zs) → all (e ∷ xs) ≡ shown (stops_or e zs ys k)
  shown_or e None xs ys zs is new_one kept_one =
      ap (λ (k : Option Key). shown (if is_some k then e ∷ filter keeps xs else filter keeps xs)) is ∙ new_one refl
  shown_or e (Some last) xs ys zs is new_one kept_one =
      ap (λ (k : Option Key). shown (if is_some k then e ∷ filter keeps xs else filter keeps xs)) is
      ∙ ap (λ rest. if is_shown (live_at sup new e) then live_at sup new e ∷ rest else rest) (kept_one last refl)

  abbrev pub was : ℕ → Expect → Trail
  was level = trail_and (trail_below level sup old) sup old

  abbrev pub is_now : ℕ → Expect → Trail
  is_now level = trail_and (trail_below level sup new) sup new

  abbrev pub blocks : ℕ → Expect → List Expect
  blocks level = visited_from level sup new

  abbrev pub meets : ℕ → Expect → List Expect
  meets level = stops_and K (anew_of under) (stops_below K (anew_of under) level sup new) sup new

  -- blocks of a tree on a level are shown by those that are met
  abbrev pub AreShown : ℕ → ℕ → Type 0
  AreShown tree level = (c : Expect) → c.level ≡ level → c.tree ≡ tree → Visits A (is_now level c) → all (blocks level c) ≡ shown (meets level c)

  -- two lists, one after the other
  shown_then : (a b x y : List Expect) → all a ≡ shown x → all b ≡ shown y → all (a ++ b) ≡ shown (x ++ y)
  shown_then a b x y first later =
      all_append a b ∙ (ap (λ l. l ++ all b) first ∙ (ap (λ l. shown x ++ l) later ∙ sym (shown_append x y)))

  -- the children of a block that is not kept
  shown_children : (tree level : ℕ) → AreShown tree level → (e : Expect) → e.tree ≡ tree → (pointers : List Pointer)
      → Visits A (trails (is_now level) (children_of level e pointers))
      → all (flat_map (blocks level) (children_of level e pointers)) ≡ shown (flat_map (meets level) (children_of level e pointers))
  shown_children tree level each e of_tree [] more = refl
  shown_children tree level each e of_tree (pointer ∷ pointers) more =
      let c = child_of level e pointer (high_of pointers e.high) in
      let rest = children_of level e pointers in
      shown_then (blocks level c) (flat_map (blocks level) rest) (meets level c) (flat_map (meets level) rest)
      (each c refl of_tree (visits_then_first A (is_now level c) (trails (is_now level) rest) more))
      (shown_children tree level each e of_tree pointers (visits_then_later A (is_now level c) (trails (is_now level) rest) more))

  -- those of a kept one
  shown_starts : (moving : Marks) (tree level : ℕ) → AreShown tree level → (e v : Expect) → e.tree ≡ tree → e.tree ≡ v.tree → e.address ≡ v.address
      → (pointers : List Pointer) → Visits (IsFree pairs marked moved under sup old new moving) (trails (was level) (children_of level v pointers))
      → Visits A (trails (is_now level) (children_of level e pointers))
      → all (flat_map (blocks level) (children_of level e pointers))
      ≡ shown (flat_map (meets level) (starts_of level e (starts_in (moving v.tree) pointers)))
  shown_starts moving tree level each e v of_tree as_tree at [] free more = refl
  shown_starts moving tree level each e v of_tree as_tree at (pointer ∷ pointers) free more =
      by (moving v.tree pointer.address) refl (shown_starts moving tree level each e v of_tree as_tree at pointers
      (visits_then_later Free (was level d) rest_old free) (visits_then_later A (is_now level c) rest_new more))
    where
      Free : Expect → Type 0
      Free = IsFree pairs marked moved under sup old new moving

      c : Expect
      c = child_of level e pointer (high_of pointers e.high)

      d : Expect
      d = child_of level v pointer (high_of pointers v.high)

      rest_old : Trail
      rest_old = trails (was level) (children_of level v pointers)

      rest_new : Trail
      rest_new = trails (is_now level) (children_of level e pointers)

      others : List Expect
      others = flat_map (blocks level) (children_of level e pointers)

      S : List Start
      S = starts_in (moving v.tree) pointers

      here : Visits Free (was level d)
      here = visits_then_first Free (was level d) rest_old free

      there : Visits A (is_now level c)
      there = visits_then_first A (is_now level c) rest_new more

      by : (m : Bool) → moving v.tree pointer.address ≡ m → all others ≡ shown (flat_map (meets level) (starts_of level e S))
          → all (blocks level c ++ others)
          ≡ shown (flat_map (meets level) (starts_of level e (if m then record { pointer = pointer; next = high_of pointers None } ∷ S else S)))
      by true is rest =
          subst (λ h. all (blocks level c ++ others)
          ≡ shown (meets level (child_of level e pointer h) ++ flat_map (meets level) (starts_of level e S)))
          (sym (or_high_is pointers e.high))
          (shown_then (blocks level c) others (meets level c) (flat_map (meets level) (starts_of level e S)) (each c refl of_tree there) rest)
      by false is rest =
          let a = accepts Free (trail_below level sup old) sup old d here in
          let block : IsAs c d = record { tree = as_tree; address = refl; generation = refl; level = refl } in
          let same : IsSame old c d = record { block = block; low = rw a.is (low_fits sup old d a) } in
          let quiet : Visits Quiet (is_now level c) =
          (calm A pairs marked moved under sup old new level c d refl refl same at
          (still_kept pairs marked moved under sup old new moving level d refl is here) there).quiet in
          all_append (blocks level c) others
          ∙ (ap (λ l. l ++ all others) (none_shown (blocks level c) (comes_from Quiet sup new c quiet).each) ∙ rest)

  -- what is met below kept blocks of a tree that are no leaves
  abbrev pub Steps : ℕ → Type 0
  Steps tree = (level : ℕ) → AreShown tree level → (e : Expect) → e.level ≡ suc level → e.tree ≡ tree → (bytes : List ℕ) → new e.address ≡ Ok bytes
      → Visits A (trails (is_now level) (children_of level e (pointers_of bytes))) → (last : Key) → K e ≡ Some last
      → all (flat_map (blocks level) (children_of level e (pointers_of bytes))) ≡ shown (flat_map (meets level) (anew_of under e))

  pub shown_at : (tree : ℕ) → Steps tree → (level : ℕ) → AreShown tree level
  unfolding visited_from stops_below trail_below
  shown_at tree steps zero e at of_tree more = shown_or e (K e) [] [] [] refl (λ is. refl) (λ last is. refl)
  shown_at tree steps (suc level) e at of_tree more =
      let n = accepts A (trail_below (suc level) sup new) sup new e more in
      let rest : Visits A (trails (is_now level) (children_of level e (pointers_of n.bytes))) =
      rest_of A (trail_below (suc level) sup new) sup new e n more in
      let children = children_of level e (pointers_of n.bytes) in
      let block = block_is sup new e n in
      let next : e.level - 1 ≡ level = omega (arith, at) in
      subst (λ n. all (e ∷ flat_map (blocks level) (children_in level e (block_in new sup.fsid e)))
      ≡ shown (stops_or e (flat_map (meets level) (anew_of under e)) (flat_map (meets level) (children_in n e (block_in new sup.fsid e))) (K e)))
      (sym next)
      (subst (λ block. all (e ∷ flat_map (blocks level) (children_in level e block))
      ≡ shown (stops_or e (flat_map (meets level) (anew_of under e)) (flat_map (meets level) (children_in level e block)) (K e))) (sym block)
      (shown_or e (K e) (flat_map (blocks level) children) (flat_map (meets level) children) (flat_map (meets level) (anew_of under e)) refl
      (λ is. shown_children tree level (shown_at tree steps level) e of_tree (pointers_of n.bytes) rest)
      (λ last is. steps level (shown_at tree steps level) e at of_tree n.bytes n.is rest last is)))

  -- of a tree of which none is kept
  pub none_kept : (tree : ℕ) → ((e : Expect) → e.tree ≡ tree → K e ≡ None) → Steps tree
  none_kept tree none level each e at of_tree bytes is more last stays = never (K e) (none e of_tree) stays
    where
      never : (k : Option Key) → k ≡ None → k ≡ Some last
          → all (flat_map (blocks level) (children_of level e (pointers_of bytes))) ≡ shown (flat_map (meets level) (anew_of under e))
      never k is other = absurd (cc)

  module _ (moving : Marks) (touched : ℕ → Bool) (root : Expect)
      (known : Visits (Known pairs marked moved under sup old new) (trail_of sup old root))
      (only : (address : ℕ) → IfSome (pairs root.tree address) (λ live. VisitsOne (IsKnown sup old root.tree address live) (trail_of sup old root)))
      (marks : Visits (IsRight pairs marked moved under sup old new marked touched) (trail_of sup old root))
      (moves : Visits (Moves pairs marked moved under sup old new moving) (trail_of sup old root))
      (alike : AreUntouched touched moved old new) where
    abbrev pub Free : Expect → Type 0
    Free = IsFree pairs marked moved under sup old new moving

    -- what is met below a kept block that is no leaf
    shown_kept : Steps root.tree
    unfolding trail_below
    shown_kept level each e at of_tree bytes is more last stays =
        let w = was_visited pairs marked moved under sup old new moving touched root e last of_tree known only marks moves alike stays in
        let v = w.v in
        let v_level : v.level ≡ suc level = sym w.same.block.level ∙ at in
        let free : Visits Free (was (suc level) v) = subst (λ n. Visits Free (was n v)) v_level w.all in
        let here : Free v = here_of Free (trail_below (suc level) sup old) sup old v free in
        let a = accepts Free (trail_below (suc level) sup old) sup old v free in
        let same : a.bytes ≡ bytes = bytes_same a.bytes bytes (new v.address) (new e.address) (here.alike w.still ∙ a.is) is
        (ap new (sym w.same.block.address)) in
        let rest : Visits Free (trails (was level) (children_of level v (pointers_of bytes))) =
        subst (λ bs. Visits Free (trails (was level) (children_of level v (pointers_of bs)))) same
        (rest_of Free (trail_below (suc level) sup old) sup old v a free) in
        let lists : under e.tree e.address ≡ starts_in (moving v.tree) (pointers_of bytes) =
        ap (λ t. under t e.address) w.same.block.tree
        ∙ (ap (under v.tree) w.same.block.address
        ∙ (here.lists
        ∙ (ap (λ n. starts_at n (moving v.tree) (old v.address)) v_level
        ∙ (ap (starts_at (suc level) (moving v.tree)) a.is ∙ ap (λ bs. starts_in (moving v.tree) (pointers_of bs)) same)))) in
        let next : e.level - 1 ≡ level = omega (arith, at) in
        shown_starts moving root.tree level each e v of_tree w.same.block.tree w.same.block.address (pointers_of bytes) rest more
        ∙ ap (λ l. shown (flat_map (meets level) l))
        (ap (starts_of level e) (sym lists) ∙ ap (λ n. starts_of n e (under e.tree e.address)) (sym next))

pub shows : MovedLaw
shows pairs marked moving touched moved under sup old new root now stands marks moves lists alike of_tree fine =
    let Kn = Known pairs marked moved under sup old new in
    let known : Visits Kn (trail_of sup old root) = visits_from Kn sup old root stands.each in
    let deep : Visits (Below Kn sup old) (trail_of sup old root) = within Kn sup old root known in
    let right : (m : Marks) (test : ℕ → Bool) → AreMarked m test sup old root
    → Visits (IsRight pairs marked moved under sup old new m test) (trail_of sup old root) =
    λ m test comes. visits_map (λ v. Below Kn sup old v × (m v.tree v.address ≡ comes_to test sup old v))
    (IsRight pairs marked moved under sup old new m test) (trail_of sup old root)
    (λ v h. h.1 ∙ visits_any_from Kn test sup old v h.0)
    (visits_both (Below Kn sup old) (λ v. m v.tree v.address ≡ comes_to test sup old v) (trail_of sup old root) deep
    (visits_from (λ v. m v.tree v.address ≡ comes_to test sup old v) sup old root comes)) in
    let listed = visits_from (λ v. under v.tree v.address ≡ starts_at v.level (moving v.tree) (old v.address)) sup old root lists in
    let any : Visits (Any sup new) (trail_of sup new now) =
    visits_from (Any sup new) sup new now (record { fine = fine; each = any_each sup new (visited sup new now) }) in
    shown_at pairs marked moved under sup old new root.tree
    (shown_kept pairs marked moved under sup old new moving touched root known
    (λ address. if_some_map (pairs root.tree address) (λ live. OneOf (IsKnown sup old root.tree address live) (visited sup old root))
    (λ live. VisitsOne (IsKnown sup old root.tree address live) (trail_of sup old root))
    (λ live one. visits_one_from (IsKnown sup old root.tree address live) Kn sup old root known one) (stands.only address))
    (right marked touched marks)
    (visits_both (IsRight pairs marked moved under sup old new moving moved)
    (λ v. under v.tree v.address ≡ starts_at v.level (moving v.tree) (old v.address)) (trail_of sup old root) (right moving moved moves) listed)
    alike)
    now.level now refl of_tree any
