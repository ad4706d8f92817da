-- The walk that keeps blocks tells the greatest key of each block that it comes to.
use Rattle.std.proofs.Common.{◌≡◌, ℕ, zero, suc, ◌+◌, ◌-◌, ◌==◌, Bool, true, false, ◌&&◌, ◌||◌, List, [], ◌∷◌, ◌++◌, refl, ap, sym, subst, ◌∙◌, arith, if◌then◌else◌}
use Rattle.std.proofs.lemmas.List.{map-append}
use Rattle.std.proofs.lemmas.Bool.{eqb-true}
use Rattle.std.proofs.lemmas.Bool.Decides.{nat_tests}
use Rattle.std.specs.Prelude.{Option, Some, None, Ok, map}
use Rattle.std.specs.List.{flat_map}
use Rattle.std.specs.Result.{IsOk}
use Rattle.tree_laws.proofs.Meeting.{block_is}
use Rattle.walk_laws.specs.WalkOrder.{Ascend}
use Rattle.walk_laws.proofs.Blocks.{block_keys}
use Rattle.verdict.specs.Rules.{no_key}
use Rattle.verdict.specs.declared.key.Key.{Key}
use Rattle.super_reader.specs.declared.Super.{Super}
use Rattle.live_index.specs.Pairs.{Pairs}
use Rattle.node_reader.specs.Layout.{count_of, entry_key, entry_size, item_of, pointers_of}
use Rattle.node_reader.specs.Places.{each_from}
use Rattle.node_reader.specs.Stored.{Stored, block_in}
use Rattle.node_reader.specs.declared.expect.Expect.{Expect}
use Rattle.node_reader.specs.declared.expect.Pointer.{Pointer}
use Rattle.records.specs.Walk.{child_of, children_of, high_of, walk_of}
use Rattle.records.specs.WalkLaw.{children_in, visited}
use Rattle.tree_laws.specs.Ending.{Ends, Lasts, before_ends, each_ends, end_at, ends_and, ends_below, ends_or, key_or, last_item, none_more, own_last, read_ends}
use Rattle.tree_laws.specs.EndsLaw.{EndsLaw, all_ended, ended_at, next_or, walked_and, walked_below}
use Rattle.tree_laws.specs.Keeping.{AreListed, AreMarked, AreUntouched, IsKnown, Marks, OneOf, Stands, Under, anew_of, comes_to, kept_of, last_in, start_of, starts_at, starts_in, starts_of}
use Rattle.tree_laws.specs.Known.{is_last_walked, last_known, last_of}
use Rattle.tree_laws.specs.LastLaw.{last_anew}
use Rattle.tree_laws.specs.Skips.{Kept, is_below, next_of, nothing}
use Rattle.tree_laws.specs.SkipLaw.{IsSound}
use Rattle.tree_laws.specs.declared.told.Start.{Start}
use Rattle.tree_laws.proofs.Accepted.{Accepts, accepts, keys_at, last_decides, visit_of, walk_accepted}
use Rattle.tree_laws.proofs.Bounds.{below_self, keys_below, upto}
use Rattle.tree_laws.proofs.Calming.{bytes_same, greatest_of, item_keys, keys_after, keys_in, last_walk}
use Rattle.tree_laws.proofs.KeptLast.{last_alone, last_later, node_own, lasts}
use Rattle.tree_laws.proofs.KeptLast as kept_last
use Rattle.tree_laws.proofs.Lasting.{items_below, items_block, items_upto, last_items, lasting, leaf_keys}
use Rattle.tree_laws.proofs.MeetingStops.{no_walk}
use Rattle.tree_laws.proofs.Ordering.{one_key}
use Rattle.tree_laws.proofs.Sharing.{IsFree, IsRight, Known, found, if_some_map, keeps, was_visited}
use Rattle.tree_laws.proofs.Sifting.{or_high_is}
use Rattle.tree_laws.proofs.Tables.{Any, any_each}
use Rattle.tree_laws.proofs.Trails.{Trail, trail_and, trail_below, trail_of, trails}
use Rattle.tree_laws.proofs.Visiting.{Visits, VisitsOne, comes_from, visits_any_from, visits_both, visits_from, visits_map, visits_one_from, visits_then_first, visits_then_later}
use Rattle.tree_laws.proofs.Within.{Below, here_of, rest_of, upto_block, within}

-- keys that are below the same bounds are one
same_bounds : (a b : Key) → ((high : Option Key) → is_below a high ≡ is_below b high) → a ≡ b
same_bounds a b same = one_key a b (same (Some b) ∙ below_self b) (sym (same (Some a)) ∙ below_self a)

no_leaf : (level n : ℕ) → level ≡ suc n → (level == 0) ≡ false
no_leaf level n is = rw is (some n)
  where
    some : (n : ℕ) → (suc n == 0) ≡ false
    some n = grind (arith, nat_tests)

decides : (entry : ℕ → Key) (n : ℕ) (high : Option Key) → (n == 0) ≡ false → Ascend (each_from entry 0 n)
    → keys_below (each_from entry 0 n) high ≡ is_below (entry (n - 1)) high
decides entry zero high some ascend = absurd (cc)
decides entry (suc n) high some ascend =
    let last : 0 + n ≡ suc n - 1 = omega arith in
    last_decides entry 0 n high ascend ∙ ap (λ i. is_below (entry i) high) last

no_keys : (entry : ℕ → Key) (n : ℕ) (high : Option Key) → n ≡ 0 → keys_below (each_from entry 0 n) high ≡ true
unfolding each_from
no_keys entry n high is = rw is refl

and_nil : (b : Bool) → (b && true) ≡ b
and_nil true = refl
and_nil false = refl

module _ (P : Expect → Type 0) (sup : Super) (stored : Stored) where
  items_under : (level : ℕ) (e : Expect) (bytes : List ℕ) (high : Option Key) → level ≡ 0
      → items_upto (trail_below level sup stored e bytes) high ≡ true
  unfolding trail_below
  items_under zero e bytes high is = refl
  items_under (suc level) e bytes high is = absurd (cc)

  upto_under : (level : ℕ) (e : Expect) (bytes : List ℕ) (high : Option Key) → level ≡ 0 → upto (trail_below level sup stored e bytes) high ≡ true
  unfolding trail_below
  upto_under zero e bytes high is = refl
  upto_under (suc level) e bytes high is = absurd (cc)

  -- the greatest key of a leaf is that of its last item
  leaf_last : (e : Expect) (a : Accepts sup stored e) → e.level ≡ 0 → Visits P (trail_of sup stored e)
      → last_in (walk_of sup stored e) ≡ last_item a.bytes
  unfolding last_item
  leaf_last e a leaf all = by (count_of a.bytes == 0) refl
    where
      rest : Visits P (trail_below e.level sup stored e a.bytes)
      rest = rest_of P (trail_below e.level sup stored) sup stored e a all

      none : count_of a.bytes ≡ 0 → (high : Option Key) → is_below (last_in (walk_of sup stored e)) high ≡ is_below no_key high
      none count high =
          let own : items_below a.entries high ≡ true = leaf_keys sup e a.bytes a.entries high leaf a.has
          ∙ no_keys (entry_key a.bytes (entry_size zero)) (count_of a.bytes) high count in
          let whole : items_upto (trail_of sup stored e) high ≡ true =
          items_block P (trail_below e.level sup stored) sup stored e a high rest
          ∙ ap (λ b. b && items_upto (trail_below e.level sup stored e a.bytes) high) own ∙ items_under e.level e a.bytes high leaf in
          last_items P sup stored e high all ∙ ap (λ b. b && is_below no_key high) whole

      size : entry_size e.level ≡ 25
      size = ap entry_size leaf

      many : (count_of a.bytes == 0) ≡ false → (high : Option Key)
          → is_below (last_in (walk_of sup stored e)) high ≡ is_below (item_of a.bytes (count_of a.bytes - 1)).key high
      many some high =
          lasting P sup stored e a high some all
          ∙ upto_block P (trail_below e.level sup stored) sup stored e a high rest
          ∙ ap (λ b. keys_below (keys_at e.level a.bytes) high && b) (upto_under e.level e a.bytes high leaf)
          ∙ and_nil (keys_below (keys_at e.level a.bytes) high)
          ∙ decides (entry_key a.bytes (entry_size e.level)) (count_of a.bytes) high some (block_keys a.bytes sup.fsid e a.passes).ascend
          ∙ ap (λ n. is_below (entry_key a.bytes n (count_of a.bytes - 1)) high) size

      by : (b : Bool) → (count_of a.bytes == 0) ≡ b
          → last_in (walk_of sup stored e) ≡ (if b then no_key else (item_of a.bytes (count_of a.bytes - 1)).key)
      by true is = same_bounds (last_in (walk_of sup stored e)) no_key (none (eqb-true (count_of a.bytes) 0 is))
      by false is = same_bounds (last_in (walk_of sup stored e)) (item_of a.bytes (count_of a.bytes - 1)).key (many is)

module _ (pairs : Pairs) (marked moving : Marks) (touched moved : ℕ → Bool) (under : Under) (sup : Super) (old new : Stored) (root : Expect)
    (stands : Stands pairs sup old root) (marks : AreMarked marked touched sup old root) (moves : AreMarked moving moved sup old root)
    (listed : AreListed under moving sup old root) (alike : AreUntouched touched moved old new) where
  abbrev pub K : Kept
  K = kept_of pairs marked moved under

  abbrev pub T : Lasts
  T = last_of pairs under

  abbrev pub A : Expect → Type 0
  A = Any sup new

  abbrev pub is_now : ℕ → Expect → Trail
  is_now level = trail_and (trail_below level sup new) sup new

  abbrev pub full : List Expect → Key → Ends
  full es last = all_ended sup new es last

  abbrev pub greatest : Expect → Key
  greatest e = last_in (walk_of sup new e)

  abbrev pub E : ℕ → Expect → Ends
  E level = ends_and K (anew_of under) T (ends_below K (anew_of under) T level sup new) sup new

  abbrev pub W : ℕ → Expect → List Expect
  W level = walked_and K (anew_of under) (walked_below K (anew_of under) level sup new) sup new

  abbrev pub AreEnded : ℕ → Type 0
  AreEnded level = (c : Expect) → c.level ≡ level → c.tree ≡ root.tree → Visits A (is_now level c) → E level c ≡ full (W level c) (greatest c)

  -- one block before others
  ended_then : (level : ℕ) (c : Expect) (es ws : List Expect) (key last : Key) → E level c ≡ full (W level c) (greatest c)
      → each_ends (E level) (greatest c) es ≡ full ws last → each_ends (E level) key (c ∷ es) ≡ full (W level c ++ ws) last
  ended_then level c es ws key last first rest =
      ap (λ (ends : Ends). before_ends ends.blocks (each_ends (E level) ends.last es)) first
      ∙ ap (before_ends (map (ended_at sup new) (W level c))) rest
      ∙ ap (λ blocks. record { blocks = blocks; last = last }) (sym (map-append (ended_at sup new) (W level c) ws))

  abbrev pub last_child : ℕ → Expect → List Pointer → Key → Key
  last_child level e [] key = key
  last_child level e (pointer ∷ pointers) key = last_child level e pointers (greatest (child_of level e pointer (high_of pointers e.high)))

  -- the children of a block that is read
  ended_children : (level : ℕ) → AreEnded level → (e : Expect) → e.tree ≡ root.tree → (pointers : List Pointer) (key : Key)
      → Visits A (trails (is_now level) (children_of level e pointers))
      → each_ends (E level) key (children_of level e pointers) ≡ full (flat_map (W level) (children_of level e pointers))
      (last_child level e pointers key)
  ended_children level each e of_tree [] key more = refl
  ended_children level each e of_tree (pointer ∷ pointers) key more =
      let c = child_of level e pointer (high_of pointers e.high) in
      let rest = children_of level e pointers in
      ended_then level c rest (flat_map (W level) rest) key (last_child level e pointers (greatest c))
      (each c refl of_tree (visits_then_first A (is_now level c) (trails (is_now level) rest) more))
      (ended_children level each e of_tree pointers (greatest c) (visits_then_later A (is_now level c) (trails (is_now level) rest) more))

  child_last : (level : ℕ) (e : Expect) (pointer : Pointer) (pointers : List Pointer) (key : Key)
      → Visits A (trails (is_now level) (children_of level e (pointer ∷ pointers)))
      → last_child level e (pointer ∷ pointers) key ≡ kept_last.last_of A sup new level e (pointer ∷ pointers)
  child_last level e pointer [] key more = last_walk sup new (child_of level e pointer e.high) ∙ sym (last_alone A sup new level e pointer more)
  child_last level e pointer (next ∷ pointers) key more =
      let c = child_of level e pointer (Some next.key) in
      child_last level e next pointers (greatest c)
      (visits_then_later A (is_now level c) (trails (is_now level) (children_of level e (next ∷ pointers))) more)
      ∙ sym (last_later A sup new level e pointer next pointers more)

  children_last : (level : ℕ) (e : Expect) (pointers : List Pointer) → Visits A (trails (is_now level) (children_of level e pointers))
      → last_child level e pointers no_key ≡ kept_last.last_of A sup new level e pointers
  children_last level e [] more = refl
  children_last level e (pointer ∷ pointers) more = child_last level e pointer pointers no_key more

  node_last : (n : ℕ) (e : Expect) → e.level ≡ suc n → (a : Accepts sup new e) → Visits A (is_now (suc n) e)
      → greatest e ≡ kept_last.last_of A sup new n e (pointers_of a.bytes)
  unfolding trail_below
  node_last n e at a more =
      let none : item_keys (a.entries ++ []) ≡ [] = node_own sup e a.bytes a.entries (no_leaf e.level n at) a.has in
      last_walk sup new e
      ∙ (ap (λ m. greatest_of (keys_in (is_now m e))) at
      ∙ (ap greatest_of (ap keys_in (walk_accepted (trail_below (suc n) sup new) sup new e a)
      ∙ keys_after A (visit_of e a.bytes a.entries ∷ []) (trail_below (suc n) sup new e a.bytes) (rest_of A (trail_below
      (suc n) sup new) sup new e a more))
      ∙ ap (λ keys. greatest_of (keys ++ keys_in (trails (is_now n) (children_of n e (pointers_of a.bytes))))) none))

  abbrev pub last_start : ℕ → Expect → List Start → Key → Key
  last_start level e [] key = key
  last_start level e (start ∷ starts) key = last_start level e starts (greatest (start_of level e start))

  -- those that are walked below a kept one
  ended_starts : (level : ℕ) → AreEnded level → (e : Expect) → e.tree ≡ root.tree → (test : ℕ → Bool) (pointers : List Pointer) (key : Key)
      → Visits A (trails (is_now level) (children_of level e pointers))
      → each_ends (E level) key (starts_of level e (starts_in test pointers))
      ≡ full (flat_map (W level) (starts_of level e (starts_in test pointers))) (last_start level e (starts_in test pointers) key)
  ended_starts level each e of_tree test [] key more = refl
  ended_starts level each e of_tree test (pointer ∷ pointers) key more =
      by (test pointer.address) (λ k. ended_starts level each e of_tree test pointers k
      (visits_then_later A (is_now level (child_of level e pointer (high_of pointers e.high))) (trails (is_now level)
      (children_of level e pointers)) more))
    where
      c : Expect
      c = child_of level e pointer (high_of pointers e.high)

      s : Start
      s = record { pointer = pointer; next = high_of pointers None }

      S : List Start
      S = starts_in test pointers

      here : Visits A (is_now level (start_of level e s))
      here = subst (λ h. Visits A (is_now level (child_of level e pointer h))) (sym (or_high_is pointers e.high))
          (visits_then_first A (is_now level c) (trails (is_now level) (children_of level e pointers)) more)

      by : (m : Bool) → ((k : Key) → each_ends (E level) k (starts_of level e S)
          ≡ full (flat_map (W level) (starts_of level e S)) (last_start level e S k))
          → each_ends (E level) key (starts_of level e (if m then s ∷ S else S))
          ≡ full (flat_map (W level) (starts_of level e (if m then s ∷ S else S))) (last_start level e (if m then s ∷ S else S) key)
      by true rest =
          ended_then level (start_of level e s) (starts_of level e S) (flat_map (W level) (starts_of level e S)) key (last_start level e S
          (greatest (start_of level e s)))
          (each (start_of level e s) refl of_tree here) (rest (greatest (start_of level e s)))
      by false rest = rest key

  -- the last of them has the greatest key where no pointer follows it
  last_as : (level : ℕ) (e : Expect) (test : ℕ → Bool) (pointers : List Pointer) (was key : Key)
      → key_or (if is_last_walked (starts_in test pointers) then None else Some was) (last_start level e (starts_in test pointers) key)
      ≡ last_anew sup new level e (starts_in test pointers) was
  last_as level e test [] was key = refl
  last_as level e test (pointer ∷ []) was key = by (test pointer.address)
    where
      by : (m : Bool) → key_or (if is_last_walked (if m then record { pointer = pointer; next = None } ∷ [] else []) then None else Some was)
          (last_start level e (if m then record { pointer = pointer; next = None } ∷ [] else []) key)
          ≡ last_anew sup new level e (if m then record { pointer = pointer; next = None } ∷ [] else []) was
      by true = refl
      by false = refl
  last_as level e test (pointer ∷ next ∷ pointers) was key = by (test pointer.address) (λ k. last_as level e test (next ∷ pointers) was k)
    where
      s : Start
      s = record { pointer = pointer; next = Some next.key }

      S : List Start
      S = starts_in test (next ∷ pointers)

      by : (m : Bool) → ((k : Key) → key_or (if is_last_walked S then None else Some was) (last_start level e S k) ≡ last_anew sup new level e S was)
          → key_or (if is_last_walked (if m then s ∷ S else S) then None else Some was) (last_start level e (if m then s ∷ S else S) key)
          ≡ last_anew sup new level e (if m then s ∷ S else S) was
      by true rest = rest (greatest (start_of level e s))
      by false rest = rest key

  -- the greatest key of a kept block
  kept_greatest : (e : Expect) (last : Key) → e.tree ≡ root.tree → IsOk (walk_of sup new e) → K e ≡ Some last → (test : ℕ
      → Bool) (pointers : List Pointer)
      → under e.tree e.address ≡ starts_in test pointers → (key : Key)
      → key_or (T e) (last_start (e.level - 1) e (starts_in test pointers) key) ≡ greatest e
  unfolding kept_of last_of
  kept_greatest e last of_tree fine stays test pointers is key =
      let S = starts_in test pointers in
      let f = found e (under e.tree e.address) last (marked e.tree e.address || moved e.address) (pairs e.tree e.address) stays in
      let end = last_start (e.level - 1) e S key in
      ap (λ starts. key_or (if is_last_walked starts then None else last_known (pairs e.tree e.address)) end) is
      ∙ ap (λ entry. key_or (if is_last_walked S then None else last_known entry) end) f.known
      ∙ last_as (e.level - 1) e test pointers f.live.last key
      ∙ sym (lasts pairs marked moving touched moved under sup old new root e last f.live stands marks moves listed alike of_tree fine stays f.known
      ∙ ap (λ starts. last_anew sup new (e.level - 1) e starts f.live.last) is)

  abbrev pub Kn : Expect → Type 0
  Kn = Known pairs marked moved under sup old new

  known : Visits Kn (trail_of sup old root)
  known = visits_from Kn sup old root stands.each

  right : (m : Marks) (test : ℕ → Bool) → AreMarked m test sup old root
      → Visits (IsRight pairs marked moved under sup old new m test) (trail_of sup old root)
  right m test comes =
      visits_map (λ v. Below Kn sup old v × (m v.tree v.address ≡ comes_to test sup old v))
      (IsRight pairs marked moved under sup old new m test) (trail_of sup old root)
      (λ v h. h.1 ∙ visits_any_from Kn test sup old v h.0)
      (visits_both (Below Kn sup old) (λ v. m v.tree v.address ≡ comes_to test sup old v) (trail_of sup old root) (within Kn sup old root known)
      (visits_from (λ v. m v.tree v.address ≡ comes_to test sup old v) sup old root comes))

  -- what is walked below a kept block
  kept_lists : (level : ℕ) (e : Expect) (last : Key) → e.level ≡ level → e.tree ≡ root.tree → K e ≡ Some last → (bytes : List ℕ)
      → new e.address ≡ Ok bytes
      → (tree : ℕ) × (under e.tree e.address ≡ starts_at level (moving tree) (Ok bytes))
  kept_lists level e last at of_tree stays bytes is =
      let F = IsFree pairs marked moved under sup old new moving in
      let w = was_visited pairs marked moved under sup old new moving touched root e last of_tree known
      (λ address. if_some_map (pairs root.tree address) (λ live. OneOf (IsKnown sup old root.tree address live) (visited sup old root))
      (λ live. VisitsOne (IsKnown sup old root.tree address live) (trail_of sup old root))
      (λ live one. visits_one_from (IsKnown sup old root.tree address live) Kn sup old root known one) (stands.only address))
      (right marked touched marks)
      (visits_both (IsRight pairs marked moved under sup old new moving moved)
      (λ v. under v.tree v.address ≡ starts_at v.level (moving v.tree) (old v.address)) (trail_of sup old root) (right moving moved moves)
      (visits_from (λ v. under v.tree v.address ≡ starts_at v.level (moving v.tree) (old v.address)) sup old root listed))
      alike stays in
      let v = w.v in
      let v_level : v.level ≡ level = sym w.same.block.level ∙ at in
      let here : F v = here_of F (trail_below v.level sup old) sup old v w.all in
      let a = accepts F (trail_below v.level sup old) sup old v w.all in
      let same : a.bytes ≡ bytes = bytes_same a.bytes bytes (new v.address) (new e.address) (here.alike w.still
      ∙ a.is) is (ap new (sym w.same.block.address)) in (
        v.tree,
        ap (λ t. under t e.address) w.same.block.tree
            ∙ (ap (under v.tree) w.same.block.address
            ∙ (here.lists
            ∙ (ap (λ n. starts_at n (moving v.tree) (old v.address)) v_level
            ∙ (ap (starts_at level (moving v.tree)) a.is ∙ ap (λ bs. starts_at level (moving v.tree) (Ok bs)) same)))),
      )

  -- a block, where what is below it is told
  ended_block : (e : Expect) (below : Key → List Expect → Ends) (walked : List Expect → List Expect) (bytes : List ℕ) (k : Option Key) → K e ≡ k
      → e.tree ≡ root.tree → block_in new sup.fsid e ≡ Ok bytes → IsOk (walk_of sup new e)
      → (k ≡ None → below (own_last e bytes) (next_of e bytes) ≡ full (walked (next_of e bytes)) (greatest e))
      → ((last : Key) → k ≡ Some last → (end : Key) × (below no_key (anew_of under e) ≡ full (walked (anew_of under e)) end) × (key_or (T e) end
      ≡ greatest e))
      → ends_and K (anew_of under) T below sup new e ≡ full (walked_and K (anew_of under) walked sup new e) (greatest e)
  ended_block e below walked bytes None is of_tree read fine new_one kept_one =
      ap (ends_or T e (below no_key (anew_of under e)) (read_ends e below (block_in new sup.fsid e))) is
      ∙ ap (read_ends e below) read
      ∙ ap (λ (ends : Ends). end_at e ends.last ends.blocks) (new_one refl)
      ∙ ap (λ blocks. record { blocks = blocks; last = greatest e }) (sym (map-append (ended_at sup new) (walked (next_of e bytes)) (e ∷ [])))
      ∙ sym (ap (λ es. full (walked es ++ (e ∷ [])) (greatest e))
      (ap (next_or (anew_of under e) (children_in (e.level - 1) e (block_in new sup.fsid e))) is ∙ ap (children_in (e.level - 1) e) read))
  ended_block e below walked bytes (Some last) is of_tree read fine new_one kept_one =
      let found = kept_one last refl in
      ap (ends_or T e (below no_key (anew_of under e)) (read_ends e below (block_in new sup.fsid e))) is
      ∙ ap (λ b. if b then end_at e (key_or (T e) (below no_key (anew_of under e)).last) (below no_key
      (anew_of under e)).blocks else none_more no_key) (high (is_below last e.high) refl)
      ∙ ap (λ (ends : Ends). end_at e (key_or (T e) ends.last) ends.blocks) found.1
      ∙ ap (λ key. end_at e key (map (ended_at sup new) (walked (anew_of under e)))) found.2
      ∙ ap (λ blocks. record { blocks = blocks; last = greatest e }) (sym (map-append (ended_at sup new) (walked (anew_of under e)) (e ∷ [])))
      ∙ sym (ap (λ es. full (walked es ++ (e ∷ [])) (greatest e)) (ap (next_or (anew_of under e) (children_in (e.level - 1) e
      (block_in new sup.fsid e))) is))
    where
      sound : IsSound e.tree K nothing (anew_of under) sup new
      sound = subst (λ t. IsSound t K nothing (anew_of under) sup new) (sym of_tree)
          (keeps pairs marked moving touched moved under sup old new root stands marks moves listed alike)

      high : (b : Bool) → is_below last e.high ≡ b → is_below last e.high ≡ true
      high true below_high = below_high
      high false below_high = absurd (no_walk K (anew_of under) sup new e last sound is below_high fine)

  fine_at : (level : ℕ) (e : Expect) → e.level ≡ level → Visits A (is_now level e) → IsOk (walk_of sup new e)
  fine_at level e at more = (comes_from A sup new e (subst (λ n. Visits A (is_now n e)) (sym at) more)).fine

  ends_at : (level : ℕ) → AreEnded level
  unfolding ends_below walked_below trail_below
  ends_at zero e at of_tree more =
      let a = accepts A (trail_below zero sup new) sup new e more in
      let fine = fine_at zero e at more in
      ended_block e (ends_below K (anew_of under) T zero sup new) (walked_below K (anew_of under) zero sup new) a.bytes (K e) refl of_tree
      (block_is sup new e a) fine
      (λ is. ap none_more (ap (λ n. if n == 0 then last_item a.bytes else no_key) at
      ∙ sym (leaf_last A sup new e a at (subst (λ n. Visits A (is_now n e)) (sym at) more))))
      (λ last stays. (
        no_key,
        refl,
        kept_greatest e last of_tree fine stays (moving e.tree) [] (kept_lists zero e last at of_tree stays a.bytes a.is).1 no_key,
      ))
  ends_at (suc n) e at of_tree more =
      let a = accepts A (trail_below (suc n) sup new) sup new e more in
      let fine = fine_at (suc n) e at more in
      let rest : Visits A (trails (is_now n) (children_of n e (pointers_of a.bytes))) = rest_of A (trail_below (suc n) sup new) sup new e a more in
      let next : n ≡ e.level - 1 = omega (arith, at) in
      ended_block e (ends_below K (anew_of under) T (suc n) sup new) (walked_below K (anew_of under) (suc n) sup new) a.bytes (K e) refl of_tree
      (block_is sup new e a) fine
      (λ is. subst (λ m. each_ends (E n) (own_last e a.bytes) (children_of m e (pointers_of a.bytes))
      ≡ full (flat_map (W n) (children_of m e (pointers_of a.bytes))) (greatest e)) next
      (ap (λ b. each_ends (E n) (if b then last_item a.bytes else no_key) (children_of n e (pointers_of a.bytes))) (no_leaf e.level n at)
      ∙ ended_children n (ends_at n) e of_tree (pointers_of a.bytes) no_key rest
      ∙ ap (full (flat_map (W n) (children_of n e (pointers_of a.bytes)))) (children_last n e (pointers_of a.bytes) rest
      ∙ sym (node_last n e at a more))))
      (λ last stays.
      let l = kept_lists (suc n) e last at of_tree stays a.bytes a.is in
      let S = starts_in (moving l.0) (pointers_of a.bytes) in
      let es : starts_of n e S ≡ anew_of under e = ap (λ m. starts_of m e S) next ∙ ap (starts_of (e.level - 1) e) (sym l.1) in (
        last_start (e.level - 1) e S no_key,
        subst (λ list. each_ends (E n) no_key list ≡ full (flat_map (W n) list) (last_start (e.level - 1) e S no_key)) es
            (ended_starts n (ends_at n) e of_tree (moving l.0) (pointers_of a.bytes) no_key rest
            ∙ ap (λ m. full (flat_map (W n) (starts_of n e S)) (last_start m e S no_key)) next),
        kept_greatest e last of_tree fine stays (moving l.0) (pointers_of a.bytes) l.1 no_key,
      ))

pub ends : EndsLaw
ends pairs marked moving touched moved under sup old new root now stands marks moves listed alike of_tree fine =
    ends_at pairs marked moving touched moved under sup old new root stands marks moves listed alike now.level now refl of_tree
    (visits_from (Any sup new) sup new now (record { fine = fine; each = any_each sup new (visited sup new now) }))
