-- The greatest key of a kept block as it is now.
use Rattle.std.proofs.Common.{◌≡◌, ℕ, zero, suc, ◌-◌, ◌==◌, Bool, true, false, ◌&&◌, List, [], ◌∷◌, ◌++◌, refl, ap, sym, subst, ◌∙◌, arith, if◌then◌else◌}
use Rattle.std.proofs.lemmas.Bool.Decides.{nat_tests}
use Rattle.std.proofs.lemmas.Grind.{common_steps}
use Rattle.std.specs.Prelude.{Option, Some, None, Ok, Err}
use Rattle.touched_blocks.proofs.Among.{some_same}
use Rattle.verdict.proofs.Lists.{append_none}
use Rattle.verdict.proofs.Truth.{and_parts}
use Rattle.verdict.specs.OnDisk.{key_below, key_same}
use Rattle.verdict.specs.Rules.{no_key}
use Rattle.verdict.specs.declared.key.Key.{Key}
use Rattle.super_reader.specs.declared.Super.{Super}
use Rattle.live_index.specs.Pairs.{Pairs}
use Rattle.live_index.specs.declared.live.Live.{Live}
use Rattle.node_reader.specs.Layout.{entry_key, entry_size, pointers_of}
use Rattle.node_reader.specs.Stored.{Stored}
use Rattle.node_reader.specs.declared.expect.Expect.{Expect}
use Rattle.node_reader.specs.declared.expect.Pointer.{Pointer}
use Rattle.records.specs.Seen.{Seen}
use Rattle.records.specs.Seen.Seen.{BlockSeen, PointerSeen, ItemSeen}
use Rattle.records.specs.Walk.{child_of, children_of, entry_records, high_of, pointer_records, walk_of}
use Rattle.records.specs.WalkLaw.{visited}
use Rattle.tree_laws.specs.Keeping.{AreMarked, IsKnown, Marks, OneOf, Under, comes_to, last_in, live_at, starts_at, starts_in}
use Rattle.tree_laws.specs.LastLaw.{LastLaw, last_anew}
use Rattle.tree_laws.specs.LivePairs.{greater_key}
use Rattle.tree_laws.specs.Skips.{is_below}
use Rattle.tree_laws.specs.declared.told.Start.{Start}
use Rattle.tree_laws.proofs.Accepted.{Accepts, IsAs, accepts, visit_of, walk_accepted}
use Rattle.tree_laws.proofs.Bounds.{and_assoc, keys_below, upto}
use Rattle.tree_laws.proofs.Calming.{accepts_again, calm, greatest_of, item_keys, keys_after, keys_in, keys_then, last_walk}
use Rattle.tree_laws.proofs.Lasting.{below_greater, items_below, items_of_upto, last_from, low_fits}
use Rattle.tree_laws.proofs.Lives.{ok_same}
use Rattle.tree_laws.proofs.Sharing.{IsFree, IsRight, Known, if_some_map, still_kept, was_visited}
use Rattle.tree_laws.proofs.Sifting.{IsSame}
use Rattle.tree_laws.proofs.Tables.{Any, any_each}
use Rattle.tree_laws.proofs.Trails.{Trail, all_own, trail_and, trail_below, trail_of, trails}
use Rattle.tree_laws.proofs.Visiting.{Visits, VisitsOne, visits_any_from, visits_both, visits_from, visits_map, visits_one_from, visits_then_first, visits_then_later}
use Rattle.tree_laws.proofs.Within.{Below, bounded, here_of, rest_of, within}

-- keys that are below one which a greatest key reaches
above : (x g b : Key) → key_below x b ≡ true → key_below g b ≡ false → key_below x g ≡ true
above x g b less more = grind (arith, common_steps)

greater_is : (x g : Key) → key_below x g ≡ true → greater_key x g ≡ g
greater_is x g less = rw less refl

dominated : (xs ys : List Key) (b : Key) → keys_below xs (Some b) ≡ true → key_below (greatest_of ys) b ≡ false
    → greatest_of (xs ++ ys) ≡ greatest_of ys
dominated [] ys b less more = refl
dominated (x ∷ xs) ys b less more =
    let two = and_parts (key_below x b) (keys_below xs (Some b)) less in
    ap (greater_key x) (dominated xs ys b two.1 more) ∙ greater_is x (greatest_of ys) (above x (greatest_of ys) b two.0 more)

greatest_below : (keys : List Key) (high : Option Key) → is_below (greatest_of keys) high ≡ (keys_below keys high && is_below no_key high)
greatest_below [] high = refl
greatest_below (key ∷ keys) high =
    below_greater key (greatest_of keys) high
    ∙ (ap (λ b. is_below key high && b) (greatest_below keys high)
    ∙ sym (and_assoc (is_below key high) (keys_below keys high) (is_below no_key high)))

keys_joined : (xs ys : List Key) (high : Option Key) → keys_below (xs ++ ys) high ≡ (keys_below xs high && keys_below ys high)
keys_joined [] ys high = refl
keys_joined (x ∷ xs) ys high =
    ap (λ b. is_below x high && b) (keys_joined xs ys high) ∙ sym (and_assoc (is_below x high) (keys_below xs high) (keys_below ys high))

stays_above : (xs ys : List Key) (b : Key) → key_below (greatest_of xs) b ≡ false → key_below (greatest_of (xs ++ ys)) b ≡ false
stays_above xs ys b is =
    greatest_below (xs ++ ys) (Some b)
    ∙ (ap (λ v. v && key_below no_key b) (keys_joined xs ys (Some b))
    ∙ less (keys_below xs (Some b)) (keys_below ys (Some b)) (key_below no_key b) (sym (greatest_below xs (Some b)) ∙ is))
  where
    less : (a b n : Bool) → (a && n) ≡ false → ((a && b) && n) ≡ false
    less true true n is = is
    less true false n is = refl
    less false b n is = refl

-- the keys of a trail's items are below what all its keys are
keys_of_items : (records : List Seen) (high : Option Key) → items_below records high ≡ keys_below (item_keys records) high
keys_of_items [] high = refl
keys_of_items (BlockSeen block ∷ more) high = keys_of_items more high
keys_of_items (PointerSeen one ∷ more) high = keys_of_items more high
keys_of_items (ItemSeen item ∷ more) high = ap (λ b. is_below item.key high && b) (keys_of_items more high)

keys_upto : (trail : Trail) (high : Option Key) → upto trail high ≡ true → keys_below (keys_in trail) high ≡ true
keys_upto (Err finding) high is = refl
keys_upto (Ok visits) high is = sym (keys_of_items (all_own visits) high) ∙ items_of_upto (Ok visits) high is

not_below : (l f q : Key) → key_same q f ≡ true → key_below l f ≡ false → key_below l q ≡ false
not_below l f q same is = grind (arith, common_steps)

-- the children of a node as they are stored: the greatest key is that of the last one
module _ (P : Expect → Type 0) (sup : Super) (stored : Stored) where
  abbrev pub of : ℕ → Expect → Trail
  of level = trail_and (trail_below level sup stored) sup stored

  abbrev pub last_of : ℕ → Expect → List Pointer → Key
  last_of level e pointers = greatest_of (keys_in (trails (of level) (children_of level e pointers)))

  reaches_child : (level : ℕ) (e : Expect) (pointer : Pointer) (high : Option Key) → Visits P (of level (child_of level e pointer high))
      → key_below (greatest_of (keys_in (of level (child_of level e pointer high)))) pointer.key ≡ false
  reaches_child level e pointer high all =
      let c = child_of level e pointer high in
      let a = accepts P (trail_below level sup stored) sup stored c all in
      let fits = low_fits sup stored c a in
      let least = entry_key a.bytes (entry_size level) 0 in
      not_below (greatest_of (keys_in (of level c))) least pointer.key fits.1
      (subst (λ key. key_below key least ≡ false) (last_walk sup stored c) (last_from P sup stored c a fits.0 all))

  reaches : (level : ℕ) (e : Expect) (pointer : Pointer) (pointers : List Pointer)
      → Visits P (trails (of level) (children_of level e (pointer ∷ pointers)))
      → key_below (last_of level e (pointer ∷ pointers)) pointer.key ≡ false
  reaches level e pointer pointers all =
      let c = child_of level e pointer (high_of pointers e.high) in
      let rest = trails (of level) (children_of level e pointers) in
      subst (λ keys. key_below (greatest_of keys) pointer.key ≡ false) (sym (keys_then P (of level c) rest all))
      (stays_above (keys_in (of level c)) (keys_in rest) pointer.key
      (reaches_child level e pointer (high_of pointers e.high) (visits_then_first P (of level c) rest all)))

  pub last_later : (level : ℕ) (e : Expect) (pointer next : Pointer) (pointers : List Pointer)
      → Visits P (trails (of level) (children_of level e (pointer ∷ next ∷ pointers)))
      → last_of level e (pointer ∷ next ∷ pointers) ≡ last_of level e (next ∷ pointers)
  last_later level e pointer next pointers all =
      let c = child_of level e pointer (Some next.key) in
      let rest = trails (of level) (children_of level e (next ∷ pointers)) in
      ap greatest_of (keys_then P (of level c) rest all)
      ∙ dominated (keys_in (of level c)) (keys_in rest) next.key
      (keys_upto (of level c) (Some next.key) (bounded P level sup stored c refl (visits_then_first P (of level c) rest all)))
      (reaches level e next pointers (visits_then_later P (of level c) rest all))

  pub last_alone : (level : ℕ) (e : Expect) (pointer : Pointer) → Visits P (trails (of level) (children_of level e (pointer ∷ [])))
      → last_of level e (pointer ∷ []) ≡ greatest_of (keys_in (of level (child_of level e pointer e.high)))
  last_alone level e pointer all =
      let c = child_of level e pointer e.high in
      ap greatest_of (keys_then P (of level c) (Ok []) all ∙ append_none (keys_in (of level c)))

-- a node has no items of its own
node_keys : (e : Expect) (pointers : List Pointer) → item_keys (pointer_records e pointers ++ []) ≡ []
node_keys e [] = refl
node_keys e (pointer ∷ pointers) = node_keys e pointers

pub node_own : (sup : Super) (e : Expect) (bytes : List ℕ) (entries : List Seen) → (e.level == 0) ≡ false
    → entry_records sup e bytes ≡ Ok entries → item_keys (entries ++ []) ≡ []
node_own sup e bytes entries node is =
    let here : Ok (pointer_records e (pointers_of bytes)) ≡ entry_records sup e bytes = rw node refl in
    let same : pointer_records e (pointers_of bytes) ≡ entries = ok_same (pointer_records e (pointers_of bytes)) entries (here ∙ is) in
    subst (λ es. item_keys (es ++ []) ≡ []) same (node_keys e (pointers_of bytes))

module _ (pairs : Pairs) (marked : Marks) (moved : ℕ → Bool) (under : Under) (sup : Super) (old new : Stored) (moving : Marks) where
  abbrev pub A : Expect → Type 0
  A = Any sup new

  abbrev pub Free : Expect → Type 0
  Free = IsFree pairs marked moved under sup old new moving

  abbrev pub was : ℕ → Expect → Trail
  was level = trail_and (trail_below level sup old) sup old

  abbrev pub is_now : ℕ → Expect → Trail
  is_now level = trail_and (trail_below level sup new) sup new

  -- the children of a kept block
  last_children : (level : ℕ) (e v : Expect) → e.tree ≡ v.tree → e.address ≡ v.address → (pointers : List Pointer)
      → Visits Free (trails (was level) (children_of level v pointers)) → Visits A (trails (is_now level) (children_of level e pointers))
      → last_of A sup new level e pointers
      ≡ last_anew sup new level e (starts_in (moving v.tree) pointers) (last_of Free sup old level v pointers)
  last_children level e v as_tree at [] free more = refl
  last_children level e v as_tree at (pointer ∷ []) free more = by (moving v.tree pointer.address) refl
    where
      c : Expect
      c = child_of level e pointer e.high

      d : Expect
      d = child_of level v pointer v.high

      here : Visits Free (was level d)
      here = visits_then_first Free (was level d) (Ok []) free

      by : (m : Bool) → moving v.tree pointer.address ≡ m
          → last_of A sup new level e (pointer ∷ [])
          ≡ last_anew sup new level e (if m then record { pointer = pointer; next = None } ∷ [] else []) (last_of Free sup old level v (pointer ∷ []))
      by true is = last_alone A sup new level e pointer more ∙ sym (last_walk sup new c)
      by false is =
          let a = accepts Free (trail_below level sup old) sup old d here in
          let block : IsAs c d = record { tree = as_tree; address = refl; generation = refl; level = refl } in
          let same : IsSame old c d = record { block = block; low = rw a.is (low_fits sup old d a) } in
          last_alone A sup new level e pointer more
          ∙ (ap greatest_of (calm A pairs marked moved under sup old new level c d refl refl same at
          (still_kept pairs marked moved under sup old new moving level d refl is here) (visits_then_first A (is_now level c) (Ok []) more)).keys
          ∙ sym (last_alone Free sup old level v pointer free))
  last_children level e v as_tree at (pointer ∷ next ∷ pointers) free more =
      last_later A sup new level e pointer next pointers more
      ∙ (last_children level e v as_tree at (next ∷ pointers) (visits_then_later Free (was level d) rest_old free)
      (visits_then_later A (is_now level c) rest_new more)
      ∙ (ap (last_anew sup new level e S) (sym (last_later Free sup old level v pointer next pointers free))
      ∙ by (moving v.tree pointer.address)))
    where
      c : Expect
      c = child_of level e pointer (Some next.key)

      d : Expect
      d = child_of level v pointer (Some next.key)

      rest_old : Trail
      rest_old = trails (was level) (children_of level v (next ∷ pointers))

      rest_new : Trail
      rest_new = trails (is_now level) (children_of level e (next ∷ pointers))

      S : List Start
      S = starts_in (moving v.tree) (next ∷ pointers)

      before : Key
      before = last_of Free sup old level v (pointer ∷ next ∷ pointers)

      by : (m : Bool) → last_anew sup new level e S before
          ≡ last_anew sup new level e (if m then record { pointer = pointer; next = Some next.key } ∷ S else S) before
      by true = refl
      by false = refl

  -- a kept block, by what is below it
  last_block : (level : ℕ) (e v : Expect) → e.level ≡ level → v.level ≡ level → IsAs e v → (a : Accepts sup old v) → new e.address ≡ Ok a.bytes
      → Visits Free (was level v) → Visits A (is_now level e)
      → last_in (walk_of sup new e) ≡ last_anew sup new (level - 1) e (starts_at level (moving v.tree) (Ok a.bytes)) (last_in (walk_of sup old v))
  unfolding accepts_again trail_below
  last_block level e v at_e at_v same a is free more = by level at_e at_v free more
    where
      own : List Key
      own = item_keys (a.entries ++ [])

      was_keys : (n : ℕ) → v.level ≡ n → Visits Free (was n v)
          → last_in (walk_of sup old v) ≡ greatest_of (own ++ keys_in (trail_below n sup old v a.bytes))
      was_keys n at all =
          last_walk sup old v
          ∙ (ap (λ m. greatest_of (keys_in (was m v))) at
          ∙ ap greatest_of (ap keys_in (walk_accepted (trail_below n sup old) sup old v a)
          ∙ keys_after Free (visit_of v a.bytes a.entries ∷ []) (trail_below n sup old v a.bytes)
          (rest_of Free (trail_below n sup old) sup old v a all)))

      now_accepts : (n : ℕ) → Visits A (is_now n e) → Accepts sup new e
      now_accepts n all = accepts_again sup old new e v a same is (accepts A (trail_below n sup new) sup new e all)

      now_keys : (n : ℕ) → e.level ≡ n → (all : Visits A (is_now n e))
          → last_in (walk_of sup new e) ≡ greatest_of (own ++ keys_in (trail_below n sup new e a.bytes))
      now_keys n at all =
          last_walk sup new e
          ∙ (ap (λ m. greatest_of (keys_in (is_now m e))) at
          ∙ ap greatest_of (ap keys_in (walk_accepted (trail_below n sup new) sup new e (now_accepts n all))
          ∙ keys_after A (visit_of e a.bytes a.entries ∷ []) (trail_below n sup new e a.bytes)
          (rest_of A (trail_below n sup new) sup new e (now_accepts n all) all)))

      by : (n : ℕ) → e.level ≡ n → v.level ≡ n → Visits Free (was n v) → Visits A (is_now n e)
          → last_in (walk_of sup new e) ≡ last_anew sup new (n - 1) e (starts_at n (moving v.tree) (Ok a.bytes)) (last_in (walk_of sup old v))
      by zero at_e at_v free more = now_keys zero at_e more ∙ sym (was_keys zero at_v free)
      by (suc n) at_e at_v free more =
          let node : (v.level == 0) ≡ false = rw at_v (some n) in
          let none : own ≡ [] = node_own sup v a.bytes a.entries node a.has in
          let first : Visits Free (trails (was n) (children_of n v (pointers_of a.bytes))) =
          rest_of Free (trail_below (suc n) sup old) sup old v a free in
          let later : Visits A (trails (is_now n) (children_of n e (pointers_of a.bytes))) =
          rest_of A (trail_below (suc n) sup new) sup new e (now_accepts (suc n) more) more in
          let S = starts_in (moving v.tree) (pointers_of a.bytes) in
          let level : n ≡ suc n - 1 = omega arith in
          now_keys (suc n) at_e more
          ∙ (ap (λ keys. greatest_of (keys ++ keys_in (trails (is_now n) (children_of n e (pointers_of a.bytes))))) none
          ∙ (last_children n e v same.tree same.address (pointers_of a.bytes) first later
          ∙ (ap (last_anew sup new n e S)
          (ap (λ keys. greatest_of (keys ++ keys_in (trails (was n) (children_of n v (pointers_of a.bytes))))) (sym none)
          ∙ sym (was_keys (suc n) at_v free))
          ∙ ap (λ m. last_anew sup new m e S (last_in (walk_of sup old v))) level)))
        where
          some : (n : ℕ) → (suc n == 0) ≡ false
          some n = grind (arith, nat_tests)

pub lasts : LastLaw
lasts pairs marked moving touched moved under sup old new root now last one stands marks moves lists alike of_tree fine stays entry =
    let Kn = Known pairs marked moved under sup old new in
    let known : Visits Kn (trail_of sup old root) = visits_from Kn sup old root stands.each in
    let deep : Visits (Below Kn sup old) (trail_of sup old root) = within Kn sup old root known in
    let right : (m : Marks) (test : ℕ → Bool) → AreMarked m test sup old root
    → Visits (IsRight pairs marked moved under sup old new m test) (trail_of sup old root) =
    λ m test comes. visits_map (λ v. Below Kn sup old v × (m v.tree v.address ≡ comes_to test sup old v))
    (IsRight pairs marked moved under sup old new m test) (trail_of sup old root)
    (λ v h. h.1 ∙ visits_any_from Kn test sup old v h.0)
    (visits_both (Below Kn sup old) (λ v. m v.tree v.address ≡ comes_to test sup old v) (trail_of sup old root) deep
    (visits_from (λ v. m v.tree v.address ≡ comes_to test sup old v) sup old root comes)) in
    let listed = visits_from (λ v. under v.tree v.address ≡ starts_at v.level (moving v.tree) (old v.address)) sup old root lists in
    let any : Visits (Any sup new) (trail_of sup new now) =
    visits_from (Any sup new) sup new now (record { fine = fine; each = any_each sup new (visited sup new now) }) in
    let w =
    was_visited pairs marked moved under sup old new moving touched root now last of_tree known
    (λ address. if_some_map (pairs root.tree address) (λ live. OneOf (IsKnown sup old root.tree address live) (visited sup old root))
    (λ live. VisitsOne (IsKnown sup old root.tree address live) (trail_of sup old root))
    (λ live one. visits_one_from (IsKnown sup old root.tree address live) Kn sup old root known one) (stands.only address))
    (right marked touched marks)
    (visits_both (IsRight pairs marked moved under sup old new moving moved)
    (λ v. under v.tree v.address ≡ starts_at v.level (moving v.tree) (old v.address)) (trail_of sup old root) (right moving moved moves) listed)
    alike stays in
    let v = w.v in
    let F = IsFree pairs marked moved under sup old new moving in
    let below = trail_below v.level sup old in
    let here : F v = here_of F below sup old v w.all in
    let a = accepts F below sup old v w.all in
    let level : now.level ≡ v.level = w.same.block.level in
    let is : new now.address ≡ Ok a.bytes = ap new w.same.block.address ∙ (here.alike w.still ∙ a.is) in
    let more : Visits (Any sup new) (trail_and (trail_below v.level sup new) sup new now) =
    subst (λ n. Visits (Any sup new) (trail_and (trail_below n sup new) sup new now)) level any in
    let lists : under now.tree now.address ≡ starts_at v.level (moving v.tree) (Ok a.bytes) =
    ap (λ t. under t now.address) w.same.block.tree
    ∙ (ap (under v.tree) w.same.block.address ∙ (here.lists ∙ ap (starts_at v.level (moving v.tree)) a.is)) in
    let was_entry : pairs now.tree now.address ≡ Some (live_at sup old v) =
    ap (λ t. pairs t now.address) w.same.block.tree ∙ (ap (pairs v.tree) w.same.block.address ∙ here.known) in
    let live : live_at sup old v ≡ one = some_same (live_at sup old v) one (sym was_entry ∙ entry) in
    last_block pairs marked moved under sup old new moving v.level now v level refl w.same.block a is w.all more
    ∙ (ap (λ n. last_anew sup new (n - 1) now (starts_at v.level (moving v.tree) (Ok a.bytes)) (last_in (walk_of sup old v))) (sym level)
    ∙ (ap (λ starts. last_anew sup new (now.level - 1) now starts (last_in (walk_of sup old v))) (sym lists)
    ∙ ap (λ (l : Live). last_anew sup new (now.level - 1) now (under now.tree now.address) l.last) live))
