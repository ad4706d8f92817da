-- What is below a kept block, by what is known of the tree as it was.
use Rattle.std.proofs.Common.{◌≡◌, ℕ, zero, suc, ◌-◌, ◌==◌, Bool, true, false, not, ◌&&◌, ◌||◌, List, [], ◌∷◌, refl, ap, sym, subst, ◌∙◌}
use Rattle.std.specs.Prelude.{Option, Some, None, is_none, is_some, IfSome, Ok, Err, if◌then◌else◌}
use Rattle.std.proofs.lemmas.Bool.{eqb-true}
use Rattle.verdict.proofs.Numbers.{itself}
use Rattle.verdict.proofs.Truth.{and_true, and_parts, neither}
use Rattle.verdict.specs.OnDisk.{key_below, key_same}
use Rattle.verdict.specs.Rules.{first_failing}
use Rattle.verdict.specs.declared.key.Key.{Key}
use Rattle.verdict.proofs.Tables.{joined_none}
use Rattle.super_reader.specs.declared.Super.{Super}
use Rattle.live_index.specs.Pairs.{Pairs}
use Rattle.live_index.specs.declared.live.Live.{Live}
use Rattle.node_reader.specs.Faults.{block_fault, header_rules}
use Rattle.node_reader.specs.Layout.{count_of, entry_key, entry_size, pointers_of}
use Rattle.node_reader.specs.Stored.{Stored}
use Rattle.node_reader.specs.declared.expect.Expect.{Expect}
use Rattle.node_reader.specs.declared.expect.Pointer.{Pointer}
use Rattle.node_reader.proofs.Sound.{level_kept}
use Rattle.records.specs.Walk.{behind, child_of, children_of, high_of, walk_of}
use Rattle.records.specs.WalkLaw.{visited}
use Rattle.tree_laws.specs.LivePairs.{greatest_key}
use Rattle.tree_laws.specs.Keeping.{AreMarked, AreUntouched, IsKnown, KeepingLaw, Marks, OneOf, Under, anew_of, bound_of, comes_to, first_in, is_first, is_same, kept_of, last_if_same, last_in, live_at, starts_at, starts_of}
use Rattle.tree_laws.specs.declared.told.Start.{Start}
use Rattle.tree_laws.specs.SkipLaw.{IsSound, anew_below}
use Rattle.tree_laws.specs.Skips.{Kept, Told, is_below, nothing, unkept}
use Rattle.tree_laws.proofs.Accepted.{Accepts, IsAs, LowFits, accepts, high_finding, keys_at, visit_of, walk_again}
use Rattle.tree_laws.proofs.Bounds.{keys_below, upto, upto_none, upto_then, upto_through}
use Rattle.tree_laws.proofs.Lasting.{last_from, last_of_none, lasting, low_fits, same_sym}
use Rattle.tree_laws.proofs.Sifting.{IsSame, LowAt, Yields, fits, fits_is, sift_block, starts_level, unkept_all, yields_is}
use Rattle.tree_laws.proofs.Trails.{Trail, Visit, after, then_trail, trail_and, trail_below, trail_of, trails}
use Rattle.tree_laws.proofs.Visiting.{Each, Visits, VisitsOne, visits_after, visits_any, visits_any_from, visits_both, visits_fail, visits_from, visits_map, visits_one, visits_one_from, visits_pass, visits_then_first, visits_then_later}
use Rattle.tree_laws.proofs.Within.{Below, bounded, here_of, node_keys, pointer_keys, rest_of, upto_block, within}

-- a trail has no finding, and this holds of each block of it, or it has one
abbrev pub Carries : (Expect → Type 0) → Bool → Trail → Type 0
Carries P true trail = Visits P trail
Carries P false (Err finding) = Unit {0}
Carries P false (Ok visits) = ⊥

carries_after : (P : Expect → Type 0) (b : Bool) (visits : List Visit) (later : Trail) → Each P visits → Carries P b later → Carries P b (after visits later)
unfolding after
carries_after P true visits later first more = visits_after P visits later first more
carries_after P false visits (Err finding) first more = tt
carries_after P false visits (Ok others) first more = more

carries_then : (P : Expect → Type 0) (a b : Bool) (first later : Trail) → Carries P a first → Carries P b later → Carries P (a && b) (then_trail first later)
carries_then P true b (Err finding) later all more = elim all [ ]
carries_then P true b (Ok visits) later all more = carries_after P b visits later all more
carries_then P false b (Err finding) later all more = tt
carries_then P false b (Ok visits) later all more = elim all [ ]

-- the bound of a child or of its node, where what is below the child is below the next key
bound_split : (trail : Trail) (later : Bool) (pointers : List Pointer) (high old_high : Option Key) → upto trail (high_of pointers old_high) ≡ true → keys_below (pointer_keys pointers) high ≡ true
    → (upto trail (high_of pointers high) && later) ≡ (upto trail high && later)
bound_split trail later [] high old_high below keys = refl
bound_split trail later (pointer ∷ pointers) high old_high below keys =
    let key = (and_parts (is_below pointer.key high) (keys_below (pointer_keys pointers) high) keys).0 in
    let whole : upto trail high ≡ true = upto_through trail pointer.key high below key in
    ap (λ b. b && later) (below ∙ sym whole)

-- what is known of a block that is kept
pub record IsFound (e : Expect) (starts : List Start) (last : Key) (mark : Bool) (entry : Option Live) : Type 0 where
  pub live : Live
  pub free : mark ≡ false
  pub known : entry ≡ Some live
  pub same : is_same e live ≡ true
  pub last_is : bound_of starts live.last ≡ last

pub found : (e : Expect) (starts : List Start) (last : Key) (mark : Bool) (entry : Option Live) → (if mark then None else last_if_same e starts entry) ≡ Some last → IsFound e starts last mark entry
found e starts last true entry is = absurd (cc)
found e starts last false None is = absurd (cc)
found e starts last false (Some live) is = by (is_same e live) refl is
  where
    by : (b : Bool) → is_same e live ≡ b → (if b then Some (bound_of starts live.last) else None) ≡ Some last → IsFound e starts last false (Some live)
    by true same is = record { live = live; free = refl; known = refl; same = same; last_is = cc }
    by false same is = absurd (cc)

-- the first key of a block that is accepted
pub header_kept : (bytes fsid : List ℕ) (e : Expect) → block_fault bytes fsid e ≡ None → first_failing (header_rules bytes fsid e) ≡ None
unfolding block_fault
header_kept bytes fsid e none = (joined_none (header_rules bytes fsid e) _ none).0

pub first_is : (sup : Super) (old : Stored) (v : Expect) (a : Accepts sup old v) → (count_of a.bytes == 0) ≡ false → first_in (old v.address) ≡ entry_key a.bytes (entry_size v.level) 0
first_is sup old v a some = rw (a.is, some, level_kept a.bytes sup.fsid v (header_kept a.bytes sup.fsid v a.passes)) refl

first_of_none : (sup : Super) (old : Stored) (v : Expect) (a : Accepts sup old v) → (count_of a.bytes == 0) ≡ true → first_in (old v.address) ≡ greatest_key
first_of_none sup old v a none = rw (a.is, none) refl

-- what is expected is what was visited where the test says so
pub same_from : (P : Expect → Type 0) (sup : Super) (old : Stored) (e v : Expect) → IsSame old e v → is_some e.low ≡ true → Visits P (trail_of sup old v) → is_same e (live_at sup old v) ≡ true
same_from P sup old e v same child all =
    and_true (e.level == v.level && e.generation == v.generation) (is_first (live_at sup old v) e.low e.high)
    (and_true (e.level == v.level) (e.generation == v.generation) (rw same.block.level (itself v.level)) (rw same.block.generation (itself v.generation)))
    (by e.low child (subst (LowAt e.low v.level) a.is same.low))
  where
    a : Accepts sup old v
    a = accepts P (trail_below v.level sup old) sup old v all

    by : (low : Option Key) → is_some low ≡ true → LowFits low v.level a.bytes → is_first (live_at sup old v) low e.high ≡ true
    by None child fits = absurd (cc)
    by (Some low) child fits =
        rw (first_is sup old v a fits.0, same_sym low (entry_key a.bytes (entry_size v.level) 0) fits.1, last_from P sup old v a fits.0 all) refl

pub same_to : (P : Expect → Type 0) (sup : Super) (old : Stored) (e v : Expect) → e.tree ≡ v.tree → e.address ≡ v.address → is_same e (live_at sup old v) ≡ true → Visits P (trail_of sup old v) → IsSame old e v
same_to P sup old e v of_tree at is all =
    let parts = and_parts (e.level == v.level && e.generation == v.generation) (is_first (live_at sup old v) e.low e.high) is in
    let two = and_parts (e.level == v.level) (e.generation == v.generation) parts.0 in
    record {
      block = record { tree = of_tree; address = at; generation = eqb-true e.generation v.generation two.1; level = eqb-true e.level v.level two.0 };
      low = rw a.is (by e.low parts.1);
    }
  where
    a : Accepts sup old v
    a = accepts P (trail_below v.level sup old) sup old v all

    turned : (b : Bool) → not b ≡ true → b ≡ false
    turned true is = absurd (cc)
    turned false is = refl

    by_count : (low : Key) (none : Bool) → (count_of a.bytes == 0) ≡ none → (key_same (live_at sup old v).first low && not (key_below (live_at sup old v).last (live_at sup old v).first)) ≡ true → LowFits (Some low) v.level a.bytes
    by_count low true none is =
        let high : key_below (live_at sup old v).last greatest_key ≡ true = last_of_none P sup old v a none all in
        let two = and_parts (key_same (live_at sup old v).first low) (not (key_below (live_at sup old v).last (live_at sup old v).first)) is in
        let never : key_below (live_at sup old v).last greatest_key ≡ false = subst (λ k. key_below (live_at sup old v).last k ≡ false) (first_of_none sup old v a none) (turned (key_below (live_at sup old v).last (live_at sup old v).first) two.1) in
        absurd (cc)
    by_count low false some is =
        let two = and_parts (key_same (live_at sup old v).first low) (not (key_below (live_at sup old v).last (live_at sup old v).first)) is in
        (some, same_sym (entry_key a.bytes (entry_size v.level) 0) low (subst (λ k. key_same k low ≡ true) (first_is sup old v a some) two.0))

    by : (low : Option Key) → is_first (live_at sup old v) low e.high ≡ true → LowFits low v.level a.bytes
    by None is = tt
    by (Some low) is = by_count low (count_of a.bytes == 0) refl is

-- the bound of a kept block is below the high key just where all its keys are
pub last_fits : (P : Expect → Type 0) (sup : Super) (old : Stored) (e v : Expect) → is_same e (live_at sup old v) ≡ true → IsSame old e v → Visits P (trail_of sup old v)
    → is_below (last_in (walk_of sup old v)) e.high ≡ upto (trail_of sup old v) e.high
last_fits P sup old e v is same all = by e.low e.high (subst (LowAt e.low v.level) a.is same.low) (and_parts (e.level == v.level && e.generation == v.generation) (is_first (live_at sup old v) e.low e.high) is).1
  where
    a : Accepts sup old v
    a = accepts P (trail_below v.level sup old) sup old v all

    by : (low high : Option Key) → LowFits low v.level a.bytes → is_first (live_at sup old v) low high ≡ true → is_below (last_in (walk_of sup old v)) high ≡ upto (trail_of sup old v) high
    by None None fits is = sym (upto_none (trail_of sup old v))
    by None (Some high) fits is = absurd (cc)
    by (Some low) high fits is = lasting P sup old v a high fits.0 all

module _ (pairs : Pairs) (marked : Marks) (moved : ℕ → Bool) (under : Under) (sup : Super) (old new : Stored) where
  abbrev pub K : Kept
  K = kept_of pairs marked moved under

  -- a block is kept
  abbrev pub Stays : Expect → Type 0
  Stays e = is_none (K e) ≡ false

  -- what holds of a block that is visited and kept
  pub record IsKept (v : Expect) : Type 0 where
    pub known : pairs v.tree v.address ≡ Some (live_at sup old v)
    pub free : marked v.tree v.address ≡ false
    pub still : moved v.address ≡ false
    pub alike : new v.address ≡ old v.address

  -- a block is kept where one was visited that is kept
  stays_if : (e v : Expect) → IsAs e v → is_same e (live_at sup old v) ≡ true → pairs v.tree v.address ≡ Some (live_at sup old v) → marked v.tree v.address ≡ false → moved v.address ≡ false → Stays e
  unfolding kept_of
  stays_if e v block is known free still =
      let m : marked e.tree e.address ≡ false = rw (block.tree, block.address) free in
      let n : moved e.address ≡ false = rw block.address still in
      let k : pairs e.tree e.address ≡ Some (live_at sup old v) = rw (block.tree, block.address) known in
      rw (m, n, k, is) refl

  -- children on a level
  abbrev pub of_old : ℕ → Expect → Trail
  of_old level = trail_and (trail_below level sup old) sup old

  abbrev pub of_new : ℕ → Expect → Trail
  of_new level = trail_and (trail_below level sup new) sup new

  carries_children : (level : ℕ)
      → ((c d : Expect) → d.level ≡ level → IsSame old c d → is_some c.low ≡ true → Visits IsKept (of_old level d) → Carries Stays (upto (of_old level d) c.high) (of_new level c))
      → (e v : Expect) → e.tree ≡ v.tree → (pointers : List Pointer) → keys_below (pointer_keys pointers) e.high ≡ true → Visits IsKept (trails (of_old level) (children_of level v pointers))
      → Carries Stays (upto (trails (of_old level) (children_of level v pointers)) e.high) (trails (of_new level) (children_of level e pointers))
  carries_children level carries e v of_tree [] keys all = tt
  carries_children level carries e v of_tree (pointer ∷ pointers) keys all =
      let c = child_of level e pointer (high_of pointers e.high) in
      let d = child_of level v pointer (high_of pointers v.high) in
      let rest_old = trails (of_old level) (children_of level v pointers) in
      let rest_new = trails (of_new level) (children_of level e pointers) in
      let here = visits_then_first IsKept (of_old level d) rest_old all in
      let less = (and_parts (is_below pointer.key e.high) (keys_below (pointer_keys pointers) e.high) keys).1 in
      let a = accepts IsKept (trail_below level sup old) sup old d here in
      let block : IsAs c d = record { tree = of_tree; address = refl; generation = refl; level = refl } in
      let same : IsSame old c d = record { block = block; low = rw a.is (low_fits sup old d a) } in
      subst (λ b. Carries Stays b (then_trail (of_new level c) rest_new)) (sym (upto_then IsKept (of_old level d) rest_old e.high all))
      (subst (λ b. Carries Stays b (then_trail (of_new level c) rest_new)) (bound_split (of_old level d) (upto rest_old e.high) pointers e.high v.high (bounded IsKept level sup old d refl here) less)
      (carries_then Stays (upto (of_old level d) c.high) (upto rest_old e.high) (of_new level c) rest_new
      (carries c d refl same refl here)
      (carries_children level carries e v of_tree pointers less (visits_then_later IsKept (of_old level d) rest_old all))))

  -- a block, where what is below it is carried
  pub carries_block : (level : ℕ) (e v : Expect) → v.level ≡ level → IsSame old e v → is_some e.low ≡ true
      → ((bytes : List ℕ) → keys_below (keys_at level bytes) e.high ≡ true → Visits IsKept (trail_below level sup old v bytes)
      → Carries Stays (upto (trail_below level sup old v bytes) e.high) (trail_below level sup new e bytes))
      → Visits IsKept (of_old level v) → Carries Stays (upto (of_old level v) e.high) (of_new level e)
  carries_block level e v at same child carries all =
      let below = trail_below level sup old in
      let a = accepts IsKept below sup old v all in
      let kept : IsKept v = here_of IsKept below sup old v all in
      let later : Visits IsKept (below v a.bytes) = rest_of IsKept below sup old v a all in
      let is : new e.address ≡ Ok a.bytes = ap new same.block.address ∙ (kept.alike ∙ a.is) in
      let low : LowFits e.low v.level a.bytes = subst (LowAt e.low v.level) a.is same.low in
      let whole : Visits IsKept (trail_of sup old v) = subst (λ n. Visits IsKept (of_old n v)) (sym at) all in
      let stays : Stays e = stays_if e v same.block (same_from IsKept sup old e v same child whole) kept.known kept.free kept.still in
      rw (walk_again (trail_below level sup new) sup old new e v a same.block low is, upto_block IsKept below sup old v a e.high later)
      (by (keys_below (keys_at v.level a.bytes) e.high) (visit_of e a.bytes a.entries) (upto (below v a.bytes) e.high) (trail_below level sup new e a.bytes) a.bytes stays
      (λ keys. carries a.bytes (subst (λ n. keys_below (keys_at n a.bytes) e.high ≡ true) at keys) later))
    where
      by : (b : Bool) (own : Visit) (last : Bool) (rest : Trail) (bytes : List ℕ) → Stays own.e → (b ≡ true → Carries Stays last rest)
          → Carries Stays (b && last) (if b then after (own ∷ []) rest else Err (high_finding e bytes))
      by true own last rest bytes stays carries = carries_after Stays last (own ∷ []) rest (stays, tt) (carries refl)
      by false own last rest bytes stays carries = tt

  -- what is below a block on a level
  pub carries_below : (level : ℕ) (e v : Expect) → e.tree ≡ v.tree → (bytes : List ℕ) → keys_below (keys_at level bytes) e.high ≡ true → Visits IsKept (trail_below level sup old v bytes)
      → Carries Stays (upto (trail_below level sup old v bytes) e.high) (trail_below level sup new e bytes)
  unfolding trail_below
  carries_below zero e v of_tree bytes keys all = tt
  carries_below (suc level) e v of_tree bytes keys all =
      carries_children level (λ c d at same child. carries_block level c d at same child (carries_below level c d same.block.tree))
      e v of_tree (pointers_of bytes) (subst (λ ks. keys_below ks e.high ≡ true) (node_keys level bytes) keys) all

  -- a trail that is carried, without what is kept
  yields_carried : (told : Told) (b : Bool) (trail : Trail) → (Visits Stays trail → Visits (λ w. told w ≡ []) trail) → Carries Stays b trail → Yields K told b (Ok []) trail
  yields_carried told true (Err finding) hush carries = elim carries [ ]
  yields_carried told true (Ok visits) hush carries =
      ap Ok (unkept_all K told visits (visits_both Stays (λ w. told w ≡ []) (Ok visits) carries (hush carries)))
  yields_carried told false (Err finding) hush carries = tt
  yields_carried told false (Ok visits) hush carries = elim carries [ ]

  -- of a block that is kept, and below which all is, nothing is told where its parent stays
  abbrev pub IsHushed : Told → Type 0
  IsHushed told = (level : ℕ) (c d : Expect) → d.level ≡ level → IsAs c d → c.parent ≡ d.parent
      → Visits IsKept (of_old level d) → Visits Stays (of_new level c) → Visits (λ w. told w ≡ []) (of_new level c)

  -- whether a trail comes to an address that passes a test
  abbrev pub comes : (ℕ → Bool) → Expect → Bool
  comes test v = visits_any (λ w. test w.address) (trail_of sup old v)

  -- what holds of a block that is visited below a kept one
  pub record IsFree (moving : Marks) (w : Expect) : Type 0 where
    pub known : pairs w.tree w.address ≡ Some (live_at sup old w)
    pub free : marked w.tree w.address ≡ false
    pub alike : moved w.address ≡ false → new w.address ≡ old w.address
    pub moves : moving w.tree w.address ≡ comes moved w
    pub lists : under w.tree w.address ≡ starts_at w.level (moving w.tree) (old w.address)

  abbrev pub Known : Expect → Type 0
  Known w = pairs w.tree w.address ≡ Some (live_at sup old w)

  abbrev pub IsRight : Marks → (ℕ → Bool) → Expect → Type 0
  IsRight marks test w = marks w.tree w.address ≡ comes test w

  abbrev pub Moves : Marks → Expect → Type 0
  Moves moving w = IsRight moving moved w × (under w.tree w.address ≡ starts_at w.level (moving w.tree) (old w.address))

  -- a block that is kept is one that was visited
  pub record WasVisited (moving : Marks) (e : Expect) (last : Key) : Type 0 where
    pub v : Expect
    pub same : IsSame old e v
    pub is : is_same e (live_at sup old v) ≡ true
    pub still : moved v.address ≡ false
    pub last_is : last ≡ bound_of (under e.tree e.address) (last_in (walk_of sup old v))
    pub all : Visits (IsFree moving) (trail_of sup old v)

  -- below a block that is not marked none is touched or marked
  pub all_free : (moving : Marks) (touched : ℕ → Bool) → AreUntouched touched moved old new → (v : Expect)
      → Visits Known (trail_of sup old v) → Visits (IsRight marked touched) (trail_of sup old v) → Visits (Moves moving) (trail_of sup old v)
      → comes touched v ≡ false → Visits (IsFree moving) (trail_of sup old v)
  all_free moving touched alike v known marks moves none =
      let Free = λ (w : Expect). touched w.address ≡ false in
      let free : Visits Free (trail_of sup old v) = visits_fail Known (λ w. touched w.address) (trail_of sup old v) known none in
      let deep : Visits (Below Free sup old) (trail_of sup old v) = within Free sup old v free in
      visits_map (λ w. (Known w × IsRight marked touched w) × ((Free w × Below Free sup old w) × Moves moving w)) (IsFree moving) (trail_of sup old v)
      (λ w h. record { known = h.0.0; free = h.0.1 ∙ visits_pass (λ x. touched x.address) (trail_of sup old w) h.1.0.1; alike = alike w.address h.1.0.0; moves = h.1.1.0; lists = h.1.1.1 })
      (visits_both (λ w. Known w × IsRight marked touched w) (λ w. (Free w × Below Free sup old w) × Moves moving w) (trail_of sup old v)
      (visits_both Known (IsRight marked touched) (trail_of sup old v) known marks)
      (visits_both (λ w. Free w × Below Free sup old w) (Moves moving) (trail_of sup old v) (visits_both Free (Below Free sup old) (trail_of sup old v) free deep) moves))

  pub was_visited : (moving : Marks) (touched : ℕ → Bool) (root e : Expect) (last : Key) → e.tree ≡ root.tree
      → Visits Known (trail_of sup old root) → ((address : ℕ) → IfSome (pairs root.tree address) (λ live. VisitsOne (IsKnown sup old root.tree address live) (trail_of sup old root)))
      → Visits (IsRight marked touched) (trail_of sup old root) → Visits (Moves moving) (trail_of sup old root)
      → AreUntouched touched moved old new → K e ≡ Some last → WasVisited moving e last
  unfolding kept_of
  was_visited moving touched root e last of_tree known only marks moves alike is =
      let f = found e (under e.tree e.address) last (marked e.tree e.address || moved e.address) (pairs e.tree e.address) is in
      let free = neither (marked e.tree e.address) (moved e.address) f.free in
      let entry : pairs root.tree e.address ≡ Some f.live = subst (λ t. pairs t e.address ≡ Some f.live) of_tree f.known in
      let one : VisitsOne (IsKnown sup old root.tree e.address f.live) (trail_of sup old root) = rw entry at (only e.address) in
      let at = visits_one (λ v. (Below Known sup old v × Below (Moves moving) sup old v) × (Below (IsRight marked touched) sup old v × IsRight marked touched v)) (IsKnown sup old root.tree e.address f.live) (trail_of sup old root)
      (visits_both (λ v. Below Known sup old v × Below (Moves moving) sup old v) (λ v. Below (IsRight marked touched) sup old v × IsRight marked touched v) (trail_of sup old root)
      (visits_both (Below Known sup old) (Below (Moves moving) sup old) (trail_of sup old root) (within Known sup old root known) (within (Moves moving) sup old root moves))
      (visits_both (Below (IsRight marked touched) sup old) (IsRight marked touched) (trail_of sup old root) (within (IsRight marked touched) sup old root marks) marks)) one in
      let v = at.0 in
      let all = at.1 in
      let here : IsKnown sup old root.tree e.address f.live v = at.2 in
      let tree : e.tree ≡ v.tree = of_tree ∙ sym here.tree_is in
      let address : e.address ≡ v.address = sym here.address_is in
      let same : is_same e (live_at sup old v) ≡ true = subst (λ live. is_same e live ≡ true) here.live_is f.same in
      let mark : marked v.tree v.address ≡ false = rw (sym tree, sym address) free.0 in
      record {
        v = v;
        same = same_to Known sup old e v tree address same all.0.0;
        is = same;
        still = rw (sym address) free.1;
        last_is = sym f.last_is ∙ ap (λ (live : Live). bound_of (under e.tree e.address) live.last) here.live_is;
        all = all_free moving touched alike v all.0.0 all.1.0 all.0.1 (sym all.1.1 ∙ mark);
      }

  -- at and below a child at which and below which none moved all is kept
  pub still_kept : (moving : Marks) (level : ℕ) (d : Expect) → d.level ≡ level → moving d.tree d.address ≡ false → Visits (IsFree moving) (of_old level d) → Visits IsKept (of_old level d)
  still_kept moving level d at none all =
      let Still = λ (w : Expect). moved w.address ≡ false in
      let here : IsFree moving d = here_of (IsFree moving) (trail_below level sup old) sup old d all in
      let whole : Visits (IsFree moving) (trail_of sup old d) = subst (λ n. Visits (IsFree moving) (of_old n d)) (sym at) all in
      let still : Visits Still (trail_of sup old d) = visits_fail (IsFree moving) (λ w. moved w.address) (trail_of sup old d) whole (sym here.moves ∙ none) in
      let at_level : Visits Still (of_old level d) = subst (λ n. Visits Still (of_old n d)) at still in
      visits_map (λ w. IsFree moving w × Still w) IsKept (of_old level d)
      (λ w h. record { known = h.0.known; free = h.0.free; still = h.1; alike = h.0.alike h.1 })
      (visits_both (IsFree moving) Still (of_old level d) all at_level)

  -- what a walk gives at a block that is kept
  sifted : (told : Told) → IsHushed told → (moving : Marks) (e v : Expect) → IsSame old e v → is_same e (live_at sup old v) ≡ true → moved v.address ≡ false → Visits (IsFree moving) (trail_of sup old v)
      → Yields K told (fits (under e.tree e.address) (upto (trail_of sup old v) e.high) e.high)
      (behind (told e) (anew_below e.level (unkept K told sup new) (anew_of under e))) (trail_of sup new e)
  sifted told hushed moving e v same is still all =
      let here : IsFree moving v = here_of (IsFree moving) (trail_below v.level sup old) sup old v all in
      let kept : is_none (K e) ≡ false = stays_if e v same.block is here.known here.free still in
      let listed : under e.tree e.address ≡ under v.tree v.address = rw (same.block.tree, same.block.address) refl in
      let lists : starts_at v.level (moving v.tree) (old v.address) ≡ under e.tree e.address = sym (listed ∙ here.lists) in
      subst (λ n. Yields K told (fits (under e.tree e.address) (upto (trail_of sup old v) e.high) e.high)
      (behind (told e) (anew_below n (unkept K told sup new) (starts_of (n - 1) e (under e.tree e.address)))) (of_new n e)) (sym same.block.level)
      (subst (λ starts. Yields K told (fits starts (upto (trail_of sup old v) e.high) e.high)
      (behind (told e) (anew_below v.level (unkept K told sup new) (starts_of (v.level - 1) e starts))) (of_new v.level e)) lists
      (sift_block (IsFree moving) K told v.tree (moving v.tree) sup old new
      (λ n c d at of_tree child parent low none visits.
      let unmoved : moving d.tree d.address ≡ false = subst (λ t. moving t d.address ≡ false) (sym of_tree) none in
      let whole = still_kept moving n d at unmoved visits in
      yields_carried told (upto (of_old n d) c.high) (of_new n c)
      (hushed n c d at child.block parent whole) (carries_block n c d at child low (carries_below n c d child.block.tree) whole))
      e v refl same kept (here.alike still) all))

  -- the table and the marks are sound
  pub sound : (told : Told) → IsHushed told → (moving : Marks) (touched : ℕ → Bool) (root : Expect)
      → Visits Known (trail_of sup old root) → ((address : ℕ) → IfSome (pairs root.tree address) (λ live. VisitsOne (IsKnown sup old root.tree address live) (trail_of sup old root)))
      → Visits (IsRight marked touched) (trail_of sup old root) → Visits (Moves moving) (trail_of sup old root) → AreUntouched touched moved old new
      → IsSound root.tree K told (anew_of under) sup new
  sound told hushed moving touched root known only marks moves alike = record { gives = gives; next = λ e. starts_level (e.level - 1) e (under e.tree e.address) }
    where
      gives : (e : Expect) (last : Key) → e.tree ≡ root.tree → K e ≡ Some last
          → unkept K told sup new e ≡ (if is_below last e.high then behind (told e) (anew_below e.level (unkept K told sup new) (anew_of under e)) else walk_of sup new e)
      gives e last of_tree is =
          let was = was_visited moving touched root e last of_tree known only marks moves alike is in
          let below : is_below last e.high ≡ fits (under e.tree e.address) (upto (trail_of sup old was.v) e.high) e.high =
          ap (λ k. is_below k e.high) was.last_is
          ∙ (fits_is (under e.tree e.address) (last_in (walk_of sup old was.v)) e.high
          ∙ ap (λ b. fits (under e.tree e.address) b e.high) (last_fits (IsFree moving) sup old e was.v was.is was.same was.all)) in
          rw below (yields_is K told sup new e (fits (under e.tree e.address) (upto (trail_of sup old was.v) e.high) e.high)
          (behind (told e) (anew_below e.level (unkept K told sup new) (anew_of under e)))
          (sifted told hushed moving e was.v was.same was.is was.still was.all))

-- by the definitions alone
pub if_some_map : (entry : Option Live) (P Q : Live → Type 0) → ((live : Live) → P live → Q live) → IfSome entry P → IfSome entry Q
if_some_map None P Q f is = tt
if_some_map (Some live) P Q f is = f live is

pub keeps : KeepingLaw
keeps pairs marked moving touched moved under sup old new root stands marks moves lists alike =
    let K = kept_of pairs marked moved under in
    let Kn = Known pairs marked moved under sup old new in
    let known : Visits Kn (trail_of sup old root) = visits_from Kn sup old root stands.each in
    let deep : Visits (Below Kn sup old) (trail_of sup old root) = within Kn sup old root known in
    let right : (m : Marks) (test : ℕ → Bool) → AreMarked m test sup old root → Visits (IsRight pairs marked moved under sup old new m test) (trail_of sup old root) =
    λ m test comes. visits_map (λ v. Below Kn sup old v × (m v.tree v.address ≡ comes_to test sup old v)) (IsRight pairs marked moved under sup old new m test) (trail_of sup old root)
    (λ v h. h.1 ∙ visits_any_from Kn test sup old v h.0)
    (visits_both (Below Kn sup old) (λ v. m v.tree v.address ≡ comes_to test sup old v) (trail_of sup old root) deep (visits_from (λ v. m v.tree v.address ≡ comes_to test sup old v) sup old root comes)) in
    let listed = visits_from (λ v. under v.tree v.address ≡ starts_at v.level (moving v.tree) (old v.address)) sup old root lists in
    sound pairs marked moved under sup old new nothing
    (λ level c d at same parent kept all. visits_map (Stays pairs marked moved under sup old new) (λ w. nothing w ≡ []) (of_new pairs marked moved under sup old new level c) (λ w h. refl) all)
    moving touched root known
    (λ address. if_some_map (pairs root.tree address) (λ live. OneOf (IsKnown sup old root.tree address live) (visited sup old root)) (λ live. VisitsOne (IsKnown sup old root.tree address live) (trail_of sup old root))
    (λ live one. visits_one_from (IsKnown sup old root.tree address live) Kn sup old root known one) (stands.only address))
    (right marked touched marks)
    (visits_both (IsRight pairs marked moved under sup old new moving moved) (λ v. under v.tree v.address ≡ starts_at v.level (moving v.tree) (old v.address)) (trail_of sup old root) (right moving moved moves) listed)
    alike
