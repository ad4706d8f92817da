-- The walk of a tree as it was, which keeps blocks at the stops, gives the own records of those that are not shared.
use Rattle.std.proofs.Common.{◌≡◌, ℕ, zero, suc, ◌-◌, Bool, true, false, List, [], ◌∷◌, ◌++◌, ◌⊎◌, inl, inr, refl, ap, sym, subst, ◌∙◌, arith}
use Rattle.std.specs.Prelude.{Option, Some, None, is_none, Ok, Err, if◌then◌else◌}
use Rattle.verdict.proofs.Truth.{and_parts, never}
use Rattle.verdict.specs.declared.key.Key.{Key}
use Rattle.verdict.specs.Rules.{no_key}
use Rattle.super_reader.specs.declared.Super.{Super}
use Rattle.live_index.specs.Pairs.{Pairs}
use Rattle.live_index.specs.declared.live.Live.{Live}
use Rattle.node_reader.specs.Layout.{pointers_of}
use Rattle.node_reader.specs.Stored.{Stored, block_in}
use Rattle.node_reader.specs.declared.expect.Expect.{Expect}
use Rattle.node_reader.specs.declared.expect.Pointer.{Pointer}
use Rattle.records.specs.Seen.Seen.{BlockSeen}
use Rattle.records.specs.Walk.{Records, behind, block_and, block_at, child_of, children_of, each, high_of, own_records, then_records, walk_of}
use Rattle.tree_laws.specs.declared.told.Start.{Start}
use Rattle.tree_laws.specs.Keeping.{Marks, Under, anew_of, bound_of, is_same, last_in, live_at, starts_at, starts_in, starts_of}
use Rattle.tree_laws.specs.OldSide.{kept_at, kept_where}
use Rattle.tree_laws.specs.Stops.{is_stop}
use Rattle.tree_laws.specs.Skips.{Kept, is_below, next_of, nothing, skip_and, skip_below, skip_or}
use Rattle.tree_laws.proofs.Accepted.{Accepts, accepts, keys_at, visit_of, walk_accepted}
use Rattle.tree_laws.proofs.Bounds.{keys_below}
use Rattle.tree_laws.proofs.Lasting.{low_fits}
use Rattle.tree_laws.proofs.OldHidden.{IsHidden, hidden_up}
use Rattle.tree_laws.proofs.Sharing.{last_fits, same_from}
use Rattle.tree_laws.proofs.Sifting.{IsSame, behind_none, fits, fits_is, nil, or_high_is, unkept_all}
use Rattle.tree_laws.proofs.Skipping.{own_or, unkept_after, unkept_in, unkept_then}
use Rattle.tree_laws.proofs.Trails.{Trail, Visit, then_trail, trail_and, trail_below, trail_of, trails}
use Rattle.tree_laws.proofs.Visiting.{Visits, visits_map, visits_then_first, visits_then_later}
use Rattle.tree_laws.proofs.Within.{bounded, here_of, keys_fit, node_keys, pointer_keys, rest_of}

-- a block is what it is
pub itself : (P : Expect → Type 0) (sup : Super) (old : Stored) (e : Expect) → Visits P (trail_of sup old e) → IsSame old e e
itself P sup old e all =
    let a = accepts P (trail_below e.level sup old) sup old e all in
    record { block = record { tree = refl; address = refl; generation = refl; level = refl }; low = rw a.is (low_fits sup old e a) }

-- where a node's keys are below a bound, the keys that are sure to stand in it are
fits_true : (moving : ℕ → Bool) (pointers : List Pointer) (high : Option Key) → keys_below (pointer_keys pointers) high ≡ true → fits (starts_in moving pointers) true high ≡ true
fits_true moving [] high keys = refl
fits_true moving (pointer ∷ pointers) high keys =
    let parts = and_parts (is_below pointer.key high) (keys_below (pointer_keys pointers) high) keys in
    by (moving pointer.address) pointers parts.0 (fits_true moving pointers high parts.1)
  where
    by : (m : Bool) (pointers : List Pointer) → is_below pointer.key high ≡ true → fits (starts_in moving pointers) true high ≡ true
        → fits (if m then record { pointer = pointer; next = high_of pointers None } ∷ starts_in moving pointers else starts_in moving pointers) true high ≡ true
    by true [] key rest = key
    by true (next ∷ pointers) key rest = rest
    by false pointers key rest = rest

module _ (pairs : Pairs) (moving : Marks) (under : Under) (shared : Live → Bool) (stopped : List Expect) (sup : Super) (old : Stored) (tree : ℕ) where
  abbrev pub of_old : ℕ → Expect → Trail
  of_old level = trail_and (trail_below level sup old) sup old

  abbrev pub stops : ℕ → Bool
  stops = is_stop stopped

  abbrev pub K : Kept
  K = kept_at pairs stopped under

  abbrev pub S : Kept
  S = kept_where shared sup old

  abbrev pub Hidden : ℕ → Type 0
  Hidden address = IsHidden pairs moving stops tree address

  abbrev pub IsShared : Expect → Type 0
  IsShared w = shared (live_at sup old w) ≡ true

  -- at and below each child that is not listed all are shared
  abbrev pub AllQuiet : ℕ → Expect → List Pointer → Type 0
  AllQuiet level e [] = Unit {0}
  AllQuiet level e (pointer ∷ pointers) =
      (moving tree pointer.address ≡ false → Visits IsShared (of_old level (child_of level e pointer (high_of pointers e.high)))) × AllQuiet level e pointers

  abbrev pub Quiet : ℕ → Expect → List ℕ → Type 0
  Quiet zero e bytes = Unit {0}
  Quiet (suc level) e bytes = AllQuiet level e (pointers_of bytes)

  -- what is known of each block of the tree as it was
  pub record Fact (v : Expect) : Type 0 where
    pub known : pairs tree v.address ≡ Some (live_at sup old v)
    pub tree_is : v.tree ≡ tree
    pub lists : under v.tree v.address ≡ starts_at v.level (moving v.tree) (old v.address)
    pub is_shared : stops v.address ≡ true → shared (live_at sup old v) ≡ true
    pub found : stops v.address ≡ false → shared (live_at sup old v) ≡ true → Hidden v.address
    pub quiet : stops v.address ≡ true → (bytes : List ℕ) → old v.address ≡ Ok bytes → Quiet v.level v bytes

  abbrev pub skips : ℕ → List Expect → Records
  skips level = skip_below K nothing (anew_of under) level sup old

  abbrev pub skip_at : ℕ → Expect → Records
  skip_at level = skip_and K nothing (anew_of under) (skips level) sup old

  abbrev pub others : Trail → Records
  others trail = unkept_in S nothing trail

  -- a block is not passed over
  abbrev pub Clear : Expect → Type 0
  Clear e = Hidden e.address → ⊥

  -- what is expected of a block is what it is
  abbrev pub IsSelf : Expect → Type 0
  IsSelf e = is_same e (live_at sup old e) ≡ true

  -- a child of a block that is not passed over
  clear_child : (e c : Expect) → c.parent ≡ e.address → Fact c → Clear e → ((stops e.address ≡ true) → moving tree c.address ≡ false → ⊥) → Clear c
  clear_child e c parent fact clear out hidden =
      let up = hidden_up pairs moving stops tree c.address hidden (live_at sup old c) fact.known in
      by up.node
    where
      by : ((stops c.parent ≡ true) × (moving tree c.address ≡ false)) ⊎ Hidden c.parent → ⊥
      by (inl top) = out (subst (λ a. stops a ≡ true) parent top.0) top.1
      by (inr above) = clear (subst Hidden parent above)

  -- at and below a child that is not listed nothing is left
  quiet_none : (trail : Trail) → Visits IsShared trail → others trail ≡ Ok []
  quiet_none (Err finding) all = elim all [ ]
  quiet_none (Ok visits) all =
      ap Ok (unkept_all S nothing visits (visits_map IsShared (λ e. (is_none (S e) ≡ false) × (nothing e ≡ [])) (Ok visits) (λ w h. (by (shared (live_at sup old w)) h, refl)) all))
    where
      by : (b : Bool) → b ≡ true → is_none (if b then Some no_key else None) ≡ false
      by true is = refl
      by false is = absurd (cc)

  abbrev pub IsAlike : ℕ → Type 0
  IsAlike level = (c : Expect) → c.level ≡ level → IsSelf c → Clear c → Visits Fact (of_old level c) → skip_at level c ≡ others (of_old level c)

  child_self : (level : ℕ) (c : Expect) (key : Key) → c.level ≡ level → c.low ≡ Some key → Visits Fact (of_old level c) → IsSelf c
  child_self level c key at low all =
      let whole : Visits Fact (trail_of sup old c) = subst (λ n. Visits Fact (of_old n c)) (sym at) all in
      same_from Fact sup old c c (itself Fact sup old c whole) (rw low refl) whole

  -- the children of a node that is not at a stop
  alike_children : (level : ℕ) → IsAlike level → (e : Expect) → Clear e → stops e.address ≡ false → (pointers : List Pointer) → Visits Fact (trails (of_old level) (children_of level e pointers))
      → each (skip_at level) (children_of level e pointers) ≡ others (trails (of_old level) (children_of level e pointers))
  alike_children level alike e clear free [] all = refl
  alike_children level alike e clear free (pointer ∷ pointers) all =
      let c = child_of level e pointer (high_of pointers e.high) in
      let rest = trails (of_old level) (children_of level e pointers) in
      let first = visits_then_first Fact (of_old level c) rest all in
      let fact : Fact c = here_of Fact (trail_below level sup old) sup old c first in
      let same : skip_at level c ≡ others (of_old level c) =
      alike c refl (child_self level c pointer.key refl refl first) (clear_child e c refl fact clear (λ stop none. never (stops e.address) stop free)) first in
      let more = alike_children level alike e clear free pointers (visits_then_later Fact (of_old level c) rest all) in
      rw (unkept_then S nothing (of_old level c) rest, same, more) refl

  -- the children of a node at a stop
  alike_listed : (level : ℕ) → IsAlike level → (e : Expect) → Clear e → (pointers : List Pointer) → AllQuiet level e pointers → Visits Fact (trails (of_old level) (children_of level e pointers))
      → each (skip_at level) (starts_of level e (starts_in (moving tree) pointers)) ≡ others (trails (of_old level) (children_of level e pointers))
  alike_listed level alike e clear [] quiet all = refl
  alike_listed level alike e clear (pointer ∷ pointers) quiet all =
      by (moving tree pointer.address) refl (alike_listed level alike e clear pointers quiet.1 (visits_then_later Fact (of_old level c) rest all))
    where
      c : Expect
      c = child_of level e pointer (high_of pointers e.high)

      rest : Trail
      rest = trails (of_old level) (children_of level e pointers)

      L : List Start
      L = starts_in (moving tree) pointers

      first : Visits Fact (of_old level c)
      first = visits_then_first Fact (of_old level c) rest all

      fact : Fact c
      fact = here_of Fact (trail_below level sup old) sup old c first

      by : (m : Bool) → moving tree pointer.address ≡ m → each (skip_at level) (starts_of level e L) ≡ others rest
          → each (skip_at level) (starts_of level e (if m then record { pointer = pointer; next = high_of pointers None } ∷ L else L)) ≡ others (then_trail (of_old level c) rest)
      by true is more =
          let same : skip_at level c ≡ others (of_old level c) =
          alike c refl (child_self level c pointer.key refl refl first) (clear_child e c refl fact clear (λ stop none. never (moving tree pointer.address) is none)) first in
          ap (λ h. then_records (skip_at level (child_of level e pointer h)) (each (skip_at level) (starts_of level e L))) (or_high_is pointers e.high)
          ∙ (ap (λ r. then_records r (each (skip_at level) (starts_of level e L))) same
          ∙ (ap (then_records (others (of_old level c))) more ∙ sym (unkept_then S nothing (of_old level c) rest)))
      by false is more =
          more ∙ (sym (behind_none (others rest))
          ∙ (ap (λ r. then_records r (others rest)) (sym (quiet_none (of_old level c) (quiet.0 is))) ∙ sym (unkept_then S nothing (of_old level c) rest)))

  -- what is below a block that is not at a stop, and below one that is
  record Steps (level : ℕ) : Type 0 where
    none : (e : Expect) → e.level ≡ level → Clear e → stops e.address ≡ false → (bytes : List ℕ) → Visits Fact (trail_below level sup old e bytes)
        → skips level (next_of e bytes) ≡ others (trail_below level sup old e bytes)
    kept : (e : Expect) → e.level ≡ level → Clear e → Fact e → (bytes : List ℕ) → old e.address ≡ Ok bytes → Quiet e.level e bytes → Visits Fact (trail_below level sup old e bytes)
        → skips level (anew_of under e) ≡ others (trail_below level sup old e bytes)

  kept_is : (e : Expect) (live : Live) → stops e.address ≡ true → pairs e.tree e.address ≡ Some live → is_same e live ≡ true → K e ≡ Some (bound_of (under e.tree e.address) live.last)
  unfolding kept_at
  kept_is e live stop known same = rw (stop, known, same) refl

  not_kept : (e : Expect) → stops e.address ≡ false → K e ≡ None
  unfolding kept_at
  not_kept e free = rw free refl

  block_read : (below : Expect → List ℕ → Records) (e : Expect) (a : Accepts sup old e) → block_and below sup old e ≡ behind (BlockSeen (block_at e a.bytes) ∷ a.entries) (below e a.bytes)
  unfolding block_in own_records behind
  block_read below e a = rw (a.is, a.passes, a.has) refl

  -- what is sure to stand in a block is below its bound
  fits_here : (e : Expect) → IsSelf e → Fact e → (all : Visits Fact (trail_of sup old e)) → is_below (bound_of (under e.tree e.address) (last_in (walk_of sup old e))) e.high ≡ true
  fits_here e self fact all =
      let a = accepts Fact (trail_below e.level sup old) sup old e all in
      let last : is_below (last_in (walk_of sup old e)) e.high ≡ true = last_fits Fact sup old e e self (itself Fact sup old e all) all ∙ bounded Fact e.level sup old e refl all in
      fits_is (under e.tree e.address) (last_in (walk_of sup old e)) e.high
      ∙ (ap (λ b. fits (under e.tree e.address) b e.high) last
      ∙ (ap (λ starts. fits starts true e.high) fact.lists
      ∙ (ap (λ block. fits (starts_at e.level (moving e.tree) block) true e.high) a.is
      ∙ by e.level a.bytes (keys_fit sup old e a))))
    where
      by : (level : ℕ) (bytes : List ℕ) → keys_below (keys_at level bytes) e.high ≡ true → fits (starts_at level (moving e.tree) (Ok bytes)) true e.high ≡ true
      by zero bytes keys = refl
      by (suc level) bytes keys = fits_true (moving e.tree) (pointers_of bytes) e.high (subst (λ ks. keys_below ks e.high ≡ true) (node_keys level bytes) keys)

  alike_block : (level : ℕ) → Steps level → IsAlike level
  alike_block level steps e at self clear all =
      by (stops e.address) refl
    where
      below : Expect → List ℕ → Trail
      below = trail_below level sup old

      a : Accepts sup old e
      a = accepts Fact below sup old e all

      fact : Fact e
      fact = here_of Fact below sup old e all

      later : Visits Fact (below e a.bytes)
      later = rest_of Fact below sup old e a all

      known : pairs e.tree e.address ≡ Some (live_at sup old e)
      known = subst (λ t. pairs t e.address ≡ Some (live_at sup old e)) (sym fact.tree_is) fact.known

      own : Visit
      own = visit_of e a.bytes a.entries

      walk : others (of_old level e) ≡ behind (own_or (S e) own.own [] ++ []) (others (below e a.bytes))
      walk = ap others (walk_accepted below sup old e a) ∙ unkept_after S nothing (own ∷ []) (below e a.bytes)

      turned : (b : Bool) → b ≡ false → (if b then Some no_key else None) ≡ None
      turned true is = absurd (cc)
      turned false is = refl

      passed : (b : Bool) → b ≡ true → (if b then Some no_key else None) ≡ Some no_key
      passed true is = refl
      passed false is = absurd (cc)

      not_shared : (b : Bool) → shared (live_at sup old e) ≡ b → stops e.address ≡ false → shared (live_at sup old e) ≡ false
      not_shared true is free = elim (clear (fact.found free is)) [ ]
      not_shared false is free = is

      by : (b : Bool) → stops e.address ≡ b → skip_at level e ≡ others (of_old level e)
      by true stop =
          let last = bound_of (under e.tree e.address) (last_in (walk_of sup old e)) in
          let whole : Visits Fact (trail_of sup old e) = subst (λ n. Visits Fact (of_old n e)) (sym at) all in
          let inner = steps.kept e at clear fact a.bytes a.is (fact.quiet stop a.bytes a.is) later in
          ap (skip_or e (walk_of sup old e) (behind [] (skips level (anew_of under e))) (block_and (λ v bytes. skips level (next_of v bytes)) sup old e)) (kept_is e (live_at sup old e) stop known self)
          ∙ (ap (λ b. if b then behind [] (skips level (anew_of under e)) else walk_of sup old e) (fits_here e self fact whole)
          ∙ (ap (behind []) inner
          ∙ (ap (λ k. behind (own_or k own.own [] ++ []) (others (below e a.bytes))) (sym (passed (shared (live_at sup old e)) (fact.is_shared stop))) ∙ sym walk)))
      by false free =
          let inner = steps.none e at clear free a.bytes later in
          ap (skip_or e (walk_of sup old e) (behind [] (skips level (anew_of under e))) (block_and (λ v bytes. skips level (next_of v bytes)) sup old e)) (not_kept e free)
          ∙ (block_read (λ v bytes. skips level (next_of v bytes)) e a
          ∙ (ap (behind own.own) inner
          ∙ (ap (λ records. behind records (others (below e a.bytes))) (sym (nil own.own))
          ∙ (ap (λ k. behind (own_or k own.own [] ++ []) (others (below e a.bytes))) (sym (turned (shared (live_at sup old e)) (not_shared (shared (live_at sup old e)) refl free))) ∙ sym walk))))

  steps_at : (level : ℕ) → Steps level
  unfolding trail_below skip_below
  steps_at zero = record { none = λ e at clear free bytes all. refl; kept = λ e at clear fact bytes is quiet all. refl }
  steps_at (suc level) =
      let ih : IsAlike level = alike_block level (steps_at level) in
      record {
        none = λ e at clear free bytes all.
            ap (λ n. each (skip_at level) (children_of n e (pointers_of bytes))) (lower e at) ∙ alike_children level ih e clear free (pointers_of bytes) all;
        kept = λ e at clear fact bytes is quiet all.
            ap (each (skip_at level)) (listed e at fact bytes is)
            ∙ alike_listed level ih e clear (pointers_of bytes) (subst (λ n. Quiet n e bytes) at quiet) all;
      }
    where
      lower : (e : Expect) → e.level ≡ suc level → e.level - 1 ≡ level
      lower e at = omega (arith, at)

      listed : (e : Expect) → e.level ≡ suc level → Fact e → (bytes : List ℕ) → old e.address ≡ Ok bytes → anew_of under e ≡ starts_of level e (starts_in (moving tree) (pointers_of bytes))
      listed e at fact bytes is =
          ap (λ n. starts_of n e (under e.tree e.address)) (lower e at)
          ∙ (ap (starts_of level e) fact.lists
          ∙ (ap (λ n. starts_of level e (starts_at n (moving e.tree) (old e.address))) at
          ∙ (ap (λ t. starts_of level e (starts_at (suc level) (moving t) (old e.address))) fact.tree_is
          ∙ ap (λ block. starts_of level e (starts_at (suc level) (moving tree) block)) is)))

  -- the walk from a block on
  pub alike : (e : Expect) → IsSelf e → Clear e → Visits Fact (trail_of sup old e) → skip_at e.level e ≡ others (trail_of sup old e)
  alike e self clear all = alike_block e.level (steps_at e.level) e refl self clear all
