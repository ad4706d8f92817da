-- The blocks of a tree as it was that its walk passes over: those at and below a child of a stop that is not listed.
use Rattle.std.proofs.Common.{◌≡◌, ℕ, zero, suc, Bool, true, false, cond, List, [], ◌∷◌, ◌⊎◌, inl, inr, refl, ap, sym, subst, ◌∙◌, arith}
use Rattle.std.specs.Prelude.{Some, None, nat_lt}
use Rattle.std.proofs.lemmas.Bool.Decides.{nat_tests}
use Rattle.touched_blocks.proofs.Among.{some_same}
use Rattle.super_reader.specs.declared.Super.{Super}
use Rattle.live_index.specs.Pairs.{Pairs}
use Rattle.live_index.specs.declared.live.Live.{Live}
use Rattle.node_reader.specs.Layout.{pointers_of}
use Rattle.node_reader.specs.Stored.{Stored}
use Rattle.node_reader.specs.declared.expect.Expect.{Expect}
use Rattle.node_reader.specs.declared.expect.Pointer.{Pointer}
use Rattle.records.specs.Walk.{child_of, children_of, high_of}
use Rattle.touched_blocks.specs.Marking.{ClimbsTo, if_above, parent_of}
use Rattle.touched_blocks.specs.Marking.ClimbsTo.{Here as IsHere, Up as OneUp}
use Rattle.tree_laws.specs.Keeping.{Marks, live_at}
use Rattle.tree_laws.proofs.Accepted.{accepts, visit_of, walk_accepted}
use Rattle.tree_laws.proofs.Trails.{Trail, trail_and, trail_below, trails}
use Rattle.tree_laws.proofs.Visiting.{Visits, visits_after, visits_then, visits_then_first, visits_then_later}
use Rattle.tree_laws.proofs.Within.{here_of, rest_of}

less_one : (n : ℕ) → nat_lt n (suc n) ≡ true
less_one n = grind (arith, nat_tests)

-- a child of a stop that is not listed
pub record IsTop (pairs : Pairs) (moving : Marks) (stops : ℕ → Bool) (tree address : ℕ) : Type 0 where
  pub live : Live
  pub up : Live
  pub known : pairs tree address ≡ Some live
  pub above : parent_of pairs tree live ≡ Some up
  pub stop : stops live.parent ≡ true
  pub still : moving tree address ≡ false

-- the nodes above a block lead to such a child
pub record IsHidden (pairs : Pairs) (moving : Marks) (stops : ℕ → Bool) (tree address : ℕ) : Type 0 where
  pub top : ℕ
  pub is : IsTop pairs moving stops tree top
  pub way : ClimbsTo pairs tree top address

-- such a block has a node above it: a stop that does not list it, or another such block
pub record IsBelow (pairs : Pairs) (moving : Marks) (stops : ℕ → Bool) (tree address : ℕ) (live : Live) : Type 0 where
  pub up : Live
  pub above : parent_of pairs tree live ≡ Some up
  pub node : ((stops live.parent ≡ true) × (moving tree address ≡ false)) ⊎ IsHidden pairs moving stops tree live.parent

pub hidden_up : (pairs : Pairs) (moving : Marks) (stops : ℕ → Bool) (tree address : ℕ) → IsHidden pairs moving stops tree address
    → (live : Live) → pairs tree address ≡ Some live → IsBelow pairs moving stops tree address live
hidden_up pairs moving stops tree address hidden live at = by hidden.top address hidden.way hidden.is at
  where
    by : (top address : ℕ) → ClimbsTo pairs tree top address → IsTop pairs moving stops tree top → pairs tree address ≡ Some live → IsBelow pairs moving stops tree address live
    by top _ IsHere is at =
        let same : is.live ≡ live = some_same is.live live (sym is.known ∙ at) in
        record {
          up = is.up;
          above = subst (λ l. parent_of pairs tree l ≡ Some is.up) same is.above;
          node = inl (subst (λ (l : Live). stops l.parent ≡ true) same is.stop, is.still);
        }
    by top _ (OneUp from below up known above way) is at =
        let same : below ≡ live = some_same below live (sym known ∙ at) in
        record {
          up = up;
          above = subst (λ l. parent_of pairs tree l ≡ Some up) same above;
          node = inr (record { top = top; is = is; way = subst (λ (l : Live). ClimbsTo pairs tree top l.parent) same way });
        }

module _ (pairs : Pairs) (moving : Marks) (stops : ℕ → Bool) (tree : ℕ) (sup : Super) (old : Stored) where
  abbrev pub Hidden : ℕ → Type 0
  Hidden address = IsHidden pairs moving stops tree address

  abbrev pub of_old : ℕ → Expect → Trail
  of_old level = trail_and (trail_below level sup old) sup old

  -- a table has what is known of a block
  abbrev pub Known : Expect → Type 0
  Known v = pairs tree v.address ≡ Some (live_at sup old v)

  abbrev pub IsAway : Expect → Type 0
  IsAway v = Hidden v.address

  -- the node above a child
  pub above_is : (level : ℕ) (v c : Expect) → v.level ≡ suc level → c.level ≡ level → c.parent ≡ v.address → Known v → parent_of pairs tree (live_at sup old c) ≡ Some (live_at sup old v)
  above_is level v c high low parent known =
      ap (λ a. if_above (live_at sup old c) (pairs tree a)) parent
      ∙ (ap (if_above (live_at sup old c)) known
      ∙ ap (λ b. cond b (Some (live_at sup old v)) None) (ap (λ n. nat_lt n v.level) low ∙ (ap (nat_lt level) high ∙ less_one level)))

  -- what is below such a block is such too
  hidden_children : (level : ℕ) → ((c : Expect) → c.level ≡ level → Hidden c.address → Visits Known (of_old level c) → Visits IsAway (of_old level c))
      → (e : Expect) → e.level ≡ suc level → Known e → Hidden e.address → (pointers : List Pointer) → Visits Known (trails (of_old level) (children_of level e pointers))
      → Visits IsAway (trails (of_old level) (children_of level e pointers))
  hidden_children level hides e at known hidden [] all = tt
  hidden_children level hides e at known hidden (pointer ∷ pointers) all =
      let c = child_of level e pointer (high_of pointers e.high) in
      let rest = trails (of_old level) (children_of level e pointers) in
      let first = visits_then_first Known (of_old level c) rest all in
      let here : Known c = here_of Known (trail_below level sup old) sup old c first in
      let way : ClimbsTo pairs tree hidden.top c.address = OneUp c.address (live_at sup old c) (live_at sup old e) here (above_is level e c at refl refl known) hidden.way in
      visits_then IsAway (of_old level c) rest
      (hides c refl (record { top = hidden.top; is = hidden.is; way = way }) first)
      (hidden_children level hides e at known hidden pointers (visits_then_later Known (of_old level c) rest all))

  hidden_block : (level : ℕ) (e : Expect) → e.level ≡ level → Hidden e.address
      → ((bytes : List ℕ) → Known e → Visits Known (trail_below level sup old e bytes) → Visits IsAway (trail_below level sup old e bytes))
      → Visits Known (of_old level e) → Visits IsAway (of_old level e)
  hidden_block level e at hidden hides all =
      let below = trail_below level sup old in
      let a = accepts Known below sup old e all in
      subst (Visits IsAway) (sym (walk_accepted below sup old e a))
      (visits_after IsAway (visit_of e a.bytes a.entries ∷ []) (below e a.bytes) (hidden, tt)
      (hides a.bytes (here_of Known below sup old e all) (rest_of Known below sup old e a all)))

  hidden_below : (level : ℕ) (e : Expect) → e.level ≡ level → Hidden e.address → (bytes : List ℕ) → Known e → Visits Known (trail_below level sup old e bytes) → Visits IsAway (trail_below level sup old e bytes)
  unfolding trail_below
  hidden_below zero e at hidden bytes known all = tt
  hidden_below (suc level) e at hidden bytes known all =
      hidden_children level (λ c is away. hidden_block level c is away (hidden_below level c is away)) e at known hidden (pointers_of bytes) all

  pub hides : (level : ℕ) (e : Expect) → e.level ≡ level → Hidden e.address → Visits Known (of_old level e) → Visits IsAway (of_old level e)
  hides level e at hidden all = hidden_block level e at hidden (hidden_below level e at hidden) all
