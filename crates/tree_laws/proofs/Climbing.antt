-- The blocks that are marked from some on up are those of which, or of a block below which, the address passes a test.
use Rattle.std.proofs.Common.{◌≡◌, ℕ, zero, suc, ◌<◌, ◌≤◌, Bool, true, false, cond, ◌||◌, List, [], ◌∷◌, ◌⊎◌, inl, inr, refl, ap, sym, subst, ◌∙◌, arith}
use Rattle.std.specs.Prelude.{Option, Some, None, is_some, IfSome, nat_lt, Result, Ok, Err}
use Rattle.std.proofs.lemmas.Bool.Decides.{nat_tests}
use Rattle.std.proofs.lemmas.List.Folds.{list_any-append}
use Rattle.touched_blocks.proofs.Among.{some_same}
use Rattle.tree_laws.proofs.Sharing.{if_some_map}
use Rattle.verdict.proofs.Truth.{or_cases, both_ways}
use Rattle.super_reader.specs.declared.Super.{Super}
use Rattle.live_index.specs.Pairs.{AreNarrow, Pairs}
use Rattle.live_index.specs.declared.live.Live.{Live}
use Rattle.node_reader.specs.Layout.{pointers_of}
use Rattle.node_reader.specs.Stored.{CopyFault, Stored}
use Rattle.node_reader.specs.declared.expect.Expect.{Expect}
use Rattle.node_reader.specs.declared.expect.Pointer.{Pointer}
use Rattle.records.specs.Walk.{child_of, children_of, high_of}
use Rattle.records.specs.WalkLaw.{visited}
use Rattle.tree_laws.specs.Keeping.{IsKnown, Marks, OneOf, comes_to, live_at}
use Rattle.touched_blocks.specs.Marking as marking
use Rattle.touched_blocks.specs.Marking.ClimbsTo.{Here as IsHere, Up as OneUp}
use Rattle.touched_blocks.specs.Marks.{no_mark}
use Rattle.tree_laws.specs.Marking.{MarkingLaw}
use Rattle.tree_laws.proofs.Accepted.{Accepts, accepts, visit_of, walk_accepted}
use Rattle.tree_laws.proofs.Trails.{Trail, Visit, after, then_trail, trail_and, trail_below, trail_of, trails}
use Rattle.tree_laws.proofs.Visiting.{Visits, VisitsOne, any_block, comes_from, visits_after, visits_all, visits_any, visits_any_from, visits_both, visits_fail, visits_from, visits_later, visits_map, visits_one, visits_one_from, visits_pass, visits_then, visits_then_first, visits_then_later}
use Rattle.tree_laws.proofs.Within.{Below, here_of, rest_of, within}

-- the live pairs of one tree, by their addresses
abbrev pub Table : Type 0
Table = ℕ → Option Live

-- whether a pair is on a greater level than another, where there is one
abbrev pub is_above : Option Live → Live → Bool
is_above None live = false
is_above (Some above) live = nat_lt live.level above.level

-- the nodes above lead from one address to another
pub data ClimbsTo (table : Table) (to : ℕ) : ℕ → Type 0 where
  Here : ClimbsTo table to to
  Up : (from : ℕ) (live : Live) → table from ≡ Some live → is_above (table live.parent) live ≡ true → ClimbsTo table to live.parent → ClimbsTo table to from

-- where a block is marked, the node above it is
abbrev pub AboveIsMarked : Table → (ℕ → Bool) → Option Live → Type 0
AboveIsMarked table marked None = Unit {0}
AboveIsMarked table marked (Some live) = is_above (table live.parent) live ≡ true → marked live.parent ≡ true

-- the blocks of a tree are marked whose address passes a test, those above them, and no other
pub record AreMarkedUp (table : Table) (test marked : ℕ → Bool) : Type 0 where
  pub found : (address : ℕ) → test address ≡ true → is_some (table address) ≡ true → marked address ≡ true
  pub closed : (address : ℕ) → marked address ≡ true → AboveIsMarked table marked (table address)
  pub only : (address : ℕ) → marked address ≡ true → (from : ℕ) × (test from ≡ true) × ClimbsTo table address from

-- the pair above is the one on a greater level
above_some : (o : Option Live) (live : Live) → is_above o live ≡ true → (up : Live) × (marking.if_above live o ≡ Some up)
above_some None live is = cc
above_some (Some up) live is = (up, ap (λ b. cond b (Some up) None) is)

some_above : (o : Option Live) (live up : Live) → marking.if_above live o ≡ Some up → is_above o live ≡ true
some_above None live up is = absurd (cc)
some_above (Some above) live up is = by (nat_lt live.level above.level) refl is
  where
    by : (b : Bool) → nat_lt live.level above.level ≡ b → cond b (Some above) None ≡ Some up → nat_lt live.level above.level ≡ true
    by true low found = low
    by false low found = absurd (cc)

climbs_up : (pairs : Pairs) (tree to from : ℕ) → marking.ClimbsTo pairs tree to from → ClimbsTo (pairs tree) to from
climbs_up pairs tree to _ IsHere = Here
climbs_up pairs tree to _ (OneUp from live up known above way) =
    Up from live known (some_above (pairs tree live.parent) live up above) (climbs_up pairs tree to live.parent way)

-- the same, of one tree of a table
of_one : (pairs : Pairs) (must may marked : Marks) (tree : ℕ) → AreNarrow pairs
    → ((address : ℕ) → is_some (pairs tree address) ≡ true → may tree address ≡ true → must tree address ≡ true)
    → marking.AreMarkedFrom pairs must may no_mark marked → AreMarkedUp (pairs tree) (must tree) (marked tree)
of_one pairs must may marked tree narrow same up = record {
  found = λ address is known. up.found tree address (narrow tree address known).0 (narrow tree address known).1 is known;
  closed = λ address is. above address is (pairs tree address) refl;
  only = λ address is. by address (up.only tree address is);
}
  where
    above : (address : ℕ) → marked tree address ≡ true → (o : Option Live) → pairs tree address ≡ o → AboveIsMarked (pairs tree) (marked tree) o
    above address is None here = tt
    above address is (Some live) here = λ greater.
        let found = above_some (pairs tree live.parent) live greater in
        up.closed (λ t a l u none. absurd (cc)) tree address live found.0 is here found.1

    by : (address : ℕ) → (no_mark tree address ≡ true) ⊎ ((from : ℕ) × (may tree from ≡ true) × (is_some (pairs tree from) ≡ true) × marking.ClimbsTo pairs tree address from)
        → (from : ℕ) × (must tree from ≡ true) × ClimbsTo (pairs tree) address from
    by address (inl none) = absurd (cc)
    by address (inr found) = (found.0, same found.0 found.2 found.1, climbs_up pairs tree address found.0 found.3)

-- whether a test passes at a block, or behind it
any_after : (P : Expect → Type 0) (test : Expect → Bool) (visits : List Visit) (later : Trail) → Visits P later → visits_any test (after visits later) ≡ (any_block test visits || visits_any test later)
unfolding after
any_after P test visits (Err finding) all = elim all [ ]
any_after P test visits (Ok others) all = list_any-append (λ v. test v.e) visits others

any_then : (P : Expect → Type 0) (test : Expect → Bool) (first later : Trail) → Visits P (then_trail first later) → visits_any test (then_trail first later) ≡ (visits_any test first || visits_any test later)
any_then P test (Err finding) later all = elim all [ ]
any_then P test (Ok visits) later all = any_after P test visits later (visits_later P visits later all)

any_trail_and : (P : Expect → Type 0) (test : Expect → Bool) (below : Expect → List ℕ → Trail) (sup : Super) (stored : Stored) (e : Expect) (a : Accepts sup stored e) → Visits P (trail_and below sup stored e)
    → visits_any test (trail_and below sup stored e) ≡ (test e || visits_any test (below e a.bytes))
any_trail_and P test below sup stored e a all =
    ap (visits_any test) (walk_accepted below sup stored e a)
    ∙ (any_after P test (visit_of e a.bytes a.entries ∷ []) (below e a.bytes) (rest_of P below sup stored e a all)
    ∙ ap (λ b. b || visits_any test (below e a.bytes)) (or_nil (test e)))
  where
    or_nil : (b : Bool) → (b || false) ≡ b
    or_nil true = refl
    or_nil false = refl

abbrev pub copied : List ℕ → Result (List ℕ) CopyFault
copied bytes = Ok bytes

pub ok_same : (p q : List ℕ) → copied p ≡ copied q → p ≡ q
ok_same p q is = cc

-- all blocks of a walk are of its tree
tree_children : (P : Expect → Type 0) (tree : ℕ) (level : ℕ) (of : Expect → Trail) → ((c : Expect) → c.tree ≡ tree → Visits P (of c) → Visits (λ w. w.tree ≡ tree) (of c))
    → (e : Expect) → e.tree ≡ tree → (pointers : List Pointer) → Visits P (trails of (children_of level e pointers)) → Visits (λ w. w.tree ≡ tree) (trails of (children_of level e pointers))
tree_children P tree level of same e at [] all = tt
tree_children P tree level of same e at (pointer ∷ pointers) all =
    let c = child_of level e pointer (high_of pointers e.high) in
    let rest = trails of (children_of level e pointers) in
    visits_then (λ w. w.tree ≡ tree) (of c) rest (same c at (visits_then_first P (of c) rest all)) (tree_children P tree level of same e at pointers (visits_then_later P (of c) rest all))

tree_block : (P : Expect → Type 0) (tree : ℕ) (below : Expect → List ℕ → Trail) (sup : Super) (stored : Stored) (e : Expect) → e.tree ≡ tree
    → ((bytes : List ℕ) → Visits P (below e bytes) → Visits (λ w. w.tree ≡ tree) (below e bytes)) → Visits P (trail_and below sup stored e) → Visits (λ w. w.tree ≡ tree) (trail_and below sup stored e)
tree_block P tree below sup stored e at same all =
    let a = accepts P below sup stored e all in
    subst (Visits (λ w. w.tree ≡ tree)) (sym (walk_accepted below sup stored e a))
    (visits_after (λ w. w.tree ≡ tree) (visit_of e a.bytes a.entries ∷ []) (below e a.bytes) (at, tt) (same a.bytes (rest_of P below sup stored e a all)))

tree_below : (P : Expect → Type 0) (tree level : ℕ) (sup : Super) (stored : Stored) (e : Expect) → e.tree ≡ tree → (bytes : List ℕ) → Visits P (trail_below level sup stored e bytes) → Visits (λ w. w.tree ≡ tree) (trail_below level sup stored e bytes)
unfolding trail_below
tree_below P tree zero sup stored e at bytes all = tt
tree_below P tree (suc level) sup stored e at bytes all =
    tree_children P tree level (trail_and (trail_below level sup stored) sup stored)
    (λ c is. tree_block P tree (trail_below level sup stored) sup stored c is (tree_below P tree level sup stored c is)) e at (pointers_of bytes) all

pub of_tree : (P : Expect → Type 0) (sup : Super) (stored : Stored) (e : Expect) → Visits P (trail_of sup stored e) → Visits (λ w. w.tree ≡ e.tree) (trail_of sup stored e)
of_tree P sup stored e all = tree_block P e.tree (trail_below e.level sup stored) sup stored e refl (tree_below P e.tree e.level sup stored e refl) all

module _ (table : Table) (sup : Super) (stored : Stored) (touched : ℕ → Bool) where
  abbrev pub of : ℕ → Expect → Trail
  of level = trail_and (trail_below level sup stored) sup stored

  -- a block passes the test
  abbrev pub Touch : Expect → Bool
  Touch w = touched w.address

  -- it passes it, or one below it does
  abbrev pub comes : Expect → Bool
  comes v = visits_any Touch (trail_of sup stored v)

  -- a table has what is known of a block
  abbrev pub Known : Expect → Type 0
  Known v = table v.address ≡ Some (live_at sup stored v)

  -- blocks at one address, on one level, are alike
  alike_children : (P : Expect → Type 0) (level : ℕ) → ((c d : Expect) → c.address ≡ d.address → Visits P (of level c) → Visits P (of level d) → visits_any Touch (of level c) ≡ visits_any Touch (of level d))
      → (e f : Expect) (pointers : List Pointer) → Visits P (trails (of level) (children_of level e pointers)) → Visits P (trails (of level) (children_of level f pointers))
      → visits_any Touch (trails (of level) (children_of level e pointers)) ≡ visits_any Touch (trails (of level) (children_of level f pointers))
  alike_children P level alike e f [] all more = refl
  alike_children P level alike e f (pointer ∷ pointers) all more =
      let c = child_of level e pointer (high_of pointers e.high) in
      let d = child_of level f pointer (high_of pointers f.high) in
      let rest_c = trails (of level) (children_of level e pointers) in
      let rest_d = trails (of level) (children_of level f pointers) in
      rw (
        any_then P Touch (of level c) rest_c all,
        any_then P Touch (of level d) rest_d more,
        alike c d refl (visits_then_first P (of level c) rest_c all) (visits_then_first P (of level d) rest_d more),
        alike_children P level alike e f pointers (visits_then_later P (of level c) rest_c all) (visits_then_later P (of level d) rest_d more),
      ) refl

  alike_block : (P : Expect → Type 0) (level : ℕ) (e f : Expect) → e.address ≡ f.address
      → ((bytes : List ℕ) → Visits P (trail_below level sup stored e bytes) → Visits P (trail_below level sup stored f bytes) → visits_any Touch (trail_below level sup stored e bytes) ≡ visits_any Touch (trail_below level sup stored f bytes))
      → Visits P (of level e) → Visits P (of level f) → visits_any Touch (of level e) ≡ visits_any Touch (of level f)
  alike_block P level e f same alike all more =
      let below = trail_below level sup stored in
      let a = accepts P below sup stored e all in
      let b = accepts P below sup stored f more in
      let bytes : b.bytes ≡ a.bytes = ok_same b.bytes a.bytes (sym b.is ∙ (sym (ap stored same) ∙ a.is)) in
      let later : Visits P (below e a.bytes) = rest_of P below sup stored e a all in
      let others : Visits P (below f b.bytes) = rest_of P below sup stored f b more in
      any_trail_and P Touch below sup stored e a all
      ∙ (ap (λ x. touched x || visits_any Touch (below e a.bytes)) same
      ∙ (ap (λ x. Touch f || x) (alike a.bytes later (subst (λ p. Visits P (below f p)) bytes others))
      ∙ (ap (λ p. Touch f || visits_any Touch (below f p)) (sym bytes)
      ∙ sym (any_trail_and P Touch below sup stored f b more))))

  alike_below : (P : Expect → Type 0) (level : ℕ) (e f : Expect) (bytes : List ℕ) → Visits P (trail_below level sup stored e bytes) → Visits P (trail_below level sup stored f bytes)
      → visits_any Touch (trail_below level sup stored e bytes) ≡ visits_any Touch (trail_below level sup stored f bytes)
  unfolding trail_below
  alike_below P zero e f bytes all more = refl
  alike_below P (suc level) e f bytes all more =
      alike_children P level (λ c d same. alike_block P level c d same (alike_below P level c d)) e f (pointers_of bytes) all more

  -- where one comes to such a block, one from above does too
  touches_up : (P : Expect → Type 0) (e : Expect) → Visits P (trail_of sup stored e) → Visits (λ w. comes w ≡ true → comes e ≡ true) (trail_of sup stored e)
  touches_up P e all = by (comes e) refl
    where
      by : (b : Bool) → comes e ≡ b → Visits (λ w. comes w ≡ true → b ≡ true) (trail_of sup stored e)
      by true is = visits_map P (λ w. comes w ≡ true → true ≡ true) (trail_of sup stored e) (λ w h t. refl) all
      by false is =
          let Free = λ (w : Expect). touched w.address ≡ false in
          let free : Visits Free (trail_of sup stored e) = visits_fail P Touch (trail_of sup stored e) all is in
          visits_map (Below Free sup stored) (λ w. comes w ≡ true → false ≡ true) (trail_of sup stored e)
          (λ w h t. sym (visits_pass Touch (trail_of sup stored w) h) ∙ t) (within Free sup stored e free)

  -- a block has one above it that is visited too
  pub record HasAbove (G : Expect → Type 0) (w : Expect) : Type 0 where
    pub u : Expect
    pub good : G u
    pub above : w.parent ≡ u.address
    pub level : w.level < u.level
    pub touches : comes w ≡ true → comes u ≡ true

  -- of what is visited below a node
  abbrev pub IsBelow : (Expect → Type 0) → ℕ → ℕ → Expect → Type 0
  IsBelow G level address w = (w.level < level) × ((w.parent ≡ address) ⊎ HasAbove G w)

  -- of what is visited from a block on
  abbrev pub IsFrom : (Expect → Type 0) → ℕ → Expect → Expect → Type 0
  IsFrom G level e w = (w.level ≤ level) × (((w.parent ≡ e.parent) × (w.level ≡ level)) ⊎ HasAbove G w)

  above_children : (G : Expect → Type 0) (level : ℕ) → ((c : Expect) → c.level ≡ level → Visits G (of level c) → Visits (IsFrom G level c) (of level c))
      → (e : Expect) (pointers : List Pointer) → Visits G (trails (of level) (children_of level e pointers)) → Visits (IsBelow G (suc level) e.address) (trails (of level) (children_of level e pointers))
  above_children G level above e [] all = tt
  above_children G level above e (pointer ∷ pointers) all =
      let c = child_of level e pointer (high_of pointers e.high) in
      let rest = trails (of level) (children_of level e pointers) in
      visits_then (IsBelow G (suc level) e.address) (of level c) rest
      (visits_map (IsFrom G level c) (IsBelow G (suc level) e.address) (of level c) (λ w h. (omega (arith, h.0), by w h.1)) (above c refl (visits_then_first G (of level c) rest all)))
      (above_children G level above e pointers (visits_then_later G (of level c) rest all))
    where
      by : (w : Expect) → ((w.parent ≡ e.address) × (w.level ≡ level)) ⊎ HasAbove G w → (w.parent ≡ e.address) ⊎ HasAbove G w
      by w (inl here) = inl here.0
      by w (inr there) = inr there

  above_block : (G : Expect → Type 0) (level : ℕ) (e : Expect) → e.level ≡ level
      → ((bytes : List ℕ) → Visits G (trail_below level sup stored e bytes) → Visits (IsBelow G level e.address) (trail_below level sup stored e bytes))
      → Visits G (of level e) → Visits (IsFrom G level e) (of level e)
  above_block G level e is above all =
      let below = trail_below level sup stored in
      let a = accepts G below sup stored e all in
      let walk = walk_accepted below sup stored e a in
      let own = visit_of e a.bytes a.entries ∷ [] in
      let rest = below e a.bytes in
      let Ups = λ (w : Expect). comes w ≡ true → comes e ≡ true in
      let whole : Visits G (trail_of sup stored e) = subst (λ n. Visits G (of n e)) (sym is) all in
      let ups : Visits Ups (of level e) = subst (λ n. Visits Ups (of n e)) is (touches_up G e whole) in
      let up_rest : Visits Ups rest = rest_of Ups below sup stored e a ups in
      let under : Visits (IsBelow G level e.address) rest = above a.bytes (rest_of G below sup stored e a all) in
      let here : G e = here_of G below sup stored e all in
      subst (Visits (IsFrom G level e)) (sym walk)
      (visits_after (IsFrom G level e) own rest ((omega (arith, is), inl (refl, is)), tt)
      (visits_map (λ w. IsBelow G level e.address w × Ups w) (IsFrom G level e) rest (λ w h. (omega (arith, h.0.0), inr (by w h.0.0 here h.0.1 h.1)))
      (visits_both (IsBelow G level e.address) Ups rest under up_rest)))
    where
      by : (w : Expect) → w.level < level → G e → (w.parent ≡ e.address) ⊎ HasAbove G w → (comes w ≡ true → comes e ≡ true) → HasAbove G w
      by w less here (inl parent) ups = record { u = e; good = here; above = parent; level = omega (arith, less, is); touches = ups }
      by w less here (inr above) ups = above

  above_below : (G : Expect → Type 0) (level : ℕ) (e : Expect) (bytes : List ℕ) → Visits G (trail_below level sup stored e bytes) → Visits (IsBelow G level e.address) (trail_below level sup stored e bytes)
  unfolding trail_below
  above_below G zero e bytes all = tt
  above_below G (suc level) e bytes all =
      above_children G level (λ c is. above_block G level c is (above_below G level c)) e (pointers_of bytes) all

  -- what is known of each block that a walk comes to: its pair in the table, and what is below it
  abbrev pub IsThere : Expect → Type 0
  IsThere v = Known v × Below Known sup stored v

  there : (root : Expect) → Visits Known (trail_of sup stored root) → Visits IsThere (trail_of sup stored root)
  there root known = visits_both Known (Below Known sup stored) (trail_of sup stored root) known (within Known sup stored root known)

  above_root : (root : Expect) → Visits Known (trail_of sup stored root) → Visits (IsFrom IsThere root.level root) (trail_of sup stored root)
  above_root root known = above_block IsThere root.level root refl (above_below IsThere root.level root) (there root known)

  -- the table has nothing else
  abbrev pub Only : Expect → Type 0
  Only root = (address : ℕ) → IfSome (table address) (λ live. VisitsOne (IsKnown sup stored root.tree address live) (trail_of sup stored root))

  -- a block in the table has one above that a walk comes to
  pub record IsUnder (Q : Expect → Type 0) (from : ℕ) (live : Live) : Type 0 where
    pub w : Expect
    pub u : Expect
    pub live_is : live ≡ live_at sup stored w
    pub address_is : w.address ≡ from
    pub holds : Q w
    pub there : IsThere u
    pub address : u.address ≡ live.parent
    pub touches : comes w ≡ true → comes u ≡ true

  is_under : (Q : Expect → Type 0) (root : Expect) → Visits Known (trail_of sup stored root) → Only root → Visits Q (trail_of sup stored root) → (from : ℕ) (live : Live) → table from ≡ Some live → is_above (table live.parent) live ≡ true
      → IsUnder Q from live
  is_under Q root known only all from live is above =
      let one : VisitsOne (IsKnown sup stored root.tree from live) (trail_of sup stored root) = rw is at (only from) in
      let at = visits_one (λ v. IsFrom IsThere root.level root v × Q v) (IsKnown sup stored root.tree from live) (trail_of sup stored root)
      (visits_both (IsFrom IsThere root.level root) Q (trail_of sup stored root) (above_root root known) all) one in
      by at.0 at.2 at.1.1 at.1.0.1
    where
      level_of : (w : Expect) → live ≡ live_at sup stored w → live.level ≡ w.level
      level_of w same = ap (λ (l : Live). l.level) same

      highest : (entry : Option Live) → table live.parent ≡ entry → is_above entry live ≡ true → live.level ≡ root.level → ⊥
      highest None at above same = absurd (cc)
      highest (Some over) at above same =
          let one : VisitsOne (IsKnown sup stored root.tree live.parent over) (trail_of sup stored root) = rw at at (only live.parent) in
          let found = visits_one (IsFrom IsThere root.level root) (IsKnown sup stored root.tree live.parent over) (trail_of sup stored root) (above_root root known) one in
          let level : over.level ≡ (found.0).level = ap (λ (l : Live). l.level) found.2.live_is in
          let most : (found.0).level ≤ root.level = found.1.0 in
          too_high live.level over.level above (subst (λ n. over.level ≤ n) (sym same) (subst (λ n. n ≤ root.level) (sym level) most))
        where
          too_high : (m n : ℕ) → nat_lt m n ≡ true → n ≤ m → ⊥
          too_high m n less most = grind (arith, nat_tests, less, most)

      by : (w : Expect) → IsKnown sup stored root.tree from live w → Q w → ((w.parent ≡ root.parent) × (w.level ≡ root.level)) ⊎ HasAbove IsThere w → IsUnder Q from live
      by w here holds (inl same) = absurd (highest (table live.parent) refl above (level_of w here.live_is ∙ same.1))
      by w here holds (inr h) = record {
        w = w;
        u = h.u;
        live_is = here.live_is;
        address_is = here.address_is;
        holds = holds;
        there = h.good;
        address = sym h.above ∙ sym (ap (λ (l : Live). l.parent) here.live_is);
        touches = h.touches;
      }

  -- one comes to such a block from an address on
  abbrev pub At : ℕ → Expect → Type 0
  At to v = v.address ≡ to → comes v ≡ true

  alike_at : (v u : Expect) → IsThere v → IsThere u → v.address ≡ u.address → comes u ≡ true → comes v ≡ true
  alike_at v u here other same touches =
      let is : Some (live_at sup stored v) ≡ Some (live_at sup stored u) = sym here.0 ∙ (ap table same ∙ other.0) in
      let level : v.level ≡ u.level = ap (λ (l : Live). l.level) (some_same (live_at sup stored v) (live_at sup stored u) is) in
      let whole : Visits Known (of u.level v) = subst (λ n. Visits Known (of n v)) level here.1 in
      ap (λ n. visits_any Touch (of n v)) level ∙ (alike_block Known u.level v u same (alike_below Known u.level v u) whole other.1 ∙ touches)

  -- what the nodes above lead to
  climbs : (root : Expect) → Visits Known (trail_of sup stored root) → Only root → (to from : ℕ) → ClimbsTo table to from → Visits (At from) (trail_of sup stored root) → Visits (At to) (trail_of sup stored root)
  climbs root known only to from Here all = all
  climbs root known only to start (Up from live is above rest) all =
      let a = is_under (At from) root known only all from live is above in
      climbs root known only to live.parent rest
      (visits_map IsThere (At live.parent) (trail_of sup stored root) (λ v here same. alike_at v a.u here a.there (same ∙ sym a.address) (a.touches (a.holds a.address_is))) (there root known))

  touched_at : (root : Expect) → Visits Known (trail_of sup stored root) → (from : ℕ) → touched from ≡ true → Visits (At from) (trail_of sup stored root)
  touched_at root known from is = visits_map IsThere (At from) (trail_of sup stored root) (λ v here same. by v here.1 same) (there root known)
    where
      by : (v : Expect) → Below Known sup stored v → v.address ≡ from → comes v ≡ true
      by v all same =
          let a = accepts Known (trail_below v.level sup stored) sup stored v all in
          any_trail_and Known Touch (trail_below v.level sup stored) sup stored v a all ∙ rw (ap touched same, is) refl

  module _ (marked : ℕ → Bool) where
    -- from each block that is marked one comes to such a block
    marked_touched : (root : Expect) → Visits Known (trail_of sup stored root) → Only root → AreMarkedUp table touched marked → Visits (λ v. marked v.address ≡ true → comes v ≡ true) (trail_of sup stored root)
    marked_touched root known only marks =
        visits_map (λ v. (to : ℕ) → marked to ≡ true → At to v) (λ v. marked v.address ≡ true → comes v ≡ true) (trail_of sup stored root)
        (λ v h is. h v.address is refl)
        (visits_all (λ to v. marked to ≡ true → At to v) (trail_of sup stored root) (λ to. by to (marked to) refl))
      where
        reached : (to : ℕ) → (from : ℕ) × (touched from ≡ true) × ClimbsTo table to from → Visits (At to) (trail_of sup stored root)
        reached to h = climbs root known only to h.0 h.2 (touched_at root known h.0 h.1)

        by : (to : ℕ) (b : Bool) → marked to ≡ b → Visits (λ v. b ≡ true → At to v) (trail_of sup stored root)
        by to true is = visits_map (At to) (λ v. true ≡ true → At to v) (trail_of sup stored root) (λ v h t. h) (reached to (marks.only to is))
        by to false is = visits_map Known (λ v. false ≡ true → At to v) (trail_of sup stored root) (λ v h t. absurd (cc)) known

    -- from where one comes to such a block, it is marked
    abbrev pub IsMarked : Expect → Type 0
    IsMarked v = marked v.address ≡ true

    complete_children : (level : ℕ) → ((c : Expect) → Visits Known (of level c) → visits_any Touch (of level c) ≡ true → c.level ≡ level → IsMarked c)
        → (e : Expect) (pointers : List Pointer) → ((c : Expect) → c.parent ≡ e.address → c.level ≡ level → Known c → IsMarked c → IsMarked e)
        → Visits Known (trails (of level) (children_of level e pointers)) → visits_any Touch (trails (of level) (children_of level e pointers)) ≡ true → IsMarked e
    complete_children level complete e [] up all is = absurd (cc)
    complete_children level complete e (pointer ∷ pointers) up all is =
        by (or_cases (visits_any Touch (of level c)) (visits_any Touch rest) (sym (any_then Known Touch (of level c) rest all) ∙ is)) (complete_children level complete e pointers up (visits_then_later Known (of level c) rest all))
      where
        c : Expect
        c = child_of level e pointer (high_of pointers e.high)

        rest : Trail
        rest = trails (of level) (children_of level e pointers)

        first : Visits Known (of level c)
        first = visits_then_first Known (of level c) rest all

        by : (visits_any Touch (of level c) ≡ true) ⊎ (visits_any Touch rest ≡ true) → (visits_any Touch rest ≡ true → IsMarked e) → IsMarked e
        by (inl touches) later = up c refl refl (here_of Known (trail_below level sup stored) sup stored c first) (complete c first touches refl)
        by (inr touches) later = later touches

    complete_block : (level : ℕ) (e : Expect) → AreMarkedUp table touched marked
        → ((bytes : List ℕ) → Known e → Visits Known (trail_below level sup stored e bytes) → visits_any Touch (trail_below level sup stored e bytes) ≡ true → IsMarked e)
        → Visits Known (of level e) → visits_any Touch (of level e) ≡ true → IsMarked e
    complete_block level e marks complete all is =
        let a = accepts Known (trail_below level sup stored) sup stored e all in
        let later : Visits Known (trail_below level sup stored e a.bytes) = rest_of Known (trail_below level sup stored) sup stored e a all in
        by (or_cases (Touch e) (visits_any Touch (trail_below level sup stored e a.bytes)) (sym (any_trail_and Known Touch (trail_below level sup stored) sup stored e a all) ∙ is)) (complete a.bytes here later)
      where
        here : Known e
        here = here_of Known (trail_below level sup stored) sup stored e all

        by : {b : Bool} → (Touch e ≡ true) ⊎ (b ≡ true) → (b ≡ true → IsMarked e) → IsMarked e
        by (inl touches) later = marks.found e.address touches (rw here refl)
        by (inr touches) later = later touches

    -- the node above what is marked is marked
    marked_up : AreMarkedUp table touched marked → (level : ℕ) (c e : Expect) → c.parent ≡ e.address → c.level ≡ level → e.level ≡ suc level → Known c → Known e → IsMarked c → IsMarked e
    marked_up marks level c e parent low high known here is =
        let at : AboveIsMarked table marked (Some (live_at sup stored c)) = subst (AboveIsMarked table marked) known (marks.closed c.address is) in
        subst (λ a. marked a ≡ true) parent (at (rw (parent, here, low, high) (less level)))
      where
        less : (n : ℕ) → nat_lt n (suc n) ≡ true
        less n = grind (arith, nat_tests)

    complete_below : (level : ℕ) (e : Expect) (bytes : List ℕ) → e.level ≡ level → AreMarkedUp table touched marked
        → Known e → Visits Known (trail_below level sup stored e bytes) → visits_any Touch (trail_below level sup stored e bytes) ≡ true → IsMarked e
    unfolding trail_below
    complete_below zero e bytes at marks here all is = absurd (cc)
    complete_below (suc level) e bytes at marks here all is =
        complete_children level
        (λ c visits touches low. complete_block level c marks (λ more. complete_below level c more low marks) visits touches)
        e (pointers_of bytes) (λ c parent low known. marked_up marks level c e parent low at known here) all is

    pub marks_are : (root : Expect) → Visits Known (trail_of sup stored root) → Only root → AreMarkedUp table touched marked → Visits (λ v. marked v.address ≡ comes v) (trail_of sup stored root)
    marks_are root known only marks =
        visits_map (λ v. Below Known sup stored v × (marked v.address ≡ true → comes v ≡ true)) (λ v. marked v.address ≡ comes v) (trail_of sup stored root)
        (λ v h. both_ways (marked v.address) (comes v) h.1 (complete_block v.level v marks (λ bytes. complete_below v.level v bytes refl marks) h.0))
        (visits_both (Below Known sup stored) (λ v. marked v.address ≡ true → comes v ≡ true) (trail_of sup stored root)
        (within Known sup stored root known) (marked_touched root known only marks))

pub marks : MarkingLaw
marks pairs must may marked sup stored root stands narrow same up =
    let test = must root.tree in
    let T : Table = pairs root.tree in
    let Kn = λ (v : Expect). pairs v.tree v.address ≡ Some (live_at sup stored v) in
    let Kt = Known T sup stored test in
    let known : Visits Kn (trail_of sup stored root) = visits_from Kn sup stored root stands.each in
    let tree : Visits (λ w. w.tree ≡ root.tree) (trail_of sup stored root) = of_tree Kn sup stored root known in
    let knows : Visits Kt (trail_of sup stored root) =
    visits_map (λ v. Kn v × (v.tree ≡ root.tree)) Kt (trail_of sup stored root) (λ v h. subst (λ t. pairs t v.address ≡ Some (live_at sup stored v)) h.1 h.0)
    (visits_both Kn (λ w. w.tree ≡ root.tree) (trail_of sup stored root) known tree) in
    let only : Only T sup stored test root =
    λ address. if_some_map (pairs root.tree address) (λ live. OneOf (IsKnown sup stored root.tree address live) (visited sup stored root)) (λ live. VisitsOne (IsKnown sup stored root.tree address live) (trail_of sup stored root))
    (λ live one. visits_one_from (IsKnown sup stored root.tree address live) Kn sup stored root known one) (stands.only address) in
    let are = marks_are T sup stored test (marked root.tree) root knows only (of_one pairs must may marked root.tree narrow same up) in
    comes_from (λ v. marked v.tree v.address ≡ comes_to test sup stored v) sup stored root
    (visits_map (λ v. (marked root.tree v.address ≡ visits_any (λ w. test w.address) (trail_of sup stored v)) × ((v.tree ≡ root.tree) × Below Kn sup stored v)) (λ v. marked v.tree v.address ≡ comes_to test sup stored v) (trail_of sup stored root)
    (λ v h. ap (λ t. marked t v.address) h.1.0 ∙ (h.0 ∙ sym (visits_any_from Kn test sup stored v h.1.1)))
    (visits_both (λ v. marked root.tree v.address ≡ visits_any (λ w. test w.address) (trail_of sup stored v)) (λ v. (v.tree ≡ root.tree) × Below Kn sup stored v) (trail_of sup stored root) are
    (visits_both (λ w. w.tree ≡ root.tree) (Below Kn sup stored) (trail_of sup stored root) tree (within Kn sup stored root known))))
