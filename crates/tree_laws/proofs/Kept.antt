-- A block is kept just where its pair is shared.
use Rattle.std.proofs.Common.{◌≡◌, ℕ, zero, suc, ◌==◌, Bool, true, false, not, ◌&&◌, ◌||◌, List, [], ◌∷◌, refl, ap, sym, subst, ◌∙◌, arith, if◌then◌else◌}
use Rattle.std.proofs.lemmas.Bool.{eqb-true}
use Rattle.std.proofs.lemmas.Bool.Decides.{nat_tests}
use Rattle.std.proofs.lemmas.Grind.{common_steps}
use Rattle.std.specs.Prelude.{Option, Some, None, Ok, is_none, is_some}
use Rattle.std.specs.List.{AllByRecursion, list_any}
use Rattle.tree_laws.proofs.Mixing.{same_itself}
use Rattle.verdict.proofs.Lists.{all_map as each_map}
use Rattle.verdict.proofs.Numbers.{same_there}
use Rattle.verdict.proofs.Truth.{and_parts, or_right}
use Rattle.verdict.specs.OnDisk.{key_same}
use Rattle.verdict.specs.declared.key.Key.{Key}
use Rattle.super_reader.specs.declared.Super.{Super}
use Rattle.live_index.specs.Pairs.{Pairs}
use Rattle.live_index.specs.declared.live.Live.{Live}
use Rattle.node_reader.specs.Layout.{pointers_of}
use Rattle.node_reader.specs.Stored.{Stored}
use Rattle.node_reader.specs.declared.expect.Expect.{Expect}
use Rattle.node_reader.specs.declared.expect.Pointer.{Pointer}
use Rattle.records.specs.Walk.{child_of, children_of, high_of}
use Rattle.records.specs.WalkLaw.{visited}
use Rattle.tree_laws.specs.Keeping.{AreMarked, Marks, Stands, Under, bound_of, comes_to, first_in, is_first, is_same, kept_of, last_if_same, live_at}
use Rattle.tree_laws.specs.LivePairs.{Walked, live_in, table_of}
use Rattle.tree_laws.specs.Shared.{are_alike, are_read_alike, is_shared_by, stands_untouched}
use Rattle.tree_laws.specs.SharedLaw.{IsBefore, KeepsSharedBy, KeptTreeLaw}
use Rattle.tree_laws.specs.TableLaw.{AreApart, Tree}
use Rattle.tree_laws.specs.declared.told.Start.{Start}
use Rattle.tree_laws.proofs.Accepted.{Accepts, IsAs, accepts, visit_of, walk_accepted}
use Rattle.tree_laws.proofs.Forest.{lives_all, of_root, tables_stand, walks}
use Rattle.tree_laws.proofs.Lasting.{low_fits}
use Rattle.tree_laws.proofs.Picking.{comes_there, each_both, each_if, is_at, is_there, one_of, table_some, there_trees}
use Rattle.tree_laws.proofs.Sharing.{same_from}
use Rattle.tree_laws.proofs.Sifting.{IsSame, LowAt}
use Rattle.tree_laws.proofs.Tables.{Any, any_each}
use Rattle.tree_laws.proofs.Trails.{Trail, trail_and, trail_below, trail_of, trails}
use Rattle.tree_laws.proofs.Untouching.{free_all, is_free}
use Rattle.tree_laws.proofs.Visiting.{Visits, comes_from, visits_after, visits_any_from, visits_fail, visits_from, visits_then, visits_then_first, visits_then_later}
use Rattle.tree_laws.proofs.Within.{Below, here_of, rest_of, within}

-- a block that has no low key has no high key
abbrev pub IsBounded : Expect → Type 0
IsBounded v = (is_some v.low || is_none v.high) ≡ true

bounded_children : (P : Expect → Type 0) (of : Expect → Trail) → ((c : Expect) → IsBounded c → Visits P (of c) → Visits IsBounded (of c))
    → (level : ℕ) (e : Expect) (pointers : List Pointer) → Visits P (trails of (children_of level e pointers))
    → Visits IsBounded (trails of (children_of level e pointers))
bounded_children P of bounded level e [] all = tt
bounded_children P of bounded level e (pointer ∷ pointers) all =
    let c = child_of level e pointer (high_of pointers e.high) in
    let rest = trails of (children_of level e pointers) in
    visits_then IsBounded (of c) rest (bounded c refl (visits_then_first P (of c) rest all))
    (bounded_children P of bounded level e pointers (visits_then_later P (of c) rest all))

bounded_block : (P : Expect → Type 0) (below : Expect → List ℕ → Trail) (sup : Super) (stored : Stored) (e : Expect) → IsBounded e
    → ((bytes : List ℕ) → Visits P (below e bytes) → Visits IsBounded (below e bytes)) → Visits P (trail_and below sup stored e)
    → Visits IsBounded (trail_and below sup stored e)
bounded_block P below sup stored e here bounded all =
    let a = accepts P below sup stored e all in
    subst (Visits IsBounded) (sym (walk_accepted below sup stored e a))
    (visits_after IsBounded (visit_of e a.bytes a.entries ∷ []) (below e a.bytes) (here, tt) (bounded a.bytes (rest_of P below sup stored e a all)))

bounded_below : (P : Expect → Type 0) (level : ℕ) (sup : Super) (stored : Stored) (e : Expect) (bytes : List ℕ)
    → Visits P (trail_below level sup stored e bytes) → Visits IsBounded (trail_below level sup stored e bytes)
unfolding trail_below
bounded_below P zero sup stored e bytes all = tt
bounded_below P (suc level) sup stored e bytes all =
    bounded_children P (trail_and (trail_below level sup stored) sup stored)
    (λ c is. bounded_block P (trail_below level sup stored) sup stored c is (bounded_below P level sup stored c)) level e (pointers_of bytes) all

bounded_of : (P : Expect → Type 0) (sup : Super) (stored : Stored) (e : Expect) → IsBounded e → Visits P (trail_of sup stored e)
    → Visits IsBounded (trail_of sup stored e)
bounded_of P sup stored e is all = bounded_block P (trail_below e.level sup stored) sup stored e is (bounded_below P e.level sup stored e) all

-- whether what a table has of a pair is alike to it and not marked
abbrev pub is_fresh : Bool → Live → Option Live → Bool
is_fresh mark live None = false
is_fresh mark live (Some one) = are_alike one live && not mark

share : (a b f : Bool) → ((a && f) || (b && f)) ≡ ((a || b) && f)
share true true true = refl
share true true false = refl
share true false true = refl
share true false false = refl
share false true true = refl
share false true false = refl
share false false true = refl
share false false false = refl

module _ (sup : Super) (touched : ℕ → Bool) (marked : Marks) (pairs : Pairs) where
  -- what is known of a block that an old walk comes to
  pub record OldBlock (tree : Tree) (id : ℕ) (w : Expect) : Type 0 where
    pub known : pairs w.tree w.address ≡ Some (live_at sup tree.0 w)
    pub of : w.tree ≡ tree.1.tree
    pub below : Visits (Any sup tree.0) (trail_of sup tree.0 w)
    pub marks : tree.1.tree ≡ id → marked w.tree w.address ≡ comes_to touched sup tree.0 w

  abbrev pub OldTree : ℕ → Tree → Type 0
  OldTree id tree = AllByRecursion (OldBlock tree id) (visited sup tree.0 tree.1)

  old_tree : (id : ℕ) (tree : Tree) → Stands pairs sup tree.0 tree.1 → (tree.1.tree ≡ id → AreMarked marked touched sup tree.0 tree.1)
      → OldTree id tree
  old_tree id tree stands marks =
      let es = visited sup tree.0 tree.1 in
      let any : Visits (Any sup tree.0) (trail_of sup tree.0 tree.1) =
      visits_from (Any sup tree.0) sup tree.0 tree.1 (record { fine = stands.each.fine; each = any_each sup tree.0 es }) in
      let below = comes_from (Below (Any sup tree.0) sup tree.0) sup tree.0 tree.1 (within (Any sup tree.0) sup tree.0 tree.1 any) in
      let known = λ (w : Expect). pairs w.tree w.address ≡ Some (live_at sup tree.0 w) in
      let of = λ (w : Expect). w.tree ≡ tree.1.tree in
      let deep = λ (w : Expect). Below (Any sup tree.0) sup tree.0 w in
      let mark = λ (w : Expect). tree.1.tree ≡ id → marked w.tree w.address ≡ comes_to touched sup tree.0 w in
      each_map (λ w. (known w × of w) × (deep w × mark w)) (OldBlock tree id) es
      (λ w h. record { known = h.0.0; of = h.0.1; below = h.1.0; marks = h.1.1 })
      (each_both (λ w. known w × of w) (λ w. deep w × mark w) es
      (each_both known of es stands.each.each (of_root sup tree stands.each.fine).each)
      (each_both deep mark es below.each
      (each_if (tree.1.tree ≡ id) (λ w. marked w.tree w.address ≡ comes_to touched sup tree.0 w) es (λ is. (marks is).each))))

  -- a block that an old walk comes to is alike to a pair and free of touched ones just where the table's entry is, if it is that entry
  fresh_block : (live : Live) (tree : Tree) (w : Expect) → OldBlock tree live.tree w
      → is_free touched live sup tree.0 w
      ≡ (is_at live.tree live.address w && is_fresh (marked live.tree live.address) live (pairs live.tree live.address))
  fresh_block live tree w b = by (is_at live.tree live.address w) refl
    where
      by : (here : Bool) → is_at live.tree live.address w ≡ here
          → is_free touched live sup tree.0 w ≡ (here && is_fresh (marked live.tree live.address) live (pairs live.tree live.address))
      by true is =
          let both = and_parts (w.tree == live.tree) (w.address == live.address) is in
          let same_tree : w.tree ≡ live.tree = eqb-true w.tree live.tree both.0 in
          let same_address : w.address ≡ live.address = eqb-true w.address live.address both.1 in
          let entry : pairs live.tree live.address ≡ Some (live_at sup tree.0 w) =
          ap (λ t. pairs t live.address) (sym same_tree) ∙ (ap (pairs w.tree) (sym same_address) ∙ b.known) in
          let mark : marked live.tree live.address ≡ comes_to touched sup tree.0 w =
          ap (λ t. marked t live.address) (sym same_tree) ∙ (ap (marked w.tree) (sym same_address) ∙ b.marks (sym b.of ∙ same_tree)) in
          ap (λ m. are_alike (live_at sup tree.0 w) live && not m) (sym mark) ∙ ap (is_fresh (marked live.tree live.address) live) (sym entry)
      by false is =
          ap (λ here. (here && (w.level == live.level &&
          (w.generation == live.generation && key_same (first_in (tree.0 w.address)) live.first))) && not (comes_to touched sup tree.0 w)) is

  fresh_blocks : (live : Live) (tree : Tree) (es : List Expect) → AllByRecursion (OldBlock tree live.tree) es
      → list_any (is_free touched live sup tree.0) es
      ≡ (list_any (is_at live.tree live.address) es && is_fresh (marked live.tree live.address) live (pairs live.tree live.address))
  fresh_blocks live tree [] all = refl
  fresh_blocks live tree (e ∷ es) all =
      let f = is_fresh (marked live.tree live.address) live (pairs live.tree live.address) in
      ap (λ b. b || list_any (is_free touched live sup tree.0) es) (fresh_block live tree e all.0)
      ∙ (ap (λ b. (is_at live.tree live.address e && f) || b) (fresh_blocks live tree es all.1)
      ∙ share (is_at live.tree live.address e) (list_any (is_at live.tree live.address) es) f)

  fresh_trees : (live : Live) (trees : List Tree) → AllByRecursion (OldTree live.tree) trees
      → list_any (λ tree. list_any (is_free touched live sup tree.0) (visited sup tree.0 tree.1)) trees
      ≡ (list_any (comes_there sup live.tree live.address) trees && is_fresh (marked live.tree live.address) live (pairs live.tree live.address))
  fresh_trees live [] all = refl
  fresh_trees live (tree ∷ trees) all =
      let f = is_fresh (marked live.tree live.address) live (pairs live.tree live.address) in
      let more = list_any (λ tree. list_any (is_free touched live sup tree.0) (visited sup tree.0 tree.1)) trees in
      ap (λ b. b || more) (fresh_blocks live tree (visited sup tree.0 tree.1) all.0)
      ∙ (ap (λ b. (comes_there sup live.tree live.address tree && f) || b) (fresh_trees live trees all.1)
      ∙ share (comes_there sup live.tree live.address tree) (list_any (comes_there sup live.tree live.address) trees) f)

pub alike_itself : (live : Live) → are_alike live live ≡ true
alike_itself live = grind (arith, common_steps, nat_tests)

-- and is alike to one
table_alike : (lives : List Live) (id address : ℕ) (one : Live) → table_of lives id address ≡ Some one → list_any (are_alike one) lives ≡ true
table_alike [] id address one is = absurd (cc)
table_alike (live ∷ lives) id address one is = by (is_there id address live) is (table_alike lives id address one)
  where
    some_live : (a b : Live) → Some a ≡ Some b → a ≡ b
    some_live a b is = cc

    by : (b : Bool) → (if b then Some live else table_of lives id address) ≡ Some one
        → (table_of lives id address ≡ Some one → list_any (are_alike one) lives ≡ true)
        → (are_alike one live || list_any (are_alike one) lives) ≡ true
    by true is rest = ap (λ b. b || list_any (are_alike one) lives) (ap (λ x. are_alike one x) (some_live live one is) ∙ alike_itself one)
    by false is rest = or_right (are_alike one live) (list_any (are_alike one) lives) (rest is)

-- where a table that is alike to no pair ..
if_fresh : (there : Bool) (mark : Bool) (live : Live) (entry : Option Live) → ((one : Live) → entry ≡ Some one → there ≡ true)
    → (there && is_fresh mark live entry) ≡ is_fresh mark live entry
if_fresh true mark live entry some = refl
if_fresh false mark live None some = refl
if_fresh false mark live (Some one) some = let never : false ≡ true = some one refl in absurd (cc)

-- what is kept of a block, and what is shared of its pair
meets : (v : Expect) (live : Live) (starts : List Start) (mark stays : Bool) (entry : Option Live)
    → ((one : Live) → entry ≡ Some one → mark ≡ false → stays ≡ true → is_same v one ≡ are_alike one live)
    → is_some (if mark || not stays then None else last_if_same v starts entry) ≡ (stays && (is_fresh mark live entry && true))
meets v live starts true true None same = refl
meets v live starts true true (Some one) same = by (are_alike one live)
  where
    by : (b : Bool) → false ≡ ((b && false) && true)
    by true = refl
    by false = refl
meets v live starts true false entry same = refl
meets v live starts false false entry same = refl
meets v live starts false true None same = refl
meets v live starts false true (Some one) same = by (is_same v one) (are_alike one live) (same one refl refl refl)
  where
    by : (a b : Bool) → a ≡ b → is_some (if a then Some (bound_of starts one.last) else None) ≡ ((b && true) && true)
    by true true is = refl
    by false false is = refl
    by true false is = absurd (cc)
    by false true is = absurd (cc)

turn : (a b c d : ℕ) (x : Bool) → (a == b && (c == d && x)) ≡ ((b == a && d == c) && x)
turn a b c d x = by (a == b) (b == a) (c == d) (d == c) (swap a b) (swap c d)
  where
    swap : (m n : ℕ) → (m == n) ≡ (n == m)
    swap m n = grind (arith, nat_tests)

    by : (p q r s : Bool) → p ≡ q → r ≡ s → (p && (r && x)) ≡ ((q && s) && x)
    by true true r s pq rs = ap (λ b. b && x) rs
    by false false r s pq rs = refl
    by true false r s pq rs = absurd (cc)
    by false true r s pq rs = absurd (cc)

only_if : (a f : Bool) → (a ≡ true → f ≡ true) → (a && f) ≡ (a && true)
only_if true f same = same refl
only_if false f same = refl

-- what is alike to the pair of a block that is stored as it was
alike_there : (a b : Live) → a.tree ≡ b.tree → a.address ≡ b.address → a.first ≡ b.first
    → are_alike a b ≡ ((b.level == a.level && b.generation == a.generation) && true)
alike_there a b tree address first =
    let both : (a.tree == b.tree && a.address == b.address) ≡ true =
    rw (same_there a.tree b.tree tree, same_there a.address b.address address) refl in
    ap (λ x. x && (a.level == b.level && (a.generation == b.generation && key_same a.first b.first))) both
    ∙ (ap (λ x. a.level == b.level && (a.generation == b.generation && x)) (ap (key_same a.first) (sym first) ∙ same_itself a.first)
    ∙ turn a.level b.level a.generation b.generation true)

module _ (stays touched : ℕ → Bool) (old new : Walked) (pairs : Pairs) (marked : Marks) (under : Under) (stored : Stored) (root : Expect) where
  abbrev pub table : Pairs
  table = table_of (live_in old.seen)

  abbrev pub moved : ℕ → Bool
  moved a = not (stays a)

  -- what is known of a block that the new walk comes to
  pub record NewBlock (v : Expect) : Type 0 where
    pub known : table_of (live_in new.seen) v.tree v.address ≡ Some (live_at new.sup stored v)
    pub of : v.tree ≡ root.tree
    pub below : Visits (Any new.sup stored) (trail_of new.sup stored v)
    pub bound : IsBounded v

  new_blocks : Stands (table_of (live_in new.seen)) new.sup stored root → root.high ≡ None → AllByRecursion NewBlock (visited new.sup stored root)
  new_blocks stands high =
      let es = visited new.sup stored root in
      let any : Visits (Any new.sup stored) (trail_of new.sup stored root) =
      visits_from (Any new.sup stored) new.sup stored root (record { fine = stands.each.fine; each = any_each new.sup stored es }) in
      let below = comes_from (Below (Any new.sup stored) new.sup stored) new.sup stored root (within (Any new.sup stored) new.sup stored root any) in
      let bound =
      comes_from IsBounded new.sup stored root
      (bounded_of (Any new.sup stored) new.sup stored root (or_right (is_some root.low) (is_none root.high) (ap is_none high)) any) in
      let known = λ (v : Expect). table_of (live_in new.seen) v.tree v.address ≡ Some (live_at new.sup stored v) in
      let of = λ (v : Expect). v.tree ≡ root.tree in
      let deep = λ (v : Expect). Below (Any new.sup stored) new.sup stored v in
      each_map (λ v. (known v × of v) × (deep v × IsBounded v)) NewBlock es
      (λ v h. record { known = h.0.0; of = h.0.1; below = h.1.0; bound = h.1.1 })
      (each_both (λ v. known v × of v) (λ v. deep v × IsBounded v) es
      (each_both known of es stands.each.each (of_root new.sup (stored, root) stands.each.fine).each)
      (each_both deep IsBounded es below.each bound.each))

  -- a block that is stored as it was is as it is expected where its level and generation are
  same_block : (was : Stored) (v w : Expect) → NewBlock v → w.tree ≡ v.tree → w.address ≡ v.address → stored v.address ≡ was w.address
      → Visits (Any old.sup was) (trail_of old.sup was w)
      → is_same v (live_at old.sup was w) ≡ are_alike (live_at old.sup was w) (live_at new.sup stored v)
  same_block was v w b tree address same below =
      only_if (v.level == w.level && v.generation == w.generation) (is_first (live_at old.sup was w) v.low v.high)
      (λ is. by (and_parts (v.level == w.level) (v.generation == w.generation) is) v.low v.high refl refl b.bound)
      ∙ sym (alike_there (live_at old.sup was w) (live_at new.sup stored v) tree address (ap first_in (sym same)))
    where
      a : Accepts new.sup stored v
      a = accepts (Any new.sup stored) (trail_below v.level new.sup stored) new.sup stored v b.below

      by : (v.level == w.level) ≡ true × (v.generation == w.generation) ≡ true → (low high : Option Key) → v.low ≡ low → v.high ≡ high
          → (is_some low || is_none high) ≡ true
          → is_first (live_at old.sup was w) low high ≡ true
      by both None None is_low is_high bound = refl
      by both None (Some high) is_low is_high bound = absurd (cc)
      by both (Some low) high is_low is_high bound =
          let level : v.level ≡ w.level = eqb-true v.level w.level both.0 in
          let generation : v.generation ≡ w.generation = eqb-true v.generation w.generation both.1 in
          let bytes : was w.address ≡ Ok a.bytes = sym same ∙ a.is in
          let block : IsAs v w = record { tree = sym tree; address = sym address; generation = generation; level = level } in
          let fits : LowAt v.low w.level (was w.address) =
          subst (LowAt v.low w.level) (sym bytes) (subst (λ n. LowAt v.low n (Ok a.bytes)) level (low_fits new.sup stored v a)) in
          let is : IsSame was v w = record { block = block; low = fits } in
          let first : is_first (live_at old.sup was w) v.low v.high ≡ true =
          (and_parts (v.level == w.level && v.generation == w.generation) (is_first (live_at old.sup was w) v.low v.high)
          (same_from (Any old.sup was) old.sup was v w is (ap is_some is_low) below)).1 in
          subst (λ h. is_first (live_at old.sup was w) (Some low) h ≡ true) is_high
          (subst (λ l. is_first (live_at old.sup was w) l v.high ≡ true) is_low first)

  abbrev pub Before : Tree → Type 0
  Before tree = tree.1.tree ≡ root.tree → IsBefore stays touched old marked stored tree

  module _ (trees : List Tree) (apart : AreApart trees) (told : walks old.sup trees ≡ Ok old.seen) (before : AllByRecursion Before trees)
      (alike : are_read_alike old.sup new.sup ≡ true) (pairs_are : (address : ℕ) → pairs root.tree address ≡ table root.tree address) where
    abbrev pub Was : ℕ → Tree → Type 0
    Was id tree = OldTree old.sup touched marked table id tree

    olds : (id : ℕ) → id ≡ root.tree → AllByRecursion (Was id) trees
    olds id same =
        each_map (λ (tree : Tree). Stands table old.sup tree.0 tree.1 × Before tree) (Was id) trees
        (λ tree h. old_tree old.sup touched marked table id tree h.0 (λ is. (h.1 (is ∙ same)).marks))
        (each_both (λ (tree : Tree). Stands table old.sup tree.0 tree.1) Before trees (tables_stand old.sup trees old.seen apart told) before)

    entry_is : (v : Expect) → NewBlock v → pairs v.tree v.address ≡ table v.tree v.address
    entry_is v b = ap (λ t. pairs t v.address) b.of ∙ (pairs_are v.address ∙ ap (λ t. table t v.address) (sym b.of))

    -- a pair of the table is that of a block of an old tree
    there_if : (id address : ℕ) (one : Live) → table id address ≡ Some one → list_any (comes_there old.sup id address) trees ≡ true
    there_if id address one is =
        sym (there_trees old.sup id address trees)
        ∙ (ap (list_any (is_there id address)) (sym (lives_all old.sup trees old.seen apart told)) ∙ table_some (live_in old.seen) id address one is)

    fresh : (v : Expect) → NewBlock v
        → stands_untouched touched old.seen (live_at new.sup stored v)
        ≡ is_fresh (marked v.tree v.address) (live_at new.sup stored v) (pairs v.tree v.address)
    fresh v b =
        let live = live_at new.sup stored v in
        free_all touched live old.sup trees old.seen apart told
        ∙ (fresh_trees old.sup touched marked table live trees (olds v.tree b.of)
        ∙ (if_fresh (list_any (comes_there old.sup v.tree v.address) trees) (marked v.tree v.address) live (table v.tree v.address)
        (there_if v.tree v.address)
        ∙ ap (is_fresh (marked v.tree v.address) live) (sym (entry_is v b))))

    same_known : (v : Expect) → NewBlock v → (one : Live) → pairs v.tree v.address ≡ Some one → marked v.tree v.address ≡ false
        → moved v.address ≡ false → is_same v one ≡ are_alike one (live_at new.sup stored v)
    same_known v b one is mark still =
        let entry : table v.tree v.address ≡ Some one = sym (entry_is v b) ∙ is in
        let pick = one_of (λ tree. Was v.tree tree × Before tree) (comes_there old.sup v.tree v.address) trees
        (each_both (Was v.tree) Before trees (olds v.tree b.of) before) (there_if v.tree v.address one entry) in
        let tree = pick.0 in
        let at =
        one_of (OldBlock old.sup touched marked table tree v.tree) (is_at v.tree v.address) (visited old.sup tree.0 tree.1) pick.1.0 pick.2 in
        let w = at.0 in
        let known : OldBlock old.sup touched marked table tree v.tree w = at.1 in
        let both = and_parts (w.tree == v.tree) (w.address == v.address) at.2 in
        let same_tree : w.tree ≡ v.tree = eqb-true w.tree v.tree both.0 in
        let same_address : w.address ≡ v.address = eqb-true w.address v.address both.1 in
        let was = pick.1.1 (sym known.of ∙ (same_tree ∙ b.of)) in
        let free : comes_to touched old.sup tree.0 w ≡ false =
        sym (known.marks (sym known.of ∙ same_tree)) ∙ (ap (λ t. marked t w.address) same_tree ∙ (ap (marked v.tree) same_address ∙ mark)) in
        let none : touched w.address ≡ false =
        here_of (λ x. touched x.address ≡ false) (trail_below w.level old.sup tree.0) old.sup tree.0 w
        (visits_fail (Any old.sup tree.0) (λ x. touched x.address) (trail_of old.sup tree.0 w) known.below
        (sym (visits_any_from (Any old.sup tree.0) touched old.sup tree.0 w known.below) ∙ free)) in
        let stored_is : stored v.address ≡ tree.0 w.address =
        ap stored (sym same_address) ∙ was.alike w.address none (ap moved same_address ∙ still) in
        let live_is : live_at old.sup tree.0 w ≡ one =
        some_live (live_at old.sup tree.0 w) one
        (sym known.known ∙ (ap (λ t. table t w.address) same_tree ∙ (ap (table v.tree) same_address ∙ entry))) in
        subst (λ l. is_same v l ≡ are_alike l (live_at new.sup stored v)) live_is
        (same_block tree.0 v w b same_tree same_address stored_is known.below)
      where
        some_live : (a b : Live) → Some a ≡ Some b → a ≡ b
        some_live a b is = cc

    keeps_one : (v : Expect) → NewBlock v → is_some (kept_of pairs marked moved under v) ≡ is_shared_by stays touched old new (live_at new.sup stored v)
    unfolding kept_of is_shared_by
    keeps_one v b =
        let live = live_at new.sup stored v in
        meets v live (under v.tree v.address) (marked v.tree v.address) (stays v.address) (pairs v.tree v.address)
        (λ one is mark still. same_known v b one is mark (ap not still))
        ∙ rw (alike, fresh v b, table_alike (live_in new.seen) v.tree v.address live b.known) refl

    keeps_shared : Stands (table_of (live_in new.seen)) new.sup stored root → root.high ≡ None
        → KeepsSharedBy stays touched old new pairs marked under stored root
    keeps_shared stands high =
        each_map NewBlock (λ v. is_some (kept_of pairs marked moved under v) ≡ is_shared_by stays touched old new (live_at new.sup stored v))
        (visited new.sup stored root)
        (λ v b. keeps_one v b) (new_blocks stands high)

pub keeps_tree : KeptTreeLaw
keeps_tree stays touched old new trees pairs marked under stored root apart told stands high alike pairs_are before =
    keeps_shared stays touched old new pairs marked under stored root trees apart told before alike pairs_are stands high
