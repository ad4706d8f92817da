-- Whether a pair is alike to a block of these records, neither at which nor below which a test passes, is told by the blocks that the
-- walks come to.
use Rattle.std.proofs.Common.{◌≡◌, ℕ, zero, suc, Bool, true, false, not, ◌&&◌, ◌||◌, List, [], ◌∷◌, ◌++◌, refl, ap, sym, subst, ◌∙◌}
use Rattle.std.proofs.lemmas.List.Folds.{list_any-append}
use Rattle.std.specs.Prelude.{Ok, Err}
use Rattle.std.specs.List.{list_any}
use Rattle.walk_laws.proofs.Trees.{step_ok}
use Rattle.verdict.proofs.Truth.{or_assoc}
use Rattle.verdict.proofs.Lists.{append_append}
use Rattle.super_reader.specs.declared.Super.{Super}
use Rattle.live_index.specs.declared.live.Live.{Live}
use Rattle.node_reader.specs.Layout.{pointers_of}
use Rattle.node_reader.specs.Stored.{Stored, block_in}
use Rattle.node_reader.specs.declared.expect.Expect.{Expect}
use Rattle.node_reader.specs.declared.expect.Pointer.{Pointer}
use Rattle.records.specs.Seen.{Seen}
use Rattle.records.specs.Seen.Seen.{BlockSeen, PointerSeen, ItemSeen}
use Rattle.records.specs.Walk.{Records, behind, block_at, child_of, children_of, entry_records, high_of, own_records, walk_of}
use Rattle.records.specs.WalkLaw.{visited}
use Rattle.records.specs.declared.rec.WalkedBlock.{WalkedBlock}
use Rattle.tree_laws.specs.Keeping.{comes_to, live_at}
use Rattle.tree_laws.specs.LivePairs.{live_of, records_in}
use Rattle.tree_laws.specs.Shared.{are_alike, at_or_below, is_block_where, stands_untouched}
use Rattle.tree_laws.specs.Skips.{own_of}
use Rattle.tree_laws.specs.TableLaw.{AreApart, Tree}
use Rattle.tree_laws.proofs.Accepted.{Accepts, accepts, visit_of, walk_accepted}
use Rattle.tree_laws.proofs.Forest.{others_after, stops_none, then_ok, walks}
use Rattle.tree_laws.proofs.Lives.{Inside, NoBlocks, Placed, PlacedAll, Stops, Under, entries_none, inside_append, inside_none, live_is, ok_same, placed, placed_append, placed_none, records_until, stops_less, under_placed, walk_told}
use Rattle.tree_laws.proofs.Tables.{Any, any_each}
use Rattle.tree_laws.proofs.Trails.{Matches, Tells, Trail, Visit, after, all_own, all_own_append, tells, then_trail, trail_and, trail_below, trail_of, trails}
use Rattle.tree_laws.proofs.Visiting.{Visits, visits_from, visits_then_first, visits_then_later}
use Rattle.tree_laws.proofs.Within.{rest_of}

-- records without a block have none that passes a test
where_none : (test : ℕ → Bool) (records : List Seen) → NoBlocks records → list_any (is_block_where test) records ≡ false
where_none test [] none = refl
where_none test (BlockSeen one ∷ more) none = elim none [ ]
where_none test (PointerSeen one ∷ more) none = where_none test more none
where_none test (ItemSeen one ∷ more) none = where_none test more none

-- the own records of a block have that block alone
where_behind : (test : ℕ → Bool) (block : WalkedBlock) (entries : Records) (own : List Seen) → ((some : List Seen) → entries ≡ Ok some → NoBlocks some)
    → behind (BlockSeen block ∷ []) entries ≡ Ok own → list_any (is_block_where test) own ≡ test block.address
unfolding behind
where_behind test block (Err finding) own none is = absurd (cc)
where_behind test block (Ok entries) own none is =
    let same : BlockSeen block ∷ entries ≡ own = cc in
    sym (ap (list_any (is_block_where test)) same)
    ∙ (ap (λ b. test block.address || b) (where_none test entries (none entries refl)) ∙ or_nil (test block.address))
  where
    or_nil : (b : Bool) → (b || false) ≡ b
    or_nil true = refl
    or_nil false = refl

where_own : (test : ℕ → Bool) (sup : Super) (stored : Stored) (e : Expect) (own : List Seen) → own_of sup stored e ≡ Ok own
    → list_any (is_block_where test) own ≡ test e.address
unfolding own_records
where_own test sup stored e own is =
    let read = step_ok (block_in stored sup.fsid e) (own_records sup e) own is in
    where_behind test (block_at e read.0) (entry_records sup e read.0) own (λ entries has. entries_none sup e read.0 entries has) read.2

where_all : (test : ℕ → Bool) (sup : Super) (stored : Stored) (visits : List Visit) (es : List Expect) → Matches sup stored visits es
    → list_any (is_block_where test) (all_own visits) ≡ list_any (λ w. test w.address) es
where_all test sup stored [] [] m = refl
where_all test sup stored [] (e ∷ es) m = elim m [ ]
where_all test sup stored (v ∷ visits) [] m = elim m [ ]
where_all test sup stored (v ∷ visits) (e ∷ es) m =
    list_any-append (is_block_where test) v.own (all_own visits)
    ∙ (ap (λ b. b || list_any (is_block_where test) (all_own visits)) (where_own test sup stored e v.own m.0.1)
    ∙ ap (λ b. test e.address || b) (where_all test sup stored visits es m.1))

-- a walk comes to an address that passes a test where one of its records is of such a block
where_walk : (test : ℕ → Bool) (sup : Super) (stored : Stored) (e : Expect) (records : List Seen) → walk_of sup stored e ≡ Ok records
    → list_any (is_block_where test) records ≡ comes_to test sup stored e
where_walk test sup stored e records is = by (trail_of sup stored e) (tells sup stored e)
  where
    by : (trail : Trail) → Tells sup stored trail (walk_of sup stored e) (visited sup stored e)
        → list_any (is_block_where test) records ≡ comes_to test sup stored e
    by (Err finding) t = let never : walk_of sup stored e ≡ Err finding = t.0 in absurd (cc)
    by (Ok visits) t =
        ap (list_any (is_block_where test)) (ok_same records (all_own visits) (sym is ∙ t.0))
        ∙ where_all test sup stored visits (visited sup stored e) t.1

module _ (touched : ℕ → Bool) (live : Live) (sup : Super) (stored : Stored) where
  -- whether a block has an alike pair, and neither it nor one below it passes the test
  abbrev pub is_free : Expect → Bool
  is_free v = are_alike (live_at sup stored v) live && not (comes_to touched sup stored v)

  abbrev pub any_free : List Visit → Bool
  any_free visits = list_any (λ (v : Visit). is_free v.e) visits

  abbrev pub stands : List Seen → Bool
  stands records = stands_untouched touched records live

  -- of blocks on a level with those below them, and before other records
  pub record Free (tree level : ℕ) (visits : List Visit) : Type 0 where
    pub at : Placed sup stored tree level visits
    pub gives : (rest : List Seen) → Stops tree level rest → stands (all_own visits ++ rest) ≡ (any_free visits || stands rest)

  pub record FreeUnder (tree level : ℕ) (visits : List Visit) : Type 0 where
    pub at : Under sup stored tree level visits
    pub gives : (rest : List Seen) → Stops tree level rest → stands (all_own visits ++ rest) ≡ (any_free visits || stands rest)

  abbrev pub FreeAll : ℕ → ℕ → Trail → Type 0
  FreeAll tree level (Err finding) = ⊥
  FreeAll tree level (Ok visits) = Free tree level visits

  abbrev pub FreeUnderAll : ℕ → ℕ → Trail → Type 0
  FreeUnderAll tree level (Err finding) = ⊥
  FreeUnderAll tree level (Ok visits) = FreeUnder tree level visits

  stands_none : (records rest : List Seen) → NoBlocks records → stands (records ++ rest) ≡ stands rest
  unfolding stands_untouched
  stands_none [] rest none = refl
  stands_none (BlockSeen one ∷ more) rest none = elim none [ ]
  stands_none (PointerSeen one ∷ more) rest none = stands_none more rest none
  stands_none (ItemSeen one ∷ more) rest none = stands_none more rest none

  free_append : (tree level : ℕ) (first later : List Visit) → Free tree level first → Free tree level later → Free tree level (first ++ later)
  free_append tree level first later a b =
      let joined : (rest : List Seen) → all_own (first ++ later) ++ rest ≡ all_own first ++ (all_own later ++ rest) =
      λ rest. ap (λ records. records ++ rest) (all_own_append first later) ∙ append_append (all_own first) (all_own later) rest in
      record {
        at = placed_append sup stored tree level first later a.at b.at;
        gives = λ rest stops.
            ap stands (joined rest)
            ∙ (a.gives (all_own later ++ rest) (b.at.heads rest stops)
            ∙ (ap (λ x. any_free first || x) (b.gives rest stops)
            ∙ (sym (or_assoc (any_free first) (any_free later) (stands rest))
            ∙ ap (λ x. x || stands rest) (sym (list_any-append (λ (v : Visit). is_free v.e) first later)))));
      }

  free_after : (tree level : ℕ) (visits : List Visit) (later : Trail) → Free tree level visits → FreeAll tree level later
      → FreeAll tree level (after visits later)
  unfolding after
  free_after tree level visits (Err finding) a b = b
  free_after tree level visits (Ok others) a b = free_append tree level visits others a b

  free_then : (tree level : ℕ) (first later : Trail) → FreeAll tree level first → FreeAll tree level later
      → FreeAll tree level (then_trail first later)
  free_then tree level (Err finding) later a b = a
  free_then tree level (Ok visits) later a b = free_after tree level visits later a b

  free_none : (tree level : ℕ) → Free tree level []
  free_none tree level = record { at = placed_none sup stored tree level; gives = λ rest stops. refl }

  abbrev pub from : ℕ → Expect → Trail
  from level = trail_and (trail_below level sup stored) sup stored

  free_children : (tree level : ℕ)
      → ((c : Expect) → c.tree ≡ tree → c.level ≡ level → Visits (Any sup stored) (from level c) → FreeAll tree level (from level c))
      → (e : Expect) → e.tree ≡ tree → (pointers : List Pointer) → Visits (Any sup stored)
      (trails (from level) (children_of level e pointers)) → FreeAll tree level (trails (from level) (children_of level e pointers))
  free_children tree level free e at [] all = free_none tree level
  free_children tree level free e at (pointer ∷ pointers) all =
      let c = child_of level e pointer (high_of pointers e.high) in
      let rest = trails (from level) (children_of level e pointers) in
      free_then tree level (from level c) rest (free c at refl (visits_then_first (Any sup stored) (from level c) rest all))
      (free_children tree level free e at pointers (visits_then_later (Any sup stored) (from level c) rest all))

  free_under : (tree level : ℕ) (trail : Trail) → FreeAll tree level trail → FreeUnderAll tree (suc level) trail
  free_under tree level (Err finding) a = a
  free_under tree level (Ok visits) a =
      record { at = under_placed sup stored tree level (Ok visits) a.at; gives = λ rest stops. a.gives rest (stops_less tree level rest stops) }

  -- a block before what is below it
  free_block : (tree level : ℕ) (e : Expect) → e.tree ≡ tree → e.level ≡ level
      → ((bytes : List ℕ) → Visits (Any sup stored) (trail_below level sup stored e bytes) → FreeUnderAll tree level
      (trail_below level sup stored e bytes))
      → Visits (Any sup stored) (from level e) → FreeAll tree level (from level e)
  unfolding after stands_untouched
  free_block tree level e of_tree at under all =
      let a = accepts (Any sup stored) (trail_below level sup stored) sup stored e all in
      let walk = walk_accepted (trail_below level sup stored) sup stored e a in
      let whole : trail_of sup stored e ≡ after (visit_of e a.bytes a.entries ∷ []) (trail_below level sup stored e a.bytes) =
      ap (λ n. trail_and (trail_below n sup stored) sup stored e) at ∙ walk in
      let here : PlacedAll sup stored tree level (from level e) =
      subst (λ n. PlacedAll sup stored tree level (from n e)) at
      (subst (λ n. PlacedAll sup stored tree n (trail_of sup stored e)) at
      (subst (λ t. PlacedAll sup stored t e.level (trail_of sup stored e)) of_tree
      (placed sup stored e (subst (λ n. Visits (Any sup stored) (from n e)) (sym at) all)))) in
      subst (FreeAll tree level) (sym walk)
      (by a (trail_below level sup stored e a.bytes) whole (subst (PlacedAll sup stored tree level) walk here)
      (under a.bytes (rest_of (Any sup stored) (trail_below level sup stored) sup stored e a all)))
    where
      by : (a : Accepts sup stored e) (trail : Trail) → trail_of sup stored e ≡ after (visit_of e a.bytes a.entries ∷ []) trail
          → PlacedAll sup stored tree level (after (visit_of e a.bytes a.entries ∷ []) trail)
          → FreeUnderAll tree level trail → FreeAll tree level (after (visit_of e a.bytes a.entries ∷ []) trail)
      by a (Err finding) is p u = u
      by a (Ok visits) is p u =
          let block = block_at e a.bytes in
          let more = a.entries ++ all_own visits in
          let none : NoBlocks a.entries = entries_none sup e a.bytes a.entries a.has in
          let inside : Inside tree level more =
          inside_append tree level a.entries (all_own visits) (inside_none tree level a.entries none) u.at.inside in
          let inside_e : Inside e.tree e.level more =
          subst (λ n. Inside e.tree n more) (sym at) (subst (λ t. Inside t level more) (sym of_tree) inside) in
          let walk : walk_of sup stored e ≡ Ok (BlockSeen block ∷ more) = walk_told sup stored e (visit_of e a.bytes a.entries ∷ visits) is in
          let stop : (rest : List Seen) → Stops tree level rest → Stops e.tree e.level rest =
          λ rest stops. subst (λ n. Stops e.tree n rest) (sym at) (subst (λ t. Stops t level rest) (sym of_tree) stops) in
          record {
            at = p;
            gives = λ rest stops.
                let has : records_in block (more ++ rest) ≡ more = records_until block more rest inside_e (stop rest stops) in
                let alike : live_of block (more ++ rest) ≡ live_at sup stored e = live_is sup stored e a visits rest walk has in
                let meets : at_or_below touched block (more ++ rest) ≡ comes_to touched sup stored e =
                ap (λ records. touched e.address || list_any (is_block_where touched) records) has
                ∙ where_walk touched sup stored e (BlockSeen block ∷ more) walk in
                let behind_is : stands (more ++ rest) ≡ (any_free visits || stands rest) =
                ap stands (append_append a.entries (all_own visits) rest)
                ∙ (stands_none a.entries (all_own visits ++ rest) none ∙ u.gives rest stops) in
                ap (λ one. (are_alike one live && not (at_or_below touched block (more ++ rest))) || stands (more ++ rest)) alike
                ∙ (ap (λ b. (are_alike (live_at sup stored e) live && not b) || stands (more ++ rest)) meets
                ∙ (ap (λ b. is_free e || b) behind_is
                ∙ sym (or_assoc (is_free e) (any_free visits) (stands rest))));
          }

  free_below : (tree level : ℕ) (e : Expect) → e.tree ≡ tree → (bytes : List ℕ) → Visits (Any sup stored) (trail_below level sup stored e bytes)
      → FreeUnderAll tree level (trail_below level sup stored e bytes)
  unfolding trail_below
  free_below tree zero e of_tree bytes all = record { at = record { inside = tt; gives = λ rest stops. refl }; gives = λ rest stops. refl }
  free_below tree (suc level) e of_tree bytes all =
      free_under tree level (trails (from level) (children_of level e (pointers_of bytes)))
      (free_children tree level (λ c is at. free_block tree level c is at (free_below tree level c is)) e of_tree (pointers_of bytes) all)

  free_matched : (visits : List Visit) (es : List Expect) → Matches sup stored visits es → any_free visits ≡ list_any is_free es
  free_matched [] [] m = refl
  free_matched [] (e ∷ es) m = elim m [ ]
  free_matched (v ∷ visits) [] m = elim m [ ]
  free_matched (v ∷ visits) (e ∷ es) m = ap (λ w. is_free w || any_free visits) m.0.0 ∙ ap (λ b. is_free e || b) (free_matched visits es m.1)

  -- the records of a walk, before others
  pub free_told : (root : Expect) (records rest : List Seen) → walk_of sup stored root ≡ Ok records → Stops root.tree root.level rest
      → stands (records ++ rest) ≡ (list_any is_free (visited sup stored root) || stands rest)
  free_told root records rest is stops =
      let any = visits_from (Any sup stored) sup stored root (record { fine = rw is refl; each = any_each sup stored (visited sup stored root) }) in
      by (trail_of sup stored root) (tells sup stored root)
      (free_block root.tree root.level root refl refl (free_below root.tree root.level root refl) any)
    where
      by : (trail : Trail) → Tells sup stored trail (walk_of sup stored root) (visited sup stored root) → FreeAll root.tree root.level trail
          → stands (records ++ rest) ≡ (list_any is_free (visited sup stored root) || stands rest)
      by (Err finding) t p = elim p [ ]
      by (Ok visits) t p =
          ap (λ rs. stands (rs ++ rest)) (ok_same records (all_own visits) (sym is ∙ t.0))
          ∙ (p.gives rest stops ∙ ap (λ b. b || stands rest) (free_matched visits (visited sup stored root) t.1))

-- the records of several trees
pub free_all : (touched : ℕ → Bool) (live : Live) (sup : Super) (trees : List Tree) (records : List Seen) → AreApart trees
    → walks sup trees ≡ Ok records
    → stands_untouched touched records live ≡ list_any (λ tree. list_any (is_free touched live sup tree.0) (visited sup tree.0 tree.1)) trees
unfolding stands_untouched
free_all touched live sup [] records apart is = let h : [] ≡ records = cc in sym (ap (λ rs. stands_untouched touched rs live) h)
free_all touched live sup (tree ∷ trees) records apart is =
    let split = then_ok (walk_of sup tree.0 tree.1) (walks sup trees) records is in
    ap (λ rs. stands_untouched touched rs live) split.4
    ∙ (free_told touched live sup tree.0 tree.1 split.0 split.1 split.2
    (stops_none sup trees split.1 tree.1.tree tree.1.level split.3 (others_after sup tree trees apart.0))
    ∙ ap (λ b. list_any (is_free touched live sup tree.0) (visited sup tree.0 tree.1) || b) (free_all touched live sup trees split.1 apart.1 split.3))
