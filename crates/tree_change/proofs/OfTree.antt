-- A walk of a tree that keeps blocks comes to blocks of the tree alone: what is kept of other trees is no matter.
use Rattle.std.proofs.Common.{◌≡◌, ℕ, zero, suc, ◌+◌, ◌*◌, ◌-◌, ◌==◌, ◌≤◌, Bool, true, false, List, [], ◌∷◌, inl, inr, refl, ap, subst, ◌∙◌, if◌then◌else◌}
use Rattle.std.proofs.lemmas.Bool.{eq-eqb, eqb-true}
use Rattle.std.specs.Prelude.{Some, None, Result, Ok, Err}
use Rattle.std.specs.List.{AllByRecursion}
use Rattle.verdict.proofs.Lists.{all_map as each_map}
use Rattle.verdict.specs.Rules.{and_then}
use Rattle.verdict.specs.declared.finding.Finding.{Finding}
use Rattle.verdict.specs.declared.key.Key.{Key}
use Rattle.super_reader.specs.declared.Super.{Super}
use Rattle.node_reader.specs.Layout.{pointers_of}
use Rattle.node_reader.specs.Stored.{Stored, block_in}
use Rattle.node_reader.specs.declared.expect.Expect.{Expect}
use Rattle.records.specs.Seen.{Seen}
use Rattle.records.specs.Walk.{Records, behind, block_and, each, own_records, then_records, walk_of}
use Rattle.records.specs.WalkLaw.{children_in}
use Rattle.tree_laws.specs.Keeping.{Under, anew_of}
use Rattle.tree_laws.specs.Skips.{Anew, Kept, next_of, nothing, skip_and, skip_below, skip_of, skip_or}
use Rattle.tree_laws.specs.Visits.{visits_and, visits_below, visits_each, visits_of, visits_or}
use Rattle.tree_laws.specs.VisitsLaw.{IsLed, LeadsOn, blocks_seen, entries_seen}
use Rattle.tree_laws.proofs.FewVisits.{few_visits}
use Rattle.tree_laws.proofs.Picking.{each_both}
use Rattle.tree_laws.proofs.Sifting.{starts_level}
use Rattle.tree_laws.proofs.Skipping.{children_level}
use Rattle.tree_change.proofs.SomeRead.{HasBlock, some_read}

-- each block of a tree that is walked below a kept one is on the next level, and is not kept or leads on to others
abbrev pub LeadsIn : ℕ → Kept → Anew → Type 0
LeadsIn tree kept anew =
    (e : Expect) (last : Key) → e.tree ≡ tree → kept e ≡ Some last
    → AllByRecursion (λ c. (c.level ≡ e.level - 1) × IsLed kept anew c) (anew e)

-- blocks of a tree
abbrev pub AreOf : ℕ → List Expect → Type 0
AreOf tree next = AllByRecursion (λ c. c.tree ≡ tree) next

next_tree : (tree : ℕ) (e : Expect) (bytes : List ℕ) → e.tree ≡ tree → AreOf tree (next_of e bytes)
next_tree tree e bytes of =
    each_map (λ c. (c.level ≡ e.level - 1) × (c.tree ≡ e.tree)) (λ c. c.tree ≡ tree) (next_of e bytes) (λ c h. h.1 ∙ of)
    (children_level (e.level - 1) e (pointers_of bytes))

children_tree : (tree : ℕ) (e : Expect) (block : Result (List ℕ) Finding) → e.tree ≡ tree → AreOf tree (children_in (e.level - 1) e block)
children_tree tree e (Err finding) of = tt
children_tree tree e (Ok bytes) of = next_tree tree e bytes of

anew_tree : (tree : ℕ) (under : Under) (e : Expect) → e.tree ≡ tree → AreOf tree (anew_of under e)
anew_tree tree under e of =
    each_map (λ c. (c.level ≡ e.level - 1) × (c.tree ≡ e.tree)) (λ c. c.tree ≡ tree) (anew_of under e) (λ c h. h.1 ∙ of)
    (starts_level (e.level - 1) e (under e.tree e.address))

-- the blocks of one tree that are kept
abbrev pub kept_in_tree : ℕ → Kept → Kept
kept_in_tree tree kept e = if e.tree == tree then kept e else None

of_tree : (tree : ℕ) (kept : Kept) (e : Expect) → e.tree ≡ tree → kept_in_tree tree kept e ≡ kept e
of_tree tree kept e of = ap (λ (b : Bool). if b then kept e else None) (eq-eqb e.tree tree of)

module _ (tree : ℕ) (kept : Kept) (under : Under) (sup : Super) (stored : Stored) where
  abbrev pub K : Kept
  K = kept_in_tree tree kept

  abbrev pub A : Anew
  A = anew_of under

  block_skip : (below more : List Expect → Records) → ((next : List Expect) → AreOf tree next → below next ≡ more next) → (e : Expect)
      → e.tree ≡ tree → skip_and K nothing A below sup stored e ≡ skip_and kept nothing A more sup stored e
  block_skip below more same e of =
      ap (skip_or e (walk_of sup stored e) (behind [] (below (A e))) (block_and (λ v bytes. below (next_of v bytes)) sup stored e))
      (of_tree tree kept e of)
      ∙ (ap (λ rest. skip_or e (walk_of sup stored e) (behind [] rest) (block_and (λ v bytes. below (next_of v bytes)) sup stored e) (kept e))
      (same (A e) (anew_tree tree under e of))
      ∙ ap (λ rest. skip_or e (walk_of sup stored e) (behind [] (more (A e))) rest (kept e)) (by (block_in stored sup.fsid e)))
    where
      by : (block : Result (List ℕ) Finding)
          → and_then block (λ bytes. then_records (own_records sup e bytes) (below (next_of e bytes)))
          ≡ and_then block (λ bytes. then_records (own_records sup e bytes) (more (next_of e bytes)))
      by (Err finding) = refl
      by (Ok bytes) = ap (then_records (own_records sup e bytes)) (same (next_of e bytes) (next_tree tree e bytes of))

  each_skip : (f g : Expect → Records) → ((e : Expect) → e.tree ≡ tree → f e ≡ g e) → (next : List Expect) → AreOf tree next → each f next ≡ each g next
  each_skip f g same [] all = refl
  each_skip f g same (e ∷ next) all =
      ap (λ first. then_records first (each f next)) (same e all.0) ∙ ap (then_records (g e)) (each_skip f g same next all.1)

  below_skip : (level : ℕ) (next : List Expect) → AreOf tree next
      → skip_below K nothing A level sup stored next ≡ skip_below kept nothing A level sup stored next
  unfolding skip_below
  below_skip zero next all = refl
  below_skip (suc level) next all =
      each_skip (skip_and K nothing A (skip_below K nothing A level sup stored) sup stored)
      (skip_and kept nothing A (skip_below kept nothing A level sup stored) sup stored)
      (block_skip (skip_below K nothing A level sup stored) (skip_below kept nothing A level sup stored) (below_skip level)) next all

  skip_same : (e : Expect) → e.tree ≡ tree → skip_of K nothing A sup stored e ≡ skip_of kept nothing A sup stored e
  skip_same e of =
      block_skip (skip_below K nothing A e.level sup stored) (skip_below kept nothing A e.level sup stored) (below_skip e.level) e of

  block_visits : (below more : List Expect → ℕ) → ((next : List Expect) → AreOf tree next → below next ≡ more next) → (e : Expect)
      → e.tree ≡ tree → visits_and K A below sup stored e ≡ visits_and kept A more sup stored e
  block_visits below more same e of =
      let next = children_in (e.level - 1) e (block_in stored sup.fsid e) in
      ap (visits_or e (below (A e)) (below next)) (of_tree tree kept e of)
      ∙ (ap (λ n. visits_or e n (below next) (kept e)) (same (A e) (anew_tree tree under e of))
      ∙ ap (λ n. visits_or e (more (A e)) n (kept e)) (same next (children_tree tree e (block_in stored sup.fsid e) of)))

  each_visits : (f g : Expect → ℕ) → ((e : Expect) → e.tree ≡ tree → f e ≡ g e) → (next : List Expect) → AreOf tree next
      → visits_each f next ≡ visits_each g next
  each_visits f g same [] all = refl
  each_visits f g same (e ∷ next) all = ap (λ n. n + visits_each f next) (same e all.0) ∙ ap (λ n. g e + n) (each_visits f g same next all.1)

  below_visits : (level : ℕ) (next : List Expect) → AreOf tree next → visits_below K A level sup stored next ≡ visits_below kept A level sup stored next
  unfolding visits_below
  below_visits zero next all = refl
  below_visits (suc level) next all =
      each_visits (visits_and K A (visits_below K A level sup stored) sup stored)
      (visits_and kept A (visits_below kept A level sup stored) sup stored)
      (block_visits (visits_below K A level sup stored) (visits_below kept A level sup stored) (below_visits level)) next all

  visits_same : (e : Expect) → e.tree ≡ tree → visits_of K A sup stored e ≡ visits_of kept A sup stored e
  visits_same e of =
      block_visits (visits_below K A e.level sup stored) (visits_below kept A e.level sup stored) (below_visits e.level) e of

  -- what leads on in the tree leads on where other trees are not kept
  led_same : (c : Expect) → c.tree ≡ tree → IsLed kept A c → IsLed K A c
  led_same c of (inl none) = inl (of_tree tree kept c of ∙ none)
  led_same c of (inr led) = inr led

  leads : LeadsIn tree kept A → LeadsOn K A
  leads led e last is = by (e.tree == tree) refl is
    where
      by : (b : Bool) → (e.tree == tree) ≡ b → (if b then kept e else None) ≡ Some last
          → AllByRecursion (λ c. (c.level ≡ e.level - 1) × IsLed K A c) (A e)
      by false at h = absurd (cc)
      by true at h =
          let of = eqb-true e.tree tree at in
          each_map (λ c. ((c.level ≡ e.level - 1) × IsLed kept A c) × (c.tree ≡ tree)) (λ c. (c.level ≡ e.level - 1) × IsLed K A c) (A e)
          (λ c h. (h.0.0, led_same c h.1 h.0.1))
          (each_both (λ c. (c.level ≡ e.level - 1) × IsLed kept A c) (λ c. c.tree ≡ tree) (A e) (led e last of h) (anew_tree tree under e of))

  -- few blocks are come to
  pub few_in : (e : Expect) (records : List Seen) → LeadsIn tree kept A → e.tree ≡ tree → skip_of kept nothing A sup stored e ≡ Ok records
      → visits_of kept A sup stored e ≤ 1 + entries_seen stored records + e.level * blocks_seen records
  few_in e records led of is =
      subst (λ n. n ≤ 1 + entries_seen stored records + e.level * blocks_seen records) (visits_same e of)
      (few_visits K A sup stored e records (leads led) (skip_same e of ∙ is))

  -- and one is read at or below a block that leads on
  pub read_in : (e : Expect) (records : List Seen) → LeadsIn tree kept A → e.tree ≡ tree → IsLed kept A e
      → skip_of kept nothing A sup stored e ≡ Ok records → HasBlock records
  read_in e records led of here is = some_read K A sup stored (leads led) e records (led_same e of here) (skip_same e of ∙ is)
