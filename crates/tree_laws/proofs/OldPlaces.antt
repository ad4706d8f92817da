-- Two walks from blocks at one address, where the same is stored at each address that the first comes to, come to the same addresses.
use Rattle.std.proofs.Common.{◌≡◌, ℕ, zero, suc, List, [], ◌∷◌, refl, sym, subst, ◌∙◌}
use Rattle.super_reader.specs.declared.Super.{Super}
use Rattle.node_reader.specs.Layout.{pointers_of}
use Rattle.node_reader.specs.Stored.{Stored}
use Rattle.node_reader.specs.declared.expect.Expect.{Expect}
use Rattle.node_reader.specs.declared.expect.Pointer.{Pointer}
use Rattle.records.specs.Walk.{child_of, children_of, high_of}
use Rattle.tree_laws.proofs.Accepted.{accepts, visit_of, walk_accepted}
use Rattle.tree_laws.proofs.Tables.{copied_same}
use Rattle.tree_laws.proofs.Trails.{Trail, trail_and, trail_below, trails}
use Rattle.tree_laws.proofs.Visiting.{Visits, visits_after, visits_then, visits_then_first, visits_then_later}
use Rattle.tree_laws.proofs.Within.{here_of, rest_of}

module _ (A : ℕ → Type 0) (Q : Expect → Type 0) (sup : Super) (first second : Stored) where
  -- this holds of the address of a block, and both have the same there
  abbrev pub Alike : Expect → Type 0
  Alike w = A w.address × (second w.address ≡ first w.address)

  abbrev pub At : Expect → Type 0
  At w = A w.address

  abbrev pub of_first : ℕ → Expect → Trail
  of_first level = trail_and (trail_below level sup first) sup first

  abbrev pub of_second : ℕ → Expect → Trail
  of_second level = trail_and (trail_below level sup second) sup second

  places_children : (level : ℕ) → ((e f : Expect) → e.address ≡ f.address → Visits Alike (of_first level e) → Visits Q (of_second level f) → Visits At (of_second level f))
      → (e f : Expect) (pointers : List Pointer) → Visits Alike (trails (of_first level) (children_of level e pointers)) → Visits Q (trails (of_second level) (children_of level f pointers))
      → Visits At (trails (of_second level) (children_of level f pointers))
  places_children level places e f [] all more = tt
  places_children level places e f (pointer ∷ pointers) all more =
      let c = child_of level e pointer (high_of pointers e.high) in
      let d = child_of level f pointer (high_of pointers f.high) in
      let rest = trails (of_first level) (children_of level e pointers) in
      let others = trails (of_second level) (children_of level f pointers) in
      visits_then At (of_second level d) others
      (places c d refl (visits_then_first Alike (of_first level c) rest all) (visits_then_first Q (of_second level d) others more))
      (places_children level places e f pointers (visits_then_later Alike (of_first level c) rest all) (visits_then_later Q (of_second level d) others more))

  places_block : (level : ℕ) (e f : Expect) → e.address ≡ f.address
      → ((bytes : List ℕ) → Visits Alike (trail_below level sup first e bytes) → Visits Q (trail_below level sup second f bytes) → Visits At (trail_below level sup second f bytes))
      → Visits Alike (of_first level e) → Visits Q (of_second level f) → Visits At (of_second level f)
  places_block level e f at places all more =
      let a = accepts Alike (trail_below level sup first) sup first e all in
      let b = accepts Q (trail_below level sup second) sup second f more in
      let here : Alike e = here_of Alike (trail_below level sup first) sup first e all in
      let same : a.bytes ≡ b.bytes = copied_same second e.address f.address a.bytes b.bytes (here.1 ∙ a.is) b.is (sym at) in
      let later : Visits Alike (trail_below level sup first e b.bytes) = subst (λ bytes. Visits Alike (trail_below level sup first e bytes)) same (rest_of Alike (trail_below level sup first) sup first e a all) in
      subst (Visits At) (sym (walk_accepted (trail_below level sup second) sup second f b))
      (visits_after At (visit_of f b.bytes b.entries ∷ []) (trail_below level sup second f b.bytes) (subst A at here.0, tt)
      (places b.bytes later (rest_of Q (trail_below level sup second) sup second f b more)))

  places_below : (level : ℕ) (e f : Expect) (bytes : List ℕ) → Visits Alike (trail_below level sup first e bytes) → Visits Q (trail_below level sup second f bytes) → Visits At (trail_below level sup second f bytes)
  unfolding trail_below
  places_below zero e f bytes all more = tt
  places_below (suc level) e f bytes all more =
      places_children level (λ c d at. places_block level c d at (places_below level c d)) e f (pointers_of bytes) all more

  -- what holds of the addresses of the first walk holds of those of the second
  pub places : (level : ℕ) (e f : Expect) → e.address ≡ f.address → Visits Alike (of_first level e) → Visits Q (of_second level f) → Visits At (of_second level f)
  places level e f at all more = places_block level e f at (places_below level e f) all more
