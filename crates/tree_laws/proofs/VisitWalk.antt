-- The steps of a walk that counts looks for the blocks that it comes to.
use Rattle.std.proofs.Common.{◌≡◌, ℕ, zero, suc, ◌+◌, ◌*◌, ◌-◌, ◌≤◌, Bool, true, false, List, [], ◌∷◌, ap, refl, subst, ◌∙◌, arith, IfSome, Option, Some, None, Ok}
use Rattle.std.specs.Prelude.{if◌then◌else◌}
use Rattle.std.specs.Ordering.{nat_cmp}
use Rattle.std.specs.FinMap.{FinMap}
use Rattle.verdict.specs.declared.key.Key.{Key}
use Rattle.verdict.specs.declared.place.Chunk.{Chunk}
use Rattle.write_cache.specs.Cache.{overlaid}
use Rattle.super_reader.specs.declared.Super.{Super}
use Rattle.node_reader.specs.Layout.{pointer_of, pointers_of}
use Rattle.node_reader.specs.Places.{each_from}
use Rattle.node_reader.specs.Stored.{Stored, block_in, stored_in}
use Rattle.node_reader.specs.declared.expect.Expect.{Expect}
use Rattle.records.specs.Walk.{children_of}
use Rattle.records.specs.WalkLaw.{children_in}
use Rattle.block_source.specs.Private.{pointers_from}
use Rattle.tree_laws.specs.Skips.{Anew, Kept, is_below, next_of}
use Rattle.tree_laws.specs.Visits.{LooksFew, visits_and, visits_below, visits_each, visits_in, visits_or}

visits_node : (kept : Kept) (anew : Anew) (level : ℕ) (sup : Super) (stored : Stored) (next : List Expect) → (level ≡ 0 → ⊥)
    → visits_below kept anew level sup stored next
    ≡ visits_each (visits_and kept anew (visits_below kept anew (level - 1) sup stored) sup stored) next
unfolding visits_below
visits_node kept anew zero sup stored next node = absurd (node refl)
visits_node kept anew (suc level) sup stored next node =
    let same : level ≡ suc level - 1 = omega arith in
    ap (λ n. visits_each (visits_and kept anew (visits_below kept anew n sup stored) sup stored) next) same

-- a block is counted itself
pub self_visited : (e : Expect) (anew rest : ℕ) (bound : Option Key) → 1 ≤ visits_or e anew rest bound
self_visited e anew rest None = omega arith
self_visited e anew rest (Some last) = by (is_below last e.high)
  where
    by : (b : Bool) → 1 ≤ (if b then suc anew else 1)
    by true = omega arith
    by false = omega arith

-- a loop counted so few looks that what is left of the walk may count as many as the whole may
pub record LooksSoFar (told : Option (List ℕ)) (waiting : FinMap nat_cmp ℕ) (before now : ℕ) (left whole : List ℕ → ℕ) : Type 0 where
  pub few : IfSome told (λ image. now + 3 * left (overlaid waiting 0 image) ≤ before + 3 * whole (overlaid waiting 0 image))

module _ (kept : Kept) (anew : Anew) (told : Option (List ℕ)) (waiting : FinMap nat_cmp ℕ) (sup : Super) (chunks : List Chunk) where
  -- how many blocks are come to at and below these blocks on the level below one
  abbrev pub left_visits : ℕ → List Expect → List ℕ → ℕ
  left_visits level next image =
      let stored = stored_in image chunks sup.nodesize in
      visits_each (visits_and kept anew (visits_below kept anew (level - 1) sup stored) sup stored) next

  kept_is : (e : Expect) (last : Key) (image : List ℕ) → kept e ≡ Some last → is_below last e.high ≡ true
      → visits_in kept anew sup chunks e image ≡ suc (visits_below kept anew e.level sup (stored_in image chunks sup.nodesize) (anew e))
  unfolding visits_in
  kept_is e last image is below =
      let stored = stored_in image chunks sup.nodesize in
      let under = visits_below kept anew e.level sup stored in
      ap (visits_or e (under (anew e)) (under (children_in (e.level - 1) e (block_in stored sup.fsid e)))) is
      ∙ ap (λ b. if b then suc (under (anew e)) else 1) below

  new_is : (e : Expect) (image bytes : List ℕ) → kept e ≡ None → block_in (stored_in image chunks sup.nodesize) sup.fsid e ≡ Ok bytes
      → visits_in kept anew sup chunks e image ≡ suc (visits_below kept anew e.level sup (stored_in image chunks sup.nodesize) (next_of e bytes))
  unfolding visits_in
  new_is e image bytes is read =
      let stored = stored_in image chunks sup.nodesize in
      let under = visits_below kept anew e.level sup stored in
      ap (visits_or e (under (anew e)) (under (children_in (e.level - 1) e (block_in stored sup.fsid e)))) is
      ∙ ap (λ found. suc (under (children_in (e.level - 1) e found))) read

  some_visit : (e : Expect) (image : List ℕ) → 1 ≤ visits_in kept anew sup chunks e image
  unfolding visits_in
  some_visit e image =
      let stored = stored_in image chunks sup.nodesize in
      let under = visits_below kept anew e.level sup stored in
      self_visited e (under (anew e)) (under (children_in (e.level - 1) e (block_in stored sup.fsid e))) (kept e)

  -- the looks of one block are few for a walk from it on
  pub one_looks : (e : Expect) (before now : ℕ) → now ≤ before + 3 → LooksFew told waiting before now (visits_in kept anew sup chunks e)
  one_looks e before now few = by told
    where
      by : (t : Option (List ℕ)) → LooksFew t waiting before now (visits_in kept anew sup chunks e)
      by None = tt
      by (Some image) =
          let some = some_visit e (overlaid waiting 0 image) in
          more before now (visits_in kept anew sup chunks e (overlaid waiting 0 image)) few some
        where
          more : (before now n : ℕ) → now ≤ before + 3 → 1 ≤ n → now ≤ before + 3 * n
          more before now n few some = omega arith

  -- a kept node is met before what is walked below it
  pub node_looks : (e : Expect) (last : Key) (before now : ℕ) → kept e ≡ Some last → is_below last e.high ≡ true → (e.level ≡ 0 → ⊥) → now ≤ before + 3
      → LooksSoFar told waiting before now (left_visits e.level (anew e)) (visits_in kept anew sup chunks e)
  node_looks e last before now is below node few = record { few = by told }
    where
      by : (t : Option (List ℕ)) → IfSome t (λ image. now + 3 * left_visits e.level (anew e) (overlaid waiting 0 image)
          ≤ before + 3 * visits_in kept anew sup chunks e (overlaid waiting 0 image))
      by None = tt
      by (Some image) =
          let x = overlaid waiting 0 image in
          let here = kept_is e last x is below ∙ ap suc (visits_node kept anew e.level sup (stored_in x chunks sup.nodesize) (anew e) node) in
          begins before now (left_visits e.level (anew e) x) (visits_in kept anew sup chunks e x) here few
        where
          begins : (before now left whole : ℕ) → whole ≡ suc left → now ≤ before + 3 → now + 3 * left ≤ before + 3 * whole
          begins before now left whole is few = omega arith

  -- a node was read: its children are left
  pub read_looks : (e : Expect) (bytes : List ℕ) (before now : ℕ) → kept e ≡ None → (e.level ≡ 0 → ⊥)
      → IfSome told (λ image. block_in (stored_in (overlaid waiting 0 image) chunks sup.nodesize) sup.fsid e ≡ Ok bytes) → now ≤ before + 3
      → LooksSoFar told waiting before now (left_visits e.level (children_of (e.level - 1) e (pointers_from bytes 0))) (visits_in kept anew sup chunks e)
  read_looks e bytes before now is node read few = record { few = by told read }
    where
      by : (t : Option (List ℕ)) → IfSome t (λ image. block_in (stored_in (overlaid waiting 0 image) chunks sup.nodesize) sup.fsid e ≡ Ok bytes)
          → IfSome t (λ image. now + 3 * left_visits e.level (children_of (e.level - 1) e (pointers_from bytes 0)) (overlaid waiting 0 image)
          ≤ before + 3 * visits_in kept anew sup chunks e (overlaid waiting 0 image))
      by None r = tt
      by (Some image) r =
          let x = overlaid waiting 0 image in
          let all : pointers_of bytes ≡ pointers_from bytes 0 = ap (each_from (pointer_of bytes) 0) (omega arith) in
          let here = new_is e x bytes is r
          ∙ ap suc (visits_node kept anew e.level sup (stored_in x chunks sup.nodesize) (next_of e bytes) node)
          ∙ ap (λ pointers. suc (left_visits e.level (children_of (e.level - 1) e pointers) x)) all in
          begins before now (left_visits e.level (children_of (e.level - 1) e (pointers_from bytes 0)) x) (visits_in kept anew sup chunks e x) here few
        where
          begins : (before now left whole : ℕ) → whole ≡ suc left → now ≤ before + 3 → now + 3 * left ≤ before + 3 * whole
          begins before now left whole is few = omega arith

  looks_then : (level : ℕ) (c : Expect) (next rest : List Expect) (before now after : ℕ) (whole : List ℕ → ℕ)
      → next ≡ c ∷ rest → c.level ≡ level - 1
      → LooksSoFar told waiting before now (left_visits level next) whole → LooksFew told waiting now after (visits_in kept anew sup chunks c)
      → LooksSoFar told waiting before after (left_visits level rest) whole
  unfolding visits_in
  looks_then level c next rest before now after whole is at so here = record { few = by told so.few here }
    where
      by : (t : Option (List ℕ)) → IfSome t (λ image. now + 3 * left_visits level next (overlaid waiting 0 image) ≤ before + 3 * whole (overlaid waiting 0 image))
          → LooksFew t waiting now after (visits_in kept anew sup chunks c)
          → IfSome t (λ image. after + 3 * left_visits level rest (overlaid waiting 0 image) ≤ before + 3 * whole (overlaid waiting 0 image))
      by None s h = tt
      by (Some image) s h =
          let x = overlaid waiting 0 image in
          let stored = stored_in x chunks sup.nodesize in
          let one = λ (n : ℕ). visits_and kept anew (visits_below kept anew n sup stored) sup stored c in
          let here_one : visits_in kept anew sup chunks c x ≡ one (level - 1) = ap (λ n. one n) at in
          let split : left_visits level next x ≡ one (level - 1) + left_visits level rest x = ap (λ es. left_visits level es x) is in
          step before now after (left_visits level next x) (left_visits level rest x) (one (level - 1)) (visits_in kept anew sup chunks c x) (whole x)
          split here_one s h
        where
          step : (before now after next rest one here whole : ℕ) → next ≡ one + rest → here ≡ one → now + 3 * next ≤ before + 3 * whole
              → after ≤ now + 3 * here → after + 3 * rest ≤ before + 3 * whole
          step before now after next rest one here whole split same so more = omega arith

  -- a block was walked by what keeps the same blocks, and the rest is left
  pub looks_step : (level : ℕ) (c : Expect) (next rest : List Expect) (before now mid after : ℕ) (whole : List ℕ → ℕ) (t : Option (List ℕ)) (k : Kept) (a : Anew)
      → next ≡ c ∷ rest → c.level ≡ level - 1 → t ≡ told → k ≡ kept → a ≡ anew → mid ≡ now
      → LooksSoFar told waiting before now (left_visits level next) whole → LooksFew t waiting mid after (visits_in k a sup chunks c)
      → LooksSoFar told waiting before after (left_visits level rest) whole
  looks_step level c next rest before now mid after whole t k a is at same same_kept same_anew same_looks so here =
      looks_then level c next rest before now after whole is at so
      (subst (λ m. LooksFew told waiting m after (visits_in kept anew sup chunks c)) same_looks
      (subst (λ n. LooksFew told waiting mid after (visits_in kept n sup chunks c)) same_anew
      (subst (λ n. LooksFew told waiting mid after (visits_in n a sup chunks c)) same_kept
      (subst (λ i. LooksFew i waiting mid after (visits_in k a sup chunks c)) same here))))

  -- none is left
  pub looks_all : (level : ℕ) (next : List Expect) (before now after : ℕ) (whole : List ℕ → ℕ) → next ≡ [] → after ≡ now
      → LooksSoFar told waiting before now (left_visits level next) whole → LooksFew told waiting before after whole
  looks_all level next before now after whole is same so = by told so.few
    where
      by : (t : Option (List ℕ)) → IfSome t (λ image. now + 3 * left_visits level next (overlaid waiting 0 image) ≤ before + 3 * whole (overlaid waiting 0 image))
          → LooksFew t waiting before after whole
      by None s = tt
      by (Some image) s = ends before now after (left_visits level next (overlaid waiting 0 image)) (whole (overlaid waiting 0 image)) same s
        where
          ends : (before now after left whole : ℕ) → after ≡ now → now + 3 * left ≤ before + 3 * whole → after ≤ before + 3 * whole
          ends before now after left whole same so = omega arith
