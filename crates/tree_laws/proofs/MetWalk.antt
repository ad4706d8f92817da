-- The steps of a walk that tells which kept blocks it meets.
use Rattle.std.proofs.Common.{◌≡◌, ℕ, zero, suc, ◌-◌, List, [], ◌∷◌, ◌++◌, append_assoc, append-nil, ap, refl, sym, subst, ◌∙◌, arith, IfSome, Option, Some, None, Result, Ok, Err, OnOk, true, false}
use Rattle.std.specs.Prelude.{if◌then◌else◌}
use Rattle.std.specs.Ordering.{nat_cmp}
use Rattle.std.specs.FinMap.{FinMap}
use Rattle.std.specs.List.{flat_map}
use Rattle.verdict.specs.declared.key.Key.{Key}
use Rattle.verdict.specs.declared.place.Chunk.{Chunk}
use Rattle.write_cache.specs.Cache.{overlaid}
use Rattle.super_reader.specs.declared.Super.{Super}
use Rattle.node_reader.specs.Layout.{pointer_of, pointers_of}
use Rattle.node_reader.specs.Places.{each_from}
use Rattle.node_reader.specs.Stored.{Stored, block_in, stored_in}
use Rattle.node_reader.specs.declared.expect.Expect.{Expect}
use Rattle.records.specs.Walk.{children_of}
use Rattle.records.specs.WalkLaw.{children_in}
use Rattle.block_source.specs.Private.{pointers_from}
use Rattle.tree_laws.specs.Meeting.{Meets, Met, met_and, met_below, met_in, met_or, with_met}
use Rattle.tree_laws.specs.Skips.{Anew, Kept, is_below, next_of}

pub no_more : (met : Met) → with_met met [] ≡ met
unfolding with_met
no_more None = refl
no_more (Some met) = ap Some (append-nil met)

pub more_twice : (met : Met) (es fs : List Expect) → with_met met (es ++ fs) ≡ with_met (with_met met es) fs
unfolding with_met
more_twice None es fs = refl
more_twice (Some met) es fs = ap Some (sym (append_assoc met es fs))

below_leaf : (kept : Kept) (anew : Anew) (level : ℕ) (sup : Super) (stored : Stored) (next : List Expect) → level ≡ 0
    → met_below kept anew level sup stored next ≡ []
unfolding met_below
below_leaf kept anew zero sup stored next leaf = refl
below_leaf kept anew (suc level) sup stored next leaf = absurd (cc)

below_node : (kept : Kept) (anew : Anew) (level : ℕ) (sup : Super) (stored : Stored) (next : List Expect) → (level ≡ 0 → ⊥)
    → met_below kept anew level sup stored next ≡ flat_map (met_and kept anew (met_below kept anew (level - 1) sup stored) sup stored) next
unfolding met_below
below_node kept anew zero sup stored next node = absurd (node refl)
below_node kept anew (suc level) sup stored next node =
    let same : level ≡ suc level - 1 = omega arith in
    ap (λ n. flat_map (met_and kept anew (met_below kept anew n sup stored) sup stored) next) same

pub on_ok : {A E : Type 0} (P : Type 0) (result : Result A E) → P → OnOk result P
on_ok P (Ok value) p = p
on_ok P (Err error) p = tt

-- a loop met so many kept blocks that what is left of the walk makes of them what the whole makes
pub record MetSoFar (told : Option (List ℕ)) (waiting : FinMap nat_cmp ℕ) (old now : Met) (rest whole : List ℕ → List Expect) : Type 0 where
  pub met : IfSome told (λ image. with_met now (rest (overlaid waiting 0 image)) ≡ with_met old (whole (overlaid waiting 0 image)))

module _ (kept : Kept) (anew : Anew) (told : Option (List ℕ)) (waiting : FinMap nat_cmp ℕ) (sup : Super) (chunks : List Chunk) where
  -- the kept blocks that are met at and below these blocks on the level below one
  abbrev pub left_of : ℕ → List Expect → List ℕ → List Expect
  left_of level next image =
      let stored = stored_in image chunks sup.nodesize in
      flat_map (met_and kept anew (met_below kept anew (level - 1) sup stored) sup stored) next

  kept_is : (e : Expect) (last : Key) (image : List ℕ) → kept e ≡ Some last → is_below last e.high ≡ true
      → met_in kept anew sup chunks e image ≡ e ∷ met_below kept anew e.level sup (stored_in image chunks sup.nodesize) (anew e)
  unfolding met_in
  kept_is e last image is below =
      let stored = stored_in image chunks sup.nodesize in
      ap (met_or e (met_below kept anew e.level sup stored (anew e)) (met_below kept anew e.level sup stored (children_in (e.level - 1) e (block_in stored sup.fsid e)))) is
      ∙ ap (λ b. if b then e ∷ met_below kept anew e.level sup stored (anew e) else []) below

  new_is : (e : Expect) (image bytes : List ℕ) → kept e ≡ None → block_in (stored_in image chunks sup.nodesize) sup.fsid e ≡ Ok bytes
      → met_in kept anew sup chunks e image ≡ met_below kept anew e.level sup (stored_in image chunks sup.nodesize) (next_of e bytes)
  unfolding met_in
  new_is e image bytes is read =
      let stored = stored_in image chunks sup.nodesize in
      ap (met_or e (met_below kept anew e.level sup stored (anew e)) (met_below kept anew e.level sup stored (children_in (e.level - 1) e (block_in stored sup.fsid e)))) is
      ∙ ap (λ found. met_below kept anew e.level sup stored (children_in (e.level - 1) e found)) read

  -- no kept block is met where the walk is whole
  pub whole_meets : (e : Expect) (last : Key) (old now : Met) → kept e ≡ Some last → is_below last e.high ≡ false → now ≡ old
      → Meets told waiting old now (met_in kept anew sup chunks e)
  unfolding met_in
  whole_meets e last old now is below same = by told
    where
      by : (t : Option (List ℕ)) → Meets t waiting old now (met_in kept anew sup chunks e)
      by None = tt
      by (Some image) =
          let stored = stored_in (overlaid waiting 0 image) chunks sup.nodesize in
          let here = ap (met_or e (met_below kept anew e.level sup stored (anew e)) (met_below kept anew e.level sup stored (children_in (e.level - 1) e (block_in stored sup.fsid e)))) is
          ∙ ap (λ b. if b then e ∷ met_below kept anew e.level sup stored (anew e) else []) below in
          same ∙ sym (no_more old) ∙ sym (ap (with_met old) here)

  -- a kept leaf is met
  pub leaf_meets : (e : Expect) (last : Key) (old now : Met) → kept e ≡ Some last → is_below last e.high ≡ true → e.level ≡ 0 → now ≡ with_met old (e ∷ [])
      → Meets told waiting old now (met_in kept anew sup chunks e)
  leaf_meets e last old now is below leaf same = by told
    where
      by : (t : Option (List ℕ)) → Meets t waiting old now (met_in kept anew sup chunks e)
      by None = tt
      by (Some image) =
          let x = overlaid waiting 0 image in
          let here = kept_is e last x is below ∙ ap (λ more. e ∷ more) (below_leaf kept anew e.level sup (stored_in x chunks sup.nodesize) (anew e) leaf) in
          same ∙ sym (ap (with_met old) here)

  -- a kept node is met before what is walked below it
  pub node_met : (e : Expect) (last : Key) (old now : Met) → kept e ≡ Some last → is_below last e.high ≡ true → (e.level ≡ 0 → ⊥) → now ≡ with_met old (e ∷ [])
      → MetSoFar told waiting old now (left_of e.level (anew e)) (met_in kept anew sup chunks e)
  node_met e last old now is below node same = record { met = by told }
    where
      by : (t : Option (List ℕ)) → IfSome t (λ image. with_met now (left_of e.level (anew e) (overlaid waiting 0 image)) ≡ with_met old (met_in kept anew sup chunks e (overlaid waiting 0 image)))
      by None = tt
      by (Some image) =
          let x = overlaid waiting 0 image in
          let here = kept_is e last x is below ∙ ap (λ more. e ∷ more) (below_node kept anew e.level sup (stored_in x chunks sup.nodesize) (anew e) node) in
          ap (λ met. with_met met (left_of e.level (anew e) x)) same ∙ sym (more_twice old (e ∷ []) (left_of e.level (anew e) x)) ∙ sym (ap (with_met old) here)

  -- below a leaf that was read none is met
  pub leaf_read : (e : Expect) (bytes : List ℕ) (old now : Met) → kept e ≡ None → e.level ≡ 0
      → IfSome told (λ image. block_in (stored_in (overlaid waiting 0 image) chunks sup.nodesize) sup.fsid e ≡ Ok bytes) → now ≡ old
      → Meets told waiting old now (met_in kept anew sup chunks e)
  leaf_read e bytes old now is leaf read same = by told read
    where
      by : (t : Option (List ℕ)) → IfSome t (λ image. block_in (stored_in (overlaid waiting 0 image) chunks sup.nodesize) sup.fsid e ≡ Ok bytes) → Meets t waiting old now (met_in kept anew sup chunks e)
      by None r = tt
      by (Some image) r =
          let x = overlaid waiting 0 image in
          let here = new_is e x bytes is r ∙ below_leaf kept anew e.level sup (stored_in x chunks sup.nodesize) (next_of e bytes) leaf in
          same ∙ sym (no_more old) ∙ sym (ap (with_met old) here)

  -- a node was read: its children are left
  pub node_read : (e : Expect) (bytes : List ℕ) (old now : Met) → kept e ≡ None → (e.level ≡ 0 → ⊥)
      → IfSome told (λ image. block_in (stored_in (overlaid waiting 0 image) chunks sup.nodesize) sup.fsid e ≡ Ok bytes) → now ≡ old
      → MetSoFar told waiting old now (left_of e.level (children_of (e.level - 1) e (pointers_from bytes 0))) (met_in kept anew sup chunks e)
  node_read e bytes old now is node read same = record { met = by told read }
    where
      by : (t : Option (List ℕ)) → IfSome t (λ image. block_in (stored_in (overlaid waiting 0 image) chunks sup.nodesize) sup.fsid e ≡ Ok bytes)
          → IfSome t (λ image. with_met now (left_of e.level (children_of (e.level - 1) e (pointers_from bytes 0)) (overlaid waiting 0 image)) ≡ with_met old (met_in kept anew sup chunks e (overlaid waiting 0 image)))
      by None r = tt
      by (Some image) r =
          let x = overlaid waiting 0 image in
          let all : pointers_from bytes 0 ≡ pointers_of bytes = ap (each_from (pointer_of bytes) 0) (omega arith) in
          let here = new_is e x bytes is r ∙ below_node kept anew e.level sup (stored_in x chunks sup.nodesize) (next_of e bytes) node in
          ap (λ met. with_met met (left_of e.level (children_of (e.level - 1) e (pointers_from bytes 0)) x)) same
          ∙ ap (λ pointers. with_met old (left_of e.level (children_of (e.level - 1) e pointers) x)) all
          ∙ sym (ap (with_met old) here)

  met_then : (level : ℕ) (c : Expect) (next rest : List Expect) (old before after : Met) (whole : List ℕ → List Expect)
      → next ≡ c ∷ rest → c.level ≡ level - 1
      → MetSoFar told waiting old before (left_of level next) whole → Meets told waiting before after (met_in kept anew sup chunks c)
      → MetSoFar told waiting old after (left_of level rest) whole
  unfolding met_in
  met_then level c next rest old before after whole is at so here = record { met = by told so.met here }
    where
      by : (t : Option (List ℕ)) → IfSome t (λ image. with_met before (left_of level next (overlaid waiting 0 image)) ≡ with_met old (whole (overlaid waiting 0 image)))
          → Meets t waiting before after (met_in kept anew sup chunks c)
          → IfSome t (λ image. with_met after (left_of level rest (overlaid waiting 0 image)) ≡ with_met old (whole (overlaid waiting 0 image)))
      by None s h = tt
      by (Some image) s h =
          let x = overlaid waiting 0 image in
          let stored = stored_in x chunks sup.nodesize in
          let below = λ (n : ℕ). met_and kept anew (met_below kept anew n sup stored) sup stored c in
          ap (λ met. with_met met (left_of level rest x)) (h ∙ ap (λ n. with_met before (below n)) at)
          ∙ sym (more_twice before (below (level - 1)) (left_of level rest x))
          ∙ sym (ap (λ es. with_met before (left_of level es x)) is) ∙ s

  -- a block was walked by what keeps the same blocks, and the rest is left
  pub met_step : (level : ℕ) (c : Expect) (next rest : List Expect) (old before mid after : Met) (whole : List ℕ → List Expect) (t : Option (List ℕ)) (k : Kept) (a : Anew)
      → next ≡ c ∷ rest → c.level ≡ level - 1 → t ≡ told → k ≡ kept → a ≡ anew → mid ≡ before
      → MetSoFar told waiting old before (left_of level next) whole → Meets t waiting mid after (met_in k a sup chunks c)
      → MetSoFar told waiting old after (left_of level rest) whole
  met_step level c next rest old before mid after whole t k a is at same same_kept same_anew same_met so here =
      met_then level c next rest old before after whole is at so
      (subst (λ m. Meets told waiting m after (met_in kept anew sup chunks c)) same_met
      (subst (λ n. Meets told waiting mid after (met_in kept n sup chunks c)) same_anew
      (subst (λ n. Meets told waiting mid after (met_in n a sup chunks c)) same_kept
      (subst (λ i. Meets i waiting mid after (met_in k a sup chunks c)) same here))))

  -- none is left
  pub met_all : (level : ℕ) (next : List Expect) (old now : Met) (whole : List ℕ → List Expect) → next ≡ []
      → MetSoFar told waiting old now (left_of level next) whole → Meets told waiting old now whole
  met_all level next old now whole is so = by told so.met
    where
      by : (t : Option (List ℕ)) → IfSome t (λ image. with_met now (left_of level next (overlaid waiting 0 image)) ≡ with_met old (whole (overlaid waiting 0 image))) → Meets t waiting old now whole
      by None s = tt
      by (Some image) s =
          let x = overlaid waiting 0 image in
          sym (no_more now) ∙ sym (ap (λ es. with_met now (left_of level es x)) is) ∙ s
