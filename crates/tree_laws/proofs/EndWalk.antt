-- The steps of a walk that tells the greatest key of each block behind all that is below it.
use Rattle.std.proofs.Common.{◌≡◌, ℕ, zero, suc, ◌-◌, ◌==◌, List, [], ◌∷◌, ◌++◌, append_assoc, append-nil, ap, refl, sym, subst, ◌∙◌, arith, IfSome, Option, Some, None, Ok, true, false}
use Rattle.std.specs.Prelude.{if◌then◌else◌}
use Rattle.std.proofs.lemmas.Bool.Decides.{nat_tests}
use Rattle.std.specs.Ordering.{nat_cmp}
use Rattle.std.specs.FinMap.{FinMap}
use Rattle.verdict.specs.Rules.{no_key}
use Rattle.verdict.specs.declared.key.Key.{Key}
use Rattle.verdict.specs.declared.place.Chunk.{Chunk}
use Rattle.write_cache.specs.Cache.{overlaid}
use Rattle.super_reader.specs.declared.Super.{Super}
use Rattle.node_reader.specs.Layout.{pointer_of, pointers_of}
use Rattle.node_reader.specs.Places.{each_from}
use Rattle.node_reader.specs.Stored.{Stored, block_in, stored_in}
use Rattle.node_reader.specs.declared.expect.Expect.{Expect}
use Rattle.records.specs.Walk.{children_of}
use Rattle.block_source.specs.Private.{pointers_from}
use Rattle.tree_laws.specs.declared.told.Ended.{Ended}
use Rattle.tree_laws.specs.Ending.{Ends, Held, HoldsLast, Lasts, before_ends, each_ends, end_at, ends_and, ends_below, ends_in, ends_or, key_or, last_item, none_more, own_last, read_ends, with_ended}
use Rattle.tree_laws.specs.Skips.{Anew, Kept, is_below, next_of}

none_held : (held : Held) → with_ended held [] ≡ held
unfolding with_ended
none_held None = refl
none_held (Some held) = ap Some (append-nil held)

held_twice : (held : Held) (es fs : List Ended) → with_ended held (es ++ fs) ≡ with_ended (with_ended held es) fs
unfolding with_ended
held_twice None es fs = refl
held_twice (Some held) es fs = ap Some (sym (append_assoc held es fs))

ends_leaf : (kept : Kept) (anew : Anew) (lasts : Lasts) (level : ℕ) (sup : Super) (stored : Stored) (last : Key) (next : List Expect) → level ≡ 0
    → ends_below kept anew lasts level sup stored last next ≡ none_more last
unfolding ends_below
ends_leaf kept anew lasts zero sup stored last next leaf = refl
ends_leaf kept anew lasts (suc level) sup stored last next leaf = absurd (cc)

ends_node : (kept : Kept) (anew : Anew) (lasts : Lasts) (level : ℕ) (sup : Super) (stored : Stored) (last : Key) (next : List Expect) → (level ≡ 0
    → ⊥)
    → ends_below kept anew lasts level sup stored last next
    ≡ each_ends (ends_and kept anew lasts (ends_below kept anew lasts (level - 1) sup stored) sup stored) last next
unfolding ends_below
ends_node kept anew lasts zero sup stored last next node = absurd (node refl)
ends_node kept anew lasts (suc level) sup stored last next node =
    let same : level ≡ suc level - 1 = omega arith in
    ap (λ n. each_ends (ends_and kept anew lasts (ends_below kept anew lasts n sup stored) sup stored) last next) same

no_leaf : (level : ℕ) → (level ≡ 0 → ⊥) → (level == 0) ≡ false
no_leaf zero node = absurd (node refl)
no_leaf (suc level) node = grind (arith, nat_tests)

-- a block behind those below it
abbrev pub end_with : Expect → Ends → Ends
end_with e under = end_at e under.last under.blocks

abbrev pub end_keeping : Expect → Option Key → Ends → Ends
end_keeping e known under = end_at e (key_or known under.last) under.blocks

-- blocks that are left, behind those that are held, are a whole list behind others
pub record Joins (old now : Held) (left whole : Ends) : Type 0 where
  pub blocks : with_ended now left.blocks ≡ with_ended old whole.blocks
  pub last : left.last ≡ whole.last

-- a loop is done with so many blocks that what is left of the walk makes of them what the whole makes
pub record EndsSoFar (told : Option (List ℕ)) (waiting : FinMap nat_cmp ℕ) (old now : Held) (left whole : List ℕ → Ends) : Type 0 where
  pub ends : IfSome told (λ image. Joins old now (left (overlaid waiting 0 image)) (whole (overlaid waiting 0 image)))

-- a block is behind those below it, where none is left of them
joined : (old now after : Held) (e : Expect) (last found : Key) (whole : Ends) → Joins old now (none_more found) whole
    → after ≡ with_ended now (record { expect = e; last = last } ∷ []) → after ≡ with_ended old (end_at e last whole.blocks).blocks
joined old now after e last found whole joins is =
    is ∙ ap (λ held. with_ended held (record { expect = e; last = last } ∷ [])) (sym (none_held now) ∙ joins.blocks)
    ∙ sym (held_twice old whole.blocks (record { expect = e; last = last } ∷ []))

module _ (kept : Kept) (anew : Anew) (lasts : Lasts) (told : Option (List ℕ)) (waiting : FinMap nat_cmp ℕ) (sup : Super) (chunks : List Chunk) where
  -- these blocks on the level below one and what is below them, where this was the greatest key so far
  abbrev pub left_ends : ℕ → List Expect → Key → List ℕ → Ends
  left_ends level next last image =
      let stored = stored_in image chunks sup.nodesize in
      each_ends (ends_and kept anew lasts (ends_below kept anew lasts (level - 1) sup stored) sup stored) last next

  abbrev pub below_ends : ℕ → Key → List Expect → List ℕ → Ends
  below_ends level last next image = ends_below kept anew lasts level sup (stored_in image chunks sup.nodesize) last next

  kept_is : (e : Expect) (bound : Key) (image : List ℕ) → kept e ≡ Some bound → is_below bound e.high ≡ true
      → ends_in kept anew lasts sup chunks e image ≡ end_keeping e (lasts e) (below_ends e.level no_key (anew e) image)
  unfolding ends_in
  kept_is e bound image is below =
      let stored = stored_in image chunks sup.nodesize in
      let under = ends_below kept anew lasts e.level sup stored in
      ap (ends_or lasts e (under no_key (anew e)) (read_ends e under (block_in stored sup.fsid e))) is
      ∙ ap (λ b. if b then end_at e (key_or (lasts e) (under no_key (anew e)).last) (under no_key (anew e)).blocks else none_more no_key) below

  new_is : (e : Expect) (image bytes : List ℕ) → kept e ≡ None → block_in (stored_in image chunks sup.nodesize) sup.fsid e ≡ Ok bytes
      → ends_in kept anew lasts sup chunks e image ≡ end_with e (below_ends e.level (own_last e bytes) (next_of e bytes) image)
  unfolding ends_in
  new_is e image bytes is read =
      let stored = stored_in image chunks sup.nodesize in
      let under = ends_below kept anew lasts e.level sup stored in
      ap (ends_or lasts e (under no_key (anew e)) (read_ends e under (block_in stored sup.fsid e))) is
      ∙ ap (read_ends e under) read

  -- nothing is told where the walk is whole
  pub whole_ends : (e : Expect) (bound : Key) (old now : Held) (last : Key) → kept e ≡ Some bound → is_below bound e.high ≡ false → now ≡ old
      → last ≡ no_key
      → HoldsLast told waiting old now last (ends_in kept anew lasts sup chunks e)
  unfolding ends_in
  whole_ends e bound old now last is below same none = by told
    where
      by : (t : Option (List ℕ)) → HoldsLast t waiting old now last (ends_in kept anew lasts sup chunks e)
      by None = tt
      by (Some image) =
          let stored = stored_in (overlaid waiting 0 image) chunks sup.nodesize in
          let under = ends_below kept anew lasts e.level sup stored in
          let here = ap (ends_or lasts e (under no_key (anew e)) (read_ends e under (block_in stored sup.fsid e))) is
          ∙ ap (λ b. if b then end_at e (key_or (lasts e) (under no_key (anew e)).last) (under no_key
          (anew e)).blocks else none_more no_key) below in (
            same ∙ sym (none_held old) ∙ sym (ap (λ (ends : Ends). with_ended old ends.blocks) here),
            none
                ∙ sym (ap (λ (ends : Ends). ends.last) here),
          )

  -- a block that is done with, by what it is
  held_is : (e : Expect) (old now : Held) (last : Key) (image : List ℕ) (whole : Ends) → ends_in kept anew lasts sup chunks e image ≡ whole
      → now ≡ with_ended old whole.blocks → last ≡ whole.last
      → (now ≡ with_ended old (ends_in kept anew lasts sup chunks e image).blocks) × (last ≡ (ends_in kept anew lasts sup chunks e image).last)
  held_is e old now last image whole is blocks same =
      (blocks ∙ sym (ap (λ (ends : Ends). with_ended old ends.blocks) is), same ∙ sym (ap (λ (ends : Ends). ends.last) is))

  -- a kept leaf
  pub leaf_ends : (e : Expect) (bound : Key) (old mid now : Held) (under last : Key) (known : Option Key) → kept e ≡ Some bound
      → is_below bound e.high ≡ true → e.level ≡ 0
      → known ≡ lasts e → mid ≡ old → under ≡ no_key
      → now ≡ with_ended mid (record { expect = e; last = key_or known under } ∷ []) → last ≡ key_or known under
      → HoldsLast told waiting old now last (ends_in kept anew lasts sup chunks e)
  leaf_ends e bound old mid now under last known is below leaf of_lasts held none here found = by told
    where
      key : key_or known under ≡ key_or (lasts e) no_key
      key = ap (λ k. key_or k under) of_lasts ∙ ap (key_or (lasts e)) none

      same : now ≡ with_ended old (record { expect = e; last = key_or (lasts e) no_key } ∷ [])
      same = here ∙ ap (λ held. with_ended held (record { expect = e; last = key_or known under } ∷ [])) held
          ∙ ap (λ k. with_ended old (record { expect = e; last = k } ∷ [])) key

      same_last : last ≡ key_or (lasts e) no_key
      same_last = found ∙ key

      by : (t : Option (List ℕ)) → HoldsLast t waiting old now last (ends_in kept anew lasts sup chunks e)
      by None = tt
      by (Some image) =
          let x = overlaid waiting 0 image in
          held_is e old now last x (end_keeping e (lasts e) (none_more no_key))
          (kept_is e bound x is below ∙ ap (end_keeping e (lasts e)) (ends_leaf kept anew lasts e.level sup
          (stored_in x chunks sup.nodesize) no_key (anew e) leaf))
          same same_last

  -- a leaf that is read
  pub leaf_read_ends : (e : Expect) (bytes : List ℕ) (old mid now : Held) (last : Key) → kept e ≡ None → e.level ≡ 0
      → IfSome told (λ image. block_in (stored_in (overlaid waiting 0 image) chunks sup.nodesize) sup.fsid e ≡ Ok bytes)
      → mid ≡ old → now ≡ with_ended mid (record { expect = e; last = last } ∷ []) → last ≡ last_item bytes
      → HoldsLast told waiting old now last (ends_in kept anew lasts sup chunks e)
  leaf_read_ends e bytes old mid now last is leaf read held here same_last = by told read
    where
      same : now ≡ with_ended old (record { expect = e; last = last } ∷ [])
      same = here ∙ ap (λ h. with_ended h (record { expect = e; last = last } ∷ [])) held

      by : (t : Option (List ℕ)) → IfSome t (λ image. block_in (stored_in (overlaid waiting 0 image) chunks sup.nodesize) sup.fsid e ≡ Ok bytes)
          → HoldsLast t waiting old now last (ends_in kept anew lasts sup chunks e)
      by None r = tt
      by (Some image) r =
          let x = overlaid waiting 0 image in
          let own : own_last e bytes ≡ last = ap (λ n. if n == 0 then last_item bytes else no_key) leaf ∙ sym same_last in
          held_is e old now last x (end_with e (none_more last))
          (new_is e x bytes is r
          ∙ ap (end_with e) (ends_leaf kept anew lasts e.level sup (stored_in x chunks sup.nodesize) (own_last e bytes) (next_of e bytes) leaf
          ∙ ap none_more own))
          same refl

  -- the loop over blocks below one begins
  pub ends_start : (level : ℕ) (next : List Expect) (old now : Held) (last : Key) → now ≡ old → last ≡ no_key
      → EndsSoFar told waiting old now (left_ends level next last) (left_ends level next no_key)
  ends_start level next old now last same none = record { ends = by told }
    where
      by : (t : Option (List ℕ)) → IfSome t (λ image. Joins old now (left_ends level next last (overlaid waiting 0 image))
          (left_ends level next no_key (overlaid waiting 0 image)))
      by None = tt
      by (Some image) =
          let x = overlaid waiting 0 image in
          record {
            blocks = ap (λ held. with_ended held (left_ends level next last x).blocks) same
                ∙ ap (λ key. with_ended old (left_ends level next key x).blocks) none;
            last = ap (λ key. (left_ends level next key x).last) none;
          }

  ends_then : (level : ℕ) (c : Expect) (next rest : List Expect) (old before after : Held) (last found : Key) (whole : List ℕ → Ends)
      → next ≡ c ∷ rest → c.level ≡ level - 1
      → EndsSoFar told waiting old before (left_ends level next last) whole
      → HoldsLast told waiting before after found (ends_in kept anew lasts sup chunks c)
      → EndsSoFar told waiting old after (left_ends level rest found) whole
  unfolding ends_in
  ends_then level c next rest old before after last found whole is at so here = record { ends = by told so.ends here }
    where
      by : (t : Option (List ℕ)) → IfSome t (λ image. Joins old before (left_ends level next last (overlaid waiting 0 image)) (whole
          (overlaid waiting 0 image)))
          → HoldsLast t waiting before after found (ends_in kept anew lasts sup chunks c)
          → IfSome t (λ image. Joins old after (left_ends level rest found (overlaid waiting 0 image)) (whole (overlaid waiting 0 image)))
      by None s h = tt
      by (Some image) s h =
          let x = overlaid waiting 0 image in
          let stored = stored_in x chunks sup.nodesize in
          let one = λ (n : ℕ). ends_and kept anew lasts (ends_below kept anew lasts n sup stored) sup stored c in
          let here_last : found ≡ (one (level - 1)).last = h.1 ∙ ap (λ n. (one n).last) at in
          let split : left_ends level next last x ≡ before_ends (one (level - 1)).blocks (left_ends level rest (one (level - 1)).last x) =
          ap (λ es. left_ends level es last x) is in
          record {
            blocks = ap (λ held. with_ended held (left_ends level rest found x).blocks) (h.0 ∙ ap (λ n. with_ended before (one n).blocks) at)
                ∙ ap (λ key. with_ended (with_ended before (one (level - 1)).blocks) (left_ends level rest key x).blocks) here_last
                ∙ sym (held_twice before (one (level - 1)).blocks (left_ends level rest (one (level - 1)).last x).blocks)
                ∙ sym (ap (λ (ends : Ends). with_ended before ends.blocks) split) ∙ s.blocks;
            last = ap (λ key. (left_ends level rest key x).last) here_last ∙ sym (ap (λ (ends : Ends). ends.last) split) ∙ s.last;
          }

  -- a block was walked by what keeps the same blocks, and the rest is left
  pub ends_step : (level : ℕ) (c : Expect) (next rest : List Expect) (old before mid after : Held) (last found : Key) (whole : List ℕ → Ends)
      (t : Option (List ℕ)) (k : Kept) (a : Anew) (l : Lasts)
      → next ≡ c ∷ rest → c.level ≡ level - 1 → t ≡ told → k ≡ kept → a ≡ anew → l ≡ lasts → mid ≡ before
      → EndsSoFar told waiting old before (left_ends level next last) whole → HoldsLast t waiting mid after found (ends_in k a l sup chunks c)
      → EndsSoFar told waiting old after (left_ends level rest found) whole
  ends_step level c next rest old before mid after last found whole t k a l is at same same_kept same_anew same_lasts same_held so here =
      ends_then level c next rest old before after last found whole is at so
      (subst (λ m. HoldsLast told waiting m after found (ends_in kept anew lasts sup chunks c)) same_held
      (subst (λ n. HoldsLast told waiting mid after found (ends_in kept anew n sup chunks c)) same_lasts
      (subst (λ n. HoldsLast told waiting mid after found (ends_in kept n l sup chunks c)) same_anew
      (subst (λ n. HoldsLast told waiting mid after found (ends_in n a l sup chunks c)) same_kept
      (subst (λ i. HoldsLast i waiting mid after found (ends_in k a l sup chunks c)) same here)))))

  -- none is left below a kept node
  pub kept_ends : (e : Expect) (bound : Key) (next : List Expect) (old now after : Held) (found last : Key) (known : Option Key) → kept e ≡ Some bound
      → is_below bound e.high ≡ true
      → (e.level ≡ 0 → ⊥) → next ≡ []
      → EndsSoFar told waiting old now (left_ends e.level next found) (left_ends e.level (anew e) no_key)
      → known ≡ lasts e → after ≡ with_ended now (record { expect = e; last = key_or known found } ∷ []) → last ≡ key_or known found
      → HoldsLast told waiting old after last (ends_in kept anew lasts sup chunks e)
  kept_ends e bound next old now after found last known is below node none so of_lasts here was = by told so.ends
    where
      blocks : after ≡ with_ended now (record { expect = e; last = key_or (lasts e) found } ∷ [])
      blocks = subst (λ k. after ≡ with_ended now (record { expect = e; last = key_or k found } ∷ [])) of_lasts here

      same : last ≡ key_or (lasts e) found
      same = subst (λ k. last ≡ key_or k found) of_lasts was

      by : (t : Option (List ℕ)) → IfSome t (λ image. Joins old now (left_ends e.level next found (overlaid waiting 0 image)) (left_ends e.level
          (anew e) no_key (overlaid waiting 0 image)))
          → HoldsLast t waiting old after last (ends_in kept anew lasts sup chunks e)
      by None s = tt
      by (Some image) s =
          let x = overlaid waiting 0 image in
          let under = left_ends e.level (anew e) no_key x in
          let joins : Joins old now (none_more found) under = subst (λ es. Joins old now (left_ends e.level es found x) under) none s in
          let key = ap (key_or (lasts e)) joins.last in
          held_is e old after last x (end_keeping e (lasts e) under)
          (kept_is e bound x is below ∙ ap (end_keeping e (lasts e)) (ends_node kept anew lasts e.level sup
          (stored_in x chunks sup.nodesize) no_key (anew e) node))
          (joined old now after e (key_or (lasts e) found) found under joins blocks ∙ ap (λ k. with_ended old (end_at e k under.blocks).blocks) key)
          (same ∙ key)

  -- none is left below a node that is read
  pub read_node_ends : (e : Expect) (bytes : List ℕ) (next : List Expect) (old now after : Held) (last : Key) → kept e ≡ None
      → (e.level ≡ 0 → ⊥) → IfSome told (λ image. block_in (stored_in (overlaid waiting 0 image) chunks sup.nodesize) sup.fsid e ≡ Ok bytes)
      → next ≡ []
      → EndsSoFar told waiting old now (left_ends e.level next last) (left_ends e.level (children_of (e.level - 1) e (pointers_from bytes 0)) no_key)
      → after ≡ with_ended now (record { expect = e; last = last } ∷ [])
      → HoldsLast told waiting old after last (ends_in kept anew lasts sup chunks e)
  read_node_ends e bytes next old now after last is node read none so blocks = by told read so.ends
    where
      by : (t : Option (List ℕ)) → IfSome t (λ image. block_in (stored_in (overlaid waiting 0 image) chunks sup.nodesize) sup.fsid e ≡ Ok bytes)
          → IfSome t (λ image. Joins old now (left_ends e.level next last (overlaid waiting 0 image)) (left_ends e.level (children_of
          (e.level - 1) e (pointers_from bytes 0)) no_key (overlaid waiting 0 image)))
          → HoldsLast t waiting old after last (ends_in kept anew lasts sup chunks e)
      by None r s = tt
      by (Some image) r s =
          let x = overlaid waiting 0 image in
          let all : pointers_of bytes ≡ pointers_from bytes 0 = ap (each_from (pointer_of bytes) 0) (omega arith) in
          let under = left_ends e.level (children_of (e.level - 1) e (pointers_from bytes 0)) no_key x in
          let joins : Joins old now (none_more last) under = subst (λ es. Joins old now (left_ends e.level es last x) under) none s in
          let own : own_last e bytes ≡ no_key = ap (λ b. if b then last_item bytes else no_key) (no_leaf e.level node) in
          held_is e old after last x (end_with e under)
          (new_is e x bytes is r
          ∙ ap (end_with e) (ends_node kept anew lasts e.level sup (stored_in x chunks sup.nodesize) (own_last e bytes) (next_of e bytes) node
          ∙ ap (λ key. left_ends e.level (next_of e bytes) key x) own
          ∙ ap (λ pointers. left_ends e.level (children_of (e.level - 1) e pointers) no_key x) all))
          (joined old now after e last last under joins blocks ∙ ap (λ k. with_ended old (end_at e k under.blocks).blocks) joins.last)
          joins.last
