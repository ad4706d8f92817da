-- What is known of a tree as it was tells which blocks it shares with the tree as it is.
use Rattle.std.proofs.Common.{◌≡◌, ℕ, zero, suc, ◌==◌, Bool, true, false, ◌&&◌, ◌||◌, List, [], ◌∷◌, inl, inr, refl, ap, sym, subst, ◌∙◌}
use Rattle.std.proofs.lemmas.Bool.{eqb-true}
use Rattle.std.specs.Prelude.{Option, Some, None, IfSome, is_some}
use Rattle.std.specs.List.{AllByRecursion, list_any}
use Rattle.tree_laws.proofs.Kept.{alike_itself}
use Rattle.verdict.proofs.Truth.{and_parts, neither}
use Rattle.verdict.specs.declared.key.Key.{Key}
use Rattle.super_reader.specs.declared.Super.{Super}
use Rattle.live_index.specs.Pairs.{Pairs}
use Rattle.live_index.specs.declared.live.Live.{Live}
use Rattle.node_reader.specs.Stored.{Stored}
use Rattle.node_reader.specs.declared.expect.Expect.{Expect}
use Rattle.records.specs.WalkLaw.{visited, visited_from}
use Rattle.tree_laws.specs.Keeping.{AreMarked, AreUntouched, IsKnown, Marks, OneOf, Stands, Under, comes_to, first_in, is_first, is_same, kept_of, live_at}
use Rattle.tree_laws.specs.MergedLaw.{KnownSharedLaw}
use Rattle.tree_laws.specs.OldSide.{TellsShared}
use Rattle.tree_laws.specs.Shared.{are_alike}
use Rattle.tree_laws.proofs.OldTells.{HasSame, has_same}
use Rattle.tree_laws.proofs.Sharing.{found}

-- one of several, with what holds of each
pub one_with : (P Q : Expect → Type 0) (es : List Expect) → AllByRecursion P es → OneOf Q es → (v : Expect) × P v × Q v
one_with P Q [] all one = elim one [ ]
one_with P Q (e ∷ es) all (inl here) = (e, all.0, here)
one_with P Q (e ∷ es) all (inr later) = one_with P Q es all.1 later

one_map : (P Q R : Expect → Type 0) (es : List Expect) → AllByRecursion P es → ((v : Expect) → P v → Q v → R v) → OneOf Q es → OneOf R es
one_map P Q R [] all f one = elim one [ ]
one_map P Q R (e ∷ es) all f (inl here) = inl (f e all.0 here)
one_map P Q R (e ∷ es) all f (inr later) = inr (one_map P Q R es all.1 f later)

-- a walk comes to its own block
pub passes_here : (test : ℕ → Bool) (sup : Super) (stored : Stored) (v : Expect) → comes_to test sup stored v ≡ false → test v.address ≡ false
unfolding visited_from
passes_here test sup stored v is = by v.level is
  where
    first : (a b : Bool) → (a || b) ≡ false → a ≡ false
    first true b is = absurd (cc)
    first false b is = refl

    by : (level : ℕ) → list_any (λ (w : Expect). test w.address) (visited_from level sup stored v) ≡ false → test v.address ≡ false
    by zero is = first (test v.address) false is
    by (suc level) is = first (test v.address) _ is

alike_of : (a b : Live) → HasSame a b → are_alike a b ≡ true
alike_of a b same = rw (same.tree, same.address, same.level, same.generation, same.first) (alike_itself b)

module _ (pairs : Pairs) (marked : Marks) (touched moved : ℕ → Bool) (under : Under) (shared : Live → Bool) (sup : Super) (old new : Stored)
    (before root : Expect) (of_tree : root.tree ≡ before.tree) (stands : Stands pairs sup old before)
    (marks : AreMarked marked touched sup old before)
    (alike : AreUntouched touched moved old new) (tells : TellsShared shared (kept_of pairs marked moved under) sup new root) where
  abbrev K : Expect → Option Key
  K = kept_of pairs marked moved under

  -- the new block is kept, as the pair of a live block has it
  record Kept (w : Expect) : Type 0 where
    live : Live
    free : marked w.tree w.address ≡ false
    still : moved w.address ≡ false
    known : pairs w.tree w.address ≡ Some live
    same : is_same w live ≡ true

  kept_if : (w : Expect) → is_some (K w) ≡ true → Kept w
  unfolding kept_of
  kept_if w kept = by (K w) refl kept
    where
      by : (k : Option Key) → K w ≡ k → is_some k ≡ true → Kept w
      by None is kept = absurd (cc)
      by (Some last) is kept =
          let f = found w (under w.tree w.address) last (marked w.tree w.address || moved w.address) (pairs w.tree w.address) is in
          let free = neither (marked w.tree w.address) (moved w.address) f.free in
          record { live = f.live; free = free.0; still = free.1; known = f.known; same = f.same }

  -- an old block with the same as a shared pair, and the same stored at its address
  abbrev Was : Live → Expect → Type 0
  Was live v = HasSame live (live_at sup old v) × (new v.address ≡ old v.address)

  was_block : (live : Live) (w : Expect) → HasSame live (live_at sup new w) → (k : Kept w) (v : Expect)
      → marked v.tree v.address ≡ comes_to touched sup old v → IsKnown sup old w.tree w.address k.live v → Was live v
  was_block live w near k v mark known =
      let free : touched v.address ≡ false =
      passes_here touched sup old v (sym mark ∙ (ap (λ t. marked t v.address) known.tree_is ∙ (ap (marked w.tree) known.address_is ∙ k.free))) in
      let stays : new v.address ≡ old v.address = alike v.address free (ap moved known.address_is ∙ k.still) in
      let same : is_same w (live_at sup old v) ≡ true = subst (λ l. is_same w l ≡ true) known.live_is k.same in
      let parts = and_parts (w.level == v.level && w.generation == v.generation) (is_first (live_at sup old v) w.low w.high) same in
      let two = and_parts (w.level == v.level) (w.generation == v.generation) parts.0 in
      let bytes : new w.address ≡ old v.address = ap new (sym known.address_is) ∙ stays in (
        record {
          tree = near.tree ∙ sym known.tree_is;
          address = near.address ∙ sym known.address_is;
          level = near.level ∙ eqb-true w.level v.level two.0;
          generation = near.generation ∙ eqb-true w.generation v.generation two.1;
          first = near.first ∙ ap first_in bytes;
        },
        stays,
      )

  some_at : (entry : Option Live) (live : Live) (P : Live → Type 0) → entry ≡ Some live → IfSome entry P → P live
  some_at None live P is has = absurd (cc)
  some_at (Some one) live P is has = let same : one ≡ live = cc in subst P same has

  one_was : (live : Live) → live.tree ≡ root.tree → shared live ≡ true → OneOf (Was live) (visited sup old before)
  one_was live at is =
      let Near = λ (w : Expect). are_alike live (live_at sup new w) ≡ true in
      let Is = λ (w : Expect). is_some (K w) ≡ shared (live_at sup new w) in
      let one = one_with Is Near (visited sup new root) tells.kept_is.each (tells.both live at is) in
      let w = one.0 in
      let near = has_same live (live_at sup new w) one.2 in
      let kept : is_some (K w) ≡ true = one.1 ∙ (sym (tells.alike live (live_at sup new w) one.2) ∙ is) in
      let k = kept_if w kept in
      let tree : w.tree ≡ before.tree = sym near.tree ∙ (at ∙ of_tree) in
      let entry : pairs before.tree w.address ≡ Some k.live = subst (λ t. pairs t w.address ≡ Some k.live) tree k.known in
      let there : OneOf (IsKnown sup old before.tree w.address k.live) (visited sup old before) =
      some_at (pairs before.tree w.address) k.live (λ l. OneOf (IsKnown sup old before.tree w.address l) (visited sup old before))
      entry (stands.only w.address) in
      let here : OneOf (IsKnown sup old w.tree w.address k.live) (visited sup old before) =
      subst (λ t. OneOf (IsKnown sup old t w.address k.live) (visited sup old before)) (sym tree) there in
      one_map (λ v. marked v.tree v.address ≡ comes_to touched sup old v) (IsKnown sup old w.tree w.address k.live) (Was live)
      (visited sup old before)
      marks.each (was_block live w near k) here

pub knows_shared : KnownSharedLaw
knows_shared pairs marked touched moved under shared sup old new before root of_tree stands marks alike tells =
    let was = one_was pairs marked touched moved under shared sup old new before root of_tree stands marks alike tells in
    let W = Was pairs marked touched moved under shared sup old new before root of_tree stands marks alike tells in
    record {
      alike = tells.alike;
      was = λ live at is.
          one_map (λ v. v ≡ v) (W live) (λ v. are_alike live (live_at sup old v) ≡ true) (visited sup old before) (all_same (visited sup old before))
          (λ v same has. alike_of live (live_at sup old v) has.0) (was live at is);
      is = tells.both;
      stays = λ live at is. stays live (one_with (λ v. v ≡ v) (W live) (visited sup old before) (all_same (visited sup old before)) (was live at is));
    }
  where
    all_same : (es : List Expect) → AllByRecursion (λ v. v ≡ v) es
    all_same [] = tt
    all_same (e ∷ es) = (refl, all_same es)

    stays : (live : Live) → (v : Expect) × (v ≡ v) × (HasSame live (live_at sup old v) × (new v.address ≡ old v.address))
        → new live.address ≡ old live.address
    stays live one = subst (λ a. new a ≡ old a) (sym one.2.0.address) one.2.1
