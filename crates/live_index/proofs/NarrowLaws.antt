-- The ids and addresses of a table keep to 64 bits when a pair is added or goes away.
use Rattle.std.proofs.Common.{◌≡◌, ℕ, ◌<◌, ◌^◌, true, false, cond, ◌&&◌, refl, subst}
use Rattle.std.specs.Prelude.{◌==◌, Some, None, is_some}
use Rattle.std.proofs.lemmas.Bool.{eqb-true}
use Rattle.verdict.proofs.Truth.{and_left, and_right}
use Rattle.live_index.specs.declared.live.Live.{Live}
use Rattle.live_index.specs.Pairs.{AreNarrow, Pairs, with_pair, without_pair}

pub none_narrow : (p : Pairs) → ((t a : ℕ) → p t a ≡ None) → AreNarrow p
none_narrow p none t a is = absurd (let no : false ≡ true = subst (λ y. is_some y ≡ true) (none t a) is in cc)

pub narrow_with : (p : Pairs) (new : Live) → new.tree < 2 ^ 64 → new.address < 2 ^ 64 → AreNarrow p → AreNarrow (with_pair p new)
narrow_with p new tree address narrow t a is =
    elim (new.tree == t && new.address == a) as (λ b. (new.tree == t && new.address == a) ≡ b → is_some (cond b (Some new) (p t a)) ≡ true → (t < 2 ^ 64) × (a < 2 ^ 64)) [
      | true ↦ λ e f. (
        subst (λ n. n < 2 ^ 64) (eqb-true _ _ (and_left _ _ e)) tree,
        subst (λ n. n < 2 ^ 64) (eqb-true _ _ (and_right (new.tree == t) _ e)) address,
      )
      | false ↦ λ e f. narrow t a f
    ] refl is

pub narrow_without : (p : Pairs) (t' a' : ℕ) → AreNarrow p → AreNarrow (without_pair p t' a')
narrow_without p t' a' narrow t a is =
    elim (t' == t && a' == a) as (λ b. is_some (cond b None (p t a)) ≡ true → (t < 2 ^ 64) × (a < 2 ^ 64)) [
      | true ↦ λ f. absurd (cc)
      | false ↦ λ f. narrow t a f
    ] is
