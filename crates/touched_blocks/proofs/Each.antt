-- Marking pairs for one of a list after the other.
use Rattle.std.proofs.Common.{◌≡◌, ℕ, ◌+◌, ◌<◌, Bool, true, false, ◌&&◌, List, length, take, get_or, inl, inr, sym, ◌∙◌}
use Rattle.std.specs.Prelude.{Option}
use Rattle.std.specs.List.{list_any}
use Rattle.std.proofs.lemmas.List.Folds.{list_any_more}
use Rattle.verdict.proofs.Truth.{and_left, and_right, and_true, or_cases}
use Rattle.live_index.specs.Pairs.{Pairs}
use Rattle.touched_blocks.specs.Marking.{AreMarkedFrom}
use Rattle.touched_blocks.specs.Marks.{Marked}
use Rattle.touched_blocks.specs.OneTree.{in_chosen, is_chosen}
use Rattle.touched_blocks.proofs.Marking.{marked_none, marked_then}

-- the pairs of the trees that are chosen, at an address that passes a test and that one of a list has
abbrev pub any_has : {X : Type 0} → Option ℕ → (ℕ → X → Bool) → (ℕ → Bool) → List X → Marked
any_has only has passes xs tree address = is_chosen only tree && (list_any (has address) xs && passes address)

pub each_start : {X : Type 0} (pairs : Pairs) (only : Option ℕ) (has : ℕ → X → Bool) (passes : ℕ → Bool) (xs : List X) (old : Marked)
    → AreMarkedFrom pairs (any_has only has passes (take 0 xs)) (in_chosen only passes) old old
each_start pairs only has passes xs old =
    marked_none pairs (any_has only has passes (take 0 xs)) (in_chosen only passes) old (λ t a s. none a (and_right (is_chosen only t) _ s))
  where
    none : (a : ℕ) → (false && passes a) ≡ true → ⊥
    none a h = cc

pub each_more : {X : Type 0} (pairs : Pairs) (only : Option ℕ) (has : ℕ → X → Bool) (passes : ℕ → Bool) (xs : List X) (i : ℕ) (d : X) (old mid new : Marked)
    → AreMarkedFrom pairs (any_has only has passes (take i xs)) (in_chosen only passes) old mid → i < length xs
    → AreMarkedFrom pairs (in_chosen only (λ a. has a (get_or xs i d) && passes a)) (in_chosen only passes) mid new
    → AreMarkedFrom pairs (any_has only has passes (take (i + 1) xs)) (in_chosen only passes) old new
each_more pairs only has passes xs i d old mid new begun inside more =
    marked_then pairs (any_has only has passes (take i xs)) (in_chosen only passes) (in_chosen only (λ a. has a (get_or xs i d) && passes a)) (in_chosen only passes)
    (any_has only has passes (take (i + 1) xs)) (in_chosen only passes) old mid new begun more
    (λ t a small low s some.
    let is : is_chosen only t ≡ true = and_left _ (list_any (has a) (take (i + 1) xs) && passes a) s in
    let both : (list_any (has a) (take (i + 1) xs) && passes a) ≡ true = and_right (is_chosen only t) _ s in
    let pass : passes a ≡ true = and_right (list_any (has a) (take (i + 1) xs)) _ both in
    elim (or_cases _ _ (sym (list_any_more (has a) xs i d inside) ∙ and_left _ (passes a) both)) [
      | inl before ↦ inl (and_true _ _ is (and_true _ _ before pass))
      | inr here ↦ inr (and_true _ _ is (and_true _ _ here pass))
    ])
    (λ t a s. s) (λ t a s. s)
