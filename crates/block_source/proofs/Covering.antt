-- A copy that pending writes cover has their bytes, whatever the disk has there.
use Rattle.std.proofs.Common.{◌≡◌, ℕ, zero, suc, ◌+◌, ◌≤◌, ◌<◌, Bool, true, false, List, [], ◌∷◌, inl, inr, length, refl, ap, sym, subst, ◌∙◌, arith}
use Rattle.std.specs.Prelude.{Option, Some, None, IsTrue, IsSome, ◌↔◌, ◌&&◌, is_some}
use Rattle.std.specs.Option.{unwrap_or}
use Rattle.std.specs.Ordering.{nat_cmp}
use Rattle.std.specs.FinMap.{FinMap, get}
use Rattle.std.proofs.lemmas.Bool.{cases_lt}
use Rattle.verdict.proofs.Truth.{and_parts}
use Rattle.verdict.specs.Image.{range}
use Rattle.recon_disk.proofs.Undoing.{length-range}
use Rattle.write_cache.specs.Cache.{overlaid}
use Rattle.write_cache.proofs.CacheLaws.{range-overlaid_image}
use Rattle.block_source.specs.Counts.{cover}

-- the bytes from an offset on are covered where each is
all_there : (m : FinMap nat_cmp ℕ) (at n : ℕ) → ((i : ℕ) → at ≤ i → i < at + n → IsSome (get m i)) → cover m at n ≡ true
unfolding cover
all_there m at zero each = refl
all_there m at (suc n) each =
    let first : is_some (get m at) ≡ true = each at (omega arith) (omega arith) in
    let rest : cover m (at + 1) n ≡ true = all_there m (at + 1) n (λ i low high. each i (omega (arith, low)) (omega (arith, high))) in
    ap (λ b. b && cover m (at + 1) n) first ∙ rest

each_there : (m : FinMap nat_cmp ℕ) (at n : ℕ) → cover m at n ≡ true → (i : ℕ) → at ≤ i → i < at + n → IsSome (get m i)
unfolding cover
each_there m at zero all i low high = absurd (omega (arith, low, high))
each_there m at (suc n) all i low high =
    let parts = and_parts (is_some (get m at)) (cover m (at + 1) n) all in
    elim (cases_lt at i) [
      | inl above ↦ each_there m (at + 1) n parts.1 i (omega (arith, above)) (omega (arith, high))
      | inr here ↦ subst (λ j. is_some (get m j) ≡ true) (omega (arith, low, here)) parts.0
    ]

pub covers_is : (m : FinMap nat_cmp ℕ) (at n : ℕ) (b : Bool) → (IsTrue b ↔ ((i : ℕ) → at ≤ i → i < at + n → IsSome (get m i))) → b ≡ cover m at n
covers_is m at n true is = sym (all_there m at n (is.0 refl))
covers_is m at n false is = by (cover m at n) refl
  where
    by : (c : Bool) → cover m at n ≡ c → false ≡ cover m at n
    by true all = is.1 (each_there m at n all) ∙ sym all
    by false none = sym none

-- bytes are laid over others of the same length alike where all are covered
same_laid : (m : FinMap nat_cmp ℕ) (at : ℕ) (xs ys : List ℕ) → length ys ≡ length xs → cover m at (length xs) ≡ true → overlaid m at xs ≡ overlaid m at ys
unfolding overlaid cover
same_laid m at [] [] same all = refl
same_laid m at [] (y ∷ ys) same all = absurd (omega (arith, same))
same_laid m at (x ∷ xs) [] same all = absurd (omega (arith, same))
same_laid m at (x ∷ xs) (y ∷ ys) same all =
    let parts = and_parts (is_some (get m at)) (cover m (at + 1) (length xs)) all in
    ap (λ b. b ∷ overlaid m (at + 1) xs) (first (get m at) parts.0)
    ∙ ap (λ bs. unwrap_or (get m at) y ∷ bs) (same_laid m (at + 1) xs ys (omega (arith, same)) parts.1)
  where
    first : (o : Option ℕ) → is_some o ≡ true → unwrap_or o x ≡ unwrap_or o y
    first None is = absurd (cc)
    first (Some b) is = refl

-- covered bytes of an image need none of it
pub covered_range : (m : FinMap nat_cmp ℕ) (image xs : List ℕ) (at : ℕ) → cover m at (length xs) ≡ true → at + length xs ≤ length image
    → overlaid m at xs ≡ range at (length xs) (overlaid m 0 image)
covered_range m image xs at all inside =
    same_laid m at xs (range at (length xs) image) (length-range image at (length xs) inside) all
    ∙ sym (range-overlaid_image m image at (length xs))

-- what waits, where it is the same over any bytes, is the range of an image with it laid over
pub lent_range : (m : FinMap nat_cmp ℕ) (image lent : List ℕ) (at n : ℕ) → ((under : List ℕ) → length under ≡ n → overlaid m at under ≡ lent) → at + n ≤ length image
    → range at n (overlaid m 0 image) ≡ lent
lent_range m image lent at n each inside =
    range-overlaid_image m image at n ∙ each (range at n image) (length-range image at n inside)
