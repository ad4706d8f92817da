-- Lists that have the same elements in another order, and what is made of each.
use Rattle.std.proofs.Common.{◌≡◌, ℕ, zero, suc, ◌<◌, Bool, true, false, List, [], ◌∷◌, ◌++◌, length, map, refl, ap, sym, subst}
use Rattle.std.proofs.Common.{◌∙◌, arith, append_assoc, if◌then◌else◌, slice_index_or, slice_set}
use Rattle.std.proofs.lemmas.List.{length-map}
use Rattle.std.proofs.lemmas.List.Sorted.{IsPermutation-append_comm, IsPermutation-append_left, IsPermutation-append_right}
use Rattle.std.proofs.lemmas.List.Sorted.{IsPermutation-keeps, IsPermutation-refl, IsPermutation-trans}
use Rattle.std.specs.Prelude.{Option, Some, None}
use Rattle.std.specs.List.{filter, filter_map, flat_map, swap}
use Rattle.std.specs.List.Sorted.{IsPermutation, SwapsInRange, apply_swaps}
use Rattle.tree_change.proofs.RisenLists.{filter_permuted}
use Rattle.commit_laws.proofs.Elements.{swap_first}

-- two elements of a list change places, where a third is read past its end
abbrev exchanged : {X : Type 0} → X → List X → ℕ → ℕ → List X
exchanged d xs i j = slice_set (slice_set xs i (slice_index_or xs j d)) j (slice_index_or xs i d)

module _ {X Z : Type 0} (give : X → List Z) where
  set_flat : (v d : X) (xs : List X) (i : ℕ) → i < length xs
      → IsPermutation (give v ++ flat_map give xs) (give (slice_index_or xs i d) ++ flat_map give (slice_set xs i v))
  set_flat v d [] i less = absurd (omega arith)
  set_flat v d (x ∷ xs) zero less = swap_first (give v) (give x) (flat_map give xs)
  set_flat v d (x ∷ xs) (suc i) less =
      let at = slice_index_or xs i d in
      let after = flat_map give (slice_set xs i v) in
      IsPermutation-trans (give v ++ (give x ++ flat_map give xs)) (give x ++ (give v ++ flat_map give xs)) (give at ++ (give x ++ after))
      (swap_first (give v) (give x) (flat_map give xs))
      (IsPermutation-trans (give x ++ (give v ++ flat_map give xs)) (give x ++ (give at ++ after)) (give at ++ (give x ++ after))
      (IsPermutation-append_right (give x) (give v ++ flat_map give xs) (give at ++ after) (set_flat v d xs i (omega arith)))
      (swap_first (give x) (give at) after))

  exchanged_flat : (d : X) (xs : List X) (i j : ℕ) → i < length xs → j < length xs
      → IsPermutation (flat_map give xs) (flat_map give (exchanged d xs i j))
  exchanged_flat d [] i j p q = absurd (omega arith)
  exchanged_flat d (x ∷ xs) zero zero p q = IsPermutation-refl (give x ++ flat_map give xs)
  exchanged_flat d (x ∷ xs) zero (suc j) p q = set_flat x d xs j (omega arith)
  exchanged_flat d (x ∷ xs) (suc i) zero p q = set_flat x d xs i (omega arith)
  exchanged_flat d (x ∷ xs) (suc i) (suc j) p q =
      IsPermutation-append_right (give x) (flat_map give xs) (flat_map give (exchanged d xs i j)) (exchanged_flat d xs i j (omega arith) (omega arith))

  swap_flat : (xs : List X) (i j : ℕ) → i < length xs → j < length xs → IsPermutation (flat_map give xs) (flat_map give (swap xs i j))
  swap_flat [] i j p q = absurd (omega arith)
  swap_flat (x ∷ xs) i j p q = exchanged_flat x (x ∷ xs) i j p q

  -- what the elements give, in another order
  pub flat_permuted : (xs ys : List X) → IsPermutation xs ys → IsPermutation (flat_map give xs) (flat_map give ys)
  flat_permuted xs ys perm =
      IsPermutation-keeps xs (λ zs. IsPermutation (flat_map give xs) (flat_map give zs)) (IsPermutation-refl (flat_map give xs))
      (λ zs i j p q has.
      IsPermutation-trans (flat_map give xs) (flat_map give zs) (flat_map give (swap zs i j)) has (swap_flat zs i j p q))
      ys perm

  pub flat_append : (xs ys : List X) → flat_map give (xs ++ ys) ≡ flat_map give xs ++ flat_map give ys
  flat_append [] ys = refl
  flat_append (x ∷ xs) ys = ap (λ zs. give x ++ zs) (flat_append xs ys) ∙ sym (append_assoc (give x) (flat_map give xs) (flat_map give ys))

  -- lists that are alike where the giving does not see what differs give the same
  pub flat_alike : (alike : X → X) → ((x : X) → give (alike x) ≡ give x) → (xs ys : List X) → map alike xs ≡ map alike ys
      → flat_map give xs ≡ flat_map give ys
  flat_alike alike unseen xs ys same = sym (through xs) ∙ (ap (flat_map give) same ∙ through ys)
    where
      through : (zs : List X) → flat_map give (map alike zs) ≡ flat_map give zs
      through [] = refl
      through (z ∷ zs) = λ i. unseen z i ++ through zs i

-- each gives one part and then another
pub flat_parts : {X Z : Type 0} (one more : X → List Z) (xs : List X)
    → IsPermutation (flat_map (λ x. one x ++ more x) xs) (flat_map one xs ++ flat_map more xs)
flat_parts one more [] = IsPermutation-refl []
flat_parts one more (x ∷ xs) =
    let ones = flat_map one xs in
    let mores = flat_map more xs in
    let both = flat_map (λ y. one y ++ more y) xs in
    subst (λ left. IsPermutation left ((one x ++ ones) ++ (more x ++ mores))) (sym (append_assoc (one x) (more x) both))
    (subst (λ right. IsPermutation (one x ++ (more x ++ both)) right) (sym (append_assoc (one x) ones (more x ++ mores)))
    (IsPermutation-append_right (one x) (more x ++ both) (ones ++ (more x ++ mores))
    (IsPermutation-trans (more x ++ both) (more x ++ (ones ++ mores)) (ones ++ (more x ++ mores))
    (IsPermutation-append_right (more x) both (ones ++ mores) (flat_parts one more xs)) (swap_first (more x) ones mores))))

-- what filter_map gives, as lists
abbrev optional : {Z : Type 0} → Option Z → List Z
optional None = []
optional (Some z) = z ∷ []

module _ {X Z : Type 0} (give : X → Option Z) where
  as_flat : (xs : List X) → flat_map (λ x. optional (give x)) xs ≡ filter_map give xs
  as_flat [] = refl
  as_flat (x ∷ xs) = by (give x) refl (as_flat xs)
    where
      by : (z : Option Z) → give x ≡ z → flat_map (λ y. optional (give y)) xs ≡ filter_map give xs
          → flat_map (λ y. optional (give y)) (x ∷ xs) ≡ filter_map give (x ∷ xs)
      by None is rest = rw is rest
      by (Some z) is rest = rw is (ap (λ zs. z ∷ zs) rest)

  pub filter_map_permuted : (xs ys : List X) → IsPermutation xs ys → IsPermutation (filter_map give xs) (filter_map give ys)
  filter_map_permuted xs ys perm =
      subst (λ left. IsPermutation left (filter_map give ys)) (as_flat xs)
      (subst (λ right. IsPermutation (flat_map (λ x. optional (give x)) xs) right) (as_flat ys)
      (flat_permuted (λ x. optional (give x)) xs ys perm))

  pub filter_map_alike : (alike : X → X) → ((x : X) → give (alike x) ≡ give x) → (xs ys : List X) → map alike xs ≡ map alike ys
      → filter_map give xs ≡ filter_map give ys
  filter_map_alike alike unseen xs ys same =
      sym (as_flat xs) ∙ (flat_alike (λ x. optional (give x)) alike (λ x. ap optional (unseen x)) xs ys same ∙ as_flat ys)

-- ---- the same order for another list that is alike

module _ {X Y : Type 0} (f : X → Y) where
  map_set : (xs : List X) (i : ℕ) (v : X) → map f (slice_set xs i v) ≡ slice_set (map f xs) i (f v)
  map_set [] i v = refl
  map_set (x ∷ xs) zero v = refl
  map_set (x ∷ xs) (suc i) v = ap (λ ys. f x ∷ ys) (map_set xs i v)

  map_at : (xs : List X) (i : ℕ) (d : X) → f (slice_index_or xs i d) ≡ slice_index_or (map f xs) i (f d)
  map_at [] i d = refl
  map_at (x ∷ xs) zero d = refl
  map_at (x ∷ xs) (suc i) d = map_at xs i d

  map_swap : (xs : List X) (i j : ℕ) → map f (swap xs i j) ≡ swap (map f xs) i j
  map_swap [] i j = refl
  map_swap (x ∷ xs) i j =
      let first = slice_index_or (x ∷ xs) j x in
      map_set (slice_set (x ∷ xs) i first) j (slice_index_or (x ∷ xs) i x)
      ∙ (λ k. slice_set (map_set (x ∷ xs) i first k) j (map_at (x ∷ xs) i x k))
      ∙ (λ k. slice_set (slice_set (map f (x ∷ xs)) i (map_at (x ∷ xs) j x k)) j (slice_index_or (map f (x ∷ xs)) i (f x)))

  map_swaps : (xs : List X) (moves : List (ℕ × ℕ)) → map f (apply_swaps xs moves) ≡ apply_swaps (map f xs) moves
  map_swaps xs [] = refl
  map_swaps xs (move ∷ moves) = map_swap (apply_swaps xs moves) move.0 move.1 ∙ ap (λ ys. swap ys move.0 move.1) (map_swaps xs moves)

  -- a list that is alike to one, in the order of that one's other
  pub record Ordered (xs ys zs : List X) : Type 0 where
    pub list : List X
    pub perm : IsPermutation zs list
    pub alike : map f ys ≡ map f list

  pub ordered : (xs ys zs : List X) → IsPermutation xs ys → map f xs ≡ map f zs → Ordered xs ys zs
  ordered xs ys zs perm same =
      let long : length xs ≡ length zs = sym (length-map xs f) ∙ (ap length same ∙ length-map zs f) in
      record {
        list = apply_swaps zs perm.moves;
        perm = record { moves = perm.moves; below = subst (λ n. SwapsInRange n perm.moves) long perm.below; is = refl };
        alike = ap (map f) perm.is ∙ (map_swaps xs perm.moves ∙ (ap (λ ls. apply_swaps ls perm.moves) same ∙ sym (map_swaps zs perm.moves)));
      }
