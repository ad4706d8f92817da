-- Lists of which any two are apart: those with the same members are the same up to order.
use Rattle.std.proofs.Common.{◌≡◌, inl, inr, List, [], ◌∷◌, sym, subst}
use Rattle.std.specs.List.{AllPairs, Contains, remove}
use Rattle.std.specs.List.Sorted.{IsPermutation}
use Rattle.std.proofs.lemmas.List.Sorted.{Contains-permutation, IsPermutation-cons, IsPermutation-refl, IsPermutation-remove, IsPermutation-sym, IsPermutation-trans}
use Rattle.change_records.proofs.Merge.{contains_first, contains_more, contains_none}
use Rattle.tree_change.proofs.Unordered.{permuted_pairs}
use Rattle.commit_laws.proofs.named_items.Alike.{contains_cases, pairs_head, pairs_tail}

module _ {X : Type 0} (Apart : X → X → Type 0) (turns : (a b : X) → Apart a b → Apart b a) (never : (a : X) → Apart a a → ⊥) where
  -- what is in the list behind one is not that one
  not_first : (x : X) (xs : List X) → AllPairs Apart (x ∷ xs) → (y : X) → Contains xs y → x ≡ y → ⊥
  not_first x xs all y has same = never y (subst (λ z. Apart z y) same (pairs_head Apart x xs all y has))

  -- what is in two lists with the same first member, where the second has it behind that one, is behind it in the first
  behind : (x : X) (xs ys : List X) → AllPairs Apart (x ∷ ys) → (y : X) → Contains ys y → Contains (x ∷ xs) y → Contains xs y
  behind x xs ys all y has among = elim (contains_cases x xs y among) [
    | inl here ↦ absurd (not_first x ys all y has here)
    | inr later ↦ later
  ]

  pub same_members : (ys xs : List X) → AllPairs Apart ys → AllPairs Apart xs → ((x : X) → Contains xs x → Contains ys x)
      → ((y : X) → Contains ys y → Contains xs y) → IsPermutation xs ys
  same_members [] [] apart also to back = IsPermutation-refl []
  same_members [] (x ∷ xs) apart also to back = absurd (contains_none x (to x (contains_first x xs)))
  same_members (y ∷ ys) xs apart also to back =
      IsPermutation-trans xs (y ∷ rest) (y ∷ ys) moved
      (IsPermutation-cons y rest ys (same_members ys rest (pairs_tail Apart y ys apart) (pairs_tail Apart y rest all) to_rest back_rest))
    where
      place : Contains xs y
      place = back y (contains_first y ys)

      rest : List X
      rest = remove xs place.0

      moved : IsPermutation xs (y ∷ rest)
      moved = IsPermutation-remove xs place.0 y place.1 (sym place.2)

      all : AllPairs Apart (y ∷ rest)
      all = permuted_pairs Apart turns xs (y ∷ rest) moved also

      to_rest : (z : X) → Contains rest z → Contains ys z
      to_rest z has =
          behind y ys rest all z has
          (to z (Contains-permutation (y ∷ rest) xs z (IsPermutation-sym xs (y ∷ rest) moved) (contains_more y rest z has)))

      back_rest : (z : X) → Contains ys z → Contains rest z
      back_rest z has = behind y rest ys apart z has (Contains-permutation xs (y ∷ rest) z moved (back z (contains_more y ys z has)))
