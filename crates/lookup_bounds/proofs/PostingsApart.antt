-- Records of different trees and keys that are among others: what they give is no more than what those give.
use Rattle.std.proofs.Common.{◌≡◌, ◌≤◌, ◌⊎◌, inl, inr, List, [], ◌∷◌, ◌++◌, length, map, ap, sym, ◌∙◌, arith}
use Rattle.std.specs.List.{AllPairs, Contains, flat_map, remove}
use Rattle.std.specs.List.Sorted.{IsPermutation}
use Rattle.std.proofs.lemmas.List.{length-append}
use Rattle.std.proofs.lemmas.List.Elements.{Contains-append_cases, Contains-append_left}
use Rattle.std.proofs.lemmas.List.Sorted.{Contains-permutation, IsPermutation-remove, length_permutation}
use Rattle.change_records.specs.Spans.{StandApart}
use Rattle.change_records.proofs.Merge.{contains_first, contains_more, contains_none}
use Rattle.records.specs.Part.{Located}
use Rattle.tree_change.proofs.Unordered.{permuted_pairs}
use Rattle.commit_laws.specs.Paired.{anywhere}
use Rattle.commit_laws.proofs.named_items.Alike.{contains_cases, pairs_cons, pairs_head, pairs_tail}
use Rattle.commit_laws.proofs.named_items.Found.{apart_turns}
use Rattle.commit_laws.proofs.steps_between.Flat.{flat_permuted}

-- ---- members

-- what holds of the members of two lists holds of those of both together
pub of_both : {X : Type 0} (P : X → Type 0) (xs ys : List X) → ((x : X) → Contains xs x → P x) → ((y : X) → Contains ys y → P y)
    → (x : X) → Contains (xs ++ ys) x → P x
of_both P xs ys first more x has = elim (Contains-append_cases xs ys x has) [ inl here ↦ first x here | inr later ↦ more x later ]

heads : {X : Type 0} (x y : X) (xs ys : List X) → (x ∷ xs) ≡ (y ∷ ys) → (x ≡ y) × (xs ≡ ys)
heads x y xs ys same = (cc, cc)

-- ---- any two of a list

module _ {X : Type 0} (R : X → X → Type 0) where
  pub pairs_left : (xs ys : List X) → AllPairs R (xs ++ ys) → AllPairs R xs
  pairs_left [] ys all = λ i j d less within. absurd (omega (arith, within))
  pairs_left (x ∷ xs) ys all =
      pairs_cons R x xs (λ y has. pairs_head R x (xs ++ ys) all y (Contains-append_left xs ys y has))
      (pairs_left xs ys (pairs_tail R x (xs ++ ys) all))

  pub pairs_right : (xs ys : List X) → AllPairs R (xs ++ ys) → AllPairs R ys
  pairs_right [] ys all = all
  pairs_right (x ∷ xs) ys all = pairs_right xs ys (pairs_tail R x (xs ++ ys) all)

  pub pairs_joined : (xs ys : List X) → AllPairs R xs → AllPairs R ys → ((x y : X) → Contains xs x → Contains ys y → R x y)
      → AllPairs R (xs ++ ys)
  pairs_joined [] ys first more both = more
  pairs_joined (x ∷ xs) ys first more both =
      pairs_cons R x (xs ++ ys)
      (of_both (R x) xs ys (pairs_head R x xs first) (λ y has. both x y (contains_first x xs) has))
      (pairs_joined xs ys (pairs_tail R x xs first) more (λ a b has also. both a b (contains_more x xs a has) also))

-- ---- records that stand apart

-- records in another order, of which some are left out, stand apart as the first do
pub apart_part : (all some rest : List Located) → IsPermutation all (some ++ rest) → AllPairs StandApart all → AllPairs StandApart some
apart_part all some rest perm apart = pairs_left StandApart some rest (permuted_pairs StandApart apart_turns all (some ++ rest) perm apart)

-- a member of a list that is alike to another is alike to one of that
pub its_like : (xs ys : List Located) → map anywhere xs ≡ map anywhere ys → (y : Located) → Contains ys y
    → (x : Located) × Contains xs x × (anywhere x ≡ anywhere y)
its_like xs [] same y has = absurd (contains_none y has)
its_like [] (z ∷ ys) same y has = absurd (cc)
its_like (x ∷ xs) (z ∷ ys) same y has = by (contains_cases z ys y has) (its_like xs ys parts.1 y)
  where
    parts : (anywhere x ≡ anywhere z) × (map anywhere xs ≡ map anywhere ys)
    parts = heads (anywhere x) (anywhere z) (map anywhere xs) (map anywhere ys) same

    by : (z ≡ y) ⊎ Contains ys y → (Contains ys y → (w : Located) × Contains xs w × (anywhere w ≡ anywhere y))
        → (w : Located) × Contains (x ∷ xs) w × (anywhere w ≡ anywhere y)
    by (inl here) later = (x, contains_first x xs, parts.0 ∙ ap anywhere here)
    by (inr more) later = let found = later more in (found.0, contains_more x xs found.0 found.1, found.2)

-- two that are alike have one tree and one key
pub one_tree : (x y : Located) → anywhere x ≡ anywhere y → x.tree ≡ y.tree
one_tree x y same = ap (λ (z : Located). z.tree) same

pub one_key : (x y : Located) → anywhere x ≡ anywhere y → x.key ≡ y.key
one_key x y same = ap (λ (z : Located). z.key) same

-- records that are alike to some that stand apart stand apart
pub apart_alike : (xs ys : List Located) → map anywhere xs ≡ map anywhere ys → AllPairs StandApart xs → AllPairs StandApart ys
apart_alike xs [] same apart = λ i j d less within. absurd (omega (arith, within))
apart_alike [] (y ∷ ys) same apart = absurd (cc)
apart_alike (x ∷ xs) (y ∷ ys) same apart =
    let both = heads (anywhere x) (anywhere y) (map anywhere xs) (map anywhere ys) same in
    pairs_cons StandApart y ys
    (λ z has tree key.
    let other = its_like xs ys both.1 z has in
    pairs_head StandApart x xs apart other.0 other.1
    (one_tree x y both.0 ∙ tree ∙ sym (one_tree other.0 z other.2)) (one_key x y both.0 ∙ key ∙ sym (one_key other.0 z other.2)))
    (apart_alike xs ys both.1 (pairs_tail StandApart x xs apart))

-- ---- what they give

joined_less : {Z : Type 0} (one some rest whole : List Z) → length some ≤ length rest → length (one ++ rest) ≡ length whole
    → length (one ++ some) ≤ length whole
joined_less one some rest whole less long = omega (arith, less, long, length-append one some, length-append one rest)

-- records that stand apart and are among others give no more than those
pub no_more : {Z : Type 0} (give : Located → List Z) (xs ys : List Located) → AllPairs StandApart xs
    → ((x : Located) → Contains xs x → Contains ys x) → length (flat_map give xs) ≤ length (flat_map give ys)
no_more give [] ys apart among = omega arith
no_more {Z} give (x ∷ xs) ys apart among =
    joined_less (give x) (flat_map give xs) (flat_map give rest) (flat_map give ys) (no_more give xs rest (pairs_tail StandApart x xs apart) left)
    (length_permutation (flat_map give ys) (flat_map give (x ∷ rest)) (flat_permuted give ys (x ∷ rest) moved))
  where
    place : Contains ys x
    place = among x (contains_first x xs)

    rest : List Located
    rest = remove ys place.0

    moved : IsPermutation ys (x ∷ rest)
    moved = IsPermutation-remove ys place.0 x place.1 (sym place.2)

    left : (z : Located) → Contains xs z → Contains rest z
    left z has =
        let there : Contains (x ∷ rest) z = Contains-permutation ys (x ∷ rest) z moved (among z (contains_more x xs z has)) in
        elim (contains_cases x rest z there) [
          | inl here ↦ absurd (pairs_head StandApart x xs apart z has (ap (λ (r : Located). r.tree) here) (ap (λ (r : Located). r.key) here))
          | inr later ↦ later
        ]
