-- Where the greatest key that was told last of a block stands among greatest keys by address.
use Rattle.std.proofs.Common.{◌≡◌, ℕ, zero, suc, ◌+◌, ◌-◌, ◌<◌, ◌≤◌, ◌==◌, Bool, true, false, not, ◌&&◌, leb, ltb, List, [], ◌∷◌, length, map, get_or, cond, inl, inr, ◌⊎◌, ap, refl, subst, sym, ◌∙◌, arith}
use Rattle.std.specs.Prelude.{if◌then◌else◌}
use Rattle.std.specs.List.{AllWithin, filter, fold}
use Rattle.std.specs.List.Sorted.{IsNonDecreasingBy, IsPartitionPoint, IsPartitionedBy, IsStableByKey, ties}
use Rattle.std.specs.Ordering.{is_lt, nat_cmp}
use Rattle.std.proofs.lemmas.Bool.{cases_lt, eq-eqb, leb-false, leb-true}
use Rattle.std.proofs.lemmas.Bool.Decides.{nat_tests}
use Rattle.std.proofs.lemmas.List.{get_or_default}
use Rattle.std.proofs.lemmas.List.Sorted.{IsPartitionedBy-leb}
use Rattle.verdict.specs.Rules.{no_key}
use Rattle.verdict.specs.declared.key.Key.{Key}
use Rattle.tree_laws.specs.declared.told.Ended.{Ended}
use Rattle.tree_change.specs.LastKeys.{key_at, last_key_of, with_key}
use Rattle.tree_change.specs.Walks.{last_at, with_last}
use Rattle.tree_change.specs.declared.lasts.LastKey.{LastKey}
use Rattle.tree_change.proofs.Merges.{start_before}

module _ (a : ℕ) where
  -- the blocks by their addresses alone tell the same
  told : (k : Key) (ended : List Ended) → fold (with_key a) k (map last_key_of ended) ≡ fold (with_last a) k ended
  told k [] = refl
  told k (one ∷ ended) = told (with_last a k one) ended

  -- keys of other blocks may be left out
  others_out : (p : LastKey → Bool) → ((one : LastKey) → p one ≡ false → (one.address == a) ≡ false) → (k : Key) (keys : List LastKey)
      → fold (with_key a) k (filter p keys) ≡ fold (with_key a) k keys
  others_out p other k [] = refl
  others_out p other k (one ∷ keys) = by (p one) refl (λ k. others_out p other k keys)
    where
      by : (b : Bool) → p one ≡ b → ((k : Key) → fold (with_key a) k (filter p keys) ≡ fold (with_key a) k keys)
          → fold (with_key a) k (cond b (one ∷ filter p keys) (filter p keys)) ≡ fold (with_key a) (with_key a k one) keys
      by true is rest = rest (with_key a k one)
      by false is rest = rest k ∙ sym (ap (λ b. fold (with_key a) (if b then one.key else k) keys) (other one is))

  -- what stands neither before nor behind an address has it
  tie_is : (b : ℕ) → (not (ltb a b) && not (ltb b a)) ≡ false → (b == a) ≡ false
  tie_is b h = grind (arith, nat_tests)

  -- a stable sort by address keeps the last of each
  sorted_alike : (keys sorted : List LastKey) → IsStableByKey (λ (one : LastKey). one.address) nat_cmp keys sorted → key_at sorted a ≡ key_at keys a
  sorted_alike keys sorted stable =
      sym (out sorted) ∙ ap (fold (with_key a) no_key) (stable (record { address = a; key = no_key })) ∙ out keys
    where
      p : LastKey → Bool
      p = ties (λ x y. is_lt (nat_cmp x.address y.address)) (record { address = a; key = no_key })

      out : (keys : List LastKey) → fold (with_key a) no_key (filter p keys) ≡ fold (with_key a) no_key keys
      out = others_out p
          (λ one h. tie_is one.address ((λ i. not (sym (start_before a one.address) i) && not (sym (start_before one.address a) i)) ∙ h)) no_key

  -- and so tells of each block what the walk told last
  pub key_sorted : (ended : List Ended) (keys sorted : List LastKey) → keys ≡ map last_key_of ended
      → IsStableByKey (λ (one : LastKey). one.address) nat_cmp keys sorted → key_at sorted a ≡ last_at ended a
  key_sorted ended keys sorted is stable = sorted_alike keys sorted stable ∙ ap (λ keys. key_at keys a) is ∙ told no_key ended

  -- no key is of the block
  none_at : (k : Key) (keys : List LastKey) → AllWithin (λ (one : LastKey). (one.address == a) ≡ false) keys 0 (length keys) → fold (with_key a) k keys ≡ k
  none_at k [] none = refl
  none_at k (one ∷ keys) none =
      ap (λ b. fold (with_key a) (if b then one.key else k) keys) (none 0 one (omega arith) (omega arith))
      ∙ none_at k keys (λ i d low high. none (suc i) d (omega arith) (omega arith))

  -- one is, and none behind it
  one_at : (k : Key) (keys : List LastKey) (i : ℕ) (d : LastKey) → i < length keys → (get_or keys i d).address ≡ a
      → AllWithin (λ (one : LastKey). (one.address == a) ≡ false) keys (i + 1) (length keys) → fold (with_key a) k keys ≡ (get_or keys i d).key
  one_at k [] i d inside is none = absurd (omega arith)
  one_at k (one ∷ keys) zero d inside is none =
      none_at (with_key a k one) keys (λ i d low high. none (suc i) d (omega arith) (omega arith))
      ∙ ap (λ b. if b then one.key else k) (eq-eqb one.address a is)
  one_at k (one ∷ keys) (suc i) d inside is none =
      one_at (with_key a k one) keys i d (omega arith) is (λ i d low high. none (suc i) d (omega arith) (omega arith))

  -- where a search by address ends
  pub parted_by : (lent keys : List LastKey) (count : ℕ) → lent ≡ keys → IsNonDecreasingBy (λ (one : LastKey). one.address) keys
      → (IsPartitionedBy (λ (one : LastKey). leb one.address a) lent
      → IsPartitionPoint (λ (one : LastKey). leb one.address a ≡ true) (λ (one : LastKey). leb one.address a ≡ false) lent count)
      → IsPartitionPoint (λ (one : LastKey). one.address ≤ a) (λ (one : LastKey). a < one.address) keys count
  parted_by lent keys count is rise ends =
      let at = ends (IsPartitionedBy-leb (λ (one : LastKey). one.address) lent a (subst (IsNonDecreasingBy (λ (one : LastKey). one.address)) (sym is) rise)) in
      subst (λ keys. IsPartitionPoint (λ (one : LastKey). one.address ≤ a) (λ (one : LastKey). a < one.address) keys count) is
      (λ i d low high. leb-true _ a (at.0 i d low high), λ i d low high. leb-false _ a (at.1 i d low high))

  -- an address that is greater or less is another
  above : (b : ℕ) → a < b → (b == a) ≡ false
  above b more = grind (arith, nat_tests)

  below : (b : ℕ) → b < a → (b == a) ≡ false
  below b less = grind (arith, nat_tests)

  module _ (keys : List LastKey) (count : ℕ) (inside : count ≤ length keys)
      (parted : IsPartitionPoint (λ (one : LastKey). one.address ≤ a) (λ (one : LastKey). a < one.address) keys count) where
    -- no block stands at the address or before it; the last of these has it; the last has another
    pub found_none : count ≡ 0 → key_at keys a ≡ no_key
    found_none none = none_at no_key keys (λ i d low high. above _ (parted.1 i d (omega arith) high))

    pub found_one : (d last : LastKey) → (count ≡ 0 → ⊥) → last ≡ get_or keys (count - 1) d → last.address ≡ a → key_at keys a ≡ last.key
    found_one d last some is same =
        one_at no_key keys (count - 1) d (omega arith) (ap (λ (one : LastKey). one.address) (sym is) ∙ same)
        (λ i d low high. above _ (parted.1 i d (omega arith) high))
        ∙ ap (λ (one : LastKey). one.key) (sym is)

    pub found_other : (d last : LastKey) → IsNonDecreasingBy (λ (one : LastKey). one.address) keys → (count ≡ 0 → ⊥)
        → last ≡ get_or keys (count - 1) d → (last.address ≡ a → ⊥) → key_at keys a ≡ no_key
    found_other d last rise some is other = none_at no_key keys (λ i e low high. apart i e high (cases_lt i count))
      where
        apart : (i : ℕ) (e : LastKey) → i < length keys → (i < count) ⊎ (count ≤ i) → ((get_or keys i e).address == a) ≡ false
        apart i e high (inl before) =
            let least = rise i (count - 1) e (omega arith) (omega arith) in
            let most = parted.0 (count - 1) e (omega arith) (omega arith) in
            let same = ap (λ (one : LastKey). one.address) (is ∙ get_or_default keys (count - 1) d e (omega arith)) in
            below _ (omega (arith, other))
        apart i e high (inr from) = above _ (parted.1 i e from high)
