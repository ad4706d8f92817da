-- Entries of a table by their indices.
use Rattle.std.proofs.Common.{◌≡◌, ℕ, Bool, true, false, cond, List, [], ◌∷◌, zero, suc, refl, ap, sym, ◌∙◌, subst}
use Rattle.std.specs.Prelude.{Option, Some, None, IsSome, IfSome, slice_get}
use Rattle.std.specs.Cmp.{IsEquivalence}
use Rattle.std.specs.List.{AllByRecursion, IsDistinct}
use Rattle.std.specs.Option.{option_copied_mut, option_map}
use Rattle.std.specs.Borrow.{MutBor}
use Rattle.std.specs.Map.{keys_of, lookup, lookup_key, values_of}
use Rattle.std.proofs.lemmas.Map.Keys.{IsDistinct-head, IsDistinct-tail}
use Rattle.std.proofs.lemmas.Map.Made.{lookup_key_passes}
use Rattle.std.proofs.lemmas.Option.{slice_get-map}
use Rattle.indexmap.proofs.CallerLemmas.{keys-with_value_at}
use Rattle.indexmap.specs.IndexMap.{IndexMap, IsUnique, Updates, keys, values, with_value_at}
use Rattle.indexmap.specs.Layout.{set_value_at}
use Rattle.ledger_maps.specs.Entries.{StandsAt, by_key}

-- an entry at an index that a key finds
pub stands : {K T S : Type 0} (same : K → K → Bool) (m : IndexMap K T S) (i : ℕ) (k : K) (v : T) → slice_get m.entries i ≡ Some (k, v)
    → by_key same m k ≡ Some v → StandsAt same m i k
stands {K = K} {T = T} same m i k v at found =
    let value : slice_get (values_of m.entries) i ≡ Some v = slice_get-map (λ e. e.1) m.entries i ∙ ap (option_map (λ (e : K × T). e.1)) at in
    record {
      key = slice_get-map (λ e. e.0) m.entries i ∙ ap (option_map (λ (e : K × T). e.0)) at;
      value = value ∙ sym found;
      there = subst IsSome (sym value) refl;
    }

-- the same by what a search for the key says
pub stands_found : {K T S : Type 0} (same : K → K → Bool) → ((a b : K) → same a b ≡ true → a ≡ b) → (m : IndexMap K T S) (i : ℕ) (key k : K) (v : T)
    → slice_get m.entries i ≡ Some (k, v) → Some k ≡ lookup_key (same key) m.entries → Some v ≡ by_key same m key → StandsAt same m i key
stands_found same exact m i key k v at by found =
    let is : key ≡ k = exact key k (lookup_key_passes (same key) m.entries k (sym by)) in
    stands same m i key v (at ∙ ap (λ y. Some (y, v)) (sym is)) (sym found)

-- a key is apart from the others
apart_at : {K : Type 0} (same : K → K → Bool) (k : K) (ks : List K) (i : ℕ) (l : K) → AllByRecursion (λ y. same k y ≡ false) ks → slice_get ks i ≡ Some l → same k l ≡ false
apart_at same k [] i l apart at = absurd (cc at)
apart_at same k (x ∷ xs) zero l apart at = let e : x ≡ l = cc at in subst (λ y. same k y ≡ false) e apart.0
apart_at same k (x ∷ xs) (suc i) l apart at = apart_at same k xs i l apart.1 at

module _ {K T : Type 0} (same : K → K → Bool) (laws : IsEquivalence same) where
  here_case : (a b : Bool) (w v rest : Option T) → a ≡ b → cond a w rest ≡ cond b w (cond a v rest)
  here_case true true w v rest is = refl
  here_case true false w v rest is = absurd (cc is)
  here_case false true w v rest is = absurd (cc is)
  here_case false false w v rest is = refl

  later_case : (a b : Bool) (w v rest rest' : Option T) → (a ≡ true → b ≡ false) → rest' ≡ cond b w rest → cond a v rest' ≡ cond b w (cond a v rest)
  later_case true true w v rest rest' apart is = absurd (cc (apart refl))
  later_case true false w v rest rest' apart is = refl
  later_case false b w v rest rest' apart is = is

  -- what another value at an index says under each key
  pub set_at : (es : List (K × T)) (i : ℕ) (k : K) (w : T) (q : K) → IsDistinct same (keys_of es) → slice_get (keys_of es) i ≡ Some k
      → lookup (same q) (set_value_at es i w) ≡ cond (same k q) (Some w) (lookup (same q) es)
  set_at [] i k w q distinct at = absurd (cc at)
  set_at (e ∷ es) zero k w q distinct at =
      let e0 : e.0 ≡ k = cc at in
      here_case (same q e.0) (same k q) (Some w) (Some e.1) (lookup (same q) es) (laws.symm q e.0 ∙ ap (λ y. same y q) e0)
  set_at (e ∷ es) (suc i) k w q distinct at =
      let apart : same e.0 k ≡ false = apart_at same e.0 (keys_of es) i k (IsDistinct-head same e.0 (keys_of es) distinct) at in
      later_case (same q e.0) (same k q) (Some w) (Some e.1) (lookup (same q) es) (lookup (same q) (set_value_at es i w))
      (λ is. laws.symm k q ∙ laws.congr q e.0 k is ∙ apart)
      (set_at es i k w q (IsDistinct-tail same e.0 (keys_of es) distinct) at)

  pub put_at : {S : Type 0} (m : IndexMap K T S) (i : ℕ) (k : K) (w : T) → IsUnique same m → StandsAt same m i k
      → (q : K) → by_key same (with_value_at m i w) q ≡ cond (same k q) (Some w) (by_key same m q)
  put_at m i k w unique is q = set_at m.entries i k w q unique is.key

  -- the same where a map that is the same one comes between
  pub put_after : {S : Type 0} (m m' : IndexMap K T S) (i : ℕ) (k : K) (w : T) → m' ≡ m → IsUnique same m' → StandsAt same m i k
      → (q : K) → by_key same (with_value_at m' i w) q ≡ cond (same k q) (Some w) (by_key same m q)
  put_after m m' i k w stay unique is q =
      put_at m' i k w unique (subst (λ n. StandsAt same n i k) (sym stay) is) q ∙ ap (λ n. cond (same k q) (Some w) (by_key same n q)) stay

  gone_case : (s : Bool) (w x y z : Option T) → x ≡ cond s None y → y ≡ cond s w z → x ≡ cond s None z
  gone_case true w x y z is put = is
  gone_case false w x y z is put = is ∙ put

  -- and then the entry goes
  gone_after : {S : Type 0} (m m' n : IndexMap K T S) (i : ℕ) (k : K) (w : T) → m' ≡ m → IsUnique same m' → StandsAt same m i k
      → ((q : K) → by_key same n q ≡ cond (same k q) None (by_key same (with_value_at m' i w) q))
      → (q : K) → by_key same n q ≡ cond (same k q) None (by_key same m q)
  gone_after m m' n i k w stay unique is gone q =
      gone_case (same k q) (Some w) (by_key same n q) (by_key same (with_value_at m' i w) q) (by_key same m q) (gone q) (put_after m m' i k w stay unique is q)

  -- an entry that goes by its index goes by its key
  gone_at : {S : Type 0} (m n : IndexMap K T S) (i : ℕ) (k : K) (r : Option (K × T)) → r ≡ slice_get m.entries i → slice_get (keys m) i ≡ Some k
      → IfSome r (λ p. Updates same m n p.0 None) → (q : K) → by_key same n q ≡ cond (same k q) None (by_key same m q)
  gone_at m n i k None at key gone q =
      let is : None ≡ Some k = ap (option_map (λ (e : K × T). e.0)) at ∙ sym (slice_get-map (λ e. e.0) m.entries i) ∙ key in absurd (cc is)
  gone_at m n i k (Some p) at key gone q =
      let is : Some p.0 ≡ Some k = ap (option_map (λ (e : K × T). e.0)) at ∙ sym (slice_get-map (λ e. e.0) m.entries i) ∙ key in
      let same_key : p.0 ≡ k = cc is in
      gone.0 q ∙ ap (λ y. cond (same y q) None (by_key same m q)) same_key

  pub gone_placed : {S : Type 0} (m m' n : IndexMap K T S) (i : ℕ) (k : K) (w : T) (r : Option (K × T)) → m' ≡ m → IsUnique same m'
      → StandsAt same m i k → r ≡ slice_get (with_value_at m' i w).entries i → IfSome r (λ p. Updates same (with_value_at m' i w) n p.0 None)
      → (q : K) → by_key same n q ≡ cond (same k q) None (by_key same m q)
  gone_placed m m' n i k w r stay unique is at gone =
      gone_after m m' n i k w stay unique is
      (gone_at (with_value_at m' i w) n i k r at (ap (λ ks. slice_get ks i) (keys-with_value_at m' i w ∙ ap keys stay) ∙ is.key) gone)

-- what is kept at an index
pub kept_at : {K T S : Type 0} (same : K → K → Bool) (m m' : IndexMap K T S) (i : ℕ) (k : K) (r : Option (MutBor T)) (v : MutBor T)
    → m' ≡ m → StandsAt same m i k → r ≡ Some v → option_copied_mut r ≡ slice_get (values m') i → by_key same m k ≡ Some v.now
kept_at same m m' i k r v stay is got at =
    sym is.value ∙ ap (λ n. slice_get (values n) i) (sym stay) ∙ sym at ∙ ap option_copied_mut got
